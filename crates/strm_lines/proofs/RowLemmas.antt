-- Rows keep their steps while chunks are added behind those that are there.
use Rattle.std.proofs.Common.{◌≡◌, ◌≤◌, suc, ℕ, All, List, [], ◌∷◌, ◌++◌, length, map, refl, sym, ap, ap₂, subst, ◌∙◌, arith}
use Rattle.std.proofs.lemmas.List.{map-append}
use Rattle.std.proofs.lemmas.List.Elements.{All-append, All-cons, All-nil}
use Rattle.strm_machine.specs.declared.short_steps.ShortStep.{ShortStep}
use Rattle.strm_machine.specs.declared.steps.Step.{Step}
use Rattle.strm_machine.specs.ShortSteps.{whole_step, IsStepPlaced}
use Rattle.strm_machine.proofs.ShortStepLemmas.{longer, step_more, step_stays}

module _ (cs more cs' : List (List ℕ)) (is : cs' ≡ cs ++ more) where
  -- all places are places of chunks, also of a row more
  pub placed_push : (rows rows' : List ShortStep) (row : ShortStep) → All (IsStepPlaced (length cs)) rows → rows' ≡ rows ++ row ∷ []
      → IsStepPlaced (length cs') row → All (IsStepPlaced (length cs')) rows'
  placed_push rows rows' row h is_rows here =
      let P = IsStepPlaced (length cs') in
      let le = subst (λ l. length cs ≤ length l) (sym is) (longer cs more) in
      let old : All P rows = λ k d l. step_stays (length cs) (length cs') _ le (h k d l) in
      subst (All P) (sym is_rows) (All-append P rows (row ∷ []) old (All-cons P row [] here (All-nil P)))

  -- the steps of rows stay as they are
  steps_more : (rows : List ShortStep) → All (IsStepPlaced (length cs)) rows → map (whole_step cs') rows ≡ map (whole_step cs) rows
  steps_more [] h = refl
  steps_more (row ∷ rows) h =
      ap₂ (λ (s : Step) ss. s ∷ ss) (ap (λ l. whole_step l row) is ∙ step_more cs more row (h 0 row (omega arith)))
      (steps_more rows (λ k d l. h (suc k) d (omega (arith, l))))

  -- the steps of a row more are those of before, and its own
  pub steps_push : (rows rows' : List ShortStep) (row : ShortStep) (step : Step) → All (IsStepPlaced (length cs)) rows → rows' ≡ rows ++ row ∷ []
      → whole_step cs' row ≡ step → map (whole_step cs') rows' ≡ map (whole_step cs) rows ++ step ∷ []
  steps_push rows rows' row step h is_rows s =
      ap (map (whole_step cs')) is_rows ∙ map-append (whole_step cs') rows (row ∷ [])
      ∙ ap₂ (λ (ss : List Step) one. ss ++ one ∷ []) (steps_more rows h) s
