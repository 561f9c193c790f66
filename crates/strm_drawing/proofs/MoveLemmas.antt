-- The rows of a step, and of what it moved.
use Rattle.std.proofs.Common.{◌≡◌, ℕ, zero, suc, ◌+◌, List, [], ◌∷◌, ◌++◌, map, sym, ap, ◌∙◌, arith}
use Rattle.std.specs.List.{flat_map, range_with_len}
use Rattle.std.proofs.lemmas.Grind.{flat_map-append}
use Rattle.std.proofs.lemmas.List.{append-nil, append_assoc, map-append}
use Rattle.strm_machine.specs.State.{State}
use Rattle.strm_machine.specs.declared.replies.Reply.{Reply}
use Rattle.strm_machine.specs.declared.steps.Step.{Step}
use Rattle.strm_drawing.specs.declared.arrows.Arrow.{Arrow}
use Rattle.strm_drawing.specs.declared.arrows.Row.{Row}
use Rattle.strm_drawing.specs.declared.arrows.Row.TheVariants as rows
use Rattle.strm_drawing.specs.declared.holders.Holders.{Holders}
use Rattle.strm_drawing.specs.declared.marks.Mark.{Mark}
use Rattle.strm_drawing.specs.declared.running.Seen.{Seen}
use Rattle.strm_drawing.specs.Marks.{mark_of}
use Rattle.strm_drawing.specs.Moves.{end_named_in, moves_on, rows_of_step}
use Rattle.strm_drawing.specs.Running.{WasSeen}

-- one number more
pub range_more : (a n : ℕ) → range_with_len a (n + 1) ≡ range_with_len a n ++ (a + n) ∷ []
range_more a zero = let e : a ≡ a + 0 = omega arith in ap (λ x. x ∷ []) e
range_more a (suc n) =
    let s : suc n + 1 ≡ suc (n + 1) = omega arith in
    let e : a + 1 + n ≡ a + suc n = omega arith in
    ap (range_with_len a) s ∙ ap (λ xs. a ∷ xs) (range_more (a + 1) n) ∙ ap (λ x. a ∷ (range_with_len (a + 1) n ++ x ∷ [])) e

-- the arrows on one stream more
pub arrows_more : (f : ℕ → List Arrow) (first k : ℕ) (start old new : List Row) → old ≡ start ++ map rows.Arrow (flat_map f (range_with_len first k)) → new ≡ old ++ map rows.Arrow (f (first + k)) → new ≡ start ++ map rows.Arrow (flat_map f (range_with_len first (k + 1)))
arrows_more f first k start old new e g =
    let xs = flat_map f (range_with_len first k) in
    g ∙ ap (λ zs. zs ++ map rows.Arrow (f (first + k))) e
    ∙ append_assoc start (map rows.Arrow xs) (map rows.Arrow (f (first + k)))
    ∙ ap (λ zs. start ++ zs)
    (sym (map-append rows.Arrow xs (f (first + k)))
    ∙ ap (map rows.Arrow) (ap (λ zs. xs ++ zs) (sym (append-nil (f (first + k)))) ∙ sym (flat_map-append f (range_with_len first k) ((first + k) ∷ [])) ∙ ap (flat_map f) (sym (range_more first k))))

module _ (all : List Holders) (before after : State) (step : Step) (reply : Reply) where
  -- the mark of a step, and the arrows behind it
  pub rows_kept_of_step : (seen : Seen) (mark : Mark) (a b c : List Row) → WasSeen before step seen → mark ≡ mark_of step seen.named reply → b ≡ a ++ rows.Mark mark ∷ [] → c ≡ b ++ map rows.Arrow (moves_on all before after seen.span) → c ≡ a ++ rows_of_step all before step reply after
  rows_kept_of_step seen mark a b c was m e f =
      f ∙ ap (λ zs. zs ++ map rows.Arrow (moves_on all before after seen.span)) e
      ∙ append_assoc a (rows.Mark mark ∷ []) (map rows.Arrow (moves_on all before after seen.span))
      ∙ ap (λ k. a ++ rows.Mark k ∷ map rows.Arrow (moves_on all before after seen.span)) (m ∙ ap (λ x. mark_of step x reply) was.named)
      ∙ ap (λ k. a ++ rows.Mark (mark_of step (end_named_in before step) reply) ∷ map rows.Arrow (moves_on all before after k)) was.span
