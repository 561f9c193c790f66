-- What a caller of an insert has, by the tests that it made before.
use Rattle.std.proofs.Common.{◌≡◌, ◌≢◌, ℕ, ◌<◌, ◌≤◌, ◌↔◌, refl, ◌∙◌, arith, ⊎_elim, ◌⊎◌, inl, inr}
use Rattle.std.proofs.lemmas.Bool.{cases_lt}
use Rattle.std.proofs.lemmas.Bool.Decides.{nat_tests}
use Rattle.std.specs.Prelude.{Result, Ok, Err}
use Rattle.strm_handles.specs.declared.errors.HandleError.{HandleError}
use Rattle.strm_handles.specs.declared.errors.HandleError.TheVariants.{IndexOverflow, HandleLimit, OutOfMemory}
use Rattle.strm_handles.specs.Counters.{Counter, counted}
use Rattle.strm_handles.specs.Handles.{handle_limit, HandlesOf, TableOf, next_index, inserted}
use Rattle.strm_handles.specs.Changes.{insert_answer, Inserts}

memory_cases : (r : Result ℕ HandleError) → (r ≡ Err OutOfMemory) ⊎ (r ≢ Err OutOfMemory)
memory_cases (Ok n) = inr (λ e. cc)
memory_cases (Err OutOfMemory) = inl refl
memory_cases (Err _) = inr (λ e. cc)

module _ {E : Type 0} where
  -- the answers of an insert where memory is there, by their causes
  pub insert_answer-overflow : (h : HandlesOf E) (c : Counter) → handle_limit ≤ next_index h → insert_answer h c ≡ Err IndexOverflow
  insert_answer-overflow h c over = grind (arith, nat_tests)

  pub insert_answer-limit : (h : HandlesOf E) (c : Counter) → next_index h < handle_limit → c.limit ≤ c.live → insert_answer h c ≡ Err HandleLimit
  insert_answer-limit h c small full = grind (arith, nat_tests)

  pub insert_answer-ok : (h : HandlesOf E) (c : Counter) → next_index h < handle_limit → c.live < c.limit → insert_answer h c ≡ Ok (next_index h)
  insert_answer-ok h c small room = grind (arith, nat_tests)

  module _ {old new : TableOf E} {before after : Counter} {e : E} {result : Result ℕ HandleError} (i : Inserts old new before after e result) where
    refused_answer : (x : HandleError) → insert_answer old.handles before ≡ Err x → result ≡ Err x
    refused_answer x is =
        ⊎_elim (λ m. let last = rw is at (i.last m) in cc) (λ ne. i.answer ne ∙ is) (memory_cases result)

    -- each refusal comes exactly by its cause
    pub overflow_exactly : (result ≡ Err IndexOverflow) ↔ (handle_limit ≤ next_index old.handles)
    overflow_exactly = (
      (λ is.
          let answer = i.answer (λ m. cc) in
          ⊎_elim
          (λ small. ⊎_elim
          (λ below. let ok = insert_answer-ok old.handles before small below in cc)
          (λ full. let refused = insert_answer-limit old.handles before small full in cc)
          (cases_lt before.live before.limit))
          (λ over. over)
          (cases_lt (next_index old.handles) handle_limit)),
      (λ over. refused_answer IndexOverflow (insert_answer-overflow old.handles before over)),
    )

    pub limit_exactly : (result ≡ Err HandleLimit) ↔ ((next_index old.handles < handle_limit) × (before.limit ≤ before.live))
    limit_exactly = (
      (λ is.
          let answer = i.answer (λ m. cc) in
          ⊎_elim
          (λ small. ⊎_elim
          (λ below. let ok = insert_answer-ok old.handles before small below in cc)
          (λ full. (small, full))
          (cases_lt before.live before.limit))
          (λ over. let refused = insert_answer-overflow old.handles before over in cc)
          (cases_lt (next_index old.handles) handle_limit)),
      (λ p. refused_answer HandleLimit (insert_answer-limit old.handles before p.0 p.1)),
    )

    -- an insert that finds room, below both limits
    pub insert_gives : 0 < old.room → next_index old.handles < handle_limit → before.live < before.limit → (result ≡ Ok (next_index old.handles)) × (new.handles ≡ inserted old.handles e) × (after ≡ counted before)
    insert_gives room small below =
        let answer : result ≡ Ok (next_index old.handles) = i.answer (λ m. let none = i.memory m in absurd (omega arith)) ∙ insert_answer-ok old.handles before small below in
        (answer, rw answer at i.ok, rw answer at i.live)
