-- A resource table as a map: what holds of every table, and what each number has after a change. For
-- this crate and its callers.
use Rattle.std.proofs.Common.{◌≡◌, ℕ, ◌<◌, true, cond, ◌&&◌, List, length, get_or, Option, Some, None, is_some, refl, sym, ap, ◌∙◌, ⊎_elim, not}
use Rattle.std.proofs.lemmas.Bool.{true≢false, cases_lt}
use Rattle.std.proofs.lemmas.List.{get_or_past}
use Rattle.std.specs.Cmp.{unsigned_Decides, nat_eq_equiv}
use Rattle.std.specs.FinSet as set
use Rattle.std.specs.Prelude.{Result, Ok, Err, IfOk, OnOk, nat_eq, nat_lt, ◌↔◌, IsTrue}
use Rattle.strm_resources.specs.Nodes.{node_at}
use Rattle.strm_resources.specs.Links.{is_among}
use Rattle.strm_codes.specs.OptionalNumbers.{is_number}
use Rattle.strm_resources.specs.Entries.{Entries, value_at, parent_of, children_of, next_number, pushed}
use Rattle.strm_resources.specs.WellKept.{IsWellKept}
use Rattle.strm_resources.proofs.SlotLemmas.{slot-filled}
use Rattle.strm_resources.proofs.LinkLemmas.{next_inside, next_vacant, and-false}
use Rattle.strm_resources.proofs.TableLemmas.{alike_at, alike_length}

is_number-is : (o : Option ℕ) (number : ℕ) → is_number o number ≡ true → o ≡ Some number
is_number-is None number e = absurd (true≢false (sym e))
is_number-is (Some other) number e = ap Some ((unsigned_Decides other number).0 e)

-- a number with something is below the length
some_inside : {X : Type 0} (xs : List (Option X)) (number : ℕ) → is_some (get_or xs number None) ≡ true → number < length xs
some_inside xs number there =
    ⊎_elim (λ below. below) (λ above. absurd (true≢false (sym there ∙ ap is_some (get_or_past xs number None above)))) (cases_lt number (length xs))

module _ {V : Type 0} where
  module _ (e : Entries V) (well : IsWellKept e) where
    -- a number has a node exactly where it has a value
    pub node_where_value : (number : ℕ) → is_some (node_at e.nodes number) ≡ is_some (value_at e number)
    node_where_value number = sym (alike_at e.values e.nodes well.alike number)

    pub same_length : length e.values ≡ length e.nodes
    same_length = alike_length e.values e.nodes well.alike

    -- a child has its parent exactly where the parent has it
    pub parent_where_child : (child parent : ℕ) → IsTrue (set.contains (children_of e parent) child) ↔ (parent_of e child ≡ Some parent)
    parent_where_child child parent = (
      λ has. is_number-is (parent_of e child) parent (sym (well.kept.linked child parent) ∙ has),
      λ tied. well.kept.linked child parent ∙ ap (λ o. is_number o parent) tied ∙ nat_eq_equiv.refl parent,
    )

    -- a freed number has no value
    pub freed_has_none : (number : ℕ) → is_among e.freed number ≡ true → value_at e number ≡ None
    freed_has_none number among = by (value_at e number) refl
      where
        by : (o : Option V) → value_at e number ≡ o → o ≡ None
        by None found = refl
        by (Some value) found =
            let vacant = sym (well.kept.vacant number) ∙ among in
            let node = node_where_value number ∙ ap is_some found in
            absurd (true≢false (sym vacant ∙ ap (λ b. nat_lt number (length e.nodes) && not b) node ∙ and-false (nat_lt number (length e.nodes))))

    -- ---- the values after a change

    -- the number that is given next has no value
    pub next_has_none : value_at e (next_number e) ≡ None
    next_has_none = by (value_at e (next_number e)) refl
      where
        by : (o : Option V) → value_at e (next_number e) ≡ o → o ≡ None
        by None found = refl
        by (Some value) found =
            absurd (true≢false (sym (node_where_value (next_number e) ∙ ap is_some found) ∙ ap is_some (next_vacant e.nodes e.freed well.kept)))

    pub value_at-pushed : (value : V) (number : ℕ) → value_at (pushed e value) number ≡ cond (nat_eq number (next_number e)) (Some value) (value_at e number)
    value_at-pushed value number =
        let long = same_length in
        rw (← long) (slot-filled e.freed e.values number value (λ some. rw long (next_inside e.nodes e.freed well.kept some)))

    -- what a push answers leads to its value from then on
    pub value_at-new : {E : Type 0} (value : V) (after : Entries V) (r : Result ℕ E) → IfOk r (λ n. n ≡ next_number e) → OnOk r (after ≡ pushed e value) → IfOk r (λ n. value_at after n ≡ Some value)
    value_at-new value after (Ok n) number ok =
        rw (ok, number, value_at-pushed value (next_number e), nat_eq_equiv.refl (next_number e)) refl
    value_at-new value after (Err x) number ok = tt
