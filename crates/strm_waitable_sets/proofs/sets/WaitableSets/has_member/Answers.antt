use Rattle.std.proofs.Common.{◌≡◌, ◌<◌, ℕ, Bool, List, true, false, None, Option, ap, sym, subst, ◌∙◌, arith, rules, inl, inr}
use Rattle.std.proofs.lemmas.Bool.{cases_lt, true≢false}
use Rattle.std.proofs.lemmas.List.{get_or_read}
use Rattle.std.specs.Prelude.{IsTrue, ◌↔◌, slice_index_or}
use Rattle.strm_waitable_sets.specs.Sets.{Sets, HasMember, HasNoMember, is_set_there}
use Rattle.strm_waitable_sets.specs.Slots.{Slot, count_of_slot, set_count_at, AreSlotsTied}
use Rattle.strm_waitable_sets.proofs.TieLemmas.{seen, flag-at, some_inside, counted_member, counted_none}
use Rattle.strm_waitable_sets.proofs.sets.WaitableSets.has_member.Goals as goal

module _ (slots : List Slot) (homes : List (Option ℕ)) (hint : ℕ) (now : Sets) (number : ℕ) (slot : Slot) (are : AreSlotsTied slots homes hint) (view : seen slots homes ≡ now) (there : is_set_there now number ≡ true) (at : slot ≡ slice_index_or slots number slot) where
  -- the count of the set
  its_count : count_of_slot slot ≡ set_count_at slots number
  its_count =
      let inside = some_inside slots number (sym (flag-at slots number) ∙ ap (λ v. is_set_there v number) view ∙ there) in
      ap count_of_slot (get_or_read slots number slot inside at None)

  when_some : (result : Bool) → (IsTrue result ↔ (0 < count_of_slot slot)) → result ≡ true → HasMember now number
  when_some result is e =
      let some : 0 < count_of_slot slot = is.0 (search rules) in
      subst (λ v. HasMember v number) view (counted_member slots homes hint are number (omega (arith, its_count, some)))

  when_none : (result : Bool) → (IsTrue result ↔ (0 < count_of_slot slot)) → result ≡ false → HasNoMember now number
  when_none result is e =
      elim (cases_lt 0 (count_of_slot slot)) [
        | inl some ↦ absurd (true≢false (search rules))
        | inr none ↦ subst (λ v. HasNoMember v number) view (counted_none slots homes hint are number (omega (arith, its_count, none)))
      ]

pub returns-clause-some : goal.returns-clause-some
returns-clause-some c =
    let s = c.self.inside in
    when_some s.sets.items s.homes.items s.hint c.args.self.now c.args.set c.index.result.now c.self.invariant c.self.view_is c.requires.there c.index.ensures c.has_member.result c.has_member.ensures

pub returns-clause-none : goal.returns-clause-none
returns-clause-none c =
    let s = c.self.inside in
    when_none s.sets.items s.homes.items s.hint c.args.self.now c.args.set c.index.result.now c.self.invariant c.self.view_is c.requires.there c.index.ensures c.has_member.result c.has_member.ensures
