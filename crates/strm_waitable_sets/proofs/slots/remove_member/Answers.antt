use Rattle.std.proofs.Common.{◌≡◌, ℕ, ◌<◌, true, List, Option, Some, None, ap, sym, ◌∙◌, arith}
use Rattle.std.proofs.lemmas.List.{get_or_read}
use Rattle.std.specs.Cmp.{nat_eq_equiv}
use Rattle.strm_codes.specs.OptionalNumbers.{is_number}
use Rattle.strm_waitable_sets.specs.Slots.{Slot, slot_at, count_of_slot, set_count_at}
use Rattle.strm_waitable_sets.proofs.TieLemmas.{counted_there, some_inside, flags-set}
use Rattle.strm_waitable_sets.proofs.slots.remove_member.Goals as goal

-- the set that was left has a member
has_some : (slots : List Slot) (home : Option ℕ) (set : ℕ) → ((number : ℕ) → is_number home number ≡ true → 0 < set_count_at slots number) → home ≡ Some set → 0 < set_count_at slots set
has_some slots home set some is = some set (ap (λ h. is_number h set) is ∙ nat_eq_equiv.refl set)

pub index_mut-requires : goal.index_mut-requires
index_mut-requires c =
    let slots = c.args.slots.now in
    let some = has_some slots.items c.args.home c.in-Some.set c.requires.some c.in-Some.is in
    let inside = some_inside slots.items c.in-Some.set (counted_there (slot_at slots.items c.in-Some.set) some) in
    omega (arith, inside, slots.ok)

pub overflow_sub-members : goal.overflow_sub-members
overflow_sub-members c =
    let slots = c.args.slots.now.items in
    let some = has_some slots c.args.home c.in-Some.set c.requires.some c.in-Some.is in
    let inside = some_inside slots c.in-Some.set (counted_there (slot_at slots c.in-Some.set) some) in
    let at = get_or_read slots c.in-Some.set c.index_mut.result.now inside c.index_mut.ensures.value None in
    let is : set_count_at slots c.in-Some.set ≡ c.in-Some-index_mut.members.count = ap count_of_slot (sym at ∙ c.in-Some-index_mut.is) in
    omega (arith, some, is)

pub returns-in-Some-index_mut-clause-flags : goal.returns-in-Some-index_mut-clause-flags
returns-in-Some-index_mut-clause-flags c =
    let slots = c.args.slots.now.items in
    let some = has_some slots c.args.home c.in-Some.set c.requires.some c.in-Some.is in
    flags-set slots c.in-Some.set _ (sym (counted_there (slot_at slots c.in-Some.set) some))
