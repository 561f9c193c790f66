-- The counts of sets are those of the handles that are in them: after every change of the sets of a guest.
use Rattle.std.proofs.Common.{◌≡◌, ◌≢◌, ℕ, ◌+◌, ◌^◌, ◌<◌, ◌≤◌, zero, suc, Bool, true, false, cond, not, List, [], ◌∷◌, ◌++◌, length, map, set, get_or, Option, Some, None, is_some, refl, sym, ap, ◌∙◌, arith, ⊎_elim, inl, inr}
use Rattle.std.proofs.lemmas.Bool.{true≢false, cases_lt, lt-ltb, le-ltb}
use Rattle.std.proofs.Math.Seq.{map-set_same}
use Rattle.std.proofs.lemmas.List.{get_or-set_same, get_or-set_other, get_or_past, get_or_push, get_or_append_left, length-set, length-map, length_push}
use Rattle.std.specs.Cmp.{nat_eq_equiv, unsigned_Decides}
use Rattle.std.specs.List.{position_or_len}
use Rattle.std.specs.Prelude.{nat_eq}
use Rattle.strm_waitable_sets.specs.Homes.{home_at, homes_from, member_count, AreSameHomes}
use Rattle.strm_waitable_sets.specs.Sets.{Sets, is_member, set_placed, HasMember, HasNoMember, AreSetsKept}
use Rattle.strm_codes.specs.OptionalNumbers.{is_number}
use Rattle.strm_waitable_sets.specs.Slots.{Slot, slot_at, count_of_slot, set_count_at, AreSlotsTied}
use Rattle.strm_waitable_sets.proofs.HomeLemmas.{by_eq, get-seen, counts_as, count-set, count-left, count_some, count_none, some_counted}

-- ## Numbers

pub is_number-is : (o : Option ℕ) (number : ℕ) → is_number o number ≡ true → o ≡ Some number
is_number-is None number e = absurd (true≢false (sym e))
is_number-is (Some other) number e = ap Some ((unsigned_Decides other number).0 e)

pub eq-other : (a b : ℕ) → a ≢ b → nat_eq a b ≡ false
eq-other a b other = by_eq a b (λ t. t ≡ false) (λ same. absurd (other same)) (λ _. refl)

-- ## Slots

pub some_inside : (slots : List Slot) (number : ℕ) → is_some (slot_at slots number) ≡ true → number < length slots
some_inside slots number there =
    ⊎_elim (λ below. below) (λ above. absurd (true≢false (sym there ∙ ap is_some (get_or_past slots number None above)))) (cases_lt number (length slots))

-- a set that has a member is there
pub counted_there : (slot : Slot) → 0 < count_of_slot slot → is_some slot ≡ true
counted_there None some = absurd (omega (arith, some))
counted_there (Some members) some = refl

slot-set : (slots : List Slot) (at number : ℕ) (slot : Slot) → at < length slots → slot_at (set slots at slot) number ≡ cond (nat_eq number at) slot (slot_at slots number)
slot-set slots at number slot inside =
    by_eq number at (λ t. get_or (set slots at slot) number None ≡ cond t slot (get_or slots number None))
    (λ same. rw same (get_or-set_same slots at slot None inside))
    (λ apart. get_or-set_other slots at number slot None apart)

-- each number below has a set
abbrev pub AllThere : List Slot → ℕ → Type 0
AllThere slots number = (before : ℕ) → before < number → is_some (slot_at slots before) ≡ true

-- what sets have after a handle left its set, if it was in one, and after one joined this set
abbrev pub HasLeft : (old new : List Slot) → Option ℕ → Type 0
HasLeft old new home = (number : ℕ) → set_count_at new number + counts_as home number ≡ set_count_at old number

abbrev pub HasJoined : (old new : List Slot) → ℕ → Type 0
HasJoined old new set = (number : ℕ) → set_count_at new number ≡ set_count_at old number + counts_as (Some set) number

-- the same counts
abbrev pub HasSame : (old new : List Slot) → Type 0
HasSame old new = (number : ℕ) → set_count_at new number ≡ set_count_at old number

-- the count of the set that was changed, and those of the others
pub count-slot : (slots : List Slot) (at number : ℕ) (slot : Slot) → at < length slots → set_count_at (set slots at slot) number ≡ cond (nat_eq at number) (count_of_slot slot) (set_count_at slots number)
count-slot slots at number slot inside =
    ap count_of_slot (slot-set slots at number slot inside)
    ∙ ap (λ b. count_of_slot (cond b slot (slot_at slots number))) (nat_eq_equiv.symm number at)
    ∙ by (nat_eq at number)
  where
    by : (t : Bool) → count_of_slot (cond t slot (slot_at slots number)) ≡ cond t (count_of_slot slot) (set_count_at slots number)
    by true = refl
    by false = refl

-- ## What contracts see

-- the flag of a number
pub flag-at : (slots : List Slot) (number : ℕ) → get_or (map is_some slots) number false ≡ is_some (slot_at slots number)
flag-at [] number = refl
flag-at (slot ∷ slots) zero = refl
flag-at (slot ∷ slots) (suc number) = flag-at slots number

-- the sets as contracts see them
abbrev pub seen : List Slot → List (Option ℕ) → Sets
seen slots homes = record { there = map is_some slots; homes = homes_from 0 homes }

pub is_member-seen : (slots : List Slot) (homes : List (Option ℕ)) (number handle : ℕ) → is_member (seen slots homes) number handle ≡ is_number (home_at homes handle) number
is_member-seen slots homes number handle = ap (λ o. is_number o number) (get-seen homes handle)

pub flags-set : (slots : List Slot) (at : ℕ) (slot : Slot) → is_some slot ≡ is_some (slot_at slots at) → map is_some (set slots at slot) ≡ map is_some slots
flags-set slots at slot same = map-set_same is_some slots at slot None same

-- ## Changes

-- where the same numbers have sets, the hint stands
still_tied : (slots new : List Slot) (homes to : List (Option ℕ)) (hint : ℕ) → AreSlotsTied slots homes hint → map is_some new ≡ map is_some slots → length to ≤ 2 ^ 32 → ((number : ℕ) → set_count_at new number ≡ member_count to number) → AreSlotsTied new to hint
still_tied slots new homes to hint are flags few counted = record {
  counted = counted;
  few = few;
  inside = let same : length new ≡ length slots = sym (length-map new is_some) ∙ ap length flags ∙ length-map slots is_some in rw same are.inside;
  taken = λ number below. sym (flag-at new number) ∙ ap (λ bs. get_or bs number false) flags ∙ flag-at slots number ∙ are.taken number below;
}

module _ (slots : List Slot) (homes : List (Option ℕ)) (hint : ℕ) (are : AreSlotsTied slots homes hint) where
  -- places more
  pub tied_wider : (more : List (Option ℕ)) → AreSameHomes homes more → length more ≤ 2 ^ 32 → AreSlotsTied slots more hint
  tied_wider more same few = still_tied slots slots homes more hint are refl few (λ number. are.counted number ∙ sym (same.counts number))

  -- the set of a handle has a member
  pub home_counted : (handle number : ℕ) → is_number (home_at homes handle) number ≡ true → 0 < set_count_at slots number
  home_counted handle number in_it = let is = are.counted number in omega (arith, is, count_some homes handle number in_it)

  -- a handle leaves its set
  pub tied-left : (handle : ℕ) (new : List Slot) → map is_some new ≡ map is_some slots → HasLeft slots new (home_at homes handle) → AreSlotsTied new (set homes handle None) hint
  tied-left handle new flags less =
      still_tied slots new homes (set homes handle None) hint are flags (let few = are.few in omega (arith, few, length-set {A = Option ℕ} homes handle None)) (λ number.
      let is = are.counted number in
      let one = less number in
      let left = count-left homes handle number in
      omega (arith, is, one, left))

  -- a handle that has a place leaves its set, if it is in one, for another
  pub tied-joined : (handle to : ℕ) (less new : List Slot) → handle < length homes → map is_some new ≡ map is_some slots → HasLeft slots less (home_at homes handle) → HasJoined less new to → AreSlotsTied new (set homes handle (Some to)) hint
  tied-joined handle to less new inside flags left joined =
      still_tied slots new homes (set homes handle (Some to)) hint are flags (let few = are.few in omega (arith, few, length-set homes handle (Some to))) (λ number.
      let is = are.counted number in
      let one = left number in
      let other = joined number in
      let both = count-set homes handle number (Some to) inside in
      omega (arith, is, one, other, both))

  -- a set without members goes
  pub tied-emptied : (at to : ℕ) → at < length slots → to ≤ hint → to ≤ at → ((handle : ℕ) → is_number (home_at homes handle) at ≡ false) → AreSlotsTied (set slots at None) homes to
  tied-emptied at to inside less below none = record {
    counted = λ number. count-slot slots at number None inside ∙ by_eq at number (λ t. cond t 0 (set_count_at slots number) ≡ member_count homes number) (λ same. sym (count_none homes number (λ handle. ap (is_number (home_at homes handle)) (sym same) ∙ none handle))) (λ apart. are.counted number);
    few = are.few;
    inside = let hint_inside = are.inside in omega (arith, length-set slots at None, hint_inside, less);
    taken = λ number lower. ap is_some (slot-set slots at number None inside) ∙ ap (λ t. is_some (cond t None (slot_at slots number))) (eq-other number at (λ e. omega arith)) ∙ are.taken number (omega arith);
  }

  -- who is a member, by the count
  pub counted_member : (number : ℕ) → 0 < set_count_at slots number → HasMember (seen slots homes) number
  counted_member number some =
      let is = are.counted number in
      let one = some_counted homes number (omega (arith, is, some)) in
      record { handle = one.0; there = is_member-seen slots homes number one.0 ∙ one.1 }

  pub counted_none : (number : ℕ) → set_count_at slots number ≤ 0 → HasNoMember (seen slots homes) number
  counted_none number none = λ handle. is_member-seen slots homes number handle ∙ by handle (is_number (home_at homes handle) number) refl
    where
      by : (handle : ℕ) (t : Bool) → is_number (home_at homes handle) number ≡ t → t ≡ false
      by handle true e = absurd (let some = home_counted handle number e in omega (arith, some, none))
      by handle false e = refl

-- the least number without a set is the first that has none
pub free_first : (slots : List Slot) (number : ℕ) → number ≤ length slots → AllThere slots number → is_some (slot_at slots number) ≡ false → number ≡ position_or_len not (map is_some slots)
free_first [] number inside all none = omega arith
free_first (slot ∷ slots) zero inside all none = rw none refl
free_first (slot ∷ slots) (suc number) inside all none =
    let rest : number ≡ position_or_len not (map is_some slots) = free_first slots number (omega arith) (λ before below. all (suc before) (omega arith)) none in
    rw (all 0 (omega arith)) (omega (arith, rest))

-- the flags up to one that was placed
pub set_placed-length : (flags : List Bool) (number : ℕ) → number ≤ length flags → number < length (set_placed flags number)
set_placed-length flags number inside =
    elim (cases_lt number (length flags)) [
      | inl below ↦ rw (lt-ltb number (length flags) below) (omega (arith, length-set flags number true))
      | inr above ↦ rw (le-ltb number (length flags) above) (omega (arith, length_push flags true))
    ]

pub set_placed-at : (flags : List Bool) (number before : ℕ) → number ≤ length flags → (before < number → get_or flags before false ≡ true) → before < number + 1 → get_or (set_placed flags number) before false ≡ true
set_placed-at flags number before inside was below =
    elim (cases_lt number (length flags)) [
      | inl lower ↦ rw (lt-ltb number (length flags) lower) (by_eq before number (λ t. get_or (set flags number true) before false ≡ true) (λ same. rw same (get_or-set_same flags number true false lower)) (λ apart. get_or-set_other flags number before true false apart ∙ was (omega arith)))
      | inr above ↦ rw (le-ltb number (length flags) above) (by_eq before number (λ t. get_or (flags ++ true ∷ []) before false ≡ true) (λ same. get_or_push flags true false before (omega arith)) (λ apart. get_or_append_left flags (true ∷ []) false before (omega arith) ∙ was (omega arith)))
    ]

-- a set more, without members
pub tied-placed : (slots new : List Slot) (homes : List (Option ℕ)) (hint number : ℕ) → AreSlotsTied slots homes hint → number ≤ length slots → AllThere slots number → map is_some new ≡ set_placed (map is_some slots) number → HasSame slots new → AreSlotsTied new homes (number + 1)
tied-placed slots new homes hint number are inside all flags same =
    let long : number ≤ length (map is_some slots) = omega (arith, length-map slots is_some) in
    let more = set_placed-length (map is_some slots) number long in
    let new_long : length new ≡ length (set_placed (map is_some slots) number) = sym (length-map new is_some) ∙ ap length flags in
    record {
      counted = λ at. same at ∙ are.counted at;
      few = are.few;
      inside = omega (arith, more, new_long);
      taken = λ before below. sym (flag-at new before) ∙ ap (λ bs. get_or bs before false) flags ∙ set_placed-at (map is_some slots) number before long (λ lower. flag-at slots before ∙ all before lower) below;
    }

some_same : {a b : ℕ} → Some a ≡ Some b → a ≡ b
some_same e = cc e

-- the sets are kept
pub kept : (slots : List Slot) (homes : List (Option ℕ)) (hint : ℕ) → AreSlotsTied slots homes hint → AreSetsKept (seen slots homes)
kept slots homes hint are = record {
  one = λ handle a b in_a in_b. some_same (sym (is_number-is _ a in_a) ∙ is_number-is _ b in_b);
  there = λ handle number in_it.
      flag-at slots number ∙ counted_there (slot_at slots number)
      (home_counted slots homes hint are handle number (sym (is_member-seen slots homes number handle) ∙ in_it));
}
