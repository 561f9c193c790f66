-- Waitable sets of guests: how many they are after one was made or taken away, and whether one has a
-- member.
use Rattle.std.proofs.Common.{◌≡◌, ℕ, ◌+◌, ◌<◌, Bool, true, false, List, [], ◌∷◌, length, set, Result, Ok, Err, Option, Some, None, refl, sym, ap, ◌∙◌, arith}
use Rattle.std.specs.Prelude.{count_by, nat_eq, ◌||◌, IfOk, OnOk}
use Rattle.std.specs.List.{list_any}
use Rattle.std.specs.Cmp.{nat_eq_equiv}
use Rattle.std.proofs.lemmas.List.Sums.{sum_by-set}
use Rattle.strm_handles.specs.Handles.{Handles, entry_at, removed, live_of}
use Rattle.strm_handles.specs.Lookups.{waitable_set_rep_in, waitable_set_rep_of}
use Rattle.strm_handles.specs.declared.entries.Entry.{Entry}
use Rattle.strm_handles.specs.declared.entries.Entry.TheVariants as entries
use Rattle.strm_handles.proofs.HandleLemmas.{live_of-removed}
use Rattle.strm_waitable_sets.specs.Sets.{Sets, members, HasMember, HasNoMember}
use Rattle.strm_waitable_sets.proofs.SetLemmas.{among_members}
use Rattle.strm_machine.specs.State as machine
use Rattle.strm_machine.specs.State.{no_guest, sets_in}
use Rattle.strm_machine.specs.WaitableSets.{has_some}
use Rattle.strm_channels.specs.Guests.{sets_among}

abbrev pub how_many : List Bool → ℕ
how_many there = count_by (λ t. t) there

-- what a call that answered gives of its answer, from four facts
pub if_ok : {T E : Type 0} (r : Result T E) {P : T → Type 0} {Q R S : Type 0} {Z : T → Type 0} → ((v : T) → P v → Q → R → S → Z v) → IfOk r P → OnOk r Q → OnOk r R → OnOk r S → IfOk r Z
if_ok (Ok v) f p q r s = f v p q r s
if_ok (Err e) f p q r s = tt

-- ## How many sets there are

-- one set more of one guest is one more of all
pub sets_after : (guests : List machine.Guest) (g : ℕ) (y : machine.Guest) → g < length guests → how_many y.sets.there ≡ how_many (sets_in guests g).there + 1 → sets_among (set guests g y) ≡ sets_among guests + 1
sets_after guests g y l h = omega (arith, h, sum_by-set (λ (k : machine.Guest). how_many k.sets.there) guests g y no_guest l)

-- one set less of one guest is one less of all
pub sets_less : (guests : List machine.Guest) (g : ℕ) (y : machine.Guest) → g < length guests → how_many y.sets.there + 1 ≡ how_many (sets_in guests g).there → sets_among (set guests g y) + 1 ≡ sets_among guests
sets_less guests g y l h = omega (arith, h, sum_by-set (λ (k : machine.Guest). how_many k.sets.there) guests g y no_guest l)

-- ## Whether a set has a member

one_is_some : (xs : List ℕ) (k : ℕ) → list_any (nat_eq k) xs ≡ true → has_some xs ≡ true
one_is_some [] k e = cc
one_is_some (x ∷ xs) k e = refl

none_is_none : (xs : List ℕ) → ((k : ℕ) → list_any (nat_eq k) xs ≡ true → true ≡ false) → has_some xs ≡ false
none_is_none [] never = refl
none_is_none (x ∷ xs) never = never x (ap (λ t. t || list_any (nat_eq x) xs) (nat_eq_equiv.refl x))

-- a set is said to have a member just where there is one
pub said_is_some : (sets : Sets) (number : ℕ) (said : Bool) → (said ≡ true → HasMember sets number) → (said ≡ false → HasNoMember sets number) → said ≡ has_some (members sets number)
said_is_some sets number true some none = let one = some refl in sym (one_is_some (members sets number) one.handle (among_members sets number one.handle ∙ one.there))
said_is_some sets number false some none = sym (none_is_none (members sets number) (λ k e. sym e ∙ among_members sets number k ∙ none refl k))

-- ## A set's handle

-- a set's number stands for that set
set_entry : (o : Option Entry) (number : ℕ) → waitable_set_rep_in o ≡ Ok number → o ≡ Some (entries.WaitableSet number)
set_entry None number e = cc
set_entry (Some (entries.Stream end)) number e = cc
set_entry (Some (entries.Future end)) number e = cc
set_entry (Some (entries.ResourceOwn resource lends)) number e = cc
set_entry (Some (entries.ResourceBorrow resource scope)) number e = cc
set_entry (Some (entries.ErrorContext rep)) number e = cc
set_entry (Some (entries.Subtask rep is_host)) number e = cc
set_entry (Some (entries.WaitableSet rep)) number e = cc

-- a set's handle less is a live handle less
pub set_live : (handles : Handles) (n number : ℕ) → waitable_set_rep_of handles n ≡ Ok number → live_of (removed handles n) + 1 ≡ live_of handles
set_live handles n number e =
    omega (arith, live_of-removed handles n (entries.WaitableSet number) (set_entry (entry_at handles n) number e))
