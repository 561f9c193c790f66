-- What is done to a waitable set, where nothing refuses it: a poll tells a member as an event does, and
-- all else changes one guest's table and sets alone.
use Rattle.std.proofs.Common.{◌≡◌, ◌≢◌, ℕ, ◌+◌, ◌<◌, ◌≤◌, Bool, true, false, cond, List, [], ◌∷◌, length, Option, Some, None, Ok, Err, refl, sym, ap, ◌∙◌, subst, inl, inr}
use Rattle.std.specs.Prelude.{◌||◌, is_ok, is_some, nat_eq, ◌==◌}
use Rattle.std.specs.Cmp.{nat_eq_equiv}
use Rattle.std.specs.List.{list_any}
use Rattle.std.proofs.lemmas.Bool.{cases_eq}
use Rattle.strm_codes.specs.declared.refusals.Refusal.TheVariants as refusals
use Rattle.strm_machine.specs.Words.{ReturnCode, Handles, Entry, Sets, removed, State, guest_in, sets_in, stream_at, is_end, end_of, report_on, told_end, end_named, stream_named, first_of, next_in, IsSound, HoldsSets, Make, Side, Name}
use Rattle.strm_handles.specs.Handles.{handle_limit, entry_at, next_index, inserted}
use Rattle.strm_handles.specs.Lookups.{end_rep_in, end_rep_of, waitable_set_rep_in}
use Rattle.strm_handles.specs.declared.entries.Entry.TheVariants as entries
use Rattle.strm_handles.proofs.HandleLemmas.{entry_at-next_index, entry_at-inserted-same, entry_at-inserted-other, entry_at-removed-same, entry_at-removed-other}
use Rattle.strm_waitable_sets.specs.Sets.{is_member, members, least_free, with_new_set, handle_joined, handle_left, without_set, HasMember, HasNoMember, IsLeastReady, NoneReady}
use Rattle.strm_waitable_sets.proofs.SetLemmas.{among_members, found_member, least_found, none_found}
use Rattle.strm_machine.specs.State.{handles_in_use, places_in_use}
use Rattle.strm_machine.specs.Endings.{delivered}
use Rattle.strm_machine.specs.Tests.{is_unknown_guest, is_no_handle, are_handles_full, are_places_full, side_named}
use Rattle.strm_machine.specs.Refusals.{where_, slot_reasons, joined_reasons, set_reasons, refusal}
use Rattle.strm_machine.specs.WaitableSets.{set_named, number_named, has_some, has_member, report_of_named, is_ready, ready_member, ready_in, sets_joined}
use Rattle.strm_machine.specs.Reactions.{makes, member_told, polls, on_set}
use Rattle.strm_machine.specs.Moments.{code_told, is_end_told}
use Rattle.strm_machine.specs.Soundness.{types_of}
use Rattle.strm_machine.specs.declared.acts.Making.TheVariants.{Set}
use Rattle.strm_machine.specs.declared.acts.SetAct.{SetAct}
use Rattle.strm_machine.specs.declared.acts.SetAct.TheVariants as set_acts
use Rattle.strm_machine.specs.declared.acts.Act.TheVariants.{OnSet}
use Rattle.strm_machine.specs.declared.replies.Reply.TheVariants as replies
use Rattle.strm_machine.proofs.RefusalLemmas.{not_refused, not_le, not_lt, none_of_both}
use Rattle.strm_machine.proofs.NamedEndLemmas.{is_end_on, entry_found, end_there}
use Rattle.strm_machine.proofs.SoundLemmas.{AreNamed-at, AreNamed-removed, AreNamed-inserted}
use Rattle.strm_machine.proofs.WaitableSetLemmas.{set_some, HoldsSets-left, HoldsSets-joined, HoldsSets-without, HoldsSets-given_set}
use Rattle.strm_machine.proofs.ErrorContextLemmas.{set_leads_nowhere, HoldsContexts-table, HoldsContexts-given, HoldsContexts-freed}
use Rattle.strm_machine.proofs.EndingLemmas.{Becomes, told-becomes}
use Rattle.strm_machine.proofs.Shapes.{Shape, BySetting, ByTable, ByRest, Known}
use Rattle.strm_machine.proofs.Ways.{delivered-from, Way, SetsOne, SetsNone}

-- ## What nothing refuses

-- a set that may be made
pub record SetFits (state : State) (g : ℕ) : Type 0 where
  pub there : g < length state.guests
  pub number : next_in state g < handle_limit
  pub handles : handles_in_use state + 1 ≤ state.limits.handles
  pub places : places_in_use state + 1 ≤ state.limits.places

pub set_fits : (state : State) (g : ℕ) → refusal state (Make (Set g)) ≡ None → SetFits state g
unfolding refusal
set_fits state g e =
    let guest = not_refused (is_unknown_guest state g) _ _ e in
    let number = not_refused (is_no_handle (next_in state g)) _ _ guest.1 in
    let handles = not_refused (are_handles_full state 1) _ _ number.1 in
    let places = not_refused (are_places_full state 1) _ _ handles.1 in
    record {
      there = not_le (length state.guests) g guest.0;
      number = not_le handle_limit _ number.0;
      handles = not_lt state.limits.handles (handles_in_use state + 1) handles.0;
      places = not_lt state.limits.places (places_in_use state + 1) places.0;
    }

-- something may be done to a set, as far as its guest goes
pub on_set_fits : (state : State) (g set : ℕ) (act : SetAct) → refusal state (OnSet g set act) ≡ None → (g < length state.guests) × (first_of (set_reasons state g set act) ≡ None)
unfolding refusal
on_set_fits state g set act e =
    let guest = not_refused (is_unknown_guest state g) _ _ e in (not_le (length state.guests) g guest.0, guest.1)

-- a handle of a set is one
pub set_found : (o : Option Entry) → first_of (slot_reasons (waitable_set_rep_in o)) ≡ None → waitable_set_rep_in o ≡ Ok (number_named (waitable_set_rep_in o))
set_found None e = cc
set_found (Some (entries.Stream end)) e = cc
set_found (Some (entries.Future end)) e = cc
set_found (Some (entries.ResourceOwn resource lends)) e = cc
set_found (Some (entries.ResourceBorrow resource scope)) e = cc
set_found (Some (entries.ErrorContext rep)) e = cc
set_found (Some (entries.Subtask rep is_host)) e = cc
set_found (Some (entries.WaitableSet rep)) e = refl

-- a set that may be dropped
pub record SetDropFits (state : State) (g set : ℕ) : Type 0 where
  pub named : set_named state g set ≡ Ok (number_named (set_named state g set))
  pub memberless : has_member state g (number_named (set_named state g set)) ≡ false

pub set_drop_fits : (state : State) (g set : ℕ) → first_of (set_reasons state g set set_acts.Drop) ≡ None → SetDropFits state g set
set_drop_fits state g set e =
    let both = none_of_both (slot_reasons (set_named state g set)) (where_ (has_member state g (number_named (set_named state g set))) refusals.SetNotEmpty ∷ []) e in
    let empty = not_refused (has_member state g (number_named (set_named state g set))) _ _ both.1 in
    record { named = set_found (entry_at (guest_in state.guests g).handles set) both.0; memberless = empty.0 }

-- ## A poll

-- an end that is ready is named
ready_named : (state : State) (name : Name) → is_some (report_of_named state name) ≡ true → is_ok name ≡ true
ready_named state (Ok answer) e = refl
ready_named state (Err error) e = cc

ready_report : (state : State) (name : Name) → is_some (report_of_named state name) ≡ true → is_some (report_on (side_named name) (stream_at state (stream_named name))) ≡ true
ready_report state (Ok answer) e = e
ready_report state (Err error) e = cc

-- the reply tells of that member
member_named : (state : State) (g handle : ℕ) (code : Option ReturnCode) → is_some code ≡ true → (k : ℕ) (other : Side) → is_end_told k other state g (replies.Member (member_told handle code)) ≡ is_end k other (end_named state g handle)
member_named state g handle None e k other = cc
member_named state g handle (Some code) e k other = refl

-- the member that is told is ready
pub ready_member-is : (state : State) (g number handle : ℕ) → ready_member state g number ≡ Some handle → (is_ready state g handle ≡ true) × (is_member (sets_in state.guests g) number handle ≡ true)
unfolding ready_member
ready_member-is state g number handle e = found_member (is_ready state g) (sets_in state.guests g) number handle e

-- what is told of a member is its code
told_code : (handle : ℕ) (code : Option ReturnCode) → code ≡ code_told (replies.Member (member_told handle code))
told_code handle None = refl
told_code handle (Some code) = refl

-- a poll of a set whose least ready member is this one is an event of that
pub polls-shape : (state : State) (g set : ℕ) (o : Option ℕ) → IsSound state → ready_in state g set ≡ o → Shape state (OnSet g set set_acts.Poll) (polls state g o)
unfolding delivered
polls-shape state g set None h e = ByRest (replies.Member None) refl refl
polls-shape state g set (Some handle) h e =
    let name = end_named state g handle in
    let s = stream_named name in
    let side = side_named name in
    let stream = stream_at state s in
    let code = report_on side stream in
    let ready = (ready_member-is state g (number_named (set_named state g set)) handle e).0 in
    let found = ready_named state name ready in
    BySetting (replies.Member (member_told handle code)) (record { stream = s; side = side; end = told_end code (end_of side stream) }) refl
    (record {
      made = end_there state g handle h found;
      named = λ k other. member_named state g handle code (ready_report state name ready) k other ∙ is_end_on k side other name found refl;
      becomes = subst (Becomes side stream (told_end code (end_of side stream))) (told_code handle code) (told-becomes side stream);
      untaken = λ report. refl;
    })

-- ## A set joined or left

module _ (state : State) (g set handle : ℕ) (h : IsSound state) (there : g < length state.guests) where
  abbrev table : Handles
  table = (guest_in state.guests g).handles

  abbrev sets : Sets
  sets = sets_in state.guests g

  -- set 0 is none, and any other is found
  joined_holds : (b : Bool) → first_of (cond b [] (slot_reasons (set_named state g set))) ≡ None → is_ok (end_rep_of table handle) ≡ true → HoldsSets table (cond b (handle_left sets handle) (handle_joined sets handle (number_named (set_named state g set))))
  joined_holds true e is = HoldsSets-left table sets (h.sets g) handle
  joined_holds false e is =
      let number = number_named (set_named state g set) in
      HoldsSets-joined table sets (h.sets g) handle number is ((h.sets g).there set number (set_found (entry_at table set) e))

  pub join-shape : first_of (set_reasons state g set (set_acts.Join handle)) ≡ None → Shape state (OnSet g set (set_acts.Join handle)) (on_set state g set (set_acts.Join handle))
  join-shape e =
      let both = none_of_both (joined_reasons state g set) (slot_reasons (end_named state g handle)) e in
      ByTable replies.Done (record { guest = g; handles = table; sets = sets_joined sets set (set_named state g set) handle; contexts = state.contexts }) refl
      (record {
        there = there;
        ends = λ k s side. refl;
        named = AreNamed-at (types_of state.streams) state.guests g h.named;
        holds = joined_holds (set == 0) both.0 (entry_found (entry_at table handle) both.1);
        counts = HoldsContexts-table state.guests state.contexts g (sets_joined sets set (set_named state g set) handle) h.contexts table (λ number. refl);
        untold = refl;
      })

-- ## A set made or dropped

-- a set is no end
set_unnamed : (s : ℕ) (side : Side) (o : Option Entry) (number : ℕ) → waitable_set_rep_in o ≡ Ok number → is_end s side (end_rep_in o) ≡ false
set_unnamed s side None number e = cc
set_unnamed s side (Some (entries.Stream end)) number e = cc
set_unnamed s side (Some (entries.Future end)) number e = cc
set_unnamed s side (Some (entries.ResourceOwn resource lends)) number e = cc
set_unnamed s side (Some (entries.ResourceBorrow resource scope)) number e = cc
set_unnamed s side (Some (entries.ErrorContext rep)) number e = cc
set_unnamed s side (Some (entries.Subtask rep is_host)) number e = cc
set_unnamed s side (Some (entries.WaitableSet rep)) number e = refl

-- where one number stood for no end and stands for none, handles name what they named
pub ends_stay : (old new : Handles) (n : ℕ) → ((i : ℕ) → i ≢ n → entry_at new i ≡ entry_at old i) → ((s : ℕ) (side : Side) → is_end s side (end_rep_of new n) ≡ is_end s side (end_rep_of old n)) → (k s : ℕ) (side : Side) → is_end s side (end_rep_of new k) ≡ is_end s side (end_rep_of old k)
ends_stay old new n same here k s side = elim (cases_eq k n) [
  | inl e ↦ ap (λ i. is_end s side (end_rep_of new i)) e ∙ here s side ∙ ap (λ i. is_end s side (end_rep_of old i)) (sym e)
  | inr ne ↦ ap (λ o. is_end s side (end_rep_in o)) (same k ne)
]

module _ (state : State) (g : ℕ) (h : IsSound state) where
  abbrev old : Handles
  old = (guest_in state.guests g).handles

  abbrev before : Sets
  before = sets_in state.guests g

  pub set_new-shape : SetFits state g → Shape state (Make (Set g)) (makes state (Set g))
  set_new-shape fits =
      let e = entries.WaitableSet (least_free before) in
      let new = inserted old e in
      let n = next_index old in
      let sound = (h.sets g).table in
      ByTable (replies.Number (next_in state g)) (record { guest = g; handles = new; sets = with_new_set before; contexts = state.contexts }) refl
      (record {
        there = fits.there;
        ends = ends_stay old new n (λ i ne. entry_at-inserted-other old e i ne)
            (λ s side. ap (λ o. is_end s side (end_rep_in o)) (entry_at-inserted-same old e sound) ∙ sym (ap (λ o. is_end s side (end_rep_in o)) (entry_at-next_index old sound)));
        named = AreNamed-inserted (types_of state.streams) old e tt (AreNamed-at (types_of state.streams) state.guests g h.named);
        holds = HoldsSets-given_set old before (h.sets g) e fits.number refl;
        counts = HoldsContexts-given state.guests state.contexts g (with_new_set before) h.contexts e sound (λ number. refl);
        untold = refl;
      })

  -- a set without members has none
  memberless : (number : ℕ) → has_member state g number ≡ false → (k : ℕ) → is_member before number k ≡ false
  memberless number e k = sym (among_members before number k) ∙ none (members before number) e
    where
      none : (xs : List ℕ) → has_some xs ≡ false → list_any (nat_eq k) xs ≡ false
      none [] e = refl
      none (x ∷ xs) e = cc

  pub set_drop-shape : (set : ℕ) → g < length state.guests → SetDropFits state g set → Shape state (OnSet g set set_acts.Drop) (on_set state g set set_acts.Drop)
  set_drop-shape set there fits =
      let number = number_named (set_named state g set) in
      let new = removed old set in
      let found = set_some (entry_at old set) number fits.named in
      ByTable replies.Done (record { guest = g; handles = new; sets = without_set before number; contexts = state.contexts }) refl
      (record {
        there = there;
        ends = ends_stay old new set (λ i ne. entry_at-removed-other old set i ne)
            (λ s side. ap (λ o. is_end s side (end_rep_in o)) (entry_at-removed-same old set) ∙ sym (set_unnamed s side (entry_at old set) number fits.named));
        named = AreNamed-removed (types_of state.streams) old set (AreNamed-at (types_of state.streams) state.guests g h.named);
        holds = HoldsSets-without old before (h.sets g) set number fits.named (memberless number fits.memberless);
        counts =
            HoldsContexts-freed state.guests state.contexts g (without_set before number) h.contexts set found.0 found.1
            (λ k. set_leads_nowhere k (Some found.0) number (ap waitable_set_rep_in (sym found.1) ∙ fits.named));
        untold = refl;
      })

-- ## Which member is ready, by what a poll of the sets answers

module _ (state : State) (g number : ℕ) where
  pub ready_member-least : (handle : ℕ) → IsLeastReady (λ n ready. is_ready state g n ≡ ready) (sets_in state.guests g) number handle → ready_member state g number ≡ Some handle
  unfolding ready_member
  ready_member-least handle least = least_found (is_ready state g) (sets_in state.guests g) number handle least

  pub ready_member-none : NoneReady (λ n ready. is_ready state g n ≡ ready) (sets_in state.guests g) number → ready_member state g number ≡ None
  unfolding ready_member
  ready_member-none none = none_found (is_ready state g) (sets_in state.guests g) number none

  -- a set has a member exactly where it is not empty
  pub has_member-some : HasMember (sets_in state.guests g) number → has_member state g number ≡ true
  has_member-some m = some (members (sets_in state.guests g) number) (among_members (sets_in state.guests g) number m.handle ∙ m.there)
    where
      some : (xs : List ℕ) → list_any (nat_eq m.handle) xs ≡ true → has_some xs ≡ true
      some [] e = cc
      some (x ∷ xs) e = refl

  pub has_member-none : HasNoMember (sets_in state.guests g) number → has_member state g number ≡ false
  has_member-none none = by (members (sets_in state.guests g) number) (λ k. among_members (sets_in state.guests g) number k ∙ none k)
    where
      by : (xs : List ℕ) → ((k : ℕ) → list_any (nat_eq k) xs ≡ false) → has_some xs ≡ false
      by [] e = refl
      by (x ∷ xs) e = absurd (let head : list_any (nat_eq x) (x ∷ xs) ≡ true = ap (λ b. b || list_any (nat_eq x) xs) (nat_eq_equiv.refl x) in let wrong : true ≡ false = sym head ∙ e x in cc)

-- ## All that is done to a set

polls-way : (state : State) (g set : ℕ) (o : Option ℕ) → Way state (OnSet g set set_acts.Poll) (polls state g o)
polls-way state g set None = SetsNone refl refl
polls-way state g set (Some handle) =
    let name = end_named state g handle in
    let stream = stream_at state (stream_named name) in
    SetsOne (stream_named name) (delivered (side_named name) stream) refl refl (delivered-from (side_named name) stream)

pub set-known : (state : State) (g set : ℕ) (act : SetAct) → Known state (OnSet g set act) (on_set state g set act)
set-known state g set (set_acts.Join handle) = record {
  way = SetsNone refl refl;
  shape = λ h e. let fits = on_set_fits state g set (set_acts.Join handle) e in join-shape state g set handle h fits.0 fits.1;
}
set-known state g set set_acts.Poll = record {
  way = polls-way state g set (ready_in state g set);
  shape = λ h e. polls-shape state g set (ready_in state g set) h refl;
}
set-known state g set set_acts.Drop = record {
  way = SetsNone refl refl;
  shape = λ h e. let fits = on_set_fits state g set set_acts.Drop e in set_drop-shape state g h set fits.0 (set_drop_fits state g set fits.1);
}
