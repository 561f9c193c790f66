-- A guest that ends: each of its ends may be given up, then it has none, and its memory may go. One that has nothing
-- gets a memory. The store's fields agree with the state throughout.
use Rattle.std.proofs.Common.{◌≡◌, ℕ, ◌+◌, ◌<◌, Bool, true, false, List, [], ◌∷◌, length, set, Some, None, Ok, Err, refl, sym, ap, subst, ◌∙◌, arith, ◌++◌, ◌≢◌}
use Rattle.std.specs.Prelude.{Result}
use Rattle.std.proofs.lemmas.List.{length-map, length-set, map-set}
use Rattle.strm_codes.specs.declared.codes.TransmitIndex.{TransmitIndex}
use Rattle.strm_handles.specs.Handles.{entry_at}
use Rattle.strm_handles.specs.Lookups.{end_rep_in, waitable_set_rep_in, error_context_rep_in}
use Rattle.strm_handles.specs.declared.entries.Entry.TheVariants as entries
use Rattle.strm_handles.specs.declared.entries.TransmitLocalState.{TransmitLocalState}
use Rattle.strm_machine.specs.State.{State, no_guest, guest_in, stream_at, own_size, sets_in}
use Rattle.strm_machine.specs.State as machine
use Rattle.strm_machine.specs.Moments.{is_end}
use Rattle.strm_machine.specs.Sides.{end_of, same_side}
use Rattle.strm_machine.specs.Endings.{dropped}
use Rattle.strm_machine.specs.Soundness.{IsSound, type_of}
use Rattle.strm_machine.specs.Tests.{Name, named, named_by, end_named, side_of, is_busy, stream_named, side_named, is_unknown_guest}
use Rattle.strm_machine.specs.declared.streams.Side.{Side}
use Rattle.strm_machine.specs.declared.streams.Owner.TheVariants.{Held, Gone}
use Rattle.strm_machine.proofs.HeldLemmas.{StateIsHeld}
use Rattle.strm_channels.specs.Guests.{guest_of, guests_of}
use Rattle.strm_places.specs.Lives.{with_guest_in, HasNoEnd, HasNoOperation, begins_as, with_none_pending, without_end, end_given_up, ended, HasOnlyMade, numbers_given, ends_given_up, all_given_up, handles_given_up}
use Rattle.strm_places.proofs.LivesLemmas.{Replaces, IsSound-replaced, held-replaced, handles-replaced, sets-replaced, bytes-replaced, members-replaced, no_end, begins_as-trapped, begins_as-refused, begins_as-performs, begins_as-by}
use Rattle.strm_codes.specs.declared.refusals.Refusal.{Refusal}
use Rattle.strm_machine.specs.Refusals.{Reason, first_of, where_, handle_reasons, slot_reasons, refusal}
use Rattle.strm_machine.specs.Reactions.{goes, with_stream_at}
use Rattle.strm_machine.specs.declared.replies.Reply.{Reply}
use Rattle.strm_machine.specs.declared.replies.Reply.TheVariants as replies
use Rattle.strm_transmit.specs.Hosted.{StillFits}
use Rattle.strm_transmit.specs.Meets.{Meets, or_found, admitted}
use Rattle.strm_transmit.specs.declared.errors.StoreError.{StoreError}
use Rattle.strm_transmit.proofs.StepLemmas.{is_admitted, not_admitted}
use Rattle.strm_transmit.proofs.FitsLemmas.{KeepsTypes, Fits-kept, same_streams}
use Rattle.strm_transmit.proofs.HostStepLemmas.{meets-types}
use Rattle.strm_transmit.specs.Guests.{AreUnhosted, AreOfOwners}
use Rattle.strm_transmit.specs.Inside.{state_of, AreServed, IsStore}
use Rattle.strm_transmit.specs.declared.store.Store.TheInside.{Inside}
use Rattle.strm_transmit.proofs.StoreLemmas.{SameBut}
use Rattle.strm_transmit.proofs.ToldLemmas.{told-same}
use Rattle.strm_transmit.proofs.ReadyGuestLemmas.{counted-alike}
use Rattle.strm_codes.specs.declared.refusals.Refusal.TheVariants as refusals
use Rattle.strm_handles.specs.declared.errors.HandleError.{HandleError}
use Rattle.strm_waitable_sets.specs.Sets.{is_member}
use Rattle.strm_machine.specs.Moves.{without_handle, with_owner}
use Rattle.strm_machine.specs.WaitableSets.{set_named, number_named, has_member}
use Rattle.strm_machine.specs.ErrorContexts.{context_named}
use Rattle.strm_machine.specs.declared.acts.NamedEnd.{NamedEnd}
use Rattle.strm_machine.specs.declared.acts.Act.TheVariants.{OnSet, OnContext}
use Rattle.strm_machine.specs.declared.acts.SetAct.TheVariants as set_acts
use Rattle.strm_machine.specs.declared.acts.ContextAct.TheVariants as context_acts
use Rattle.strm_machine.proofs.RefusalLemmas.{LeaveFits}
use Rattle.strm_machine.proofs.SideLemmas.{same_side-itself}
use Rattle.strm_machine.proofs.SetStepLemmas.{has_member-none}
use Rattle.strm_places.proofs.FoldLemmas.{pending-guests, ended-gone, ended-nothing, ended-others}
use Rattle.strm_transmit.specs.Lives.{StaysAmong}
use Rattle.strm_transmit.proofs.OperationLemmas.{known}
use Rattle.strm_transmit.proofs.GivenUpLemmas.{pending-idle, StreamsLeft, ended-streams}
use Rattle.strm_channels.specs.declared.guests.Guest as ours
use Rattle.strm_places.proofs.PlayLemmas.{named_typed}

-- ## An end that is given up

-- an end of a stream that a handle of a guest names, and the state in which its operation is cancelled
pub record IsIdled (old idle : State) (g handle : ℕ) (name : ℕ × TransmitLocalState) (side : Side) : Type 0 where
  pub there : g < length old.guests
  pub named : end_named old g handle ≡ Ok name
  pub is_side : side ≡ side_of name.1
  pub idled : idle ≡ with_none_pending old name.0 side
  pub sound : IsSound idle
  pub unhosted : AreUnhosted old.streams

module _ (old idle : State) (g handle : ℕ) (name : ℕ × TransmitLocalState) (side : Side) (ty : TransmitIndex) (h : IsIdled old idle g handle name side) (is_type : ty ≡ type_of (stream_at idle name.0)) where
  abbrev end : NamedEnd
  end = record { guest = g; ty = ty; handle = handle }

  -- the handle names it still, by the type of its stream too
  name_is : named idle end ≡ Ok name
  name_is =
      ap (λ (t : TransmitIndex). named_by t (guest_in idle.guests g).handles handle) is_type
      ∙ named_typed idle g handle h.sound name
      (ap (λ (s : State). end_named s g handle) h.idled
      ∙ ap (λ (gs : List machine.Guest). end_rep_in (entry_at (guest_in gs g).handles handle)) (pending-guests old name.0 side)
      ∙ h.named)

  -- so it may leave its guest
  pub may_leave : LeaveFits idle side end
  may_leave = record {
    there = subst (λ (s : State). g < length s.guests) (sym h.idled) (subst (λ (gs : List machine.Guest). g < length gs) (sym (pending-guests old name.0 side)) h.there);
    found = ap (λ (n : Name). first_of (handle_reasons n)) name_is;
    same = ap (λ (n : Name). same_side side (side_named n)) name_is ∙ ap (same_side side) (sym h.is_side) ∙ same_side-itself side;
    idle = ap (λ (n : Name). is_busy side (stream_at idle (stream_named n))) name_is
        ∙ subst (λ (s : State). is_busy side (stream_at s name.0) ≡ false) (sym h.idled) (pending-idle old name.0 side h.unhosted);
  }

  pub leaves_stream : name.0 ≡ stream_named (named idle end)
  leaves_stream = sym (ap stream_named name_is)

  -- and then it is given up
  pub end_goes : (new : State) → new ≡ with_stream_at (without_handle idle g handle) name.0 (with_owner side (stream_at idle name.0) Gone) → new ≡ end_given_up old g handle (end_named old g handle)
  unfolding dropped
  end_goes new e =
      e
      ∙ ap (λ (s : State). with_stream_at (without_handle s g handle) name.0 (with_owner side (stream_at s name.0) Gone)) h.idled
      ∙ ap (without_end old g handle name.0) h.is_side
      ∙ sym (ap (end_given_up old g handle) h.named)

-- ## What nothing refuses

set-unrefused : (unknown : Bool) (name : Result ℕ HandleError) (number : ℕ) (has : ℕ → Bool) → unknown ≡ false → name ≡ Ok number → has number ≡ false
    → first_of (where_ unknown refusals.UnknownGuest ∷ (slot_reasons name ++ where_ (has (number_named name)) refusals.SetNotEmpty ∷ [])) ≡ None
set-unrefused unknown name number has u n e = rw (u, n, e) refl

-- the sets of a guest without ends have no members, and may be dropped
pub may_drop_set : (state : State) (g handle number : ℕ) → IsSound state → g < length state.guests → HasNoEnd state g → entry_at (guest_in state.guests g).handles handle ≡ Some (entries.WaitableSet number) → refusal state (OnSet g handle set_acts.Drop) ≡ None
unfolding refusal
may_drop_set state g handle number sound l none e =
    set-unrefused (is_unknown_guest state g) (set_named state g handle) number (has_member state g) (known state g l) (ap waitable_set_rep_in e)
    (has_member-none state g number (λ k. memberless k (is_member (sets_in state.guests g) number k) refl))
  where
    memberless : (k : ℕ) (b : Bool) → is_member (sets_in state.guests g) number k ≡ b → b ≡ false
    memberless k false f = refl
    memberless k true f = let wrong : true ≡ false = sym ((sound.sets g).members k number f) ∙ none k in cc

context-unrefused : (unknown : Bool) (name : Result ℕ HandleError) (number : ℕ) → unknown ≡ false → name ≡ Ok number → first_of (where_ unknown refusals.UnknownGuest ∷ slot_reasons name) ≡ None
context-unrefused unknown name number u n = rw (u, n) refl

-- and so may error contexts
pub may_drop_context : (state : State) (g handle number : ℕ) → g < length state.guests → entry_at (guest_in state.guests g).handles handle ≡ Some (entries.ErrorContext number) → refusal state (OnContext g handle context_acts.Drop) ≡ None
unfolding refusal
may_drop_context state g handle number l e =
    context-unrefused (is_unknown_guest state g) (context_named state g handle) number (known state g l) (ap error_context_rep_in e)

-- ## A guest without ends

-- where no operation is another guest's than its end's, none lies in the memory of a guest without ends
pub no_operation : (state : State) (g : ℕ) → StateIsHeld state → AreOfOwners state.streams → HasNoEnd state g → HasNoOperation state g
no_operation state g held owned none s side operation e f =
    let own = owned s side operation e in
    let here : (end_of side (stream_at state s)).owner ≡ Held g own.0 = own.1 ∙ ap (λ n. Held n own.0) f in
    let named : is_end s side (end_named state g own.0) ≡ true = held.agree.held g own.0 s side here in
    let not_named : is_end s side (end_named state g own.0) ≡ false = no_end s side (end_named state g own.0) (none own.0) in
    let wrong : true ≡ false = sym named ∙ not_named in
    cc

-- ## A guest that ended

-- all that its handles were of is given up
pub gave_up : (old mid last : State) (g n : ℕ) → n ≡ numbers_given old g → mid ≡ ends_given_up old g n → last ≡ all_given_up mid g n → last ≡ handles_given_up old g
gave_up old mid last g n count e f =
    f ∙ ap (λ (s : State). all_given_up s g n) e ∙ ap (λ k. all_given_up (ends_given_up old g k) g k) count

module _ (old new : State) (g : ℕ) (l : g < length old.guests) (is : new ≡ ended old g) where
  pub ended_none : HasNoEnd new g
  ended_none = subst (λ (s : State). HasNoEnd s g) (sym is) (ended-gone old g l).none

  pub ended_nothing : HasOnlyMade old g → guest_in new.guests g ≡ no_guest
  ended_nothing made = ap (λ (s : State). guest_in s.guests g) is ∙ ended-nothing old g l made

  pub ended_others : (k : ℕ) → k ≢ g → guest_in new.guests k ≡ guest_in old.guests k
  ended_others k ne = ap (λ (s : State). guest_in s.guests k) is ∙ ended-others old g k ne

  module _ (u : AreUnhosted old.streams) (o : AreOfOwners old.streams) where
    left : StreamsLeft old new
    left = subst (λ (s : State). StreamsLeft old s) (sym is) (ended-streams old g u o)

    pub ended_operations : StateIsHeld new → HasNoOperation new g
    ended_operations held = no_operation new g held left.owned ended_none

    pub ended_fits : StillFits old new
    ended_fits = left.fits

    pub ended_stays : IsSound new → StateIsHeld new → StaysAmong old new
    ended_stays sound held = record {
      sound = sound;
      unhosted = left.unhosted;
      owned = left.owned;
      tables = held.tables;
      named = held.agree.named;
      held = held.agree.held;
      guests = ap (λ (s : State). length s.guests) is ∙ (ended-gone old g l).guests;
      many = left.many;
      limits = left.limits;
      trapped = left.trapped;
    }

-- ## The store's fields

-- another guest of a number, with nothing else changed but how many bytes are the store's own
pub record ReplacesGuest (old new : Inside) (g : ℕ) (x : machine.Guest) : Type 0 where
  pub same : SameBut old new
  pub counter : new.counter ≡ old.counter
  pub streams : new.streams ≡ old.streams
  pub places : new.places ≡ old.places
  pub live_sets : new.live_sets ≡ old.live_sets
  pub ready : new.ready ≡ old.ready
  pub guests : guests_of new.guests.items ≡ set (guests_of old.guests.items) g x
  pub bytes : new.bytes + own_size (guest_in (guests_of old.guests.items) g) ≡ old.bytes + own_size x

-- a guest of these parts, as the machine's
pub guests_of-filled : (guests : List ours.Guest) (g : ℕ) (y : ours.Guest) (x : machine.Guest) → y.memory ≡ record { bytes = x.memory; base = x.base } → y.table.handles ≡ x.handles → y.sets ≡ x.sets → guests_of (set guests g y) ≡ set (guests_of guests) g x
guests_of-filled guests g y x m h s = map-set guest_of guests g y ∙ ap (set (guests_of guests) g) (rw (m, h, s) refl)

pub replaced-state : (old new : Inside) (g : ℕ) (x : machine.Guest) → ReplacesGuest old new g x → state_of new ≡ with_guest_in (state_of old) g x
replaced-state old new g x h =
    rw (h.same.tag, h.same.limits, h.same.producers, h.same.kept, h.same.consumers, h.same.contexts, h.same.trapped, h.streams, h.guests) refl

pub IsStore-replaced : (old new : Inside) (g : ℕ) (x : machine.Guest) → ReplacesGuest old new g x → Replaces (state_of old) g x → IsStore old → IsStore new
IsStore-replaced old new g x h r i =
    let guests : List machine.Guest = guests_of old.guests.items in
    let after = replaced-state old new g x h in
    let live = handles-replaced guests g x r.there r.looks in
    let sets = sets-replaced guests g x r.there r.looks in
    let bytes = bytes-replaced guests g x r.there r.looks in
    record {
      sound = rw after (IsSound-replaced (state_of old) g x r i.sound);
      held = subst StateIsHeld (sym after) (held-replaced (state_of old) g x r i.held);
      told = rw (h.streams, h.ready, h.guests) (told-same guests (set guests g x) old.streams.items old.ready.sets (λ k number handle. members-replaced guests g x r.there r.looks k number handle) i.told);
      ready_counted = rw (h.streams, h.ready, h.guests) (counted-alike guests (set guests g x) old.streams.items old.streams.items old.ready (length-set guests g x) refl i.ready_counted);
      limit = rw (h.counter, h.same.limits) i.limit;
      live = rw (h.counter, h.guests) (i.live ∙ sym live);
      within = rw h.counter i.within;
      places = rw (h.places, h.streams) i.places;
      served = rw (h.same.producers, h.same.consumers, h.streams) i.served;
      kept = rw (h.same.producers, h.same.kept, h.streams) i.kept;
      sets = rw (h.live_sets, h.guests) (i.sets ∙ sym sets);
      bytes = rw h.guests (omega (arith, h.bytes, i.bytes, bytes));
      few_guests = omega (arith, i.few_guests, length-map old.guests.items guest_of, length-map new.guests.items guest_of, ap (λ (gs : List machine.Guest). length gs) h.guests, length-set guests g x);
      few_streams = rw h.streams i.few_streams;
    }

-- ## A guest that begins: why the call is refused, and what it leaves

module _ (state : State) (g : ℕ) (x : machine.Guest) (reasons : List Reason) where
  -- why it was not admitted, as the answer
  pub meets_not_begun : {V : Type 0} (wanted : V) (found : Result V Refusal) (error : StoreError) → found ≡ or_found (first_of reasons) wanted → Err error ≡ admitted state found → Meets state state (Err error) (begins_as state g x reasons)
  meets_not_begun wanted found error e a =
      not_admitted state (first_of reasons) wanted found (λ y. Meets state state (Err y) (begins_as state g x reasons)) error e a
      (λ t. (begins_as-trapped state g x reasons t, refl)) (λ q t r. (begins_as-refused state g x reasons q t r, refl))

  -- one that was admitted: nothing refuses it, and the guest stands there
  pub record IsBegun : Type 0 where
    pub none : first_of reasons ≡ None
    pub begun : begins_as state g x reasons ≡ goes replies.Done (with_guest_in state g x)

  pub is_begun : {V : Type 0} (wanted : V) (found : Result V Refusal) (value : V) → found ≡ or_found (first_of reasons) wanted → Ok value ≡ admitted state found → IsBegun
  is_begun wanted found value e a =
      let passed = is_admitted state (first_of reasons) wanted found value e a in
      record { none = passed.none; begun = begins_as-performs state g x reasons passed.untrapped passed.none }

-- whatever host ends fitted a store still fit it
pub begun_fits : (old new : State) (g : ℕ) (x : machine.Guest) (reasons : List Reason) (result : Result Reply StoreError) → AreServed old.producers old.consumers old.streams → Meets old new result (begins_as old g x reasons) → StillFits old new
begun_fits old new g x reasons result served m tells =
    Fits-kept old new tells served.made
    (meets-types old new result (begins_as old g x reasons) m
    (begins_as-by old g x reasons (λ (s : State). KeepsTypes old s) (same_streams old old refl refl refl) (λ fits. same_streams old _ refl refl refl)))
