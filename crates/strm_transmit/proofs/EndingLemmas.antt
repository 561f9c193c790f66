-- The store after an end was told its report or its operation cancelled; and what is known of an end
-- that may leave its guest: its table gives its handle back, and its stream was made.
use Rattle.std.proofs.Common.{◌≡◌, ℕ, ◌<◌, true, List, length, set, Result, Ok, Err, None, refl, sym, ap, subst}
use Rattle.std.specs.Prelude.{IsOk, IfOk, is_ok}
use Rattle.strm_codes.specs.declared.codes.TransmitIndex.{TransmitIndex}
use Rattle.strm_codes.specs.declared.codes.TransmitIndex.TheVariants as index
use Rattle.strm_handles.specs.Handles.{Handles}
use Rattle.strm_handles.specs.Ends.{without_value, readable, writable}
use Rattle.strm_handles.specs.Lookups.{◌>>=◌, stream_end_of, future_end_of}
use Rattle.strm_handles.specs.declared.entries.TransmitEnd.{TransmitEnd}
use Rattle.strm_handles.specs.declared.entries.TransmitLocalState.{TransmitLocalState}
use Rattle.strm_handles.specs.declared.entries.TransmitLocalState.TheVariants as states
use Rattle.strm_handles.specs.declared.errors.HandleError.{HandleError}
use Rattle.strm_machine.specs.State as machine
use Rattle.strm_machine.specs.State.{State, guest_in, stream_at, is_live}
use Rattle.strm_machine.specs.Operating.{Operated}
use Rattle.strm_machine.specs.Moments.{is_end}
use Rattle.strm_machine.specs.Tests.{Name, named, named_by, end_named, stream_named, side_named, side_of}
use Rattle.strm_machine.specs.declared.acts.NamedEnd.{NamedEnd}
use Rattle.strm_machine.specs.Soundness.{sizes_of, is_idle_state, IsSound, StreamIsPlaced}
use Rattle.strm_machine.specs.Sides.{same_side}
use Rattle.strm_machine.specs.declared.streams.Side.{Side}
use Rattle.strm_machine.specs.declared.streams.Side.TheVariants.{Writing, Reading}
use Rattle.strm_machine.specs.declared.streams.Stream.{Stream}
use Rattle.strm_machine.proofs.HeldLemmas.{StateIsHeld}
use Rattle.strm_machine.proofs.NameLemmas.{named_there, named_idle}
use Rattle.strm_machine.specs.declared.acts.EndAct.TheVariants.{Drop}
use Rattle.strm_machine.proofs.NamedEndLemmas.{on_end-found, is_end-ok}
use Rattle.strm_machine.proofs.RefusalLemmas.{LeaveFits, named_ok}
use Rattle.strm_machine.proofs.SideLemmas.{same_side_is, StreamKeeps}
use Rattle.strm_machine.proofs.SoundLemmas.{placed_at}
use Rattle.strm_channels.specs.Guests.{guests_of, removable}
use Rattle.strm_transmit.specs.Inside.{state_of, IsStore}
use Rattle.strm_transmit.specs.declared.store.Store.TheInside.{Inside}
use Rattle.strm_transmit.proofs.PlaceLemmas.{held_live}
use Rattle.strm_transmit.proofs.StoreLemmas.{SameBut, IsStore-turn}
use Rattle.strm_machine.proofs.TurnLemmas.{all_kept}
use Rattle.strm_transmit.specs.ReadyGuests.{Retold}

-- a stream became another, and nothing else changed
pub record SetsStream (old new : Inside) (s : ℕ) (stream : Stream) : Type 0 where
  pub same : SameBut old new
  pub counter : new.counter ≡ old.counter
  pub guests : new.guests ≡ old.guests
  pub places : new.places ≡ old.places
  pub live_sets : new.live_sets ≡ old.live_sets
  pub bytes : new.bytes ≡ old.bytes
  pub streams : new.streams.items ≡ set old.streams.items s stream
  pub retold : Retold (guests_of old.guests.items) s stream old.ready new.ready

-- the turn of a stream that became another, with all guests as they were
abbrev set_turn : List machine.Guest → Stream → Operated
set_turn guests stream = record { code = None; guests = guests; stream = stream }

-- a stream has the type and the owners of the one before it, and its operations lie in memory as theirs
abbrev Follows : Inside → ℕ → Stream → Type 0
Follows old s stream =
    let sizes = sizes_of (guests_of old.guests.items) in
    let before = stream_at (state_of old) s in
    StreamIsPlaced sizes before → StreamKeeps sizes before stream

pub IsStore-set : (old new : Inside) (s : ℕ) (stream : Stream) → s < length old.streams.items → Follows old s stream → SetsStream old new s stream → IsStore old → IsStore new
IsStore-set old new s stream l keeps h i =
    let guests = guests_of old.guests.items in
    IsStore-turn old new s (set_turn guests stream) l
    (record { guests = all_kept guests; stream = keeps (placed_at (state_of old) s l i.sound) })
    (record {
      tag = h.same.tag;
      limits = h.same.limits;
      producers = h.same.producers;
      kept = h.same.kept;
      consumers = h.same.consumers;
      contexts = h.same.contexts;
      counter = h.counter;
      places = h.places;
      live_sets = h.live_sets;
      bytes = h.bytes;
      guests = ap (λ (g : _). guests_of g.items) h.guests;
      streams = h.streams;
      retold = h.retold;
    }) i

idle_writable : (state : TransmitLocalState) → is_idle_state state ≡ true → side_of state ≡ Writing → IsOk (writable state)
idle_writable (states.Write done) i e = refl
idle_writable (states.Read done) i e = cc
idle_writable (states.Busy reading) i e = cc

idle_readable : (state : TransmitLocalState) → is_idle_state state ≡ true → side_of state ≡ Reading → IsOk (readable state)
idle_readable (states.Read done) i e = refl
idle_readable (states.Write done) i e = cc
idle_readable (states.Busy reading) i e = cc

told_ok : {A B : Type 0} (x : Result A HandleError) (told : A → B) → IsOk x → without_value (x >>= (λ v. Ok (told v))) ≡ Ok tt
told_ok (Ok v) told h = refl
told_ok (Err v) told h = cc

same_name : (end : TransmitEnd) (name : ℕ × TransmitLocalState) → ◌≡◌ {A = Name} (Ok (end.rep, end.state)) (Ok name) → ◌≡◌ {A = ℕ × TransmitLocalState} name (end.rep, end.state)
same_name end name e = cc

-- an end that is found, and then removable by its state
abbrev IsRemovable : {A B : Type 0} → Result TransmitEnd HandleError → (TransmitLocalState → Result A HandleError) → (TransmitEnd → A → B) → Type 0
IsRemovable r first told = without_value (r >>= (λ e. first e.state >>= (λ x. Ok (told e x)))) ≡ Ok tt

-- an end that was found, and is then found to be removable
found_removable : {A B : Type 0} (r : Result TransmitEnd HandleError) (first : TransmitLocalState → Result A HandleError) (told : TransmitEnd → A → B) (name : ℕ × TransmitLocalState) → (r >>= (λ e. Ok (e.rep, e.state))) ≡ Ok name → IsOk (first name.1) → IsRemovable r first told
found_removable (Err e) first told name f k = cc
found_removable (Ok end) first told name f k =
    told_ok (first end.state) (told end) (subst (λ (n : ℕ × TransmitLocalState). IsOk (first n.1)) (same_name end name f) k)

-- what a table answers to the removal of an idle end of a side
removable_idle : (side : Side) (ty : TransmitIndex) (handles : Handles) (handle : ℕ) (name : ℕ × TransmitLocalState) → named_by ty handles handle ≡ Ok name → is_idle_state name.1 ≡ true → side_of name.1 ≡ side → removable side ty handles handle ≡ Ok tt
removable_idle Writing (index.Stream payload) handles handle name e i s = found_removable (stream_end_of handles payload handle) writable (λ end done. end.rep) name e (idle_writable name.1 i s)
removable_idle Reading (index.Stream payload) handles handle name e i s = found_removable (stream_end_of handles payload handle) readable (λ end done. (end.rep, done)) name e (idle_readable name.1 i s)
removable_idle Writing (index.Future payload) handles handle name e i s = found_removable (future_end_of handles payload handle) writable (λ end done. (end.rep, done)) name e (idle_writable name.1 i s)
removable_idle Reading (index.Future payload) handles handle name e i s = found_removable (future_end_of handles payload handle) readable (λ end done. (end.rep, done)) name e (idle_readable name.1 i s)

-- the end that a handle names can be removed from its table
pub removable_named : (state : State) (side : Side) (end : NamedEnd) → IsSound state → LeaveFits state side end → removable side end.ty (guest_in state.guests end.guest).handles end.handle ≡ Ok tt
removable_named state side end h fits =
    by_name (named state end) refl (named_idle state end (named state end) h refl) (named_ok state end fits.found) fits.same
  where
    by_name : (r : Name) → named state end ≡ r → IfOk r (λ name. is_idle_state name.1 ≡ true) → IsOk r → same_side side (side_named r) ≡ true → removable side end.ty (guest_in state.guests end.guest).handles end.handle ≡ Ok tt
    by_name (Ok name) f i k s = removable_idle side end.ty (guest_in state.guests end.guest).handles end.handle name f i (same_side_is side (side_of name.1) s)
    by_name (Err error) f i k s = cc

-- its stream was made
pub named_made : (state : State) (side : Side) (end : NamedEnd) (s : ℕ) → IsSound state → LeaveFits state side end → s ≡ stream_named (named state end) → s < length state.streams
named_made state side end s h fits same =
    rw same (by_name (named state end) (named_there state end (named state end) h refl) (named_ok state end fits.found))
  where
    by_name : (r : Name) → IfOk r (λ name. name.0 < length state.streams) → IsOk r → stream_named r < length state.streams
    by_name (Ok name) l k = l
    by_name (Err error) l k = cc

-- the handle names that end
pub named_end_is : (state : State) (side : Side) (end : NamedEnd) → IsSound state → LeaveFits state side end → is_end (stream_named (named state end)) side (end_named state end.guest end.handle) ≡ true
named_end_is state side end h fits =
    (on_end-found state side end Drop h fits.there (named_ok state end fits.found) (same_side_is side (side_named (named state end)) fits.same)).held

-- so its stream has an end left
pub named_live : (state : State) (side : Side) (end : NamedEnd) (s : ℕ) → IsSound state → StateIsHeld state → LeaveFits state side end → s ≡ stream_named (named state end) → is_live (stream_at state s) ≡ true
named_live state side end s h held fits same =
    let names = subst (λ n. is_end n side (end_named state end.guest end.handle) ≡ true) (sym same) (named_end_is state side end h fits) in
    held_live (stream_at state s) side end.guest end.handle (held.agree.named end.guest end.handle s side names)

-- and the handle is one of an end
pub named_end : (state : State) (side : Side) (end : NamedEnd) → IsSound state → LeaveFits state side end → is_ok (end_named state end.guest end.handle) ≡ true
named_end state side end h fits =
    is_end-ok (stream_named (named state end)) side (end_named state end.guest end.handle) (named_end_is state side end h fits)
