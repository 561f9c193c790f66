-- What is known of a step that nothing refuses.
use Rattle.std.proofs.Common.{◌≡◌, ℕ, ◌+◌, ◌<◌, ◌≤◌, Bool, true, false, cond, min, List, [], ◌∷◌, ◌++◌, length, Option, Some, None, Ok, Err, refl, arith}
use Rattle.std.proofs.lemmas.Bool.{not-false}
use Rattle.std.proofs.lemmas.Bool.Decides.{nat_tests}
use Rattle.std.proofs.lemmas.List.{length-map}
use Rattle.std.specs.Prelude.{IfErr, IsOk, nat_lt, nat_le, ◌||◌, ◌&&◌, not, IsTrue}
use Rattle.strm_codes.specs.declared.refusals.Refusal.{Refusal}
use Rattle.strm_codes.specs.declared.refusals.Refusal.TheVariants as refusals
use Rattle.strm_machine.specs.Tests.{is_spent}
use Rattle.strm_machine.specs.Words.{Payload, TransmitIndex, TransmitKind, AStream, Future, kind_of, payload_of, State, guest_in, stream_at, opposite, same_side, end_of, sizes_of, IsPlaced, Name, named, end_named, stream_named, has_ended, first_of, NamedEnd, Poke, Make, OnMemory, Side, Stream, without_handle, next_in, is_loose, OnLoose}
use Rattle.strm_codes.specs.declared.codes.TransmitIndex.TheVariants as index
use Rattle.strm_memory.specs.Items.{is_number_or_none}
use Rattle.strm_machine.specs.State.{memory_limit, guest_limit, stream_limit, handles_in_use, bytes_in_use}
use Rattle.strm_machine.specs.Meetings.{begun}
use Rattle.strm_machine.specs.Tests.{is_no_handle, are_handles_full, are_places_full, are_streams_full, is_memory_too_big, are_guests_full, is_unknown_guest, are_bytes_out_of_bounds, side_named, is_too_big, items_asked, names_out_of_bounds, is_busy, owes_value, is_open_of, is_within_one_guest, is_unknown_reader, same_kind, is_of_other_kind, is_of_other_payload}
use Rattle.strm_handles.specs.Handles.{handle_limit, next_index}
use Rattle.strm_codes.specs.Counts.{count_limit}
use Rattle.strm_machine.specs.Making.{writer_index}
use Rattle.strm_codes.specs.Sameness.{same_payload}
use Rattle.strm_codes.proofs.SamenessLemmas.{Decides-same_payload}
use Rattle.strm_machine.specs.Refusals.{Reason, region_reasons, handle_reasons, end_reasons_of, slot_reasons, where_, side_reasons, leave_reasons_of, leave_reasons, own_reasons, last_reasons, given_reasons, on_end_reasons, bytes_reasons, refusal}
use Rattle.strm_machine.specs.declared.acts.Making.TheVariants.{Guest, Between}
use Rattle.strm_machine.specs.declared.acts.EndAct.TheVariants.{Drop, Lift}
use Rattle.strm_machine.specs.declared.acts.LooseAct.TheVariants.{Lower, Close}
use Rattle.strm_machine.specs.declared.acts.MemoryAct.TheVariants.{Dump}
use Rattle.strm_machine.specs.declared.acts.Act.TheVariants.{Transfer, Event}
use Rattle.strm_machine.specs.WaitableSets.{is_in_set}
use Rattle.strm_machine.proofs.SideLemmas.{same_side-itself}
use Rattle.strm_machine.proofs.TurnLemmas.{size_in}
use Rattle.strm_machine.proofs.NameLemmas.{IsNameError, named_by-error}
use Rattle.strm_handles.specs.declared.errors.HandleError.TheVariants as errors

-- no reason holds
pub not_refused : (b : Bool) (r : Refusal) (o : Option Refusal) → cond b (Some r) o ≡ None → (b ≡ false) × (o ≡ None)
not_refused true r o e = cc
not_refused false r o e = (refl, e)

pub not_le : (m n : ℕ) → nat_le m n ≡ false → n < m
not_le m n e = grind (arith, nat_tests)

pub not_lt : (m n : ℕ) → nat_lt m n ≡ false → n ≤ m
not_lt m n e = grind (arith, nat_tests)

pub neither : (a b : Bool) → a || b ≡ false → (a ≡ false) × (b ≡ false)
neither true b e = cc
neither false b e = (refl, e)

-- a guest that may be added
pub record GuestFits (state : State) (size : ℕ) : Type 0 where
  pub bytes : bytes_in_use state + size ≤ memory_limit
  pub count : length state.guests < guest_limit

pub guest_fits : (state : State) (size : ℕ) → refusal state (Make (Guest size)) ≡ None → GuestFits state size
unfolding refusal
guest_fits state size e =
    let first = not_refused (is_memory_too_big state size) _ _ e in
    let second = not_refused (are_guests_full state) _ _ first.1 in
    record { bytes = not_lt memory_limit (bytes_in_use state + size) first.0; count = not_le guest_limit (length state.guests) second.0 }

-- bytes of a guest's memory that may be looked at
pub record BytesFit (state : State) (g address count : ℕ) : Type 0 where
  pub there : g < length state.guests
  pub inside : are_bytes_out_of_bounds state g address count ≡ false

pub bytes_fit : (state : State) (g address count : ℕ) → first_of (bytes_reasons state g address count) ≡ None → BytesFit state g address count
bytes_fit state g address count e =
    let first = not_refused (is_unknown_guest state g) _ _ e in
    let second = not_refused (are_bytes_out_of_bounds state g address count) _ _ first.1 in
    record { there = not_le (length state.guests) g first.0; inside = second.0 }

pub poke_fits : (state : State) (g address : ℕ) (bytes : List ℕ) → refusal state (OnMemory g (Poke address bytes)) ≡ None → BytesFit state g address (length bytes)
unfolding refusal
poke_fits state g address bytes e = bytes_fit state g address (length bytes) e

pub dump_fits : (state : State) (g address len : ℕ) → refusal state (OnMemory g (Dump address len)) ≡ None → BytesFit state g address (min len 64)
unfolding refusal
dump_fits state g address len e = bytes_fit state g address (min len 64) e

-- no reason of two lists holds
pub none_of_both : (xs ys : List Reason) → first_of (xs ++ ys) ≡ None → (first_of xs ≡ None) × (first_of ys ≡ None)
none_of_both [] ys e = (refl, e)
none_of_both (x ∷ xs) ys e = both x.holds (none_of_both xs ys) e
  where
    both : (b : Bool) → (first_of (xs ++ ys) ≡ None → (first_of xs ≡ None) × (first_of ys ≡ None)) → cond b (Some x.refusal) (first_of (xs ++ ys)) ≡ None → (cond b (Some x.refusal) (first_of xs) ≡ None) × (first_of ys ≡ None)
    both true more f = cc
    both false more f = more f

-- a region that a read or write may ask for
pub record RegionFits (state : State) (g : ℕ) (ty : TransmitIndex) (address count : ℕ) : Type 0 where
  pub there : g < length state.guests
  pub counted : items_asked ty count < count_limit
  pub inside : names_out_of_bounds state g ty address count ≡ false

counted_asked : (ty : TransmitIndex) (count : ℕ) → is_too_big ty count ≡ false → items_asked ty count < count_limit
counted_asked (index.Stream payload) count e = not_le count_limit count e
counted_asked (index.Future payload) count e = omega arith

pub region_fits : (state : State) (g : ℕ) (ty : TransmitIndex) (address count : ℕ) → first_of (region_reasons state g ty address count) ≡ None → RegionFits state g ty address count
region_fits state g ty address count e =
    let first = not_refused (is_unknown_guest state g) _ _ e in
    let second = not_refused (is_too_big ty count) _ _ first.1 in
    let third = not_refused (names_out_of_bounds state g ty address count) _ _ second.1 in
    record { there = not_le (length state.guests) g first.0; counted = counted_asked ty count second.0; inside = third.0 }

pub placed_begun : (state : State) (g : ℕ) (ty : TransmitIndex) (address count : ℕ) (payload : Payload) → payload ≡ payload_of ty → RegionFits state g ty address count → IsPlaced (sizes_of state.guests) payload (begun g address (items_asked ty count))
placed_begun state g ty address count payload e h = record {
  there = omega (arith, h.there, length-map state.guests (λ x. length x.memory));
  inside = rw (size_in state.guests g, e) h.inside;
  counted = omega (arith, h.counted);
}

and_not : (a b : Bool) → a && not b ≡ false → IsTrue a → IsTrue b
and_not true true e h = h
and_not true false e h = cc
and_not false b e h = cc

-- an end that may read or write moves numbers, or nothing, within its guest
pub numbers_within : (stream : Stream) (side : Side) (g : ℕ) (ty : TransmitIndex) (named : Side) → first_of (end_reasons_of stream side g ty named) ≡ None → stream.payload ≡ payload_of ty → IsTrue (is_open_of g (end_of (opposite side) stream).operation) → IsTrue (is_number_or_none stream.payload)
numbers_within stream side g ty named e p h =
    let first = not_refused (not (same_side side named) || is_busy side stream) _ _ e in
    let second = not_refused (has_ended side (kind_of ty) stream) _ _ first.1 in
    let third = not_refused (is_within_one_guest g side ty stream) _ _ second.1 in
    rw p (and_not (is_open_of g (end_of (opposite side) stream).operation) (is_number_or_none (payload_of ty)) third.0 h)

-- two guests that may be joined by a stream
pub record PairFits (state : State) (writer reader : ℕ) (ty : TransmitIndex) : Type 0 where
  pub writer_there : writer < length state.guests
  pub reader_there : reader < length state.guests
  pub read : next_index (guest_in state.guests reader).handles < handle_limit
  pub write : writer_index state writer reader ty < handle_limit
  pub handles : handles_in_use state + 2 ≤ state.limits.handles
  pub streams : length state.streams < stream_limit

pub pair_fits : (state : State) (writer reader : ℕ) (ty : TransmitIndex) → refusal state (Make (Between writer reader ty)) ≡ None → PairFits state writer reader ty
unfolding refusal
pair_fits state writer reader ty e =
    let first = not_refused (is_unknown_guest state writer || is_unknown_guest state reader) _ _ e in
    let there = neither (is_unknown_guest state writer) (is_unknown_guest state reader) first.0 in
    let second = not_refused (is_no_handle (next_index (guest_in state.guests reader).handles) || is_no_handle (writer_index state writer reader ty)) _ _ first.1 in
    let numbers = neither (is_no_handle (next_index (guest_in state.guests reader).handles)) (is_no_handle (writer_index state writer reader ty)) second.0 in
    let third = not_refused (are_handles_full state 2) _ _ second.1 in
    let fourth = not_refused (are_places_full state 3 || are_streams_full state) _ _ third.1 in
    let room = neither (are_places_full state 3) (are_streams_full state) fourth.0 in
    record {
      writer_there = not_le (length state.guests) writer there.0;
      reader_there = not_le (length state.guests) reader there.1;
      read = not_le handle_limit _ numbers.0;
      write = not_le handle_limit _ numbers.1;
      handles = not_lt state.limits.handles (handles_in_use state + 2) third.0;
      streams = not_le stream_limit (length state.streams) room.1;
    }

-- a name that no reason of the handle refuses is one
pub name_ok : (r : Name) → IfErr r IsNameError → first_of (handle_reasons r) ≡ None → IsOk r
name_ok (Ok name) h e = refl
name_ok (Err errors.UnknownHandle) h e = cc
name_ok (Err errors.WrongKind) h e = cc
name_ok (Err errors.WrongType) h e = cc
name_ok (Err errors.IndexOverflow) h e = absurd h
name_ok (Err errors.HandleLimit) h e = absurd h
name_ok (Err errors.WrongEnd) h e = absurd h
name_ok (Err errors.Busy) h e = absurd h
name_ok (Err errors.Lent) h e = absurd h
name_ok (Err errors.TooManyLends) h e = absurd h
name_ok (Err errors.OutOfMemory) h e = absurd h

pub named_ok : (state : State) (end : NamedEnd) → first_of (handle_reasons (named state end)) ≡ None → IsOk (named state end)
named_ok state end e = name_ok (named state end) (named_by-error end.ty (guest_in state.guests end.guest).handles end.handle) e

-- an event that may be asked for
pub record EventFits (state : State) (g handle : ℕ) : Type 0 where
  pub there : g < length state.guests
  pub found : first_of (slot_reasons (end_named state g handle)) ≡ None

pub event_fits : (state : State) (g handle : ℕ) → refusal state (Event g handle) ≡ None → EventFits state g handle
unfolding refusal
event_fits state g handle e =
    let first = not_refused (is_unknown_guest state g) _ _ e in
    record { there = not_le (length state.guests) g first.0; found = first.1 }

-- the reasons of the end that is named and of its side, and then more
abbrev pub named_reasons : State → Side → NamedEnd → List Reason → List Reason
named_reasons state side end more = handle_reasons (named state end) ++ side_reasons side (side_named (named state end)) more

-- a handle of the side that is named, for which nothing else speaks against what is done
pub record SideFits (state : State) (side : Side) (end : NamedEnd) (more : List Reason) : Type 0 where
  pub found : first_of (handle_reasons (named state end)) ≡ None
  pub same : same_side side (side_named (named state end)) ≡ true
  pub rest : first_of more ≡ None

side_fits : (state : State) (side : Side) (end : NamedEnd) (more : List Reason) → first_of (named_reasons state side end more) ≡ None → SideFits state side end more
side_fits state side end more e =
    let name = named state end in
    let both = none_of_both (handle_reasons name) (side_reasons side (side_named name) more) e in
    let same = not_refused (not (same_side side (side_named name))) _ _ both.1 in
    record { found = both.0; same = not-false (same_side side (side_named name)) same.0; rest = same.1 }

-- something may be done to the end that is named, as far as its guest, its handle and its side go
pub record NamedFits (state : State) (side : Side) (end : NamedEnd) : Type 0 where
  pub there : end.guest < length state.guests
  pub found : first_of (handle_reasons (named state end)) ≡ None
  pub same : same_side side (side_named (named state end)) ≡ true

pub named_fits : (state : State) (side : Side) (end : NamedEnd) (more : List Reason) → first_of (where_ (is_unknown_guest state end.guest) refusals.UnknownGuest ∷ named_reasons state side end more) ≡ None → NamedFits state side end × (first_of more ≡ None)
named_fits state side end more e =
    let first = not_refused (is_unknown_guest state end.guest) _ _ e in
    let fits = side_fits state side end more first.1 in
    (record { there = not_le (length state.guests) end.guest first.0; found = fits.found; same = fits.same }, fits.rest)

-- an end that may leave its guest
pub record LeaveFits (state : State) (side : Side) (end : NamedEnd) : Type 0 where
  pub there : end.guest < length state.guests
  pub found : first_of (handle_reasons (named state end)) ≡ None
  pub same : same_side side (side_named (named state end)) ≡ true
  pub idle : is_busy side (stream_at state (stream_named (named state end))) ≡ false

pub drop_fits : (state : State) (side : Side) (end : NamedEnd) → first_of (on_end_reasons state side end Drop) ≡ None → LeaveFits state side end
drop_fits state side end e =
    let name = named state end in
    let stream = stream_at state (stream_named name) in
    let fits = named_fits state side end (where_ (is_busy side stream) refusals.Busy ∷ where_ (owes_value side (kind_of end.ty) stream) refusals.FutureWithoutValue ∷ []) e in
    let idle = not_refused (is_busy side stream) _ _ fits.1 in
    record { there = fits.0.there; found = fits.0.found; same = fits.0.same; idle = idle.0 }

pub lift_fits : (state : State) (side : Side) (end : NamedEnd) → first_of (on_end_reasons state side end Lift) ≡ None → LeaveFits state side end
lift_fits state side end e =
    let name = named state end in
    let guest = not_refused (is_unknown_guest state end.guest) _ _ e in
    let both = none_of_both (handle_reasons name ++ own_reasons state side end Lift) (last_reasons state end Lift) guest.1 in
    let fits = side_fits state side end (leave_reasons_of (stream_at state (stream_named name)) side) both.0 in
    let idle = not_refused (is_busy side (stream_at state (stream_named name))) _ _ fits.rest in
    record { there = not_le (length state.guests) end.guest guest.0; found = fits.found; same = fits.same; idle = idle.0 }

-- no value has passed where one is lifted
pub lift_fresh : (state : State) (side : Side) (end : NamedEnd) → first_of (on_end_reasons state side end Lift) ≡ None → (stream_at state (stream_named (named state end))).passed ≡ false
lift_fresh state side end e =
    let name = named state end in
    let stream = stream_at state (stream_named name) in
    let guest = not_refused (is_unknown_guest state end.guest) _ _ e in
    let both = none_of_both (handle_reasons name ++ own_reasons state side end Lift) (last_reasons state end Lift) guest.1 in
    let fits = side_fits state side end (leave_reasons_of stream side) both.0 in
    let idle = not_refused (is_busy side stream) _ _ fits.rest in
    let spent = not_refused (is_spent side stream) _ _ idle.1 in
    (neither (end_of side stream).told stream.passed spent.0).1

-- an end that may go to a guest
pub record MoveFits (state : State) (side : Side) (end : NamedEnd) (to : ℕ) : Type 0 where
  pub leaves : LeaveFits state side end
  pub to_there : to < length state.guests
  pub number : next_in (without_handle state end.guest end.handle) to < handle_limit

-- it may, whichever end the handle names
pub move_fits : (state : State) (end : NamedEnd) (to : ℕ) → refusal state (Transfer end to) ≡ None → MoveFits state (side_named (named state end)) end to
unfolding refusal
move_fits state end to e =
    let name = named state end in
    let side = side_named name in
    let stream = stream_at state (stream_named name) in
    let first = not_refused (is_unknown_guest state end.guest || is_unknown_guest state to) _ _ e in
    let there = neither (is_unknown_guest state end.guest) (is_unknown_guest state to) first.0 in
    let both = none_of_both (handle_reasons name ++ leave_reasons state end) (given_reasons state end to) first.1 in
    let found = none_of_both (handle_reasons name) (leave_reasons state end) both.0 in
    let idle = not_refused (is_busy side stream) _ _ found.1 in
    let apart = not_refused (is_in_set state end.guest end.handle) _ _ both.1 in
    let number = not_refused (is_no_handle (next_in (without_handle state end.guest end.handle) to)) _ _ apart.1 in
    record {
      leaves = record { there = not_le (length state.guests) end.guest there.0; found = found.0; same = same_side-itself side; idle = idle.0 };
      to_there = not_le (length state.guests) to there.1;
      number = not_le handle_limit _ number.0;
    }

-- a loose read end that may come into a guest as one of a type
pub record LowerFits (state : State) (s g : ℕ) (ty : TransmitIndex) : Type 0 where
  pub there : g < length state.guests
  pub loose : is_loose (stream_at state s).reader.owner ≡ true
  pub kind : (stream_at state s).kind ≡ kind_of ty
  pub payload : (stream_at state s).payload ≡ payload_of ty
  pub number : next_in state g < handle_limit
  pub handles : handles_in_use state + 1 ≤ state.limits.handles

-- two kinds that are tested the same are the same
pub same_kind_is : (a b : TransmitKind) → same_kind a b ≡ true → a ≡ b
same_kind_is AStream AStream e = refl
same_kind_is AStream Future e = cc
same_kind_is Future AStream e = cc
same_kind_is Future Future e = refl

pub lower_fits : (state : State) (s g : ℕ) (ty : TransmitIndex) → refusal state (OnLoose s (Lower g ty)) ≡ None → LowerFits state s g ty
unfolding refusal
lower_fits state s g ty e =
    let stream = stream_at state s in
    let guest = not_refused (is_unknown_guest state g) _ _ e in
    let reader = not_refused (is_unknown_reader state s) _ _ guest.1 in
    let kind = not_refused (is_of_other_kind ty stream) _ _ reader.1 in
    let payload = not_refused (is_of_other_payload ty stream) _ _ kind.1 in
    let number = not_refused (is_no_handle (next_in state g)) _ _ payload.1 in
    let handles = not_refused (are_handles_full state 1) _ _ number.1 in
    record {
      there = not_le (length state.guests) g guest.0;
      loose = not-false (is_loose stream.reader.owner) reader.0;
      kind = same_kind_is stream.kind (kind_of ty) (not-false (same_kind stream.kind (kind_of ty)) kind.0);
      payload = (Decides-same_payload stream.payload (payload_of ty)).0 (not-false (same_payload stream.payload (payload_of ty)) payload.0);
      number = not_le handle_limit _ number.0;
      handles = not_lt state.limits.handles (handles_in_use state + 1) handles.0;
    }

-- a loose read end that may be dropped
pub close_fits : (state : State) (s : ℕ) → refusal state (OnLoose s Close) ≡ None → is_loose (stream_at state s).reader.owner ≡ true
unfolding refusal
close_fits state s e =
    let reader = not_refused (is_unknown_reader state s) _ _ e in not-false (is_loose (stream_at state s).reader.owner) reader.0
