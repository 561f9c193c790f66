-- Why a step is refused: the first whose condition holds, in the order of the call. Ours: the order.
use Rattle.std.specs.Prelude.{ℕ, ◌==◌, Bool, true, not, ◌||◌, if◌then◌else◌, List, [], ◌∷◌, ◌++◌, min, length, Result, Option, Some, None}
use Rattle.strm_codes.specs.declared.codes.TransmitIndex.{TransmitIndex}
use Rattle.strm_codes.specs.declared.codes.TransmitKind.{TransmitKind}
use Rattle.strm_codes.specs.declared.codes.TransmitKind.TheVariants.{Stream as AStream, Future}
use Rattle.strm_codes.specs.declared.refusals.Refusal.{Refusal}
use Rattle.strm_codes.specs.declared.refusals.Refusal.TheVariants as refusals
use Rattle.strm_codes.specs.Types.{kind_of}
use Rattle.strm_handles.specs.Handles.{next_index}
use Rattle.strm_handles.specs.declared.errors.HandleError.{HandleError}
use Rattle.strm_machine.specs.State.{State, guest_in, stream_at}
use Rattle.strm_machine.specs.Tests.{is_unknown_guest, are_guests_full, is_memory_too_big, are_handles_full, are_places_full, are_streams_full, is_no_handle, is_too_big, names_out_of_bounds, names_misaligned, are_bytes_out_of_bounds, Name, named, end_named, is_unknown_handle, is_wrong_kind, is_wrong_type, stream_named, side_named, is_busy, has_ended, owes_value, is_within_one_guest, is_spent, is_unknown_reader, is_of_other_kind, is_of_other_payload, is_cancel_under_way}
use Rattle.strm_machine.specs.Sides.{same_side}
use Rattle.strm_machine.specs.Making.{writer_index}
use Rattle.strm_machine.specs.Moves.{without_handle, next_in}
use Rattle.strm_machine.specs.WaitableSets.{set_named, number_named, is_in_set, has_member}
use Rattle.strm_machine.specs.ErrorContexts.{context_named, is_unknown_context, is_message_too_long, message_named, is_bad_text}
use Rattle.strm_machine.specs.declared.streams.Stream.{Stream}
use Rattle.strm_machine.specs.declared.streams.Side.{Side}
use Rattle.strm_machine.specs.declared.streams.Side.TheVariants.{Writing, Reading}
use Rattle.strm_machine.specs.declared.acts.NamedEnd.{NamedEnd}
use Rattle.strm_machine.specs.declared.acts.Making.{Making}
use Rattle.strm_machine.specs.declared.acts.Making.TheVariants.{Guest, Between, Set, Context}
use Rattle.strm_machine.specs.declared.acts.EndAct.{EndAct}
use Rattle.strm_machine.specs.declared.acts.EndAct.TheVariants.{Operate, Drop, Cancel, Lift}
use Rattle.strm_machine.specs.declared.acts.LooseAct.{LooseAct}
use Rattle.strm_machine.specs.declared.acts.LooseAct.TheVariants.{Lower, Close}
use Rattle.strm_machine.specs.declared.acts.SetAct.{SetAct}
use Rattle.strm_machine.specs.declared.acts.SetAct.TheVariants as set_acts
use Rattle.strm_machine.specs.declared.acts.ContextAct.{ContextAct}
use Rattle.strm_machine.specs.declared.acts.ContextAct.TheVariants as context_acts
use Rattle.strm_machine.specs.declared.acts.MemoryAct.{MemoryAct}
use Rattle.strm_machine.specs.declared.acts.MemoryAct.TheVariants.{Poke, Dump}
use Rattle.strm_machine.specs.declared.acts.Act.{Act}
use Rattle.strm_machine.specs.declared.acts.Act.TheVariants.{Make, OnEnd, Transfer, OnLoose, OnHost, Drive, Event, OnSet, OnContext, OnMemory}

-- a condition, and the refusal that it gives
pub record Reason : Type 0 where
  pub holds : Bool
  pub refusal : Refusal

-- where this holds, this refusal
abbrev pub where_ : Bool → Refusal → Reason
where_ holds refusal = record { holds = holds; refusal = refusal }

-- the first reason that holds
abbrev pub first_of : List Reason → Option Refusal
first_of [] = None
first_of (reason ∷ more) = if reason.holds then Some reason.refusal else first_of more

-- what a read or write of an end that can't any more is refused with
abbrev pub ended_refusal : Side → TransmitKind → Refusal
ended_refusal Writing AStream = refusals.WriteToDroppedStream
ended_refusal Writing Future = refusals.WriteToDroppedFuture
ended_refusal Reading AStream = refusals.ReadFromDroppedStream
ended_refusal Reading Future = refusals.FutureAlreadyRead

-- a read or write: the guest, the count and the region
abbrev pub region_reasons : State → ℕ → TransmitIndex → ℕ → ℕ → List Reason
region_reasons state g ty address count =
    where_ (is_unknown_guest state g) refusals.UnknownGuest
    ∷ where_ (is_too_big ty count) refusals.StreamOpTooBig
    ∷ where_ (names_out_of_bounds state g ty address count) refusals.OutOfBounds
    ∷ where_ (names_misaligned ty address count) refusals.NotAligned
    ∷ []

-- the handle, by what the table answers
abbrev pub handle_reasons : Name → List Reason
handle_reasons name =
    where_ (is_unknown_handle name) refusals.UnknownHandle
    ∷ where_ (is_wrong_kind name) refusals.WrongKind
    ∷ where_ (is_wrong_type name) refusals.WrongType
    ∷ []

-- the end that is named, and what waits on the other side
abbrev pub end_reasons_of : Stream → Side → ℕ → TransmitIndex → Side → List Reason
end_reasons_of stream side g ty named =
    where_ (not (same_side side named) || is_busy side stream) refusals.ConcurrentFutureStreamOp
    ∷ where_ (has_ended side (kind_of ty) stream) (ended_refusal side (kind_of ty))
    ∷ where_ (is_within_one_guest g side ty stream) refusals.IntraComponent
    ∷ []

-- in all but a read or write: the handle is the other end
abbrev pub side_reasons : Side → Side → List Reason → List Reason
side_reasons side named more = where_ (not (same_side side named)) refusals.WrongEnd ∷ more

-- the end that is named in a drop
abbrev pub drop_reasons_of : Stream → Side → TransmitIndex → Side → List Reason
drop_reasons_of stream side ty named =
    side_reasons side named
    (where_ (is_busy side stream) refusals.Busy
    ∷ where_ (owes_value side (kind_of ty) stream) refusals.FutureWithoutValue
    ∷ [])

-- the end that is named in a cancel
abbrev pub cancel_reasons_of : Stream → Side → Side → List Reason
cancel_reasons_of stream side named =
    side_reasons side named
    (where_ (not (is_busy side stream)) refusals.NoPending
    ∷ where_ (is_cancel_under_way side stream) refusals.CancelUnderWay
    ∷ [])

-- the end on a side, which is to leave its guest
abbrev pub leave_reasons_of : Stream → Side → List Reason
leave_reasons_of stream side =
    where_ (is_busy side stream) refusals.Busy
    ∷ where_ (is_spent side stream) refusals.LiftDropped
    ∷ []

-- what stands before the handle: for a read or write the guest, the count and the region
abbrev pub front_reasons : State → NamedEnd → EndAct → List Reason
front_reasons state end (Operate address count) = region_reasons state end.guest end.ty address count
front_reasons state end _ = where_ (is_unknown_guest state end.guest) refusals.UnknownGuest ∷ []

-- what stands behind it: the end that is named, by what is done to it
abbrev pub own_reasons_of : Stream → Side → NamedEnd → EndAct → Side → List Reason
own_reasons_of stream side end (Operate address count) named =
    end_reasons_of stream side end.guest end.ty named
own_reasons_of stream side end Drop named = drop_reasons_of stream side end.ty named
own_reasons_of stream side end Cancel named = cancel_reasons_of stream side named
own_reasons_of stream side end Lift named = side_reasons side named (leave_reasons_of stream side)

-- the same, of the stream that the handle names
abbrev pub own_reasons : State → Side → NamedEnd → EndAct → List Reason
own_reasons state side end act =
    own_reasons_of (stream_at state (stream_named (named state end))) side end act
    (side_named (named state end))

-- what stands last in a lift: that the end is in a set
abbrev pub last_reasons : State → NamedEnd → EndAct → List Reason
last_reasons state end Lift = where_ (is_in_set state end.guest end.handle) refusals.LiftInSet ∷ []
last_reasons state end _ = []

-- whatever is done to the end that is named
abbrev pub on_end_reasons : State → Side → NamedEnd → EndAct → List Reason
on_end_reasons state side end act =
    front_reasons state end act
    ++ ((handle_reasons (named state end) ++ own_reasons state side end act)
    ++ last_reasons state end act)

-- the end that a handle names, whichever of the two it is, which is to leave its guest
abbrev pub leave_reasons : State → NamedEnd → List Reason
leave_reasons state end =
    leave_reasons_of (stream_at state (stream_named (named state end))) (side_named (named state end))

-- what stands last in a move: that the end is in a set, and the number that it gets once its handle is
-- freed. A move leaves as many handles as there were, so that it meets no limit on them
abbrev pub given_reasons : State → NamedEnd → ℕ → List Reason
given_reasons state end to =
    where_ (is_in_set state end.guest end.handle) refusals.LiftInSet
    ∷ where_ (is_no_handle (next_in (without_handle state end.guest end.handle) to)) refusals.IndexOverflow
    ∷ []

-- a move of an end: both guests, the handle, the end, and what stands last
abbrev pub transfer_reasons : State → NamedEnd → ℕ → List Reason
transfer_reasons state end to =
    where_ (is_unknown_guest state end.guest || is_unknown_guest state to) refusals.UnknownGuest
    ∷ ((handle_reasons (named state end) ++ leave_reasons state end) ++ given_reasons state end to)

-- a stream whose read end is to be loose, and of a type
abbrev pub reader_reasons : State → ℕ → TransmitIndex → List Reason
reader_reasons state reader ty =
    where_ (is_unknown_reader state reader) refusals.UnknownReader
    ∷ where_ (is_of_other_kind ty (stream_at state reader)) refusals.WrongKind
    ∷ where_ (is_of_other_payload ty (stream_at state reader)) refusals.WrongType
    ∷ []

-- what is done to a loose read end
abbrev pub on_loose_reasons : State → ℕ → LooseAct → List Reason
on_loose_reasons state reader (Lower g ty) =
    where_ (is_unknown_guest state g) refusals.UnknownGuest
    ∷ (reader_reasons state reader ty
    ++ where_ (is_no_handle (next_in state g)) refusals.IndexOverflow
    ∷ where_ (are_handles_full state 1) refusals.HandleLimit
    ∷ [])
on_loose_reasons state reader Close =
    where_ (is_unknown_reader state reader) refusals.UnknownReader ∷ []

-- a handle of no type, by what the table answers: of an end that is to be told something or is to be
-- in a set, of a set, or of an error context
abbrev pub slot_reasons : {A : Type 0} → Result A HandleError → List Reason
slot_reasons answer =
    where_ (is_unknown_handle answer) refusals.UnknownHandle
    ∷ where_ (is_wrong_kind answer) refusals.WrongKind
    ∷ []

-- the set that an end is to join; set 0 is none
abbrev pub joined_reasons : State → ℕ → ℕ → List Reason
joined_reasons state g set = if set == 0 then [] else slot_reasons (set_named state g set)

-- the set, and the end that joins it, by what is done to the set
abbrev pub set_reasons : State → ℕ → ℕ → SetAct → List Reason
set_reasons state g set (set_acts.Join handle) =
    joined_reasons state g set ++ slot_reasons (end_named state g handle)
set_reasons state g set set_acts.Poll = slot_reasons (set_named state g set)
set_reasons state g set set_acts.Drop =
    slot_reasons (set_named state g set)
    ++ where_ (has_member state g (number_named (set_named state g set))) refusals.SetNotEmpty
    ∷ []

-- the guest and its handle to an error context
abbrev pub context_reasons : State → ℕ → ℕ → List Reason
context_reasons state g handle =
    where_ (is_unknown_guest state g) refusals.UnknownGuest
    ∷ slot_reasons (context_named state g handle)

-- a handle more of a guest
abbrev pub handle_more_reasons : State → ℕ → List Reason
handle_more_reasons state g =
    where_ (is_no_handle (next_in state g)) refusals.IndexOverflow
    ∷ where_ (are_handles_full state 1) refusals.HandleLimit
    ∷ []

-- what is done to the error context that a handle names; for a transfer both guests stand before the
-- handle
abbrev pub on_context_reasons : State → ℕ → ℕ → ContextAct → List Reason
on_context_reasons state g handle (context_acts.Text address) =
    context_reasons state g handle
    ++ where_ (are_bytes_out_of_bounds state g address (length (message_named state g handle)))
    refusals.OutOfBounds
    ∷ []
on_context_reasons state g handle (context_acts.Move to) =
    where_ (is_unknown_guest state g || is_unknown_guest state to) refusals.UnknownGuest
    ∷ (slot_reasons (context_named state g handle) ++ handle_more_reasons state to)
on_context_reasons state g handle context_acts.Drop = context_reasons state g handle

-- the error context of a number that a guest is to get a handle to, which is no step
abbrev pub lower_context_reasons : State → ℕ → ℕ → List Reason
lower_context_reasons state number g =
    where_ (is_unknown_guest state g) refusals.UnknownGuest
    ∷ where_ (is_unknown_context state number) refusals.UnknownHandle
    ∷ handle_more_reasons state g

-- what is made
abbrev pub making_reasons : State → Making → List Reason
making_reasons state (Guest size) =
    where_ (is_memory_too_big state size) refusals.MemoryTooBig
    ∷ where_ (are_guests_full state) refusals.Full
    ∷ []
making_reasons state (Between writer reader ty) =
    where_ (is_unknown_guest state writer || is_unknown_guest state reader) refusals.UnknownGuest
    ∷ where_ (is_no_handle (next_index (guest_in state.guests reader).handles)
    || is_no_handle (writer_index state writer reader ty)) refusals.IndexOverflow
    ∷ where_ (are_handles_full state 2) refusals.HandleLimit
    ∷ where_ (are_places_full state 3 || are_streams_full state) refusals.Full
    ∷ []
making_reasons state (Set g) =
    where_ (is_unknown_guest state g) refusals.UnknownGuest
    ∷ where_ (is_no_handle (next_in state g)) refusals.IndexOverflow
    ∷ where_ (are_handles_full state 1) refusals.HandleLimit
    ∷ where_ (are_places_full state 1) refusals.Full
    ∷ []
making_reasons state (Context g address len) =
    where_ (is_unknown_guest state g) refusals.UnknownGuest
    ∷ where_ (is_message_too_long len) refusals.MessageTooLong
    ∷ where_ (are_bytes_out_of_bounds state g address len) refusals.OutOfBounds
    ∷ where_ (is_bad_text state g address len) refusals.BadText
    ∷ (handle_more_reasons state g ++ where_ (are_places_full state 1) refusals.Full ∷ [])

-- bytes of a guest's memory from an address on, so many
abbrev pub bytes_reasons : State → ℕ → ℕ → ℕ → List Reason
bytes_reasons state g address count =
    where_ (is_unknown_guest state g) refusals.UnknownGuest
    ∷ where_ (are_bytes_out_of_bounds state g address count) refusals.OutOfBounds
    ∷ []

-- what is done to a guest's memory
abbrev pub memory_reasons : State → ℕ → MemoryAct → List Reason
memory_reasons state g (Poke address bytes) = bytes_reasons state g address (length bytes)
memory_reasons state g (Dump address len) = bytes_reasons state g address (min len 64)

-- the reasons of what a step does, in their order. This is the machine where no host end is there: of
-- what is done to one, none is known
abbrev pub reasons : State → Act → List Reason
reasons state (Make making) = making_reasons state making
reasons state (OnEnd side end act) = on_end_reasons state side end act
reasons state (Transfer end to) = transfer_reasons state end to
reasons state (OnLoose reader act) = on_loose_reasons state reader act
reasons state (OnHost host act) = where_ true refusals.UnknownHost ∷ []
reasons state Drive = []
reasons state (Event g handle) =
    where_ (is_unknown_guest state g) refusals.UnknownGuest ∷ slot_reasons (end_named state g handle)
reasons state (OnSet g set act) =
    where_ (is_unknown_guest state g) refusals.UnknownGuest ∷ set_reasons state g set act
reasons state (OnContext g handle act) = on_context_reasons state g handle act
reasons state (OnMemory g act) = memory_reasons state g act

-- why it is refused, if it is
unfoldable pub refusal : State → Act → Option Refusal
refusal state act = first_of (reasons state act)
