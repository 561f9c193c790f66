-- The waitable sets of a guest, by the handles that name them: who is a member, which member is told
-- its report by a poll, and sets that are made, joined, left and dropped.
-- Component Model, `WaitableSet` and `Waitable.join`; Canonical ABI, `canon waitable-set.{new,poll,drop}`
-- and `canon waitable.join`. Ours: the least member that has a report is told it, where the Canonical
-- ABI leaves the choice open.
use Rattle.std.specs.Prelude.{ℕ, ◌==◌, Bool, true, false, if◌then◌else◌, List, [], ◌∷◌, is_some, Result, Ok, Err, Option, None}
use Rattle.std.specs.List.{find}
use Rattle.strm_codes.specs.declared.codes.ReturnCode.{ReturnCode}
use Rattle.strm_handles.specs.Handles.{inserted, removed}
use Rattle.strm_handles.specs.Lookups.{waitable_set_rep_of}
use Rattle.strm_handles.specs.declared.entries.Entry.TheVariants as entries
use Rattle.strm_handles.specs.declared.errors.HandleError.{HandleError}
use Rattle.strm_waitable_sets.specs.Sets.{Sets, members, set_of, least_free, with_new_set, handle_joined, handle_left, without_set}
use Rattle.strm_machine.specs.State.{State, guest_in, sets_in, with_sets, with_table, stream_at}
use Rattle.strm_machine.specs.Tests.{Name, end_named, side_of}
use Rattle.strm_machine.specs.Endings.{report_on}

-- WHAT A HANDLE NAMES

-- what a guest's table answers for the handle of a set: the set's number
abbrev pub set_named : State → ℕ → ℕ → Result ℕ HandleError
set_named state g set = waitable_set_rep_of (guest_in state.guests g).handles set

-- the number that is named, of a set or of an error context
abbrev pub number_named : Result ℕ HandleError → ℕ
number_named (Ok number) = number
number_named (Err error) = 0

-- a guest's handle is in a set
abbrev pub is_in_set : State → ℕ → ℕ → Bool
is_in_set state g handle = is_some (set_of (sets_in state.guests g) handle)

-- the list has an element
abbrev pub has_some : List ℕ → Bool
has_some [] = false
has_some (handle ∷ more) = true

-- a guest's set has a member
abbrev pub has_member : State → ℕ → ℕ → Bool
has_member state g number = has_some (members (sets_in state.guests g) number)

-- WHICH MEMBER IS TOLD

-- what the end that is named is to be told, if one is
abbrev pub report_of_named : State → Name → Option ReturnCode
report_of_named state (Ok answer) = report_on (side_of answer.1) (stream_at state answer.0)
report_of_named state (Err error) = None

-- a guest's handle names an end that is to be told something
abbrev pub is_ready : State → ℕ → ℕ → Bool
is_ready state g handle = is_some (report_of_named state (end_named state g handle))

-- the least member of a guest's set that is ready
unfoldable pub ready_member : State → ℕ → ℕ → Option ℕ
ready_member state g number = find (is_ready state g) (members (sets_in state.guests g) number)

-- the same of the set that a handle names
abbrev pub ready_in : State → ℕ → ℕ → Option ℕ
ready_in state g set = ready_member state g (number_named (set_named state g set))

-- WHAT BECOMES OF SETS

-- the state with other sets of a guest
abbrev pub sets_changed : State → ℕ → Sets → State
sets_changed state g sets = record state { guests = with_sets state.guests g sets }

-- the state with a set more of a guest, under its next handle
abbrev pub with_set : State → ℕ → State
with_set state g =
    let guest = guest_in state.guests g in
    record state {
      guests = with_table state.guests g
          (inserted guest.handles (entries.WaitableSet (least_free guest.sets)))
          (with_new_set guest.sets);
    }

-- the sets after a handle joined the one of a number, or left its own
abbrev pub sets_joined : Sets → ℕ → Result ℕ HandleError → ℕ → Sets
sets_joined sets set name handle =
    if set == 0 then handle_left sets handle else handle_joined sets handle (number_named name)

-- the state without the set that a handle of a guest names, and without that handle
abbrev pub without_set_named : State → ℕ → ℕ → State
without_set_named state g set =
    let guest = guest_in state.guests g in
    record state {
      guests = with_table state.guests g
          (removed guest.handles set)
          (without_set guest.sets (number_named (set_named state g set)));
    }
