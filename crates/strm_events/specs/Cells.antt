-- An end as its cell keeps it: what its report depends on, and how each call of the cell changes that.
-- Canonical ABI, `Waitable` with its pending event; wasmtime, `futures_and_streams.rs`, `ReadState`,
-- `WriteState` and the event that is stored with them. Ours: the parts of the report are one record.
use Rattle.std.specs.Prelude.{ℕ, ◌+◌, Bool, true, false, Option, Some, None}
use Rattle.std.specs.Option.{option_map}
use Rattle.strm_codes.specs.declared.codes.ReturnCode.{ReturnCode}
use Rattle.strm_codes.specs.declared.codes.StreamResult.{StreamResult}
use Rattle.strm_codes.specs.declared.codes.StreamResult.TheVariants.{Completed}
use Rattle.strm_codes.specs.declared.codes.TransmitKind.{TransmitKind}
use Rattle.strm_events.specs.Reports.{report_of, left_pending, told_after}
use Rattle.strm_events.specs.declared.reports.Pending.{Pending}

-- an end's operation, if it has one; whether the other end is gone, whether this end was told that,
-- and whether a future's value passed
pub record Cell : Type 0 where
  pub kind : TransmitKind
  pub pending : Option Pending
  pub other_gone : Bool
  pub told : Bool
  pub passed : Bool

-- the report of the end
abbrev pub kept_report : Cell → Option ReturnCode
kept_report cell = report_of cell.kind cell.pending cell.other_gone cell.told cell.passed

-- an end without operation, whose other end is there
abbrev pub new_cell : TransmitKind → Cell
new_cell kind = record { kind = kind; pending = None; other_gone = false; told = false; passed = false }

-- an operation that is just called
abbrev pub just_begun : Pending
just_begun = record { is_open = true; met = false; asked = false; moved = 0; outcome = Completed }

-- an operation of which so many items more were moved
abbrev pub with_moved : ℕ → Pending → Pending
with_moved items pending = record pending { moved = pending.moved + items }

-- an operation that met the other side, and goes on as is said
abbrev pub with_met : ℕ → Bool → Pending → Pending
with_met items is_open pending =
    record (with_moved items pending) { is_open = is_open; met = true; outcome = Completed }

-- an operation that came out so
abbrev pub with_outcome : StreamResult → Pending → Pending
with_outcome outcome pending = record pending { is_open = false; met = true; outcome = outcome }

-- an operation whose host end was asked to finish
abbrev pub with_asked : Pending → Pending
with_asked pending = record pending { asked = true }

-- an operation whose report was withdrawn
abbrev pub unmet : Pending → Pending
unmet pending = record pending { met = false }

-- the cell with another operation, or with none
abbrev pub with_pending : Cell → Option Pending → Cell
with_pending cell pending = record cell { pending = pending }

-- the cell whose operation, if it has one, goes on so
abbrev pub cell_changed : (Pending → Pending) → Cell → Cell
cell_changed change cell = with_pending cell (option_map change cell.pending)

-- the cell after its report was taken
abbrev pub told_cell : Cell → Cell
told_cell cell = record cell {
  pending = left_pending (kept_report cell) cell.pending;
  told = told_after (kept_report cell) cell.told;
}

-- an operation may still be met
abbrev pub may_meet : Option Pending → Bool
may_meet None = false
may_meet (Some pending) = pending.is_open

-- how many items were moved since the call
abbrev pub moved_so_far : Option Pending → ℕ
moved_so_far None = 0
moved_so_far (Some pending) = pending.moved
