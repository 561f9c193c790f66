-- What an end of a stream or future is told, what telling it leaves, and what a cancel answers.
-- Canonical ABI, `Waitable` with its pending event, the events of `canon stream.{read,write}` and
-- `canon future.{read,write}`, and `canon stream.cancel-{read,write}`; wasmtime,
-- `futures_and_streams.rs`, the events of a waitable. Ours: a report is told by what it depends on, wherever it is kept.
use Rattle.std.specs.Prelude.{ℕ, Bool, true, false, ◌&&◌, ◌||◌, not, if◌then◌else◌, Option, Some, None}
use Rattle.strm_codes.specs.Codes.{completed_code}
use Rattle.strm_codes.specs.declared.codes.ReturnCode.{ReturnCode}
use Rattle.strm_codes.specs.declared.codes.ReturnCode.TheVariants as codes
use Rattle.strm_codes.specs.declared.codes.StreamResult.{StreamResult}
use Rattle.strm_codes.specs.declared.codes.StreamResult.TheVariants.{Completed, Dropped, Cancelled}
use Rattle.strm_codes.specs.declared.codes.TransmitKind.{TransmitKind}
use Rattle.strm_codes.specs.declared.codes.TransmitKind.TheVariants.{Stream, Future}
use Rattle.strm_events.specs.declared.reports.Pending.{Pending}

-- how an operation that has met came out, with the items that it moved; a future's Completed carries 0
abbrev pub outcome_code : TransmitKind → StreamResult → ℕ → ReturnCode
outcome_code kind Completed moved = completed_code kind moved
outcome_code kind Dropped moved = codes.Dropped moved
outcome_code kind Cancelled moved = codes.Cancelled moved

-- of an operation that has met, how it came out; else what stands behind it
abbrev pub met_or : TransmitKind → Pending → Option ReturnCode → Option ReturnCode
met_or kind pending behind =
    if pending.met then Some (outcome_code kind pending.outcome pending.moved) else behind

-- the report of an operation. A stream's whose other end is gone is Dropped with all that it moved,
-- also where it has met; a future's is Dropped only where it has not met and no value passed
abbrev pub operation_report : TransmitKind → Pending → Bool → Bool → Option ReturnCode
operation_report Stream pending other_gone passed =
    if other_gone then Some (codes.Dropped pending.moved) else met_or Stream pending None
operation_report Future pending other_gone passed =
    met_or Future pending (if other_gone && not passed then Some (codes.Dropped 0) else None)

-- the report of an idle end: unasked, and once, that the other end is gone
abbrev pub idle_report : Bool → Bool → Bool → Option ReturnCode
idle_report other_gone told passed =
    if other_gone && not told && not passed then Some (codes.Dropped 0) else None

-- the report of an end: its operation if it has one, whether the other end is gone, whether it was
-- told that, and whether a future's value passed
abbrev pub report_of : TransmitKind → Option Pending → Bool → Bool → Bool → Option ReturnCode
report_of kind None other_gone told passed = idle_report other_gone told passed
report_of kind (Some pending) other_gone told passed = operation_report kind pending other_gone passed

-- a code that tells that the other end is gone
abbrev pub is_dropped : ReturnCode → Bool
is_dropped (codes.Dropped n) = true
is_dropped _ = false

-- the operation after a delivery: what was reported ends it, with whatever it has left
abbrev pub left_pending : {A : Type 0} → Option ReturnCode → Option A → Option A
left_pending None pending = pending
left_pending (Some code) pending = None

-- whether the end was told after a delivery: Dropped tells it
abbrev pub told_after : Option ReturnCode → Bool → Bool
told_after None told = told
told_after (Some code) told = told || is_dropped code

-- what a cancel answers of a report: a stream's Completed as Cancelled, any other as it is
abbrev pub cancelled_code : TransmitKind → ReturnCode → ReturnCode
cancelled_code Stream (codes.Completed n) = codes.Cancelled n
cancelled_code _ code = code

-- what a cancel answers: of a report this, and where there is none yet, that nothing was moved
abbrev pub cancel_answer : TransmitKind → Option ReturnCode → ReturnCode
cancel_answer kind None = codes.Cancelled 0
cancel_answer kind (Some code) = cancelled_code kind code
