-- What waits on a stream, and what a function over guests and a stream did, as a turn of the machine.
-- Ours.
use Rattle.std.specs.Prelude.{◌≡◌, ℕ, true, List, Option, Some, None, Result, Ok, Err, OnOk, OnErr}
use Rattle.strm_codes.specs.declared.codes.ReturnCode.{ReturnCode}
use Rattle.strm_codes.specs.declared.payloads.Payload.{Payload}
use Rattle.strm_memory.specs.declared.copies.BadItem.{BadItem}
use Rattle.strm_machine.specs.State as machine
use Rattle.strm_machine.specs.Meetings.{carried}
use Rattle.strm_machine.specs.Sides.{end_of}
use Rattle.strm_machine.specs.Operating.{Operated}
use Rattle.strm_machine.specs.declared.streams.Operation.{Operation}
use Rattle.strm_machine.specs.declared.streams.Side.{Side}
use Rattle.strm_machine.specs.declared.streams.Stream.{Stream}
use Rattle.strm_channels.specs.Guests.{guests_of}
use Rattle.strm_channels.specs.declared.guests.Guest.{Guest}

-- the operation of the end on a side is this one, and it is open
pub record Waits (side : Side) (stream : Stream) (operation : Operation) : Type 0 where
  pub there : (end_of side stream).operation ≡ Some operation
  pub is_open : operation.is_open ≡ true

-- so many items go from where the write's next ones lie to where the read's are to lie, or one of them is
-- bad and nothing changes
pub record Carries (before after : List machine.Guest) (payload : Payload) (write read : Operation) (count : ℕ) (result : Result (Unit {0}) BadItem) : Type 0 where
  pub ok : OnOk result (carried before payload write read count ≡ Some after)
  pub bad : OnErr result (carried before payload write read count ≡ None)
  pub err : OnErr result (after ≡ before)

-- a code, or none for a bad item
abbrev pub answered_code : Result ReturnCode BadItem → Option ReturnCode
answered_code (Ok code) = Some code
answered_code (Err error) = None

-- the code that was answered, and the guests and the stream afterwards
abbrev pub meeting_answered : Result ReturnCode BadItem → List Guest → Stream → Operated
meeting_answered result guests stream = record { code = answered_code result; guests = guests_of guests; stream = stream }
