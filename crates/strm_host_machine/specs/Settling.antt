-- What a host end's turn does to the read or write on the other side.
-- wasmtime, futures_and_streams.rs, `poll_produce` with what it does to `ReadState`, and `poll_consume`
-- with what it does to `WriteState`; Canonical ABI, the events of `canon stream.{read,write}`.
use Rattle.std.specs.Prelude.{ℕ, ◌+◌, ◌-◌, ◌*◌, ◌^◌, ◌==◌, min, true, false, if◌then◌else◌, Option, Some, None}
use Rattle.strm_codes.specs.Layout.{item_type}
use Rattle.strm_codes.specs.ItemTypes.{item_size}
use Rattle.strm_codes.specs.declared.payloads.Payload.{Payload}
use Rattle.strm_codes.specs.declared.codes.ReturnCode.{ReturnCode}
use Rattle.strm_codes.specs.declared.codes.ReturnCode.TheVariants.{Blocked}
use Rattle.strm_codes.specs.declared.codes.StreamResult.{StreamResult}
use Rattle.strm_codes.specs.declared.codes.StreamResult.TheVariants as results
use Rattle.strm_buffers.specs.declared.answers.Answer.{Answer}
use Rattle.strm_buffers.specs.declared.answers.Answer.TheVariants.{Pending, Completed, Cancelled, Dropped, Failed}
use Rattle.strm_machine.specs.Sides.{opposite, with_operation}
use Rattle.strm_machine.specs.Operating.{with_received}
use Rattle.strm_machine.specs.Moves.{with_owner}
use Rattle.strm_machine.specs.Endings.{report_on, delivered}
use Rattle.strm_machine.specs.declared.streams.Owner.TheVariants.{Gone}
use Rattle.strm_machine.specs.declared.streams.Side.{Side}
use Rattle.strm_machine.specs.declared.streams.Operation.{Operation}
use Rattle.strm_machine.specs.declared.streams.Stream.{Stream}
use Rattle.strm_machine.specs.declared.replies.Reply.TheVariants as replies
use Rattle.strm_host_machine.specs.World.{World, stream_in, with_stream_in}
use Rattle.strm_host_machine.specs.Outcomes.{Outcome, Goes}

-- how an answer settles an operation: Pending leaves it open
abbrev pub result_of : Answer → Option StreamResult
result_of Pending = None
result_of Completed = Some results.Completed
result_of Cancelled = Some results.Cancelled
result_of Dropped = Some results.Dropped
result_of Failed = None

-- an operation after n of its items came from a host end, or went to it
abbrev pub went : Payload → Operation → ℕ → Operation
went payload operation n = record operation {
  address = operation.address + item_size (item_type payload) * n;
  left = operation.left - n;
  moved = operation.moved + n;
}

-- an operation that is settled so, if it is: it is met, and not open any more
abbrev pub operation_settled : Option StreamResult → Operation → Operation
operation_settled None operation = operation
operation_settled (Some result) operation = record operation { is_open = false; met = true; outcome = result }

-- n items more were received; a future's value, where there was one, has passed
abbrev pub with_some_received : Stream → ℕ → Stream
with_some_received stream n = if n == 0 then stream else with_received stream n

-- a host end that is done with the stream is gone
abbrev pub let_go : Side → Option StreamResult → Stream → Stream
let_go side (Some results.Dropped) stream = with_owner side stream Gone
let_go side _ stream = stream

-- the stream after n items of the operation on a side came from the host end on the other side, or
-- went to it, and the operation is settled so
unfoldable pub moved_on : Side → Stream → Operation → ℕ → Option StreamResult → Stream
moved_on side stream operation n result =
    let_go (opposite side) result
    (with_operation side (with_some_received stream n) (operation_settled result (went stream.payload operation n)))

-- the items that a host reader took since it was last ready
abbrev pub since_after : Answer → ℕ → ℕ → ℕ
since_after Completed since taken = 0
since_after Cancelled since taken = 0
since_after _ since taken = min (since + taken) (2 ^ 32 - 1)

-- a call answers at once what its end is to be told, as a delivery; else its operation waits
abbrev pub answered_with : World → ℕ → Side → Option ReturnCode → Outcome
answered_with world s side (Some code) =
    Goes (replies.Code code) (with_stream_in world s (delivered side (stream_in world s)))
answered_with world s side None = Goes (replies.Code Blocked) world

-- what a call of the end on a side of stream s answers once the host end had its turn
abbrev pub turn_answered : World → ℕ → Side → Outcome
turn_answered world s side = answered_with world s side (report_on side (stream_in world s))
