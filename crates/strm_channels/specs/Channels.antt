-- A stream as the store keeps it: of each end who has it, where its operation's next item lies, and
-- its cell; and the machine's stream that it stands for. Ours.
use Rattle.std.specs.Prelude.{◌≡◌, ℕ, ◌+◌, ◌-◌, ◌*◌, true, false}
use Rattle.std.specs.Option.{option_map}
use Rattle.strm_codes.specs.Layout.{item_type}
use Rattle.strm_codes.specs.ItemTypes.{item_size}
use Rattle.strm_codes.specs.declared.codes.StreamResult.{StreamResult}
use Rattle.strm_codes.specs.declared.payloads.Payload.{Payload}
use Rattle.strm_events.specs.declared.reports.Pending.{Pending}
use Rattle.strm_events.specs.Cells.{Cell}
use Rattle.strm_channels.specs.declared.channels.Place.{Place}
use Rattle.strm_channels.specs.declared.channels.Part.{Part}
use Rattle.strm_channels.specs.declared.channels.Channel.TheInside.{Inside}
use Rattle.strm_machine.specs.State.{is_gone}
use Rattle.strm_machine.specs.Sides.{end_of}
use Rattle.strm_machine.specs.Endings.{pending_of, is_other_gone}
use Rattle.strm_machine.specs.declared.streams.Side.{Side}
use Rattle.strm_machine.specs.declared.streams.Operation.{Operation}
use Rattle.strm_machine.specs.declared.streams.End.{End}
use Rattle.strm_machine.specs.declared.streams.Stream.{Stream}

-- an operation, of its place and of what its report depends on
abbrev pub operation_of : Place → Pending → Operation
operation_of place pending = record {
  guest = place.guest;
  address = place.address;
  left = place.left;
  moved = pending.moved;
  is_open = pending.is_open;
  met = pending.met;
  asked = pending.asked;
  outcome = pending.outcome;
}

-- the machine's end
abbrev pub end_of_part : Part → End
end_of_part part = record {
  owner = part.owner;
  told = part.cell.told;
  operation = option_map (operation_of part.place) part.cell.pending;
}

-- the machine's stream
abbrev pub stream_of : Inside → Stream
stream_of channel = record {
  kind = channel.writer.cell.kind;
  payload = channel.payload;
  passed = channel.writer.cell.passed;
  writer = end_of_part channel.writer;
  reader = end_of_part channel.reader;
  received = channel.received;
}

-- both cells are of one stream, and each knows whether the other end is gone
pub record AreCellsTied (writer reader : Part) : Type 0 where
  pub kind : reader.cell.kind ≡ writer.cell.kind
  pub passed : reader.cell.passed ≡ writer.cell.passed
  pub writer_sees : writer.cell.other_gone ≡ is_gone reader.owner
  pub reader_sees : reader.cell.other_gone ≡ is_gone writer.owner

-- the cell of the end on a side, of the machine's stream
abbrev pub cell_of : Side → Stream → Cell
cell_of side stream = record {
  kind = stream.kind;
  pending = option_map pending_of (end_of side stream).operation;
  other_gone = is_other_gone side stream;
  told = (end_of side stream).told;
  passed = stream.passed;
}

-- a part of which no more than the operation changed
pub record IsKeptIn (before after : Part) : Type 0 where
  pub kind : after.cell.kind ≡ before.cell.kind
  pub passed : after.cell.passed ≡ before.cell.passed
  pub sees : after.cell.other_gone ≡ before.cell.other_gone

-- an operation of which so many items more were moved
abbrev pub operation_gone_on : Payload → Operation → ℕ → Operation
operation_gone_on payload operation n = record operation {
  address = operation.address + item_size (item_type payload) * n;
  left = operation.left - n;
  moved = operation.moved + n;
}

-- an operation that came out so
abbrev pub came_out : StreamResult → Operation → Operation
came_out outcome operation = record operation { is_open = false; met = true; outcome = outcome }

-- an operation whose report was withdrawn; what it moved stays
abbrev pub without_report : Operation → Operation
without_report operation = record operation { met = false }
