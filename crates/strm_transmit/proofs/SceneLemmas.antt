-- What the turn of a host end keeps: types, owners but that the host end may be gone, handles, and where
-- operations lie.
use Rattle.std.proofs.Common.{◌≡◌, ℕ, ◌≤◌, ◌==◌, Bool, true, false, cond, List, [], ◌∷◌, length, take, drop, length-take, Option, Some, None, Result, Ok, Err, refl, sym, subst, arith}
use Rattle.strm_codes.specs.declared.codes.StreamResult.{StreamResult}
use Rattle.strm_codes.specs.declared.codes.StreamResult.TheVariants as results
use Rattle.strm_buffers.specs.Listing.{Item}
use Rattle.strm_buffers.specs.Tells.{WriterTells, writer_given}
use Rattle.strm_machine.specs.Sides.{opposite, end_of, with_operation}
use Rattle.strm_machine.specs.Operating.{with_received}
use Rattle.strm_machine.specs.Soundness.{sizes_of, IsPlaced, StreamIsPlaced}
use Rattle.strm_machine.specs.declared.streams.Operation.{Operation}
use Rattle.strm_machine.specs.declared.streams.Owner.TheVariants.{Gone}
use Rattle.strm_machine.specs.declared.streams.Producer.{Producer}
use Rattle.strm_machine.specs.declared.streams.Side.{Side}
use Rattle.strm_machine.specs.declared.streams.Side.TheVariants.{Writing, Reading}
use Rattle.strm_machine.specs.declared.streams.Stream.{Stream}
use Rattle.strm_machine.proofs.TurnLemmas.{GuestsKeep}
use Rattle.strm_host_machine.specs.Settling.{went, operation_settled, let_go, moved_on}
use Rattle.strm_host_machine.specs.Attaching.{has_items}
use Rattle.strm_host_machine.specs.WriterTurn.{lowered_items}
use Rattle.strm_transmit.proofs.FitsLemmas.{KeepsType, keeps-polled}
use Rattle.strm_host_machine.proofs.LoweredLemmas.{lowered_items-keeps, went-placed, operation_settled-placed}
use Rattle.strm_host_turns.specs.WriterTurns.{WriterScene, received_by_read, IsWriterPoll, IsEmptyWriterTurn, IsHoldingWriterTurn, IsWriterTurn}
use Rattle.strm_host_turns.specs.declared.writer_turns.WriterStops.{WriterStops}
use Rattle.strm_host_turns.specs.declared.writer_turns.WriterStops.TheVariants.{Failed, OutOfMemory, Broke}

-- ## The stream

-- a stream whose host end, on this side, may be gone
pub record StreamMoves (sizes : List ℕ) (host : Side) (old new : Stream) : Type 0 where
  pub done : Bool
  pub leaves : (end_of host new).owner ≡ cond done Gone (end_of host old).owner
  pub stays : (end_of (opposite host) new).owner ≡ (end_of (opposite host) old).owner
  pub kind : new.kind ≡ old.kind
  pub payload : new.payload ≡ old.payload
  pub placed : StreamIsPlaced sizes new

module _ (sizes : List ℕ) (stream : Stream) (n : ℕ) (operation : Operation) (h : StreamIsPlaced sizes stream) (p : IsPlaced sizes stream.payload operation) where
  -- the stream with n items received, unless there are none, and the operation on a side
  abbrev with_items : Side → Bool → Stream
  with_items side none = with_operation side (cond none stream (with_received stream n)) operation

  moved_by : (side : Side) (none : Bool) (result : Option StreamResult) → StreamMoves sizes (opposite side) stream (let_go (opposite side) result (with_items side none))
  moved_by Reading true None = record { done = false; leaves = refl; stays = refl; kind = refl; payload = refl; placed = record { writer = h.writer; reader = p } }
  moved_by Reading false None = record { done = false; leaves = refl; stays = refl; kind = refl; payload = refl; placed = record { writer = h.writer; reader = p } }
  moved_by Reading true (Some results.Dropped) = record { done = true; leaves = refl; stays = refl; kind = refl; payload = refl; placed = record { writer = h.writer; reader = p } }
  moved_by Reading false (Some results.Dropped) = record { done = true; leaves = refl; stays = refl; kind = refl; payload = refl; placed = record { writer = h.writer; reader = p } }
  moved_by Reading true (Some _) = record { done = false; leaves = refl; stays = refl; kind = refl; payload = refl; placed = record { writer = h.writer; reader = p } }
  moved_by Reading false (Some _) = record { done = false; leaves = refl; stays = refl; kind = refl; payload = refl; placed = record { writer = h.writer; reader = p } }
  moved_by Writing true None = record { done = false; leaves = refl; stays = refl; kind = refl; payload = refl; placed = record { writer = p; reader = h.reader } }
  moved_by Writing false None = record { done = false; leaves = refl; stays = refl; kind = refl; payload = refl; placed = record { writer = p; reader = h.reader } }
  moved_by Writing true (Some results.Dropped) = record { done = true; leaves = refl; stays = refl; kind = refl; payload = refl; placed = record { writer = p; reader = h.reader } }
  moved_by Writing false (Some results.Dropped) = record { done = true; leaves = refl; stays = refl; kind = refl; payload = refl; placed = record { writer = p; reader = h.reader } }
  moved_by Writing true (Some _) = record { done = false; leaves = refl; stays = refl; kind = refl; payload = refl; placed = record { writer = p; reader = h.reader } }
  moved_by Writing false (Some _) = record { done = false; leaves = refl; stays = refl; kind = refl; payload = refl; placed = record { writer = p; reader = h.reader } }

-- a stream of whose operation on a side so many items moved, and which is settled so, if it is
abbrev MovesOn : List ℕ → Side → Stream → Operation → ℕ → Option StreamResult → Type 0
MovesOn sizes side stream operation n result = StreamMoves sizes (opposite side) stream (moved_on side stream operation n result)

pub moved_on-moves : (side : Side) (sizes : List ℕ) (stream : Stream) (operation : Operation) (n : ℕ) (result : Option StreamResult) → StreamIsPlaced sizes stream → IsPlaced sizes stream.payload operation → n ≤ operation.left → MovesOn sizes side stream operation n result
unfolding moved_on
moved_on-moves side sizes stream operation n result h p l =
    moved_by sizes stream n (operation_settled result (went stream.payload operation n)) h
    (operation_settled-placed sizes stream.payload (went stream.payload operation n) result (went-placed sizes stream.payload operation n l p)) side (n == 0) result

pub stays-moves : (sizes : List ℕ) (host : Side) (stream : Stream) → StreamIsPlaced sizes stream → StreamMoves sizes host stream stream
stays-moves sizes host stream h = record { done = false; leaves = refl; stays = refl; kind = refl; payload = refl; placed = h }

-- ## The scene of a turn

pub record SceneKeeps (old after : WriterScene) : Type 0 where
  pub guests : GuestsKeep old.guests after.guests
  pub stream : StreamMoves (sizes_of old.guests) Writing old.stream after.stream
  pub duty : after.producer.duty ≡ old.producer.duty
  pub tells : KeepsType old.tells after.tells

module _ (old : WriterScene) (read : Operation) (p : IsPlaced (sizes_of old.guests) old.stream.payload read) (h : StreamIsPlaced (sizes_of old.guests) old.stream) where
  -- the scene after the read received these items, and the host writer is this
  abbrev after_items : List Item → Option StreamResult → Producer → WriterTells → WriterScene
  after_items items result producer tells = record (received_by_read old read items result) { producer = producer; tells = tells }

  received_keeps : (items : List Item) (result : Option StreamResult) (producer : Producer) (tells : WriterTells) → length items ≤ read.left → producer.duty ≡ old.producer.duty → KeepsType old.tells tells → SceneKeeps old (after_items items result producer tells)
  received_keeps items result producer tells l d k = record {
    guests = lowered_items-keeps old.guests old.stream.payload read items p l;
    stream = moved_on-moves Reading (sizes_of old.guests) old.stream read (length items) result h p l;
    duty = d;
    tells = k;
  }

  stopped_keeps : (items : List Item) (tells : WriterTells) → length items ≤ read.left → KeepsType old.tells tells → SceneKeeps old (record old { guests = lowered_items old.guests old.stream.payload read items; tells = tells })
  stopped_keeps items tells l k = record {
    guests = lowered_items-keeps old.guests old.stream.payload read items p l;
    stream = stays-moves (sizes_of old.guests) Writing old.stream h;
    duty = refl;
    tells = k;
  }

  few : (xs : List Item) → length (take read.left xs) ≤ read.left
  few xs = omega (arith, length-take read.left xs)

  polled_keeps : (result : Result (Unit {0}) WriterStops) (after : WriterScene) → IsWriterPoll result old after read → SceneKeeps old after
  polled_keeps (Ok v) after t =
      subst (SceneKeeps old) (sym t.1.after) (received_keeps _ _ _ after.tells (few t.0.items) refl (keeps-polled old.tells after.tells t.1.polled.polls))
  polled_keeps (Err Failed) after t =
      subst (SceneKeeps old) (sym t.1.stopped.after) (stopped_keeps _ after.tells t.1.stopped.few (keeps-polled old.tells after.tells t.1.polled.polls))
  polled_keeps (Err Broke) after t =
      subst (SceneKeeps old) (sym t.1.stopped.after) (stopped_keeps _ after.tells t.1.stopped.few (keeps-polled old.tells after.tells t.1.polled.polls))
  polled_keeps (Err OutOfMemory) after t =
      subst (SceneKeeps old) (sym t.1.stopped.after) (stopped_keeps _ after.tells t.1.stopped.few (record { kind = t.1.tells.kind; payload = t.1.tells.payload }))

  empty_keeps : (over : Bool) (result : Result (Unit {0}) WriterStops) (after : WriterScene) → IsEmptyWriterTurn over result old after read → SceneKeeps old after
  empty_keeps true result after t = subst (SceneKeeps old) (sym t.1) (received_keeps [] (Some results.Dropped) old.producer old.tells (omega arith) refl (record { kind = refl; payload = refl }))
  empty_keeps false result after t = polled_keeps result after t

  holding_keeps : (held : List Item) (result : Result (Unit {0}) WriterStops) (after : WriterScene) → IsHoldingWriterTurn held result old after read → SceneKeeps old after
  holding_keeps (item ∷ items) result after t = subst (SceneKeeps old) (sym t.1) (received_keeps (take read.left old.tells.holds) (Some results.Completed) (record old.producer { holding = has_items (drop read.left old.tells.holds) }) (writer_given old.tells (Some read.left)) (few old.tells.holds) refl (record { kind = refl; payload = refl }))
  holding_keeps [] result after t = empty_keeps old.producer.over result after t

  -- whatever came of it
  pub turn_keeps : (result : Result (Unit {0}) WriterStops) (after : WriterScene) → IsWriterTurn result old after read → SceneKeeps old after
  turn_keeps result after t = holding_keeps old.tells.holds result after t
