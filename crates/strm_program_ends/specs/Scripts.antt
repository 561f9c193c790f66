-- What a scripted host writer does, and how often it failed. Ours.
use Rattle.std.specs.Prelude.{◌≡◌, ℕ, ◌+◌, List, [], ◌∷◌, ◌++◌, drop, Bool, false, None}
use Rattle.strm_codes.specs.declared.codes.TransmitKind.{TransmitKind}
use Rattle.strm_codes.specs.declared.payloads.Payload.{Payload}
use Rattle.strm_codes.specs.declared.payloads.Payload.TheVariants.{One}
use Rattle.strm_codes.specs.declared.scalars.Scalar.TheVariants.{U8}
use Rattle.strm_buffers.specs.declared.answers.Answer.{Answer}
use Rattle.strm_buffers.specs.declared.answers.Answer.TheVariants.{Pending, Failed}
use Rattle.strm_codes.specs.Layout.{item_type}
use Rattle.strm_memory.specs.Items.{AreItems, byte_items}
use Rattle.strm_buffers.specs.Listing.{Item}
use Rattle.strm_buffers.specs.Windows.{Lent, room_of}
use Rattle.strm_buffers.specs.Said.{WriterSaid, in_room, past_room}
use Rattle.strm_buffers.specs.Tells.{WriterTells}
use Rattle.strm_program_ends.specs.declared.scripted_writer.WriterTurn.{WriterTurn}
use Rattle.strm_program_ends.specs.declared.scripted_writer.ScriptedWriter.{ScriptedWriter}

-- what the next turn produces: nothing after the last
abbrev pub next_items : List WriterTurn → List Item
next_items [] = []
next_items (turn ∷ turns) = turn.items.items

-- and what it answers
abbrev pub next_turn_answer : List WriterTurn → Answer
next_turn_answer [] = Pending
next_turn_answer (turn ∷ turns) = turn.answer

-- the turn that produces these bytes, and answers so
abbrev pub turn_of_bytes : List ℕ → Answer → WriterTurn
turn_of_bytes bytes answer = record { items = record { payload = One U8; items = byte_items bytes }; answer = answer }

-- one for an answer that is a fault
abbrev pub faults_of_answer : Answer → ℕ
faults_of_answer Failed = 1
faults_of_answer answer = 0

-- how many of these polls failed
abbrev pub faults_in : List WriterSaid → ℕ
faults_in [] = 0
faults_in (said ∷ saids) = faults_of_answer said.answer + faults_in saids

-- what a scripted writer tells
abbrev pub scripted_tells : ScriptedWriter → WriterTells
scripted_tells w =
    record {
      kind = w.kind;
      payload = w.payload;
      said = w.said.items;
      holds = w.held.items;
      faults = faults_in w.said.items;
      closed = w.closed;
      heard = None;
    }

-- what it tells before its first poll
abbrev pub unpolled_writer : TransmitKind → Payload → WriterTells
unpolled_writer kind payload =
    record { kind = kind; payload = payload; said = []; holds = []; faults = 0; closed = false; heard = None }

-- WHAT IT DOES IN A POLL

-- it does its next turn: what it marks, and what it holds since there was no room, are all that this produces
pub record DoesNextTurn (old new : ScriptedWriter) (after : Lent) (answer : Answer) : Type 0 where
  pub answers : answer ≡ next_turn_answer old.turns.items
  pub items : after.marked ++ new.held.items ≡ next_items old.turns.items
  pub turns : new.turns.items ≡ drop 1 old.turns.items

-- the record of a poll that does the next of these turns
abbrev pub turn_record : Lent → Bool → List WriterTurn → WriterSaid
turn_record window finish turns =
    record {
      room = room_of window.place;
      finish = finish;
      payload = window.payload;
      items = next_items turns;
      answer = next_turn_answer turns;
    }

-- the next turn was played: what there is room for is marked, the rest is held, and it is recorded
pub record PlaysTurn (old new : ScriptedWriter) (before after : Lent) (finish : Bool) (answer : Answer) : Type 0 where
  pub answers : answer ≡ next_turn_answer old.turns.items
  pub marked : after.marked ≡ in_room (room_of before.place) (next_items old.turns.items)
  pub held : new.held.items ≡ past_room (room_of before.place) (next_items old.turns.items)
  pub said : new.said.items ≡ old.said.items ++ turn_record before finish old.turns.items ∷ []
  pub fit : AreItems (item_type old.payload) (next_items old.turns.items)
  pub turns : new.turns.items ≡ drop 1 old.turns.items

-- no turn was played
pub record PlaysNone (old new : ScriptedWriter) : Type 0 where
  pub said : new.said.items ≡ old.said.items
  pub turns : new.turns.items ≡ old.turns.items
  pub held : new.held.items ≡ old.held.items

-- what a poll leaves as it is: of what type the writer is, and whether it was closed
pub record SameType (old new : ScriptedWriter) : Type 0 where
  pub kind : new.kind ≡ old.kind
  pub payload : new.payload ≡ old.payload
  pub closed : new.closed ≡ old.closed
