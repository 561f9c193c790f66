-- A poll of a producer is one of a host writer.
use Rattle.std.proofs.Common.{◌≡◌, ℕ, Bool, List, [], ◌∷◌, ◌++◌, Option, Some, None, append-nil}
use Rattle.std.proofs.lemmas.List.{take-append-drop}
use Rattle.strm_codes.specs.Layout.{item_type}
use Rattle.strm_memory.specs.Items.{AreItems}
use Rattle.strm_buffers.specs.Listing.{Item}
use Rattle.strm_buffers.specs.Windows.{Lent, room_of}
use Rattle.std.specs.Prelude.{IfSome}
use Rattle.strm_codes.specs.declared.codes.StreamResult.{StreamResult}
use Rattle.strm_buffers.specs.Said.{WriterSaid, in_room, past_room, turn_of, IfAnswered}
use Rattle.strm_buffers.specs.declared.answers.Turn.{Turn}
use Rattle.strm_buffers.proofs.EndLemmas.{IfAnswered-turn_of}
use Rattle.strm_host.specs.Producing.{Plan}
use Rattle.strm_buffers.specs.Tells.{WriterTells, PollsWriter, RisesOnFailed, writer_record}
use Rattle.strm_buffers.specs.declared.answers.Answer.{Answer}

-- what there is room for and what there is not are all
pub room_parts : (room : Option ℕ) (xs : List Item) → in_room room xs ++ past_room room xs ≡ xs
room_parts None xs = append-nil xs
room_parts (Some n) xs = take-append-drop n xs

-- the record of a poll
abbrev pub said_of : Lent → Bool → List Item → Answer → WriterSaid
said_of window finish items answer = record { room = room_of window.place; finish = finish; payload = window.payload; items = items; answer = answer }

-- what a poll of the producer leaves
pub record Did (old new : WriterTells) (window after : Lent) (finish : Bool) (items : List Item) (answer : Answer) : Type 0 where
  pub said : new.said ≡ old.said ++ said_of window finish items answer ∷ []
  pub marked : after.marked ≡ in_room (room_of window.place) items
  pub held : new.holds ≡ past_room (room_of window.place) items
  pub fit : AreItems (item_type old.payload) items
  pub failed : RisesOnFailed answer old.faults new.faults
  pub closed : new.closed ≡ old.closed
  pub heard : new.heard ≡ old.heard
  pub kind : new.kind ≡ old.kind
  pub payload : new.payload ≡ old.payload

pub did_poll : (old new : WriterTells) (window after : Lent) (finish : Bool) (items : List Item) (a : Answer) → Did old new window after finish items a → PollsWriter old new (writer_record window finish after.marked new.holds a) after.marked
did_poll old new window after finish items a d =
    let all : after.marked ++ new.holds ≡ items = rw (d.marked, d.held) (room_parts (room_of window.place) items) in
    rw all (record {
      said_more = d.said;
      fits = d.fit;
      marks = d.marked;
      holds = d.held;
      faults = d.failed;
      closed = d.closed;
      heard = d.heard;
      kind = d.kind;
      payload = d.payload;
    })

-- what is answered is what was planned for a poll with this room that left these items
abbrev pub KeepsPlan : Plan → Option ℕ → Bool → List Item → Turn StreamResult → Type 0
KeepsPlan plan room finish items turn = IfSome plan (λ next. IfAnswered turn (λ answer. next room finish ≡ record { items = items; answer = answer }))

-- and what was planned is done
pub planned_poll : (plan : Plan) (turn : Turn StreamResult) (room : Option ℕ) (finish : Bool) (all items : List Item) (a : Answer) → turn ≡ turn_of a → all ≡ items → IfSome plan (λ next. next room finish ≡ record { items = items; answer = a }) → KeepsPlan plan room finish all turn
planned_poll None turn room finish all items a t e p = p
planned_poll (Some next) turn room finish all items a t e p =
    rw (t, e) (IfAnswered-turn_of a (λ (answer : Answer). next room finish ≡ record { items = items; answer = answer }) p)
