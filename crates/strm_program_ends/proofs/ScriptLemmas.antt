-- A scripted writer meets what a poll owes.
use Rattle.std.proofs.Common.{◌≡◌, ℕ, ◌+◌, Bool, List, [], ◌∷◌, ◌++◌, map, Option, Some, None, refl, arith, append-nil}
use Rattle.std.specs.Prelude.{All}
use Rattle.std.proofs.lemmas.Bool.Decides.{nat_tests}
use Rattle.std.proofs.lemmas.List.{take-append-drop}
use Rattle.std.proofs.lemmas.List.Elements.{All-map}
use Rattle.strm_codes.specs.declared.payloads.Payload.TheVariants.{One}
use Rattle.strm_codes.specs.declared.scalars.Scalar.TheVariants.{U8}
use Rattle.strm_codes.specs.Layout.{item_type}
use Rattle.strm_memory.specs.Items.{AreItems}
use Rattle.strm_buffers.specs.Listing.{Item}
use Rattle.strm_buffers.specs.Windows.{Lent, room_of}
use Rattle.strm_buffers.specs.Said.{WriterSaid, in_room, past_room}
use Rattle.strm_buffers.specs.Tells.{PollsWriter, RisesOnFailed, writer_record}
use Rattle.strm_buffers.specs.declared.answers.Answer.{Answer}
use Rattle.strm_buffers.specs.declared.answers.Answer.TheVariants.{Pending, Completed, Cancelled, Dropped, Failed}
use Rattle.strm_program_ends.specs.Scripts.{faults_of_answer, faults_in, scripted_tells, turn_of_bytes}
use Rattle.strm_program_ends.specs.declared.scripted_writer.WriterTurn.{WriterTurn}
use Rattle.strm_program_ends.specs.declared.scripted_writer.ScriptedWriter.{ScriptedWriter}

-- turns of bytes are of bytes
pub bytes_typed : {X : Type 0} (f : X → List ℕ) (g : X → Answer) (xs : List X) → All (λ (turn : WriterTurn). turn.items.payload ≡ One U8) (map (λ x. turn_of_bytes (f x) (g x)) xs)
bytes_typed f g xs = All-map (λ (turn : WriterTurn). turn.items.payload ≡ One U8) (λ x. turn_of_bytes (f x) (g x)) xs (λ k d within. refl)

-- what there is room for and what there is not are all
pub room_parts : (room : Option ℕ) (xs : List Item) → in_room room xs ++ past_room room xs ≡ xs
room_parts None xs = append-nil xs
room_parts (Some n) xs = take-append-drop n xs

faults_in-more : (saids : List WriterSaid) (said : WriterSaid) → faults_in (saids ++ said ∷ []) ≡ faults_in saids + faults_of_answer said.answer
faults_in-more [] said = omega arith
faults_in-more (x ∷ saids) said = omega (arith, faults_in-more saids said)

pub more_faults : (a : Answer) (n : ℕ) → RisesOnFailed a n (n + faults_of_answer a)
more_faults Pending n = omega arith
more_faults Completed n = omega arith
more_faults Cancelled n = omega arith
more_faults Dropped n = omega arith
more_faults Failed n = grind (arith, nat_tests)

-- the record of a poll
abbrev pub said_of : Lent → Bool → List Item → Answer → WriterSaid
said_of window finish items answer = record { room = room_of window.place; finish = finish; payload = window.payload; items = items; answer = answer }

-- what a turn of the script leaves
pub record Turns (old new : ScriptedWriter) (window after : Lent) (finish : Bool) (items : List Item) (answer : Answer) : Type 0 where
  pub said : new.said.items ≡ old.said.items ++ said_of window finish items answer ∷ []
  pub marked : after.marked ≡ in_room (room_of window.place) items
  pub held : new.held.items ≡ past_room (room_of window.place) items
  pub fit : AreItems (item_type old.payload) items
  pub kind : new.kind ≡ old.kind
  pub payload : new.payload ≡ old.payload
  pub closed : new.closed ≡ old.closed

pub turns_poll : (old new : ScriptedWriter) (window after : Lent) (finish : Bool) (items : List Item) (a : Answer) → Turns old new window after finish items a → PollsWriter (scripted_tells old) (scripted_tells new) (writer_record window finish after.marked new.held.items a) after.marked
turns_poll old new window after finish items a t =
    let all : after.marked ++ new.held.items ≡ items = rw (t.marked, t.held) (room_parts (room_of window.place) items) in
    let rises : RisesOnFailed a (faults_in old.said.items) (faults_in new.said.items) = rw (t.said, faults_in-more old.said.items (said_of window finish items a)) (more_faults a (faults_in old.said.items)) in
    rw all (record {
      said_more = t.said;
      fits = t.fit;
      marks = t.marked;
      holds = t.held;
      faults = rises;
      closed = t.closed;
      heard = refl;
      kind = t.kind;
      payload = t.payload;
    })
