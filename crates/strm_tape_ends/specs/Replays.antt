-- Host writers that follow a tape. Ours.
use Rattle.std.specs.Prelude.{◌≡◌, false, List, [], ◌∷◌, ◌++◌, drop, map, None}
use Rattle.strm_buffers.specs.declared.answers.Answer.{Answer}
use Rattle.strm_buffers.specs.declared.answers.Answer.TheVariants.{Pending}
use Rattle.strm_buffers.specs.Listing.{Item}
use Rattle.strm_buffers.specs.Windows.{Lent}
use Rattle.strm_buffers.specs.Said.{WriterSaid}
use Rattle.strm_buffers.specs.Tells.{WriterTells}
use Rattle.strm_program_ends.specs.Scripts.{scripted_tells}
use Rattle.strm_program_ends.specs.declared.scripted_writer.WriterTurn.{WriterTurn}
use Rattle.strm_tape_ends.specs.declared.replay_writer.ReplayWriter.{ReplayWriter}

-- the items of the next record of a plan: none behind the last
abbrev pub next_record_items : List WriterSaid → List Item
next_record_items [] = []
next_record_items (said ∷ plan) = said.items

-- and its answer
abbrev pub next_record_answer : List WriterSaid → Answer
next_record_answer [] = Pending
next_record_answer (said ∷ plan) = said.answer

-- the record that a turn makes, but for the room and the wish of its poll
abbrev pub record_of_turn : WriterTurn → WriterSaid
record_of_turn turn = record {
  room = None;
  finish = false;
  payload = turn.items.payload;
  items = turn.items.items;
  answer = turn.answer;
}

-- the records of a tape that a replay writer is still to follow, the next one first
abbrev pub plan_of : ReplayWriter → List WriterSaid
plan_of w = map record_of_turn w.end.turns.items ++ w.coming.said

-- what a replay writer tells
abbrev pub replay_tells : ReplayWriter → WriterTells
replay_tells w = scripted_tells w.end

-- WHAT IT DOES IN A POLL

-- it follows the next record of its plan: what it marks, and what it holds since there was no room, are all
-- items of that
pub record FollowsNext (old new : ReplayWriter) (after : Lent) (answer : Answer) : Type 0 where
  pub answers : answer ≡ next_record_answer (plan_of old)
  pub items : after.marked ++ new.end.held.items ≡ next_record_items (plan_of old)
  pub plan : plan_of new ≡ drop 1 (plan_of old)

-- plans that say the same
pub record SamePlan (old new : List WriterSaid) : Type 0 where
  pub answer : next_record_answer new ≡ next_record_answer old
  pub items : next_record_items new ≡ next_record_items old
  pub behind : drop 1 new ≡ drop 1 old

-- the next of its records is a turn of its script, unless all were followed
abbrev pub IsNextKnown : ReplayWriter → Type 0
IsNextKnown w = w.end.turns.items ≡ [] → w.coming.said ≡ []
