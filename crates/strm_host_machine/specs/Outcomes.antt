-- What comes of a step: it goes on, it stops with a cause, or it finds no record that it is owed. Ours.
use Rattle.std.specs.Prelude.{List}
use Rattle.strm_machine.specs.Reactions.{Reaction}
use Rattle.strm_machine.specs.declared.stops.Stop.{Stop}
use Rattle.strm_machine.specs.declared.stops.Stop.TheVariants.{BadItem, StoreTrapped}
use Rattle.strm_machine.specs.declared.replies.Reply.{Reply}
use Rattle.strm_machine.specs.declared.replies.Reply.TheVariants as replies
use Rattle.strm_host_machine.specs.Ends.{Writer, Reader}
use Rattle.strm_host_machine.specs.World.{World}

-- a reply and the world after it; or a cause, and what the host ends tell then; or nothing, where a
-- record is missing or is of another poll
pub data Outcome : Type 0 where
  Goes : Reply → World → Outcome
  Stops : Stop → List Writer → List Reader → Outcome
  Stuck : Outcome

-- a stop in this world
abbrev pub stops : Stop → World → Outcome
stops stop world = Stops stop world.writers world.readers

-- what is done after a part of a step
abbrev pub then_on : Outcome → (World → Outcome) → Outcome
then_on (Goes reply world) next = next world
then_on (Stops stop writers readers) next = Stops stop writers readers
then_on Stuck next = Stuck

-- it is done, and there is nothing to tell
abbrev pub done : World → Outcome
done world = Goes replies.Done world

-- a reply of the machine without host ends: two of them are stops
abbrev pub of_reply : Reply → World → Outcome
of_reply (replies.BadItem stream) world = stops (BadItem stream) world
of_reply replies.StoreTrapped world = stops StoreTrapped world
of_reply reply world = Goes reply world

-- what the machine does without host ends: they stay as they are
abbrev pub reacted : World → Reaction → Outcome
reacted world reaction = of_reply reaction.reply (record world { state = reaction.state })
