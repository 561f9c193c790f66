use Rattle.std.proofs.Common.{◌≡◌, take, map}
use Rattle.strm_tape_ends.specs.ReaderPlans.{scripted_turn_for}
use Rattle.strm_tape_ends.proofs.replay_reader.turns_of.Given as goal

abbrev pub invariant-loop-k : goal.invariant-loop-k
invariant-loop-k l = l.turns.items ≡ map scripted_turn_for (take l.k l.said)
