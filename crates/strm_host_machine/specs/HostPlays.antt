-- The play of a list of steps with host ends. Ours.
use Rattle.std.specs.Prelude.{List, [], ◌∷◌, ◌++◌}
use Rattle.strm_machine.specs.declared.steps.Step.{Step}
use Rattle.strm_machine.specs.declared.replies.Reply.{Reply}
use Rattle.strm_host_machine.specs.Ends.{Writer, Reader}
use Rattle.strm_host_machine.specs.World.{World}
use Rattle.strm_machine.specs.declared.stops.Stop.{Stop}
use Rattle.strm_host_machine.specs.Outcomes.{Outcome, Goes, Stops, Stuck}
use Rattle.strm_host_machine.specs.Steps.{outcome_of_step}

-- a whole run: all replies and the last world; or the replies before a step that stopped, its cause,
-- and what the host ends tell then; or the replies before a step that finds no record it is owed
pub data HostPlayed : Type 0 where
  Ends : List Reply → World → HostPlayed
  Halts : List Reply → Stop → List Writer → List Reader → HostPlayed
  Hangs : List Reply → HostPlayed

-- after one step
abbrev pub after_host_step : List Reply → Outcome → (List Reply → World → HostPlayed) → HostPlayed
after_host_step told (Goes reply world) next = next (told ++ reply ∷ []) world
after_host_step told (Stops stop writers readers) next = Halts told stop writers readers
after_host_step told Stuck next = Hangs told

-- the steps in order from a world, behind replies already told
abbrev pub host_play : List Reply → World → List Step → HostPlayed
host_play told world [] = Ends told world
host_play told world (step ∷ more) =
    after_host_step told (outcome_of_step world step) (λ told' world'. host_play told' world' more)
