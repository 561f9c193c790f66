-- What a turn makes of a chain, and what a chain has come to. Ours.
use Rattle.std.specs.Prelude.{◌≡◌, ℕ, ◌+◌, ◌-◌, ◌≤◌, Bool, true, false, List, [], length}
use Rattle.strm_machine.specs.Plays.{play, Ends}
use Rattle.strm_laws.specs.Starts.{run_start}
use Rattle.strm_machine.specs.declared.steps.Step.{Step}
use Rattle.strm_machine.specs.declared.replies.Reply.{Reply}
use Rattle.strm_chain.specs.declared.workers.Worker.{Worker}
use Rattle.strm_chain.specs.declared.workers.ChainTurn.{ChainTurn}
use Rattle.strm_chain.specs.Stages.{composed}
use Rattle.strm_chain.specs.Playing.{ChainPlay}
use Rattle.strm_chain.specs.Reporting.{is_told}
use Rattle.strm_chain.specs.Turning.{Turns}
use Rattle.strm_chain.specs.Flowing.{Flows}
use Rattle.strm_chain.specs.Keeping.{ChainState, stages_of, input_of, ChainGoesOn}
use Rattle.strm_chain.specs.Measuring.{LowersMeasure}

-- a chain of these guests that goes on
abbrev pub chain_of : ChainPlay → List Worker → ℕ → ChainState
chain_of played workers chunk = record {
  play = played;
  workers = workers;
  chunk = chunk;
  failed = false;
}

-- a turn of a guest: by at most two steps of this guest alone, which the machine answered, the chain goes on; and
-- it has less to do, or all is as it was and the guest is stuck
pub record TakesTurn (who : ℕ) (turn : ChainTurn) (old new : ChainState) : Type 0 where
  pub turns : Turns (length old.workers - 1) old.chunk who turn old.play new.play
  pub short : length new.play.steps ≤ length old.play.steps + 2
  pub goes_on : ChainGoesOn old new
  pub runs : new.failed ≡ false
  pub lowers : LowersMeasure who turn old.play.state old.workers new.play.state new.workers

-- what a chain of these guests has come to, ended or not: its steps and the machine's replies, whether the last
-- report of the sink is that there is no more, and what flowed, as a run of which the laws speak
pub record ComesTo (played : ChainPlay) (workers : List Worker) (output : List ℕ) (over : Bool)
    (made : List Step) (told : List Reply) : Type 0 where
  pub steps_are : made ≡ played.steps
  pub replies_are : told ≡ played.replies
  pub plays : play [] run_start made ≡ Ends told played.state
  pub ended : over ≡ is_told (length workers - 1) made told
  pub flows : Flows (stages_of workers) (input_of workers) output made
  pub whole : over ≡ true → output ≡ composed (stages_of workers) (input_of workers)
  pub within : length made ≤ 4294967295
