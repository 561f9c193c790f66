use Rattle.std.proofs.Common.{Ok, Err}
use Rattle.strm_session.proofs.PlayingLemmas.{has_run}
use Rattle.strm_session.proofs.StopLemmas.{decided}
use Rattle.strm_session.proofs.runs.run.Goals as goal

pub returns-in-Err-clause-stop : goal.returns-in-Err-clause-stop
returns-in-Err-clause-stop g c = rw c.stopped.ensures (has_run c.new.ensures c.in-Err.ensures.1 c.in-Err.ensures.2).stop

pub returns-in-Err-clause-decided : goal.returns-in-Err-clause-decided
returns-in-Err-clause-decided g c =
    decided _ _ c.args.steps.now (Err c.stopped.result) tt (returns-in-Err-clause-stop g c)

pub returns-in-Ok-clause-decided : goal.returns-in-Ok-clause-decided
returns-in-Ok-clause-decided g c =
    decided _ _ c.args.steps.now (Ok _) (has_run c.new.ensures c.in-Ok.ensures.1 c.in-Ok.ensures.2).ok.played tt
