use Rattle.strm_tape_runs.proofs.RunLemmas.{hosts_stay}
use Rattle.strm_tape_runs.proofs.runs.tape_run.Goals as goal

pub returns-in-Some-clause-hosts : goal.returns-in-Some-clause-hosts
returns-in-Some-clause-hosts g c = hosts_stay _

pub returns-then-not-are_tapable-clause-hosts : goal.returns-then-not-are_tapable-clause-hosts
returns-then-not-are_tapable-clause-hosts g c = hosts_stay _
