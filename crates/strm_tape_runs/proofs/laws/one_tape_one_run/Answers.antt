use Rattle.strm_tape_runs.proofs.PlayLemmas.{one_play}
use Rattle.strm_tape_runs.proofs.laws.one_tape_one_run.Goals as goal

pub returns : goal.returns
returns c = λ tape a b p q. one_play tape a b p q
