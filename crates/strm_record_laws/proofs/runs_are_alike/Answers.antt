use Rattle.std.proofs.Common.{[]}
use Rattle.strm_record_laws.proofs.StepLemmas.{host_play-alike}
use Rattle.strm_record_laws.proofs.runs_are_alike.Goals as goal

pub returns : goal.returns
returns c = λ a b steps l. host_play-alike steps [] a b l
