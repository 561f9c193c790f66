-- Host readers tell what they took.
use Rattle.strm_host_laws.proofs.ToldTaken.{run-tells_taken}
use Rattle.strm_host_laws.proofs.runs.readers_tell_what_they_took.Goals as goal

pub returns : goal.returns
returns c tag limits old new run count s r a = run-tells_taken tag limits old new run count s r a
