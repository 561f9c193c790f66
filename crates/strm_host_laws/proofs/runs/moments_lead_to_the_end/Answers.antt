-- Moments lead to where a play ends.
use Rattle.std.specs.Prelude.{[]}
use Rattle.strm_host_laws.proofs.Chains.{host_play-ends}
use Rattle.strm_host_laws.proofs.runs.moments_lead_to_the_end.Goals as goal

pub returns : goal.returns
returns c first run all end e = host_play-ends all end [] first run e
