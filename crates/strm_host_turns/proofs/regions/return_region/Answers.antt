use Rattle.std.proofs.Common.{rules}
use Rattle.strm_host_turns.proofs.regions.return_region.Goals as goal

pub returns-clause-marked : goal.returns-clause-marked
returns-clause-marked c = search rules
