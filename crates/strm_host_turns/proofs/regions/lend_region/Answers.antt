use Rattle.std.proofs.Common.{rules}
use Rattle.strm_host_turns.proofs.regions.lend_region.Goals as goal

pub returns-clause-window : goal.returns-clause-window
returns-clause-window c = search rules
