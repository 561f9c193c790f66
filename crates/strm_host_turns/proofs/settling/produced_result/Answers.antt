use Rattle.std.proofs.Common.{rules}
use Rattle.strm_host_turns.proofs.settling.produced_result.Goals as goal

pub returns-in_default : goal.returns-in_default
returns-in_default c = search rules
