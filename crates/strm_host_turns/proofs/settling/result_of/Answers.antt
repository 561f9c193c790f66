use Rattle.std.proofs.Common.{rules}
use Rattle.strm_host_turns.proofs.settling.result_of.Goals as goal

pub returns-in-Pending : goal.returns-in-Pending
returns-in-Pending c = search rules
