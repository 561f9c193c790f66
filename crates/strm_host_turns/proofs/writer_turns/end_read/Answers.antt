use Rattle.std.proofs.Common.{rules}
use Rattle.strm_host_turns.proofs.writer_turns.end_read.Goals as goal

pub returns : goal.returns
returns c = search rules
