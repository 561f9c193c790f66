use Rattle.std.proofs.Common.{rules}
use Rattle.strm_host_turns.proofs.writer_turns.note_answer.Goals as goal

pub returns : goal.returns
returns c = search rules
