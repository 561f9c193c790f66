use Rattle.std.proofs.Common.{rules}
use Rattle.strm_host_turns.proofs.writer_turns.judge_writer.Goals as goal

pub returns-then-breaks_as_writer : goal.returns-then-breaks_as_writer
returns-then-breaks_as_writer c = search rules
