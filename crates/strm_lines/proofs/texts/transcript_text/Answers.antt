use Rattle.std.proofs.Common.{rules}
use Rattle.strm_lines.proofs.texts.transcript_text.Goals as goal

pub returns : goal.returns
returns c = search rules
