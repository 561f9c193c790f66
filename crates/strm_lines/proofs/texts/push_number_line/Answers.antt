use Rattle.std.proofs.Common.{arith}
use Rattle.strm_lines.proofs.TailLemmas.{digit_text}
use Rattle.strm_lines.proofs.texts.push_number_line.Goals as goal

pub returns-then-number-lt10-clause-ok : goal.returns-then-number-lt10-clause-ok
returns-then-number-lt10-clause-ok c = rw (digit_text c.args.number (omega (arith, c.if-number-lt10.true))) c.push_slice.ensures.ok
