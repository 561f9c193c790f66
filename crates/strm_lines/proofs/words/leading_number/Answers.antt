use Rattle.std.proofs.Common.{sym, ◌∙◌, arith}
use Rattle.strm_lines.proofs.NumberLemmas.{leading_digit}
use Rattle.strm_lines.proofs.words.leading_number.Goals as goal

pub returns-then-line-eq32 : goal.returns-then-line-eq32
returns-then-line-eq32 c =
    rw (c.from.ensures, c.split_at.ensures.back)
    (sym (leading_digit c.args.line.now (omega (arith, c.if-line-ge2.true)) (sym c.is_ascii_digit.ensures.value ∙ c.if-is_ascii_digit.true) c.if-line-eq32.true))
