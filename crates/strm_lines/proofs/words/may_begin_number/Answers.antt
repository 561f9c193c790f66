use Rattle.std.proofs.Common.{sym, ◌∙◌, get_or, arith}
use Rattle.std.proofs.lemmas.Bool.{eqb-true, eqb-false}
use Rattle.strm_lines.proofs.NumberLemmas.{begins_digit, begins_zero, begins_other, begins_short}
use Rattle.strm_lines.proofs.words.may_begin_number.Goals as goal

pub returns-then-line-lt2-clause-no : goal.returns-then-line-lt2-clause-no
returns-then-line-lt2-clause-no c = λ _. begins_short c.args.line.now (omega (arith, c.if-line-lt2.true))

pub returns-then-not-is_ascii_digit-clause-no : goal.returns-then-not-is_ascii_digit-clause-no
returns-then-not-is_ascii_digit-clause-no c = λ _.
    begins_other c.args.line.now (omega (arith, c.if-line-lt2.false)) (sym c.is_ascii_digit.ensures.value ∙ c.if-not-is_ascii_digit.true)

pub returns-then-line-ne48-clause-yes : goal.returns-then-line-ne48-clause-yes
returns-then-line-ne48-clause-yes c = λ _.
    begins_digit c.args.line.now (omega (arith, c.if-line-lt2.false)) (sym c.is_ascii_digit.ensures.value ∙ c.if-not-is_ascii_digit.false) (λ e. absurd (c.if-line-ne48.true e))

pub returns-else-line-ne48-clause-no : goal.returns-else-line-ne48-clause-no
returns-else-line-ne48-clause-no c = λ e.
    begins_zero c.args.line.now (omega (arith, c.if-line-lt2.false)) c.if-line-ne48.false (eqb-false (get_or c.args.line.now 1 0) 32 e)

pub returns-else-line-ne48-clause-yes : goal.returns-else-line-ne48-clause-yes
returns-else-line-ne48-clause-yes c = λ t.
    begins_digit c.args.line.now (omega (arith, c.if-line-lt2.false)) (sym c.is_ascii_digit.ensures.value ∙ c.if-not-is_ascii_digit.false) (λ _. eqb-true (get_or c.args.line.now 1 0) 32 t)
