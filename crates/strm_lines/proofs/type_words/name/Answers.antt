use Rattle.std.proofs.Common.{◌∙◌, sym, arith}
use Rattle.strm_lines.proofs.TypeWordLemmas.{cut_more, cut_ends, cut_nowhere}
use Rattle.strm_lines.proofs.type_words.name.Goals as goal

pub returns-then-ends_name : goal.returns-then-ends_name
returns-then-ends_name c =
    rw (c.split_at.ensures.front, c.split_at.ensures.back)
    (cut_ends c.args.text.now c.loop-at.at (omega (arith, c.loop-at-test.true)) (sym c.ends_name.ensures ∙ c.if-ends_name.true) ∙ c.loop-at.invariant)

pub loop-at-preserved : goal.loop-at-preserved
loop-at-preserved c =
    cut_more c.args.text.now c.loop-at.at (omega (arith, c.loop-at-test.true)) (sym c.ends_name.ensures ∙ c.if-ends_name.false) ∙ c.loop-at.invariant

pub returns : goal.returns
returns c =
    rw (c.split_at-2.ensures.front, c.split_at-2.ensures.back)
    (cut_nowhere c.args.text.now c.loop-at.at (omega (arith, c.loop-at-test.false)) ∙ c.loop-at.invariant)
