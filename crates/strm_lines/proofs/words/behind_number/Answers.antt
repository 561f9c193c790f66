use Rattle.std.proofs.Common.{◌+◌, drop, sym}
use Rattle.std.proofs.lemmas.List.{drop_more}
use Rattle.strm_lines.proofs.NumberLemmas.{read_to-space, read_to-other}
use Rattle.strm_lines.proofs.words.behind_number.Goals as goal

pub returns-then-line-at-ne32 : goal.returns-then-line-at-ne32
returns-then-line-at-ne32 c =
    rw (drop_more c.args.line.now c.args.at 0 c.requires.inside) (sym (read_to-other c.args.number _ (drop (c.args.at + 1) c.args.line.now) c.requires.digit c.if-line-at-ne32.true))

pub returns : goal.returns
returns c =
    rw (drop_more c.args.line.now c.args.at 0 c.requires.inside, c.if-line-at-ne32.false, c.split_at.ensures.back) (sym (read_to-space c.args.number (drop (c.args.at + 1) c.args.line.now)))
