use Rattle.std.proofs.Common.{◌≢◌, sym, ◌∙◌, length, arith}
use Rattle.std.proofs.lemmas.Bool.{eqb-true, eqb-false}
use Rattle.strm_lines.proofs.LineLemmas.{no_lines, lines_ended, lines_unended}
use Rattle.strm_lines.proofs.parsing.count_lines.Goals as goal

pub returns-then-is_empty : goal.returns-then-is_empty
returns-then-is_empty c = no_lines c.args.bytes.now c.count_feeds-feeds.result c.count_feeds-feeds.ensures.most (eqb-true (length c.args.bytes.now) 0 (sym c.is_empty.ensures ∙ c.if-is_empty.true))

pub returns-then-bytes-eq10 : goal.returns-then-bytes-eq10
returns-then-bytes-eq10 c =
    let some : length c.args.bytes.now ≢ 0 = eqb-false (length c.args.bytes.now) 0 (sym c.is_empty.ensures ∙ c.if-is_empty.false) in
    lines_ended c.args.bytes.now c.count_feeds-feeds.result c.count_feeds-feeds.ensures.exact (omega arith) c.if-bytes-eq10.true

pub returns-else-bytes-eq10 : goal.returns-else-bytes-eq10
returns-else-bytes-eq10 c =
    let some : length c.args.bytes.now ≢ 0 = eqb-false (length c.args.bytes.now) 0 (sym c.is_empty.ensures ∙ c.if-is_empty.false) in
    lines_unended c.args.bytes.now c.count_feeds-feeds.result c.count_feeds-feeds.ensures.exact (omega arith) c.if-bytes-eq10.false
