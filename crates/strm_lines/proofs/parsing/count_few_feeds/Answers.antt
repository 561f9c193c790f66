use Rattle.std.proofs.Common.{◌+◌, refl, sym, ◌∙◌, ap, arith}
use Rattle.strm_lines.specs.Lines.{feeds}
use Rattle.strm_lines.proofs.LineLemmas.{feeds-yes, feeds-no}
use Rattle.strm_lines.proofs.parsing.count_few_feeds.Goals.{then-byte-eq10, else-byte-eq10}
use Rattle.strm_lines.proofs.parsing.count_few_feeds.Goals as goal

pub loop-byte-init : goal.loop-byte-init
unfolding feeds
loop-byte-init c = record { exact = refl; most = omega arith }

pub loop-byte-preserved : goal.loop-byte-preserved
loop-byte-preserved c =
    let k = c.loop-byte.byte-index in
    elim c.if-byte-eq10.branch [
      | then-byte-eq10 w ↦ record {
        exact = w.count-is ∙ ap (λ n. n + 1) c.loop-byte.invariant.exact ∙ sym (feeds-yes c.args.bytes.now k c.loop-byte-test.true w.if-byte-eq10.true);
        most = omega (arith, w.count-is, c.loop-byte.invariant.most);
      }
      | else-byte-eq10 w ↦ record {
        exact = w.count-is ∙ c.loop-byte.invariant.exact ∙ sym (feeds-no c.args.bytes.now k c.loop-byte-test.true w.if-byte-eq10.false);
        most = omega (arith, w.count-is, c.loop-byte.invariant.most);
      }
    ]
