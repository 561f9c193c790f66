use Rattle.std.proofs.Common.{◌≡◌, ◌++◌, sym, ap, ◌∙◌, arith}
use Rattle.std.proofs.lemmas.List.{take-append-drop}
use Rattle.strm_lines.specs.Lines.{feeds}
use Rattle.strm_lines.proofs.LineLemmas.{feeds-append}
use Rattle.strm_lines.proofs.parsing.count_feeds.Goals as goal

pub loop-rest-preserved : goal.loop-rest-preserved
loop-rest-preserved c =
    let few = c.split_at.result.0.now in
    let after = c.split_at.result.1.now in
    let e : c.loop-rest.rest.now ≡ few ++ after = sym (rw (c.split_at.ensures.front, c.split_at.ensures.back) (take-append-drop 224 c.loop-rest.rest.now)) in
    let f = ap feeds e ∙ feeds-append few after in
    record {
      exact = omega (arith, c.count_few_feeds.ensures.exact, f, c.loop-rest.invariant.exact);
      most = omega (arith, c.count_few_feeds.ensures.most, c.split_at.ensures.front_len, c.split_at.ensures.back_len, c.loop-rest.invariant.most);
    }
