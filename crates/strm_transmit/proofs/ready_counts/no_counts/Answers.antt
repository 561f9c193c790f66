use Rattle.std.proofs.Common.{◌+◌, ap, ◌∙◌, length}
use Rattle.std.proofs.lemmas.List.{length_push}
use Rattle.strm_levels.specs.Counts.{count_at}
use Rattle.strm_levels.proofs.MarkLemmas.{count_at-push}
use Rattle.strm_transmit.proofs.ready_counts.no_counts.Goals as goal

pub loop-preserved : goal.loop-preserved
loop-preserved c = record {
  all = ap length c.in_ok-push.ensures.ok ∙ length_push c.loop.counts 0 ∙ ap (λ n. n + 1) c.loop.invariant.all;
  none = λ g. ap (λ counts. count_at counts g) c.in_ok-push.ensures.ok ∙ count_at-push c.loop.counts g ∙ c.loop.invariant.none g;
}
