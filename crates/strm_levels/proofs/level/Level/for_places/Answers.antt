use Rattle.std.proofs.Common.{◌∙◌, length, ap, arith}
use Rattle.std.proofs.lemmas.List.{length_push}
use Rattle.strm_levels.specs.Counts.{count_at}
use Rattle.strm_levels.proofs.MarkLemmas.{count_at-push}
use Rattle.strm_levels.proofs.level.Level.for_places.Goals as goal

pub loop-level-preserved : goal.loop-level-preserved
loop-level-preserved c = λ word. ap (λ words. count_at words word) c.in_ok-push.ensures.ok ∙ count_at-push c.loop-level.level word ∙ c.loop-level.invariant word

pub loop-level-smaller : goal.loop-level-smaller
loop-level-smaller c = omega (arith, ap length c.in_ok-push.ensures.ok, length_push c.loop-level.level 0)
