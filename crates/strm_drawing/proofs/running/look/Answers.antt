use Rattle.std.proofs.Common.{ap, length, ◌∙◌}
use Rattle.std.proofs.lemmas.List.FromFn.{length-map-range_with_len}
use Rattle.strm_machine.specs.Moments.{received}
use Rattle.strm_drawing.proofs.running.look.Goals as goal

pub returns-clause-all : goal.returns-clause-all
returns-clause-all c =
    ap length c.in_ok-before.ensures
    ∙ length-map-range_with_len (λ s. received s c.args.store.now) c.span_of-span.result.first c.span_of-span.result.count
