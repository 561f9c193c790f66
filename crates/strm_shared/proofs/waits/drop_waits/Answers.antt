use Rattle.std.proofs.lemmas.Fn.{filter_same}
use Rattle.std.proofs.Common.{rules, tests}
use Rattle.strm_shared.specs.Waits.{is_others}
use Rattle.strm_shared.proofs.waits.drop_waits.Goals as goal

pub returns : goal.returns
returns c = filter_same _ (is_others c.args.seat) _ (λ x b q k. search (rules, tests)) _ _ c.retain.ensures.filtered
