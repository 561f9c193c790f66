use Rattle.std.proofs.Common.{◌≡◌, sym, ◌∙◌}
use Rattle.strm_session.specs.declared.runs.RunCause.TheVariants as causes
use Rattle.strm_mux.proofs.CarryLemmas.{stops_for_memory}
use Rattle.strm_mux.proofs.carrying.play_all.Goals as goal

pub unreachable-requires-in-BadItem : goal.unreachable-requires-in-BadItem
unreachable-requires-in-BadItem c =
    let memory = stops_for_memory c.args.steps.now c.in-Err.stop.replies c.in-Err.stop.cause c.requires.settled (c.in-Err.ensures.stop.alone c.requires.guests) in
    let both : causes.BadItem c.in-BadItem.stream ≡ causes.OutOfMemory = sym c.in-BadItem.is ∙ memory in
    cc
