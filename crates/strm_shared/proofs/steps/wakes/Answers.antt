use Rattle.std.proofs.Common.{sym, ◌∙◌}
use Rattle.strm_shared.proofs.WakeLemmas.{wakes_none}
use Rattle.strm_shared.proofs.steps.wakes.Goals as goal

pub returns-clause-quiet : goal.returns-clause-quiet
returns-clause-quiet c = λ e. wakes_none c.args.step.now (sym c.ends_waits.ensures ∙ e)
