use Rattle.strm_memory.proofs.LimitLemmas.{limit_put}
use Rattle.strm_memory.proofs.limits.limit_field.Goals as goal

pub returns : goal.returns
returns c = limit_put c.args.limits.now c.limits_of.result c.args.start c.args.scalar c.requires c.limits_of.ensures
