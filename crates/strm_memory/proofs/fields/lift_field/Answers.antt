use Rattle.std.proofs.Common.{rules}
use Rattle.strm_memory.proofs.fields.lift_field.Goals as goal

pub returns-in-S8-clause-exact : goal.returns-in-S8-clause-exact
returns-in-S8-clause-exact c = search rules
