use Rattle.std.proofs.Common.{arith}
use Rattle.strm_memory.proofs.FieldLemmas.{next_within}
use Rattle.strm_memory.proofs.fields.field_start.Goals as goal

pub next_start-requires : goal.next_start-requires
next_start-requires c = omega (arith, next_within c.args.fields.now c.args.k c.args.at c.requires.inside)

pub returns-clause-within : goal.returns-clause-within
returns-clause-within c = omega (arith, next_within c.args.fields.now c.args.k c.args.at c.requires.inside)
