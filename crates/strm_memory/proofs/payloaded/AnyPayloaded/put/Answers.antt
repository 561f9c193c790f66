use Rattle.std.proofs.Common.{◌∙◌}
use Rattle.std.specs.Int.{w128}
use Rattle.std.proofs.lemmas.Int.{to_z-of_z}
use Rattle.strm_memory.proofs.FieldLemmas.{SFits-fits}
use Rattle.strm_memory.proofs.AppendLemmas.{stored_at-number}
use Rattle.strm_memory.proofs.payloaded.AnyPayloaded.put.Goals as goal

pub returns-clause-stored : goal.returns-clause-stored
returns-clause-stored g c =
    rw (to_z-of_z w128 c.to_number.result (SFits-fits g.T.Field.scalar c.to_number.result c.to_number.ensures.fits), c.scalar.ensures, c.to_number.ensures.exact) at c.lower_field.ensures
    ∙ stored_at-number g.T.Field.scalar c.args.bytes.now c.args.at (g.T.Field.number c.args.self.now)
