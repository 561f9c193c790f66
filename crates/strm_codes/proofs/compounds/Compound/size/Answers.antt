use Rattle.std.proofs.Common.{take, arith}
use Rattle.strm_codes.proofs.CompoundLemmas.{few_bytes}
use Rattle.strm_codes.proofs.compounds.Compound.size.Goals as goal

pub returns-clause-most : goal.returns-clause-most
returns-clause-most c =
    omega (arith, c.from.ensures, c.self.invariant.measured, few_bytes (take c.self.inside.len c.self.inside.nodes) c.self.invariant.type)
