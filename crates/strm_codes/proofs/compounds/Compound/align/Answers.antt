use Rattle.std.proofs.Common.{take, arith}
use Rattle.strm_codes.specs.Spellings.{spelled, first_type}
use Rattle.strm_codes.proofs.LayoutLemmas.{one-le-align_of, align_of-most}
use Rattle.strm_codes.proofs.compounds.Compound.align.Goals as goal

pub returns-clause-some : goal.returns-clause-some
returns-clause-some c =
    omega (arith, c.from.ensures, c.self.invariant.aligned, one-le-align_of (first_type (spelled (take c.self.inside.len c.self.inside.nodes))))

pub returns-clause-most : goal.returns-clause-most
returns-clause-most c =
    omega (arith, c.from.ensures, c.self.invariant.aligned, align_of-most (first_type (spelled (take c.self.inside.len c.self.inside.nodes))))
