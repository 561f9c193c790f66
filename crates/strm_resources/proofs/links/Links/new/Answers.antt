use Rattle.std.proofs.Common.{arith}
use Rattle.strm_resources.proofs.LinkLemmas.{IsLinked-none}
use Rattle.strm_resources.proofs.links.Links.new.Goals as goal

pub invariant_of-result : goal.invariant_of-result
invariant_of-result c = rw (c.new.ensures.items, c.new-2.ensures.items) (record { kept = IsLinked-none; reserved = omega arith; small = omega arith })
