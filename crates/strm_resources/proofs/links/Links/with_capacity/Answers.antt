use Rattle.std.proofs.Common.{arith}
use Rattle.strm_resources.proofs.LinkLemmas.{IsLinked-none}
use Rattle.strm_resources.proofs.links.Links.with_capacity.Goals as goal

pub invariant_of-result : goal.invariant_of-result
invariant_of-result c =
    rw (c.in_ok-with_capacity.ensures.items, c.in_ok-with_capacity-2.ensures.items) (record { kept = IsLinked-none; reserved = omega arith; small = omega arith })
