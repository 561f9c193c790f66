use Rattle.std.proofs.Common.{◌<◌, arith}
use Rattle.strm_handles.proofs.ChainLemmas.{length-chain, first_inside, first_is_free, first_is_next, first_is_small, slot_taken}
use Rattle.strm_handles.proofs.slots.Slots.refill.Goals as goal

pub index-requires : goal.index-requires
index-requires g c =
    let t = c.self.inside in
    let freed = rw (← c.self.view_is) at c.requires in
    let some : 0 < t.free = omega (arith, freed, length-chain t.slots.items t.free t.first) in
    omega (arith, first_inside t.slots.items t.free t.first some c.self.invariant, t.slots.ok.0)

pub index_mut-requires : goal.index_mut-requires
index_mut-requires g c =
    let t = c.self.inside in
    let freed = rw (← c.self.view_is) at c.requires in
    let some : 0 < t.free = omega (arith, freed, length-chain t.slots.items t.free t.first) in
    omega (arith, first_inside t.slots.items t.free t.first some c.self.invariant, t.slots.ok.0)

pub overflow_add-result : goal.overflow_add-result
overflow_add-result g c =
    let t = c.self.inside in
    let freed = rw (← c.self.view_is) at c.requires in
    let some : 0 < t.free = omega (arith, freed, length-chain t.slots.items t.free t.first) in
    omega (arith, first_is_small t.slots.items t.free t.first some c.self.invariant)

pub unreachable-requires : goal.unreachable-requires
unreachable-requires g c =
    let t = c.self.inside in
    let freed = rw (← c.self.view_is) at c.requires in
    let some : 0 < t.free = omega (arith, freed, length-chain t.slots.items t.free t.first) in
    first_is_free t.slots.items t.free t.first c.index.result.now c.in-Full.field-0 some c.self.invariant c.index.ensures c.in-Full.is

pub returns-clause-number : goal.returns-clause-number
returns-clause-number g c =
    let t = c.self.inside in
    let freed = rw (← c.self.view_is) at c.requires in
    let some : 0 < t.free = omega (arith, freed, length-chain t.slots.items t.free t.first) in
    rw (← c.self.view_is) (first_is_next t.slots.items t.free t.first some)

pub returns-clause-small : goal.returns-clause-small
returns-clause-small g c =
    let t = c.self.inside in
    let freed = rw (← c.self.view_is) at c.requires in
    let some : 0 < t.free = omega (arith, freed, length-chain t.slots.items t.free t.first) in
    first_is_small t.slots.items t.free t.first some c.self.invariant

pub invariant_of-self : goal.invariant_of-self
invariant_of-self g c =
    let t = c.self.inside in
    let freed = rw (← c.self.view_is) at c.requires in
    let some : 0 < t.free = omega (arith, freed, length-chain t.slots.items t.free t.first) in
    (slot_taken t.slots.items t.free t.first c.in-Free.next c.index.result.now c.args.entry some c.index.ensures c.in-Free.is c.self.invariant).0

pub returns-clause-handles : goal.returns-clause-handles
returns-clause-handles g c =
    let t = c.self.inside in
    let freed = rw (← c.self.view_is) at c.requires in
    let some : 0 < t.free = omega (arith, freed, length-chain t.slots.items t.free t.first) in
    rw (← c.self.view_is)
    (slot_taken t.slots.items t.free t.first c.in-Free.next c.index.result.now c.args.entry some c.index.ensures c.in-Free.is c.self.invariant).1
