use Rattle.std.proofs.Common.{◌<◌, arith}
use Rattle.strm_handles.proofs.ChainLemmas.{first_is_free, second_is}
use Rattle.strm_handles.proofs.slots.Slots.second_index.Goals as goal

pub overflow_add-result-in-Free : goal.overflow_add-result-in-Free
overflow_add-result-in-Free g c =
    let t = c.self.inside in
    let some : 1 < t.free = omega arith in
    omega (arith, (second_is t.slots.items t.free t.first c.in-Free.next c.index.result.now some c.index.ensures c.in-Free.is c.self.invariant).1)

pub unreachable-requires : goal.unreachable-requires
unreachable-requires g c =
    let t = c.self.inside in
    let some : 0 < t.free = omega arith in
    first_is_free t.slots.items t.free t.first c.index.result.now c.in-Full.field-0 some c.self.invariant c.index.ensures c.in-Full.is

pub returns-clause-exact : goal.returns-clause-exact
returns-clause-exact g c =
    let t = c.self.inside in
    rw (← c.self.view_is) (second_is t.slots.items t.free t.first c.in-Free.next c.index.result.now c.if-self-lt2.false c.index.ensures c.in-Free.is c.self.invariant).0

pub returns-clause-most : goal.returns-clause-most
returns-clause-most g c =
    let t = c.self.inside in
    omega (arith, (second_is t.slots.items t.free t.first c.in-Free.next c.index.result.now c.if-self-lt2.false c.index.ensures c.in-Free.is c.self.invariant).1)
