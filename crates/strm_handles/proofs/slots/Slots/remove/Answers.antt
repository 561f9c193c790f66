use Rattle.std.proofs.Common.{rules, arith}
use Rattle.strm_handles.proofs.ChainLemmas.{slot_freed, few_free}
use Rattle.strm_handles.proofs.slots.Slots.remove.Goals as goal

pub overflow_add-self : goal.overflow_add-self
overflow_add-self g c =
    let t = c.self.inside in
    omega (arith, few_free t.slots.items t.free t.first c.self.invariant)

pub invariant_of-self : goal.invariant_of-self
invariant_of-self g c =
    let t = c.self.inside in
    let here = rw (← c.self.view_is) at c.requires.here in
    (slot_freed t.slots.items t.free t.first c.args.number here c.self.invariant).0

pub returns-clause-handles : goal.returns-clause-handles
returns-clause-handles g c =
    let t = c.self.inside in
    let here = rw (← c.self.view_is) at c.requires.here in
    rw (← c.self.view_is)
    (slot_freed t.slots.items t.free t.first c.args.number here c.self.invariant).1

pub returns-clause-live : goal.returns-clause-live
returns-clause-live g c = search rules
