use Rattle.strm_handles.proofs.ChainLemmas.{slot_changed}
use Rattle.strm_handles.proofs.slots.Slots.change.Goals as goal

pub invariant_of-self : goal.invariant_of-self
invariant_of-self g c =
    let t = c.self.inside in
    let here = rw (← c.self.view_is) at c.requires in
    (slot_changed t.slots.items t.free t.first c.args.number c.args.entry here c.self.invariant).0

pub returns-clause-handles : goal.returns-clause-handles
returns-clause-handles g c =
    let t = c.self.inside in
    let here = rw (← c.self.view_is) at c.requires in
    rw (← c.self.view_is)
    (slot_changed t.slots.items t.free t.first c.args.number c.args.entry here c.self.invariant).1
