use Rattle.std.proofs.Common.{arith}
use Rattle.strm_handles.proofs.ChainLemmas.{slot_appended}
use Rattle.strm_handles.proofs.slots.Slots.append.Goals as goal

pub invariant_of-self-2 : goal.invariant_of-self-2
invariant_of-self-2 g c =
    let t = c.self.inside in
    let none = rw (← c.self.view_is) at c.requires in
    let small = rw (← c.self.view_is) at c.next_index-number.ensures in
    rw (c.push_reserved.ensures.items, c.reserve.ensures.items)
    (slot_appended t.slots.items t.free t.first c.args.entry none (omega arith) c.self.invariant).0
