-- An entry more in a table: how many it has of each kind stays below 2^28.
use Rattle.std.proofs.Common.{arith}
use Rattle.strm_handles.proofs.KindLemmas.{ends-most, contexts-most, ends-inserted, contexts-inserted}
use Rattle.strm_handles.proofs.tables.HandleTable.insert.Goals as goal

pub overflow_add-self : goal.overflow_add-self
overflow_add-self c =
    let sound = c.sound.ensures in
    omega (arith, c.self.invariant.ends, ends-most c.self.inside.slots.handles, sound.all, sound.small, c.end_in-ends.ensures.most)

pub overflow_add-self-2 : goal.overflow_add-self-2
overflow_add-self-2 c =
    let sound = c.sound.ensures in
    omega (arith, c.self.invariant.contexts, contexts-most c.self.inside.slots.handles, sound.all, sound.small, c.context_in-contexts.ensures.most)

pub invariant_of-self-2 : goal.invariant_of-self-2
invariant_of-self-2 c =
    let h = c.self.inside.slots.handles in
    let ok = rw c.in_ok-number.was at c.insert.ensures.ok in
    rw ok (record {
      ends = omega (arith, c.self.invariant.ends, c.end_in-ends.ensures.exact, ends-inserted h c.args.entry c.sound.ensures);
      contexts = omega (arith, c.self.invariant.contexts, c.context_in-contexts.ensures.exact, contexts-inserted h c.args.entry c.sound.ensures);
    })
