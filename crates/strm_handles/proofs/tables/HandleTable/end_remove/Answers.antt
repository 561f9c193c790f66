-- An end less in a table.
use Rattle.std.proofs.Common.{arith}
use Rattle.strm_handles.specs.Handles.{entry_at}
use Rattle.strm_handles.proofs.KindLemmas.{end-counts, end-some, end-no_context, ends-removed, contexts-removed}
use Rattle.strm_handles.proofs.tables.HandleTable.end_remove.Goals as goal

pub remove-requires-clause-here : goal.remove-requires-clause-here
remove-requires-clause-here c = end-some _ (rw (← c.self.view_is) at c.requires.end)

pub overflow_sub-self : goal.overflow_sub-self
overflow_sub-self c =
    let h = c.self.inside.slots.handles in
    let end = rw (← c.self.view_is) at c.requires.end in
    let o = entry_at h c.args.idx in
    omega (arith, c.self.invariant.ends, ends-removed h c.args.idx (end-some o end), end-counts o end)

pub invariant_of-self : goal.invariant_of-self
invariant_of-self c =
    let h = c.self.inside.slots.handles in
    let end = rw (← c.self.view_is) at c.requires.end in
    let o = entry_at h c.args.idx in
    rw c.remove.ensures.handles (record {
      ends = omega (arith, c.self.invariant.ends, ends-removed h c.args.idx (end-some o end), end-counts o end);
      contexts = omega (arith, c.self.invariant.contexts, contexts-removed h c.args.idx (end-some o end), end-no_context o end);
    })
