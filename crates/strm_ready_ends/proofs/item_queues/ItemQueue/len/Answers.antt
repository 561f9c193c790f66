use Rattle.std.proofs.Common.{length, sym, ap, subst, ◌∙◌}
use Rattle.strm_codes.specs.Layout.{item_type}
use Rattle.strm_memory.specs.Items.{AreItems}
use Rattle.strm_buffers.proofs.ListingLemmas.{length-items_in}
use Rattle.strm_ready_ends.specs.Waiting.{Waiting}
use Rattle.strm_ready_ends.proofs.item_queues.ItemQueue.len.Goals as goal

pub returns-clause-exact : goal.returns-clause-exact
returns-clause-exact c = sym (length-items_in _ _ _ _ c.self.invariant.lie) ∙ ap (λ (w : Waiting). length w.items) c.self.view_is

pub returns-clause-fit : goal.returns-clause-fit
returns-clause-fit c = subst (λ (w : Waiting). AreItems (item_type w.payload) w.items) c.self.view_is c.self.invariant.lie.fit
