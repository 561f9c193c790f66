use Rattle.std.proofs.Common.{subst}
use Rattle.strm_codes.specs.Layout.{item_type}
use Rattle.strm_memory.specs.Items.{AreItems}
use Rattle.strm_buffers.specs.Listing.{TypedItems}
use Rattle.strm_buffers.proofs.items.Items.sound.Goals as goal

pub returns : goal.returns
returns c = subst (λ (v : TypedItems). AreItems (item_type v.payload) v.items) c.self.view_is c.self.invariant.lie.fit
