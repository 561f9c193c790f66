use Rattle.std.proofs.Common.{length, sym, ap, ◌∙◌}
use Rattle.strm_buffers.proofs.ListingLemmas.{length-items_in}
use Rattle.strm_program_ends.proofs.feeds.Feeds.len.Goals as goal

pub returns : goal.returns
returns c = sym (length-items_in _ _ _ _ c.self.invariant.lie) ∙ ap (λ v. length v.items) c.self.view_is
