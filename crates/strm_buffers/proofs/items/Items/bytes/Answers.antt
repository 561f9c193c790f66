use Rattle.std.proofs.Common.{drop, ap, ◌∙◌}
use Rattle.strm_buffers.proofs.ListingLemmas.{kept_behind, kept_length}
use Rattle.strm_buffers.proofs.items.Items.bytes.Goals as goal

pub returns-clause-lie : goal.returns-clause-lie
returns-clause-lie c = (kept_behind c.self.inside.payload c.self.inside.bytes c.split_at.result.1.now c.self.inside.start c.self.inside.len c.args.self.now c.self.invariant c.self.view_is (c.split_at.ensures.back ∙ ap (drop c.self.inside.start) c.as_slice.ensures)).lie

pub returns-clause-items : goal.returns-clause-items
returns-clause-items c = (kept_behind c.self.inside.payload c.self.inside.bytes c.split_at.result.1.now c.self.inside.start c.self.inside.len c.args.self.now c.self.invariant c.self.view_is (c.split_at.ensures.back ∙ ap (drop c.self.inside.start) c.as_slice.ensures)).is

pub returns-clause-all : goal.returns-clause-all
returns-clause-all c = kept_length c.self.inside.payload c.self.inside.bytes c.split_at.result.1.now c.self.inside.start c.self.inside.len c.args.self.now c.self.invariant c.self.view_is (c.split_at.ensures.back ∙ ap (drop c.self.inside.start) c.as_slice.ensures)
