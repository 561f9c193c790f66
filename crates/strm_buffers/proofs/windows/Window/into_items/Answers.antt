use Rattle.std.proofs.Common.{take, ap, ◌∙◌}
use Rattle.strm_codes.specs.Layout.{item_type}
use Rattle.strm_buffers.specs.Windows.{Lent}
use Rattle.strm_buffers.proofs.MarkLemmas.{cut_items}
use Rattle.strm_buffers.proofs.WindowLemmas.{lying_nowhere, none_between}
use Rattle.strm_buffers.proofs.windows.Window.into_items.Goals as goal

pub into_bytes-bytes-requires : goal.into_bytes-bytes-requires
into_bytes-bytes-requires c =
    let s = c.self.inside in
    c.self.invariant.1 (none_between (item_type s.payload) s.memory.bytes s.kept.items s.address s.marked s.room (ap (λ (v : Lent). v.place) (ap lying_nowhere c.self.view_is) ∙ c.requires))

pub of_bytes-requires : goal.of_bytes-requires
of_bytes-requires c = (cut_items c.self.inside.payload c.self.inside.memory.bytes c.self.inside.kept.items _ _ _ _ c.size.result _ _ (lying_nowhere c.args.self) c.self.invariant.0 (ap lying_nowhere c.self.view_is) c.requires c.size.ensures.exact (c.truncate.ensures.items ∙ ap (take _) c.into_bytes-bytes.ensures)).kept

pub returns-clause-items : goal.returns-clause-items
returns-clause-items c = ap (λ v. v.items) c.of_bytes.ensures ∙ (cut_items c.self.inside.payload c.self.inside.memory.bytes c.self.inside.kept.items _ _ _ _ c.size.result _ _ (lying_nowhere c.args.self) c.self.invariant.0 (ap lying_nowhere c.self.view_is) c.requires c.size.ensures.exact (c.truncate.ensures.items ∙ ap (take _) c.into_bytes-bytes.ensures)).items
