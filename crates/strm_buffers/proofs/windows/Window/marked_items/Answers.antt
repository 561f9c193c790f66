use Rattle.std.proofs.Common.{◌++◌, take, drop, ◌-◌, ap, ◌∙◌}
use Rattle.strm_buffers.proofs.SoundLemmas.{marked_again}
use Rattle.strm_buffers.proofs.WindowLemmas.{lying_nowhere}
use Rattle.strm_buffers.proofs.windows.Window.marked_items.Goals as goal

pub of_bytes-requires : goal.of_bytes-requires
of_bytes-requires c =
    let s = c.self.inside in
    let copied = c.in-Ok.ensures.items ∙ ap (λ l. l ++ take (c.item_place-end.result - s.address) (drop s.address c.bytes.result.now)) c.new-bytes.ensures.items ∙ ap (λ l. take (c.item_place-end.result - s.address) (drop s.address l)) c.bytes.ensures in
    (marked_again s.payload s.memory.bytes s.kept.items _ s.address s.marked s.room s.is_prepared (lying_nowhere c.args.self.now) c.self.invariant.0 (ap lying_nowhere c.self.view_is) c.extend_from_slice.new.self.items c.item_place-end.result c.requires c.item_place-end.ensures copied).kept

pub returns-in-Ok-clause-items : goal.returns-in-Ok-clause-items
returns-in-Ok-clause-items c =
    let s = c.self.inside in
    let copied = c.in-Ok.ensures.items ∙ ap (λ l. l ++ take (c.item_place-end.result - s.address) (drop s.address c.bytes.result.now)) c.new-bytes.ensures.items ∙ ap (λ l. take (c.item_place-end.result - s.address) (drop s.address l)) c.bytes.ensures in
    ap (λ v. v.items) c.of_bytes.ensures ∙ (marked_again s.payload s.memory.bytes s.kept.items _ s.address s.marked s.room s.is_prepared (lying_nowhere c.args.self.now) c.self.invariant.0 (ap lying_nowhere c.self.view_is) c.extend_from_slice.new.self.items c.item_place-end.result c.requires c.item_place-end.ensures copied).items
