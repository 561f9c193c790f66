use Rattle.std.proofs.Common.{◌≡◌, ◌++◌, take, ap, ◌∙◌}
use Rattle.std.proofs.lemmas.Result.{on_ok_weaker}
use Rattle.strm_codes.specs.Layout.{item_type}
use Rattle.strm_buffers.specs.Listing.{items_in}
use Rattle.strm_buffers.specs.Windows.{Lent}
use Rattle.strm_ready_ends.proofs.item_queues.ItemQueue.mark_first.Goals as goal

pub returns-clause-marked : goal.returns-clause-marked
returns-clause-marked c =
    let bytes = c.first.result.now in
    let n = c.args.count in
    let items : items_in (item_type c.args.window.now.payload) bytes 0 n ≡ take n c.args.self.now.items = ap (λ p. items_in (item_type p) bytes 0 n) c.requires.payload ∙ c.first.ensures.items in
    on_ok_weaker c.put_all.result (λ e. ap (λ (w : Lent). w.marked) e ∙ ap (λ xs. xs ++ items_in (item_type c.args.window.now.payload) bytes 0 n) c.requires.nothing_marked ∙ items) c.put_all.ensures.ok
