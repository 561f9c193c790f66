use Rattle.std.proofs.Common.{◌≡◌, ◌++◌, map, sym}
use Rattle.std.proofs.Math.Seq.{take-append_seam}
use Rattle.std.proofs.lemmas.Result.{IfOk-at_ok}
use Rattle.strm_buffers.specs.Listing.{TypedItems}
use Rattle.strm_host.proofs.producing.produce.Goals as goal

-- the marked items are the first of all
pub returns-in-Some-Ok-clause-begun : goal.returns-in-Some-Ok-clause-begun
returns-in-Some-Ok-clause-begun g c =
    let marked = c.poll_produce-turn.new.destination.0.window.marked in
    let given = map g.P.Item.Payloaded.item (g.P.Buffer.WriteBuffer.items c.poll_produce-turn.new.destination.0.buffer) in
    let all : c.in-Some-Ok.items.items ≡ marked ++ given = IfOk-at_ok (λ (items : TypedItems). items.items ≡ marked ++ given) c.in-Some-Ok.is-1 c.gather-items.ensures.items in
    rw all (sym (take-append_seam marked given))
