-- One more is forgotten.
use Rattle.std.proofs.Common.{◌≡◌, ◌<◌, ◌+◌, ◌∙◌, ℕ, suc, ap, List, length, arith}
use Rattle.std.specs.Prelude.{slice_index_or, slice_set}
use Rattle.strm_ready_ends.specs.ReceiveQueues.{ReceiveQueue, reader_forgotten}
use Rattle.strm_host_store.proofs.LoopLemmas.{changed_first, length-changed_first, changed_more}
use Rattle.strm_host_store.proofs.ready_ends.forget_readers.Goals as goal

pub loop-number-preserved : goal.loop-number-preserved
loop-number-preserved c =
    let d = c.index_mut.result.now in
    let xs = c.args.readers.now.items in
    let n = c.loop-number.number in
    let size = length-changed_first reader_forgotten d n xs in
    let there : n < length c.loop-number.readers.items = omega (arith, c.loop-number-test.true, c.len-number-end.ensures, ap length c.loop-number.invariant, size) in
    let lt : n < length xs = omega (arith, there, ap length c.loop-number.invariant, size) in
    let more : suc n ≡ n + 1 = omega arith in
    ap (λ (q : ReceiveQueue). slice_set c.loop-number.readers.items n q) (c.forget.ensures ∙ ap reader_forgotten c.index_mut.ensures.value)
    ∙ ap (λ (ys : List ReceiveQueue). slice_set ys n (reader_forgotten (slice_index_or ys n d))) c.loop-number.invariant
    ∙ changed_more reader_forgotten d n xs lt
    ∙ ap (λ (m : ℕ). changed_first reader_forgotten d m xs) more
