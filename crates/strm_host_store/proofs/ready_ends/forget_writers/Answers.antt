-- One more is forgotten.
use Rattle.std.proofs.Common.{◌≡◌, ◌<◌, ◌+◌, ◌∙◌, ℕ, suc, ap, List, length, arith}
use Rattle.std.specs.Prelude.{slice_index_or, slice_set}
use Rattle.strm_ready_ends.specs.SendQueues.{SendQueue, forgotten}
use Rattle.strm_host_store.proofs.LoopLemmas.{changed_first, length-changed_first, changed_more}
use Rattle.strm_host_store.proofs.ready_ends.forget_writers.Goals as goal

pub loop-number-preserved : goal.loop-number-preserved
loop-number-preserved c =
    let d = c.index_mut.result.now in
    let xs = c.args.writers.now.items in
    let n = c.loop-number.number in
    let size = length-changed_first forgotten d n xs in
    let there : n < length c.loop-number.writers.items = omega (arith, c.loop-number-test.true, c.len-number-end.ensures, ap length c.loop-number.invariant, size) in
    let lt : n < length xs = omega (arith, there, ap length c.loop-number.invariant, size) in
    let more : suc n ≡ n + 1 = omega arith in
    ap (λ (q : SendQueue). slice_set c.loop-number.writers.items n q) (c.forget.ensures ∙ ap forgotten c.index_mut.ensures.value)
    ∙ ap (λ (ys : List SendQueue). slice_set ys n (forgotten (slice_index_or ys n d))) c.loop-number.invariant
    ∙ changed_more forgotten d n xs lt
    ∙ ap (λ (m : ℕ). changed_first forgotten d m xs) more
