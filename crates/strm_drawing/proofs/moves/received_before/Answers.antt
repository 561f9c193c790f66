use Rattle.std.proofs.Common.{ap, sym, refl, ◌∙◌, ◌∷◌, ◌++◌, [], ◌+◌}
use Rattle.std.proofs.lemmas.List.FromFn.{map-range_with_len_more}
use Rattle.strm_machine.specs.Moments.{received}
use Rattle.strm_drawing.proofs.moves.received_before.Goals as goal

pub loop-k-preserved : goal.loop-k-preserved
loop-k-preserved c =
    let store = c.args.store.now in
    let first = c.args.span.first in
    let k = c.loop-k.k in
    c.in_ok-push.ensures.ok ∙ ap (λ n. c.loop-k.counts ++ n ∷ []) c.received_on.ensures
    ∙ ap (λ xs. xs ++ received (first + k) store ∷ []) c.loop-k.invariant
    ∙ sym (map-range_with_len_more (λ s. received s store) first k (first + k) refl)
