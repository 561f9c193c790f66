use Rattle.std.proofs.Common.{[], ◌∷◌, ◌++◌, ap, ◌∙◌}
use Rattle.strm_chain.proofs.MakingLemmas.{source_added}
use Rattle.strm_chain.proofs.making.add_source.Goals as goal

pub returns : goal.returns
returns c = λ stages guests made.
    source_added c.args.input.items stages guests c.args.player.now c.make_pair.new.player c.in_ok-pair.pair c.add_worker.new.workers.items made c.in_ok-pair.ensures
    (c.in_ok-add_worker.ensures ∙ ap (λ xs. xs ++ c.source.result ∷ []) c.requires.none ∙ ap (λ w. w ∷ []) c.source.ensures)
