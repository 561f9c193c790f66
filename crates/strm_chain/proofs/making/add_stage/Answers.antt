use Rattle.std.proofs.Common.{rules, [], ◌∷◌, ◌++◌, ap, ◌∙◌}
use Rattle.strm_chain.proofs.MakingLemmas.{stage_added}
use Rattle.strm_chain.proofs.making.add_stage.Goals as goal

pub returns : goal.returns
returns c = λ input stages guests i inside at joined made.
    stage_added input stages guests i c.len.result c.args.read c.args.stage c.args.player.now c.make_pair.new.player c.in_ok-pair.pair
    c.args.workers.now.items c.add_worker.new.workers.items inside at joined made (search rules) c.in_ok-pair.ensures
    (c.in_ok-add_worker.ensures ∙ ap (λ w. c.args.workers.now.items ++ w ∷ []) c.new_worker.ensures)
