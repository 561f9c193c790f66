use Rattle.std.proofs.Common.{rules, ◌≡◌, length, ap, ◌∙◌}
use Rattle.strm_chain.specs.Keeping.{ChainState, worker_at}
use Rattle.strm_chain.proofs.ChainLemmas.{written_back, chain_lent, kept_back, turn_back}
use Rattle.strm_chain.proofs.chains.Chain.turn_with_room.Goals as goal

pub returns-in-Ok-clause-others : goal.returns-in-Ok-clause-others
returns-in-Ok-clause-others c = λ g ne.
    let old : c.deref_mut.result.now ≡ c.args.self.now.workers = c.deref_mut.ensures.value ∙ ap (λ (x : ChainState). x.workers) c.self.view_is in
    let long : c.self.inside.workers.len ≡ length c.self.inside.workers.items = search rules in
    let back = written_back c.self.inside.workers.len c.turn_in.new.workers c.self.inside.workers.items (c.turn_in.ensures.many ∙ ap length c.deref_mut.ensures.value) long in
    ap (λ ws. worker_at ws g) back ∙ c.turn_in.ensures.others g ne ∙ ap (λ ws. worker_at ws g) old

pub turn_in-requires-clause-chain : goal.turn_in-requires-clause-chain
turn_in-requires-clause-chain c =
    rw c.deref_mut.ensures.value (chain_lent _ c.self.invariant (ap (λ (x : ChainState). x.failed) c.self.view_is ∙ c.requires.runs))

pub returns-in-Ok-clause-ok : goal.returns-in-Ok-clause-ok
returns-in-Ok-clause-ok c =
    let long : c.self.inside.workers.len ≡ length c.self.inside.workers.items = search rules in
    let back = written_back c.self.inside.workers.len c.turn_in.new.workers c.self.inside.workers.items (c.turn_in.ensures.many ∙ ap length c.deref_mut.ensures.value) long in
    turn_back (ap (λ (x : ChainState). x.failed) c.self.view_is ∙ c.requires.runs) back c.self.view_is (rw c.deref_mut.ensures.value at c.in-Ok.ensures.ok)
