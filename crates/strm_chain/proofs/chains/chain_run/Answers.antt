use Rattle.std.proofs.lemmas.Result.{IfOk-weaker}
use Rattle.strm_chain.proofs.ChainLemmas.{run_ok, ended_ok, flows_ok, composed_ok}
use Rattle.strm_chain.proofs.chains.chain_run.Goals as goal

pub returns-clause-runs : goal.returns-clause-runs
returns-clause-runs c =
    run_ok (λ e. e.steps) (λ e. e.replies) (λ e. e.output) (λ e. e.ended) c.args.stages.now c.args.input.items c.args.chunk c.in_ok-chain.chain c.take_turns.new.chain c.finish.result
    c.in_ok-chain.ensures.begins c.args.schedule.now c.in_ok-take_turns.ensures.turns c.finish.ensures.ok

pub returns-clause-ended : goal.returns-clause-ended
returns-clause-ended c =
    ended_ok (λ e. e.steps) (λ e. e.replies) (λ e. e.output) (λ e. e.ended) c.args.stages.now c.args.input.items c.args.chunk c.in_ok-chain.chain c.take_turns.new.chain c.finish.result
    c.in_ok-chain.ensures.begins c.in_ok-take_turns.ensures.goes_on c.finish.ensures.ok

pub returns-clause-flows : goal.returns-clause-flows
returns-clause-flows c =
    flows_ok (λ e. e.steps) (λ e. e.replies) (λ e. e.output) (λ e. e.ended) c.args.stages.now c.args.input.items c.args.chunk c.in_ok-chain.chain c.take_turns.new.chain c.finish.result
    c.in_ok-chain.ensures.begins c.in_ok-take_turns.ensures.goes_on c.finish.ensures.ok

pub returns-clause-composed : goal.returns-clause-composed
returns-clause-composed c =
    composed_ok (λ e. e.steps) (λ e. e.replies) (λ e. e.output) (λ e. e.ended) c.args.stages.now c.args.input.items c.args.chunk c.in_ok-chain.chain c.take_turns.new.chain c.finish.result
    c.in_ok-chain.ensures.begins c.in_ok-take_turns.ensures.goes_on c.finish.ensures.ok

pub returns-clause-within : goal.returns-clause-within
returns-clause-within c = IfOk-weaker c.finish.result _ _ (λ e h. h.within) c.finish.ensures.ok
