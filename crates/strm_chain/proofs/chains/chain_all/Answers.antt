use Rattle.std.proofs.Common.{rules, ◌≡◌, ◌-◌, ◌∙◌, ap, sym, arith, length}
use Rattle.std.proofs.lemmas.Result.{IfOk-weaker}
use Rattle.std.specs.Prelude.{None}
use Rattle.strm_chain.specs.Faults.{fault_of}
use Rattle.strm_chain.proofs.ChainLemmas.{goes_nowhere, goes_further, some_run_ok, flows_ok, told_ok, all_ended_ok, all_ok}
use Rattle.strm_chain.proofs.TurningLemmas.{some_none, some_join}
use Rattle.strm_chain.specs.Measuring.{to_do}
use Rattle.strm_chain.proofs.RoomLemmas.{begins_few, few_steps, spent_more, few_ok}
use Rattle.strm_chain.proofs.chains.chain_all.Goals as goal

pub loop-chain-init : goal.loop-chain-init
loop-chain-init c =
    let none : fault_of c.args.stages.now (length c.args.input.items) ≡ None = search rules in
    record {
      from = (c.in_ok-chain.chain, c.in_ok-chain.ensures.begins, some_none (length c.in_ok-chain.chain.workers - 1) c.in_ok-chain.chain.chunk c.in_ok-chain.chain.play, goes_nowhere c.in_ok-chain.chain);
      runs = c.in_ok-chain.ensures.begins.runs;
      spent = begins_few c.args.stages.now c.args.input.items c.args.chunk c.in_ok-chain.chain c.in_ok-chain.ensures.begins none;
      none = none;
    }

pub take_round-requires-clause-room : goal.take_round-requires-clause-room
take_round-requires-clause-room c =
    let i = c.loop-chain.invariant in
    omega (arith, i.spent, few_steps c.args.stages.now (length c.args.input.items) i.none)

pub loop-chain-preserved : goal.loop-chain-preserved
loop-chain-preserved c =
    let i = c.loop-chain.invariant in
    let e = c.in_ok-take_round.ensures in
    record {
      from = (
        i.from.0,
        i.from.1,
        some_join (length i.from.0.workers - 1) (length c.loop-chain.chain.workers - 1) i.from.0.chunk c.loop-chain.chain.chunk i.from.0.play c.loop-chain.chain.play c.take_round.new.chain.play
            (ap (λ n. n - 1) i.from.3.many) i.from.3.chunk i.from.2 e.turns,
        goes_further i.from.0 c.loop-chain.chain c.take_round.new.chain i.from.3 e.goes_on,
      );
      runs = e.runs;
      spent = spent_more _ (length c.loop-chain.chain.play.steps) (length c.take_round.new.chain.play.steps)
          (to_do c.loop-chain.chain.play.state c.loop-chain.chain.workers) (to_do c.take_round.new.chain.play.state c.take_round.new.chain.workers)
          i.spent e.short e.less;
      none = i.none;
    }

pub loop-chain-smaller : goal.loop-chain-smaller
loop-chain-smaller c = c.in_ok-take_round.ensures.less

pub returns-clause-runs : goal.returns-clause-runs
returns-clause-runs c =
    let i = c.loop-chain.invariant in
    some_run_ok (λ e. e.steps) (λ e. e.replies) (λ e. e.output) (λ e. e.ended) c.args.stages.now c.args.input.items c.args.chunk i.from.0 c.loop-chain.chain c.finish.result
    i.from.1 i.from.2 c.finish.ensures.ok

pub returns-clause-flows : goal.returns-clause-flows
returns-clause-flows c =
    let i = c.loop-chain.invariant in
    flows_ok (λ e. e.steps) (λ e. e.replies) (λ e. e.output) (λ e. e.ended) c.args.stages.now c.args.input.items c.args.chunk i.from.0 c.loop-chain.chain c.finish.result
    i.from.1 i.from.3 c.finish.ensures.ok

pub returns-clause-told : goal.returns-clause-told
returns-clause-told c =
    let i = c.loop-chain.invariant in
    told_ok (λ e. e.steps) (λ e. e.replies) (λ e. e.output) (λ e. e.ended) c.args.stages.now c.args.input.items c.args.chunk i.from.0 c.loop-chain.chain c.finish.result
    i.from.1 i.from.3 c.finish.ensures.ok (sym (c.ended.ensures i.runs) ∙ c.loop-chain-test.false)

pub returns-clause-ended : goal.returns-clause-ended
returns-clause-ended c =
    let i = c.loop-chain.invariant in
    all_ended_ok (λ e. e.steps) (λ e. e.replies) (λ e. e.output) (λ e. e.ended) c.args.stages.now c.args.input.items c.args.chunk i.from.0 c.loop-chain.chain c.finish.result
    i.from.1 i.from.3 c.finish.ensures.ok (sym (c.ended.ensures i.runs) ∙ c.loop-chain-test.false)

pub returns-clause-composed : goal.returns-clause-composed
returns-clause-composed c =
    let i = c.loop-chain.invariant in
    all_ok (λ e. e.steps) (λ e. e.replies) (λ e. e.output) (λ e. e.ended) c.args.stages.now c.args.input.items c.args.chunk i.from.0 c.loop-chain.chain c.finish.result
    i.from.1 i.from.3 c.finish.ensures.ok (sym (c.ended.ensures i.runs) ∙ c.loop-chain-test.false)

pub returns-clause-few : goal.returns-clause-few
returns-clause-few c =
    few_ok (λ e. e.steps) c.finish.result c.loop-chain.chain.play.steps _ (IfOk-weaker c.finish.result _ _ (λ e h. h.steps_are) c.finish.ensures.ok) (omega (arith, c.loop-chain.invariant.spent))
