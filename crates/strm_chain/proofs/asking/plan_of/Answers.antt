use Rattle.std.proofs.Common.{string_bytes}
use Rattle.strm_chain.proofs.AskingLemmas.{asks, asks_chunk}
use Rattle.strm_chain.proofs.asking.plan_of.Goals as goal

pub returns-in_default-number_within-clause-none :
    goal.returns-in_default-number_within-clause-none
returns-in_default-number_within-clause-none c = λ _.
    asks_chunk (λ w. string_bytes w) c.args.words.now c.in-Some.rest.now c.in-Some.first.now c.as_bytes.result.now c.in-Some.ensures.cases.0 c.as_bytes.ensures.value c.in_default-number_within.ensures

pub returns-clause-some : goal.returns-clause-some
returns-clause-some c =
    asks (λ w. string_bytes w) c.args.words.now c.in-Some.rest.now c.in-Some.first.now c.as_bytes.result.now c.in-Some.ensures.cases.0 c.as_bytes.ensures.value
    c.in-Some-number_within.chunk c.in-Some-2.stages.items c.in-Some-number_within.ensures (rw c.in-Some-2.is at c.in_ok-stages.ensures.some) (rw c.in-Some-2.is at c.in_ok-stages.ensures.few) (rw c.in-Some-2.is at c.in_ok-stages.ensures.few_twice)
