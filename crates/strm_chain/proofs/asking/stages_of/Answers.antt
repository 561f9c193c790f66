use Rattle.std.proofs.Common.{string_bytes}
use Rattle.strm_chain.proofs.AskingLemmas.{spells_more, not_spelled}
use Rattle.strm_chain.proofs.asking.stages_of.Goals as goal

pub returns-in_default-clause-none : goal.returns-in_default-clause-none
returns-in_default-clause-none c = λ _ list.
    not_spelled (λ w. string_bytes w) c.args.words.now c.loop-word.word-index c.word-item.result c.as_bytes.result.now c.loop-word-test.true c.word-item.is c.as_bytes.ensures.value
    c.in_default.ensures list

pub loop-word-preserved : goal.loop-word-preserved
loop-word-preserved c =
    rw c.in_ok-push.ensures.items (spells_more (λ w. string_bytes w) c.args.words.now c.loop-word.word-index c.word-item.result c.as_bytes.result.now c.loop-word-test.true c.word-item.is c.as_bytes.ensures.value
    c.loop-word.stages.items c.in-Some.stage c.loop-word.invariant c.in-Some.ensures)
