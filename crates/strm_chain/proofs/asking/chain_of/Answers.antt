use Rattle.std.proofs.Common.{map, string_bytes, ap, ◌∙◌, arith}
use Rattle.std.specs.Prelude.{count_by}
use Rattle.strm_chain.specs.Faults.{is_twice}
use Rattle.strm_chain.proofs.AskingLemmas.{too_many_twice}
use Rattle.strm_chain.proofs.asking.chain_of.Goals as goal

pub returns-then-count_twice-gt-MAX_TWICE-clause-none : goal.returns-then-count_twice-gt-MAX_TWICE-clause-none
returns-then-count_twice-gt-MAX_TWICE-clause-none c = λ _ list few twice spelled.
    too_many_twice (map string_bytes c.args.words.now) c.in-Some.stages.items list (rw c.in-Some.is at c.in_ok-stages.ensures.some)
    (omega (arith, c.if-count_twice-gt-MAX_TWICE.true, c.count_twice.ensures ∙ ap (count_by is_twice) c.as_slice.ensures.value)) twice spelled
