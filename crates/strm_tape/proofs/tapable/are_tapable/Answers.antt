use Rattle.std.proofs.Common.{refl, subst, arith}
use Rattle.std.specs.Prelude.{All}
use Rattle.std.proofs.lemmas.List.{take_all}
use Rattle.std.proofs.lemmas.List.Elements.{All-more}
use Rattle.strm_lines.specs.Grammar.{HasLine}
use Rattle.strm_tape.proofs.tapable.are_tapable.Goals as goal

pub loop-k-preserved : goal.loop-k-preserved
loop-k-preserved c =
    All-more HasLine c.args.steps.now c.loop-k.k c.index-steps-k.result (omega (arith, c.loop-k-test.true)) c.loop-k.invariant
    ((rw c.index-steps-k.is at c.is_tapable.ensures).0 c.if-not-is_tapable.false)

pub returns : goal.returns
returns c =
    (λ yes. subst (All HasLine) (take_all c.loop-k.k c.args.steps.now (omega (arith, c.loop-k-test.false))) c.loop-k.invariant, λ all. refl)
