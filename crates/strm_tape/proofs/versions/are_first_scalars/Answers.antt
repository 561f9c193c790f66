use Rattle.std.proofs.Common.{sym, ◌∙◌, arith}
use Rattle.std.specs.Prelude.{nat_lt}
use Rattle.strm_codes.specs.Sameness.{scalar_number}
use Rattle.strm_codes.specs.declared.scalars.Scalar.TheVariants.{Bool as Flag}
use Rattle.strm_tape.proofs.VersionLemmas.{all_more, all_over}
use Rattle.strm_tape.proofs.versions.are_first_scalars.Goals as goal

pub loop-k-preserved : goal.loop-k-preserved
loop-k-preserved c =
    all_more (λ s. nat_lt (scalar_number s) 10) c.args.scalars.now c.loop-k.k Flag (omega (arith, c.loop-k-test.true)) c.loop-k.invariant
    (sym c.is_first_scalar.ensures ∙ c.if-not-is_first_scalar.false)

pub returns : goal.returns
returns c = all_over (λ s. nat_lt (scalar_number s) 10) c.args.scalars.now c.loop-k.k (omega (arith, c.loop-k-test.false)) c.loop-k.invariant
