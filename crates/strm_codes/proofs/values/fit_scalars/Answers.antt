use Rattle.std.proofs.Common.{◌<◌, length, get_or, pos, refl, arith, rules}
use Rattle.std.proofs.lemmas.Int.{to_z-of_z}
use Rattle.std.specs.Int.{w128}
use mir.Val.{SFits}
use Rattle.strm_codes.proofs.ItemLemmas.{length-FitsFields, FitsFields-split, FitsFields-join, FitsFields-end}
use Rattle.strm_codes.proofs.values.fit_scalars.Goals as goal

pub returns-then-scalars-numbers : goal.returns-then-scalars-numbers
returns-then-scalars-numbers c =
    ((λ t. cc), (λ fits. absurd (omega (arith, length-FitsFields c.args.scalars.now c.args.numbers.now fits))))

pub loop-k-preserved : goal.loop-k-preserved
loop-k-preserved c =
    let inside : c.loop-k.k < length c.args.numbers.now = omega arith in
    let whole : SFits w128 (get_or c.args.numbers.now c.loop-k.k (pos 0)) = search rules in
    let one = rw (to_z-of_z w128 (get_or c.args.numbers.now c.loop-k.k (pos 0)) whole) at (c.fits.ensures.0 c.if-not-fits.false) in
    record {
      onward = λ fits. (FitsFields-split c.args.scalars.now c.args.numbers.now c.loop-k.k c.loop-k-test.true inside (c.loop-k.invariant.onward fits)).1;
      back = λ rest. c.loop-k.invariant.back (FitsFields-join c.args.scalars.now c.args.numbers.now c.loop-k.k c.loop-k-test.true inside one rest);
    }

pub returns : goal.returns
returns c =
    ((λ t. c.loop-k.invariant.back (FitsFields-end c.args.scalars.now c.args.numbers.now c.loop-k.k c.loop-k-test.false (omega arith))), (λ fits. refl))
