use Rattle.std.proofs.Common.{arith}
use Rattle.std.proofs.lemmas.Nat.{shr_le}
use Rattle.strm_levels.proofs.MarkLemmas.{lowest-shr, none-shr}
use Rattle.strm_levels.proofs.bits.lowest_from.Goals as goal

pub returns-then-rest-eq0 : goal.returns-then-rest-eq0
returns-then-rest-eq0 c = record { some = tt; none = none-shr c.args.word c.args.from c.if-rest-eq0.true }

pub returns : goal.returns
returns c = record {
  some = lowest-shr c.args.word c.args.from c.ranges.word.fits (omega (arith, c.if-rest-eq0.false)) (omega (arith, shr_le c.args.word c.args.from, c.ranges.word.fits));
  none = tt;
}
