use Rattle.std.proofs.Common.{◌∙◌, cond, ap, sym, w64}
use Rattle.std.proofs.lemmas.Nat.Bits.{bit_at_set_same, bit_at_set_other, bit_at_clear_same, bit_at_clear_other}
use Rattle.strm_levels.proofs.bits.with_bit.Goals as goal

pub returns-then-is_set : goal.returns-then-is_set
returns-then-is_set c = record {
  here = bit_at_set_same w64 c.args.word c.args.bit c.requires ∙ sym (ap (λ b. cond b 1 0) c.if-is_set.true);
  others = λ i l ne. bit_at_set_other w64 c.args.word c.args.bit c.requires i ne;
}

pub returns-else-is_set : goal.returns-else-is_set
returns-else-is_set c = record {
  here = bit_at_clear_same w64 c.args.word c.args.bit c.requires ∙ sym (ap (λ b. cond b 1 0) c.if-is_set.false);
  others = λ i l ne. bit_at_clear_other w64 c.args.word c.args.bit c.requires i l ne;
}
