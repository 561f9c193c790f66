use Rattle.std.proofs.Common.{arith, refl, sym, length, ◌≡◌, ◌∙◌}
use Rattle.strm_codes.specs.Spellings.{IsCompound, spelled}
use Rattle.strm_codes.proofs.CompoundLemmas.{kept_new}
use Rattle.strm_codes.proofs.compounds.Compound.new.Goals as goal

pub invariant_of-result : goal.invariant_of-result
invariant_of-result c =
    let one : length (spelled c.args.nodes.now) ≡ 1 = omega (arith, c.in-Some.ensures.count, c.if-types-ne1.false) in
    let is : IsCompound c.args.nodes.now = record {
      few = omega (arith, c.if-len-gt16.false);
      one = one;
      each = c.in-Some.ensures.some.0 refl;
      nested = sym c.is_flat.ensures ∙ c.if-is_flat.false;
    } in
    rw c.copy_from_slice.ensures.after (kept_new c.args.nodes.now c.span_of-span.result is c.span_of-span.ensures.exact)
