use Rattle.std.proofs.Common.{◌≡◌, length, sym, ap, ◌∙◌, arith, refl}
use Rattle.strm_codes.specs.Layout.{item_type}
use Rattle.strm_buffers.proofs.ListingLemmas.{lie_none}
use Rattle.strm_program_ends.specs.Fed.{nothing_fed, fed_kept, item_bytes, other_bytes}
use Rattle.strm_program_ends.proofs.feeds.Feeds.new.Goals as goal

pub invariant_of-result : goal.invariant_of-result
invariant_of-result c = record {
  all = omega (arith, ap length c.new.ensures.items);
  lie = (lie_none (item_type c.args.payload) c.new.result.items 0 (omega arith)).lie;
  counted = omega arith;
  fed = ap length c.new.ensures.items ∙ sym (ap item_bytes c.new-3.ensures.items);
  others = ap length c.new-2.ensures.items ∙ sym (ap other_bytes c.new-3.ensures.items);
}

pub returns : goal.returns
returns c =
    let is : fed_kept c.args.payload c.new.result.items 0 c.new-2.result.items c.new-3.result.items ≡ nothing_fed c.args.payload =
    rw ((lie_none (item_type c.args.payload) c.new.result.items 0 (omega arith)).is, c.new-3.ensures.items) refl in
    is
