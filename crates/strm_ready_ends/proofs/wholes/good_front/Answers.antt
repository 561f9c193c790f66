use Rattle.std.proofs.Common.{length, sym, ap, ◌∙◌}
use Rattle.strm_codes.specs.Layout.{item_type}
use Rattle.strm_buffers.proofs.ListingLemmas.{length-items_in}
use Rattle.strm_ready_ends.proofs.WholeLemmas.{good_lie}
use Rattle.strm_ready_ends.proofs.wholes.good_front.Goals as goal

pub returns-clause-lie : goal.returns-clause-lie
returns-clause-lie c =
    (good_lie c.args.payload.now c.args.bytes.now _ c.split_at-2.result.0.now c.args.from c.args.count c.count_good-good.result c.size.result c.are_bytes.ensures (record {
      good = c.count_good-good.ensures.exact;
      inside = c.count_good-good.ensures.inside;
      size_is = c.size.ensures.exact;
      rest = c.split_at.ensures.back;
      cut = c.split_at-2.ensures.front;
      len = c.split_at-2.ensures.front_len;
    })).lie

pub returns-clause-items : goal.returns-clause-items
returns-clause-items c =
    (good_lie c.args.payload.now c.args.bytes.now _ c.split_at-2.result.0.now c.args.from c.args.count c.count_good-good.result c.size.result c.are_bytes.ensures (record {
      good = c.count_good-good.ensures.exact;
      inside = c.count_good-good.ensures.inside;
      size_is = c.size.ensures.exact;
      rest = c.split_at.ensures.back;
      cut = c.split_at-2.ensures.front;
      len = c.split_at-2.ensures.front_len;
    })).is

pub returns-clause-counted : goal.returns-clause-counted
returns-clause-counted c =
    let there =
    good_lie c.args.payload.now c.args.bytes.now _ c.split_at-2.result.0.now c.args.from c.args.count c.count_good-good.result c.size.result c.are_bytes.ensures (record {
      good = c.count_good-good.ensures.exact;
      inside = c.count_good-good.ensures.inside;
      size_is = c.size.ensures.exact;
      rest = c.split_at.ensures.back;
      cut = c.split_at-2.ensures.front;
      len = c.split_at-2.ensures.front_len;
    }) in
    ap length (sym there.is) ∙ length-items_in (item_type c.args.payload.now) c.split_at-2.result.0.now 0 c.count_good-good.result there.lie
