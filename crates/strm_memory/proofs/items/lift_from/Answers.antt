use Rattle.std.proofs.Common.{◌≡◌, ◌-◌, arith, ◌∙◌, refl}
use Rattle.std.proofs.lemmas.Grind.{common_steps}
use Rattle.strm_codes.specs.Layout.{item_type}
use Rattle.strm_memory.specs.Items.{items}
use Rattle.strm_memory.proofs.ItemLemmas.{items_step, some_more, all_lifted}
use Rattle.strm_memory.proofs.items.lift_from.Goals as goal

pub loop-k-init : goal.loop-k-init
unfolding items
loop-k-init c =
    let z : c.args.count - 0 ≡ c.args.count = omega arith in
    record {
      place = omega arith;
      room = grind arith;
      more = grind arith;
      front = grind (arith, common_steps);
      good = refl;
      rest = rw (z, c.reserve.ensures.items) refl;
    }

pub loop-k-preserved : goal.loop-k-preserved
loop-k-preserved c = record {
  place = omega arith;
  room = grind arith;
  more = grind arith;
  front = grind (arith, common_steps);
  good = some_more (item_type c.args.payload.now) c.args.bytes.now c.args.from c.loop-k.at c.loop-k.k c.size-size.result c.lift_item_into.new.item c.size-size.ensures.exact c.loop-k.invariant.place c.loop-k.invariant.good c.if-not-lift_item_into.ensures;
  rest = rw c.push_reserved.ensures.items (items_step (item_type c.args.payload.now) c.args.bytes.now c.loop-k.at c.loop-k.k c.args.count c.size-size.result c.loop-k.out.items c.lift_item_into.new.item (omega arith) c.size-size.ensures.exact c.if-not-lift_item_into.ensures ∙ c.loop-k.invariant.rest);
}

pub returns-clause-ok : goal.returns-clause-ok
returns-clause-ok c =
    let e : c.loop-k.k ≡ c.args.count = omega arith in
    all_lifted (item_type c.args.payload.now) _ c.args.count c.args.out.now.items c.loop-k.out.items _ (rw e at c.loop-k.invariant.rest)
