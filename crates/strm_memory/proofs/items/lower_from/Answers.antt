use Rattle.std.proofs.Common.{ℕ, ◌*◌, ◌≤◌, length, sym, ap, ◌∙◌, arith}
use Rattle.strm_codes.specs.Layout.{item_type}
use Rattle.strm_memory.proofs.RegionLemmas.{stored_at-one}
use Rattle.strm_memory.proofs.ItemLemmas.{item_fits, stored_step, stored_end, AreItems_step}
use Rattle.strm_memory.proofs.items.lower_from.Goals as goal

pub loop-k-preserved : goal.loop-k-preserved
loop-k-preserved c =
    let fits = item_fits c.loop-k.k (length c.args.items.now) c.size-size.result (omega arith) in
    let inside : c.loop-k.at ≤ length c.loop-k.bytes = omega (arith, fits, ap (λ (w : ℕ). w * length c.args.items.now) c.size-size.ensures.exact) in
    record {
      place = omega arith;
      fit = (AreItems_step (item_type c.args.payload.now) c.loop-k.k c.args.items.now c.index-items-k.result (omega arith) c.index-items-k.is c.loop-k.invariant.fit).1;
      rest = rw (c.lower_item_at.ensures, stored_at-one (item_type c.args.payload.now) c.loop-k.bytes c.loop-k.at c.index-items-k.result) (stored_step (item_type c.args.payload.now) c.loop-k.bytes c.loop-k.at c.loop-k.k c.size-size.result c.args.items.now c.index-items-k.result (omega arith) c.index-items-k.is c.size-size.ensures.exact inside ∙ c.loop-k.invariant.rest);
    }

pub returns : goal.returns
returns c = sym (stored_end (item_type c.args.payload.now) c.loop-k.bytes c.loop-k.at c.loop-k.k c.args.items.now (omega arith)) ∙ c.loop-k.invariant.rest
