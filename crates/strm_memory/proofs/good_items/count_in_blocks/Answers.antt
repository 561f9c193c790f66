use Rattle.std.proofs.Common.{arith, refl, ◌∙◌}
use Rattle.strm_codes.specs.ItemTypes.{fields_type}
use Rattle.strm_memory.proofs.ItemLemmas.{block_fits, good_add, no_items}
use Rattle.strm_memory.proofs.good_items.count_in_blocks.Goals as goal

pub loop-done-init : goal.loop-done-init
loop-done-init c = record {
  inside = omega arith;
  good = no_items (fields_type c.args.fields.now) _;
}

pub is_good_block-requires-clause-holds : goal.is_good_block-requires-clause-holds
is_good_block-requires-clause-holds c = omega (arith, block_fits c.args.size c.loop-done.done c.min-block.result c.args.count (omega arith))

pub loop-done-preserved : goal.loop-done-preserved
loop-done-preserved c =
    let block = rw c.requires.size at c.if-not-is_good_block.ensures in
    record {
      inside = omega arith;
      good = good_add (fields_type c.args.fields.now) c.args.bytes.now c.args.from c.loop-done.done c.min-block.result ∙ rw (c.loop-done.invariant.good, ← block) refl;
    }
