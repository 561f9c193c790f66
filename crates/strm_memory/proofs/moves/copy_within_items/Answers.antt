use Rattle.std.proofs.Common.{refl}
use Rattle.strm_memory.proofs.CopyLemmas.{moved_items}
use Rattle.strm_memory.proofs.moves.copy_within_items.Goals as goal

pub returns : goal.returns
returns c =
    moved_items c.args.payload c.args.count c.args.memory.now c.args.memory.now _ c.args.from c.args.to _ c.requires.number_or_none c.hold_bytes.ensures c.requires.from_inside (rw (c.size.ensures.exact, c.as_usize.ensures.exact) refl) c.move_region.ensures
