use Rattle.strm_codes.specs.ItemTypes.{fields_type}
use Rattle.strm_memory.proofs.GoodLemmas.{good_tested}
use Rattle.strm_memory.proofs.good_items.count_tested.Goals as goal

pub returns : goal.returns
returns c =
    let f = c.count_in_blocks-done.ensures in
    let g = c.count_in_blocks.ensures in
    good_tested (fields_type c.args.fields.now) c.args.bytes.now c.args.from c.args.count c.items_in_block-most.result c.count_in_blocks-done.result c.min-block.result c.count_in_blocks.result c.min-block.ensures
    (record { within = f.within; good = f.good; bad = rw c.requires.size at f.bad })
    (record { within = g.within; good = rw c.requires.size at g.good; bad = rw c.requires.size at g.bad })
