use Rattle.strm_codes.specs.ItemTypes.{fields_type}
use Rattle.strm_memory.proofs.GoodLemmas.{good_blocks}
use Rattle.strm_memory.proofs.good_items.are_good_items.Goals as goal

pub returns : goal.returns
returns c =
    let e = c.count_in_blocks.ensures in
    good_blocks (fields_type c.args.fields.now) c.args.source.now c.args.from c.args.count c.items_in_block-most.result c.count_in_blocks.result
    (record { within = e.within; good = e.good; bad = rw c.requires.size at e.bad })
