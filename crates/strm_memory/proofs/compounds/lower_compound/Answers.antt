use Rattle.std.proofs.Common.{arith}
use Rattle.strm_codes.specs.Spellings.{spelled}
use Rattle.strm_memory.proofs.MoveLemmas.{end-one, item_begins, lowered_one}
use Rattle.strm_memory.proofs.compounds.lower_compound.Goals as goal

pub lower_parts-left-requires : goal.lower_parts-left-requires
lower_parts-left-requires c =
    let one = c.requires.one in
    let ts = spelled c.args.nodes.now in
    record {
      spelled = one.each;
      parts = omega (arith, one.one);
      most = omega arith;
      few = one.few;
      small = omega arith;
      begins = rw c.as_slice.ensures.exact (item_begins ts c.args.item.now one.one c.requires.fits);
      holds = omega (arith, end-one ts one.one, c.requires.holds);
    }

pub returns : goal.returns
returns c =
    lowered_one (spelled c.args.nodes.now) c.args.item.now c.args.bytes.now c.lower_parts-left.new.bytes c.args.to c.requires.one.one c.requires.holds (rw c.as_slice.ensures.exact at c.lower_parts-left.ensures.stored)
