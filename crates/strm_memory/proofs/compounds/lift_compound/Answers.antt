use Rattle.std.proofs.Common.{length, ap, arith}
use Rattle.strm_codes.specs.Spellings.{spelled}
use Rattle.strm_memory.proofs.MoveLemmas.{end-one, lifted_one}
use Rattle.strm_memory.proofs.compounds.lift_compound.Goals as goal

pub lift_parts-requires : goal.lift_parts-requires
lift_parts-requires c =
    let one = c.requires.one in
    let end = end-one (spelled c.args.nodes.now) one.one in
    record {
      spelled = one.each;
      parts = omega (arith, one.one);
      most = omega arith;
      small = omega arith;
      few = omega (arith, one.few, ap length c.requires.empty);
      holds = omega (arith, end, c.requires.holds);
    }

pub returns : goal.returns
returns c =
    lifted_one (spelled c.args.nodes.now) c.args.bytes.now c.args.from c.lift_parts.result c.args.item.now c.lift_parts.new.item c.requires.one.one c.requires.empty c.lift_parts.ensures.exact
