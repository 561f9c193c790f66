use Rattle.std.proofs.Common.{◌≡◌, length, Some, sym, subst, ap, ◌∙◌, arith, drop}
use Rattle.std.specs.Prelude.{IsSomeAnd}
use Rattle.strm_codes.specs.Spellings.{first_type, spelled}
use Rattle.strm_memory.specs.Loads.{decode}
use Rattle.strm_memory.specs.Walks.{item_on}
use Rattle.strm_memory.proofs.MoveLemmas.{end-one, lifted_one, begin_one, lowered_one, there_is}
use Rattle.strm_memory.proofs.compounds.move_item.Goals as goal

pub lift_parts-requires : goal.lift_parts-requires
lift_parts-requires c =
    let one = c.requires.one in
    let end = end-one (spelled c.args.nodes.now) one.one in
    record {
      spelled = one.each;
      parts = omega (arith, one.one);
      most = omega arith;
      small = omega arith;
      few = omega (arith, one.few, ap length c.empty-item.ensures);
      holds = omega (arith, end, c.requires.source_holds);
    }

pub lower_parts-left-requires-clause-begins : goal.lower_parts-left-requires-clause-begins
lower_parts-left-requires-clause-begins c =
    let one = c.requires.one in
    let ts = spelled c.args.nodes.now in
    let lifted = lifted_one ts c.args.source.now c.args.from c.lift_parts.result c.empty-item.result c.lift_parts.new.item one.one c.empty-item.ensures c.lift_parts.ensures.exact in
    let item : Some c.lift_parts.new.item ≡ decode (first_type ts) (drop c.args.from c.args.source.now) = rw c.if-not-lift_parts.false at lifted in
    rw c.as_slice.ensures.exact (begin_one ts c.args.source.now c.args.from c.lift_parts.new.item c.hold_bytes.ensures one.one item)

pub returns-then-not-lift_parts-clause-good : goal.returns-then-not-lift_parts-clause-good
returns-then-not-lift_parts-clause-good c =
    let ts = spelled c.args.nodes.now in
    let lifted = lifted_one ts c.args.source.now c.args.from c.lift_parts.result c.empty-item.result c.lift_parts.new.item c.requires.one.one c.empty-item.ensures c.lift_parts.ensures.exact in
    sym c.if-not-lift_parts.true ∙ there_is (decode (first_type ts) (drop c.args.from c.args.source.now)) c.lift_parts.result c.lift_parts.new.item lifted

pub returns-clause-good : goal.returns-clause-good
returns-clause-good c =
    let ts = spelled c.args.nodes.now in
    let lifted = lifted_one ts c.args.source.now c.args.from c.lift_parts.result c.empty-item.result c.lift_parts.new.item c.requires.one.one c.empty-item.ensures c.lift_parts.ensures.exact in
    sym c.if-not-lift_parts.false ∙ there_is (decode (first_type ts) (drop c.args.from c.args.source.now)) c.lift_parts.result c.lift_parts.new.item lifted

pub returns-clause-moved : goal.returns-clause-moved
returns-clause-moved c t =
    let ts = spelled c.args.nodes.now in
    let lifted = lifted_one ts c.args.source.now c.args.from c.lift_parts.result c.empty-item.result c.lift_parts.new.item c.requires.one.one c.empty-item.ensures c.lift_parts.ensures.exact in
    let item : Some c.lift_parts.new.item ≡ decode (first_type ts) (drop c.args.from c.args.source.now) = rw c.if-not-lift_parts.false at lifted in
    let same = rw c.as_slice.ensures.exact at c.lower_parts-left.ensures.stored in
    let new = c.lower_parts-left.new.bytes in
    subst (λ o. IsSomeAnd o (λ xs. new ≡ item_on (first_type ts) xs c.args.to c.args.destination.now)) item
    (lowered_one ts c.lift_parts.new.item c.args.destination.now new c.args.to c.requires.one.one c.requires.room same)
