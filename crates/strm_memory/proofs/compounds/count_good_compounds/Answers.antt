use Rattle.std.proofs.Common.{◌≡◌, ◌+◌, ◌*◌, drop, refl, sym, ◌∙◌, arith}
use Rattle.strm_codes.specs.Spellings.{first_type, spelled}
use Rattle.strm_memory.proofs.ItemLemmas.{item_fits, some_more, no_items}
use Rattle.strm_memory.proofs.GoodLemmas.{good_all}
use Rattle.strm_memory.proofs.CompoundLemmas.{good_ends, good_no_bytes}
use Rattle.strm_memory.proofs.compounds.count_good_compounds.Goals as goal

pub returns-then-size-eq0 : goal.returns-then-size-eq0
returns-then-size-eq0 c =
    good_no_bytes (first_type (spelled c.args.nodes.now)) (drop c.args.from c.args.bytes.now) c.args.count (sym c.requires.size ∙ c.if-size-eq0.true)

pub loop-k-init : goal.loop-k-init
loop-k-init c = record { good = no_items (first_type (spelled c.args.nodes.now)) _ }

pub lift_compound-requires-clause-holds : goal.lift_compound-requires-clause-holds
lift_compound-requires-clause-holds c =
    omega (arith, c.requires.size, item_fits c.loop-k.k c.args.count c.args.size c.loop-k-test.true, c.requires.holds)

pub returns-then-not-lift_compound : goal.returns-then-not-lift_compound
returns-then-not-lift_compound c =
    good_ends (first_type (spelled c.args.nodes.now)) c.args.bytes.now c.args.from c.loop-k.k c.args.count c.args.size c.loop-k-test.true c.requires.size c.loop-k.invariant.good c.if-not-lift_compound.ensures

pub loop-k-preserved : goal.loop-k-preserved
loop-k-preserved c = record {
  good = some_more (first_type (spelled c.args.nodes.now)) c.args.bytes.now c.args.from (c.args.from + c.args.size * c.loop-k.k) c.loop-k.k c.args.size c.lift_compound.new.item c.requires.size refl c.loop-k.invariant.good c.if-not-lift_compound.ensures;
}

pub returns : goal.returns
returns c =
    let e : c.loop-k.k ≡ c.args.count = omega arith in
    sym (good_all (first_type (spelled c.args.nodes.now)) (drop c.args.from c.args.bytes.now) c.args.count (rw e at c.loop-k.invariant.good))
