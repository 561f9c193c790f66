use Rattle.std.proofs.Common.{◌≡◌, ◌+◌, ◌*◌, ◌≤◌, length, drop, refl, sym, ◌∙◌, arith}
use Rattle.strm_codes.specs.Spellings.{first_type, spelled}
use Rattle.strm_memory.specs.Items.{good_items}
use Rattle.strm_memory.proofs.ItemLemmas.{item_fits, stored_end}
use Rattle.strm_memory.proofs.GoodLemmas.{length-good_items}
use Rattle.strm_memory.proofs.CompoundLemmas.{copied_more, copied_no_bytes, none_copied, all_copied}
use Rattle.strm_memory.proofs.compounds.copy_compounds.Goals as goal

pub returns-then-size-eq0 : goal.returns-then-size-eq0
returns-then-size-eq0 c =
    copied_no_bytes (first_type (spelled c.args.nodes.now)) c.args.source.now c.args.destination.now c.args.from c.args.to c.args.count (sym c.requires.size ∙ c.if-size-eq0.true)

pub loop-k-init : goal.loop-k-init
loop-k-init c =
    let none : c.args.to + c.args.size * 0 ≡ c.args.to = omega arith in
    record { rest = rw none refl }

pub move_item-is_good-requires-clause-source_holds : goal.move_item-is_good-requires-clause-source_holds
move_item-is_good-requires-clause-source_holds c =
    omega (arith, c.requires.size, item_fits c.loop-k.k c.args.count c.args.size c.loop-k-test.true, c.requires.source_holds)

pub move_item-is_good-requires-clause-room : goal.move_item-is_good-requires-clause-room
move_item-is_good-requires-clause-room c =
    omega (arith, c.requires.size, item_fits c.loop-k.k c.args.count c.args.size c.loop-k-test.true, c.requires.room)

pub loop-k-preserved : goal.loop-k-preserved
loop-k-preserved c =
    let t = first_type (spelled c.args.nodes.now) in
    let all : c.args.count ≡ length (good_items t (drop c.args.from c.args.source.now) c.args.count) = omega (arith, c.count_good_compounds.ensures, length-good_items t (drop c.args.from c.args.source.now) c.args.count) in
    record {
      rest = copied_more t c.args.source.now c.loop-k.destination c.move_item-is_good.new.destination c.args.from c.args.to c.loop-k.k c.args.count c.args.size c.move_item-is_good.result all c.loop-k-test.true c.requires.size (omega arith) c.move_item-is_good.ensures.good c.move_item-is_good.ensures.moved ∙ c.loop-k.invariant.rest;
    }

pub returns-then-count_good_compounds-count : goal.returns-then-count_good_compounds-count
returns-then-count_good_compounds-count c =
    none_copied (first_type (spelled c.args.nodes.now)) c.args.source.now c.args.destination.now c.args.from c.args.to c.args.count _ (omega (arith, c.if-count_good_compounds-count.true, c.count_good_compounds.ensures))

pub returns : goal.returns
returns c =
    let t = first_type (spelled c.args.nodes.now) in
    let xs = good_items t (drop c.args.from c.args.source.now) c.args.count in
    let all : c.args.count ≡ length xs = omega (arith, c.count_good_compounds.ensures, length-good_items t (drop c.args.from c.args.source.now) c.args.count) in
    let at = c.args.to + c.args.size * c.loop-k.k in
    let last : length xs ≤ c.loop-k.k = omega (arith, all) in
    all_copied t c.args.source.now c.args.destination.now c.loop-k.destination c.args.from c.args.to c.args.count all (sym (stored_end t c.loop-k.destination at c.loop-k.k xs last) ∙ c.loop-k.invariant.rest)
