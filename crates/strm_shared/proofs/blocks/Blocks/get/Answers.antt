use Rattle.std.proofs.Common.{rules, ◌-◌, sym, ◌∙◌}
use Rattle.std.proofs.lemmas.Option.{slice_get_read, slice_get_past}
use Rattle.strm_shared.proofs.BlockLemmas.{stays, goes_on, ends}
use Rattle.strm_shared.proofs.blocks.Blocks.get.Goals as goal

pub returns-then-left-len : goal.returns-then-left-len
returns-then-left-len g c =
    sym (c.loop-block.invariant ∙ stays (λ v. v.items) c.deref-block-items.result.now c.loop-block.block-index c.block-item.result c.self.inside.last.items c.loop-block.left c.index.result.now c.loop-block-test.true c.block-item.is (search rules) c.index.ensures)

pub loop-block-preserved : goal.loop-block-preserved
loop-block-preserved g c =
    c.loop-block.invariant ∙ goes_on (λ v. v.items) c.deref-block-items.result.now c.loop-block.block-index c.block-item.result c.self.inside.last.items c.loop-block.left (c.loop-block.left - c.len-left.result) c.loop-block-test.true c.block-item.is (search rules)

pub returns-then-left-len-2 : goal.returns-then-left-len-2
returns-then-left-len-2 g c =
    let last = c.self.inside.last.items in
    let x = c.index-then-left-len-2.result.now in
    sym (c.loop-block.invariant ∙ (ends (λ v. v.items) c.deref-block-items.result.now c.loop-block.block-index last c.loop-block.left c.loop-block-test.false
    ∙ slice_get_read last c.len-2.result c.loop-block.left x (search rules) c.if-left-len-2.true c.index-then-left-len-2.ensures))

pub returns : goal.returns
returns g c =
    let last = c.self.inside.last.items in
    sym (c.loop-block.invariant ∙ (ends (λ v. v.items) c.deref-block-items.result.now c.loop-block.block-index last c.loop-block.left c.loop-block-test.false
    ∙ slice_get_past last c.loop-block.left (search rules)))
