use Rattle.std.proofs.Common.{subst, arith}
use Rattle.std.proofs.lemmas.List.{take_all}
use Rattle.strm_drawing.specs.Svg.{Shown, arrows_of_block, arrows_of_blocks}
use Rattle.strm_drawing.proofs.TextLemmas.{shown_same, shown_more}
use Rattle.strm_drawing.proofs.svg.push_blocks.Goals as goal

pub loop-k-init : goal.loop-k-init
loop-k-init c = shown_same c.args.lanes.now.all.items c.args.out.now

pub loop-k-preserved : goal.loop-k-preserved
loop-k-preserved c =
    let lanes = c.args.lanes.now.all.items in
    let block = c.index-blocks-k.result in
    shown_more lanes arrows_of_block c.args.blocks.now c.loop-k.k block _ _ _ c.loop-k-test.true c.loop-k.invariant
    (subst (λ b. Shown lanes (arrows_of_block b) c.loop-k.out c.push_block.new.out) c.index-blocks-k.is c.in_ok-push_block.ensures)

pub returns : goal.returns
returns c =
    subst (λ xs. Shown c.args.lanes.now.all.items (arrows_of_blocks xs) c.args.out.now c.loop-k.out)
    (take_all c.loop-k.k c.args.blocks.now (omega (arith, c.loop-k-test.false))) c.loop-k.invariant
