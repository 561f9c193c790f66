use Rattle.std.proofs.Common.{ap, subst, ◌∙◌, ◌++◌}
use Rattle.strm_drawing.specs.Svg.{Shown, arrows_of_blocks}
use Rattle.strm_drawing.proofs.TextLemmas.{shown_text}
use Rattle.strm_drawing.proofs.svg.svg_text.Goals as goal

pub returns : goal.returns
returns c =
    let lanes = c.in_ok-lanes.lanes.all.items in (
      lanes,
      shown_text lanes (arrows_of_blocks c.args.picture.now.blocks.items) c.in_ok-out.out c.push_heads.new.out c.push_blocks.new.out c.as_slice-4.result.now _ c.push_slice.new.self c.push_slice-2.new.self c.push_slice-3.new.self
          (c.in_ok-push_slice.ensures.ok ∙ ap (λ xs. c.in_ok-out.out ++ xs) c.as_slice-3.ensures)
          c.in_ok-push_slice-2.ensures.ok
          c.in_ok-push_slice-3.ensures.ok
          (subst (λ bs. Shown lanes (arrows_of_blocks bs) c.push_heads.new.out c.push_blocks.new.out) c.as_slice-2.ensures.value c.in_ok-push_blocks.ensures),
    )
