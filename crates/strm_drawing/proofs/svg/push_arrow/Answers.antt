use Rattle.std.proofs.Common.{inl, inr, refl, ap, ◌∙◌, ◌++◌, ◌+◌, ◌/◌}
use Rattle.std.specs.Prelude.{codes}
use Rattle.std.proofs.lemmas.List.{append_assoc}
use Rattle.strm_drawing.specs.declared.shapes.Point.{Point}
use Rattle.strm_drawing.specs.Svg.{path_text, line_text, count_text}
use Rattle.strm_drawing.proofs.TextLemmas.{shown_one}
use Rattle.strm_drawing.proofs.svg.push_arrow.Goals as goal

pub returns-then-from-to : goal.returns-then-from-to
returns-then-from-to c =
    let from : Point = record { x = c.x_of.result; y = c.saturating_add.result } in
    let to : Point = record { x = c.x_of-2.result; y = c.saturating_add.result } in
    let steps = codes "m0-5c44-4 44 14 0 10" in
    let first = path_text (codes "move") from steps in
    let second = count_text (codes "aside") c.beside.result c.args.arrow.now in
    shown_one c.args.lanes.now.all.items c.args.arrow.now c.args.out.now (first ++ second) c.push_count.new.out
    (c.in_ok-push_count.ensures ∙ ap (λ xs. xs ++ second) c.in_ok-push_path.ensures ∙ append_assoc c.args.out.now first second)
    (record {
      from = from;
      to = to;
      stands = c.x_of.ensures;
      leads = c.x_of-2.ensures;
      text_is = inl ((steps, c.beside.result, refl), c.if-from-to.true);
    })

pub returns : goal.returns
returns c =
    let from : Point = record { x = c.x_of.result; y = c.saturating_add.result } in
    let to : Point = record { x = c.x_of-2.result; y = c.saturating_add.result } in
    let at : Point = record { x = c.x_of.result / 2 + c.x_of-2.result / 2; y = c.args.y } in
    let first = line_text (codes "move") from to in
    let second = count_text (codes "count") at c.args.arrow.now in
    shown_one c.args.lanes.now.all.items c.args.arrow.now c.args.out.now (first ++ second) c.push_count-2.new.out
    (c.in_ok-push_count-2.ensures ∙ ap (λ xs. xs ++ second) c.in_ok-push_line.ensures ∙ append_assoc c.args.out.now first second)
    (record {
      from = from;
      to = to;
      stands = c.x_of.ensures;
      leads = c.x_of-2.ensures;
      text_is = inr (c.saturating_add.result, at, refl);
    })
