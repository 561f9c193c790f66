use Rattle.strm.proofs.TellsLemmas.{served_so, drawn_so}
use Rattle.strm.proofs.WorkAmongHosts.serve_among.Goals as goal

pub returns-then-is_draw : goal.returns-then-is_draw
returns-then-is_draw g c =
    drawn_so c.draw_script-status.result _ c.from.ensures _ _ c.requires.writers c.requires.readers c.draw_script-status.ensures.known
    (c.is_draw.ensures.0 c.if-is_draw.true)
    (λ written wanted.
    let told = c.draw_script-status.ensures.writes.told written wanted in
    (_, _, told.0, told.1))

pub returns : goal.returns
returns g c =
    served_so c.serve-status.result _ c.from-2.ensures _ _ c.requires.writers c.requires.readers c.serve-status.ensures.known
    (λ draw. absurd (let wrong = c.is_draw.ensures.1 draw in cc))
    (λ written wanted.
    let told = c.serve-status.ensures.writes.told written wanted in
    (_, _, told.0, told.1))
