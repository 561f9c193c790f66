use Rattle.std.proofs.Common.{◌≡◌, suc, ◌-◌, length, sym, ap, ◌∙◌, arith}
use Rattle.strm_lines.proofs.GeneratorLemmas.{Draws, length-left, drawn-next}
use Rattle.strm_lines.proofs.generator.DrawnGivesSteps.put_next.Goals as goal

pub overflow_sub-self : goal.overflow_sub-self
overflow_sub-self c =
    let d = c.self.inside in
    omega (arith, c.requires, length-left d.begun d.count d.draws.state, ap length c.self.view_is, c.if-self-lt4.false)

pub returns : goal.returns
returns c =
    let d = c.self.inside in
    let some : d.count ≡ suc (d.count - 1) = omega (arith, c.requires, length-left d.begun d.count d.draws.state, ap length c.self.view_is, c.if-self-lt4.false) in
    let draws : Draws d.draws.state c.draw-first.result c.draw-second.result c.draw-third.result c.draw-third.new.self.state = record {
      first = c.draw-first.new.self.state;
      second = c.draw-second.new.self.state;
      first_is = c.draw-first.ensures.state;
      second_is = c.draw-second.ensures.state;
      third_is = c.draw-third.ensures.state;
      a_is = c.draw-first.ensures.number;
      b_is = c.draw-second.ensures.number;
      c_is = c.draw-third.ensures.number;
    } in
    sym c.self.view_is ∙ drawn-next d.begun d.count (d.count - 1) d.draws.state _ _ _ _ c.drawn_step.result (omega (arith, c.if-self-lt4.false)) draws some c.drawn_step.ensures
