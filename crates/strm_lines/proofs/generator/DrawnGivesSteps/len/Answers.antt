use Rattle.std.proofs.Common.{length, ap, arith}
use Rattle.strm_lines.proofs.GeneratorLemmas.{length-left}
use Rattle.strm_lines.proofs.generator.DrawnGivesSteps.len.Goals as goal

pub returns : goal.returns
returns c =
    let d = c.self.inside in
    omega (arith, c.saturating_sub.ensures, length-left d.begun d.count d.draws.state, ap length c.self.view_is)
