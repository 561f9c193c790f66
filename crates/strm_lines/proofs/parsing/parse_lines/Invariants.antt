use Rattle.std.proofs.Common.{◌≡◌, ◌+◌, ◌++◌, length, map}
use Rattle.std.specs.Prelude.{All}
use Rattle.strm_lines.specs.Grammar.{spelling, HasLine}
use Rattle.strm_lines.specs.Lines.{lines_of}
use Rattle.strm_lines.proofs.parsing.parse_lines.Given as goal

abbrev pub invariant-loop-rest : goal.invariant-loop-rest
invariant-loop-rest g l = record {
  lines : lines_of l.bytes ≡ map spelling (g.L.TakesSteps.steps l.steps) ++ lines_of l.rest;
  have : All HasLine (g.L.TakesSteps.steps l.steps);
  number : l.line ≡ length (g.L.TakesSteps.steps l.steps) + 1;
}

abbrev pub decreases-loop-rest : goal.decreases-loop-rest
decreases-loop-rest g l = length l.rest
