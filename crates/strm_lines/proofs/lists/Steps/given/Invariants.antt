use Rattle.std.proofs.Common.{◌≡◌, ◌+◌, ◌++◌, length}
use Rattle.strm_lines.proofs.lists.Steps.given.Given as goal

abbrev pub invariant-loop : goal.invariant-loop
invariant-loop g l = record {
  all : l.steps ++ g.L.GivesSteps.left l.given ≡ g.L.GivesSteps.left l.fn.given;
  count : l.counter + length (g.L.GivesSteps.left l.given) ≡ l.end;
}
