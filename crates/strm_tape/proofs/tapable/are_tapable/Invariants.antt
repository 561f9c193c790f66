use Rattle.std.proofs.Common.{take}
use Rattle.std.specs.Prelude.{All}
use Rattle.strm_lines.specs.Grammar.{HasLine}
use Rattle.strm_tape.proofs.tapable.are_tapable.Given as goal

abbrev pub invariant-loop-k : goal.invariant-loop-k
invariant-loop-k l = All HasLine (take l.k l.steps)
