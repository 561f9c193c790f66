use Rattle.std.proofs.Common.{◌≡◌, true, take}
use Rattle.std.specs.List.{list_all}
use Rattle.strm_lines.specs.Grammar.{line_of}
use Rattle.strm_tape.specs.Spelling.{is_first_argument}
use Rattle.strm_tape.proofs.versions.are_first_steps.Given as goal

abbrev pub invariant-loop-k : goal.invariant-loop-k
invariant-loop-k l = list_all (λ step. list_all is_first_argument (line_of step).arguments) (take l.k l.steps) ≡ true
