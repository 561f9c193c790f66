use Rattle.std.proofs.Common.{◌≡◌}
use Rattle.strm_lines.specs.Reading.{name_cut}
use Rattle.strm_lines.proofs.TypeWordLemmas.{cut_from}
use Rattle.strm_lines.proofs.type_words.name.Given as goal

abbrev pub invariant-loop-at : goal.invariant-loop-at
invariant-loop-at l = cut_from l.at l.text ≡ name_cut l.text
