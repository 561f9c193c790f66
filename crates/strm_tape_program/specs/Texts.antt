-- The texts of the program of tapes that are always the same. Ours.
use Rattle.std.specs.Prelude.{ℕ, List, codes}
use Rattle.strm_lines.specs.Text.{line_ended}

-- what is written where the words of the program are none of its own
abbrev pub tape_usage_text : List ℕ
tape_usage_text = line_ended (codes "usage: tape take | tape play")

-- what is written for bytes that are no tape
abbrev pub not_a_tape_text : List ℕ
not_a_tape_text = line_ended (codes "not a tape")

-- what is written where a host end that was played recorded something else than the tape says
abbrev pub differs_text : List ℕ
differs_text = line_ended (codes "differs")
