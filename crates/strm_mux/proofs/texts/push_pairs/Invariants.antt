use Rattle.std.proofs.Common.{◌≡◌, ◌++◌, take}
use Rattle.strm_lines.specs.Words.{hex_pairs}
use Rattle.strm_mux.proofs.texts.push_pairs.Given as goal

abbrev pub invariant-loop-byte : goal.invariant-loop-byte
invariant-loop-byte l = l.out ≡ l.initial.out ++ hex_pairs (take l.byte-index l.bytes)
