use Rattle.std.proofs.Common.{◌≡◌, ◌++◌, map, take}
use Rattle.strm_codes.specs.NodeBytes.{node_byte}
use Rattle.strm_tape.proofs.writing.put_type_words.Given as goal

abbrev pub invariant-loop-k : goal.invariant-loop-k
invariant-loop-k l = l.out.items ≡ l.fn.out.items ++ map node_byte (take l.k l.words)
