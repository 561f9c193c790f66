use Rattle.std.proofs.Common.{◌≡◌, ◌+◌, ◌≤◌, length, vec_len}
use Rattle.std.specs.Io.KnownBytes.{Consumes}
use Rattle.strm_input_output.proofs.whole.read_within.Given as goal

abbrev pub invariant-loop-room : goal.invariant-loop-room
invariant-loop-room g l = record {
  read : Consumes (g.S.Source.left l.fn.source) (g.S.Source.left l.source) l.text;
  later : g.S.Source.faults l.fn.source ≤ g.S.Source.faults l.source;
  count : length l.text + l.room ≡ l.fn.most + 1;
  whole : vec_len l.piece ≡ 65536;
}

abbrev pub decreases-loop-room : goal.decreases-loop-room
decreases-loop-room g l = l.room
