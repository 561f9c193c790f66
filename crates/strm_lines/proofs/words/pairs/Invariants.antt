use Rattle.std.proofs.Common.{◌≡◌, ◌*◌, ◌<◌, ◌≤◌, None, length, take, drop}
use Rattle.strm_lines.specs.Reading.{pairs_from}
use Rattle.strm_lines.proofs.HexLemmas.{with_front}
use Rattle.strm_lines.proofs.words.pairs.Given as goal

abbrev pub invariant-loop-k : goal.invariant-loop-k
invariant-loop-k l = record {
  whole : length l.bytes ≡ 64;
  good : l.worst < 16 → with_front (take l.k l.bytes) (pairs_from (drop (2 * l.k) l.word)) ≡ pairs_from l.word;
  bad : 16 ≤ l.worst → pairs_from l.word ≡ None;
}
