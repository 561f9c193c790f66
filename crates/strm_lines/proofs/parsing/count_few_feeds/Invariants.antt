use Rattle.std.proofs.Common.{◌≡◌, ◌≤◌, take}
use Rattle.strm_lines.specs.Lines.{feeds}
use Rattle.strm_lines.proofs.parsing.count_few_feeds.Given as goal

abbrev pub invariant-loop-byte : goal.invariant-loop-byte
invariant-loop-byte l = record {
  exact : l.count ≡ feeds (take l.byte-index l.bytes);
  most : l.count ≤ l.byte-index;
}
