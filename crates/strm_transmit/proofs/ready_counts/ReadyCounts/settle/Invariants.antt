use Rattle.std.proofs.Common.{◌≡◌, ◌+◌}
use Rattle.strm_transmit.specs.ReadyGuests.{AreCounted}
use Rattle.strm_transmit.proofs.ready_counts.ReadyCounts.settle.Given as goal

abbrev pub invariant-loop : goal.invariant-loop
invariant-loop l = record {
  guests : l.self.guests ≡ l.fn.self.guests;
  counted : AreCounted l.streams.items l.self.streams;
  left : l.self.listed + l.counter ≡ l.end;
}
