use Rattle.std.proofs.Common.{◌≡◌, ◌≤◌, replicate}
use Rattle.strm_transmit.specs.ReadyGuests.{new_entry}
use Rattle.strm_transmit.proofs.readiness.new_counts.Given as goal

abbrev pub invariant-loop : goal.invariant-loop
invariant-loop l = record {
  guests : l.counts.guests ≡ l.guests;
  streams : l.counts.streams ≡ replicate l.counter new_entry;
  room : l.streams ≤ l.counts.room;
}
