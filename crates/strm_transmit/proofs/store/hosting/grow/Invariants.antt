use Rattle.std.proofs.Common.{◌≡◌, length}
use Rattle.strm_transmit.specs.Keeping.{HasGrown}
use Rattle.strm_transmit.proofs.store.hosting.grow.Given as goal

-- one place more each time
abbrev pub invariant-loop-place : goal.invariant-loop-place
invariant-loop-place l = record {
  grown : HasGrown l.fn.kept.items l.kept.items;
  count : length l.kept.items ≡ l._place;
}
