use Rattle.std.proofs.Common.{◌≡◌, length}
use Rattle.strm_levels.proofs.LevelLemmas.{IsOverBelow}
use Rattle.strm_levels.proofs.levels.mark_all.Given as goal

abbrev pub invariant-loop-place : goal.invariant-loop-place
invariant-loop-place l = record {
  below : IsOverBelow l.low l.high l.place;
  all : length l.high ≡ length l.initial.high;
}
