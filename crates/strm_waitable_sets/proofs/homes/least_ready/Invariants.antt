use Rattle.std.proofs.Common.{◌≡◌, ℕ, ◌<◌, true, false}
use Rattle.strm_codes.specs.OptionalNumbers.{is_number}
use Rattle.strm_waitable_sets.specs.Homes.{home_at}
use Rattle.strm_waitable_sets.proofs.homes.least_ready.Given as goal

-- none of the handles before this one is a member that is ready
abbrev pub invariant-loop-place : goal.invariant-loop-place
invariant-loop-place g l =
    (other : ℕ) → other < l.place → is_number (home_at l.homes other) l.set ≡ true → goal.F-post g l.ready other false
