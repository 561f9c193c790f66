-- Counters of 64 bits that stand still at their end. Ours.
use Rattle.std.specs.Prelude.{ℕ, ◌+◌, ◌-◌, ◌^◌, ◌≤◌, nat_lt, if◌then◌else◌}

-- one more, in a counter of 64 bits that stands still at its end
abbrev pub one_more : ℕ → ℕ
one_more n = if nat_lt n (2 ^ 64 - 1) then n + 1 else n

-- a count rose, or stands at its counter's end
abbrev pub Rose : ℕ → ℕ → Type 0
Rose old new = one_more old ≤ new
