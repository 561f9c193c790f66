-- The lists of numbers that are items of a payload, and those that a value holds.
-- Canonical ABI, "Loading" and "Storing".
use Rattle.std.specs.Prelude.{ℕ, ◌^◌, ℤ, pos, neg_ℤ, ◌≤ℤ◌, ◌<ℤ◌, List, All, take}
use Rattle.strm_codes.specs.Padded.{IsPadded}

-- a number of at most 64 bits, signed or not
abbrev pub IsNumber : ℤ → Type 0
IsNumber x = (neg_ℤ (pos (2 ^ 63)) ≤ℤ x) × (x <ℤ pos (2 ^ 64))

-- the numbers at the front of an array of sixteen, and 0 behind them
pub record AreNumbers (array : List ℤ) (len : ℕ) : Type 0 where
  pub padded : IsPadded 16 (pos 0) array len
  pub range : All IsNumber (take len array)
