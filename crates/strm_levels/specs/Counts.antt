-- How many of something each number has, and which number is the next that has any. Ours.
use Rattle.std.specs.Prelude.{◌≡◌, ℕ, ◌+◌, ◌-◌, ◌<◌, ◌≤◌, Bool, true, false, nat_lt, List, length, slice_index_or, slice_set}

-- how many a number has; one behind the last has none
abbrev pub count_at : List ℕ → ℕ → ℕ
count_at counts n = slice_index_or counts n 0

-- a number has any
abbrev pub has_any : List ℕ → ℕ → Bool
has_any counts n = nat_lt 0 (count_at counts n)

-- a number has one more; where it is behind the last, nothing changes
abbrev pub raised : List ℕ → ℕ → List ℕ
raised counts n = slice_set counts n (count_at counts n + 1)

-- a number has one less; where it is behind the last, nothing changes
abbrev pub lowered : List ℕ → ℕ → List ℕ
lowered counts n = slice_set counts n (count_at counts n - 1)

-- this is the least number, from one on, that has any
pub record IsNext (counts : List ℕ) (from n : ℕ) : Type 0 where
  pub inside : n < length counts
  pub behind : from ≤ n
  pub any : has_any counts n ≡ true
  pub least : (m : ℕ) → from ≤ m → m < n → has_any counts m ≡ false

-- no number from one on has any
abbrev pub HasNoneFrom : List ℕ → ℕ → Type 0
HasNoneFrom counts from = (m : ℕ) → from ≤ m → has_any counts m ≡ false
