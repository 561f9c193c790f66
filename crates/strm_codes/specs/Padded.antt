-- A list of at most n, kept at the front of an array of n. Ours.
use Rattle.std.specs.Prelude.{◌≡◌, ℕ, ◌-◌, ◌≤◌, List, ◌++◌, length, take, replicate}

-- the list, and d behind it up to n
abbrev pub padded : {A : Type 0} → ℕ → A → List A → List A
padded n d xs = xs ++ replicate (n - length xs) d

-- the array has the list at its front, and d behind it
pub record IsPadded {A : Type 0} (n : ℕ) (d : A) (array : List A) (len : ℕ) : Type 0 where
  pub most : len ≤ n
  pub whole : length array ≡ n
  pub behind : array ≡ padded n d (take len array)
