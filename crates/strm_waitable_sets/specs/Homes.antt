-- The set that each handle is in, by the handle, and how many handles are in a set. Ours.
use Rattle.std.specs.Prelude.{◌≡◌, ℕ, ◌+◌, List, [], ◌∷◌, slice_index_or, Option, Some, None, count_by}
use Rattle.std.specs.FinMap as map
use Rattle.std.specs.Ordering.{nat_cmp}
use Rattle.strm_codes.specs.OptionalNumbers.{is_number}

-- the set that a handle is in; a handle behind the last is in none
abbrev pub home_at : List (Option ℕ) → ℕ → Option ℕ
home_at homes handle = slice_index_or homes handle None

-- how many handles are in the set of this number
abbrev pub member_count : List (Option ℕ) → ℕ → ℕ
member_count homes number = count_by (λ home. is_number home number) homes

-- the set of each handle that is in one, where the first place is this handle's
unfoldable pub homes_from : ℕ → List (Option ℕ) → map.FinMap nat_cmp ℕ
homes_from handle [] = map.empty
homes_from handle (None ∷ homes) = homes_from (handle + 1) homes
homes_from handle (Some number ∷ homes) = map.insert (homes_from (handle + 1) homes) handle number

-- each handle is in the same set, and each set has as many handles
pub record AreSameHomes (old new : List (Option ℕ)) : Type 0 where
  pub homes : (handle : ℕ) → home_at new handle ≡ home_at old handle
  pub counts : (number : ℕ) → member_count new number ≡ member_count old number
