-- The waitable sets of one guest: which set numbers are there, and the set that each handle is in.
-- Component Model, `WaitableSet` and `Waitable.join`: a waitable is in one set at most. Ours: a number
-- for each set, the least that no set has, and the least member that is ready, where the Canonical ABI
-- leaves the choice open.
use Rattle.std.specs.Prelude.{◌≡◌, ℕ, ◌<◌, Bool, true, false, not, nat_eq, nat_lt, if◌then◌else◌, List, [], ◌∷◌, ◌++◌, length, slice_set, slice_index_or, Option, refl}
use Rattle.std.specs.Coded.{Coded, code_by, coded×, coded_ℕ, coded_bool, coded_list}
use Rattle.std.specs.FinMap as map
use Rattle.std.specs.List.{position_or_len, list_any}
use Rattle.std.specs.List.Sorted.{IsStrictlyIncreasing}
use Rattle.std.specs.Ordering.{nat_cmp}
use Rattle.strm_codes.specs.OptionalNumbers.{is_number}

-- which numbers have a set, from 0 on, and the number of the set that a handle is in
pub record Sets : Type 0 where
  pub there : List Bool
  pub homes : map.FinMap nat_cmp ℕ

-- sets are stored as the pair of their fields
abbrev pub sets_code : Coded Sets
sets_code =
    code_by
    (List Bool × map.FinMap nat_cmp ℕ)
    (coded× (coded_list coded_bool) (map.code coded_ℕ coded_ℕ))
    (λ s. (s.there, s.homes))
    (λ p. record { there = p.0; homes = p.1 })
    (λ _. refl)

-- no sets
abbrev pub no_sets : Sets
no_sets = record { there = []; homes = map.empty }

-- a set has this number
abbrev pub is_set_there : Sets → ℕ → Bool
is_set_there sets number = slice_index_or sets.there number false

-- the set that a handle is in
abbrev pub set_of : Sets → ℕ → Option ℕ
set_of sets handle = map.get sets.homes handle

-- the handle is in the set of this number
abbrev pub is_member : Sets → ℕ → ℕ → Bool
is_member sets number handle = is_number (set_of sets handle) number

-- the handles that are in the set of this number, ascending
abbrev pub members : Sets → ℕ → List ℕ
members sets number = map.keys (map.retain_keys sets.homes (is_member sets number))

-- the least number that no set has
abbrev pub least_free : Sets → ℕ
least_free sets = position_or_len not sets.there

-- the flags with one set at this place, which is one of them or the next one
abbrev pub set_placed : List Bool → ℕ → List Bool
set_placed there number =
    if nat_lt number (length there) then slice_set there number true else (there ++ true ∷ [])

-- a set more, of the least number that none has, without members
abbrev pub with_new_set : Sets → Sets
with_new_set sets = record sets { there = set_placed sets.there (least_free sets) }

-- the handle is in this set, and in no other
abbrev pub handle_joined : Sets → ℕ → ℕ → Sets
handle_joined sets handle number = record sets { homes = map.insert sets.homes handle number }

-- the handle is in no set
abbrev pub handle_left : Sets → ℕ → Sets
handle_left sets handle = record sets { homes = map.remove sets.homes handle }

-- the set is there no more
abbrev pub without_set : Sets → ℕ → Sets
without_set sets number = record sets { there = slice_set sets.there number false }

-- a handle is in the set of this number
pub record HasMember (sets : Sets) (number : ℕ) : Type 0 where
  pub handle : ℕ
  pub there : is_member sets number handle ≡ true

-- no handle is in the set of this number
abbrev pub HasNoMember : Sets → ℕ → Type 0
HasNoMember sets number = (handle : ℕ) → is_member sets number handle ≡ false

-- by what was said of handles, no member of the set is ready
abbrev pub NoneReady : (ℕ → Bool → Type 0) → Sets → ℕ → Type 0
NoneReady says sets number = (handle : ℕ) → is_member sets number handle ≡ true → says handle false

-- by what was said of handles, this one is the least member of the set that is ready
pub record IsLeastReady (says : ℕ → Bool → Type 0) (sets : Sets) (number handle : ℕ) : Type 0 where
  pub member : is_member sets number handle ≡ true
  pub ready : says handle true
  pub least : (other : ℕ) → other < handle → is_member sets number other ≡ true → says other false

-- the list has the handles that are in the set of this number, ascending
pub record ListsHandles (sets : Sets) (number : ℕ) (handles : List ℕ) : Type 0 where
  pub ascending : IsStrictlyIncreasing handles
  pub same : (handle : ℕ) → list_any (nat_eq handle) handles ≡ is_member sets number handle

-- a handle is in one set at most, and that set is there
pub record AreSetsKept (sets : Sets) : Type 0 where
  pub one : (handle a b : ℕ) → is_member sets a handle ≡ true → is_member sets b handle ≡ true → a ≡ b
  pub there : (handle number : ℕ) → is_member sets number handle ≡ true → is_set_there sets number ≡ true
