-- What is known of the members of sets that are ready: a list, the greatest first, or nothing. Ours.
use Rattle.std.specs.Prelude.{◌≡◌, ℕ, ◌<◌, Bool, false, ◌||◌, nat_eq, List, [], ◌∷◌, slice_index_or, Option, None, IfSome}

-- a list has a handle
abbrev pub is_in : List ℕ → ℕ → Bool
is_in [] handle = false
is_in (h ∷ hs) handle = nat_eq handle h || is_in hs handle

-- all are below one
abbrev pub AreBelow : ℕ → List ℕ → Type 0
AreBelow top [] = Unit {0}
AreBelow top (h ∷ hs) = (h < top) × AreBelow top hs

-- each is below the one before it
abbrev pub IsFalling : List ℕ → Type 0
IsFalling [] = Unit {0}
IsFalling (h ∷ hs) = AreBelow h hs × IsFalling hs

-- the ready members of the set of a number, where they are known
abbrev pub known : List (Option (List ℕ)) → ℕ → Option (List ℕ)
known sets number = slice_index_or sets number None

-- where the ready members of a set are known, a handle is one of them, or is none
abbrev pub Says : List (Option (List ℕ)) → ℕ → ℕ → Bool → Type 0
Says sets number handle ready = IfSome (known sets number) (λ handles. is_in handles handle ≡ ready)

-- what was said of handles still is, but of this handle of this set
abbrev pub SaysStill : List (Option (List ℕ)) → List (Option (List ℕ)) → ℕ → ℕ → Bool → Type 0
SaysStill old new number handle ready =
    (other_number other : ℕ) (b : Bool) → Says old other_number other b
    → (other_number ≡ number → other ≡ handle → b ≡ ready) → Says new other_number other b
