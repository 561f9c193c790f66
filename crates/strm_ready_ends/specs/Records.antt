-- Records of polls that are not forgotten yet. Ours.
use Rattle.std.specs.Prelude.{◌≡◌, ℕ, ◌-◌, List, [], ◌∷◌, Option, Some, None}

-- the records in order, and how many more are added without an allocation
pub record Recorded (T : Type 0) : Type 0 where
  pub items : List T
  pub room : ℕ

module _ {T : Type 0} where
  -- the first one, and those behind it
  abbrev pub all_records : Option T → List T → List T
  all_records None more = more
  all_records (Some first) more = first ∷ more

  -- where there is no first one there is a place for it, and else behind the others
  abbrev pub room_behind : Option T → ℕ → ℕ → ℕ
  room_behind None capacity len = 1
  room_behind (Some first) capacity len = capacity - len

  -- where there is no first one there are no others
  abbrev pub FirstComesFirst : Option T → List T → Type 0
  FirstComesFirst None more = more ≡ []
  FirstComesFirst (Some first) more = Unit {0}
