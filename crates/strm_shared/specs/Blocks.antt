-- Lists that grow in blocks. Ours.
use Rattle.std.specs.Prelude.{ℕ, List}

-- what contracts see of such a list: its items, and for how many there is room
pub record Grown (T : Type 0) : Type 0 where
  pub items : List T
  pub room : ℕ
