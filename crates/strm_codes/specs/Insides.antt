-- What is left of a type once its own number was taken. Ours.
use Rattle.std.specs.Prelude.{◌≡◌, ℕ, ◌+◌, ◌≤◌, ℤ, List, length, drop}
use Rattle.strm_codes.specs.ItemTypes.{ItemType, Parts}
use Rattle.strm_codes.specs.Spellings.{arity, taken, type_with}
use Rattle.strm_codes.specs.Begins.{left, left_fields, Begins, BeginFields}
use Rattle.strm_codes.specs.declared.nodes.Node.{Node}
use Rattle.strm_codes.specs.declared.insides.Entered.{Entered}

-- numbers begin with an item of a type exactly where those behind so many begin with its parts
pub record IsLeft (t : ItemType) (inside : Parts) (xs : List ℤ) (numbers : ℕ) : Type 0 where
  pub onward : Begins t xs → BeginFields inside (drop numbers xs)
  pub back : BeginFields inside (drop numbers xs) → Begins t xs
  pub rest : left t xs ≡ left_fields inside (drop numbers xs)
  pub few : numbers ≤ length xs

-- the same by the words: these parts are among those of the type
pub record LeavesParts (n : Node) (ts : List ItemType) (xs : List ℤ) (e : Entered) : Type 0 where
  pub entered : IsLeft (type_with n ts) (taken e.inside.parts (drop e.inside.skipped ts)) xs e.numbers
  pub within : e.inside.skipped + e.inside.parts ≤ arity n
