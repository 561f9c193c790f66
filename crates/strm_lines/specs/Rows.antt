-- Steps in rows. Ours.
use Rattle.std.specs.Prelude.{ℕ, List}
use Rattle.strm_machine.specs.declared.steps.Step.{Step}

-- what contracts see of steps in rows: the steps, and how many more there is room for
pub record RowList : Type 0 where
  pub items : List Step
  pub room : ℕ
