-- How the count of a typed end's faults goes with its polls. Ours.
use Rattle.std.specs.Prelude.{ℕ, ◌≤◌}
use Rattle.strm_codes.specs.declared.codes.StreamResult.{StreamResult}
use Rattle.strm_buffers.specs.declared.answers.Turn.{Turn}
use Rattle.strm_buffers.specs.Said.{IfAnswered}
use Rattle.strm_buffers.specs.Tells.{RisesOnFailed}

-- the count before and after a poll that had this turn: it never falls, and where the poll answers
-- Failed it rose
pub record CountsFaults (turn : Turn StreamResult) (old new : ℕ) : Type 0 where
  pub failed : IfAnswered turn (λ answer. RisesOnFailed answer old new)
  pub least : old ≤ new
