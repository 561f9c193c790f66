-- What contracts see of the value in the table's slot. Ours.
use Rattle.std.specs.Prelude.{ℕ, ◌+◌, List, [], ◌∷◌, ◌++◌}
use Rattle.strm_machine.specs.declared.limits.Limits.{Limits}
use Rattle.strm_shared.specs.declared.entry.Entry.{Entry}
use Rattle.strm_shared.specs.declared.entry.Wait.{Wait}

-- the store's limits, the history, the number of idle turns, which made no entry, and the waits
pub record Account : Type 0 where
  pub limits : Limits
  pub log : List Entry
  pub idle : ℕ
  pub waits : List Wait

-- these together
abbrev pub account : Limits → List Entry → ℕ → List Wait → Account
account limits log idle waits = record { limits = limits; log = log; idle = idle; waits = waits }

-- before the first turn
abbrev pub opened : Limits → Account
opened limits = account limits [] 0 []

-- one entry more
abbrev pub entered : Account → Entry → Account
entered before entry = record before { log = before.log ++ entry ∷ [] }

-- one entry more, and these waits
abbrev pub entered_with : Account → Entry → List Wait → Account
entered_with before entry waits = record before { log = before.log ++ entry ∷ []; waits = waits }

-- one idle turn more
abbrev pub idled : Account → Account
idled before = record before { idle = before.idle + 1 }
