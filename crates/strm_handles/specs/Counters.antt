-- The counter of live handles.
-- wasmtime, `handle_table.rs`, `HandleCounter`.
use Rattle.std.specs.Prelude.{ℕ, ◌+◌, ◌-◌}

-- how many handles are live, and how many may be
pub record Counter : Type 0 where
  pub limit : ℕ
  pub live : ℕ

-- one more is live
abbrev pub counted : Counter → Counter
counted c = record c { live = c.live + 1 }

-- one less is live
abbrev pub uncounted : Counter → Counter
uncounted c = record c { live = c.live - 1 }
