-- What holds of every table. Ours; wasmtime asserts parts of it.
use Rattle.std.specs.Prelude.{◌≡◌, map, is_some}
use Rattle.strm_resources.specs.Links.{IsLinked}
use Rattle.strm_resources.specs.Entries.{Entries}

-- a number has a node exactly where it has a value, and the links and freed numbers are kept
pub record IsWellKept {V : Type 0} (e : Entries V) : Type 0 where
  pub alike : map is_some e.values ≡ map is_some e.nodes
  pub kept : IsLinked e.nodes e.freed
