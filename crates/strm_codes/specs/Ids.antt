-- How the id of a table entry is printed.
-- wasmtime, `table.rs`, `Debug` of `TableId`.
use Rattle.std.specs.Prelude.{ℕ, List, ◌++◌, codes, decimal}

-- the name of the type, and the number in parentheses
abbrev pub id_text : List ℕ → ℕ → List ℕ
id_text name number = name ++ codes "(" ++ decimal number ++ codes ")"
