-- An `Option` as a buffer of at most one item.
-- wasmtime, `futures_and_streams/buffers.rs`.
use Rattle.std.specs.Prelude.{ℕ, List, [], ◌∷◌, Option, Some, None}

-- the items in it
abbrev pub option_items : {A : Type 0} → Option A → List A
option_items None = []
option_items (Some x) = x ∷ []

-- how many more there is room for
abbrev pub option_room : {A : Type 0} → Option A → ℕ
option_room None = 1
option_room (Some x) = 0
