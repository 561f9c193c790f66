-- The limit of counts.
-- Canonical ABI, `Buffer.MAX_LENGTH`; wasmtime, `ItemCount` of `futures_and_streams.rs`.
use Rattle.std.specs.Prelude.{ℕ}

-- 2^28, the first number that is no count: the word of a code has 28 bits for it
abbrev pub count_limit : ℕ
count_limit = 268435456
