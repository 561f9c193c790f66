-- The bytes of a memory, lent. Ours.
use Rattle.std.specs.Prelude.{ℕ, List, ◌++◌, length, take, drop}
use Rattle.std.specs.List.{refill}
use Rattle.std.specs.Borrow.{Lends, MutBor, Fml, Array, u8}
use Rattle.strm_memory.specs.Linear.{LinearMemory, with_contents}
use Rattle.strm_memory.specs.contracts.memories.GuestMemory.{the_row}

-- the memory ends as the bytes that were last written behind r, in the same place
abbrev pub LendsBytes : MutBor LinearMemory → MutBor (List ℕ) → Fml
LendsBytes memory r =
    Lends the_row (Array u8 0) memory r
    (λ w. with_contents memory.now (refill (length memory.now.bytes) memory.now.bytes w))

-- bytes with others written over them from a place on, up to their end
abbrev pub written_from : List ℕ → ℕ → List ℕ → List ℕ
written_from bytes from new = take from bytes ++ refill (length (drop from bytes)) (drop from bytes) new

-- the memory ends with the bytes that were last written behind r in their place
abbrev pub LendsRange : MutBor LinearMemory → ℕ → MutBor (List ℕ) → Fml
LendsRange memory from r =
    Lends the_row (Array u8 0) memory r
    (λ w. with_contents memory.now (written_from memory.now.bytes from w))
