-- A guest's memory, lent. Ours.
use Rattle.std.specs.Prelude.{ℕ, List, length}
use Rattle.std.specs.List.{refill}
use Rattle.std.specs.Borrow.{Lends, MutBor, Fml, Array, u8}
use Rattle.strm_machine.specs.State.{State, memory_in, with_memory}
use Rattle.strm_transmit.specs.contracts.store.Store.{the_row}

-- the state with these bytes in a guest's memory, of which as many count as it has
abbrev pub with_bytes_in : State → ℕ → List ℕ → State
with_bytes_in state g bytes =
    let memory = memory_in state.guests g in
    record state { guests = with_memory state.guests g (refill (length memory) memory bytes) }

-- the store ends with the bytes that were last written behind r in a guest's memory, and is else as it was
abbrev pub LendsMemory : MutBor State → ℕ → MutBor (List ℕ) → Fml
LendsMemory store g r = Lends the_row (Array u8 0) store r (with_bytes_in store.now g)
