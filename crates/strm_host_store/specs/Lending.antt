-- A guest's memory, lent by a store with host ends. Ours.
use Rattle.std.specs.Prelude.{ℕ, List}
use Rattle.std.specs.Borrow.{Lends, MutBor, Fml, Array, u8}
use Rattle.strm_transmit.specs.Lending.{with_bytes_in}
use Rattle.strm_host_store.specs.HostStates.{HostState, with_state}
use Rattle.strm_host_store.specs.contracts.host_store.HostStore.{the_row}

-- the store ends with the bytes that were last written behind r in a guest's memory, and is else as it was
abbrev pub LendsMemory : MutBor HostState → ℕ → MutBor (List ℕ) → Fml
LendsMemory store g r =
    Lends the_row (Array u8 0) store r (λ bytes. with_state store.now (with_bytes_in store.now.state g bytes))
