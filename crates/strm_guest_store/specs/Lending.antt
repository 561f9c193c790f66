-- A guest's memory, lent. Ours.
use Rattle.std.specs.Prelude.{ℕ, List}
use Rattle.std.specs.Borrow.{Lends, MutBor, Fml, Array, u8}
use Rattle.strm_machine.specs.State.{State}
use Rattle.strm_transmit.specs.Lending.{with_bytes_in}
use Rattle.strm_guest_store.specs.contracts.guest_store.GuestStore.{the_row}

-- the store ends with the bytes that were last written behind r in a guest's memory, and is else as it was
abbrev pub LendsGuestMemory : MutBor State → ℕ → MutBor (List ℕ) → Fml
LendsGuestMemory store g r = Lends the_row (Array u8 0) store r (with_bytes_in store.now g)
