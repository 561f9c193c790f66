-- How many handles a guest has, and of which kinds, which is asked and changes nothing. Ours.
use Rattle.std.specs.Prelude.{ℕ, Result, Ok}
use Rattle.strm_codes.specs.declared.refusals.Refusal.{Refusal}
use Rattle.strm_handles.specs.Handles.{Handles, occupied}
use Rattle.strm_handles.specs.Kinds.{ends_held, contexts_held}
use Rattle.strm_machine.specs.State.{State, guest_in}
use Rattle.strm_transmit.specs.Queries.{of_guest}
use Rattle.strm_transmit.specs.declared.store.counts.GuestCounts.{GuestCounts}

-- the handles of a table: all, those of ends of streams and futures, and those of error contexts
abbrev pub handle_counts : Handles → GuestCounts
handle_counts handles = record {
  handles = occupied handles;
  ends = ends_held handles;
  contexts = contexts_held handles;
}

-- what is answered of a guest's, also by a store that was trapped
abbrev pub counts_answer : State → ℕ → Result GuestCounts Refusal
counts_answer state g = of_guest state g (Ok (handle_counts (guest_in state.guests g).handles))
