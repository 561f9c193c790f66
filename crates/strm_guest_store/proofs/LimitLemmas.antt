-- Where no guest has a bound, no making passes one: a table has fewer than 2^28 handles.
use Rattle.std.proofs.Common.{◌≡◌, ℕ, ◌+◌, ◌≤◌, Bool, true, false, [], refl, arith}
use Rattle.std.specs.Prelude.{◌==◌, ◌&&◌, ◌||◌, not, nat_lt, if◌then◌else◌}
use Rattle.std.proofs.lemmas.Bool.Decides.{nat_tests}
use Rattle.strm_handles.specs.Handles.{Handles, IsTable, occupied}
use Rattle.strm_handles.specs.Kinds.{ends_held}
use Rattle.strm_handles.proofs.KindLemmas.{ends-most}
use Rattle.strm_machine.specs.State.{State, guest_in}
use Rattle.strm_machine.specs.Tests.{is_unknown_guest}
use Rattle.strm_transmit.specs.Counts.{handle_counts}
use Rattle.strm_guest_store.specs.Among.{IsAmongGuests}
use Rattle.strm_guest_store.specs.Limits.{unbounded, passes_by_ends, is_past, is_pair_past}
use Rattle.strm_guest_store.specs.declared.guest_limits.Gain.TheVariants.{Ends}

below : (n : ℕ) → n ≤ 4294967295 → nat_lt 4294967295 n ≡ false
below n l = grind (arith, nat_tests)

none_passes : (handles : Handles) (more : ℕ) → IsTable handles → more ≤ 2 → passes_by_ends unbounded (handle_counts handles) more ≡ false
none_passes handles more t few =
    let by_handles = below (occupied handles + more) (omega (arith, t.all, t.small, few)) in
    let by_ends = below (ends_held handles + more) (omega (arith, t.all, t.small, few, ends-most handles)) in
    rw (by_handles, by_ends) refl

none_past : (state : State) (g more : ℕ) → IsAmongGuests state → more ≤ 2 → is_past state [] g (Ends more) ≡ false
none_past state g more among few =
    rw (none_passes (guest_in state.guests g).handles more (among.held.tables g) few) (neither (not (is_unknown_guest state g)))
  where
    neither : (b : Bool) → b && false ≡ false
    neither true = refl
    neither false = refl

pub no_pair_past : (state : State) (writer reader : ℕ) → IsAmongGuests state → is_pair_past state [] writer reader ≡ false
no_pair_past state writer reader among =
    rw (none_past state writer 2 among (omega arith), none_past state writer 1 among (omega arith), none_past state reader 1 among (omega arith))
    (either (writer == reader))
  where
    either : (b : Bool) → (if b then false else (false || false)) ≡ false
    either true = refl
    either false = refl
