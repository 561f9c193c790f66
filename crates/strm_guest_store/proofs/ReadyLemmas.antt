-- Which handles a guest that is ready has, and which guest is ready that has such a handle.
use Rattle.std.proofs.Common.{◌≡◌, ℕ, suc, ◌+◌, ◌<◌, Bool, true, false, List, [], ◌∷◌, length, get_or, cond, Option, Some, None, Ok, Err, refl, ap, ◌∙◌, subst, arith}
use Rattle.std.specs.Prelude.{is_some, is_ok, ◌==◌}
use Rattle.std.proofs.lemmas.Bool.{and_parts, eqb-true, eq-eqb, ltb-true, lt-ltb}
use Rattle.std.proofs.lemmas.List.Sums.{sum_by-cons}
use Rattle.strm_codes.specs.OptionalNumbers.{is_number}
use Rattle.strm_machine.specs.Moments.{is_end}
use Rattle.strm_machine.specs.Sides.{end_of, same_side}
use Rattle.strm_machine.specs.Soundness.{IsSound}
use Rattle.strm_machine.specs.State.{State, no_stream, stream_at}
use Rattle.strm_machine.specs.Tests.{Name, end_named, side_of, stream_named}
use Rattle.strm_machine.specs.WaitableSets.{report_of_named, is_ready}
use Rattle.strm_machine.specs.declared.streams.Owner.{Owner}
use Rattle.strm_machine.specs.declared.streams.Owner.TheVariants.{Held, Host, Loose, Gone}
use Rattle.strm_machine.specs.declared.streams.Side.{Side}
use Rattle.strm_machine.specs.declared.streams.Side.TheVariants.{Writing, Reading}
use Rattle.strm_machine.specs.declared.streams.Stream.{Stream}
use Rattle.strm_machine.proofs.NamedEndLemmas.{end_itself, end_there}
use Rattle.strm_machine.proofs.SideLemmas.{same_side_is}
use Rattle.strm_transmit.specs.ReadyGuests.{guest_if, ready_at, ready_by, ends_for, ready_ends, is_ready_guest}
use Rattle.strm_transmit.specs.Telling.{has_report}
use Rattle.strm_transmit.proofs.ReadyGuestLemmas.{ready_ends-at}
use Rattle.strm_guest_store.specs.Among.{HandlesAgree}
use Rattle.strm_guest_store.specs.Ready.{HasReadyHandle}

-- where some end of a list of streams counts for a guest, one does
pub record HasReadyEnd (streams : List Stream) (g : ℕ) : Type 0 where
  pub stream : ℕ
  pub side : Side
  pub ready : ready_at side (get_or streams stream no_stream) ≡ Some g

first_or_rest : (x : Stream) (xs : List Stream) (g : ℕ) → 0 < ready_ends (x ∷ xs) g → (0 < ready_ends xs g → HasReadyEnd xs g) → HasReadyEnd (x ∷ xs) g
first_or_rest x xs g some rest = by (is_number (ready_at Writing x) g) (is_number (ready_at Reading x) g) refl refl
  where
    number : (o : Option ℕ) → is_number o g ≡ true → o ≡ Some g
    number None t = cc
    number (Some n) t = ap Some (eqb-true n g t)

    -- where neither end of the first counts, the rest does
    in_rest : is_number (ready_at Writing x) g ≡ false → is_number (ready_at Reading x) g ≡ false → 0 < ready_ends xs g
    in_rest t u =
        omega (arith, some, sum_by-cons (λ (y : Stream). ends_for (ready_by y) g) x xs, ap {B = ℕ} (λ b. cond b 1 0) t, ap {B = ℕ} (λ b. cond b 1 0) u)

    by : (w r : Bool) → is_number (ready_at Writing x) g ≡ w → is_number (ready_at Reading x) g ≡ r → HasReadyEnd (x ∷ xs) g
    by true r t u = record { stream = 0; side = Writing; ready = number (ready_at Writing x) t }
    by false true t u = record { stream = 0; side = Reading; ready = number (ready_at Reading x) u }
    by false false t u =
        let found = rest (in_rest t u) in record { stream = suc found.stream; side = found.side; ready = found.ready }

some_end : (streams : List Stream) (g : ℕ) → 0 < ready_ends streams g → HasReadyEnd streams g
some_end [] g some = absurd (omega (arith, some))
some_end (x ∷ xs) g some = first_or_rest x xs g some (λ rest. some_end xs g rest)

-- the end that a guest has under a handle is ready just where it has a report; of `ready_is` in ToldLemmas, which
-- asks for what is known of ready members and does not look at it
ready_named : (state : State) (g handle s : ℕ) (side : Side) → HandlesAgree state → (end_of side (stream_at state s)).owner ≡ Held g handle → is_ready state g handle ≡ has_report side (stream_at state s)
ready_named state g handle s side held owner = by_name (end_named state g handle) (held.held g handle s side owner)
  where
    by_name : (name : Name) → is_end s side name ≡ true → is_some (report_of_named state name) ≡ has_report side (stream_at state s)
    by_name (Ok answer) is =
        let p = and_parts (answer.0 == s) (same_side (side_of answer.1) side) is in
        let there : answer.0 ≡ s = eqb-true answer.0 s p.0 in
        let same : side ≡ side_of answer.1 = same_side_is (side_of answer.1) side p.1 in
        rw (there, same) refl
    by_name (Err error) is = cc

-- a guest that is ready has a handle that is
pub has_ready : (state : State) (g : ℕ) → IsSound state → HandlesAgree state → is_ready_guest state g ≡ true → HasReadyHandle state g
has_ready state g sound held e =
    let found = some_end state.streams g (ltb-true 0 (ready_ends state.streams g) e) in
    by found (has_report found.side (stream_at state found.stream)) (end_of found.side (stream_at state found.stream)).owner refl refl found.ready
  where
    by : (f : HasReadyEnd state.streams g) (b : Bool) (o : Owner) → has_report f.side (stream_at state f.stream) ≡ b
        → (end_of f.side (stream_at state f.stream)).owner ≡ o → guest_if b o ≡ Some g → HasReadyHandle state g
    by f true (Held k handle) report owner same =
        let k_is : k ≡ g = cc in
        record { handle = handle; ready = ready_named state g handle f.stream f.side held (owner ∙ ap (λ n. Held n handle) k_is) ∙ report }
    by f true (Host n) report owner same = cc
    by f true Loose report owner same = cc
    by f true Gone report owner same = cc
    by f false o report owner same = cc

-- an end with a report that a guest has counts for it
counts_end : (stream : Stream) (side : Side) (g handle : ℕ) → (end_of side stream).owner ≡ Held g handle → has_report side stream ≡ true
    → 0 < ends_for (ready_by stream) g
counts_end stream side g handle owner report = by side made
  where
    made : is_number (ready_at side stream) g ≡ true
    made =
        ap (λ b. is_number (guest_if b (end_of side stream).owner) g) report ∙ ap (λ o. is_number (guest_if true o) g) owner
        ∙ eq-eqb g g refl

    by : (a : Side) → is_number (ready_at a stream) g ≡ true → 0 < ends_for (ready_by stream) g
    by Writing e = omega (arith, ap {B = ℕ} (λ b. cond b 1 0) e)
    by Reading e = omega (arith, ap {B = ℕ} (λ b. cond b 1 0) e)

-- a guest with a handle that is ready is ready: the end that it names is the guest's, under that handle
pub told_ready : (state : State) (g handle : ℕ) → IsSound state → HandlesAgree state → is_ready state g handle ≡ true → is_ready_guest state g ≡ true
told_ready state g handle sound held e = by (end_named state g handle) refl e
  where
    by : (name : Name) → end_named state g handle ≡ name → is_some (report_of_named state name) ≡ true → is_ready_guest state g ≡ true
    by (Ok answer) is report =
        let side = side_of answer.1 in
        let owner = held.named g handle answer.0 side (ap (is_end answer.0 side) is ∙ end_itself answer.0 side) in
        let there : answer.0 < length state.streams = subst (λ (n : Name). stream_named n < length state.streams) is (end_there state g handle sound (ap (λ (n : Name). is_ok n) is)) in
        lt-ltb 0 (ready_ends state.streams g)
        (omega (arith, ready_ends-at state.streams answer.0 g there, counts_end (stream_at state answer.0) side g handle owner report))
    by (Err error) is report = cc
