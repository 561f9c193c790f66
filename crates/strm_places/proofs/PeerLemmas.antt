-- What becomes of the streams at which a guest had an end, as it ends: its own ends are gone, with their operations, and
-- all else is as it was.
use Rattle.std.proofs.Common.{◌≡◌, ◌≢◌, ℕ, zero, suc, ◌+◌, ◌<◌, ◌≤◌, true, false, List, length, get_or, set, Option, Some, None, Ok, Err, refl, sym, ap, subst, ◌∙◌, inl, inr, arith, length-set}
use Rattle.std.specs.Prelude.{◌==◌, ◌&&◌, is_ok, is_some}
use Rattle.std.proofs.lemmas.Bool.{and_parts, cases_Bool, cases_eq, cases_lt, cond_both, eq-eqb, eqb-true}
use Rattle.std.proofs.lemmas.List.{get_or-set_same, get_or-set_other}
use Rattle.strm_handles.specs.Handles.{entry_at}
use Rattle.strm_handles.specs.Lookups.{end_rep_of}
use Rattle.strm_handles.specs.declared.entries.TransmitLocalState.{TransmitLocalState}
use Rattle.strm_handles.proofs.HandleLemmas.{given}
use Rattle.strm_waitable_sets.specs.Sets.{handle_left}
use Rattle.strm_machine.specs.Endings.{dropped, waits_for_host, code_of_cancel, cancelled_end, cancelled}
use Rattle.strm_machine.specs.Moments.{is_end}
use Rattle.strm_machine.specs.Sides.{opposite, same_side, end_of, with_end}
use Rattle.strm_machine.specs.Soundness.{IsSound}
use Rattle.strm_machine.specs.State.{State, Guest, no_stream, guest_in, sets_in, stream_at}
use Rattle.strm_machine.specs.Tests.{Name, end_named, stream_named, side_of, is_busy}
use Rattle.strm_machine.specs.declared.streams.End.{End}
use Rattle.strm_machine.specs.declared.streams.Operation.{Operation}
use Rattle.strm_machine.specs.declared.streams.Owner.TheVariants.{Gone}
use Rattle.strm_machine.specs.declared.streams.Side.{Side}
use Rattle.strm_machine.specs.declared.streams.Side.TheVariants.{Writing, Reading}
use Rattle.strm_machine.specs.declared.streams.Stream.{Stream}
use Rattle.strm_machine.proofs.NamedEndLemmas.{end_there, is_end-ok}
use Rattle.strm_machine.proofs.SideLemmas.{same_side_is}
use Rattle.strm_machine.proofs.WaitableSetLemmas.{end_some}
use Rattle.strm_places.specs.Lives.{with_none_pending, end_given_up, ends_given_up, all_given_up, numbers_given, ended}
use Rattle.strm_places.proofs.CalmLemmas.{AreCalm, cancelled-idle, ends-calms, all-streams}
use Rattle.strm_places.proofs.FoldLemmas.{pending-guests, ends-left}
use Rattle.strm_places.proofs.PlayLemmas.{freed_other}

-- ## One stream

-- nobody has the end any more, and it has no operation
pub record IsOver (end : End) : Type 0 where
  pub owner : end.owner ≡ Gone
  pub operation : end.operation ≡ None

-- what is no part of an end
pub record SameRest (old new : Stream) : Type 0 where
  pub kind : new.kind ≡ old.kind
  pub payload : new.payload ≡ old.payload
  pub passed : new.passed ≡ old.passed
  pub received : new.received ≡ old.received

-- the end on a side is another
record ChangesEnd (side : Side) (old new : Stream) (end : End) : Type 0 where
  here : end_of side new ≡ end
  other : (k : Side) → same_side side k ≡ false → end_of k new ≡ end_of k old
  rest : SameRest old new

with_end-changes : (side : Side) (stream : Stream) (end : End) → ChangesEnd side stream (with_end side stream end) end
with_end-changes Writing stream end = record { here = refl; other = λ k. other k; rest = record { kind = refl; payload = refl; passed = refl; received = refl } }
  where
    other : (k : Side) → same_side Writing k ≡ false → end_of k (with_end Writing stream end) ≡ end_of k stream
    other Writing e = cc
    other Reading e = refl
with_end-changes Reading stream end = record { here = refl; other = λ k. other k; rest = record { kind = refl; payload = refl; passed = refl; received = refl } }
  where
    other : (k : Side) → same_side Reading k ≡ false → end_of k (with_end Reading stream end) ≡ end_of k stream
    other Writing e = refl
    other Reading e = cc

rest_same : (stream : Stream) → SameRest stream stream
rest_same stream = record { kind = refl; payload = refl; passed = refl; received = refl }

rest_then : (a b c : Stream) → SameRest a b → SameRest b c → SameRest a c
rest_then a b c f g = record { kind = g.kind ∙ f.kind; payload = g.payload ∙ f.payload; passed = g.passed ∙ f.passed; received = g.received ∙ f.received }

none_is : (o : Option Operation) → is_some o ≡ false → o ≡ None
none_is None e = refl
none_is (Some operation) e = cc

cancelled-changes : (side : Side) (stream : Stream) → ChangesEnd side stream (cancelled side stream) (cancelled_end (waits_for_host side stream) (code_of_cancel side stream) (end_of side stream))
unfolding cancelled
cancelled-changes side stream = with_end-changes side stream (cancelled_end (waits_for_host side stream) (code_of_cancel side stream) (end_of side stream))

dropped-changes : (side : Side) (stream : Stream) → ChangesEnd side stream (dropped side stream) (record (end_of side stream) { owner = Gone })
unfolding dropped
dropped-changes side stream = with_end-changes side stream (record (end_of side stream) { owner = Gone })

-- one that is dropped while it has no operation is over
dropped-over : (side : Side) (stream : Stream) → is_busy side stream ≡ false → IsOver (end_of side (dropped side stream))
dropped-over side stream idle =
    let change = dropped-changes side stream in
    record {
      owner = ap (λ (end : End). end.owner) change.here;
      operation = ap (λ (end : End). end.operation) change.here ∙ none_is (end_of side stream).operation idle;
    }

-- ## All streams

-- all ends but the one that is named stay, and what is no part of an end
record Leaves (old new : List Stream) (answer : ℕ × TransmitLocalState) : Type 0 where
  same : (s : ℕ) (side : Side) → is_end s side (Ok answer) ≡ false → end_of side (get_or new s no_stream) ≡ end_of side (get_or old s no_stream)
  rest : (s : ℕ) → SameRest (get_or old s no_stream) (get_or new s no_stream)
  many : length new ≡ length old

leaves_all : (streams : List Stream) (answer : ℕ × TransmitLocalState) → Leaves streams streams answer
leaves_all streams answer = record { same = λ s side e. refl; rest = λ s. rest_same (get_or streams s no_stream); many = refl }

leaves_then : (a b c : List Stream) (answer : ℕ × TransmitLocalState) → Leaves a b answer → Leaves b c answer → Leaves a c answer
leaves_then a b c answer f g = record {
  same = λ s side e. g.same s side e ∙ f.same s side e;
  rest = λ s. rest_then (get_or a s no_stream) (get_or b s no_stream) (get_or c s no_stream) (f.rest s) (g.rest s);
  many = g.many ∙ f.many;
}

is_end_other : (s : ℕ) (side : Side) (answer : ℕ × TransmitLocalState) → is_end s side (Ok answer) ≡ false → answer.0 ≡ s → same_side (side_of answer.1) side ≡ false
is_end_other s side answer e is = ap (λ b. b && same_side (side_of answer.1) side) (sym (eq-eqb answer.0 s is)) ∙ e

-- the stream becomes another in which another end may be changed
leaves_set : (streams : List Stream) (answer : ℕ × TransmitLocalState) (x : Stream) (end : End) → answer.0 < length streams → ChangesEnd (side_of answer.1) (get_or streams answer.0 no_stream) x end → Leaves streams (set streams answer.0 x) answer
leaves_set streams answer x end l change = record { same = same; rest = rest; many = length-set streams answer.0 x }
  where
    here : get_or (set streams answer.0 x) answer.0 no_stream ≡ x
    here = get_or-set_same streams answer.0 x no_stream l

    beside : (s : ℕ) → (answer.0 ≡ s → ⊥) → get_or (set streams answer.0 x) s no_stream ≡ get_or streams s no_stream
    beside s ne = get_or-set_other streams answer.0 s x no_stream (λ is. ne (sym is))

    same : (s : ℕ) (side : Side) → is_end s side (Ok answer) ≡ false → end_of side (get_or (set streams answer.0 x) s no_stream) ≡ end_of side (get_or streams s no_stream)
    same s side e =
        elim (cases_eq answer.0 s) [
          | inl is ↦ subst (λ i. end_of side (get_or (set streams answer.0 x) i no_stream) ≡ end_of side (get_or streams i no_stream)) is (ap (end_of side) here ∙ change.other side (is_end_other s side answer e is))
          | inr ne ↦ ap (end_of side) (beside s ne)
        ]

    rest : (s : ℕ) → SameRest (get_or streams s no_stream) (get_or (set streams answer.0 x) s no_stream)
    rest s =
        elim (cases_eq answer.0 s) [
          | inl is ↦ subst (λ i. SameRest (get_or streams i no_stream) (get_or (set streams answer.0 x) i no_stream)) is (subst (SameRest (get_or streams answer.0 no_stream)) (sym here) change.rest)
          | inr ne ↦ subst (SameRest (get_or streams s no_stream)) (sym (beside s ne)) (rest_same (get_or streams s no_stream))
        ]

-- ## One end is given up

-- its operation is over, if it had one
record Idles (old new : State) (answer : ℕ × TransmitLocalState) : Type 0 where
  leaves : Leaves old.streams new.streams answer
  free : is_busy (side_of answer.1) (stream_at new answer.0) ≡ false

pending-idles : (state : State) (answer : ℕ × TransmitLocalState) → AreCalm state → answer.0 < length state.streams → Idles state (with_none_pending state answer.0 (side_of answer.1)) answer
pending-idles state answer calm l =
    let side = side_of answer.1 in
    let stream = stream_at state answer.0 in
    cond_both (is_busy side stream) _ _ (λ (idle : State). Idles state idle answer)
    (λ busy. record {
      leaves = leaves_set state.streams answer (cancelled side stream) (cancelled_end (waits_for_host side stream) (code_of_cancel side stream) (end_of side stream)) l (cancelled-changes side stream);
      free = ap (is_busy side) (get_or-set_same state.streams answer.0 (cancelled side stream) no_stream l) ∙ cancelled-idle side stream ((calm answer.0).none (opposite side));
    })
    (λ free. record { leaves = leaves_all state.streams answer; free = free })

record GivesUpEnd (old new : State) (answer : ℕ × TransmitLocalState) : Type 0 where
  leaves : Leaves old.streams new.streams answer
  over : IsOver (end_of (side_of answer.1) (stream_at new answer.0))

end-gives_up : (state : State) (g handle : ℕ) (answer : ℕ × TransmitLocalState) → AreCalm state → answer.0 < length state.streams → GivesUpEnd state (end_given_up state g handle (Ok answer)) answer
end-gives_up state g handle answer calm l =
    let side = side_of answer.1 in
    let idle = with_none_pending state answer.0 side in
    let i : Idles state idle answer = pending-idles state answer calm l in
    let stream = stream_at idle answer.0 in
    let still : answer.0 < length idle.streams = omega (arith, l, i.leaves.many) in
    record {
      leaves = leaves_then state.streams idle.streams (set idle.streams answer.0 (dropped side stream)) answer i.leaves
          (leaves_set idle.streams answer (dropped side stream) (record (end_of side stream) { owner = Gone }) still (dropped-changes side stream));
      over = subst (λ (y : Stream). IsOver (end_of side y)) (sym (get_or-set_same idle.streams answer.0 (dropped side stream) no_stream still)) (dropped-over side stream i.free);
    }

-- ## All ends

-- of those under the first so many numbers
record PeersAfter (old now : State) (g n : ℕ) : Type 0 where
  over : (handle s : ℕ) (side : Side) → handle ≤ n → is_end s side (end_named old g handle) ≡ true → IsOver (end_of side (stream_at now s))
  same : (s : ℕ) (side : Side) → ((handle : ℕ) → handle ≤ n → is_end s side (end_named old g handle) ≡ false) → end_of side (stream_at now s) ≡ end_of side (stream_at old s)
  rest : (s : ℕ) → SameRest (stream_at old s) (stream_at now s)
  many : length now.streams ≡ length old.streams

-- an end is the one that is named, or another
is_end_is : (s : ℕ) (side : Side) (answer : ℕ × TransmitLocalState) → is_end s side (Ok answer) ≡ true → (answer.0 ≡ s) × (side_of answer.1 ≡ side)
is_end_is s side answer e =
    let both = and_parts (answer.0 == s) (same_side (side_of answer.1) side) e in
    (eqb-true answer.0 s both.0, sym (same_side_is (side_of answer.1) side both.1))

peers_one : (old now : State) (g n : ℕ) → AreCalm now → IsSound old → PeersAfter old now g n → (name : Name) → end_named old g (n + 1) ≡ name → PeersAfter old (end_given_up now g (n + 1) name) g (suc n)
peers_one old now g n calm sound so (Err error) e = record {
  over = λ handle s side l is. elim (cases_lt n handle) [
    | inl more ↦ absurd (let at : handle ≡ n + 1 = omega (arith, more, l) in
        let none : is_end s side (end_named old g handle) ≡ false = ap (λ i. is_end s side (end_named old g i)) at ∙ ap (is_end s side) e in
        let wrong : true ≡ false = sym is ∙ none in cc)
    | inr less ↦ so.over handle s side less is
  ];
  same = λ s side none. so.same s side (λ handle l. none handle (omega (arith, l)));
  rest = so.rest;
  many = so.many;
}
peers_one old now g n calm sound so (Ok answer) e =
    let made : answer.0 < length old.streams = subst (λ (name : Name). stream_named name < length old.streams) e (end_there old g (n + 1) sound (ap is_ok e)) in
    let there : answer.0 < length now.streams = omega (arith, made, so.many) in
    let after = end_given_up now g (n + 1) (Ok answer) in
    let gives : GivesUpEnd now after answer = end-gives_up now g (n + 1) answer calm there in
    record {
      over = λ handle s side l is. elim (cases_Bool (is_end s side (Ok answer))) [
        | inl mine ↦ (let both = is_end_is s side answer mine in
            subst (λ k. IsOver (end_of k (stream_at after s))) both.1 (subst (λ i. IsOver (end_of (side_of answer.1) (stream_at after i))) both.0 gives.over))
        | inr other ↦ subst IsOver (sym (gives.leaves.same s side other))
            (so.over handle s side (elim (cases_lt n handle) [
              | inl more ↦ absurd (let at : handle ≡ n + 1 = omega (arith, more, l) in
                  let none : is_end s side (end_named old g handle) ≡ false = ap (λ i. is_end s side (end_named old g i)) at ∙ ap (is_end s side) e ∙ other in
                  let wrong : true ≡ false = sym is ∙ none in cc)
              | inr less ↦ less
            ]) is)
      ];
      same = λ s side none.
          let apart : is_end s side (Ok answer) ≡ false = ap (is_end s side) (sym e) ∙ none (n + 1) (omega arith) in
          gives.leaves.same s side apart ∙ so.same s side (λ handle l. none handle (omega (arith, l)));
      rest = λ s. rest_then (stream_at old s) (stream_at now s) (stream_at after s) (so.rest s) (gives.leaves.rest s);
      many = gives.leaves.many ∙ so.many;
    }

-- a number that is not yet given up names what it named
named_one : (state : State) (g handle other : ℕ) (name : Name) → g < length state.guests → other ≢ handle → end_named (end_given_up state g handle name) g other ≡ end_named state g other
named_one state g handle other (Err error) l ne = refl
named_one state g handle other (Ok answer) l ne =
    let idle = with_none_pending state answer.0 (side_of answer.1) in
    let same = pending-guests state answer.0 (side_of answer.1) in
    let there : g < length idle.guests = subst (λ (guests : List Guest). g < length guests) (sym same) l in
    freed_other idle.guests g handle (handle_left (sets_in idle.guests g) handle) there other ne
    ∙ ap (λ (guests : List Guest). end_rep_of (guest_in guests g).handles other) same

named_later : (state : State) (g n handle : ℕ) → g < length state.guests → n < handle → end_named (ends_given_up state g n) g handle ≡ end_named state g handle
unfolding ends_given_up
named_later state g zero handle l more = refl
named_later state g (suc n) handle l more =
    let before = ends_given_up state g n in
    let there : g < length before.guests = omega (arith, l, (ends-left state g n l).left.guests) in
    named_one before g (n + 1) handle (end_named before g (n + 1)) there (λ is. omega (arith, is, more))
    ∙ named_later state g n handle l (omega (arith, more))

peers_after : (state : State) (g n : ℕ) → IsSound state → AreCalm state → g < length state.guests → PeersAfter state (ends_given_up state g n) g n
unfolding ends_given_up
peers_after state g zero sound calm l = record {
  over = λ handle s side few is.
      absurd (let at : handle ≡ zero = omega (arith, few) in
      let none : is_end s side (end_named state g handle) ≡ false = ap (λ i. is_end s side (end_named state g i)) at in
      let wrong : true ≡ false = sym is ∙ none in cc);
  same = λ s side none. refl;
  rest = λ s. rest_same (stream_at state s);
  many = refl;
}
peers_after state g (suc n) sound calm l =
    let before = ends_given_up state g n in
    let named : end_named before g (n + 1) ≡ end_named state g (n + 1) = named_later state g n (n + 1) l (omega arith) in
    subst (λ (name : Name). PeersAfter state (end_given_up before g (n + 1) name) g (suc n)) (sym named)
    (peers_one state before g n (λ k. (ends-calms state g n k).calm (calm k)) sound (peers_after state g n sound calm l) (end_named state g (n + 1)) refl)

-- ## The guest ended

-- the ends that the guest named are over, and all else is as it was
pub record PeersStay (old new : State) (g : ℕ) : Type 0 where
  pub over : (handle s : ℕ) (side : Side) → is_end s side (end_named old g handle) ≡ true → IsOver (end_of side (stream_at new s))
  pub same : (s : ℕ) (side : Side) → ((handle : ℕ) → is_end s side (end_named old g handle) ≡ false) → end_of side (stream_at new s) ≡ end_of side (stream_at old s)
  pub rest : (s : ℕ) → SameRest (stream_at old s) (stream_at new s)

-- what names an end was given
named_given : (state : State) (g handle s : ℕ) (side : Side) → is_end s side (end_named state g handle) ≡ true → handle ≤ numbers_given state g
named_given state g handle s side is =
    let table = (guest_in state.guests g).handles in
    let some = end_some (entry_at table handle) (is_end-ok s side (end_named state g handle) is) in
    (given table.entries handle some.0 some.1).1

pub peers_stay : (state : State) (g : ℕ) → IsSound state → AreCalm state → g < length state.guests → PeersStay state (ended state g) g
peers_stay state g sound calm l =
    let count = numbers_given state g in
    let before = ends_given_up state g count in
    let so : PeersAfter state before g count = peers_after state g count sound calm l in
    let streams : (all_given_up before g count).streams ≡ before.streams = all-streams before g count in
    record {
      over = λ handle s side is. subst (λ (all : List Stream). IsOver (end_of side (get_or all s no_stream))) (sym streams) (so.over handle s side (named_given state g handle s side is) is);
      same = λ s side none. ap (λ (all : List Stream). end_of side (get_or all s no_stream)) streams ∙ so.same s side (λ handle few. none handle);
      rest = λ s. subst (λ (all : List Stream). SameRest (stream_at state s) (get_or all s no_stream)) (sym streams) (so.rest s);
    }
