-- What an event and a cancel make of the end that they name: facts of one stream and its new end, from which
-- all laws of such a step follow.
use Rattle.std.proofs.Common.{◌≡◌, ℕ, Bool, true, false, cond, List, Option, Some, None, refl, sym, ap, subst, ◌∙◌, inl, inr}
use Rattle.std.specs.Prelude.{◌&&◌, not, ◌⊎◌, is_some, IsSomeAnd}
use Rattle.std.specs.Option.{option_map}
use Rattle.std.proofs.lemmas.Bool.{cond_both, and_parts}
use Rattle.strm_machine.specs.Words.{Payload, ReturnCode, TransmitKind, AStream, Future, opposite, end_of, with_end, report_on, told_end, as_report, count_reported, k_of, OperationIsPlaced, StreamIsPlaced, Side, Operation, End, Stream}
use Rattle.strm_codes.specs.declared.codes.ReturnCode.TheVariants as codes
use Rattle.strm_codes.specs.declared.codes.StreamResult.{StreamResult}
use Rattle.strm_codes.specs.declared.codes.StreamResult.TheVariants.{Completed, Dropped, Cancelled}
use Rattle.strm_events.specs.Reports.{outcome_code, report_of, left_pending, cancel_answer}
use Rattle.strm_machine.specs.Endings.{pending_of, is_other_gone, delivered, waits_for_host, asked_to_finish, code_of_cancel, cancelled_end, cancelled}
use Rattle.strm_machine.specs.State.{is_host}
use Rattle.strm_machine.specs.Tests.{is_busy}
use Rattle.strm_machine.proofs.EndLemmas.{IsLeft, Ended, Asked}
use Rattle.strm_machine.proofs.SideLemmas.{StreamKeeps, end_placed, with_end-keeps}
use Rattle.strm_machine.proofs.SoundLemmas.{left_told, asked-placed}
use Rattle.strm_machine.specs.Soundness.{IsUnmoved}
use Rattle.strm_machine.proofs.TallyLemmas.{AreOne, unmoved_on, Tallies, one_on, count_reported-dropped}
use Rattle.strm_machine.proofs.Ways.{HostsFrom}
use Rattle.strm_machine.specs.declared.streams.Side.TheVariants.{Writing, Reading}

-- ## What is known of an end that becomes another

-- of an operation that ended the report says what it moved, of one that stays there is none, and
-- where there is no operation a report speaks of no item; one that stays may be asked to finish
abbrev pub IsTold : TransmitKind → Option ReturnCode → Option Operation → Option Operation → Type 0
IsTold kind report None None = k_of kind 0 report ≡ 0
IsTold kind report None (Some q) = ⊥
IsTold kind report (Some o) None = IsSomeAnd report (λ code. count_reported kind code ≡ o.moved)
IsTold kind report (Some o) (Some q) = (report ≡ None) × ((q ≡ o) ⊎ (q ≡ asked_to_finish o))

-- a future's operation that has met says how many items it moved, and one that has not moved none while no
-- value passed
pub record IsToldOne (o : Operation) (passed : Bool) : Type 0 where
  pub done : o.met ≡ true → count_reported Future (outcome_code Future o.outcome o.moved) ≡ o.moved
  pub waiting : o.met ≡ false → passed ≡ false → o.moved ≡ 0

abbrev pub AreToldOne : Option Operation → Bool → Type 0
AreToldOne None passed = Unit {0}
AreToldOne (Some o) passed = IsToldOne o passed

-- what a report at the end on a side needs to say how many items moved: an operation without a report has
-- moved none, unless a host end has the other end
pub record Tellable (side : Side) (stream : Stream) : Type 0 where
  pub unmoved : (o : Operation) → (end_of side stream).operation ≡ Some o → is_host (end_of (opposite side) stream).owner ≡ false → report_on side stream ≡ None → o.moved ≡ 0
  pub one : stream.kind ≡ Future → AreToldOne (end_of side stream).operation stream.passed

-- the end on a side becomes this one of the same owner, and is told this code, if any
pub record Becomes (side : Side) (stream : Stream) (e : End) (code : Option ReturnCode) : Type 0 where
  pub left : IsLeft (end_of side stream).operation e.operation
  pub told : Tellable side stream → IsTold stream.kind (as_report code) (end_of side stream).operation e.operation
  pub owner : e.owner ≡ (end_of side stream).owner

-- ## An end is told its report

-- what is told of an operation
abbrev Tells : TransmitKind → Option Operation → Option ReturnCode → Type 0
Tells kind o code = IsTold kind (as_report code) o (left_pending code o)

outcome_told : (o : Operation) (outcome : StreamResult) → Tells AStream (Some o) (Some (outcome_code AStream outcome o.moved))
outcome_told o Completed = refl
outcome_told o Dropped = refl
outcome_told o Cancelled = refl

one_told : (o : Operation) (outcome : StreamResult) → count_reported Future (outcome_code Future outcome o.moved) ≡ o.moved → Tells Future (Some o) (Some (outcome_code Future outcome o.moved))
one_told o Completed e = e
one_told o Dropped e = e
one_told o Cancelled e = e

-- a future's that has met says what it moved, and one that has not moved none
report_told : (kind : TransmitKind) (o : Option Operation) (gone told passed : Bool) → (kind ≡ Future → AreToldOne o passed) → Tells kind o (report_of kind (option_map pending_of o) gone told passed)
report_told kind None gone told passed one =
    cond_both (gone && not told && not passed) _ _ (Tells kind None) (λ e. count_reported-dropped kind) (λ e. refl)
report_told AStream (Some o) gone told passed one =
    cond_both gone _ _ (Tells AStream (Some o))
    (λ e. refl)
    (λ e. cond_both o.met _ _ (Tells AStream (Some o)) (λ f. outcome_told o o.outcome) (λ f. (refl, inl refl)))
report_told Future (Some o) gone told passed one =
    let h = one refl in
    cond_both o.met _ _ (Tells Future (Some o))
    (λ e. one_told o o.outcome (h.done e))
    (λ e. cond_both (gone && not passed) _ _ (Tells Future (Some o)) (λ f. sym (h.waiting e (not_passed passed (and_parts gone (not passed) f).1))) (λ f. (refl, inl refl)))
  where
    not_passed : (b : Bool) → not b ≡ true → b ≡ false
    not_passed true e = cc
    not_passed false e = refl

pub told-becomes : (side : Side) (stream : Stream) → Becomes side stream (told_end (report_on side stream) (end_of side stream)) (report_on side stream)
told-becomes side stream = record {
  left = left_told (report_on side stream) (end_of side stream).operation;
  told = λ tellable. report_told stream.kind (end_of side stream).operation (is_other_gone side stream) (end_of side stream).told stream.passed tellable.one;
  owner = refl;
}

-- ## An operation is cancelled

-- the same count as that of the report, and none of what has not met
cancelled_told : (kind : TransmitKind) (o : Operation) (code : Option ReturnCode) → (code ≡ None → o.moved ≡ 0) → Tells kind (Some o) code → IsTold kind (as_report (Some (cancel_answer kind code))) (Some o) None
cancelled_told AStream o None unmoved t = sym (unmoved refl)
cancelled_told Future o None unmoved t = sym (unmoved refl)
cancelled_told AStream o (Some (codes.Completed n)) unmoved t = t
cancelled_told AStream o (Some (codes.Dropped n)) unmoved t = t
cancelled_told AStream o (Some (codes.Cancelled n)) unmoved t = t
cancelled_told AStream o (Some codes.Blocked) unmoved t = t
cancelled_told Future o (Some code) unmoved t = t

unmet : (b : Bool) {A : Type 0} (x : A) (behind : Option A) → cond b (Some x) behind ≡ None → b ≡ false
unmet true x behind e = cc
unmet false x behind e = refl

-- an operation without a report has not met
pub unreported : (kind : TransmitKind) (o : Operation) (gone told passed : Bool) → IsUnmoved (Some o) → report_of kind (Some (pending_of o)) gone told passed ≡ None → o.moved ≡ 0
unreported AStream o true told passed h e = cc
unreported AStream o false told passed h e = h (unmet o.met _ _ e)
unreported Future o gone told passed h e = h (unmet o.met _ _ e)

-- what is reported of an operation of this stream
abbrev reported : Stream → Option Operation → Bool → Bool → Option ReturnCode
reported stream o gone told = report_of stream.kind (option_map pending_of o) gone told stream.passed

-- an operation without a report moved nothing
abbrev IsUnmovedUntold : Stream → Option Operation → Bool → Bool → Type 0
IsUnmovedUntold stream o gone told = (x : Operation) → o ≡ Some x → reported stream o gone told ≡ None → x.moved ≡ 0

cancel_told : (stream : Stream) (o : Option Operation) (gone told : Bool) → is_some o ≡ true → IsUnmovedUntold stream o gone told → (stream.kind ≡ Future → AreToldOne o stream.passed)
    → IsTold stream.kind (as_report (Some (cancel_answer stream.kind (reported stream o gone told)))) o None
cancel_told stream None gone told e h one = cc
cancel_told stream (Some o) gone told e h one =
    let code = report_of stream.kind (option_map pending_of (Some o)) gone told stream.passed in
    cancelled_told stream.kind o code (h o refl) (report_told stream.kind (Some o) gone told stream.passed one)

pub one_as_told : (o : Option Operation) (passed : Bool) → AreOne o → AreToldOne o passed
one_as_told None passed h = tt
one_as_told (Some o) passed h = record {
  done = λ e. subst (λ (r : StreamResult). count_reported Future (outcome_code Future r o.moved) ≡ o.moved) (sym h.completed) (sym (h.done e));
  waiting = λ e p. h.waiting e;
}

-- where the operations of a stream tally, reports at both ends say how many items moved
pub tallies-tellable : (side : Side) (stream : Stream) → Tallies stream → Tellable side stream
tallies-tellable side stream tallies = record {
  unmoved = λ o e u r.
      unreported stream.kind o (is_other_gone side stream) (end_of side stream).told stream.passed (subst IsUnmoved e (unmoved_on side stream tallies))
      (ap (λ q. report_of stream.kind (option_map pending_of q) (is_other_gone side stream) (end_of side stream).told stream.passed) (sym e) ∙ r);
  one = λ k. one_as_told (end_of side stream).operation stream.passed (one_on side stream (tallies.one k));
}

-- one that waits for its host end has no report yet
asked_told : (kind : TransmitKind) (o : Option Operation) → is_some o ≡ true → IsTold kind (as_report (Some codes.Blocked)) o (option_map asked_to_finish o)
asked_told kind None e = cc
asked_told kind (Some o) e = (refl, inr refl)

module _ (side : Side) (stream : Stream) (busy : is_busy side stream ≡ true) where
  -- what a cancel answers, by whether it waits for a host end
  abbrev code_by : Bool → ReturnCode
  code_by waits = cond waits codes.Blocked (cancel_answer stream.kind (report_on side stream))

  becomes_by : (waits : Bool) → waits_for_host side stream ≡ waits → Becomes side stream (cancelled_end waits (code_by waits) (end_of side stream)) (Some (code_by waits))
  becomes_by true w = record { left = Asked refl; told = λ tellable. asked_told stream.kind (end_of side stream).operation busy; owner = refl }
  becomes_by false w = record {
    left = Ended refl;
    told = λ tellable.
        cancel_told stream (end_of side stream).operation (is_other_gone side stream) (end_of side stream).told busy
        (λ o e r. tellable.unmoved o e (unless_waits (is_host (end_of (opposite side) stream).owner) (report_on side stream) w r) r) tellable.one;
    owner = refl;
  }
    where
      -- with no report it would wait for a host end
      unless_waits : (b : Bool) (report : Option ReturnCode) → (b && not (is_some report)) ≡ false → report ≡ None → b ≡ false
      unless_waits true None e r = cc
      unless_waits true (Some code) e r = cc
      unless_waits false report e r = refl

  pub cancelled-becomes : Becomes side stream (cancelled_end (waits_for_host side stream) (code_of_cancel side stream) (end_of side stream)) (Some (code_of_cancel side stream))
  cancelled-becomes = becomes_by (waits_for_host side stream) refl

-- ## What stays of the stream

left_placed : (sizes : List ℕ) (payload : Payload) (code : Option ReturnCode) (o : Option Operation) → OperationIsPlaced sizes payload o → OperationIsPlaced sizes payload (left_pending code o)
left_placed sizes payload None o p = p
left_placed sizes payload (Some code) o p = tt

-- an end that was told a code, if any
told_end-keeps : (side : Side) (sizes : List ℕ) (stream : Stream) (code : Option ReturnCode) → StreamIsPlaced sizes stream → StreamKeeps sizes stream (with_end side stream (told_end code (end_of side stream)))
told_end-keeps side sizes stream code h =
    with_end-keeps side sizes stream (told_end code (end_of side stream)) h refl
    (left_placed sizes stream.payload code (end_of side stream).operation (end_placed side sizes stream h))

-- an end that was told its report
pub delivered-keeps : (side : Side) (sizes : List ℕ) (stream : Stream) → StreamIsPlaced sizes stream → StreamKeeps sizes stream (delivered side stream)
unfolding delivered
delivered-keeps side sizes stream h = told_end-keeps side sizes stream (report_on side stream) h

-- an end whose operation is asked to finish
asked_all-placed : (sizes : List ℕ) (payload : Payload) (o : Option Operation) → OperationIsPlaced sizes payload o → OperationIsPlaced sizes payload (option_map asked_to_finish o)
asked_all-placed sizes payload None p = p
asked_all-placed sizes payload (Some o) p = asked-placed sizes payload o p

-- an end whose operation was cancelled
cancelled_end-keeps : (waits : Bool) (side : Side) (sizes : List ℕ) (stream : Stream) (code : ReturnCode) → StreamIsPlaced sizes stream → StreamKeeps sizes stream (with_end side stream (cancelled_end waits code (end_of side stream)))
cancelled_end-keeps true side sizes stream code h =
    let o = (end_of side stream).operation in
    with_end-keeps side sizes stream (cancelled_end true code (end_of side stream)) h refl
    (asked_all-placed sizes stream.payload o (end_placed side sizes stream h))
cancelled_end-keeps false side sizes stream code h = told_end-keeps side sizes stream (Some code) h

pub cancelled-keeps : (side : Side) (sizes : List ℕ) (stream : Stream) → StreamIsPlaced sizes stream → StreamKeeps sizes stream (cancelled side stream)
unfolding cancelled
cancelled-keeps side sizes stream h = cancelled_end-keeps (waits_for_host side stream) side sizes stream (code_of_cancel side stream) h

-- ## The write end of a host writer

cancelled_end-owner : (b : Bool) (code : ReturnCode) (stream : Stream) → (cancelled_end b code stream.writer).owner ≡ stream.writer.owner
cancelled_end-owner true code stream = refl
cancelled_end-owner false code stream = refl

pub cancelled-from : (side : Side) (stream : Stream) → HostsFrom stream (cancelled side stream)
unfolding cancelled
cancelled-from Writing stream n e =
    (sym (cancelled_end-owner (waits_for_host Writing stream) (code_of_cancel Writing stream) stream) ∙ e, refl)
cancelled-from Reading stream n e = (e, refl)
