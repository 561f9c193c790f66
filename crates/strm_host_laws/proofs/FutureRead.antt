-- A future that guests write, and whose read end went to a host reader: what is known of its write and of what
-- the host reader took, so that a report says whether the value moved.
use Rattle.std.proofs.Common.{◌≡◌, ℕ, ◌+◌, ◌-◌, ◌^◌, ◌<◌, ◌≤◌, ◌==◌, ◌||◌, Bool, true, false, cond, not, min, List, [], ◌∷◌, length, get_or, set, Option, Some, None, refl, sym, ap, subst, ◌∙◌, ◌⊎◌, inl, inr, arith}
use Rattle.std.specs.Prelude.{if◌then◌else◌}
use Rattle.std.proofs.lemmas.Bool.{cases_eq, cases_lt, cond_both, eqb-true, eq-eqb, ne_eqb, and_parts, or_parts, true≢false}
use Rattle.std.proofs.lemmas.List.{get_or-set_same, get_or-set_other, get_or_append_left}
use Rattle.strm_codes.specs.declared.codes.ReturnCode.{ReturnCode}
use Rattle.strm_codes.specs.declared.codes.StreamResult.{StreamResult}
use Rattle.strm_codes.specs.declared.codes.StreamResult.TheVariants as results
use Rattle.strm_codes.specs.declared.payloads.Payload.{Payload}
use Rattle.strm_events.specs.Reports.{outcome_code}
use Rattle.strm_codes.specs.declared.codes.TransmitKind.TheVariants.{Future}
use Rattle.strm_buffers.specs.HostRules.{is_untouched, reader_breaks}
use Rattle.strm_buffers.specs.declared.answers.Answer.{Answer}
use Rattle.strm_buffers.specs.declared.answers.Answer.TheVariants as answers
use Rattle.strm_machine.specs.State.{State, Guest, no_stream, no_consumer, stream_at, is_gone, is_held}
use Rattle.strm_machine.specs.Sides.{end_of, with_end}
use Rattle.strm_machine.specs.Moves.{with_owner}
use Rattle.strm_machine.specs.Making.{made_stream, made_pair, with_stream}
use Rattle.strm_machine.specs.Endings.{asked_to_finish}
use Rattle.strm_machine.specs.Moments.{count_reported}
use Rattle.strm_machine.specs.Operating.{Operated, is_future, with_received, finds, operate}
use Rattle.strm_machine.specs.Reactions.{Reaction, written_back, reaction}
use Rattle.strm_machine.specs.Soundness.{is_opened}
use Rattle.strm_machine.specs.Tests.{named, stream_named}
use Rattle.strm_machine.specs.declared.acts.Act.{Act}
use Rattle.strm_machine.specs.declared.acts.NamedEnd.{NamedEnd}
use Rattle.strm_machine.specs.declared.streams.End.{End}
use Rattle.strm_machine.specs.declared.streams.Operation.{Operation}
use Rattle.strm_machine.specs.declared.streams.Owner.TheVariants.{Held, Host, Gone}
use Rattle.strm_machine.specs.declared.streams.Side.{Side}
use Rattle.strm_machine.specs.declared.streams.Side.TheVariants.{Writing, Reading}
use Rattle.strm_machine.specs.declared.streams.Stream.{Stream}
use Rattle.strm_machine.proofs.EndLemmas.{IsLeft, Unchanged, left_by}
use Rattle.strm_machine.proofs.EndingLemmas.{IsToldOne, AreToldOne}
use Rattle.strm_machine.proofs.HeldLemmas.{StateIsHeld}
use Rattle.strm_machine.proofs.HostLemmas.{no_host}
use Rattle.strm_machine.proofs.TallyLemmas.{begins_by}
use Rattle.strm_machine.proofs.Shapes.{stream_on, begun_on, turn_on, Operates, Shape, ByTurn, BySetting, ByOwner, ByTable, ByPair, ByGuest, ByPut, ByRest as ByRestShape}
use Rattle.strm_machine.proofs.ShapeLemmas.{reaction-shape, reaction-consumers}
use Rattle.strm_host_machine.specs.Settling.{result_of, went, operation_settled, since_after}
use Rattle.strm_host_machine.proofs.SettleLemmas.{is_done_with}
use Rattle.strm_host_laws.proofs.HostTurns.{since_of, turned_stream, Turned}
use Rattle.strm_host_laws.proofs.PartsSeen.{IsTaken}
use Rattle.strm_host_laws.proofs.TurnsStand.{Holds}
use Rattle.strm_host_laws.proofs.TurnMoves.{Moves, moved_on-moves}

-- ## What is known of it

-- an open write: it has not met, is of one item, and has it left only where no value has passed
pub record OpenOne (o : Operation) (passed : Bool) : Type 0 where
  pub unmet : o.met ≡ false
  pub total : o.moved + o.left ≡ 1
  pub fresh : 0 < o.left → passed ≡ false

abbrev pub AreOpenOne : Option Operation → Bool → Type 0
AreOpenOne None passed = Unit {0}
AreOpenOne (Some o) passed = o.is_open ≡ true → OpenOne o passed

-- what its host reader took since it was last ready: the value, where it passed and the write is open yet
pub record IsSince (o : Option Operation) (passed : Bool) (since : ℕ) : Type 0 where
  pub first : passed ≡ false → since ≡ 0
  pub took : is_opened o ≡ true → passed ≡ true → since ≡ 1

pub record FutureRead (state : State) (s : ℕ) : Type 0 where
  pub told : AreToldOne (stream_at state s).writer.operation (stream_at state s).passed
  pub waits : AreOpenOne (stream_at state s).writer.operation (stream_at state s).passed
  pub count : (stream_at state s).received ≡ (if (stream_at state s).passed then 1 else 0)
  pub since : (r : ℕ) → (stream_at state s).reader.owner ≡ Host r → IsSince (stream_at state s).writer.operation (stream_at state s).passed (since_of state r)

-- ## Where no host reader has a turn for it

-- nothing passes, and no other host reader gets the read end
pub record SameOne (old new : Stream) : Type 0 where
  pub passed : new.passed ≡ old.passed
  pub count : new.received ≡ old.received
  pub owner : (r : ℕ) → new.reader.owner ≡ Host r → old.reader.owner ≡ Host r

pub same_one : (stream : Stream) → SameOne stream stream
same_one stream = record { passed = refl; count = refl; owner = λ r e. e }

-- a write that begins, where no value has passed
pub record BeginsOne (o : Operation) (passed : Bool) : Type 0 where
  pub unmet : o.met ≡ false
  pub moved : o.moved ≡ 0
  pub left : o.left ≡ 1
  pub unpassed : passed ≡ false

pub data FutureStep (old new : Stream) : Type 0 where
  Leaves : IsLeft old.writer.operation new.writer.operation → SameOne old new → FutureStep old new
  Opens : (o : Operation) → new.writer.operation ≡ Some o → BeginsOne o old.passed → SameOne old new → FutureStep old new

pub still_step : (stream : Stream) → FutureStep stream stream
still_step stream = Leaves (Unchanged refl) (same_one stream)

asked_open : (o : Operation) (passed : Bool) → AreOpenOne (Some o) passed → AreOpenOne (Some (asked_to_finish o)) passed
asked_open o passed h e = let k = h e in record { unmet = k.unmet; total = k.total; fresh = k.fresh }

none_since : (o : Option Operation) (passed : Bool) (since : ℕ) → IsSince o passed since → IsSince None passed since
none_since o passed since h = record { first = h.first; took = λ e. cc }

pub future_step : (old new : State) (s : ℕ) → FutureStep (stream_at old s) (stream_at new s) → ((r : ℕ) → (stream_at old s).reader.owner ≡ Host r → since_of new r ≡ since_of old r) → FutureRead old s → FutureRead new s
future_step old new s (Leaves left same) kept h =
    let a = (stream_at old s).writer.operation in
    let b = (stream_at new s).writer.operation in
    let passed = (stream_at old s).passed in
    record {
      told = subst (AreToldOne b) (sym same.passed) (left_by (λ q. AreToldOne q passed) a b left h.told tt (λ x k. record { done = k.done; waiting = k.waiting }));
      waits = subst (AreOpenOne b) (sym same.passed) (left_by (λ q. AreOpenOne q passed) a b left h.waits tt (λ x k. asked_open x passed k));
      count = same.count ∙ h.count ∙ ap (λ p. if p then 1 else 0) (sym same.passed);
      since = λ r e.
          let own = same.owner r e in
          let was = h.since r own in
          subst (λ p. IsSince b p (since_of new r)) (sym same.passed)
          (subst (IsSince b passed) (sym (kept r own))
          (left_by (λ q. IsSince q passed (since_of old r)) a b left was (none_since a passed (since_of old r) was) (λ x k. record { first = k.first; took = k.took })));
    }
future_step old new s (Opens o is begins same) kept h =
    let b = (stream_at new s).writer.operation in
    let passed = (stream_at old s).passed in
    let now : (stream_at new s).passed ≡ false = same.passed ∙ begins.unpassed in
    record {
      told = subst (λ q. AreToldOne q (stream_at new s).passed) (sym is) (record { done = λ e. absurd (true≢false (sym e ∙ begins.unmet)); waiting = λ e f. begins.moved });
      waits = subst (λ q. AreOpenOne q (stream_at new s).passed) (sym is) (λ e. record { unmet = begins.unmet; total = omega (arith, begins.moved, begins.left); fresh = λ l. now });
      count = same.count ∙ h.count ∙ ap (λ p. if p then 1 else 0) (sym same.passed);
      since = λ r e.
          let own = same.owner r e in
          record {
            first = λ f. kept r own ∙ (h.since r own).first begins.unpassed;
            took = λ f p. absurd (true≢false (sym p ∙ now));
          };
    }

-- ## What the machine does without host ends

-- a write finds no read there
turn_steps : (guests : List Guest) (stream : Stream) (mine : Operation) → stream.reader.operation ≡ None → BeginsOne mine stream.passed → FutureStep stream (operate Writing guests stream mine).stream
unfolding operate
turn_steps guests stream mine o begins =
    cond_both (is_gone stream.reader.owner) _ _ (λ (t : Operated). FutureStep stream t.stream)
    (λ g. Leaves (Unchanged refl) (record { passed = refl; count = refl; owner = λ r e. e }))
    (λ g. subst (λ p. FutureStep stream (finds Writing guests stream mine p).stream) (sym o) (Opens mine refl begins (record { passed = refl; count = refl; owner = λ r e. e })))

module _ (state : State) (s : ℕ) (held : StateIsHeld state) (k : IsTaken Reading state s) (future : (stream_at state s).kind ≡ Future) where
  StepsIn : List Stream → Type 0
  StepsIn streams = FutureStep (stream_at state s) (get_or streams s no_stream)

  set_steps : (t : ℕ) (x : Stream) → t < length state.streams → (t ≡ s → FutureStep (stream_at state t) x) → FutureStep (stream_at state s) (get_or (set state.streams t x) s no_stream)
  set_steps t x l h =
      elim (cases_eq s t) [
        | inl e ↦ subst (λ j. FutureStep (stream_at state j) (get_or (set state.streams t x) j no_stream)) (sym e) (subst (FutureStep (stream_at state t)) (sym (get_or-set_same state.streams t x no_stream l)) (h (sym e)))
        | inr ne ↦ subst (FutureStep (stream_at state s)) (sym (get_or-set_other state.streams t s x no_stream ne)) (still_step (stream_at state s))
      ]

  written_steps : (t : ℕ) (x : Operated) (code : Option ReturnCode) → t < length state.streams → (t ≡ s → FutureStep (stream_at state t) x.stream) → FutureStep (stream_at state s) (get_or (written_back state t x code).state.streams s no_stream)
  written_steps t x (Some code) l h = set_steps t x.stream l h
  written_steps t x None l h = set_steps t x.stream l h

  begins_one : (end : NamedEnd) (address count : ℕ) → stream_named (named state end) ≡ s → Operates state Writing end address count → BeginsOne (begun_on end address count) (stream_on state end).passed
  begins_one end address count same o =
      let b = begins_by Writing end.ty (stream_on state end) end.guest address count o.kind o.unended (ap (λ i. (stream_at state i).kind) same ∙ future) in
      record { unmet = refl; moved = refl; left = b.left; unpassed = b.unpassed }

  shape_steps : (act : Act) (r : Reaction) → Shape state act r → FutureStep (stream_at state s) (stream_at r.state s)
  unfolding with_stream
  shape_steps act r (ByTurn side end address count a e o) =
      let t = stream_named (named state end) in
      subst (λ (x : Reaction). FutureStep (stream_at state s) (stream_at x.state s)) (sym e)
      (written_steps t (turn_on state side end address count) (turn_on state side end address count).code o.found.made
      (λ same. by side same o (held.agree.named end.guest end.handle t side o.found.held)))
    where
      by : (side : Side) → stream_named (named state end) ≡ s → Operates state side end address count → (end_of side (stream_on state end)).owner ≡ Held end.guest end.handle → FutureStep (stream_on state end) (turn_on state side end address count).stream
      by Writing same o f = turn_steps state.guests (stream_on state end) (begun_on end address count) (ap (λ i. (stream_at state i).reader.operation) same ∙ k.idle) (begins_one end address count same o)
      by Reading same o f =
          absurd (let wrong : is_held (Held end.guest end.handle) ≡ false = ap is_held (sym f) ∙ ap (λ i. is_held (stream_at state i).reader.owner) same ∙ k.unheld in true≢false wrong)
  shape_steps act r (BySetting reply x e o) =
      subst (λ (y : Reaction). FutureStep (stream_at state s) (stream_at y.state s)) (sym e)
      (set_steps x.stream (with_end x.side (stream_at state x.stream) x.end) o.made (λ same. by x.side o.becomes.left o.becomes.owner))
    where
      by : (side : Side) → IsLeft (end_of side (stream_at state x.stream)).operation x.end.operation → x.end.owner ≡ (end_of side (stream_at state x.stream)).owner → FutureStep (stream_at state x.stream) (with_end side (stream_at state x.stream) x.end)
      by Writing left f = Leaves left (record { passed = refl; count = refl; owner = λ r e. e })
      by Reading left f = Leaves (Unchanged refl) (record { passed = refl; count = refl; owner = λ r e. sym f ∙ e })
  shape_steps act r (ByOwner reply x e o) =
      subst (λ (y : Reaction). FutureStep (stream_at state s) (stream_at y.state s)) (sym e)
      (set_steps x.stream (with_owner x.side (stream_at state x.stream) x.owner) o.made (λ same. by x.side))
    where
      by : (side : Side) → FutureStep (stream_at state x.stream) (with_owner side (stream_at state x.stream) x.owner)
      by Writing = Leaves (Unchanged refl) (record { passed = refl; count = refl; owner = λ r e. e })
      by Reading = Leaves (Unchanged refl) (record { passed = refl; count = refl; owner = λ r e. absurd (no_host x.owner r o.unhosted e) })
  shape_steps act r (ByTable reply x e o) = subst (λ (y : Reaction). FutureStep (stream_at state s) (stream_at y.state s)) (sym e) (still_step (stream_at state s))
  shape_steps act r (ByPair writer reader ty a e o) =
      let pair = made_pair state writer reader ty in
      let made = made_stream ty writer pair.write reader pair.read in
      subst (λ (y : Reaction). FutureStep (stream_at state s) (stream_at y.state s)) (sym e)
      (subst (FutureStep (stream_at state s)) (sym (get_or_append_left state.streams (made ∷ []) no_stream s k.made)) (still_step (stream_at state s)))
  shape_steps act r (ByGuest size a e o) = subst (λ (y : Reaction). FutureStep (stream_at state s) (stream_at y.state s)) (sym e) (still_step (stream_at state s))
  shape_steps act r (ByPut reply g address bytes e o) = subst (λ (y : Reaction). FutureStep (stream_at state s) (stream_at y.state s)) (sym e) (still_step (stream_at state s))
  shape_steps act r (ByRestShape reply e o) = subst (λ (y : Reaction). FutureStep (stream_at state s) (stream_at y.state s)) (sym e) (still_step (stream_at state s))

  pub reaction_future : (act : Act) → Holds state → FutureRead state s → FutureRead (reaction state act).state s
  reaction_future act h =
      future_step state (reaction state act).state s (shape_steps act (reaction state act) (reaction-shape state act h.sound))
      (λ r e. ap (λ cs. (get_or cs r no_consumer).since) (reaction-consumers state act))

-- ## A turn of its host reader

untouched_is : (count since : ℕ) → is_untouched count since ≡ true → (count ≡ 0) × (since ≡ 0)
untouched_is count since e = let parts = and_parts (count == 0) (since == 0) e in (eqb-true count 0 parts.0, eqb-true since 0 parts.1)

-- whether the value passed then
abbrev now_passed : Bool → ℕ → Bool
now_passed passed count = cond (count == 0) passed true

-- what is known of a write once so many of its items were taken, and it was settled so
record TookOne (p : Operation) (now : Bool) (later : ℕ) : Type 0 where
  told : IsToldOne p now
  waits : p.is_open ≡ true → OpenOne p now
  since : IsSince (Some p) now later

module _ (payload : Payload) (o : Operation) (passed : Bool) (since count : ℕ) (is_open : o.is_open ≡ true) (h : OpenOne o passed) (t : IsToldOne o passed) (k : IsSince (Some o) passed since) (few : count ≤ o.left) where
  abbrev now : Bool
  now = now_passed passed count

  -- nothing passed in all
  none_now : now ≡ false → (count ≡ 0) × (passed ≡ false)
  none_now e = by (count == 0) refl
    where
      by : (b : Bool) → (count == 0) ≡ b → (count ≡ 0) × (passed ≡ false)
      by true f = (eqb-true count 0 f, sym (ap (λ b. cond b passed true) f) ∙ e)
      by false f = absurd (true≢false (sym (ap (λ b. cond b passed true) f) ∙ e))

  -- where a value passed before it is all that the write moved, and else it moved none
  before_passed : passed ≡ true → (o.moved ≡ 1) × ((count ≡ 0) × (since ≡ 1))
  before_passed e =
      let none : o.left ≤ 0 = by (cases_lt 0 o.left) in
      let total = h.total in
      (omega (arith, none, total), (omega (arith, none, few), k.took is_open e))
    where
      by : (0 < o.left) ⊎ (o.left ≤ 0) → o.left ≤ 0
      by (inl l) = absurd (true≢false (sym e ∙ h.fresh l))
      by (inr l) = l

  before_unpassed : passed ≡ false → (o.moved ≡ 0) × (since ≡ 0)
  before_unpassed e = (t.waiting h.unmet e, k.first e)

  at_most : count ≤ 1
  at_most = let total = h.total in omega (arith, total, few)

  -- it is open yet
  left_open : (later : ℕ) → later ≡ min (since + count) (2 ^ 32 - 1) → TookOne (went payload o count) now later
  left_open later is = record {
    told = record {
      done = λ e. absurd (true≢false (sym e ∙ h.unmet));
      waiting = λ e f. let none = none_now f in let was = before_unpassed none.1 in omega (arith, none.0, was.0);
    };
    waits = λ e. record {
      unmet = h.unmet;
      total = let total = h.total in omega (arith, total, few);
      fresh = λ l.
          let total = h.total in
          let none : count ≡ 0 = omega (arith, total, few, l) in
          ap (λ b. cond b passed true) (eq-eqb count 0 none) ∙ h.fresh (omega (arith, none, l));
    };
    since = record {
      first = λ e. let none = none_now e in let was = before_unpassed none.1 in omega (arith, is, none.0, was.1);
      took = λ e f. by passed refl f;
    };
  }
    where
      by : (b : Bool) → passed ≡ b → now ≡ true → later ≡ 1
      by true e f = let was = before_passed e in omega (arith, is, was.1.0, was.1.1)
      by false e f =
          let was = before_unpassed e in
          elim (cases_lt 0 count) [
            | inl l ↦ let most = at_most in omega (arith, is, was.1, l, most)
            | inr l ↦
                let none : count ≡ 0 = omega (arith, l) in
                let same : now ≡ passed = ap (λ b. cond b passed true) (eq-eqb count 0 none) in
                absurd (true≢false (sym f ∙ same ∙ e))
          ]

  -- it is settled
  closed : (result : StreamResult) (later : ℕ) → later ≡ 0 → count_reported Future (outcome_code Future result (o.moved + count)) ≡ o.moved + count → TookOne (operation_settled (Some result) (went payload o count)) now later
  closed result later is counts = record {
    told = record { done = λ e. counts; waiting = λ e f. cc };
    waits = λ e. cc;
    since = record { first = λ e. is; took = λ e f. cc };
  }

  -- by what the host reader answered
  answered : (answer : Answer) (offered : ℕ) (finish : Bool) (later : ℕ) → reader_breaks Future answer offered since finish count ≡ false → later ≡ since_after answer since count → TookOne (operation_settled (result_of answer) (went payload o count)) now later
  answered answers.Pending offered finish later kept is = left_open later is
  answered answers.Failed offered finish later kept is = left_open later is
  answered answers.Dropped offered finish later kept is = cc
  answered answers.Completed offered finish later kept is = closed results.Completed later is (by passed refl)
    where
      by : (b : Bool) → passed ≡ b → 1 ≡ o.moved + count
      by true e = let was = before_passed e in omega (arith, was.0, was.1.0)
      by false e =
          let was = before_unpassed e in
          elim (cases_lt 0 count) [
            | inl l ↦ let most = at_most in omega (arith, was.0, l, most)
            | inr l ↦
                let none : count ≡ 0 = omega (arith, l) in
                let touched : is_untouched count since ≡ true = ap (λ c. is_untouched c since) none ∙ ap (λ c. c == 0) was.1 in
                absurd (true≢false (sym touched ∙ kept))
          ]
  answered answers.Cancelled offered finish later kept is =
      let all = untouched_is count since (not_false (is_untouched count since) (or_parts (not finish) (not (is_untouched count since)) kept).1) in
      closed results.Cancelled later is (by passed refl all.0 all.1)
    where
      not_false : (b : Bool) → not b ≡ false → b ≡ true
      not_false true e = refl
      not_false false e = cc

      by : (b : Bool) → passed ≡ b → count ≡ 0 → since ≡ 0 → 0 ≡ o.moved + count
      by true e none kept_none = absurd (let was = before_passed e in omega (arith, was.1.1, kept_none))
      by false e none kept_none = let was = before_unpassed e in omega (arith, was.0, none)

module _ (old new : State) (s n : ℕ) (o : Operation) (t : Turned Writing old new s n o) (made : s < length old.streams) (known : n < length old.consumers) (own : (stream_at old s).reader.owner ≡ Host n) (is : (stream_at old s).writer.operation ≡ Some o) (is_open : o.is_open ≡ true) (future : (stream_at old s).kind ≡ Future)
    (h : FutureRead old s) where
  abbrev was : Stream
  was = stream_at old s

  abbrev moved : Stream
  moved = turned_stream Writing old s o t.count t.result

  moves : Moves Writing was moved o t.count t.result
  moves = moved_on-moves was o t.count Writing t.result

  here : stream_at new s ≡ moved
  here = ap (λ (x : State). stream_at x s) t.is ∙ get_or-set_same old.streams s moved no_stream made

  opens : OpenOne o was.passed
  opens = subst (λ q. AreOpenOne q was.passed) is h.waits is_open

  took : TookOne (operation_settled t.result (went was.payload o t.count)) (now_passed was.passed t.count) (since_of t.ends n)
  took =
      let a = t.obeys in
      subst (λ r. TookOne (operation_settled r (went was.payload o t.count)) (now_passed was.passed t.count) (since_of t.ends n)) (sym a.result_is)
      (answered was.payload o was.passed (since_of old n) t.count is_open opens (subst (λ q. AreToldOne q was.passed) is h.told) (subst (λ q. IsSince q was.passed (since_of old n)) is (h.since n own)) t.few a.answer a.offered a.finish (since_of t.ends n)
      (subst (λ k. reader_breaks k a.answer a.offered (since_of old n) a.finish t.count ≡ false) future a.kept) (a.since known))

  passed_now : (stream_at new s).passed ≡ now_passed was.passed t.count
  passed_now =
      ap (λ (x : Stream). x.passed) here ∙ moves.passed
      ∙ ap (λ k. cond (t.count == 0) was.passed (was.passed || is_future k)) future
      ∙ ap (cond (t.count == 0) was.passed) (or_true was.passed)
    where
      or_true : (b : Bool) → (b || true) ≡ true
      or_true true = refl
      or_true false = refl

  operation_now : (stream_at new s).writer.operation ≡ Some (operation_settled t.result (went was.payload o t.count))
  operation_now = ap (λ (x : Stream). x.writer.operation) here ∙ ap (λ (x : End). x.operation) moves.mine

  count_now : (stream_at new s).received ≡ (if (stream_at new s).passed then 1 else 0)
  count_now =
      ap (λ (x : Stream). x.received) here ∙ moves.count ∙ by (cases_lt 0 t.count) ∙ ap (λ p. if p then 1 else 0) (sym passed_now)
    where
      by : (0 < t.count) ⊎ (t.count ≤ 0) → cond (t.count == 0) was.received (with_received was t.count).received ≡ (if (now_passed was.passed t.count) then 1 else 0)
      by (inr l) =
          let none : (t.count == 0) ≡ true = eq-eqb t.count 0 (omega (arith, l)) in
          ap (λ b. cond b was.received (with_received was t.count).received) none ∙ h.count ∙ ap (λ b. if (cond b was.passed true) then 1 else 0) (sym none)
      by (inl l) =
          let some : (t.count == 0) ≡ false = ne_eqb t.count 0 (λ e. omega (arith, e, l)) in
          let few = t.few in
          let total = opens.total in
          let unpassed = opens.fresh (omega (arith, few, l)) in
          let first : was.received ≡ 0 = h.count ∙ ap (λ p. if p then 1 else 0) unpassed in
          let one : (with_received was t.count).received ≡ 1 = omega (arith, first, few, total, l) in
          ap (λ b. cond b was.received (with_received was t.count).received) some ∙ one ∙ ap (λ b. if (cond b was.passed true) then 1 else 0) (sym some)

  pub turned_future : FutureRead new s
  turned_future = record {
    told = subst (λ p. AreToldOne (stream_at new s).writer.operation p) (sym passed_now) (subst (λ q. AreToldOne q (now_passed was.passed t.count)) (sym operation_now) took.told);
    waits = subst (λ p. AreOpenOne (stream_at new s).writer.operation p) (sym passed_now) (subst (λ q. AreOpenOne q (now_passed was.passed t.count)) (sym operation_now) took.waits);
    count = count_now;
    since = λ r e.
        let same = owner_was r e in
        let since : since_of new r ≡ since_of t.ends n = ap (λ (x : State). since_of x r) t.is ∙ ap (since_of t.ends) same in
        subst (λ p. IsSince (stream_at new s).writer.operation p (since_of new r)) (sym passed_now)
        (subst (λ q. IsSince q (now_passed was.passed t.count) (since_of new r)) (sym operation_now)
        (subst (IsSince (Some (operation_settled t.result (went was.payload o t.count))) (now_passed was.passed t.count)) (sym since) took.since));
  }
    where
      one_host : (a b : ℕ) → Host a ≡ Host b → a ≡ b
      one_host a b e = cc

      stays : (b : Bool) (r : ℕ) → cond b Gone (Host n) ≡ Host r → r ≡ n
      stays true r e = cc
      stays false r e = one_host r n (sym e)

      owner_was : (r : ℕ) → (stream_at new s).reader.owner ≡ Host r → r ≡ n
      owner_was r e =
          stays (is_done_with t.result) r
          (sym (ap (λ (x : Stream). x.reader.owner) here ∙ ap (λ (x : End). x.owner) moves.theirs ∙ ap (λ q. cond (is_done_with t.result) Gone q) own) ∙ e)
