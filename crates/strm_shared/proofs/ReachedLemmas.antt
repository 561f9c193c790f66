-- What is known of the states of a history, of a read or write that begins, and of one that waits.
use Rattle.std.proofs.Common.{◌≡◌, ◌≢◌, ℕ, zero, suc, ◌<◌, Bool, true, false, List, length, get_or, set, Option, Some, None, refl, sym, ap, ◌∙◌, subst, arith, inl, inr}
use Rattle.std.specs.Prelude.{is_some, is_ok, nat_le, Ok, Err, replicate}
use Rattle.std.proofs.lemmas.Bool.{cases_lt, cond_both}
use Rattle.std.proofs.lemmas.Bool.Decides.{nat_tests}
use Rattle.std.proofs.lemmas.List.{get_or_past, get_or-set_same, set-get_or}
use Rattle.strm_codes.specs.declared.codes.ReturnCode.{ReturnCode}
use Rattle.strm_codes.specs.declared.codes.ReturnCode.TheVariants as codes
use Rattle.strm_codes.specs.declared.codes.TransmitKind.{TransmitKind}
use Rattle.strm_codes.specs.declared.codes.TransmitKind.TheVariants.{Stream as AStream, Future}
use Rattle.strm_codes.specs.Codes.{completed_code}
use Rattle.strm_codes.specs.declared.refusals.Refusal.{Refusal}
use Rattle.strm_handles.specs.Handles.{no_handles}
use Rattle.strm_handles.specs.Lookups.{end_rep_of}
use Rattle.strm_machine.specs.State.{State, Guest, empty, no_guest, no_stream, no_producer, no_consumer, stream_at, is_gone, is_host, host_limit}
use Rattle.strm_machine.specs.Sides.{opposite, same_side, end_of, with_end, with_operation}
use Rattle.strm_machine.specs.Operating.{Operated, moves, completes_alone, rendezvous_by, finds, operate}
use Rattle.strm_machine.specs.Tests.{Name, named, end_named, stream_named, is_busy}
use Rattle.strm_machine.specs.Moments.{is_end}
use Rattle.std.specs.Prelude.{IfSome, not}
use Rattle.std.specs.Option.{option_map}
use Rattle.strm_codes.specs.declared.codes.StreamResult.{StreamResult}
use Rattle.strm_codes.specs.declared.codes.StreamResult.TheVariants.{Completed, Dropped, Cancelled}
use Rattle.strm_events.specs.Reports.{outcome_code, report_of}
use Rattle.strm_events.specs.declared.reports.Pending.{Pending}
use Rattle.strm_machine.specs.Endings.{pending_of, is_other_gone, delivered, report_on}
use Rattle.strm_machine.specs.Refusals.{first_of, slot_reasons, refusal}
use Rattle.strm_machine.specs.Reactions.{Reaction, goes, written_back, operates, told, tells, performs, reaction, react}
use Rattle.strm_machine.specs.declared.acts.NamedEnd.{NamedEnd}
use Rattle.strm_machine.specs.declared.acts.Act.{Act}
use Rattle.strm_machine.specs.declared.acts.Act.TheVariants.{OnEnd, Transfer, Event}
use Rattle.strm_machine.specs.declared.acts.EndAct.TheVariants.{Operate}
use Rattle.strm_machine.specs.declared.limits.Limits.{Limits}
use Rattle.strm_machine.specs.declared.replies.Reply.TheVariants as replies
use Rattle.strm_machine.specs.declared.steps.Step.TheVariants as steps
use Rattle.strm_machine.specs.declared.streams.Duty.TheVariants.{Unused}
use Rattle.strm_machine.specs.declared.streams.Meeting.{Meeting}
use Rattle.strm_machine.specs.declared.streams.Meeting.TheVariants.{BothComplete, WriteCompletes, ReadCompletes}
use Rattle.strm_machine.specs.declared.streams.Side.{Side}
use Rattle.strm_machine.specs.declared.streams.Side.TheVariants.{Writing, Reading}
use Rattle.strm_machine.specs.declared.streams.Operation.{Operation}
use Rattle.strm_machine.specs.declared.streams.Stream.{Stream}
use Rattle.std.specs.Prelude.{◌&&◌}
use Rattle.strm_machine.proofs.EmptyLemmas.{IsSound-empty, StateIsHeld-empty, HostsHold-empty}
use Rattle.strm_machine.proofs.HeldLemmas.{StateIsHeld, reaction-held}
use Rattle.strm_machine.proofs.HostLemmas.{reaction-hosts, unless_host}
use Rattle.strm_machine.proofs.NamedEndLemmas.{is_end-ok}
use Rattle.strm_machine.proofs.ReactionLemmas.{reaction-by, reaction-performs, reaction-trapped}
use Rattle.strm_machine.proofs.AgreeLemmas.{is_end-once}
use Rattle.strm_machine.proofs.WaitableSetLemmas.{sets-same}
use Rattle.strm_machine.proofs.ShapeLemmas.{operate-fits, reaction-producers, reaction-consumers}
use Rattle.strm_machine.proofs.Shapes.{begun_on, turn_on, Operates}
use Rattle.strm_machine.proofs.SoundStepLemmas.{operate-keeps, reaction-sound}
use Rattle.strm_machine.proofs.TableLemmas.{owner-set_stays}
use Rattle.strm_shared.specs.declared.entry.Place.{Place}
use Rattle.strm_shared.specs.Places.{place, named_in, operated_in, told_in, IsBusy, IsInNoSet}
use Rattle.strm_machine.specs.Moments.{is_blocked}
use Rattle.strm_shared.specs.Reaching.{IsStateReached}
use Rattle.strm_shared.proofs.StayLemmas.{IsWaiting, reaction-stays, not_both, out-same}

-- ## Reached states

no_writers : (m n : ℕ) → (get_or (replicate m no_producer) n no_producer).duty ≡ Unused
no_writers zero n = refl
no_writers (suc m) zero = refl
no_writers (suc m) (suc n) = no_writers m n

no_readers : (m n : ℕ) → (get_or (replicate m no_consumer) n no_consumer).duty ≡ Unused
no_readers zero n = refl
no_readers (suc m) zero = refl
no_readers (suc m) (suc n) = no_readers m n

pub reached-empty : (tag : ℕ) (limits : Limits) → IsStateReached (empty tag limits)
reached-empty tag limits = record {
  sound = IsSound-empty tag limits;
  held = StateIsHeld-empty tag limits;
  hosts = HostsHold-empty tag limits;
  writers = λ n. no_writers host_limit n;
  readers = λ n. no_readers host_limit n;
}

pub reached-after : (state : State) (act : Act) → IsStateReached state → IsStateReached (reaction state act).state
reached-after state act h = record {
  sound = reaction-sound state act h.sound;
  held = reaction-held state act h.sound h.held;
  hosts = reaction-hosts state act h.sound h.held h.hosts;
  writers = λ n. ap (λ ps. (get_or ps n no_producer).duty) (reaction-producers state act) ∙ h.writers n;
  readers = λ n. ap (λ cs. (get_or cs n no_consumer).duty) (reaction-consumers state act) ∙ h.readers n;
}

-- no host end has an end of a stream
pub reached-alone : (state : State) (s : ℕ) (side : Side) → IsStateReached state → is_host (end_of side (stream_at state s)).owner ≡ false
reached-alone state s Reading h =
    unless_host (stream_at state s).reader.owner
    (λ n e. let serves = (h.hosts.serve Reading n s).serves e in let unused = h.readers n in cc)
reached-alone state s Writing h =
    unless_host (stream_at state s).writer.owner
    (λ n e. let serves = (h.hosts.serve Writing n s).serves e in let unused = h.writers n in cc)

-- ## A read or write that waits

-- what stays of it in a step
pub record Waits (p : Place) (act : Act) (r : Reaction) : Type 0 where
  pub untold : told_in act r.reply ≢ Some p
  pub busy : IsBusy r.state p
  pub out : IsInNoSet r.state p

busy_made : (state : State) (s : ℕ) (side : Side) → is_busy side (stream_at state s) ≡ true → s < length state.streams
busy_made state s side b = elim (cases_lt s (length state.streams)) [
  | inl l ↦ l
  | inr l ↦ absurd (not_both (is_busy side (stream_at state s)) b (ap (is_busy side) (get_or_past state.streams s no_stream l) ∙ idle side))
]
  where
    idle : (side : Side) → is_busy side no_stream ≡ false
    idle Writing = refl
    idle Reading = refl

pub waits_on : (state : State) (p : Place) (act : Act) → IsStateReached state → IsBusy state p → IsInNoSet state p → named_in act ≢ Some p → Waits p act (reaction state act)
waits_on state p act h busy out clear =
    let s = busy.stream in
    let side = busy.side in
    let w : IsWaiting state p s side = record { named = busy.named; operates = busy.operates; out = out; made = busy_made state s side busy.operates } in
    let r = reaction-stays state p s side h.held w act h.sound clear in
    let after = reaction-held state act h.sound h.held in
    record {
      untold = r.untold;
      busy = record {
        stream = s;
        side = side;
        named = after.agree.held p.guest p.handle s side (r.end.owner ∙ h.held.agree.named p.guest p.handle s side busy.named);
        operates = r.end.busy busy.operates;
      };
      out = r.out;
    }

-- ## A read or write that is answered Blocked

module _ (side : Side) (guests : List Guest) (stream : Stream) (mine : Operation) where
  -- where it answers Blocked it is open
  abbrev Opens : Operated → Type 0
  Opens t = t.code ≡ Some codes.Blocked → is_busy side t.stream ≡ true

  opened : (x : Stream) (o : Operation) → is_busy side (with_operation side x o) ≡ true
  opened x o = by side
    where
      by : (a : Side) → is_busy a (with_operation a x o) ≡ true
      by Writing = refl
      by Reading = refl

  unblocked : (kind : TransmitKind) (n : ℕ) (x : Stream) (gs : List Guest) → Opens (record { code = Some (completed_code kind n); guests = gs; stream = x })
  unblocked AStream n x gs e = cc
  unblocked Future n x gs e = cc

  moves-opens : (theirs : Operation) (n : ℕ) (o : Option (List Guest)) → Opens (moves side guests stream mine theirs n o)
  moves-opens theirs n None e = cc
  moves-opens theirs n (Some after) e = unblocked stream.kind n _ after e

  alone-opens : (who : Side) (theirs : Operation) → Opens (completes_alone who side guests stream mine theirs)
  alone-opens who theirs =
      cond_both (same_side who side) _ _ Opens
      (λ e. unblocked stream.kind 0 stream guests)
      (λ e b. opened _ mine)

  rendezvous-opens : (meeting : Meeting) (theirs : Operation) → Opens (rendezvous_by meeting side guests stream mine theirs)
  rendezvous-opens BothComplete theirs = moves-opens theirs _ _
  rendezvous-opens WriteCompletes theirs = alone-opens Writing theirs
  rendezvous-opens ReadCompletes theirs = alone-opens Reading theirs

  finds-opens : (o : Option Operation) → Opens (finds side guests stream mine o)
  finds-opens None b = opened stream mine
  finds-opens (Some theirs) b =
      cond_both theirs.is_open _ _ Opens
      (λ e. rendezvous-opens _ theirs)
      (λ e k. opened stream mine) b

  operate-opens : Opens (operate side guests stream mine)
  unfolding operate
  operate-opens =
      cond_both (is_gone (end_of (opposite side) stream).owner) _ _ Opens
      (λ e b. cc)
      (λ e. finds-opens _)

-- it was idle, and is busy; the sets are as they were
pub record Begins (state : State) (p : Place) (after : State) : Type 0 where
  pub idle : IsBusy state p → ⊥
  pub busy : IsBusy after p
  pub out : IsInNoSet state p → IsInNoSet after p

-- where a read or write comes to this, and is answered Blocked, it begins
abbrev Beginning : State → Place → Reaction → Type 0
Beginning state p r = StateIsHeld r.state → is_blocked r.reply ≡ true → Begins state p r.state

-- what a read or write writes back, by its code
abbrev back : State → Side → NamedEnd → ℕ → ℕ → Option ReturnCode → Reaction
back state on end address count code = written_back state (stream_named (named state end)) (turn_on state on end address count) code

operates-begins : (state : State) (on : Side) (end : NamedEnd) (address count : ℕ) → IsStateReached state → Operates state on end address count → Beginning state (place end.guest end.handle) (operates state on end address count)
operates-begins state on end address count h o = by (turn_on state on end address count).code refl
  where
    by : (code : Option ReturnCode) → (turn_on state on end address count).code ≡ code → Beginning state (place end.guest end.handle) (back state on end address count code)
    by None c after b = cc
    by (Some codes.Blocked) c after b =
        let t = stream_named (named state end) in
        let stream = stream_at state t in
        let tn = turn_on state on end address count in
        let k = operate-keeps state on end address count o in
        record {
          idle = λ was.
              let once = is_end-once was.stream t was.side on (end_named state end.guest end.handle) was.named o.found.held in
              not_both (is_busy was.side (stream_at state was.stream)) was.operates
              (ap (λ s. is_busy was.side (stream_at state s)) once.0 ∙ (ap (λ a. is_busy a (stream_at state t)) once.1 ∙ ap is_some o.idle));
          busy = record {
            stream = t;
            side = on;
            named = after.agree.held end.guest end.handle t on
                (owner-set_stays state.streams t tn.stream t on (record { writer = k.stream.writer; reader = k.stream.reader })
                ∙ h.held.agree.named end.guest end.handle t on o.found.held);
            operates = ap (is_busy on) (get_or-set_same state.streams t tn.stream no_stream o.found.made) ∙ operate-opens on state.guests stream (begun_on end address count) c;
          };
          out = λ out. out-same state.guests tn.guests end.guest end.handle (sets-same state.guests tn.guests end.guest k.guests.sets) out;
        }
    by (Some (codes.Completed n)) c after b = cc
    by (Some (codes.Dropped n)) c after b = cc
    by (Some (codes.Cancelled n)) c after b = cc

-- the one act that reads or writes
operating_is : (act : Act) (p : Place) (P : Act → Type 0) → operated_in act ≡ Some p
    → ((on : Side) (end : NamedEnd) (address count : ℕ) → place end.guest end.handle ≡ p → P (OnEnd on end (Operate address count))) → P act
operating_is (OnEnd on end (Operate address count)) p P e f = f on end address count cc
operating_is _ p P e f = cc

pub begins : (state : State) (p : Place) (act : Act) → IsStateReached state → operated_in act ≡ Some p → is_blocked (reaction state act).reply ≡ true → Begins state p (reaction state act).state
unfolding performs refusal
begins state p act h e =
    operating_is act p (λ a. is_blocked (reaction state a).reply ≡ true → Begins state p (reaction state a).state) e
    (λ on end address count same.
    let a = OnEnd on end (Operate address count) in
    subst (λ q. is_blocked (reaction state a).reply ≡ true → Begins state q (reaction state a).state) same
    (reaction-by (Beginning state (place end.guest end.handle)) state a
    (λ t after b. cc)
    (λ r f after b. cc)
    (λ f. by on end address count f)
    (reaction-held state a h.sound h.held)))
  where
    by : (on : Side) (end : NamedEnd) (address count : ℕ) → refusal state (OnEnd on end (Operate address count)) ≡ None
        → Beginning state (place end.guest end.handle) (performs state (OnEnd on end (Operate address count)))
    by on end address count f = operates-begins state on end address count h (operate-fits state on end address count h.sound f)

-- ## An event of one that waits

no_end_named : (handle s : ℕ) (side : Side) → is_end s side (end_rep_of no_handles handle) ≡ true → ⊥
no_end_named zero s side is = cc
no_end_named (suc i) s side is = cc

busy_there : (state : State) (p : Place) → IsBusy state p → p.guest < length state.guests
busy_there state p b = elim (cases_lt p.guest (length state.guests)) [
  | inl l ↦ l
  | inr l ↦ absurd (no_end_named p.handle b.stream b.side (subst (λ (g : Guest). is_end b.stream b.side (end_rep_of g.handles p.handle) ≡ true) (get_or_past state.guests p.guest no_guest l) b.named))
]

slot_fits : (name : Name) → is_ok name ≡ true → first_of (slot_reasons name) ≡ None
slot_fits (Ok answer) e = refl
slot_fits (Err error) e = cc

event_unrefused : (state : State) (p : Place) → IsBusy state p → refusal state (Event p.guest p.handle) ≡ None
unfolding refusal
event_unrefused state p b =
    let there = busy_there state p b in
    let known : nat_le (length state.guests) p.guest ≡ false = grind (arith, nat_tests) in
    rw known (slot_fits (end_named state p.guest p.handle) (is_end-ok b.stream b.side (end_named state p.guest p.handle) b.named))

-- the store is trapped, or the end is told its report if it has one
pub event_by : (P : Reaction → Type 0) (state : State) (p : Place) → IsBusy state p → P (goes replies.StoreTrapped state)
    → ((s : ℕ) (side : Side) → P (tells state s side)) → P (react state (steps.Event p.guest p.handle))
unfolding performs
event_by P state p b trapped told =
    by state.trapped refl
  where
    by : (t : Bool) → state.trapped ≡ t → P (react state (steps.Event p.guest p.handle))
    by true e = subst P (sym (reaction-trapped state (Event p.guest p.handle) e)) trapped
    by false e = subst P (sym (reaction-performs state (Event p.guest p.handle) e (event_unrefused state p b))) (told _ _)

-- no report: nothing has changed
untold_same : (state : State) (s : ℕ) (side : Side) → report_on side (stream_at state s) ≡ None → told state s side ≡ state
unfolding delivered
untold_same state s side e = rw e (same side)
  where
    same : (side : Side) → record state { streams = set state.streams s (with_end side (stream_at state s) (end_of side (stream_at state s))) } ≡ state
    same Writing = ap (λ xs. record state { streams = xs }) (set-get_or state.streams s no_stream)
    same Reading = ap (λ xs. record state { streams = xs }) (set-get_or state.streams s no_stream)

-- a report is not Blocked
abbrev Speaks : Option ReturnCode → Type 0
Speaks o = IfSome o (λ code. is_blocked (replies.Code code) ≡ false)

outcome-speaks : (kind : TransmitKind) (outcome : StreamResult) (moved : ℕ) → Speaks (Some (outcome_code kind outcome moved))
outcome-speaks AStream Completed moved = refl
outcome-speaks AStream Dropped moved = refl
outcome-speaks AStream Cancelled moved = refl
outcome-speaks Future Completed moved = refl
outcome-speaks Future Dropped moved = refl
outcome-speaks Future Cancelled moved = refl

report-speaks : (kind : TransmitKind) (o : Option Pending) (gone told passed : Bool) → Speaks (report_of kind o gone told passed)
report-speaks kind None gone told passed = cond_both (gone && not told && not passed) _ _ Speaks (λ e. refl) (λ e. tt)
report-speaks AStream (Some o) gone told passed =
    cond_both gone _ _ Speaks (λ e. refl)
    (λ e. cond_both o.met _ _ Speaks (λ f. outcome-speaks AStream o.outcome o.moved) (λ f. tt))
report-speaks Future (Some o) gone told passed =
    cond_both o.met _ _ Speaks (λ e. outcome-speaks Future o.outcome o.moved)
    (λ e. cond_both (gone && not passed) _ _ Speaks (λ f. refl) (λ f. tt))

-- what an event step of one that waits answers: that the store is trapped, a report, or none, and then
-- nothing has changed
pub data Looks (state : State) (r : Reaction) : Type 0 where
  Trapped : r.reply ≡ replies.StoreTrapped → Looks state r
  Told : (code : ReturnCode) → r.reply ≡ replies.Event (Some code) → is_blocked (replies.Code code) ≡ false → Looks state r
  Untold : r.reply ≡ replies.Event None → r.state ≡ state → Looks state r

tells-looks : (state : State) (s : ℕ) (side : Side) (o : Option ReturnCode) → report_on side (stream_at state s) ≡ o → Looks state (tells state s side)
tells-looks state s side None e = Untold (ap replies.Event e) (untold_same state s side e)
tells-looks state s side (Some code) e =
    let stream = stream_at state s in
    Told code (ap replies.Event e)
    (subst Speaks e (report-speaks stream.kind (option_map pending_of (end_of side stream).operation) (is_other_gone side stream) (end_of side stream).told stream.passed))

pub event-looks : (state : State) (p : Place) → IsBusy state p → Looks state (react state (steps.Event p.guest p.handle))
event-looks state p b = event_by (Looks state) state p b (Trapped refl) (λ s side. tells-looks state s side (report_on side (stream_at state s)) refl)

-- ## A move that is refused

pub move-refused : (state : State) (end : NamedEnd) (to : ℕ) (r : Refusal) → (reaction state (Transfer end to)).reply ≡ replies.Refused r → (reaction state (Transfer end to)).state ≡ state
unfolding performs
move-refused state end to r =
    reaction-by (λ x. x.reply ≡ replies.Refused r → x.state ≡ state) state (Transfer end to)
    (λ t e. refl) (λ q f e. refl) (λ f. by)
  where
    by : (performs state (Transfer end to)).reply ≡ replies.Refused r → (performs state (Transfer end to)).state ≡ state
    by e = cc
