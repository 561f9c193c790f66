-- A read or write with host ends: by what is on the other side.
use Rattle.std.proofs.Common.{◌≡◌, ◌≢◌, ℕ, true, false, [], Option, Some, None, Result, Ok, Err, refl, sym, ap, subst, ◌∙◌}
use Rattle.std.specs.Prelude.{IsOk, IfErr}
use Rattle.std.proofs.lemmas.Bool.{true≢false}
use Rattle.strm_buffers.specs.Tells.{Tells, told_by}
use Rattle.strm_machine.specs.State.{State, stream_at, is_host}
use Rattle.strm_machine.specs.Sides.{opposite, end_of, with_operation}
use Rattle.strm_machine.specs.Tests.{named, stream_named}
use Rattle.strm_machine.specs.Refusals.{refusal}
use Rattle.strm_machine.specs.declared.acts.Act.{Act}
use Rattle.strm_machine.specs.declared.acts.EndAct.TheVariants.{Operate}
use Rattle.strm_machine.specs.declared.acts.NamedEnd.{NamedEnd}
use Rattle.strm_machine.specs.declared.replies.Reply.{Reply}
use Rattle.strm_machine.specs.declared.streams.Owner.{Owner}
use Rattle.strm_machine.specs.declared.streams.Owner.TheVariants.{Host}
use Rattle.strm_machine.specs.declared.streams.Side.{Side}
use Rattle.strm_machine.specs.declared.streams.Side.TheVariants.{Writing, Reading}
use Rattle.strm_machine.specs.declared.streams.Operation.{Operation}
use Rattle.strm_machine.specs.declared.streams.Stream.{Stream}
use Rattle.strm_machine.proofs.Shapes.{operating, begun_on}
use Rattle.strm_host_machine.specs.World.{World}
use Rattle.strm_host_machine.specs.Steps.{operates_by, reads_from, writes_to, performs_in, outcome, may_poll, touches}
use Rattle.strm_host_machine.specs.Does.{world_of, Fits, Does, Answered}
use Rattle.strm_transmit.specs.Meets.{as_reply}
use Rattle.strm_transmit.specs.Hosted.{call_answered, lone, MayBeDone, Leaves, IsHandedOver, IsStop, ErrsByRecord, MeetsHosted}
use Rattle.strm_transmit.specs.Inside.{AreServed}
use Rattle.strm_transmit.specs.Turning.{turn_for, polls_for}
use Rattle.strm_transmit.specs.OutOfMemory.{RunsOutInPoll, RunsOutIn, InAPoll, IfOutOfMemory}
use Rattle.strm_transmit.specs.declared.errors.StoreError.{StoreError}
use Rattle.strm_transmit.specs.declared.errors.StoreError.TheVariants.{Refused, HostFailed, HostBroke, BadItem, StoreTrapped, OutOfMemory}
use Rattle.strm_codes.specs.declared.codes.ReturnCode.{ReturnCode}
use Rattle.strm_machine.specs.Endings.{delivered}
use Rattle.strm_machine.specs.Reactions.{Reaction, goes, tells as tells_end, with_stream_at}
use Rattle.strm_machine.specs.declared.replies.Reply.TheVariants as replies
use Rattle.strm_machine.specs.declared.stops.Stop.{Stop}
use Rattle.strm_machine.specs.declared.stops.Stop.TheVariants as stops
use Rattle.strm_host_machine.specs.Settling.{turn_answered as answers_at}
use Rattle.strm_host_machine.proofs.FitsLemmas.{KeepsKind, Fits-stream}
use Rattle.strm_host_machine.proofs.ReadLemmas.{Does-read, Does-read_stop}
use Rattle.strm_host_machine.proofs.WriteLemmas.{Does-write, Does-write_stop}
use Rattle.strm_host_machine.proofs.LastRecordLemmas.{AreServing, halts_by_record}
use Rattle.strm_host_machine.proofs.OutcomeLemmas.{refusal_in-on_end}
use Rattle.strm_transmit.proofs.OutOfMemoryLemmas.{out_of_memory_result}
use Rattle.strm_transmit.proofs.HostStepLemmas.{PerformsAs, does_admitted, Settles, unpolled}

-- ## A call that polled a host end

-- an error stops the call, and traps the store
pub record Halts {T : Type 0} (result : Result T StoreError) (new : State) : Type 0 where
  pub stop : IfErr result IsStop
  pub trapped : IfErr result (λ _. new.trapped ≡ true)

-- host ends fitted the store, of which each serves the stream that it has an end of, and fit it still
pub record FitStill (old new : State) (tells told : Tells) : Type 0 where
  pub served : AreServed old.producers old.consumers old.streams
  pub before : Fits old tells
  pub after : Fits new told

module _ (old new : State) (tells told : Tells) (act : Act) (polls : may_poll (lone old) act ≡ true) where
  -- where memory had run out
  abbrev pub RunsOutSo : {T : Type 0} → Result T StoreError → Type 0
  RunsOutSo result = IfErr result (λ error. IfOutOfMemory error (RunsOutIn old tells told act))

  leaves_stop : (error : StoreError) → IsStop error → new.trapped ≡ true → IfOutOfMemory error (RunsOutIn old tells told act) → Leaves act old new tells told error
  leaves_stop (Refused r) s t w = absurd s
  leaves_stop (HostFailed end) s t w = t
  leaves_stop (HostBroke end) s t w = t
  leaves_stop (BadItem stream) s t w = t
  leaves_stop StoreTrapped s t w = absurd s
  leaves_stop OutOfMemory s t w = rw polls (record { trapped = t; wants = w })

  leaves_if : {T : Type 0} (f : T → Reply) (result : Result T StoreError) → Halts result new → RunsOutSo result → IfErr (as_reply f result) (Leaves act old new tells told)
  leaves_if f (Ok v) h w = tt
  leaves_if f (Err error) h w = leaves_stop error h.stop h.trapped w

  -- it did what the machine does
  abbrev pub DidSo : Result Reply StoreError → Type 0
  DidSo result = Does old new tells told (call_answered result) (λ w. outcome w act)

  -- a host end that failed, or broke its rules, says so by its last record
  by_last_record : AreServing old → Fits old tells → (result : Result Reply StoreError) → DidSo result → IfErr result (ErrsByRecord tells told)
  by_last_record served fits (Ok v) does = tt
  by_last_record served fits (Err (HostFailed end)) does = halts_by_record tells told old new act (stops.HostFailed end) served fits does
  by_last_record served fits (Err (HostBroke end)) does = halts_by_record tells told old new act (stops.HostBroke end) served fits does
  by_last_record served fits (Err (Refused r)) does = tt
  by_last_record served fits (Err (BadItem stream)) does = tt
  by_last_record served fits (Err StoreTrapped) does = tt
  by_last_record served fits (Err OutOfMemory) does = tt

  pub hosted_polled : {T : Type 0} (f : T → Reply) (result : Result T StoreError) → DidSo (as_reply f result) → MayBeDone old tells act → FitStill old new tells told → Halts result new → RunsOutSo result → MeetsHosted old new tells told (as_reply f result) act
  hosted_polled f result does may fits halts wants = record {
    does = does;
    fits = fits.after;
    by_record = by_last_record fits.served.serves fits.before (as_reply f result) does;
    alone = λ u. absurd (true≢false (sym polls ∙ unpolled (lone old) act u));
    err = leaves_if f result halts wants;
    out_of_memory = λ w. may;
  }

-- the cause of a stop; none for running out of memory
abbrev pub cause_of : StoreError → Option Stop
cause_of (HostFailed end) = Some (stops.HostFailed end)
cause_of (HostBroke end) = Some (stops.HostBroke end)
cause_of (BadItem stream) = Some (stops.BadItem stream)
cause_of _ = None

pub stop_is : (error : StoreError) → IsStop error → call_answered (Err error) ≡ Err (cause_of error)
stop_is (Refused r) s = absurd s
stop_is (HostFailed end) s = refl
stop_is (HostBroke end) s = refl
stop_is (BadItem stream) s = refl
stop_is StoreTrapped s = absurd s
stop_is OutOfMemory s = refl

-- ## A read or write opens, the host end on the other side has its turn, and it is answered

-- the state with an operation open on a side of stream s
abbrev pub opened_on : Side → State → ℕ → Operation → State
opened_on side state s operation = with_stream_at state s (with_operation side (stream_at state s) operation)

pub opened-fits : (side : Side) (old new : State) (tells : Tells) (s : ℕ) (operation : Operation) → new ≡ opened_on side old s operation → Fits old tells → Fits new tells
opened-fits side old new tells s operation e fits =
    subst (λ (x : State). Fits x tells) (sym e)
    (Fits-stream old tells s (with_operation side (stream_at old s) operation) (keeps side) fits)
  where
    keeps : (side : Side) → KeepsKind (stream_at old s) (with_operation side (stream_at old s) operation)
    keeps Writing = record { kind = refl; payload = refl }
    keeps Reading = record { kind = refl; payload = refl }

delivered-kind : (side : Side) (stream : Stream) → KeepsKind stream (delivered side stream)
unfolding delivered
delivered-kind Writing stream = record { kind = refl; payload = refl }
delivered-kind Reading stream = record { kind = refl; payload = refl }

pub answers-fits : (side : Side) (old new : State) (s : ℕ) (report : Option ReturnCode) → tells_end old s side ≡ goes (replies.Event report) new → (tells : Tells) → Fits old tells → Fits new tells
answers-fits side old new s report e tells fits =
    subst (λ (x : State). Fits x tells) (ap (λ (r : Reaction). r.state) e) (Fits-stream old tells s (delivered side (stream_at old s)) (delivered-kind side (stream_at old s)) fits)

module _ (old mid new : State) (tells told : Tells) (s n : ℕ) (operation : Operation) where
  -- the turn of the host end across, for an operation on a side
  abbrev DoesTurn : Side → State → State → Answered → Type 0
  DoesTurn side before after result = Does before after tells told result (turn_for side s n operation)

  -- the whole read or write
  abbrev DoesWhole : Side → Answered → Type 0
  DoesWhole side result = Does old new tells told result (polls_for side s n operation)

  pub turn-answers : (side : Side) → mid ≡ opened_on side old s operation → (now : State) (result : Answered) → DoesTurn side mid now (Ok replies.Done) → Does now new told told result (λ w. answers_at w s side) → DoesWhole side result
  turn-answers Reading e now result turn answer =
      Does-read old now new tells told s n operation result
      (subst (λ (x : State). DoesTurn Reading x now (Ok replies.Done)) e turn) answer
  turn-answers Writing e now result turn answer =
      Does-write old now new tells told s n operation result
      (subst (λ (x : State). DoesTurn Writing x now (Ok replies.Done)) e turn) answer

  stops_with : (side : Side) (stop : Option Stop) → Does (opened_on side old s operation) new tells told (Err stop) (turn_for side s n operation) → DoesWhole side (Err stop)
  stops_with Reading stop turn = Does-read_stop old new tells told s n operation stop turn
  stops_with Writing stop turn = Does-write_stop old new tells told s n operation stop turn

  pub turn-stops : (side : Side) → mid ≡ opened_on side old s operation → (error : StoreError) → IsStop error → DoesTurn side mid new (call_answered (Err error)) → DoesWhole side (call_answered (Err error))
  turn-stops side e error stop turn =
      let same = stop_is error stop in
      subst (DoesWhole side) (sym same)
      (stops_with side (cause_of error)
      (subst (λ (x : State). DoesTurn side x new (Err (cause_of error))) e
      (subst (DoesTurn side mid new) same turn)))

-- memory had run out in the turn
pub turn-wants : (old mid : State) (tells told : Tells) (s n : ℕ) (operation : Operation) (side : Side) → mid ≡ opened_on side old s operation → RunsOutInPoll mid tells told (turn_for side s n operation)
    → RunsOutInPoll old tells told (polls_for side s n operation)
turn-wants old mid tells told s n operation side e w = record {
  end = w.end;
  more = w.more;
  fails = w.fails;
  state = w.state;
  does = turn-stops old mid w.state tells w.more s n operation side e (HostFailed w.end) tt w.does;
}

-- ## A read or write with a host end across

-- a read or write of the named end that nothing refuses, on stream s, whose other end host end n has
pub record IsAcross (state : State) (side : Side) (end : NamedEnd) (address count n s : ℕ) (operation : Operation) : Type 0 where
  pub untrapped : state.trapped ≡ false
  pub none : refusal state (operating side end address count) ≡ None
  pub stream : s ≡ stream_named (named state end)
  pub begins : operation ≡ begun_on end address count
  pub owner : (end_of (opposite side) (stream_at state s)).owner ≡ Host n

is_host_of : (owner : Owner) (n : ℕ) → owner ≡ Host n → is_host owner ≡ true
is_host_of owner n e = rw e refl

-- memory may run out in it
pub polls_there : (state : State) (side : Side) (end : NamedEnd) (address count n s : ℕ) (operation : Operation) → IsAcross state side end address count n s operation → may_poll (lone state) (operating side end address count) ≡ true
polls_there state side end address count n s operation h =
    ap (λ k. is_host (end_of (opposite side) (stream_at state k)).owner) (sym h.stream)
    ∙ is_host_of (end_of (opposite side) (stream_at state s)).owner n h.owner

-- host end n has the end across of stream s
abbrev HasAcross : World → Side → ℕ → ℕ → Type 0
HasAcross world side n s = (end_of (opposite side) (stream_at world.state s)).owner ≡ Host n

performs-polls : (side : Side) (world : World) (end : NamedEnd) (address count n s : ℕ) → s ≡ stream_named (named world.state end) → HasAcross world side n s → performs_in world (operating side end address count) ≡ polls_for side s n (begun_on end address count) world
unfolding performs_in
performs-polls Reading world end address count n s e o =
    ap (operates_by world Reading end address count) (ap (λ k. (stream_at world.state k).writer.owner) (sym e) ∙ o)
    ∙ ap (λ k. reads_from world k n (begun_on end address count)) (sym e)
performs-polls Writing world end address count n s e o =
    ap (operates_by world Writing end address count) (ap (λ k. (stream_at world.state k).reader.owner) (sym e) ∙ o)
    ∙ ap (λ k. writes_to world k n (begun_on end address count)) (sym e)

module _ (old new : State) (tells told : Tells) (side : Side) (end : NamedEnd) (address count n s : ℕ) (operation : Operation) (h : IsAcross old side end address count n s operation) where
  abbrev act : Act
  act = operating side end address count

  across : may_poll (lone old) act ≡ true
  across = polls_there old side end address count n s operation h

  polls : PerformsAs old tells act (polls_for side s n operation)
  polls logs =
      performs-polls side (world_of old tells logs) end address count n s h.stream h.owner
      ∙ ap (λ o. polls_for side s n o (world_of old tells logs)) (sym h.begins)

  may : MayBeDone old tells act
  may = record { untrapped = h.untrapped; none = λ logs. refusal_in-on_end (world_of old tells logs) side end (Operate address count) ∙ h.none }

  wants_across : RunsOutInPoll old tells told (polls_for side s n operation) → RunsOutIn old tells told act
  wants_across w =
      InAPoll (record {
        end = w.end;
        more = w.more;
        fails = w.fails;
        state = w.state;
        does = does_admitted old w.state tells w.more act (Err (Some (stops.HostFailed w.end))) (polls_for side s n operation) may polls w.does;
      })

  -- where memory had run out, it was so in the turn
  abbrev pub RunsOutTurn : {T : Type 0} → Result T StoreError → Type 0
  RunsOutTurn result = IfErr result (λ error. IfOutOfMemory error (RunsOutInPoll old tells told (polls_for side s n operation)))

  pub hosted_across : {T : Type 0} (f : T → Reply) (result : Result T StoreError) → Does old new tells told (call_answered (as_reply f result)) (polls_for side s n operation) → FitStill old new tells told → Halts result new → RunsOutTurn result → MeetsHosted old new tells told (as_reply f result) act
  hosted_across f result does fits halts wants =
      hosted_polled old new tells told act across f result
      (does_admitted old new tells told act (call_answered (as_reply f result)) (polls_for side s n operation) may polls does) may fits halts
      (out_of_memory_result result wants_across wants)

-- items that the writer holds are those that are held for the read
pub held_there : (state : State) (tells : Tells) (side : Side) (end : NamedEnd) (address count n s : ℕ) (operation : Operation) → IsAcross state side end address count n s operation → IsHandedOver state tells (operating side end address count) → (side ≡ Reading) × ((told_by tells n).holds ≢ [])
held_there state tells Writing end address count n s operation h held = absurd held
held_there state tells Reading end address count n s operation h held =
    let same : Host held.writer ≡ Host n = sym held.owner ∙ ap (λ k. (stream_at state k).writer.owner) (sym h.stream) ∙ h.owner in
    let number : held.writer ≡ n = cc in
    (refl, subst (λ k. (told_by tells k).holds ≢ []) number held.some)

-- where it is answered, no memory had run out
pub ok_wants_none : {T : Type 0} (result : Result T StoreError) → IsOk result → result ≢ Err OutOfMemory
ok_wants_none (Ok v) k = λ e. cc e
ok_wants_none (Err error) k = cc k

-- ## A read or write with no host end across

pub settled_code : (result : Result ReturnCode StoreError) → Settles (as_reply replies.Code result)
settled_code (Ok code) = refl
settled_code (Err error) = tt

pub operate-alone : (old : State) (side : Side) (end : NamedEnd) (address count s : ℕ) → s ≡ stream_named (named old end) → is_host (end_of (opposite side) (stream_at old s)).owner ≡ false → touches (lone old) (operating side end address count) ≡ false
operate-alone old side end address count s e none = ap (λ k. is_host (end_of (opposite side) (stream_at old k)).owner) (sym e) ∙ none
