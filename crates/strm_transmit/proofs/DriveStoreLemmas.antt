-- A drive round in a store: what is due of a stream, and the round as it passes from one served stream
-- to the next.
use Rattle.std.proofs.Common.{◌≡◌, ℕ, ◌+◌, ◌-◌, ◌<◌, ◌≤◌, Bool, true, false, cond, length, Option, Some, None, Result, Ok, Err, refl, sym, ap, subst, ◌∙◌, arith}
use Rattle.std.specs.Prelude.{not, ◌&&◌, IfErr}
use Rattle.strm_buffers.specs.Tells.{Tells}
use Rattle.strm_machine.specs.State.{State, stream_at, is_host}
use Rattle.strm_machine.specs.Hosting.{duty_of}
use Rattle.strm_machine.specs.Sides.{opposite, end_of}
use Rattle.strm_machine.specs.declared.acts.Act.TheVariants.{Drive}
use Rattle.strm_machine.specs.declared.replies.Reply.{Reply}
use Rattle.strm_machine.specs.declared.replies.Reply.TheVariants as replies
use Rattle.strm_machine.specs.declared.stops.Stop.TheVariants.{HostFailed}
use Rattle.strm_machine.specs.declared.streams.Duty.TheVariants.{Serves}
use Rattle.strm_machine.specs.declared.streams.Operation.{Operation}
use Rattle.strm_machine.specs.declared.streams.Owner.{Owner}
use Rattle.strm_machine.specs.declared.streams.Owner.TheVariants.{Held, Loose, Host, Gone}
use Rattle.strm_machine.specs.declared.streams.Side.{Side}
use Rattle.strm_machine.specs.declared.streams.Side.TheVariants.{Writing, Reading}
use Rattle.strm_machine.specs.declared.streams.Stream.{Stream}
use Rattle.strm_machine.proofs.HostLemmas.{host_number}
use Rattle.strm_host_machine.specs.World.{World, stream_in}
use Rattle.strm_host_machine.specs.Outcomes.{done}
use Rattle.strm_host_machine.specs.Piping.{fetches, pipe_round}
use Rattle.strm_host_machine.specs.Driving.{drive_turn, driven, round_of}
use Rattle.strm_host_machine.specs.Steps.{performs_in, outcome}
use Rattle.strm_host_machine.specs.Does.{Logs, world_of, Answered, Fits, Does}
use Rattle.strm_host_machine.proofs.DoesLemmas.{Does-then, Does-untold, Does-as}
use Rattle.strm_host_machine.proofs.OutcomeLemmas.{outcome-performs, refusal_in-drive}
use Rattle.strm_host_machine.proofs.DriveLemmas.{drive_turn-alone, drive_turn-due, waits_open, drive_turn-idle, drive_turn-due_write, drive_turn-idle_write, drive_turn-piped, drives_first, EndsDone, Does-drives_alone, Does-drives_one, Does-drives_stop}
use Rattle.strm_host_machine.proofs.FitsLemmas.{are_alone}
use Rattle.strm_transmit.specs.Meets.{as_reply}
use Rattle.strm_transmit.specs.Hosted.{call_answered, IsStop, MeetsHosted}
use Rattle.strm_transmit.specs.Inside.{AreServed}
use Rattle.strm_transmit.specs.Rounds.{ends_by, pipe_ends, IsPipe}
use Rattle.strm_transmit.specs.Turning.{turn_for, due_in, due_on, IsNextAmong, all_ends, NextServed}
use Rattle.strm_transmit.specs.OutOfMemory.{RunsOutInPoll, RunsOutBefore, RunsOutAt, InPoll, BeforeOffer, RunsOutInTurn, RunsOutInDrive, RunsOutIn, InAPoll, InADrive, IfOutOfMemory, up_to_offer}
use Rattle.strm_transmit.specs.declared.errors.StoreError.{StoreError}
use Rattle.strm_transmit.specs.declared.errors.StoreError.TheVariants as errors
use Rattle.strm_transmit.proofs.RoundLemmas.{ends_are}
use Rattle.strm_transmit.proofs.OutOfMemoryLemmas.{out_of_memory_result, poll_as}
use Rattle.strm_transmit.proofs.OperateLemmas.{Halts, FitStill, hosted_polled, cause_of, stop_is}

-- ## One stream

-- a host end and the operation that it has to serve, if there are both
abbrev pub Due : Type 0
Due = Option (ℕ × Operation)

abbrev is_due : Due → Bool
is_due None = false
is_due (Some due) = true

abbrev number_due : ℕ → Due → ℕ
number_due n None = n
number_due n (Some due) = due.0

abbrev operation_due : Operation → Due → Operation
operation_due operation None = operation
operation_due operation (Some due) = due.1

-- what is due of an operation that is open, and whose own end is no host end's
record OpenDue (host is_open : Bool) (n m : ℕ) (operation due : Operation) : Type 0 where
  pub unhosted : host ≡ false
  pub is_one : is_open ≡ true
  pub number : n ≡ m
  pub same : operation ≡ due

open_due : (host is_open : Bool) (n m : ℕ) (operation due : Operation) → ◌≡◌ {A = Due} (cond {A = Due} (not host && is_open) (Some (n, operation)) None) (Some (m, due)) → OpenDue host is_open n m operation due
open_due false true n m operation due e = record { unhosted = refl; is_one = refl; number = ap (number_due n) e; same = ap (operation_due operation) e }
open_due false false n m operation due e = let no : false ≡ true = ap is_due e in cc
open_due true is_open n m operation due e = let no : false ≡ true = ap is_due e in cc

none_due : (host is_open : Bool) (n : ℕ) (operation : Operation) → ◌≡◌ {A = Due} (cond {A = Due} (not host && is_open) (Some (n, operation)) None) None → host ≡ false → is_open ≡ false
none_due false true n operation e h = let no : true ≡ false = ap is_due e in cc
none_due false false n operation e h = refl
none_due true is_open n operation e h = cc

-- a stream of which something is due on a side
record IsDueOn (stream : Stream) (side : Side) (n : ℕ) (operation : Operation) : Type 0 where
  pub owner : (end_of (opposite side) stream).owner ≡ Host n
  pub unhosted : is_host (end_of side stream).owner ≡ false
  pub operation_is : (end_of side stream).operation ≡ Some operation
  pub is_open : operation.is_open ≡ true

due_by : (stream : Stream) (side : Side) (n : ℕ) (due : Operation) (across : Owner) (o : Option Operation) → (end_of (opposite side) stream).owner ≡ across → (end_of side stream).operation ≡ o → ◌≡◌ {A = Due} (due_in across (end_of side stream).owner o) (Some (n, due)) → IsDueOn stream side n due
due_by stream side n due (Host m) (Some operation) e f d =
    let k = open_due (is_host (end_of side stream).owner) operation.is_open m n operation due d in
    record {
      owner = e ∙ ap Host k.number;
      unhosted = k.unhosted;
      operation_is = f ∙ ap Some k.same;
      is_open = ap (λ (x : Operation). x.is_open) (sym k.same) ∙ k.is_one;
    }
due_by stream side n due (Host m) None e f d = let no : false ≡ true = ap is_due d in cc
due_by stream side n due (Held g h) o e f d = let no : false ≡ true = ap is_due d in cc
due_by stream side n due Loose o e f d = let no : false ≡ true = ap is_due d in cc
due_by stream side n due Gone o e f d = let no : false ≡ true = ap is_due d in cc

-- what is due of stream s on a side is the turn of that stream
pub due-turn : (side : Side) (state : State) (tells : Tells) (s n : ℕ) (operation : Operation) → ◌≡◌ {A = Due} (due_on side (stream_at state s)) (Some (n, operation)) → (logs : Logs) → drive_turn (world_of state tells logs) s ≡ turn_for side s n operation (world_of state tells logs)
due-turn Reading state tells s n read d logs =
    let stream = stream_at state s in
    let k = due_by stream Reading n read stream.writer.owner stream.reader.operation refl refl d in
    drive_turn-due (world_of state tells logs) s n read (record { owner = k.owner; unpiped = k.unhosted; read_is = k.operation_is; is_open = k.is_open })
due-turn Writing state tells s r write d logs =
    let stream = stream_at state s in
    let k = due_by stream Writing r write stream.reader.owner stream.writer.operation refl refl d in
    drive_turn-due_write (world_of state tells logs) s r write (record { owner = k.owner; unhosted = k.unhosted; write_is = k.operation_is; is_open = k.is_open })

-- where nothing is due of an operation whose own end is no host end's, it is not open
waits_not : (n : ℕ) (mine : Owner) (o : Option Operation) → ◌≡◌ {A = Due} (due_in (Host n) mine o) None → is_host mine ≡ false → waits_open o ≡ false
waits_not n mine None d u = refl
waits_not n mine (Some operation) d u = none_due (is_host mine) operation.is_open n operation d u

piped_some : (writer reader : Owner) (n r : ℕ) → writer ≡ Host n → reader ≡ Host r → ◌≡◌ {A = Option (ℕ × ℕ)} (ends_by writer reader) None → ⊥
piped_some writer reader n r e f h = let some : ◌≡◌ {A = Option (ℕ × ℕ)} (Some (n, r)) None = sym (ap (λ w. ends_by w reader) e ∙ ap (ends_by (Host n)) f) ∙ h in cc

module _ (world : World) (s : ℕ) where
  abbrev stream : Stream
  stream = stream_in world s

  -- no pipe, and nothing is due of it
  record IsIdle : Type 0 where
    pub unpiped : ◌≡◌ {A = Option (ℕ × ℕ)} (pipe_ends stream) None
    pub unread : ◌≡◌ {A = Due} (due_on Reading stream) None
    pub unwritten : ◌≡◌ {A = Due} (due_on Writing stream) None

  idle_by : (x y : Bool) → is_host stream.writer.owner ≡ x → is_host stream.reader.owner ≡ y → IsIdle → drive_turn world s ≡ done world
  idle_by true true e f h =
      let w = host_number stream.writer.owner e in
      let r = host_number stream.reader.owner f in
      absurd (piped_some stream.writer.owner stream.reader.owner w.0 r.0 w.1 r.1 h.unpiped)
  idle_by true false e f h =
      let w = host_number stream.writer.owner e in
      let due = subst (λ o. ◌≡◌ {A = Due} (due_in o stream.reader.owner stream.reader.operation) None) w.1 h.unread in
      drive_turn-idle world s (waits_not w.0 stream.reader.owner stream.reader.operation due f) f
  idle_by false true e f h =
      let r = host_number stream.reader.owner f in
      let due = subst (λ o. ◌≡◌ {A = Due} (due_in o stream.writer.owner stream.writer.operation) None) r.1 h.unwritten in
      drive_turn-idle_write world s r.0 r.1 e (waits_not r.0 stream.writer.owner stream.writer.operation due e)
  idle_by false false e f h = drive_turn-alone world s (record { writer = e; reader = f })

-- nothing is due on a side of stream s
abbrev pub NoneDue : State → ℕ → Side → Type 0
NoneDue state s side = ◌≡◌ {A = Due} (due_on side (stream_at state s)) None

pub idle-turn : (state : State) (tells : Tells) (s : ℕ) → ◌≡◌ {A = Option (ℕ × ℕ)} (pipe_ends (stream_at state s)) None → NoneDue state s Reading → NoneDue state s Writing
    → Does state state tells tells (Ok replies.Done) (λ w. drive_turn w s)
idle-turn state tells s p a b =
    Does-untold state state tells (Ok replies.Done) (λ w. drive_turn w s)
    (λ logs. idle_by (world_of state tells logs) s (is_host (stream_at state s).writer.owner) (is_host (stream_at state s).reader.owner) refl refl (record { unpiped = p; unread = a; unwritten = b })) tt

-- a pipe, which its host ends fit
pub is_pipe : (state : State) (tells : Tells) (s n r : ℕ) → s < length state.streams → ◌≡◌ {A = Option (ℕ × ℕ)} (pipe_ends (stream_at state s)) (Some (n, r)) → Fits state tells → IsPipe state tells s n r
is_pipe state tells s n r made e fits =
    let ends = ends_are (stream_at state s).writer.owner (stream_at state s).reader.owner n r e in
    record { made = made; writer = ends.0; reader = ends.1; fits = fits }

-- its round is the turn of its stream
pub piped-turn : (state : State) (tells : Tells) (s n r : ℕ) → ◌≡◌ {A = Option (ℕ × ℕ)} (pipe_ends (stream_at state s)) (Some (n, r)) → (logs : Logs)
    → drive_turn (world_of state tells logs) s ≡ pipe_round (world_of state tells logs) s n r
piped-turn state tells s n r e logs =
    let ends = ends_are (stream_at state s).writer.owner (stream_at state s).reader.owner n r e in
    drive_turn-piped (world_of state tells logs) s n r ends.0 ends.1

-- memory had run out in the turn of its host end
pub due-wants : (side : Side) (state : State) (tells told : Tells) (s n : ℕ) (operation : Operation) → ◌≡◌ {A = Due} (due_on side (stream_at state s)) (Some (n, operation)) → RunsOutInPoll state tells told (turn_for side s n operation) → RunsOutInTurn s state tells told
due-wants side state tells told s n operation e w =
    (0, 0, InPoll (poll_as state tells told (turn_for side s n operation) (λ v. drive_turn v s) (due-turn side state tells s n operation e) w))

-- or in the round of a pipe
pub piped-wants : (state : State) (tells told : Tells) (s n r : ℕ) → ◌≡◌ {A = Option (ℕ × ℕ)} (pipe_ends (stream_at state s)) (Some (n, r)) → RunsOutAt s n r state tells told (λ w. pipe_round w s n r) (λ w. fetches w s n r) → RunsOutInTurn s state tells told
piped-wants state tells told s n r e (InPoll w) =
    (n, r, InPoll (poll_as state tells told (λ v. pipe_round v s n r) (λ v. drive_turn v s) (piped-turn state tells s n r e) w))
piped-wants state tells told s n r e (BeforeOffer b) = (n, r, BeforeOffer b)

-- ## The round

module _ (old now : State) (tells told : Tells) (h : AreServed now.producers now.consumers now.streams) (next : ℕ) (d : Does old now tells told (Ok replies.Done) (drives_first next)) where
  -- the streams before the next one that is served
  passed : (s : ℕ) → next ≤ s → ((side : Side) (n k : ℕ) → duty_of side now n ≡ Serves k → next ≤ k → k < s → ⊥) → Does old now tells told (Ok replies.Done) (drives_first s)
  passed s l none =
      let sum : next + (s - next) ≡ s = omega (arith, l) in
      subst (λ k. Does old now tells told (Ok replies.Done) (drives_first k)) sum
      (Does-drives_alone old now tells told next (s - next) d
      (λ logs. are_alone now told logs next (s - next) h.serves (λ side n t e a b. none side n t e a (omega (arith, b, sum)))))

  -- before an offer along stream s, which is the next one that is served
  before_offer : (after : Tells) (s n r : ℕ) → IsNextAmong now all_ends next s → RunsOutBefore s n r now told after (λ w. fetches w s n r) → RunsOutBefore s n r old tells after (up_to_offer s n r)
  before_offer after s n r served b = record {
    state = b.state;
    does = Does-then old now b.state tells told after replies.Done (Ok replies.Done) (drives_first s) (λ w. fetches w s n r)
        (passed s served.behind (λ side m k f a c. let far = served.least side m k tt f a in omega (arith, far, c))) b.does;
    holds = b.holds;
  }

  -- a stream more
  pub drive_on : (new : State) (after : Tells) (s : ℕ) (result : Answered) → IsNextAmong now all_ends next s → EndsDone result → Does now new told after result (λ w. drive_turn w s) → Does old new tells after result (drives_first (s + 1))
  drive_on new after s result served e t =
      Does-drives_one old now new tells told after s result e
      (passed s served.behind (λ side n k f a b. let far = served.least side n k tt f a in omega (arith, far, b))) t

  -- the rest of the round, of which no stream is served
  pub drive_end : (total : ℕ) → next ≤ total → NextServed now next None → Does old now tells told (Ok replies.Done) (drives_first total)
  drive_end total l none = passed total l (λ side n k f a b. none side n k tt f a)

-- an error of a turn stops the round
pub ends_stop : (error : StoreError) → IsStop error → EndsDone (call_answered (Err error))
ends_stop error s = subst EndsDone (sym (stop_is error s)) tt

drive-is : (world : World) → world.state.trapped ≡ false → outcome world Drive ≡ driven world (round_of world)
unfolding performs_in
drive-is world t = outcome-performs world Drive t (refusal_in-drive world)

module _ (old new : State) (tells told : Tells) where
  pub drive_stop : (n total : ℕ) (error : StoreError) → IsStop error → n ≤ total → Does old new tells told (call_answered (Err error)) (drives_first n) → Does old new tells told (call_answered (Err error)) (drives_first total)
  drive_stop n total error s l d =
      let sum : n + (total - n) ≡ total = omega (arith, l) in
      let same = stop_is error s in
      subst (λ (x : Answered). Does old new tells told x (drives_first total)) (sym same)
      (subst (λ k. Does old new tells told (Err (cause_of error)) (drives_first k)) sum
      (Does-drives_stop old new tells told n (total - n) (cause_of error)
      (subst (λ (x : Answered). Does old new tells told x (drives_first n)) same d)))

  -- the streams that were made are the round
  pub drive_round : (result : Answered) → Does old new tells told result (drives_first (length old.streams)) → Does old new tells told result (λ w. driven w (round_of w))
  drive_round result d =
      Does-as old new tells told result (drives_first (length old.streams)) (λ w. driven w (round_of w)) (λ logs. refl) d

  drive-wants : old.trapped ≡ false → RunsOutInDrive old tells told → RunsOutIn old tells told Drive
  drive-wants t (s, n, r, InPoll w) =
      InAPoll (poll_as old tells told (λ w. driven w (round_of w)) (λ w. outcome w Drive) (λ logs. drive-is (world_of old tells logs) t) w)
  drive-wants t (s, n, r, BeforeOffer b) = InADrive s n r refl b

  abbrev pub RunsOutDriven : {T : Type 0} → Result T StoreError → Type 0
  RunsOutDriven result = IfErr result (λ error. IfOutOfMemory error (RunsOutInDrive old tells told))

  -- it went round as the machine does
  abbrev pub DroveSo : Result Reply StoreError → Type 0
  DroveSo result = Does old new tells told (call_answered result) (λ w. driven w (round_of w))

  pub hosted_drive : {T : Type 0} (f : T → Reply) (result : Result T StoreError) → old.trapped ≡ false → DroveSo (as_reply f result) → FitStill old new tells told → Halts result new → RunsOutDriven result → MeetsHosted old new tells told (as_reply f result) Drive
  hosted_drive f result t does fits halts wants =
      hosted_polled old new tells told Drive refl f result
      (Does-as old new tells told (call_answered (as_reply f result)) (λ w. driven w (round_of w)) (λ w. outcome w Drive) (λ logs. drive-is (world_of old tells logs) t) does)
      (record { untrapped = t; none = λ logs. refusal_in-drive (world_of old tells logs) }) fits halts
      (out_of_memory_result result (drive-wants t) wants)

module _ (old now : State) (tells told after : Tells) (h : AreServed now.producers now.consumers now.streams) (next : ℕ) (d : Does old now tells told (Ok replies.Done) (drives_first next)) (s : ℕ) (served : IsNextAmong now all_ends next s) where
  -- memory had run out in the turn of stream s, which is the next one that is served
  pub drive_wants : s + 1 ≤ length old.streams → RunsOutInTurn s now told after → RunsOutInDrive old tells after
  drive_wants made (n, r, InPoll w) = (
    s,
    n,
    r,
    InPoll (record {
      end = w.end;
      more = w.more;
      fails = w.fails;
      state = w.state;
      does = drive_round old w.state tells w.more (Err (Some (HostFailed w.end)))
          (drive_stop old w.state tells w.more (s + 1) (length old.streams) (errors.HostFailed w.end) tt made
          (drive_on old now tells told h next d w.state w.more s (Err (Some (HostFailed w.end))) served tt w.does));
    }),
  )
  drive_wants made (n, r, BeforeOffer b) =
      (s, n, r, BeforeOffer (before_offer old now tells told h next d after s n r served b))
