-- What a moment of a run is, by what it does to the world: one of few forms.
use Rattle.std.proofs.Common.{◌≡◌, ℕ, Bool, true, false, List, length, Option, Some, None, refl, sym, ◌∙◌, ◌⊎◌, inl, inr, arith}
use Rattle.std.proofs.lemmas.Bool.{cond_both}
use Rattle.strm_codes.specs.declared.codes.ReturnCode.{ReturnCode}
use Rattle.strm_codes.specs.declared.refusals.Refusal.{Refusal}
use Rattle.strm_machine.specs.State.{no_consumer, is_host}
use Rattle.strm_machine.specs.declared.streams.Duty.TheVariants.{Serves}
use Rattle.strm_machine.specs.Sides.{opposite, end_of, with_operation}
use Rattle.strm_machine.specs.Meetings.{begun as begun_operation}
use Rattle.strm_machine.specs.Endings.{report_on, delivered}
use Rattle.strm_machine.specs.Tests.{named, stream_named, items_asked}
use Rattle.strm_machine.specs.Reactions.{reaction}
use Rattle.strm_machine.specs.declared.acts.Act.{Act}
use Rattle.strm_machine.specs.declared.acts.Act.TheVariants.{OnEnd, OnHost}
use Rattle.strm_machine.specs.declared.acts.EndAct.TheVariants.{Operate}
use Rattle.strm_machine.specs.declared.acts.HostAct.{HostAct}
use Rattle.strm_machine.specs.declared.acts.HostAct.TheVariants.{New, Feed, Pipe, Grant}
use Rattle.strm_machine.specs.declared.acts.NamedEnd.{NamedEnd}
use Rattle.strm_machine.specs.declared.streams.Owner.{Owner}
use Rattle.strm_machine.specs.declared.streams.Owner.TheVariants.{Host, Gone}
use Rattle.strm_machine.specs.declared.streams.Operation.{Operation}
use Rattle.strm_machine.specs.declared.streams.Side.{Side}
use Rattle.strm_machine.specs.declared.streams.Side.TheVariants.{Writing, Reading}
use Rattle.strm_machine.specs.declared.replies.Reply.{Reply}
use Rattle.strm_machine.specs.declared.replies.Reply.TheVariants as replies
use Rattle.strm_host_machine.specs.Ends.{fed_writer, granted_reader}
use Rattle.strm_host_machine.specs.World.{World, stream_in, writer_at, reader_at, with_consumer, with_writer, with_reader, with_stream_in}
use Rattle.strm_host_machine.specs.Outcomes.{Outcome, Goes, Stops, Stuck, then_on, of_reply}
use Rattle.strm_host_machine.specs.Settling.{answered_with, turn_answered}
use Rattle.strm_host_machine.specs.WriterTurn.{writer_turn}
use Rattle.strm_host_machine.specs.ReaderTurn.{reader_turn}
use Rattle.strm_host_machine.specs.Attaching.{hosts_new, piped, is_dry, without_ends, pipes, forsaken, forsakes}
use Rattle.strm_host_machine.specs.Driving.{if_open, driven_by, drive_turn}
use Rattle.strm_host_machine.proofs.TouchLemmas.{names_none, touch-by}
use Rattle.strm_host_machine.specs.HostRefusals.{refusal_in}
use Rattle.strm_host_machine.specs.Steps.{reacts, reads_from, writes_to, operates_by, drops_in, on_host, performs_by, performs_in, unless_refused_in, outcome}
use Rattle.strm_host_machine.proofs.OutcomeLemmas.{refusal_in-on_end}
use Rattle.strm_host_laws.specs.HostMoments.{Part, Acts, Turns, part_on}
use Rattle.strm_host_laws.proofs.Chains.{is_part}
use Rattle.strm_host_laws.proofs.GoingRules.{with_state, hosted, piped_to, IfGoes}
use Rattle.strm_host_laws.proofs.TurnsStand.{Holds}
use Rattle.strm_host_laws.proofs.Standing.{Begun, call_begun}
use Rattle.strm_host_machine.specs.Piping.{pipe_round}
use Rattle.strm_host_laws.proofs.Rounds.{Passed, HasPassed, round_is}
use Rattle.strm_host_laws.proofs.Turned.{Turned, turn_is, Taken, taking_is}
use Rattle.strm_machine.proofs.HostLemmas.{serving_known, host_number}

-- a stream of a host writer is made, and its number answered
abbrev pub is_making : Part → Reply → Bool
is_making (Acts (OnHost host New)) (replies.Number n) = true
is_making part reply = false

-- a read or write that is called
abbrev pub called : NamedEnd → ℕ → ℕ → Operation
called end address count = begun_operation end.guest address (items_asked end.ty count)

-- it opens on stream s
abbrev pub opened : Side → World → ℕ → Operation → World
opened side w s operation = with_stream_in w s (with_operation side (stream_in w s) operation)

-- the world after the machine did this without host ends
abbrev pub reacted_to : World → Act → World
reacted_to w act = with_state w (reaction w.state act).state

-- the stream that a handle names
abbrev pub stream_of : World → NamedEnd → ℕ
stream_of w end = stream_named (named w.state end)

-- the host end on the other side has its turn for the operation on a side of stream s
abbrev pub HasTurned : Side → World → ℕ → ℕ → Operation → World → Type 0
HasTurned Reading w s n operation v = Turned w s n operation v
HasTurned Writing w s n operation v = Taken w s n operation v

-- it has it in a drive round, for an open read or write
pub record IsTurn (side : Side) (w : World) (part : Part) (v : World) (s n : ℕ) (operation : Operation) : Type 0 where
  pub part_is : part ≡ Turns s
  pub owner : (end_of (opposite side) (stream_in w s)).owner ≡ Host n
  pub operation_is : (end_of side (stream_in w s)).operation ≡ Some operation
  pub is_open : operation.is_open ≡ true
  pub turned : HasTurned side w s n operation v

-- it has its round in a drive round, where both its ends are host ends
pub record IsRound (w : World) (part : Part) (v : World) (s n r : ℕ) : Type 0 where
  pub part_is : part ≡ Turns s
  pub wrote : (stream_in w s).writer.owner ≡ Host n
  pub read : (stream_in w s).reader.owner ≡ Host r
  pub passed : Passed w s n r v

-- a read or write is called, for which the host end has its turn, and whose report is told
pub record IsCall (side : Side) (w : World) (part : Part) (v : World) (end : NamedEnd) (address count n : ℕ) : Type 0 where
  pub part_is : part ≡ Acts (OnEnd side end (Operate address count))
  pub begun : Begun side w.state end address count
  pub owner : (end_of (opposite side) (stream_in w (stream_of w end))).owner ≡ Host n
  pub mid : World
  pub turned : HasTurned side (opened side w (stream_of w end) (called end address count)) (stream_of w end) n (called end address count) mid
  pub told : (v ≡ mid) ⊎ (v ≡ with_stream_in mid (stream_of w end) (delivered side (stream_in mid (stream_of w end))))

-- the end on a side is dropped, and the host end on the other side goes with it
pub record IsForsaking (w : World) (v : World) (act : Act) (side : Side) (s n : ℕ) : Type 0 where
  pub owner : (end_of (opposite side) (stream_in w s)).owner ≡ Host n
  pub is : v ≡ with_stream_in (reacted_to w act) s (forsaken side (stream_in (reacted_to w act) s))

-- a loose read end goes to host reader r; where nothing comes any more, both ends are gone at once
pub record IsPiping (w : World) (v : World) (s r : ℕ) : Type 0 where
  pub unrefused : refusal_in w (OnHost r (Pipe s)) ≡ None
  pub is : (v ≡ piped_to w s r) ⊎ (v ≡ with_stream_in (piped_to w s r) s (without_ends (piped (stream_in w s) r)))
  pub dry : (v ≡ piped_to w s r) ⊎ (is_dry w (stream_in w s).writer.owner ≡ true)

pub data Form (w : World) (part : Part) (reply : Reply) (v : World) : Type 0 where
  BySame : is_making part reply ≡ false → v ≡ w → Form w part reply v
  ByReacting : (act : Act) → is_making part reply ≡ false → v ≡ reacted_to w act → Form w part reply v
  ByForsaking : (act : Act) (side : Side) (s n : ℕ) → is_making part reply ≡ false → IsForsaking w v act side s n → Form w part reply v
  ByHosting : (n : ℕ) → part ≡ Acts (OnHost n New) → reply ≡ replies.Number (length w.state.streams) → refusal_in w (OnHost n New) ≡ None → v ≡ hosted w n → Form w part reply v
  ByFeeding : (n : ℕ) (bytes : List ℕ) → is_making part reply ≡ false → v ≡ with_writer w n (fed_writer (writer_at w n) bytes) → Form w part reply v
  ByGranting : (r count : ℕ) → is_making part reply ≡ false → v ≡ with_reader w r (granted_reader (reader_at w r) count) → Form w part reply v
  ByPiping : (s r : ℕ) → is_making part reply ≡ false → IsPiping w v s r → Form w part reply v
  ByTurning : (side : Side) (s n : ℕ) (operation : Operation) → is_making part reply ≡ false → IsTurn side w part v s n operation → Form w part reply v
  ByPassing : (s n r : ℕ) → is_making part reply ≡ false → IsRound w part v s n r → Form w part reply v
  ByCalling : (side : Side) (end : NamedEnd) (address count n : ℕ) → is_making part reply ≡ false → IsCall side w part v end address count n → Form w part reply v

-- an act that makes no stream of a host writer, whatever its reply
abbrev MakesNone : Act → Type 0
MakesNone act = (reply : Reply) → is_making (Acts act) reply ≡ false

module _ (w : World) (h : Holds w.state) where
  -- what comes of a part has a form
  abbrev Formed : Part → Outcome → Type 0
  Formed part o = IfGoes o (Form w part)

  replied-formed : (act : Act) (reply : Reply) → MakesNone act → Formed (Acts act) (of_reply reply (reacted_to w act))
  replied-formed act (replies.BadItem stream) m = tt
  replied-formed act replies.StoreTrapped m = tt
  replied-formed act reply m = ByReacting act (m _) refl

  reacts-formed : (act : Act) → MakesNone act → Formed (Acts act) (reacts w act)
  reacts-formed act m = replied-formed act (reaction w.state act).reply m

  forsaken-formed : (act : Act) (side : Side) (s n : ℕ) (reply : Reply) → MakesNone act → (end_of (opposite side) (stream_in w s)).owner ≡ Host n → Formed (Acts act) (forsakes (of_reply reply (reacted_to w act)) s side)
  forsaken-formed act side s n (replies.BadItem stream) m e = tt
  forsaken-formed act side s n replies.StoreTrapped m e = tt
  forsaken-formed act side s n reply m e = ByForsaking act side s n (m _) (record { owner = e; is = refl })

  drops-formed : (s : ℕ) (side : Side) (act : Act) → MakesNone act → Formed (Acts act) (drops_in w s side act)
  drops-formed s side act m =
      cond_both (is_host (end_of (opposite side) (stream_in w s)).owner) _ _ (Formed (Acts act))
      (λ e. let who = host_number (end_of (opposite side) (stream_in w s)).owner e in forsaken-formed act side s who.0 (reaction w.state act).reply m who.1)
      (λ e. reacts-formed act m)

  -- A TURN IN A DRIVE ROUND

  -- each of these turns that goes on is one of host end n at stream s
  abbrev AllTurn : ℕ → ℕ → Side → (Operation → Outcome) → Type 0
  AllTurn s n side turn = (operation : Operation) → IfGoes (turn operation) (λ reply v. HasTurned side w s n operation v)

  open-formed : (s n : ℕ) (side : Side) (o : Option Operation) (turn : Operation → Outcome) → AllTurn s n side turn → (end_of (opposite side) (stream_in w s)).owner ≡ Host n → (end_of side (stream_in w s)).operation ≡ o
      → Formed (Turns s) (if_open w o turn)
  open-formed s n side None turn h e f = BySame refl refl
  open-formed s n side (Some operation) turn h e f =
      cond_both operation.is_open _ _ (Formed (Turns s))
      (λ g. by (turn operation) (h operation) g)
      (λ g. BySame refl refl)
    where
      by : (o : Outcome) → IfGoes o (λ reply v. HasTurned side w s n operation v) → operation.is_open ≡ true → IfGoes o (Form w (Turns s))
      by (Goes reply v) t g = ByTurning side s n operation refl (record { part_is = refl; owner = e; operation_is = f; is_open = g; turned = t })
      by (Stops stop writers readers) t g = tt
      by Stuck t g = tt

  round-formed : (s n r : ℕ) → (stream_in w s).writer.owner ≡ Host n → (stream_in w s).reader.owner ≡ Host r → Formed (Turns s) (pipe_round w s n r)
  round-formed s n r e f =
      let known = serving_known w.state Writing n s h.hosts ((h.hosts.serve Writing n s).serves e) in
      let all = h.hosts.all_kept in
      by (pipe_round w s n r) (round_is w s n r (omega (arith, known, all)))
    where
      by : (o : Outcome) → IfGoes o (HasPassed w s n r) → Formed (Turns s) o
      by (Goes reply v) p = ByPassing s n r refl (record { part_is = refl; wrote = e; read = f; passed = p.0 })
      by (Stops stop writers readers) p = tt
      by Stuck p = tt

  driven-formed : (s : ℕ) (writer reader : Owner) → (stream_in w s).writer.owner ≡ writer → (stream_in w s).reader.owner ≡ reader → Formed (Turns s) (driven_by w s (stream_in w s) writer reader)
  driven-formed s (Host n) (Host r) e f = round-formed s n r e f
  driven-formed s (Host n) _ e f = open-formed s n Reading (stream_in w s).reader.operation (writer_turn w s n) (λ read. turn_is w s n read) e refl
  driven-formed s _ (Host r) e f = open-formed s r Writing (stream_in w s).writer.operation (reader_turn w s r) (λ write. taking_is w s r write) f refl
  driven-formed s _ _ e f = BySame refl refl

  drive-formed : (s : ℕ) → Formed (Turns s) (drive_turn w s)
  unfolding drive_turn
  drive-formed s = driven-formed s (stream_in w s).writer.owner (stream_in w s).reader.owner refl refl

  -- A READ OR WRITE

  module _ (side : Side) (end : NamedEnd) (address count n : ℕ) (o : Begun side w.state end address count) (e : (end_of (opposite side) (stream_in w (stream_of w end))).owner ≡ Host n) where
    abbrev calling : Part
    calling = Acts (OnEnd side end (Operate address count))

    abbrev here : ℕ
    here = stream_of w end

    abbrev open_world : World
    open_world = opened side w here (called end address count)

    answers-formed : (u : World) (report : Option ReturnCode) → HasTurned side open_world here n (called end address count) u → Formed calling (answered_with u here side report)
    answers-formed u (Some code) t = ByCalling side end address count n refl (record { part_is = refl; begun = o; owner = e; mid = u; turned = t; told = inr refl })
    answers-formed u None t = ByCalling side end address count n refl (record { part_is = refl; begun = o; owner = e; mid = u; turned = t; told = inl refl })

    then-formed : (x : Outcome) → IfGoes x (λ reply u. HasTurned side open_world here n (called end address count) u) → Formed calling (then_on x (λ after. turn_answered after here side))
    then-formed (Goes reply u) t = answers-formed u (report_on side (stream_in u here)) t
    then-formed (Stops stop writers readers) t = tt
    then-formed Stuck t = tt

  reads-formed : (end : NamedEnd) (address count n : ℕ) → Begun Reading w.state end address count → (stream_in w (stream_of w end)).writer.owner ≡ Host n → Formed (Acts (OnEnd Reading end (Operate address count))) (reads_from w (stream_of w end) n (called end address count))
  reads-formed end address count n o e =
      let v = opened Reading w (stream_of w end) (called end address count) in
      then-formed Reading end address count n o e (writer_turn v (stream_of w end) n (called end address count)) (turn_is v (stream_of w end) n (called end address count))

  writes-formed : (end : NamedEnd) (address count r : ℕ) → Begun Writing w.state end address count → (stream_in w (stream_of w end)).reader.owner ≡ Host r → Formed (Acts (OnEnd Writing end (Operate address count))) (writes_to w (stream_of w end) r (called end address count))
  writes-formed end address count r o e =
      let v = opened Writing w (stream_of w end) (called end address count) in
      then-formed Writing end address count r o e (reader_turn v (stream_of w end) r (called end address count)) (taking_is v (stream_of w end) r (called end address count))

  -- a read or write at an end
  module _ (end : NamedEnd) (address count : ℕ) where
    abbrev call : Side → Act
    call side = OnEnd side end (Operate address count)

    begins : (side : Side) → refusal_in w (call side) ≡ None → Begun side w.state end address count
    begins side r = call_begun side w.state end address count h.sound (sym (refusal_in-on_end w side end (Operate address count)) ∙ r)

    operates-formed : (side : Side) (owner : Owner) → refusal_in w (call side) ≡ None → (end_of (opposite side) (stream_in w (stream_of w end))).owner ≡ owner → Formed (Acts (call side)) (operates_by w side end address count owner)
    operates-formed Reading (Host n) r e = reads-formed end address count n (begins Reading r) e
    operates-formed Writing (Host n) r e = writes-formed end address count n (begins Writing r) e
    operates-formed side _ r e = reacts-formed (call side) (λ reply. refl)

  -- A STEP

  hosts-formed : (n : ℕ) → refusal_in w (OnHost n New) ≡ None → Formed (Acts (OnHost n New)) (hosts_new w n)
  unfolding hosts_new
  hosts-formed n e = ByHosting n refl refl e refl

  pipes-formed : (s r : ℕ) → refusal_in w (OnHost r (Pipe s)) ≡ None → Formed (Acts (OnHost r (Pipe s))) (pipes w s r)
  unfolding pipes
  pipes-formed s r e =
      let v = with_consumer w r (record no_consumer { duty = Serves s }) in
      let stream = piped (stream_in w s) r in
      let after = with_stream_in v s stream in
      ByPiping s r refl
      (cond_both (is_dry v stream.writer.owner) (with_stream_in after s (without_ends stream)) after (λ x. IsPiping w x s r)
      (λ dry. record { unrefused = e; is = inr refl; dry = inr (dry_as (stream_in w s).writer.owner dry) })
      (λ wet. record { unrefused = e; is = inl refl; dry = inl refl }))
    where
      dry_as : (owner : Owner) → is_dry (with_consumer w r (record no_consumer { duty = Serves s })) owner ≡ true → is_dry w owner ≡ true
      dry_as (Host n) e = e
      dry_as Gone e = e
      dry_as _ e = e

  makes_none : (act : Act) → names_none act ≡ true → MakesNone act
  makes_none (OnHost n act) e = cc
  makes_none _ e = λ reply. refl

  on_host-formed : (n : ℕ) (act : HostAct) → refusal_in w (OnHost n act) ≡ None → Formed (Acts (OnHost n act)) (on_host w n act)
  on_host-formed n New e = hosts-formed n e
  on_host-formed n (Feed bytes) e = ByFeeding n bytes refl refl
  on_host-formed r (Pipe s) e = pipes-formed s r e
  on_host-formed r (Grant count) e = ByGranting r count refl refl

  performs-formed : (act : Act) → is_part (Acts act) ≡ true → refusal_in w act ≡ None → Formed (Acts act) (performs_in w act)
  unfolding performs_in
  performs-formed =
      touch-by (λ act touch. is_part (Acts act) ≡ true → refusal_in w act ≡ None → Formed (Acts act) (performs_by w act touch)) w.state
      (record {
        operated = λ side end address count p e. operates-formed end address count side _ e refl;
        dropped = λ act s side d p e. drops-formed s side act (makes_none act d.hostless);
        hosted = λ n act p e. on_host-formed n act e;
        driven = λ p e. cc;
        alone = λ act n p e. reacts-formed act (makes_none act n);
      })

  refused_none : (act : Act) (r : Refusal) → is_making (Acts act) (replies.Refused r) ≡ false
  refused_none (OnHost n New) r = refl
  refused_none (OnHost n (Feed bytes)) r = refl
  refused_none (OnHost n (Pipe s)) r = refl
  refused_none (OnHost n (Grant count)) r = refl
  refused_none _ r = refl

  unless-formed : (act : Act) (o : Option Refusal) → is_part (Acts act) ≡ true → refusal_in w act ≡ o → Formed (Acts act) (unless_refused_in w act o)
  unless-formed act (Some r) p e = BySame (refused_none act r) refl
  unless-formed act None p e = performs-formed act p e

  outcome-formed : (act : Act) → is_part (Acts act) ≡ true → Formed (Acts act) (outcome w act)
  unfolding outcome
  outcome-formed act p =
      cond_both w.state.trapped _ _ (Formed (Acts act)) (λ t. tt) (λ t. unless-formed act (refusal_in w act) p refl)

  pub part-formed : (part : Part) → is_part part ≡ true → IfGoes (part_on w part) (Form w part)
  part-formed (Acts act) p = outcome-formed act p
  part-formed (Turns s) p = drive-formed s
