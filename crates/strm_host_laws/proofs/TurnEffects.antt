-- A turn in a drive round, what the machine does without host ends, and a read or write that a host end answers do
-- to the state one of the few ways.
use Rattle.std.proofs.Common.{◌≡◌, ℕ, ◌<◌, false, [], length, get_or, set, Option, Some, None, refl, sym, ap, subst, ◌∙◌, inl, inr, arith}
use Rattle.std.proofs.lemmas.Bool.{cond_both}
use Rattle.std.proofs.lemmas.List.{get_or-set_other, length-set}
use Rattle.strm_codes.specs.declared.codes.ReturnCode.{ReturnCode}
use Rattle.strm_machine.specs.State.{State, no_producer, no_consumer, no_stream, stream_at}
use Rattle.strm_machine.specs.Hosting.{duty_of, HostsHold}
use Rattle.strm_machine.specs.Sides.{opposite, end_of, with_operation}
use Rattle.strm_machine.specs.Meetings.{begun}
use Rattle.strm_machine.specs.Endings.{report_on, delivered}
use Rattle.strm_machine.specs.Tests.{named, stream_named, items_asked}
use Rattle.strm_machine.specs.Refusals.{refusal}
use Rattle.strm_machine.specs.Reactions.{with_stream_at, reaction}
use Rattle.strm_machine.specs.declared.acts.Act.{Act}
use Rattle.strm_machine.specs.declared.acts.Act.TheVariants.{OnEnd}
use Rattle.strm_machine.specs.declared.acts.EndAct.TheVariants.{Operate}
use Rattle.strm_machine.specs.declared.acts.NamedEnd.{NamedEnd}
use Rattle.strm_machine.specs.declared.streams.Owner.{Owner}
use Rattle.strm_machine.specs.declared.streams.Owner.TheVariants.{Host}
use Rattle.strm_machine.specs.declared.streams.Operation.{Operation}
use Rattle.strm_machine.specs.declared.streams.Side.{Side}
use Rattle.strm_machine.specs.declared.streams.Side.TheVariants.{Writing, Reading}
use Rattle.strm_machine.specs.declared.streams.Producer.{Producer}
use Rattle.strm_machine.specs.declared.streams.Consumer.{Consumer}
use Rattle.strm_machine.specs.declared.streams.Stream.{Stream}
use Rattle.strm_machine.specs.declared.replies.Reply.{Reply}
use Rattle.strm_machine.specs.declared.replies.Reply.TheVariants as replies
use Rattle.strm_host_machine.specs.World.{World, stream_in, with_stream_in}
use Rattle.strm_host_machine.specs.Outcomes.{Outcome, Goes, Stops, Stuck, then_on, of_reply}
use Rattle.strm_host_machine.specs.Settling.{with_some_received, answered_with, turn_answered}
use Rattle.strm_host_machine.specs.WriterTurn.{writer_turn}
use Rattle.strm_host_machine.specs.ReaderTurn.{reader_turn}
use Rattle.strm_host_machine.specs.Attaching.{without_ends}
use Rattle.strm_host_machine.specs.Piping.{both_gone, pipe_round}
use Rattle.strm_host_machine.specs.Driving.{if_open, driven_by, drive_turn}
use Rattle.strm_host_machine.specs.Steps.{reacts, reads_from, writes_to, operates_by}
use Rattle.strm_host_machine.proofs.SettleLemmas.{delivered-owners, code_told as code_answered, told-nothing}
use Rattle.strm_host_laws.specs.HostMoments.{Part, Acts, Turns}
use Rattle.strm_host_laws.proofs.GoingRules.{with_state, IfGoes, some_received-by, written-streams}
use Rattle.strm_host_laws.proofs.Rounds.{between, Passed, HasPassed, round_is}
use Rattle.strm_machine.proofs.TableLemmas.{OwnersStay, with_end-owners, set-keeps}
use Rattle.strm_host_laws.proofs.HostTurns.{known_on, SameDuties, Turned, Going, TurnsDone, turn_done, taking_done, with_stream_in-both, with_stream_in-kept}
use Rattle.strm_machine.proofs.HostLemmas.{serving_known}
use Rattle.strm_host_laws.proofs.Effects.{opened_by, both_over, Passes, is_idle, ByReaction, ByRest, ByDriving, ByPassing, ByCalling, EffectIn, Going_maps}

-- ## A turn in a drive round

-- the stream of a pipe after its round has the owners that it had
some_received-owners : (stream : Stream) (n : ℕ) → OwnersStay stream (with_some_received stream n)
some_received-owners stream n = some_received-by (OwnersStay stream) stream n (record { writer = refl; reader = refl }) (record { writer = refl; reader = refl })

module _ (w v : World) (s n r : ℕ) (p : Passed w s n r v) where
  abbrev passed : Stream
  passed = with_some_received (stream_in w s) p.count

  abbrev between_them : World
  between_them = between w n r p.producer p.kept p.consumer p.writer p.reader

  -- the state before the pipe may end
  abbrev mid_state : State
  mid_state = with_stream_at between_them.state s passed

  mid_state_is : p.mid.state ≡ mid_state
  mid_state_is =
      ap (λ (x : World). x.state) p.mid_is
      ∙ ap (λ x. (with_stream_in x s passed).state) p.but_is
      ∙ with_stream_in-kept between_them s passed (some_received-owners (stream_in w s) p.count)

  passed_duties : SameDuties w.state mid_state
  passed_duties = record { all = all; same = same }
    where
      all : (k : Side) → known_on k mid_state ≡ known_on k w.state
      all Writing = length-set w.state.producers n p.producer
      all Reading = length-set w.state.consumers r p.consumer

      same : (k : Side) (m : ℕ) → duty_of k mid_state m ≡ duty_of k w.state m
      same Writing m = set-keeps (λ (x : Producer). x.duty) w.state.producers n m p.producer no_producer p.duty
      same Reading m = set-keeps (λ (x : Consumer). x.duty) w.state.consumers r m p.consumer no_consumer p.serves

  -- both ends go
  module _ (wrote : (stream_in w s).writer.owner ≡ Host n) (read : (stream_in w s).reader.owner ≡ Host r) where
    owners_then : OwnersStay (stream_in w s) (stream_at mid_state s)
    owners_then = record {
      writer = set-keeps (λ (x : Stream). x.writer.owner) w.state.streams s s passed no_stream (some_received-owners (stream_in w s) p.count).writer;
      reader = set-keeps (λ (x : Stream). x.reader.owner) w.state.streams s s passed no_stream (some_received-owners (stream_in w s) p.count).reader;
    }

    over_state : (both_gone p.mid s n).state ≡ both_over mid_state s n r
    over_state =
        let gone = without_ends (stream_in p.mid s) in
        ap (λ (x : State). record x { kept = set x.kept n [] })
        (with_stream_in-both p.mid s n r gone (ap (λ (x : State). (stream_at x s).writer.owner) mid_state_is ∙ owners_then.writer ∙ wrote) refl (ap (λ (x : State). (stream_at x s).reader.owner) mid_state_is ∙ owners_then.reader ∙ read) refl)
        ∙ ap (λ (x : State). both_over x s n r) mid_state_is

    pub passes_from : Passes w.state v.state s
    passes_from = record {
      writer = n;
      reader = r;
      wrote = wrote;
      read = read;
      count = p.count;
      mid = mid_state;
      mid_is = refl;
      duties = passed_duties;
      as_many = length-set w.state.kept n p.kept;
      others = λ k ne. get_or-set_other w.state.kept n k p.kept [] ne;
      since = λ k ne. ap (λ (x : Consumer). x.since) (get_or-set_other w.state.consumers r k p.consumer no_consumer ne);
      ends = elim p.ends [
        | inl e ↦ inl (ap (λ (x : World). x.state) e ∙ mid_state_is)
        | inr e ↦ inr (ap (λ (x : World). x.state) e ∙ over_state)
      ];
    }

-- nothing is done
rests : (w : World) (s : ℕ) → EffectIn w (Turns s) replies.Done w
rests w s = ByRest (record { idle = refl; untold = refl; unmade = λ k. refl; unpiped = λ k. refl }) refl

-- what comes of each of these turns of host end n at stream s
abbrev AllTurn : World → ℕ → ℕ → Side → (Operation → Outcome) → Type 0
AllTurn w s n side turn = (operation : Operation) → Going (TurnsDone side s n operation w) (turn operation)

open_effect : (w : World) (s n : ℕ) (side : Side) (o : Option Operation) (turn : Operation → Outcome) → AllTurn w s n side turn → (end_of (opposite side) (stream_in w s)).owner ≡ Host n → (end_of side (stream_in w s)).operation ≡ o
    → Going (EffectIn w (Turns s)) (if_open w o turn)
open_effect w s n side None turn h e f = rests w s
open_effect w s n side (Some operation) turn h e f =
    cond_both operation.is_open _ _ (Going (EffectIn w (Turns s)))
    (λ open_. Going_maps (TurnsDone side s n operation w) (EffectIn w (Turns s)) (turn operation)
    (λ reply v t. ByDriving side s refl t.1 (record { host = n; operation = operation; owner = e; waits = f; open_ = open_; turned = t.0 }))
    (h operation))
    (λ shut. rests w s)

-- one of a host writer is known
written_known : (w : World) (s n : ℕ) → HostsHold w.state → (stream_in w s).writer.owner ≡ Host n → n < length w.state.kept
written_known w s n h e = let known = serving_known w.state Writing n s h ((h.serve Writing n s).serves e) in omega (arith, known, h.all_kept)

passing_effect : (w : World) (s n r : ℕ) → HostsHold w.state → (stream_in w s).writer.owner ≡ Host n → (stream_in w s).reader.owner ≡ Host r → Going (EffectIn w (Turns s)) (pipe_round w s n r)
passing_effect w s n r h e f = by (pipe_round w s n r) (round_is w s n r (written_known w s n h e))
  where
    by : (o : Outcome) → IfGoes o (HasPassed w s n r) → Going (EffectIn w (Turns s)) o
    by (Goes reply v) p = ByPassing s refl p.1 (passes_from w v s n r p.0 e f)
    by (Stops stop writers readers) p = tt
    by Stuck p = tt

driven_effect : (w : World) (s : ℕ) → HostsHold w.state → (writer reader : Owner) → (stream_in w s).writer.owner ≡ writer → (stream_in w s).reader.owner ≡ reader → Going (EffectIn w (Turns s)) (driven_by w s (stream_in w s) writer reader)
driven_effect w s h (Host n) (Host r) e f = passing_effect w s n r h e f
driven_effect w s h (Host n) _ e f = open_effect w s n Reading (stream_in w s).reader.operation (writer_turn w s n) (λ read. turn_done s n read w e) e refl
driven_effect w s h _ (Host r) e f = open_effect w s r Writing (stream_in w s).writer.operation (reader_turn w s r) (λ write. taking_done s r write w f) f refl
driven_effect w s h _ _ e f = rests w s

pub drive_effect : (w : World) (s : ℕ) → HostsHold w.state → Going (EffectIn w (Turns s)) (drive_turn w s)
unfolding drive_turn
drive_effect w s h = driven_effect w s h (stream_in w s).writer.owner (stream_in w s).reader.owner refl refl

-- ## What the machine does without host ends

-- the reply and the state are the machine's
abbrev pub IsOf : World → Act → Reply → World → Type 0
IsOf w act reply v = (reply ≡ (reaction w.state act).reply) × (v.state ≡ (reaction w.state act).state)

replied_is : (w : World) (act : Act) (reply : Reply) → reply ≡ (reaction w.state act).reply → Going (IsOf w act) (of_reply reply (with_state w (reaction w.state act).state))
replied_is w act (replies.BadItem s) e = tt
replied_is w act replies.StoreTrapped e = tt
replied_is w act _ e = (e, refl)

pub reacts_is : (w : World) (act : Act) → Going (IsOf w act) (reacts w act)
reacts_is w act = replied_is w act (reaction w.state act).reply refl

pub reacts_effect : (w : World) (act : Act) → is_idle (Acts act) ≡ false → Going (EffectIn w (Acts act)) (reacts w act)
reacts_effect w act i = Going_maps (IsOf w act) (EffectIn w (Acts act)) (reacts w act) (λ reply v p. ByReaction act refl i p.0 p.1) (reacts_is w act)

-- ## A read of a host writer, a write to a host reader

module _ (side : Side) (w : World) (end : NamedEnd) (address count n : ℕ) where
  abbrev at_end : ℕ
  at_end = stream_named (named w.state end)

  abbrev operation : Operation
  operation = begun end.guest address (items_asked end.ty count)

  abbrev calling : Part
  calling = Acts (OnEnd side end (Operate address count))

  -- the world in which it is open
  abbrev open_world : World
  open_world = with_stream_in w at_end (with_operation side (stream_in w at_end) operation)

  module _ (unrefused : refusal w.state (OnEnd side end (Operate address count)) ≡ None) (o : (end_of (opposite side) (stream_in w at_end)).owner ≡ Host n) where
    answers_by : (v : World) (report : Option ReturnCode) → report_on side (stream_in v at_end) ≡ report → Turned side (opened_by side w.state at_end operation) v.state at_end n operation
        → Going (EffectIn w calling) (answered_with v at_end side report)
    answers_by v (Some code) e t = ByCalling side end address count refl (record {
      host = n;
      mid = v.state;
      unrefused = unrefused;
      owner = o;
      turned = t;
      reply_is = ap (λ c. replies.Code (code_answered c)) (sym e);
      is = with_stream_in-kept v at_end (delivered side (stream_in v at_end)) (delivered-owners side (stream_in v at_end));
    })
    answers_by v None e t = ByCalling side end address count refl (record {
      host = n;
      mid = v.state;
      unrefused = unrefused;
      owner = o;
      turned = t;
      reply_is = ap (λ c. replies.Code (code_answered c)) (sym e);
      is = sym (told-nothing v.state at_end side e);
    })

    then_answers : (o : Outcome) → Going (TurnsDone side at_end n operation open_world) o → Going (EffectIn w calling) (then_on o (λ after. turn_answered after at_end side))
    then_answers (Goes reply v) t =
        let stream = with_operation side (stream_in w at_end) operation in
        let is : open_world.state ≡ opened_by side w.state at_end operation = with_stream_in-kept w at_end stream (with_end-owners side (stream_in w at_end) (record (end_of side (stream_in w at_end)) { operation = Some operation }) refl) in
        answers_by v (report_on side (stream_in v at_end)) refl (subst (λ (x : State). Turned side x v.state at_end n operation) is t.0)
    then_answers (Stops stop writers readers) t = tt
    then_answers Stuck t = tt

  -- the host end has the other side then
  owned_then : (end_of (opposite side) (stream_in w at_end)).owner ≡ Host n → (end_of (opposite side) (stream_in open_world at_end)).owner ≡ Host n
  owned_then o =
      ap (λ xs. (end_of (opposite side) (get_or xs at_end no_stream)).owner) (written-streams w at_end (with_operation side (stream_in w at_end) operation))
      ∙ set-keeps (λ (x : Stream). (end_of (opposite side) x).owner) w.state.streams at_end at_end (with_operation side (stream_in w at_end) operation) no_stream (other side (stream_in w at_end))
      ∙ o
    where
      other : (side : Side) (x : Stream) → (end_of (opposite side) (with_operation side x operation)).owner ≡ (end_of (opposite side) x).owner
      other Writing x = refl
      other Reading x = refl

module _ (w : World) (end : NamedEnd) (address count : ℕ) where
  -- the stream of this end
  abbrev its_stream : ℕ
  its_stream = stream_named (named w.state end)

  -- a read or write at this end
  abbrev call : Side → Act
  call side = OnEnd side end (Operate address count)

  -- the operation that it begins
  abbrev begins : Operation
  begins = begun end.guest address (items_asked end.ty count)

  reads_effect : (n : ℕ) → refusal w.state (call Reading) ≡ None → (stream_in w its_stream).writer.owner ≡ Host n → Going (EffectIn w (Acts (call Reading))) (reads_from w its_stream n begins)
  reads_effect n r o =
      let v = with_stream_in w its_stream (with_operation Reading (stream_in w its_stream) begins) in
      then_answers Reading w end address count n r o (writer_turn v its_stream n begins) (turn_done its_stream n begins v (owned_then Reading w end address count n o))

  writes_effect : (r : ℕ) → refusal w.state (call Writing) ≡ None → (stream_in w its_stream).reader.owner ≡ Host r → Going (EffectIn w (Acts (call Writing))) (writes_to w its_stream r begins)
  writes_effect r u o =
      let v = with_stream_in w its_stream (with_operation Writing (stream_in w its_stream) begins) in
      then_answers Writing w end address count r u o (reader_turn v its_stream r begins) (taking_done its_stream r begins v (owned_then Writing w end address count r o))

  pub operates_effect : (side : Side) (owner : Owner) → refusal w.state (call side) ≡ None → (end_of (opposite side) (stream_in w its_stream)).owner ≡ owner → Going (EffectIn w (Acts (call side))) (operates_by w side end address count owner)
  operates_effect Reading (Host n) r e = reads_effect n r e
  operates_effect Writing (Host n) r e = writes_effect n r e
  operates_effect side _ r e = reacts_effect w (call side) refl
