-- A step uses one record of each host end at most, and each has a place on a tape.
use Rattle.std.proofs.Common.{◌≡◌, ◌⊎◌, inl, inr, zero, suc, ◌+◌, ℕ, ◌==◌, ◌<◌, ◌≤◌, Bool, true, false, ◌||◌, ◌&&◌, cond, List, [], ◌∷◌, ◌++◌, length, take, drop, get_or, set, Option, Some, None, refl, sym, ap, subst, ◌∙◌, arith, append_assoc}
use Rattle.std.specs.Prelude.{nat_le}
use Rattle.std.proofs.lemmas.Bool.{cond_both, eqb-true, leb-true}
use Rattle.std.proofs.lemmas.List.Elements.{All-nil, All-push}
use Rattle.strm_codes.specs.declared.codes.ReturnCode.{ReturnCode}
use Rattle.strm_codes.specs.declared.codes.StreamResult.{StreamResult}
use Rattle.strm_codes.specs.declared.codes.StreamResult.TheVariants as results
use Rattle.strm_codes.specs.declared.refusals.Refusal.{Refusal}
use Rattle.strm_buffers.specs.Listing.{Item}
use Rattle.strm_buffers.specs.declared.answers.Answer.{Answer}
use Rattle.strm_buffers.specs.declared.answers.ReaderSaid.{ReaderSaid}
use Rattle.strm_buffers.specs.Said.{WriterSaid}
use Rattle.strm_buffers.specs.HostRules.{breaks_as_writer, breaks_as_reader}
use Rattle.strm_machine.specs.Meetings.{begun}
use Rattle.strm_machine.specs.Operating.{with_received}
use Rattle.strm_machine.specs.Tests.{named, stream_named, items_asked}
use Rattle.strm_machine.specs.State.{producer_at, consumer_at, is_host, no_stream}
use Rattle.strm_machine.specs.Acts.{act_of}
use Rattle.strm_machine.specs.Reactions.{reaction}
use Rattle.strm_machine.specs.Refusals.{front_reasons, handle_reasons, own_reasons, last_reasons}
use Rattle.strm_machine.specs.Sides.{opposite, end_of, with_operation}
use Rattle.strm_machine.specs.declared.acts.Act.{Act}
use Rattle.strm_machine.specs.declared.acts.Act.TheVariants.{OnEnd}
use Rattle.strm_machine.specs.declared.acts.EndAct.TheVariants.{Operate}
use Rattle.strm_machine.specs.declared.acts.HostAct.{HostAct}
use Rattle.strm_machine.specs.declared.acts.HostAct.TheVariants.{New, Feed, Pipe, Grant}
use Rattle.strm_machine.specs.declared.acts.NamedEnd.{NamedEnd}
use Rattle.strm_machine.specs.declared.replies.Reply.{Reply}
use Rattle.strm_machine.specs.declared.replies.Reply.TheVariants as replies
use Rattle.strm_machine.specs.declared.stops.Stop.TheVariants.{HostFailed, HostBroke, BadItem, StoreTrapped}
use Rattle.strm_machine.specs.declared.streams.HostEnd.TheVariants as ends
use Rattle.strm_machine.specs.declared.streams.Operation.{Operation}
use Rattle.strm_machine.specs.declared.streams.Owner.{Owner}
use Rattle.strm_machine.specs.declared.streams.Owner.TheVariants.{Host, Gone}
use Rattle.strm_machine.specs.declared.streams.Side.{Side}
use Rattle.strm_machine.specs.declared.streams.Side.TheVariants.{Writing, Reading}
use Rattle.strm_machine.specs.declared.streams.Stream.{Stream}
use Rattle.strm_machine.specs.declared.steps.Step.{Step}
use Rattle.strm_machine.proofs.RefusalLemmas.{none_of_both, region_fits}
use Rattle.strm_host_machine.specs.World.{World, stream_in, writer_at, reader_at, held_of, with_kept, with_writer, with_reader, leaves_writer, leaves_reader, with_stream_in, with_guests}
use Rattle.strm_host_machine.specs.Ends.{Writer, Reader, no_writer, no_reader, writer_in, reader_in, polled_writer, polled_reader, given_writer, fed_writer, granted_reader, closed_writer, closed_reader}
use Rattle.strm_host_machine.specs.Outcomes.{Outcome, Goes, Stops, Stuck, stops, done, then_on, of_reply}
use Rattle.strm_host_machine.specs.Polls.{AfterWriter, is_failed, same_flag, same_room, is_writer_poll, writer_judged, writer_says, polls_writer, AfterReader, is_reader_poll, tells_truly, reader_judged, reader_says, polls_reader}
use Rattle.strm_host_machine.specs.WriterTurn.{receives, with_answer, produced_result, hands_out, is_produced, produces, writer_turn, lowered_items}
use Rattle.strm_host_machine.specs.ReaderTurn.{lifted_items, reader_with_taken, gives_up, reader_turn}
use Rattle.strm_host_machine.specs.Settling.{answered_with, result_of, moved_on, with_some_received}
use Rattle.strm_host_machine.specs.Piping.{wants_items, fetches, gathered, passed_on, offers, is_done_with, is_run_dry, both_gone, ends_if_done, pipe_round}
use Rattle.strm_host_machine.specs.Driving.{if_open, driven_by, drive_turn, numbers_from, driven}
use Rattle.strm_host_machine.specs.Attaching.{has_items, hosts_new, is_dry, piped, piped_by, without_ends, pipes, forsakes}
use Rattle.strm_host_machine.specs.HostRefusals.{refusal_in}
use Rattle.strm_host_machine.specs.Steps.{reacts, operates_by, drops_in, on_host, performs_by, performs_in, unless_refused_in, outcome, outcome_of_step}
use Rattle.strm_host_machine.proofs.TouchLemmas.{touch-by}
use Rattle.strm_host_machine.proofs.LaterLemmas.{Used, all-set, StreamLater, stream_twice, operation_later, received_later, moved_later, without_ends_later}
use Rattle.strm_tape.specs.Spelling.{IsSpelledRoom}
use Rattle.strm_tape_runs.specs.Marks.{FairRoom, FairTaking}
use Rattle.strm_tape_runs.proofs.FairRecords.{LeftFew, ReadsFew}
use Rattle.strm_tape_runs.proofs.FairWorlds.{Streams, And, Writes, Reads, IsLater, Fares, StepFares, Ends, ends_used, widened, writer-ends, reader-ends, with_stream-ends, with_stream-later, then-halts}
use Rattle.strm_tape_runs.proofs.FairTurns.{turn-fares, reader_turn-fares, pipe_round-fares}

-- from this world, in which no two streams have one end
module _ (first : World) (one_writer : (n s t : ℕ) → Writes first n s → Writes first n t → t ≡ s) (one_reader : (r s t : ℕ) → Reads first r s → Reads first r t → t ≡ s) where
  -- A STEP

  both_on : (T U : Streams) (s : ℕ) (w : World) → IsLater first T U w → IsLater first (And T s) (And U s) w
  both_on T U s w t = widened first T U (And T s) (And U s) w (λ k h. inl h) (λ k h. inl h) t

  fares_on : (T U X Y : Streams) (o : Outcome) → ((s : ℕ) → T s → X s) → ((s : ℕ) → U s → Y s) → Fares first T U o → Fares first X Y o
  fares_on T U X Y (Goes reply w) f g t = widened first T U X Y w f g t
  fares_on T U X Y (Stops stop ws rs) f g t = t
  fares_on T U X Y Stuck f g t = tt

  reads-fares : (T U : Streams) (s : ℕ) (w : World) (operation : Option Operation) (turn : Operation → Outcome) → IsLater first T U w → LeftFew operation → ((o : Operation) → o.left < 268435456 → Fares first (And T s) U (turn o)) → Fares first (And T s) (And U s) (if_open w operation turn)
  reads-fares T U s w None turn t few h = both_on T U s w t
  reads-fares T U s w (Some operation) turn t few h =
      cond_both operation.is_open (turn operation) (done w) (Fares first (And T s) (And U s)) (λ o. fares_on (And T s) U (And T s) (And U s) (turn operation) (λ k x. x) (λ k x. inl x) (h operation few)) (λ o. both_on T U s w t)

  writes-fares : (T U : Streams) (s : ℕ) (w : World) (operation : Option Operation) (turn : Operation → Outcome) → IsLater first T U w → ((o : Operation) → Fares first T (And U s) (turn o)) → Fares first (And T s) (And U s) (if_open w operation turn)
  writes-fares T U s w None turn t h = both_on T U s w t
  writes-fares T U s w (Some operation) turn t h =
      cond_both operation.is_open (turn operation) (done w) (Fares first (And T s) (And U s)) (λ o. fares_on T (And U s) (And T s) (And U s) (turn operation) (λ k x. inl x) (λ k x. x) (h operation)) (λ o. both_on T U s w t)

  driven_by-fares : (T U : Streams) (w : World) (s : ℕ) (stream : Stream) (a b : Owner) → ReadsFew stream → (stream_in w s).writer.owner ≡ a → (stream_in w s).reader.owner ≡ b → ¬ T s → ¬ U s → IsLater first T U w → Fares first (And T s) (And U s) (driven_by w s stream a b)
  driven_by-fares T U w s stream (Host n) (Host r) few e f free unread t = pipe_round-fares first one_writer one_reader T U w s n r ((t.streams s).writer n e) ((t.streams s).reader r f) free unread t
  driven_by-fares T U w s stream (Host n) _ few e f free unread t = reads-fares T U s w stream.reader.operation _ t few (λ o l. turn-fares first one_writer one_reader T U w s n o l ((t.streams s).writer n e) free t)
  driven_by-fares T U w s stream _ (Host r) few e f free unread t = writes-fares T U s w stream.writer.operation _ t (λ o. reader_turn-fares first one_writer one_reader T U w s r o ((t.streams s).reader r f) unread t)
  driven_by-fares T U w s stream _ _ few e f free unread t = both_on T U s w t

  drive_turn-fares : (T U : Streams) (w : World) (s : ℕ) → ¬ T s → ¬ U s → IsLater first T U w → Fares first (And T s) (And U s) (drive_turn w s)
  unfolding drive_turn
  drive_turn-fares T U w s free unread t = driven_by-fares T U w s (stream_in w s) (stream_in w s).writer.owner (stream_in w s).reader.owner (t.few s) refl refl free unread t

  -- the streams before one
  abbrev Before : ℕ → ℕ → Type 0
  Before k s = s < k

  one_further : (k s : ℕ) → And (Before k) k s → Before (k + 1) s
  one_further k s (inl l) = omega (arith, l)
  one_further k s (inr e) = omega (arith, e)

  driven-halts : (w : World) (k m : ℕ) → IsLater first (Before k) (Before k) w → StepFares first (driven w (numbers_from k m))
  driven-halts w k zero t = ends_used first (Before k) (Before k) w t
  driven-halts w k (suc m) t =
      then-halts first (And (Before k) k) (And (Before k) k) (drive_turn w k) _ (drive_turn-fares (Before k) (Before k) w k (λ l. omega (arith, l)) (λ l. omega (arith, l)) t)
      (λ v x. driven-halts v (k + 1) m (widened first (And (Before k) k) (And (Before k) k) (Before (k + 1)) (Before (k + 1)) v (one_further k) (one_further k) x))

  answered-halts : (w : World) (s : ℕ) (side : Side) (code : Option ReturnCode) → Ends first w → StepFares first (answered_with w s side code)
  answered-halts w s side (Some code) t = with_stream-ends first w s _ t
  answered-halts w s side None t = t

  reply-halts : (reply : Reply) (w : World) → Ends first w → StepFares first (of_reply reply w)
  reply-halts (replies.BadItem stream) w t = t
  reply-halts replies.StoreTrapped w t = t
  reply-halts _ w t = t

  forsakes-halts : (o : Outcome) (s : ℕ) (side : Side) → StepFares first o → StepFares first (forsakes o s side)
  forsakes-halts (Goes reply w) s side r = with_stream-ends first w s _ r
  forsakes-halts (Stops stop ws rs) s side r = r
  forsakes-halts Stuck s side r = tt

  piped-ends : (w : World) (s r : ℕ) → Ends first w → Ends first (piped_by w s r)
  piped-ends w s r t =
      let stream = piped (stream_in w s) r in
      let after = with_stream_in w s stream in
      let here = with_stream-ends first w s stream t in
      cond_both (is_dry w stream.writer.owner) (with_stream_in after s (without_ends stream)) after (Ends first) (λ d. with_stream-ends first after s _ here) (λ d. here)

  -- no stream had its turn yet
  abbrev Nowhere : ℕ → Type 0
  Nowhere s = ⊥

  -- whose reads have few items left
  module _ (few : (s : ℕ) → ReadsFew (stream_in first s)) where
    itself_later : (T U : Streams) → IsLater first T U first
    itself_later T U = record {
      writers = λ n. record { used = ([], refl, All-nil FairRoom); once = inl refl };
      readers = λ r. record { used = ([], refl, All-nil FairTaking); once = inl refl };
      streams = λ s. record { kind = refl; writer = λ n e. e; reader = λ r e. e };
      few = few;
    }

    itself_ends : Ends first first
    itself_ends = ends_used first Nowhere Nowhere first (itself_later Nowhere Nowhere)

    reacts-halts : (act : Act) → StepFares first (reacts first act)
    reacts-halts act = reply-halts (reaction first.state act).reply _ (record { writers = itself_ends.writers; readers = itself_ends.readers })

    drops-halts : (s : ℕ) (side : Side) (act : Act) → StepFares first (drops_in first s side act)
    drops-halts s side act =
        cond_both (is_host (end_of (opposite side) (stream_in first s)).owner) (forsakes (reacts first act) s side) (reacts first act) (StepFares first)
        (λ h. forsakes-halts (reacts first act) s side (reacts-halts act)) (λ h. reacts-halts act)

    on_host-halts : (n : ℕ) (act : HostAct) → StepFares first (on_host first n act)
    unfolding hosts_new pipes
    on_host-halts n New = record { writers = itself_ends.writers; readers = itself_ends.readers }
    on_host-halts n (Feed bytes) = writer-ends first first n (fed_writer (writer_at first n) bytes) (itself_ends.writers n) itself_ends
    on_host-halts r (Pipe reader) = piped-ends _ reader r (record { writers = itself_ends.writers; readers = itself_ends.readers })
    on_host-halts r (Grant count) = reader-ends first first r (granted_reader (reader_at first r) count) (itself_ends.readers r) itself_ends

    operates-halts : (side : Side) (end : NamedEnd) (address count : ℕ) (owner : Owner) → (end_of (opposite side) (stream_in first (stream_named (named first.state end)))).owner ≡ owner → items_asked end.ty count < 268435456 → StepFares first (operates_by first side end address count owner)
    operates-halts Reading end address count (Host n) e asked =
        let s = stream_named (named first.state end) in
        let read = begun end.guest address (items_asked end.ty count) in
        then-halts first (And Nowhere s) Nowhere _ _ (turn-fares first one_writer one_reader Nowhere Nowhere _ s n read asked e (λ x. x) (with_stream-later first Nowhere Nowhere first s (with_operation Reading (stream_in first s) read) (operation_later Reading (stream_in first s) read) asked (itself_later Nowhere Nowhere)))
        (λ v k. answered-halts v s Reading _ (ends_used first (And Nowhere s) Nowhere v k))
    operates-halts Writing end address count (Host r) e asked =
        let s = stream_named (named first.state end) in
        let write = begun end.guest address (items_asked end.ty count) in
        then-halts first Nowhere (And Nowhere s) _ _ (reader_turn-fares first one_writer one_reader Nowhere Nowhere _ s r write e (λ x. x) (with_stream-later first Nowhere Nowhere first s (with_operation Writing (stream_in first s) write) (operation_later Writing (stream_in first s) write) (few s) (itself_later Nowhere Nowhere)))
        (λ v k. answered-halts v s Writing _ (ends_used first Nowhere (And Nowhere s) v k))
    operates-halts side end address count _ e asked = reacts-halts (OnEnd side end (Operate address count))

    -- what is not refused asks for a count
    asked_few : (side : Side) (end : NamedEnd) (address count : ℕ) → refusal_in first (OnEnd side end (Operate address count)) ≡ None → items_asked end.ty count < 268435456
    unfolding refusal_in
    asked_few side end address count e =
        (region_fits first.state end.guest end.ty address count (none_of_both (front_reasons first.state end (Operate address count)) ((handle_reasons (named first.state end) ++ own_reasons first.state side end (Operate address count)) ++ last_reasons first.state end (Operate address count)) e).0).counted

    performs-halts : (act : Act) → refusal_in first act ≡ None → StepFares first (performs_in first act)
    unfolding performs_in
    performs-halts act =
        touch-by (λ act touch. refusal_in first act ≡ None → StepFares first (performs_by first act touch)) first.state
        (record {
          operated = λ side end address count e. operates-halts side end address count _ refl (asked_few side end address count e);
          dropped = λ act s side d e. drops-halts s side act;
          hosted = λ n act e. on_host-halts n act;
          driven = λ e. driven-halts first 0 _ (itself_later (Before 0) (Before 0));
          alone = λ act n e. reacts-halts act;
        })
        act

    unless-halts : (act : Act) (o : Option Refusal) → refusal_in first act ≡ o → StepFares first (unless_refused_in first act o)
    unless-halts act (Some refusal) e = itself_ends
    unless-halts act None e = performs-halts act e

    pub step-fares : (step : Step) → StepFares first (outcome_of_step first step)
    unfolding outcome
    step-fares step =
        let act = act_of step in
        cond_both first.state.trapped (stops StoreTrapped first) (unless_refused_in first act (refusal_in first act)) (StepFares first)
        (λ e. itself_ends) (λ e. unless-halts act (refusal_in first act) refl)
