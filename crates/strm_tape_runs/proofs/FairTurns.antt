-- A host writer's turn, a host reader's turn and the round of a pipe use one record at most of the end that they
-- poll, and it has a place on a tape.
use Rattle.std.proofs.Common.{◌≡◌, ◌⊎◌, inl, inr, zero, suc, ◌+◌, ℕ, ◌==◌, ◌<◌, ◌≤◌, Bool, true, false, ◌||◌, ◌&&◌, cond, List, [], ◌∷◌, ◌++◌, length, take, drop, get_or, set, Option, Some, None, refl, sym, ap, subst, ◌∙◌, arith, append_assoc}
use Rattle.std.specs.Prelude.{nat_le}
use Rattle.std.proofs.lemmas.Bool.{cond_both, eqb-true, leb-true}
use Rattle.std.proofs.lemmas.List.Elements.{All-nil, All-push}
use Rattle.strm_codes.specs.declared.codes.ReturnCode.{ReturnCode}
use Rattle.strm_codes.specs.declared.codes.StreamResult.{StreamResult}
use Rattle.strm_codes.specs.declared.codes.StreamResult.TheVariants as results
use Rattle.strm_codes.specs.declared.refusals.Refusal.{Refusal}
use Rattle.strm_buffers.specs.Listing.{Item}
use Rattle.strm_buffers.specs.declared.answers.Answer.{Answer}
use Rattle.strm_buffers.specs.declared.answers.ReaderSaid.{ReaderSaid}
use Rattle.strm_buffers.specs.Said.{WriterSaid}
use Rattle.strm_buffers.specs.HostRules.{breaks_as_writer, breaks_as_reader}
use Rattle.strm_machine.specs.Meetings.{begun}
use Rattle.strm_machine.specs.Operating.{with_received}
use Rattle.strm_machine.specs.Tests.{named, stream_named, items_asked}
use Rattle.strm_machine.specs.State.{producer_at, consumer_at, is_host, no_stream}
use Rattle.strm_machine.specs.Acts.{act_of}
use Rattle.strm_machine.specs.Reactions.{reaction}
use Rattle.strm_machine.specs.Refusals.{front_reasons, handle_reasons, own_reasons, last_reasons}
use Rattle.strm_machine.specs.Sides.{opposite, end_of, with_operation}
use Rattle.strm_machine.specs.declared.acts.Act.{Act}
use Rattle.strm_machine.specs.declared.acts.Act.TheVariants.{OnEnd}
use Rattle.strm_machine.specs.declared.acts.EndAct.TheVariants.{Operate}
use Rattle.strm_machine.specs.declared.acts.HostAct.{HostAct}
use Rattle.strm_machine.specs.declared.acts.HostAct.TheVariants.{New, Feed, Pipe, Grant}
use Rattle.strm_machine.specs.declared.acts.NamedEnd.{NamedEnd}
use Rattle.strm_machine.specs.declared.replies.Reply.{Reply}
use Rattle.strm_machine.specs.declared.replies.Reply.TheVariants as replies
use Rattle.strm_machine.specs.declared.stops.Stop.TheVariants.{HostFailed, HostBroke, BadItem, StoreTrapped}
use Rattle.strm_machine.specs.declared.streams.HostEnd.TheVariants as ends
use Rattle.strm_machine.specs.declared.streams.Operation.{Operation}
use Rattle.strm_machine.specs.declared.streams.Owner.{Owner}
use Rattle.strm_machine.specs.declared.streams.Owner.TheVariants.{Host, Gone}
use Rattle.strm_machine.specs.declared.streams.Side.{Side}
use Rattle.strm_machine.specs.declared.streams.Side.TheVariants.{Writing, Reading}
use Rattle.strm_machine.specs.declared.streams.Stream.{Stream}
use Rattle.strm_machine.specs.declared.steps.Step.{Step}
use Rattle.strm_machine.proofs.RefusalLemmas.{none_of_both, region_fits}
use Rattle.strm_host_machine.specs.World.{World, stream_in, writer_at, reader_at, held_of, with_kept, with_writer, with_reader, leaves_writer, leaves_reader, with_stream_in, with_guests}
use Rattle.strm_host_machine.specs.Ends.{Writer, Reader, no_writer, no_reader, writer_in, reader_in, polled_writer, polled_reader, given_writer, fed_writer, granted_reader, closed_writer, closed_reader}
use Rattle.strm_host_machine.specs.Outcomes.{Outcome, Goes, Stops, Stuck, stops, done, then_on, of_reply}
use Rattle.strm_host_machine.specs.Polls.{AfterWriter, is_failed, same_flag, same_room, is_writer_poll, writer_judged, writer_says, polls_writer, AfterReader, is_reader_poll, tells_truly, reader_judged, reader_says, polls_reader}
use Rattle.strm_host_machine.specs.WriterTurn.{receives, with_answer, produced_result, hands_out, is_produced, produces, writer_turn, lowered_items}
use Rattle.strm_host_machine.specs.ReaderTurn.{lifted_items, reader_with_taken, gives_up, reader_turn}
use Rattle.strm_host_machine.specs.Settling.{answered_with, result_of, moved_on, with_some_received}
use Rattle.strm_host_machine.specs.Piping.{wants_items, fetches, gathered, passed_on, offers, is_done_with, is_run_dry, both_gone, ends_if_done, pipe_round}
use Rattle.strm_host_machine.specs.Driving.{if_open, driven_by, drive_turn, numbers_from, driven}
use Rattle.strm_host_machine.specs.Attaching.{has_items, hosts_new, is_dry, piped, piped_by, without_ends, pipes, forsakes}
use Rattle.strm_host_machine.specs.HostRefusals.{refusal_in}
use Rattle.strm_host_machine.specs.Steps.{reacts, operates_by, drops_in, on_host, performs_by, performs_in, unless_refused_in, outcome, outcome_of_step}
use Rattle.strm_host_machine.proofs.TouchLemmas.{touch-by}
use Rattle.strm_host_machine.proofs.LaterLemmas.{Used, all-set, StreamLater, stream_twice, operation_later, received_later, moved_later, without_ends_later}
use Rattle.strm_tape.specs.Spelling.{IsSpelledRoom}
use Rattle.strm_tape_runs.specs.Marks.{FairRoom, FairTaking}
use Rattle.strm_tape_runs.proofs.FairRecords.{both_true, poll_fair, taking_fair, received_few, without_ends_few, read_on_few, written_on_few}
use Rattle.strm_tape_runs.proofs.FairWorlds.{Streams, And, once_fresh, Writes, Reads, IsLater, Fares, ends_used, writers_on, readers_on, writer-later, reader-later, with_stream-later, then-fares}

-- from this world, in which no two streams have one end
module _ (first : World) (one_writer : (n s t : ℕ) → Writes first n s → Writes first n t → t ≡ s) (one_reader : (r s t : ℕ) → Reads first r s → Reads first r t → t ≡ s) where
  -- A HOST WRITER'S TURN

  -- what is done after a poll
  abbrev FaresAfterWriter : (T U X Y : Streams) → AfterWriter → Type 0
  FaresAfterWriter T U X Y next = (w : World) (said : WriterSaid) → IsLater first T U w → Fares first X Y (next w said)

  -- a world in which host writer n was polled, which used the first of its records
  abbrev after_poll : World → ℕ → Option ℕ → WriterSaid → List WriterSaid → World
  after_poll w n room said more = with_writer w n (polled_writer (writer_at w n) room said more)

  polled-later : (T U : Streams) (w : World) (s n : ℕ) (room : Option ℕ) (said : WriterSaid) (more : List WriterSaid) → (writer_at w n).coming ≡ said ∷ more → FairRoom said → Writes first n s → ¬ T s → IsLater first T U w → IsLater first (And T s) U (after_poll w n room said more)
  polled-later T U w s n room said more e p owns unturned t =
      let was = t.writers n in
      let none = once_fresh T (Writes first n) was.used.0 s (λ k o. one_writer n s k owns o) unturned was.once in
      writer-later first (And T s) U w n _
      (record {
        used = (was.used.0 ++ said ∷ [], was.used.1 ∙ ap (λ rest. was.used.0 ++ rest) e ∙ sym (append_assoc was.used.0 (said ∷ []) more), All-push FairRoom was.used.0 said was.used.2 p);
        once = inr (ap (λ front. length (front ++ said ∷ [])) none, (s, inr refl, owns));
      })
      (writers_on first T U s w t)

  -- what comes of a poll of host writer n in which it uses the first of these records
  abbrev WriterFares : (T U X Y : Streams) → World → ℕ → ℕ → Option ℕ → Bool → AfterWriter → List WriterSaid → Type 0
  WriterFares T U X Y w s n room finish next coming =
      IsLater first T U w → FaresAfterWriter (And T s) U X Y next → Fares first X Y (writer_says w s n room finish coming next)

  says-fares : (T U X Y : Streams) (w : World) (s n : ℕ) (room : Option ℕ) (finish : Bool) (coming : List WriterSaid) (next : AfterWriter) → (writer_at w n).coming ≡ coming → IsSpelledRoom room → Writes first n s → ¬ T s → WriterFares T U X Y w s n room finish next coming
  says-fares T U X Y w s n room finish [] next e q owns unturned t h = tt
  says-fares T U X Y w s n room finish (said ∷ more) next e q owns unturned t h =
      let after = with_writer w n (polled_writer (writer_at w n) room said more) in
      let kind = (stream_in w s).kind in
      cond_both (is_writer_poll room finish said) (writer_judged after kind n said next) Stuck (Fares first X Y)
      (λ p.
      let k = polled-later T U w s n room said more e (poll_fair room finish said p q) owns unturned t in
      let used = ends_used first (And T s) U after k in
      cond_both (is_failed said.answer) (stops (HostFailed (ends.Writer n)) after) (cond (breaks_as_writer kind said) (stops (HostBroke (ends.Writer n)) after) (next after said)) (Fares first X Y)
      (λ f. used)
      (λ f. cond_both (breaks_as_writer kind said) (stops (HostBroke (ends.Writer n)) after) (next after said) (Fares first X Y) (λ b. used) (λ b. h after said k)))
      (λ p. tt)

  received-later : (T U : Streams) (w : World) (s : ℕ) (read : Operation) (items : List Item) (result : Option StreamResult) → read.left < 268435456 → IsLater first T U w → IsLater first T U (receives w s read items result)
  received-later T U w s read items result few t =
      let guests = lowered_items w.state.guests (stream_in w s).payload read items in
      with_stream-later first T U (with_guests w guests) s _ (moved_later Reading (stream_in w s) read (length items) result) (read_on_few (stream_in w s) read (length items) result few)
      (record { writers = t.writers; readers = t.readers; streams = t.streams; few = t.few })

  produced-fares : (T U : Streams) (w : World) (s n : ℕ) (read : Operation) → read.left < 268435456 → Writes first n s → ¬ T s → IsLater first T U w → Fares first (And T s) U (is_produced w s n read)
  produced-fares T U w s n read few owns unturned t =
      says-fares T U (And T s) U w s n (Some read.left) read.asked (writer_at w n).coming
      (λ after said. done (receives (with_answer after n said.answer (drop read.left said.items)) s read (take read.left said.items) (produced_result said.answer (drop read.left said.items))))
      refl few owns unturned t
      (λ v x k. received-later (And T s) U (with_answer v n x.answer (drop read.left x.items)) s read (take read.left x.items) _ few (record { writers = k.writers; readers = k.readers; streams = k.streams; few = k.few }))

  produces-fares : (T U : Streams) (w : World) (s n : ℕ) (read : Operation) (items : List Item) → read.left < 268435456 → Writes first n s → ¬ T s → IsLater first T U w → Fares first (And T s) U (produces w s n read items)
  produces-fares T U w s n read (item ∷ items) few owns unturned t =
      let on = writers_on first T U s w t in
      let given = writer-later first (And T s) U w n (given_writer (writer_at w n) read.left) (on.writers n) on in
      received-later (And T s) U (hands_out w n read.left) s read _ _ few (record { writers = given.writers; readers = given.readers; streams = given.streams; few = given.few })
  produces-fares T U w s n read [] few owns unturned t =
      cond_both (producer_at w.state n).over (done (receives w s read [] (Some results.Dropped))) (is_produced w s n read) (Fares first (And T s) U)
      (λ o. received-later (And T s) U w s read [] _ few (writers_on first T U s w t)) (λ o. produced-fares T U w s n read few owns unturned t)

  pub turn-fares : (T U : Streams) (w : World) (s n : ℕ) (read : Operation) → read.left < 268435456 → Writes first n s → ¬ T s → IsLater first T U w → Fares first (And T s) U (writer_turn w s n read)
  unfolding writer_turn
  turn-fares T U w s n read few owns unturned t = produces-fares T U w s n read _ few owns unturned t

  -- A HOST READER'S TURN

  -- what is done after a poll
  abbrev FaresAfterReader : (T U X Y : Streams) → AfterReader → Type 0
  FaresAfterReader T U X Y next = (w : World) (said : ReaderSaid) → IsLater first T U w → Fares first X Y (next w said)

  -- a world in which host reader r was, which took these items
  abbrev after_reader_poll : World → ℕ → List Item → List ReaderSaid → World
  after_reader_poll w r took more = with_reader w r (polled_reader (reader_at w r) took more)

  polled_reader-later : (T U : Streams) (w : World) (s r : ℕ) (took : List Item) (said : ReaderSaid) (more : List ReaderSaid) → (reader_at w r).coming ≡ said ∷ more → FairTaking said → Reads first r s → ¬ U s → IsLater first T U w → IsLater first T (And U s) (after_reader_poll w r took more)
  polled_reader-later T U w s r took said more e p owns unturned t =
      let was = t.readers r in
      let none = once_fresh U (Reads first r) was.used.0 s (λ k o. one_reader r s k owns o) unturned was.once in
      reader-later first T (And U s) w r _
      (record {
        used = (was.used.0 ++ said ∷ [], was.used.1 ∙ ap (λ rest. was.used.0 ++ rest) e ∙ sym (append_assoc was.used.0 (said ∷ []) more), All-push FairTaking was.used.0 said was.used.2 p);
        once = inr (ap (λ front. length (front ++ said ∷ [])) none, (s, inr refl, owns));
      })
      (readers_on first T U s w t)

  -- what comes of a poll of host reader r in which it uses the first of these records
  abbrev ReaderFares : (T U X Y : Streams) → World → ℕ → ℕ → ℕ → Bool → (ℕ → List Item) → AfterReader → List ReaderSaid → Type 0
  ReaderFares T U X Y w s r offered finish took next coming =
      IsLater first T U w → FaresAfterReader T (And U s) X Y next → Fares first X Y (reader_says w s r offered finish took coming next)

  reader_says-fares : (T U X Y : Streams) (w : World) (s r offered : ℕ) (finish : Bool) (took : ℕ → List Item) (coming : List ReaderSaid) (next : AfterReader) → (reader_at w r).coming ≡ coming → Reads first r s → ¬ U s → ReaderFares T U X Y w s r offered finish took next coming
  reader_says-fares T U X Y w s r offered finish took [] next e owns unturned t h = tt
  reader_says-fares T U X Y w s r offered finish took (said ∷ more) next e owns unturned t h =
      let after = with_reader w r (polled_reader (reader_at w r) (took said.taken) more) in
      let kind = (stream_in w s).kind in
      let goes_on = next after said in
      let broken = cond (breaks_as_reader kind said) (stops (HostBroke (ends.Reader r)) after) goes_on in
      let bad = cond said.bad (stops (BadItem s) after) broken in
      let since = (consumer_at w.state r).since in
      cond_both (is_reader_poll offered since finish said && tells_truly offered took said) (reader_judged after kind s r said next) Stuck (Fares first X Y)
      (λ p.
      let fair = taking_fair offered since finish said (both_true (is_reader_poll offered since finish said) (tells_truly offered took said) p).0 in
      let k = polled_reader-later T U w s r (took said.taken) said more e fair owns unturned t in
      let used = ends_used first T (And U s) after k in
      cond_both (is_failed said.answer) (stops (HostFailed (ends.Reader r)) after) bad (Fares first X Y)
      (λ f. used)
      (λ f. cond_both said.bad (stops (BadItem s) after) broken (Fares first X Y)
      (λ b. used)
      (λ b. cond_both (breaks_as_reader kind said) (stops (HostBroke (ends.Reader r)) after) goes_on (Fares first X Y) (λ d. used) (λ d. h after said k))))
      (λ p. tt)

  pub reader_turn-fares : (T U : Streams) (w : World) (s r : ℕ) (write : Operation) → Reads first r s → ¬ U s → IsLater first T U w → Fares first T (And U s) (reader_turn w s r write)
  unfolding reader_turn
  reader_turn-fares T U w s r write owns unturned t =
      reader_says-fares T U T (And U s) w s r write.left write.asked (lifted_items w.state.guests (stream_in w s).payload write) (reader_at w r).coming
      (λ after said. done (gives_up (reader_with_taken after r said.answer said.taken) s write said.taken said.answer))
      refl owns unturned t
      (λ v x k. with_stream-later first T (And U s) (reader_with_taken v r x.answer x.taken) s _ (moved_later Writing (stream_in v s) write x.taken (result_of x.answer)) (written_on_few (stream_in v s) write x.taken (result_of x.answer) (k.few s))
      (record { writers = k.writers; readers = k.readers; streams = k.streams; few = k.few }))

  -- THE ROUND OF A PIPE

  fetches-fares : (T U : Streams) (w : World) (s n r : ℕ) → Writes first n s → ¬ T s → IsLater first T U w → Fares first (And T s) U (fetches w s n r)
  fetches-fares T U w s n r owns unturned t =
      let keeps : AfterWriter = λ after said. done (with_kept (with_answer after n said.answer []) n said.items) in
      cond_both (wants_items w n r) (polls_writer w s n None false keeps) (done w) (Fares first (And T s) U)
      (λ e. says-fares T U (And T s) U w s n None false (writer_at w n).coming keeps refl tt owns unturned t (λ v x k. record { writers = k.writers; readers = k.readers; streams = k.streams; few = k.few }))
      (λ e. writers_on first T U s w t)

  gathered-later : (T U : Streams) (w : World) (n : ℕ) → IsLater first T U w → IsLater first T U (gathered w n)
  gathered-later T U w n t =
      let given = writer-later first T U (with_kept w n (held_of w n)) n (record (writer_at w n) { holds = [] }) (t.writers n) (record { writers = t.writers; readers = t.readers; streams = t.streams; few = t.few }) in
      record { writers = given.writers; readers = given.readers; streams = given.streams; few = given.few }

  passed-later : (T U : Streams) (w : World) (s n r : ℕ) (answer : Answer) (taken : ℕ) → IsLater first T U w → IsLater first T U (passed_on w s n r answer taken)
  passed-later T U w s n r answer taken t =
      with_stream-later first T U _ s _ (received_later (stream_in w s) taken) (received_few (stream_in w s) taken (t.few s)) (record { writers = t.writers; readers = t.readers; streams = t.streams; few = t.few })

  offers-fares : (T U X Y : Streams) (w : World) (s n r : ℕ) (next : World → Option Answer → Outcome) → Reads first r s → ¬ U s → IsLater first T U w → ((v : World) (answer : Option Answer) → IsLater first T (And U s) v → Fares first X Y (next v answer)) → Fares first X Y (offers w s n r next)
  offers-fares T U X Y w s n r next owns unturned t h =
      let held = held_of w n in
      let goes_on : AfterReader = λ after said. next (passed_on after s n r said.answer said.taken) (Some said.answer) in
      cond_both (has_items held || (consumer_at w.state r).resting) (polls_reader (gathered w n) s r (length held) false (λ k. take k held) goes_on) (next w None) (Fares first X Y)
      (λ e. reader_says-fares T U X Y (gathered w n) s r (length held) false (λ k. take k held) (reader_at (gathered w n) r).coming goes_on refl owns unturned (gathered-later T U w n t)
      (λ after said k. h (passed_on after s n r said.answer said.taken) (Some said.answer) (passed-later T (And U s) after s n r said.answer said.taken k)))
      (λ e. h w None (readers_on first T U s w t))

  ends_if_done-fares : (T U : Streams) (w : World) (s n r : ℕ) (answer : Option Answer) → IsLater first T U w → Fares first T U (ends_if_done w s n r answer)
  ends_if_done-fares T U w s n r answer t =
      let ended = with_stream-later first T U w s (without_ends (stream_in w s)) (without_ends_later (stream_in w s)) (without_ends_few (stream_in w s) (t.few s)) t in
      cond_both (is_done_with (stream_in w s).kind answer || is_run_dry w n r) (done (both_gone w s n)) (done w) (Fares first T U)
      (λ d. record { writers = ended.writers; readers = ended.readers; streams = ended.streams; few = ended.few }) (λ d. t)

  pub pipe_round-fares : (T U : Streams) (w : World) (s n r : ℕ) → Writes first n s → Reads first r s → ¬ T s → ¬ U s → IsLater first T U w → Fares first (And T s) (And U s) (pipe_round w s n r)
  unfolding pipe_round
  pipe_round-fares T U w s n r writes reads free unread t =
      then-fares first (And T s) U (And T s) (And U s) (fetches w s n r) (λ fetched. offers fetched s n r (λ after answer. ends_if_done after s n r answer)) (fetches-fares T U w s n r writes free t)
      (λ fetched k. offers-fares (And T s) U (And T s) (And U s) fetched s n r (λ after answer. ends_if_done after s n r answer) reads unread k (λ after answer. ends_if_done-fares (And T s) (And U s) after s n r answer))
