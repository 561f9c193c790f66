-- The round of a pipe in a store: each of its parts is the machine's, and leaves host ends that the store
-- fits.
use Rattle.std.proofs.Common.{◌≡◌, ◌≢◌, ◌⊎◌, ℕ, Bool, true, false, List, [], ◌∷◌, ◌++◌, length, drop, get_or, set, Option, Some, None, Result, Ok, Err, refl, sym, ap, subst, ◌∙◌, inl, inr}
use Rattle.std.specs.Prelude.{not, ◌&&◌}
use Rattle.std.proofs.lemmas.List.{length-set, get_or-set_same, set-get_or}
use Rattle.strm_buffers.specs.declared.answers.Answer.{Answer}
use Rattle.strm_buffers.specs.Listing.{Item}
use Rattle.strm_buffers.specs.Tells.{WriterTells, Tells, no_reader_tells, told_by, with_told, told_by_reader, with_told_reader, writer_given, reader_tells_closed as closed_tells}
use Rattle.strm_machine.specs.State.{State, no_producer, no_stream, producer_at, kept_at, consumer_at, stream_at}
use Rattle.strm_machine.specs.Reactions.{with_stream_at}
use Rattle.strm_machine.specs.declared.replies.Reply.TheVariants as replies
use Rattle.strm_machine.specs.declared.streams.End.{End}
use Rattle.strm_machine.specs.declared.streams.Owner.{Owner}
use Rattle.strm_machine.specs.declared.streams.Owner.TheVariants.{Held, Loose, Host, Gone}
use Rattle.strm_machine.specs.declared.streams.Producer.{Producer}
use Rattle.strm_machine.specs.declared.streams.Side.TheVariants.{Writing, Reading}
use Rattle.strm_machine.specs.declared.streams.Stream.{Stream}
use Rattle.strm_host_machine.specs.Attaching.{has_items, without_ends}
use Rattle.strm_host_machine.specs.Piping.{fetches, ends_if_done, pipe_round}
use Rattle.strm_host_machine.specs.Does.{Answered, Fits, Does}
use Rattle.strm_host_machine.proofs.CloseLemmas.{ended_in}
use Rattle.strm_host_machine.proofs.FitsLemmas.{Fits-stream}
use Rattle.strm_host_machine.proofs.GrowLemmas.{follows-told, follows-then, grows-same, grows-kept, Does-follows}
use Rattle.strm_host_machine.proofs.PollLemmas.{IsServing}
use Rattle.strm_host_machine.proofs.ReaderLemmas.{ended_reader_in, grows-same_reader, follows-told_reader}
use Rattle.strm_host_machine.proofs.SettleLemmas.{AreBothLeft}
use Rattle.strm_host_machine.proofs.PipeLemmas.{gathered_in, IsFetched, Does-fetches_none, Does-fetches, Does-fetches_failed, Does-fetches_broke, IsOffered, offered_tells, passed_in, Does-round, Does-round_stop}
use Rattle.strm_host_machine.proofs.PipeRoundLemmas.{Does-offers_none, Does-offers, Does-offers_failed, Does-offers_bad, Does-offers_broke, Does-ends_not, Does-ends}
use Rattle.strm_host_turns.specs.Piping.{Fetching, Offering, offering, Ungathered, Unoffered}
use Rattle.strm_host_turns.specs.declared.reader_turns.ReaderStops.{ReaderStops}
use Rattle.strm_host_turns.specs.declared.reader_turns.ReaderStops.TheVariants as reader_stops
use Rattle.strm_host_turns.specs.declared.writer_turns.WriterStops.{WriterStops}
use Rattle.strm_host_turns.specs.declared.writer_turns.WriterStops.TheVariants.{Failed, OutOfMemory, Broke}
use Rattle.strm_host_turns.proofs.StepLemmas.{stop_of}
use Rattle.strm_transmit.specs.Hosted.{call_answered, IsStop}
use Rattle.strm_transmit.specs.Inside.{AreServed}
use Rattle.strm_transmit.specs.Piping.{unread_in, reader_closed, WriterEnds, EndsPipe}
use Rattle.strm_transmit.specs.Rounds.{ends_by, IsPipe, held_on, fetch_due, offer_due, end_due, FetchesStream, OffersStream, offer_part}
use Rattle.strm_transmit.specs.Turning.{stop_of_writer, stop_of_reader}
use Rattle.strm_transmit.proofs.FitsLemmas.{KeepsType, keeps-closed, KeepsReaderType, Fits-told, Fits-told_reader, Fits-producer, Fits-consumer, Fits-ended, Fits-reader_ended, though_trapped, IsReading, serving, reading}
use Rattle.strm_transmit.proofs.HostStepLemmas.{Does-after, Fits-after}
use Rattle.strm_transmit.specs.declared.errors.StoreError.{StoreError}
use Rattle.strm_transmit.proofs.OperateLemmas.{cause_of as stop_cause, stop_is}
use Rattle.strm_transmit.proofs.WriterTurnLemmas.{stop-is}
use Rattle.strm_transmit.proofs.ReaderTurnLemmas.{cause_of, cause-is}
use Rattle.strm_transmit.specs.OutOfMemory.{writer_failed, reader_failed, FailsOnce, RunsOutInPoll, RunsOutAt, InPoll, BeforeOffer, RunsOutInOffer, Polled, Unpolled, IfOutOfMemory}
use Rattle.strm_transmit.proofs.OutOfMemoryLemmas.{set_again, none_from, none_to, fails_polled, fails_offered, fails_writer, fails_reader}
use Rattle.strm_host_machine.proofs.WriterTurnLemmas.{told-same}
use Rattle.strm_machine.specs.declared.stops.Stop.TheVariants.{HostFailed}
use Rattle.strm_machine.specs.declared.streams.HostEnd.TheVariants as ends
use Rattle.strm_transmit.proofs.PipeKeptLemmas.{other_kept, fetches_duty, offers_keep, says_nothing}

-- ## A pipe

abbrev first_of : ℕ → Option (ℕ × ℕ) → ℕ
first_of d None = d
first_of d (Some p) = p.0

abbrev second_of : ℕ → Option (ℕ × ℕ) → ℕ
second_of d None = d
second_of d (Some p) = p.1

-- its ends are those of its stream
pub ends_are : (writer reader : Owner) (n r : ℕ) → ◌≡◌ {A = Option (ℕ × ℕ)} (ends_by writer reader) (Some (n, r)) → (writer ≡ Host n) × (reader ≡ Host r)
ends_are (Host m) (Host k) n r e = (ap Host (ap (first_of 0) e), ap Host (ap (second_of 0) e))
ends_are (Host m) (Held g h) n r e = cc
ends_are (Host m) Loose n r e = cc
ends_are (Host m) Gone n r e = cc
ends_are (Held g h) reader n r e = cc
ends_are Loose reader n r e = cc
ends_are Gone reader n r e = cc

-- nothing is held where the writer is to be polled
nothing_by : (resting over : Bool) (kept holds : List Item) → not resting && (not (has_items (kept ++ holds)) && not over) ≡ true → holds ≡ []
nothing_by false over [] [] e = refl
nothing_by false over [] (x ∷ xs) e = cc
nothing_by false over (k ∷ ks) holds e = cc
nothing_by true over kept holds e = cc

-- of a store whose host ends are ends of their streams
pub record Rounds (state : State) (tells : Tells) (s n r : ℕ) : Type 0 where
  pub served : AreServed state.producers state.consumers state.streams
  pub pipe : IsPipe state tells s n r

pub rounds : (state : State) (tells : Tells) (s n r : ℕ) → AreServed state.producers state.consumers state.streams → IsPipe state tells s n r → Rounds state tells s n r
rounds state tells s n r served pipe = record { served = served; pipe = pipe }

-- a store that is trapped
pub trapped_pipe : (state : State) (tells : Tells) (s n r : ℕ) → IsPipe state tells s n r → IsPipe (record state { trapped = true }) tells s n r
trapped_pipe state tells s n r p = record { made = p.made; writer = p.writer; reader = p.reader; fits = though_trapped state tells p.fits }

module _ (old : State) (tells : Tells) (s n r : ℕ) (h : Rounds old tells s n r) where
  pub is_serving : IsServing old tells n s
  is_serving = serving old tells n s (record { served = h.served; made = h.pipe.made; owner = h.pipe.writer; fits = h.pipe.fits })

  pub is_reading : IsReading old tells r s
  is_reading = reading old tells r s (record { served = h.served; made = h.pipe.made; owner = h.pipe.reader; fits = h.pipe.fits })

  -- ## Fetching

  -- nothing is held where the writer is to be polled
  pub nothing_held : fetch_due old tells n r ≡ true → (told_by tells n).holds ≡ []
  nothing_held e = nothing_by (consumer_at old r).resting (producer_at old n).over (kept_at old n) (told_by tells n).holds e

  -- the host ends fit where other items are kept
  pub kept-fits : (mid : State) (kept : List (List Item)) → mid ≡ record old { kept = kept } → Fits mid tells
  kept-fits mid kept e = subst (λ (x : State). Fits x tells) (sym e) (other_kept old kept tells h.pipe.fits)

  -- nothing is to be fetched
  pub fetch-none : fetch_due old tells n r ≡ false → Does old old tells tells (Ok replies.Done) (λ w. fetches w s n r)
  fetch-none e = Does-fetches_none old tells n s is_serving r e

  -- the types that a fetch keeps
  fetch_type : (mid : State) (told : Tells) (result : Result (Unit {0}) WriterStops) (t : FetchesStream old mid tells told s n result) → KeepsType (told_by tells n) t.after.tells
  fetch_type mid told (Ok v) t = record { kind = t.fetches.1.polled.polls.kind; payload = t.fetches.1.polled.polls.payload }
  fetch_type mid told (Err Failed) t = record { kind = t.fetches.1.polled.polls.kind; payload = t.fetches.1.polled.polls.payload }
  fetch_type mid told (Err Broke) t = record { kind = t.fetches.1.polled.polls.kind; payload = t.fetches.1.polled.polls.payload }
  fetch_type mid told (Err OutOfMemory) t = record { kind = t.fetches.tells.kind; payload = t.fetches.tells.payload }

  module _ (mid : State) (told : Tells) (result : Result (Unit {0}) WriterStops) (t : FetchesStream old mid tells told s n result) where
    streams_same : mid.streams ≡ old.streams
    streams_same = ap (λ (x : State). x.streams) t.state

    pub fetched-length : length mid.streams ≡ length old.streams
    fetched-length = ap length streams_same

    -- it is the same pipe then
    pub fetched-pipe : IsPipe mid told s n r
    fetched-pipe =
        let duty = fetches_duty result (stream_at old s).kind _ t.after t.fetches in
        let polled = record old { producers = set old.producers n t.after.producer } in
        record {
          made = rw streams_same h.pipe.made;
          writer = ap (λ xs. (get_or xs s no_stream).writer.owner) streams_same ∙ h.pipe.writer;
          reader = ap (λ xs. (get_or xs s no_stream).reader.owner) streams_same ∙ h.pipe.reader;
          fits = Fits-after _ mid _ told t.state t.ends
              (Fits-told (record polled { kept = set old.kept n t.after.kept }) tells n t.after.tells (fetch_type mid told result t)
              (other_kept polled (set old.kept n t.after.kept) tells
              (Fits-producer old tells n t.after.producer is_serving.kept (λ q e. sym duty ∙ e) h.pipe.fits)));
        }

  -- a poll that goes on
  pub fetched-does : (mid : State) (told : Tells) → FetchesStream old mid tells told s n (Ok tt) → fetch_due old tells n r ≡ true → Does old mid tells told (Ok replies.Done) (λ w. fetches w s n r)
  fetched-does mid told t due =
      let f = t.fetches in
      let is : IsFetched old tells n s r f.0 t.after.tells = record { serving = is_serving; wants = due; polls = f.1.polled.polls; room = f.1.polled.room; finish = f.1.polled.finish } in
      Does-after (t.state ∙ ap (λ (x : Fetching). record old { producers = set old.producers n x.producer; kept = set old.kept n x.kept }) f.1.after) t.ends
      (Does-fetches old tells n s r f.0 t.after.tells is f.1.failed f.1.broke)

  -- one that stops, and the store is trapped
  module _ (mid new : State) (told : Tells) (due : fetch_due old tells n r ≡ true) (is : new ≡ record mid { trapped = true }) where
    producers_then : (after : Fetching) → after.producer ≡ producer_at old n → mid ≡ record old { producers = set old.producers n after.producer; kept = set old.kept n after.kept } → new.producers ≡ old.producers
    producers_then after e m =
        ap (λ (x : State). x.producers) is ∙ ap (λ (x : State). x.producers) m ∙ ap (set old.producers n) e ∙ set-get_or old.producers n no_producer

    fetch_stops : (e : WriterStops) → FetchesStream old mid tells told s n (Err e) → Does old new tells told (stop_of e n) (λ w. fetches w s n r)
    fetch_stops Failed t =
        let f = t.fetches in
        Does-after refl t.ends
        (Does-fetches_failed old tells n s r f.0 t.after.tells (record { serving = is_serving; wants = due; polls = f.1.polled.polls; room = f.1.polled.room; finish = f.1.polled.finish }) new f.1.failed
        (producers_then t.after (ap (λ (x : Fetching). x.producer) f.1.after) t.state))
    fetch_stops Broke t =
        let f = t.fetches in
        Does-after refl t.ends
        (Does-fetches_broke old tells n s r f.0 t.after.tells (record { serving = is_serving; wants = due; polls = f.1.polled.polls; room = f.1.polled.room; finish = f.1.polled.finish }) new f.1.failed f.1.broke
        (producers_then t.after (ap (λ (x : Fetching). x.producer) f.1.after) t.state))
    fetch_stops OutOfMemory t =
        Does-after refl t.ends
        (Does-follows old new tells (with_told tells n t.after.tells) (Err None) (λ w. fetches w s n r)
        (follows-told tells n t.after.tells is_serving.there (grows-kept (told_by tells n) t.after.tells t.fetches.tells)) (λ logs x. tt) tt)

    pub fetch-stops : (e : WriterStops) → FetchesStream old mid tells told s n (Err e) → Does old new tells told (call_answered (Err (stop_of_writer e n))) (λ w. fetches w s n r)
    fetch-stops e t = subst (λ (x : Answered). Does old new tells told x (λ w. fetches w s n r)) (stop-is e n) (fetch_stops e t)

    pub fetch_stops-pipe : (e : WriterStops) → FetchesStream old mid tells told s n (Err e) → IsPipe new told s n r
    fetch_stops-pipe e t = subst (λ (x : State). IsPipe x told s n r) (sym is) (trapped_pipe mid told s n r (fetched-pipe mid told (Err e) t))

    -- where memory had run out
    pub fetch-wants : (e : WriterStops) → FetchesStream old mid tells told s n (Err e) → IfOutOfMemory (stop_of_writer e n) (RunsOutInPoll old tells told (λ w. fetches w s n r))
    fetch-wants Failed t = tt
    fetch-wants Broke t = tt
    fetch-wants OutOfMemory t =
        let said = none_from t.after.tells None false in
        let more = writer_failed t.after.tells said in
        let polled : IsFetched old tells n s r said more = record { serving = is_serving; wants = due; polls = fails_polled (told_by tells n) t.after.tells None false t.fetches.tells (nothing_held due); room = refl; finish = refl } in
        record {
          end = ends.Writer n;
          more = with_told tells n more;
          fails = subst (λ x. FailsOnce (ends.Writer n) x (with_told tells n more)) (sym t.ends) (fails_writer tells n t.after.tells said (record { failed = refl; none = refl }));
          state = old;
          does = Does-fetches_failed old tells n s r said more polled old refl refl;
        }

    pub fetch_stops-length : (e : WriterStops) → FetchesStream old mid tells told s n (Err e) → length new.streams ≡ length old.streams
    fetch_stops-length e t = ap (λ (x : State). length x.streams) is ∙ fetched-length mid told (Err e) t

  -- ## Offering

  -- what is kept of the writer once it gave all that it held
  abbrev given_none : Producer
  given_none = record (producer_at old n) { holding = false }

  -- the types that an offer keeps
  pub record OfferType (after : Offering) : Type 0 where
    pub writer : KeepsType (told_by tells n) after.writer
    pub reader : KeepsReaderType (told_by_reader tells r) after.reader

  given_keeps : (after : Offering) → after.writer ≡ writer_given (told_by tells n) None → KeepsType (told_by tells n) after.writer
  given_keeps after e = record { kind = ap (λ (x : WriterTells). x.kind) e; payload = ap (λ (x : WriterTells). x.payload) e }

  offer_type : (mid : State) (told : Tells) (result : Result Answer ReaderStops) (t : OffersStream old mid tells told s n r result) → OfferType t.after
  offer_type mid told (Ok answer) t =
      let k = t.offers.1 in
      record { writer = given_keeps t.after (ap (λ (x : Offering). x.writer) k.after); reader = record { kind = k.polled.polls.kind; payload = k.polled.polls.payload } }
  offer_type mid told (Err reader_stops.Failed) t =
      let k = t.offers.1 in
      record { writer = given_keeps t.after (ap (λ (x : Offering). x.writer) k.after); reader = record { kind = k.polled.polls.kind; payload = k.polled.polls.payload } }
  offer_type mid told (Err reader_stops.BadItem) t =
      let k = t.offers.1 in
      record { writer = given_keeps t.after (ap (λ (x : Offering). x.writer) k.after); reader = record { kind = k.polled.polls.kind; payload = k.polled.polls.payload } }
  offer_type mid told (Err reader_stops.Broke) t =
      let k = t.offers.1 in
      record { writer = given_keeps t.after (ap (λ (x : Offering). x.writer) k.after); reader = record { kind = k.polled.polls.kind; payload = k.polled.polls.payload } }
  offer_type mid told (Err reader_stops.OutOfMemory) t =
      let k = says_nothing _ t.after t.offers in
      record { writer = record { kind = k.kind; payload = k.payload }; reader = record { kind = k.reader.kind; payload = k.reader.payload } }

  module _ (mid : State) (told : Tells) (result : Result Answer ReaderStops) (t : OffersStream old mid tells told s n r result) where
    here : stream_at mid s ≡ t.after.stream
    here = ap (λ (x : State). stream_at x s) t.state ∙ get_or-set_same old.streams s t.after.stream no_stream h.pipe.made

    pub offered-length : length mid.streams ≡ length old.streams
    offered-length = ap (λ (x : State). length x.streams) t.state ∙ length-set old.streams s t.after.stream

    -- it is the same pipe then
    pub offered-pipe : IsPipe mid told s n r
    offered-pipe =
        let k = offers_keep result _ t.after t.offers in
        let types = offer_type mid told result t in
        let stream = with_stream_at (record old { producers = set old.producers n given_none }) s t.after.stream in
        let taken = record stream { consumers = set old.consumers r t.after.consumer } in
        record {
          made = rw offered-length h.pipe.made;
          writer = ap (λ (x : Stream). x.writer.owner) here ∙ ap (λ (x : End). x.owner) (k.ends Writing) ∙ h.pipe.writer;
          reader = ap (λ (x : Stream). x.reader.owner) here ∙ ap (λ (x : End). x.owner) (k.ends Reading) ∙ h.pipe.reader;
          fits = Fits-after _ mid _ told t.state t.ends
              (Fits-told_reader (record taken { kept = set old.kept n t.after.kept }) (with_told tells n t.after.writer) r t.after.reader types.reader
              (Fits-told (record taken { kept = set old.kept n t.after.kept }) tells n t.after.writer types.writer
              (other_kept taken (set old.kept n t.after.kept) tells
              (Fits-consumer stream tells r t.after.consumer is_reading.kept (λ q e. sym k.duty ∙ e)
              (Fits-stream (record old { producers = set old.producers n given_none }) tells s t.after.stream (record { kind = k.kind; payload = k.payload })
              (Fits-producer old tells n given_none is_serving.kept (λ q e. e) h.pipe.fits))))));
        }

  -- nothing is to be offered
  pub offer-none : (new : State) (more : Tells) → offer_due old tells n r ≡ false → Does old new tells more (Ok replies.Done) (λ w. ends_if_done w s n r None) → Does old new tells more (Ok replies.Done) (offer_part s n r)
  offer-none new more e d = Does-offers_none old new tells more s n r (Ok replies.Done) is_serving e d

  -- a poll that goes on, and what follows
  module _ (mid new : State) (told more : Tells) (answer : Answer) (t : OffersStream old mid tells told s n r (Ok answer)) (due : offer_due old tells n r ≡ true) where
    pub offered-does : Does mid new told more (Ok replies.Done) (λ w. ends_if_done w s n r (Some answer)) → Does old new tells more (Ok replies.Done) (offer_part s n r)
    offered-does d =
        let said = t.offers.0 in
        let k = t.offers.1 in
        let o : IsOffered old tells n s r said t.after.reader = record { serving = is_serving; offers = due; there = is_reading.there; polls = k.polled.polls; offered = k.polled.offered; since = k.polled.after; finish = k.polled.finish; good = k.polled.good } in
        let all = held_on old tells n in
        let after = passed_in old tells n s r said t.after.reader o in
        let state : mid ≡ after =
        t.state
        ∙ ap (λ (x : Offering). record old { streams = set old.streams s x.stream; producers = set old.producers n given_none; kept = set old.kept n x.kept; consumers = set old.consumers r x.consumer }) k.after
        ∙ ap (λ ks. record after { kept = ks }) (sym (set_again old.kept n all [] (drop said.taken))) in
        let ends : told ≡ offered_tells old tells n s r said t.after.reader o =
        t.ends ∙ ap (λ (x : Offering). with_told_reader (with_told tells n x.writer) r t.after.reader) k.after in
        Does-offers old tells n s r said t.after.reader o new more (Ok replies.Done)
        (record { failed = k.failed; good = k.good; broke = k.broke })
        (subst (λ a. Does after new (offered_tells old tells n s r said t.after.reader o) more (Ok replies.Done) (λ w. ends_if_done w s n r (Some a))) k.says
        (subst (λ (x : State). Does x new (offered_tells old tells n s r said t.after.reader o) more (Ok replies.Done) (λ w. ends_if_done w s n r (Some answer))) state
        (subst (λ (x : Tells). Does mid new x more (Ok replies.Done) (λ w. ends_if_done w s n r (Some answer))) ends d)))
        (λ u. u)

  -- one that stops, and the store is trapped
  module _ (mid new : State) (told : Tells) (due : offer_due old tells n r ≡ true) (is : new ≡ record mid { trapped = true }) where
    same_producers : {result : Result Answer ReaderStops} → OffersStream old mid tells told s n r result → new.producers ≡ set old.producers n given_none
    same_producers t = ap (λ (x : State). x.producers) is ∙ ap (λ (x : State). x.producers) t.state

    ends_then : (after : Offering) → after.writer ≡ writer_given (told_by tells n) None → told ≡ with_told_reader (with_told tells n after.writer) r after.reader → told ≡ with_told_reader (with_told tells n (writer_given (told_by tells n) None)) r after.reader
    ends_then after e m = m ∙ ap (λ x. with_told_reader (with_told tells n x) r after.reader) e

    offer_stops : (e : ReaderStops) → OffersStream old mid tells told s n r (Err e) → Does old new tells told (cause_of e r s) (offer_part s n r)
    offer_stops reader_stops.Failed t =
        let k = t.offers.1 in
        Does-after refl (ends_then t.after (ap (λ (x : Offering). x.writer) k.after) t.ends)
        (Does-offers_failed old tells n s r t.offers.0 t.after.reader (record { serving = is_serving; offers = due; there = is_reading.there; polls = k.polled.polls; offered = k.polled.offered; since = k.polled.after; finish = k.polled.finish; good = k.polled.good })
        new k.failed (same_producers t))
    offer_stops reader_stops.BadItem t =
        let k = t.offers.1 in
        Does-after refl (ends_then t.after (ap (λ (x : Offering). x.writer) k.after) t.ends)
        (Does-offers_bad old tells n s r t.offers.0 t.after.reader (record { serving = is_serving; offers = due; there = is_reading.there; polls = k.polled.polls; offered = k.polled.offered; since = k.polled.after; finish = k.polled.finish; good = k.polled.good })
        new k.failed k.bad (same_producers t))
    offer_stops reader_stops.Broke t =
        let k = t.offers.1 in
        Does-after refl (ends_then t.after (ap (λ (x : Offering). x.writer) k.after) t.ends)
        (Does-offers_broke old tells n s r t.offers.0 t.after.reader (record { serving = is_serving; offers = due; there = is_reading.there; polls = k.polled.polls; offered = k.polled.offered; since = k.polled.after; finish = k.polled.finish; good = k.polled.good })
        new k.failed k.good k.broke (same_producers t))
    offer_stops reader_stops.OutOfMemory t =
        let k = says_nothing _ t.after t.offers in
        let given_up = with_told tells n t.after.writer in
        Does-after refl t.ends
        (Does-follows old new tells (with_told_reader given_up r t.after.reader) (Err None) (offer_part s n r)
        (follows-then tells given_up (with_told_reader given_up r t.after.reader)
        (follows-told tells n t.after.writer is_serving.there (grows-same (told_by tells n) t.after.writer k.payload k.said k.faults))
        (follows-told_reader given_up r t.after.reader is_reading.there (grows-same_reader (told_by_reader tells r) t.after.reader k.reader.said k.reader.faults)))
        (λ logs x. tt) tt)

    pub offer-stops : (e : ReaderStops) → OffersStream old mid tells told s n r (Err e) → Does old new tells told (call_answered (Err (stop_of_reader e r s))) (offer_part s n r)
    offer-stops e t = subst (λ (x : Answered). Does old new tells told x (offer_part s n r)) (cause-is e r s) (offer_stops e t)

    pub offer_stops-fits : (e : ReaderStops) → OffersStream old mid tells told s n r (Err e) → Fits new told
    offer_stops-fits e t = subst (λ (x : State). Fits x told) (sym is) (though_trapped mid told (offered-pipe mid told (Err e) t).fits)

    -- what the offer began with
    abbrev offer_old : Offering
    offer_old = offering (stream_at old s) (consumer_at old r) (kept_at old n) (told_by tells n) (told_by_reader tells r)

    -- host ends tell what it left
    abbrev TellsSo : Offering → Type 0
    TellsSo after = told ≡ with_told_reader (with_told tells n after.writer) r after.reader

    -- memory had run out before the poll
    unpolled : (after : Offering) → TellsSo after → Ungathered offer_old after → RunsOutInOffer n old tells told (offer_part s n r)
    unpolled after e u =
        let same : told ≡ tells =
        e
        ∙ ap (λ w. with_told_reader (with_told tells n w) r after.reader) u.writer.same
        ∙ ap (λ t. with_told_reader (with_told tells n (told_by tells n)) r t) u.reader
        ∙ ap (λ (x : Tells). with_told_reader x r (told_by_reader tells r)) (told-same tells n)
        ∙ ap (λ rs. record tells { readers = rs }) (set-get_or tells.readers r no_reader_tells) in
        Unpolled same (subst (λ (x : Tells). (told_by x n).holds ≢ []) (sym same) u.writer.some)

    -- or in it
    polled : (after : Offering) → TellsSo after → Unoffered offer_old after → RunsOutInOffer n old tells told (offer_part s n r)
    polled after e u =
        let offered = length (held_on old tells n) in
        let since = (consumer_at old r).since in
        let said = none_to offered since false in
        let more = reader_failed after.reader said in
        let gave = with_told tells n (writer_given (told_by tells n) None) in
        let o : IsOffered old tells n s r said more = record {
          serving = is_serving;
          offers = due;
          there = is_reading.there;
          polls = fails_offered (told_by_reader tells r) after.reader offered since false u.reader;
          offered = refl;
          since = refl;
          finish = refl;
          good = refl;
        } in
        Polled (record {
          end = ends.Reader r;
          more = with_told_reader gave r more;
          fails = subst (λ x. FailsOnce (ends.Reader r) x (with_told_reader gave r more)) (sym (ends_then after u.writer e)) (fails_reader gave r after.reader said (record { failed = refl; none = refl; good = refl }));
          state = gathered_in old tells n;
          does = Does-offers_failed old tells n s r said more o (gathered_in old tells n) refl refl;
        })

    offer_wants : (after : Offering) → TellsSo after → Ungathered offer_old after ⊎ Unoffered offer_old after → RunsOutInOffer n old tells told (offer_part s n r)
    offer_wants after e (inl u) = unpolled after e u
    offer_wants after e (inr u) = polled after e u

    -- where memory had run out
    pub offer-wants : (e : ReaderStops) → OffersStream old mid tells told s n r (Err e) → IfOutOfMemory (stop_of_reader e r s) (RunsOutInOffer n old tells told (offer_part s n r))
    offer-wants reader_stops.Failed t = tt
    offer-wants reader_stops.BadItem t = tt
    offer-wants reader_stops.Broke t = tt
    offer-wants reader_stops.OutOfMemory t = offer_wants t.after t.ends t.offers.ends

    pub offer_stops-length : (e : ReaderStops) → OffersStream old mid tells told s n r (Err e) → length new.streams ≡ length old.streams
    offer_stops-length e t = ap (λ (x : State). length x.streams) is ∙ offered-length mid told (Err e) t

  -- ## Ending

  -- the pipe goes on
  pub end-none : (answer : Option Answer) → end_due old tells s n r answer ≡ false → Does old old tells tells (Ok replies.Done) (λ w. ends_if_done w s n r answer)
  end-none answer e = Does-ends_not old tells n s r answer is_serving e

  -- it ends: what was kept was given up, and then both ends went
  module _ (mid new : State) (told : Tells) (is : mid ≡ record old { kept = set old.kept n [] }) (x : EndsPipe (stream_at mid s).writer.owner mid new tells told s r) where
    ends_as : WriterEnds (unread_in (record old { kept = set old.kept n [] }) s r) new (reader_closed tells r) told n
    ends_as =
        subst (λ (v : State). WriterEnds (unread_in v s r) new (reader_closed tells r) told n) is
        (subst (λ o. EndsPipe o mid new tells told s r) (ap (λ (v : State). (stream_at v s).writer.owner) is ∙ h.pipe.writer) x)

    left : AreBothLeft old tells s n r (without_ends (stream_at old s)) (told_by told n)
    left = record {
      there = is_serving.there;
      kept = is_serving.kept;
      owner = h.pipe.writer;
      gone = refl;
      closes = ends_as.closes;
      reader_there = is_reading.there;
      reader_owner = h.pipe.reader;
      reader_gone = refl;
    }

    pub end-does : (answer : Option Answer) → end_due old tells s n r answer ≡ true → Does old new tells told (Ok replies.Done) (λ w. ends_if_done w s n r answer)
    end-does answer e =
        Does-after ends_as.state ends_as.others (Does-ends old tells n s r answer is_serving (told_by told n) e left)

    unread_fits : Fits (unread_in (record old { kept = set old.kept n [] }) s r) (reader_closed tells r)
    unread_fits =
        let gone = with_stream_at (record old { kept = set old.kept n [] }) s (without_ends (stream_at old s)) in
        Fits-told_reader (ended_reader_in gone r) tells r (closed_tells (told_by_reader tells r)) (record { kind = refl; payload = refl })
        (Fits-reader_ended gone tells r is_reading.kept
        (Fits-stream (record old { kept = set old.kept n [] }) tells s (without_ends (stream_at old s)) (record { kind = refl; payload = refl })
        (other_kept old (set old.kept n []) tells h.pipe.fits)))

    pub end-fits : Fits new told
    end-fits =
        let unread = unread_in (record old { kept = set old.kept n [] }) s r in
        Fits-after (ended_in unread n) new (with_told (reader_closed tells r) n (told_by told n)) told ends_as.state ends_as.others
        (Fits-told (ended_in unread n) (reader_closed tells r) n (told_by told n) (keeps-closed (told_by tells n) (told_by told n) ends_as.closes)
        (Fits-ended unread (reader_closed tells r) n is_serving.kept unread_fits))

    pub end-length : length new.streams ≡ length old.streams
    end-length = ap (λ (v : State). length v.streams) ends_as.state ∙ length-set old.streams s (without_ends (stream_at old s))

-- ## The round

-- a fetch that stops, stops it
pub round-stops : (old new : State) (tells told : Tells) (s n r : ℕ) (error : StoreError) → IsStop error → Does old new tells told (call_answered (Err error)) (λ w. fetches w s n r)
    → Does old new tells told (call_answered (Err error)) (λ w. pipe_round w s n r)
round-stops old new tells told s n r error stop d =
    let same = stop_is error stop in
    subst (λ (x : Answered). Does old new tells told x (λ w. pipe_round w s n r)) (sym same)
    (Does-round_stop old new tells told s n r (stop_cause error)
    (subst (λ (x : Answered). Does old new tells told x (λ w. fetches w s n r)) same d))

-- memory had run out in a round of stream s
abbrev RoundRunsOut : State → Tells → Tells → ℕ → ℕ → ℕ → Type 0
RoundRunsOut old tells told s n r = RunsOutAt s n r old tells told (λ w. pipe_round w s n r) (λ w. fetches w s n r)

-- in its fetch
pub round-fetch_wants : (old : State) (tells told : Tells) (s n r : ℕ) → RunsOutInPoll old tells told (λ w. fetches w s n r) → RoundRunsOut old tells told s n r
round-fetch_wants old tells told s n r w =
    InPoll (record {
      end = w.end;
      more = w.more;
      fails = w.fails;
      state = w.state;
      does = Does-round_stop old w.state tells w.more s n r (Some (HostFailed w.end)) w.does;
    })

module _ (old mid : State) (tells told more : Tells) (s n r : ℕ) (d : Does old mid tells told (Ok replies.Done) (λ w. fetches w s n r)) (p : IsPipe mid told s n r) where
  -- or in the offer behind it
  pub round-offer_wants : RunsOutInOffer n mid told more (offer_part s n r) → RoundRunsOut old tells more s n r
  round-offer_wants (Polled w) =
      InPoll (record {
        end = w.end;
        more = w.more;
        fails = w.fails;
        state = w.state;
        does = Does-round old mid w.state tells told w.more s n r (Err (Some (HostFailed w.end))) d w.does;
      })
  round-offer_wants (Unpolled same held) =
      BeforeOffer (record {
        state = mid;
        does = subst (λ (x : Tells). Does old mid tells x (Ok replies.Done) (λ w. fetches w s n r)) (sym same) d;
        holds = record { writer = p.writer; reader = p.reader; held = held };
      })
