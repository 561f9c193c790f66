-- The round of a pipe, part by part: what is fetched, what is offered and taken, and the end.
use Rattle.std.proofs.Common.{◌≡◌, ℕ, ◌<◌, ◌==◌, ◌||◌, ◌&&◌, Bool, true, false, cond, List, [], ◌++◌, length, take, drop, Option, Some, None, Ok, Err, refl, sym, ap, subst, ◌∙◌, arith}
use Rattle.std.specs.Prelude.{slice_set, nat_le, not}
use Rattle.std.proofs.lemmas.Bool.{eq-eqb}
use Rattle.std.proofs.lemmas.Bool.Decides.{nat_tests}
use Rattle.strm_codes.specs.declared.codes.TransmitKind.{TransmitKind}
use Rattle.strm_buffers.specs.declared.answers.Answer.{Answer}
use Rattle.strm_buffers.specs.declared.answers.Answer.TheVariants.{Failed}
use Rattle.strm_buffers.specs.declared.answers.ReaderSaid.{ReaderSaid}
use Rattle.strm_buffers.specs.HostRules.{breaks_as_writer, breaks_as_reader}
use Rattle.strm_buffers.specs.Listing.{Item}
use Rattle.strm_buffers.specs.Said.{WriterSaid}
use Rattle.strm_codes.specs.Counters.{Rose}
use Rattle.strm_buffers.specs.Tells.{WriterTells, ReaderTells, Tells, no_tells, told_by, with_told, PollsWriter, PollsReader, RisesOnFailed, writer_given, told_by_reader, with_told_reader}
use Rattle.strm_machine.specs.State.{State, no_producer, producer_at, kept_at, consumer_at, stream_at}
use Rattle.strm_machine.specs.Reactions.{with_stream_at}
use Rattle.strm_machine.specs.declared.stops.Stop.{Stop}
use Rattle.strm_machine.specs.declared.stops.Stop.TheVariants.{HostFailed, HostBroke, BadItem}
use Rattle.strm_machine.specs.declared.streams.Consumer.{Consumer}
use Rattle.strm_machine.specs.declared.streams.HostEnd.TheVariants as ends
use Rattle.strm_machine.specs.declared.streams.Producer.{Producer}
use Rattle.strm_machine.specs.declared.streams.Side.TheVariants.{Writing, Reading}
use Rattle.strm_machine.specs.declared.replies.Reply.TheVariants as replies
use Rattle.strm_machine.proofs.TableLemmas.{OwnersStay}
use Rattle.strm_host_machine.specs.Ends.{Writer}
use Rattle.strm_host_machine.specs.World.{World, writer_at, held_of, with_producer, with_writer, with_kept}
use Rattle.strm_host_machine.specs.Outcomes.{Outcome, Stops, done, stops}
use Rattle.strm_host_machine.specs.Polls.{AfterWriter, AfterReader, is_failed, same_flag, same_room, is_writer_poll, writer_judged, is_reader_poll, reader_judged, polls_writer, polls_reader}
use Rattle.strm_host_machine.specs.Settling.{with_some_received, since_after}
use Rattle.strm_host_machine.specs.WriterTurn.{is_last, with_answer}
use Rattle.strm_host_machine.specs.Attaching.{has_items, without_ends}
use Rattle.strm_host_machine.specs.Piping.{wants_items, fetches, gathered, is_resting, passed_on, offers, is_done_with, is_run_dry, both_gone, ends_if_done, pipe_round}
use Rattle.strm_host_machine.specs.Does.{Logs, LogBegins, first_log, Extends, writers_from, readers_from, world_of, Answered, Does}
use Rattle.strm_host_machine.proofs.WorldLemmas.{writers_from-duty}
use Rattle.strm_host_machine.proofs.DoesLemmas.{Does-then, Does-stop, Does-untold}
use Rattle.strm_host_machine.proofs.GrowLemmas.{Does-told, grows-polled, begins-told, told_by-told}
use Rattle.strm_host_machine.proofs.PollLemmas.{IsServing, IsRecorded, writer_at-serving, with_writer-serving, polls_writer-box}
use Rattle.strm_host_machine.proofs.CloseLemmas.{ended_in}
use Rattle.strm_host_machine.proofs.ReaderLemmas.{IsReaderPolled, polls_reader-box, ended_reader_in}
use Rattle.strm_host_machine.proofs.SettleLemmas.{some_received-owner, with_stream_in-stays, AreBothLeft, with_reader_closed, with_stream_in-both_left}

same_flag-refl : (b : Bool) → same_flag b b ≡ true
same_flag-refl true = refl
same_flag-refl false = refl

-- what is held, by what the store keeps and the writer tells
abbrev pub held_told : State → Tells → ℕ → List Item
held_told state tells n = kept_at state n ++ (told_by tells n).holds

-- whether the writer is to be polled
abbrev pub wants_told : State → Tells → ℕ → ℕ → Bool
wants_told state tells n r =
    not (consumer_at state r).resting && (not (has_items (held_told state tells n)) && not (producer_at state n).over)

-- whether the reader is to be polled
abbrev pub offers_told : State → Tells → ℕ → ℕ → Bool
offers_told state tells n r = has_items (held_told state tells n) || (consumer_at state r).resting

-- whether the pipe ends, once the reader answered so, if it was polled
abbrev pub ends_told : State → Tells → ℕ → ℕ → ℕ → Option Answer → Bool
ends_told state tells s n r answer =
    is_done_with (stream_at state s).kind answer
    || ((producer_at state n).over && (not (has_items (held_told state tells n)) && not (consumer_at state r).resting))

module _ (state : State) (tells : Tells) (n s : ℕ) (i : IsServing state tells n s) where
  pub held-told : (logs : Logs) → held_of (world_of state tells logs) n ≡ held_told state tells n
  held-told logs = ap (λ (w : Writer). kept_at state n ++ w.holds) (writer_at-serving state tells logs n s i)

  -- ## Fetching

  wants-told : (logs : Logs) (r : ℕ) → wants_items (world_of state tells logs) n r ≡ wants_told state tells n r
  wants-told logs r = ap (λ xs. not (consumer_at state r).resting && (not (has_items xs) && not (producer_at state n).over)) (held-told logs)

  -- the writer is not polled
  pub Does-fetches_none : (r : ℕ) → wants_told state tells n r ≡ false → Does state state tells tells (Ok replies.Done) (λ w. fetches w s n r)
  Does-fetches_none r e =
      Does-untold state state tells (Ok replies.Done) (λ w. fetches w s n r)
      (λ logs. ap (λ b. cond b (polls_writer (world_of state tells logs) s n None false (λ after said. done (with_kept (with_answer after n said.answer []) n said.items))) (done (world_of state tells logs))) (wants-told logs r ∙ e)) tt

-- the writer is polled with no stated room, and all that it produced is marked
pub record IsFetched (state : State) (tells : Tells) (n s r : ℕ) (said : WriterSaid) (w : WriterTells) : Type 0 where
  pub serving : IsServing state tells n s
  pub wants : wants_told state tells n r ≡ true
  pub polls : PollsWriter (told_by tells n) w said said.items
  pub room : said.room ≡ None
  pub finish : said.finish ≡ false

module _ (old : State) (tells : Tells) (n s r : ℕ) (said : WriterSaid) (w : WriterTells) (f : IsFetched old tells n s r said w) where
  asked_is : is_writer_poll None false said ≡ true
  asked_is =
      ap (λ room. same_room room None && same_flag said.finish false) f.room
      ∙ ap (λ b. same_flag b false) f.finish

  is_recorded : (logs : Logs) → Extends (with_told tells n w) logs → IsRecorded tells logs n None false said w
  is_recorded logs e = record {
    marked = said.items;
    polls = f.polls;
    asked = asked_is;
    room_is = f.room;
    begins = begins-told tells.writers logs.writers n w f.serving.there e.0;
  }

  -- what goes on after its record
  abbrev next : AfterWriter
  next after said' = done (with_kept (with_answer after n said'.answer []) n said'.items)

  abbrev polled : Logs → World
  polled logs = world_of old (with_told tells n w) logs

  judged : (logs : Logs) → Extends (with_told tells n w) logs → fetches (world_of old tells logs) s n r ≡ writer_judged (polled logs) (stream_at old s).kind n said next
  judged logs e =
      ap (λ b. cond b (polls_writer (world_of old tells logs) s n None false next) (done (world_of old tells logs))) (wants-told old tells n s f.serving logs r ∙ f.wants)
      ∙ polls_writer-box old tells logs n s f.serving None false said w (is_recorded logs e) s next

  -- what is kept of it then
  abbrev pub kept_after : Producer
  kept_after = record (producer_at old n) { over = (producer_at old n).over || is_last said.answer; holding = false }

  -- and of its items
  abbrev pub fetched_in : State
  fetched_in = record old {
    producers = slice_set old.producers n kept_after;
    kept = slice_set old.kept n said.items;
  }

  abbrev broke_or : Logs → Bool → Outcome
  broke_or logs b = cond b (stops (HostBroke (ends.Writer n)) (polled logs)) (next (polled logs) said)

  abbrev failed_or : Logs → Bool → Outcome
  failed_or logs b = cond b (stops (HostFailed (ends.Writer n)) (polled logs)) (broke_or logs (breaks_as_writer (stream_at old s).kind said))

  pub Does-fetches : is_failed said.answer ≡ false → breaks_as_writer (stream_at old s).kind said ≡ false
      → Does old fetched_in tells (with_told tells n w) (Ok replies.Done) (λ v. fetches v s n r)
  Does-fetches g b =
      Does-told old fetched_in tells n w (Ok replies.Done) (λ v. fetches v s n r) f.serving.there
      (grows-polled (told_by tells n) w said said.items f.polls)
      (λ logs e. judged logs e ∙ ap (failed_or logs) g ∙ ap (broke_or logs) b
      ∙ ap (λ ws. done (record (polled logs) { state = fetched_in; writers = ws }))
      (sym (writers_from-duty old.producers (with_told tells n w).writers logs.writers n kept_after no_producer refl)))
      tt

  stops-by : (new : State) (logs : Logs) (stop : Stop) → new.producers ≡ old.producers
      → stops stop (polled logs) ≡ Stops stop (world_of new (with_told tells n w) logs).writers (world_of new (with_told tells n w) logs).readers
  stops-by new logs stop e =
      ap (λ ps. Stops stop (writers_from ps (with_told tells n w).writers logs.writers) (readers_from tells.readers logs.readers)) (sym e)

  faults_rise : said.answer ≡ Failed → Rose (told_by tells n).faults (told_by (with_told tells n w) n).faults
  faults_rise g =
      subst (λ (v : WriterTells). Rose (told_by tells n).faults v.faults) (sym (told_by-told tells.writers n w no_tells f.serving.there))
      (subst (λ a. RisesOnFailed a (told_by tells n).faults w.faults) g f.polls.faults)

  pub Does-fetches_failed : (new : State) → said.answer ≡ Failed → new.producers ≡ old.producers
      → Does old new tells (with_told tells n w) (Err (Some (HostFailed (ends.Writer n)))) (λ v. fetches v s n r)
  Does-fetches_failed new g e =
      Does-told old new tells n w (Err (Some (HostFailed (ends.Writer n)))) (λ v. fetches v s n r) f.serving.there
      (grows-polled (told_by tells n) w said said.items f.polls)
      (λ logs x. judged logs x ∙ ap (λ a. failed_or logs (is_failed a)) g ∙ stops-by new logs (HostFailed (ends.Writer n)) e)
      (faults_rise g)

  pub Does-fetches_broke : (new : State) → is_failed said.answer ≡ false → breaks_as_writer (stream_at old s).kind said ≡ true → new.producers ≡ old.producers
      → Does old new tells (with_told tells n w) (Err (Some (HostBroke (ends.Writer n)))) (λ v. fetches v s n r)
  Does-fetches_broke new g b e =
      Does-told old new tells n w (Err (Some (HostBroke (ends.Writer n)))) (λ v. fetches v s n r) f.serving.there
      (grows-polled (told_by tells n) w said said.items f.polls)
      (λ logs x. judged logs x ∙ ap (failed_or logs) g ∙ ap (broke_or logs) b ∙ stops-by new logs (HostBroke (ends.Writer n)) e)
      tt

-- ## Offering

-- the state in which all that is held is kept, and what the ends tell then
abbrev pub gathered_in : State → Tells → ℕ → State
gathered_in state tells n = record state {
  producers = slice_set state.producers n (record (producer_at state n) { holding = false });
  kept = slice_set state.kept n (held_told state tells n);
}

abbrev pub gathered_tells : Tells → ℕ → Tells
gathered_tells tells n = with_told tells n (writer_given (told_by tells n) None)

module _ (state : State) (tells : Tells) (n s : ℕ) (i : IsServing state tells n s) where
  pub gathered-box : (logs : Logs) → gathered (world_of state tells logs) n ≡ world_of (gathered_in state tells n) (gathered_tells tells n) logs
  gathered-box logs =
      let kept = record state { kept = slice_set state.kept n (held_told state tells n) } in
      let none = record (producer_at state n) { holding = false } in
      ap (λ xs. with_producer (with_writer (with_kept (world_of state tells logs) n xs) n (record (writer_at (world_of state tells logs) n) { holds = [] })) n none) (held-told state tells n s i logs)
      ∙ ap (λ (w : Writer). with_producer (with_writer (world_of kept tells logs) n (record w { holds = [] })) n none) (writer_at-serving state tells logs n s i)
      ∙ ap (λ v. with_producer v n none) (with_writer-serving kept tells logs n s (record { there = i.there; kept = i.kept; duty = i.duty }) (writer_given (told_by tells n) None))
      ∙ ap (λ ws. record (world_of kept (gathered_tells tells n) logs) { state = gathered_in state tells n; writers = ws })
      (sym (writers_from-duty state.producers (gathered_tells tells n).writers logs.writers n none no_producer refl))

  -- the reader is not polled
  pub offers-none : (logs : Logs) (r : ℕ) (next : World → Option Answer → Outcome) → offers_told state tells n r ≡ false
      → offers (world_of state tells logs) s n r next ≡ next (world_of state tells logs) None
  offers-none logs r next e =
      ap (λ xs. cond (has_items xs || (consumer_at state r).resting) (polls_reader (gathered (world_of state tells logs) n) s r (length xs) false (λ k. take k xs) (λ after said. next (passed_on after s n r said.answer said.taken) (Some said.answer))) (next (world_of state tells logs) None)) (held-told state tells n s i logs)
      ∙ ap (λ b. cond b (polls_reader (gathered (world_of state tells logs) n) s r (length (held_told state tells n)) false (λ k. take k (held_told state tells n)) (λ after said. next (passed_on after s n r said.answer said.taken) (Some said.answer))) (next (world_of state tells logs) None)) e

-- the reader is polled with all that is held
pub record IsOffered (state : State) (tells : Tells) (n s r : ℕ) (said : ReaderSaid) (t : ReaderTells) : Type 0 where
  pub serving : IsServing state tells n s
  pub offers : offers_told state tells n r ≡ true
  pub there : r < length tells.readers
  pub polls : PollsReader (told_by_reader tells r) t said (take said.taken (held_told state tells n))
  pub offered : said.offered ≡ length (held_told state tells n)
  pub since : said.since ≡ (consumer_at state r).since
  pub finish : said.finish ≡ false
  pub good : said.bad ≡ false

-- a poll that goes on: it didn't fail, asked for no item that is none, and kept the rules
pub record PollPasses (kind : TransmitKind) (said : ReaderSaid) : Type 0 where
  pub failed : is_failed said.answer ≡ false
  pub good : said.bad ≡ false
  pub broke : breaks_as_reader kind said ≡ false

module _ (old : State) (tells : Tells) (n s r : ℕ) (said : ReaderSaid) (t : ReaderTells) (o : IsOffered old tells n s r said t) where
  abbrev held : List Item
  held = held_told old tells n

  -- what all ends tell then
  abbrev pub offered_tells : Tells
  offered_tells = with_told_reader (gathered_tells tells n) r t

  most_is : nat_le said.taken (length held) ≡ true
  most_is = let most = o.polls.most in let offered = o.offered in grind (arith, nat_tests)

  poll_is : is_reader_poll (length held) (consumer_at old r).since false said ≡ true
  poll_is =
      ap (λ b. b && ((said.since == (consumer_at old r).since) && (same_flag said.finish false && nat_le said.taken (length held)))) (eq-eqb said.offered (length held) o.offered)
      ∙ ap (λ b. b && (same_flag said.finish false && nat_le said.taken (length held))) (eq-eqb said.since (consumer_at old r).since o.since)
      ∙ ap (λ b. same_flag b false && nat_le said.taken (length held)) o.finish
      ∙ most_is

  -- the log of the reader begins with what it said
  abbrev pub BeginsSo : Logs → Type 0
  BeginsSo logs = LogBegins t.said (first_log (drop r logs.readers))

  is_polled : (logs : Logs) → BeginsSo logs → IsReaderPolled (gathered_in old tells n) (gathered_tells tells n) logs r (length held) false (λ k. take k held) said t
  is_polled logs e = record { took = take said.taken held; there = o.there; polls = o.polls; taken = refl; asked = poll_is; next = λ b. absurd (let f = sym o.good ∙ b in cc); begins = e }

  abbrev after_poll : Logs → World
  after_poll logs = world_of (gathered_in old tells n) offered_tells logs

  module _ (next : World → Option Answer → Outcome) where
    abbrev goes_on : AfterReader
    goes_on after said' = next (passed_on after s n r said'.answer said'.taken) (Some said'.answer)

    pub offers-judged : (logs : Logs) → BeginsSo logs → offers (world_of old tells logs) s n r next ≡ reader_judged (after_poll logs) (stream_at old s).kind s r said goes_on
    offers-judged logs e =
        ap (λ xs. cond (has_items xs || (consumer_at old r).resting) (polls_reader (gathered (world_of old tells logs) n) s r (length xs) false (λ k. take k xs) goes_on) (next (world_of old tells logs) None)) (held-told old tells n s o.serving logs)
        ∙ ap (λ b. cond b (polls_reader (gathered (world_of old tells logs) n) s r (length held) false (λ k. take k held) goes_on) (next (world_of old tells logs) None)) o.offers
        ∙ ap (λ v. polls_reader v s r (length held) false (λ k. take k held) goes_on) (gathered-box old tells n s o.serving logs)
        ∙ polls_reader-box (gathered_in old tells n) (gathered_tells tells n) logs r (length held) false (λ k. take k held) said t (is_polled logs e) s goes_on

  -- what is kept of the reader then, the items left, and the stream
  abbrev pub rested : Consumer
  rested = record (consumer_at old r) { since = since_after said.answer (consumer_at old r).since said.taken; resting = is_resting said.answer }

  abbrev pub passed_in : State
  passed_in =
      let mid = gathered_in old tells n in
      with_stream_at
      (record mid { kept = slice_set mid.kept n (drop said.taken (kept_at mid n)); consumers = slice_set mid.consumers r rested })
      s (with_some_received (stream_at old s) said.taken)

  received-owners : OwnersStay (stream_at old s) (with_some_received (stream_at old s) said.taken)
  received-owners = record {
    writer = some_received-owner Writing (stream_at old s) (said.taken == 0) said.taken;
    reader = some_received-owner Reading (stream_at old s) (said.taken == 0) said.taken;
  }

  passed_on-is : (logs : Logs) → passed_on (after_poll logs) s n r said.answer said.taken ≡ world_of passed_in offered_tells logs
  passed_on-is logs =
      let mid = gathered_in old tells n in
      with_stream_in-stays (record mid { kept = slice_set mid.kept n (drop said.taken (kept_at mid n)); consumers = slice_set mid.consumers r rested }) offered_tells logs s (with_some_received (stream_at old s) said.taken) received-owners

  -- the items that it took are gone, and what follows goes by its answer
  pub offers-passed : (next : World → Option Answer → Outcome) (logs : Logs) → BeginsSo logs → PollPasses (stream_at old s).kind said
      → offers (world_of old tells logs) s n r next ≡ next (world_of passed_in offered_tells logs) (Some said.answer)
  offers-passed next logs e p =
      offers-judged next logs e
      ∙ ap (λ x. cond x (stops (HostFailed (ends.Reader r)) (after_poll logs)) (cond said.bad (stops (BadItem s) (after_poll logs)) (cond (breaks_as_reader (stream_at old s).kind said) (stops (HostBroke (ends.Reader r)) (after_poll logs)) (next (passed_on (after_poll logs) s n r said.answer said.taken) (Some said.answer))))) p.failed
      ∙ ap (λ x. cond x (stops (BadItem s) (after_poll logs)) (cond (breaks_as_reader (stream_at old s).kind said) (stops (HostBroke (ends.Reader r)) (after_poll logs)) (next (passed_on (after_poll logs) s n r said.answer said.taken) (Some said.answer)))) p.good
      ∙ ap (λ x. cond x (stops (HostBroke (ends.Reader r)) (after_poll logs)) (next (passed_on (after_poll logs) s n r said.answer said.taken) (Some said.answer))) p.broke
      ∙ ap (λ v. next v (Some said.answer)) (passed_on-is logs)

-- ## Ending

module _ (state : State) (tells : Tells) (n s r : ℕ) (answer : Option Answer) (i : IsServing state tells n s) where
  ends-told : (logs : Logs) → is_done_with (stream_at state s).kind answer || is_run_dry (world_of state tells logs) n r ≡ ends_told state tells s n r answer
  ends-told logs = ap (λ xs. is_done_with (stream_at state s).kind answer || ((producer_at state n).over && (not (has_items xs) && not (consumer_at state r).resting))) (held-told state tells n s i logs)

  pub ends-not : (logs : Logs) → ends_told state tells s n r answer ≡ false → ends_if_done (world_of state tells logs) s n r answer ≡ done (world_of state tells logs)
  ends-not logs e = ap (λ b. cond b (done (both_gone (world_of state tells logs) s n)) (done (world_of state tells logs))) (ends-told logs ∙ e)

  -- the state in which both ends are gone and nothing is kept
  abbrev pub over_in : State
  over_in =
      let gone = ended_in (ended_reader_in (with_stream_at state s (without_ends (stream_at state s))) r) n in
      record gone { kept = slice_set gone.kept n [] }

  pub ends-both : (logs : Logs) (w : WriterTells) → ends_told state tells s n r answer ≡ true → AreBothLeft state tells s n r (without_ends (stream_at state s)) w
      → ends_if_done (world_of state tells logs) s n r answer ≡ done (world_of over_in (with_told (with_reader_closed tells r) n w) logs)
  ends-both logs w e l =
      ap (λ b. cond b (done (both_gone (world_of state tells logs) s n)) (done (world_of state tells logs))) (ends-told logs ∙ e)
      ∙ ap (λ v. done (with_kept v n [])) (with_stream_in-both_left state tells logs s n r (without_ends (stream_at state s)) w l)

-- ## The round

-- what is offered and how it ends
abbrev pub offers_and_ends : ℕ → ℕ → ℕ → World → Outcome
offers_and_ends s n r world = offers world s n r (λ after answer. ends_if_done after s n r answer)

pub Does-round : (old mid new : State) (tells told more : Tells) (s n r : ℕ) (result : Answered) → Does old mid tells told (Ok replies.Done) (λ w. fetches w s n r)
    → Does mid new told more result (offers_and_ends s n r) → Does old new tells more result (λ w. pipe_round w s n r)
unfolding pipe_round
Does-round old mid new tells told more s n r result d e = Does-then old mid new tells told more replies.Done result (λ w. fetches w s n r) (offers_and_ends s n r) d e

-- or the fetch stops
pub Does-round_stop : (old new : State) (tells told : Tells) (s n r : ℕ) (stop : Option Stop) → Does old new tells told (Err stop) (λ w. fetches w s n r)
    → Does old new tells told (Err stop) (λ w. pipe_round w s n r)
unfolding pipe_round
Does-round_stop old new tells told s n r stop d = Does-stop old new tells told stop (λ w. fetches w s n r) (offers_and_ends s n r) d
