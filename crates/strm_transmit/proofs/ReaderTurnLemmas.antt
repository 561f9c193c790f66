-- A turn of a host reader in a store: what the machine does, whether the reader stays, is gone, or stops
-- the call; what the store keeps then, and the host ends that it needs.
use Rattle.std.proofs.Common.{◌≡◌, ◌≢◌, ℕ, ◌<◌, ◌≤◌, Bool, true, false, cond, length, set, Some, None, Result, Ok, Err, refl, sym, ap, subst, ◌∙◌}
use Rattle.std.proofs.lemmas.List.{length-set, get_or-set_same}
use Rattle.strm_buffers.specs.declared.answers.ReaderSaid.{ReaderSaid}
use Rattle.strm_buffers.specs.Tells.{ReaderTells, Tells, told_by_reader, with_told_reader, reader_tells_closed as closed_tells}
use Rattle.strm_machine.specs.State.{State, no_consumer, no_stream, consumer_at, stream_at}
use Rattle.strm_machine.specs.Soundness.{IsSound, sizes_of, IsPlaced, StreamIsPlaced}
use Rattle.strm_machine.specs.Reactions.{with_stream_at}
use Rattle.strm_machine.proofs.SoundLemmas.{placed_at}
use Rattle.strm_machine.proofs.TableLemmas.{OwnersStay}
use Rattle.strm_machine.specs.declared.replies.Reply.TheVariants as replies
use Rattle.strm_machine.specs.declared.stops.Stop.TheVariants as stops
use Rattle.strm_machine.specs.declared.streams.Consumer.{Consumer}
use Rattle.strm_machine.specs.declared.streams.Duty.TheVariants.{Serves}
use Rattle.strm_machine.specs.declared.streams.HostEnd.TheVariants as ends
use Rattle.strm_machine.specs.declared.streams.Operation.{Operation}
use Rattle.strm_machine.specs.declared.streams.Owner.{Owner}
use Rattle.strm_machine.specs.declared.streams.Owner.TheVariants.{Host, Gone}
use Rattle.strm_machine.specs.declared.streams.Side.TheVariants.{Writing, Reading}
use Rattle.strm_machine.specs.declared.streams.Stream.{Stream}
use Rattle.strm_host_machine.specs.World.{World}
use Rattle.strm_host_machine.specs.Outcomes.{Outcome}
use Rattle.strm_host_machine.specs.ReaderTurn.{reader_turn}
use Rattle.strm_host_machine.specs.Does.{Answered, Fits, Does}
use Rattle.strm_host_machine.proofs.BackLemmas.{Does-stays, Does-left_by_reader}
use Rattle.strm_host_machine.proofs.ReaderTurnLemmas.{IsPolledWith, next_items, turn-consumed, turn-reader_failed, turn-bad_item, turn-reader_broke, turn-reader_wanting}
use Rattle.strm_host_machine.proofs.FitsLemmas.{Fits-stream}
use Rattle.strm_host_machine.proofs.GrowLemmas.{Follows}
use Rattle.strm_host_turns.proofs.ReaderPollLemmas.{bad_behind}
use Rattle.strm_host_machine.proofs.ReaderLemmas.{grows-polled_reader, follows-told_reader, ended_reader_in}
use Rattle.strm_host_machine.proofs.SettleLemmas.{IsLeftByReader, with_reader_closed}
use Rattle.strm_host_machine.proofs.WriterTurnLemmas.{WritesBack}
use Rattle.strm_host_turns.specs.ReaderTurns.{ReaderScene, reader_scene, IsPolledForWrite, ReaderGoes, IsReaderTurn}
use Rattle.strm_host_turns.specs.declared.reader_turns.ReaderStops.{ReaderStops}
use Rattle.strm_host_turns.specs.declared.reader_turns.ReaderStops.TheVariants.{Failed, OutOfMemory, BadItem, Broke}
use Rattle.strm_transmit.specs.Inside.{AreServed}
use Rattle.strm_transmit.specs.Hosted.{call_answered, IsStop}
use Rattle.strm_transmit.specs.Turning.{HasReaderTurn, stop_of_reader}
use Rattle.strm_transmit.specs.OutOfMemory.{RunsOutInPoll, IfOutOfMemory}
use Rattle.strm_transmit.proofs.OutOfMemoryLemmas.{taking_wants}
use Rattle.strm_transmit.proofs.FitsLemmas.{KeepsReaderType, Fits-told_reader, Fits-consumer, Fits-reader_ended, other_guests, though_trapped, HasReader, IsReading, reading}
use Rattle.strm_transmit.proofs.HostStepLemmas.{Does-after, Fits-after}
use Rattle.strm_transmit.proofs.SceneLemmas.{StreamMoves, moved_on-moves, stays-moves}
use Rattle.strm_transmit.proofs.ServedLemmas.{reading_kept}

-- ## What a turn keeps

-- types, guests, the duty, and owners but that the reader may be gone
pub record TakingKeeps (old after : ReaderScene) : Type 0 where
  pub guests : after.guests ≡ old.guests
  pub stream : StreamMoves (sizes_of old.guests) Reading old.stream after.stream
  pub duty : after.consumer.duty ≡ old.consumer.duty
  pub tells : KeepsReaderType old.tells after.tells

module _ (old : ReaderScene) (write : Operation) (p : IsPlaced (sizes_of old.guests) old.stream.payload write) (h : StreamIsPlaced (sizes_of old.guests) old.stream) where
  same_type : (said : ReaderSaid) (told : ReaderTells) → IsPolledForWrite old told write said → KeepsReaderType old.tells told
  same_type said told o = record { kind = o.polls.kind; payload = o.polls.payload }

  -- the turn stops, and the reader tells this
  stopped_keeps : (told : ReaderTells) (after : ReaderScene) → after ≡ record old { tells = told } → KeepsReaderType old.tells told → TakingKeeps old after
  stopped_keeps told after e k =
      subst (TakingKeeps old) (sym e) (record { guests = refl; stream = stays-moves (sizes_of old.guests) Reading old.stream h; duty = refl; tells = k })

  few : (said : ReaderSaid) (told : ReaderTells) → IsPolledForWrite old told write said → said.taken ≤ write.left
  few said told o = subst (λ n. said.taken ≤ n) o.offered o.polls.most

  pub take_keeps : (result : Result (Unit {0}) ReaderStops) (after : ReaderScene) → IsReaderTurn result old after write → TakingKeeps old after
  take_keeps (Ok v) after t =
      subst (TakingKeeps old) (sym t.1.after)
      (record {
        guests = refl;
        stream = moved_on-moves Writing (sizes_of old.guests) old.stream write t.0.taken _ h p (few t.0 after.tells t.1.polled);
        duty = refl;
        tells = same_type t.0 after.tells t.1.polled;
      })
  take_keeps (Err Failed) after t = stopped_keeps after.tells after t.1.after (same_type t.0 after.tells t.1.polled)
  take_keeps (Err BadItem) after t = stopped_keeps after.tells after t.1.after (same_type t.0 after.tells t.1.polled)
  take_keeps (Err Broke) after t = stopped_keeps after.tells after t.1.after (same_type t.0 after.tells t.1.polled)
  take_keeps (Err OutOfMemory) after t = stopped_keeps after.tells after t.after (record { kind = t.tells.kind; payload = t.tells.payload })

-- ## A turn as what the machine does

-- what the turn of host reader r on stream s touches
abbrev pub taking_in : State → Tells → ℕ → ℕ → ReaderScene
taking_in state tells r s = reader_scene state.guests (stream_at state s) (consumer_at state r) (told_by_reader tells r)

-- what host ends tell after it
abbrev pub told_after : Tells → ℕ → ReaderScene → Tells
told_after tells r new = with_told_reader tells r new.tells

-- the state after it
abbrev pub taken_in : State → ℕ → ℕ → ReaderScene → State
taken_in state r s new = record state {
  guests = new.guests;
  streams = set state.streams s new.stream;
  consumers = set state.consumers r new.consumer;
}

-- the cause of a stop; none for running out of memory
abbrev pub cause_of : ReaderStops → ℕ → ℕ → Answered
cause_of Failed r s = Err (Some (stops.HostFailed (ends.Reader r)))
cause_of Broke r s = Err (Some (stops.HostBroke (ends.Reader r)))
cause_of BadItem r s = Err (Some (stops.BadItem s))
cause_of OutOfMemory r s = Err None

pub cause-is : (e : ReaderStops) (r s : ℕ) → cause_of e r s ≡ call_answered (Err (stop_of_reader e r s))
cause-is Failed r s = refl
cause-is Broke r s = refl
cause-is BadItem r s = refl
cause-is OutOfMemory r s = refl

pub reader_scene-stops : (e : ReaderStops) (r s : ℕ) → IsStop (stop_of_reader e r s)
reader_scene-stops Failed r s = tt
reader_scene-stops Broke r s = tt
reader_scene-stops BadItem r s = tt
reader_scene-stops OutOfMemory r s = tt

module _ (old : State) (tells : Tells) (r s : ℕ) (write : Operation) (i : IsReading old tells r s) where
  -- its turn
  abbrev pub its_turn : World → Outcome
  its_turn world = reader_turn world s r write

  polled_with : (said : ReaderSaid) (told : ReaderTells) → IsPolledForWrite (taking_in old tells r s) told write said → IsPolledWith old tells r s write said told
  polled_with said told o = record { there = i.there; polls = o.polls; offered = o.offered; since = o.since; finish = o.finish; next = λ b. bad_behind old.guests (stream_at old s).payload write said.taken (o.next b) }

  -- a turn that goes on
  record GoesOn (new : ReaderScene) : Type 0 where
    pub follows : Follows tells (told_after tells r new)
    pub back : WritesBack old (record old { consumers = set old.consumers r new.consumer }) tells (told_after tells r new) s new.stream its_turn

  consumes_on : (said : ReaderSaid) (new : ReaderScene) → ReaderGoes (taking_in old tells r s) new write said → GoesOn new
  consumes_on said new c =
      subst GoesOn (sym c.after) (record {
        follows = follows-told_reader tells r new.tells i.there (grows-polled_reader (told_by_reader tells r) new.tells said (next_items old s write said.taken) c.polled.polls);
        back = turn-consumed old tells r s write said new.tells (polled_with said new.tells c.polled) c.failed c.good c.broke;
      })

  -- its guests are as they were
  same_guests : (new : ReaderScene) → new.guests ≡ old.guests → taken_in old r s new ≡ with_stream_at (record old { consumers = set old.consumers r new.consumer }) s new.stream
  same_guests new e = ap (λ g. record old { guests = g; streams = set old.streams s new.stream; consumers = set old.consumers r new.consumer }) e

  -- the state after it, but for its guests and its stream
  abbrev consumed : ReaderScene → State
  consumed new = record old { consumers = set old.consumers r new.consumer }

  -- a turn that went on, and left the guests as they were
  pub record WentOn (new : ReaderScene) : Type 0 where
    pub takes : IsReaderTurn (Ok tt) (taking_in old tells r s) new write
    pub guests : new.guests ≡ old.guests

  -- its owners stay
  pub take_stays : (new : ReaderScene) → WentOn new → OwnersStay (stream_at old s) new.stream
      → Does old (taken_in old r s new) tells (told_after tells r new) (Ok replies.Done) its_turn
  take_stays new w stay =
      let k = consumes_on w.takes.0 new w.takes.1 in
      Does-after (same_guests new w.guests) refl
      (Does-stays old (consumed new) tells (told_after tells r new) s new.stream its_turn k.follows k.back stay)

  -- its reader is gone, and was closed
  pub take_left : (new : ReaderScene) → WentOn new → IsLeftByReader (consumed new) (told_after tells r new) s r new.stream
      → Does old (ended_reader_in (taken_in old r s new) r) tells (with_reader_closed (told_after tells r new) r) (Ok replies.Done) its_turn
  take_left new w l =
      let k = consumes_on w.takes.0 new w.takes.1 in
      Does-after (ap (λ x. ended_reader_in x r) (same_guests new w.guests)) refl
      (Does-left_by_reader old (consumed new) tells (told_after tells r new) s r new.stream its_turn k.follows k.back l)

  -- it stops
  pub take_stops : (e : ReaderStops) (new : ReaderScene) (after : State) → IsReaderTurn (Err e) (taking_in old tells r s) new write → after.producers ≡ old.producers
      → Does old after tells (told_after tells r new) (cause_of e r s) its_turn
  take_stops Failed new after t k = turn-reader_failed old tells r s write t.0 new.tells (polled_with t.0 new.tells t.1.polled) after t.1.failed k
  take_stops BadItem new after t k = turn-bad_item old tells r s write t.0 new.tells (polled_with t.0 new.tells t.1.polled) after t.1.failed t.1.bad k
  take_stops Broke new after t k = turn-reader_broke old tells r s write t.0 new.tells (polled_with t.0 new.tells t.1.polled) after t.1.failed t.1.good t.1.broke k
  take_stops OutOfMemory new after t k = turn-reader_wanting old after tells r new.tells its_turn i.there t.tells

  -- memory had run out
  pub take_wants : (e : ReaderStops) (new : ReaderScene) (told : Tells) → told ≡ told_after tells r new → IsReaderTurn (Err e) (taking_in old tells r s) new write → IfOutOfMemory (stop_of_reader e r s) (RunsOutInPoll old tells told its_turn)
  take_wants Failed new told x t = tt
  take_wants BadItem new told x t = tt
  take_wants Broke new told x t = tt
  take_wants OutOfMemory new told x t = taking_wants old tells told r s write i.there new.tells x t.tells

-- ## In a store

-- a write for which the host reader of its stream has its turn
pub record IsTakenFrom (old : State) (tells : Tells) (r s : ℕ) (write : Operation) : Type 0 where
  pub reader : HasReader old tells r s
  pub write_placed : IsPlaced (sizes_of old.guests) (stream_at old s).payload write
  pub placed : StreamIsPlaced (sizes_of old.guests) (stream_at old s)

module _ (old : State) (tells : Tells) (r s : ℕ) (write : Operation) where
  pub is_taken_from : IsSound old → AreServed old.producers old.consumers old.streams → s < length old.streams → (stream_at old s).reader.owner ≡ Host r → Fits old tells → IsPlaced (sizes_of old.guests) (stream_at old s).payload write → IsTakenFrom old tells r s write
  is_taken_from sound served made owner fits placed = record {
    reader = record { served = served; made = made; owner = owner; fits = fits };
    write_placed = placed;
    placed = placed_at old s made sound;
  }

module _ (old : State) (tells : Tells) (r s : ℕ) (write : Operation) (h : IsTakenFrom old tells r s write) where
  is_reading : IsReading old tells r s
  is_reading = reading old tells r s h.reader

  module _ (mid : State) (told : Tells) (result : Result (Unit {0}) ReaderStops) (t : HasReaderTurn old mid tells told r s write result) where
    keeps : TakingKeeps (taking_in old tells r s) t.after
    keeps = take_keeps (taking_in old tells r s) write h.write_placed h.placed result t.after t.takes

    taken-fits : Fits (taken_in old r s t.after) (told_after tells r t.after)
    taken-fits =
        let stream = with_stream_at old s t.after.stream in
        let consumed = record stream { consumers = set old.consumers r t.after.consumer } in
        other_guests consumed t.after.guests (told_after tells r t.after)
        (Fits-told_reader consumed tells r t.after.tells keeps.tells
        (Fits-consumer stream tells r t.after.consumer is_reading.kept (λ k e. sym keeps.duty ∙ e)
        (Fits-stream old tells s t.after.stream (record { kind = keeps.stream.kind; payload = keeps.stream.payload }) h.reader.fits)))

    pub mid-fits : Fits mid told
    mid-fits = Fits-after (taken_in old r s t.after) mid (told_after tells r t.after) told t.state t.ends taken-fits

    pub mid-length : length mid.streams ≡ length old.streams
    mid-length = ap (λ (x : State). length x.streams) t.state ∙ length-set old.streams s t.after.stream

    pub mid-made : s < length mid.streams
    mid-made = rw mid-length h.reader.made

    -- the stream then
    pub mid-stream : stream_at mid s ≡ t.after.stream
    mid-stream = ap (λ (x : State). stream_at x s) t.state ∙ get_or-set_same old.streams s t.after.stream no_stream h.reader.made

    pub mid-duty : (consumer_at mid r).duty ≡ Serves s
    mid-duty =
        ap (λ (x : State). (consumer_at x r).duty) t.state
        ∙ ap (λ (c : Consumer). c.duty) (get_or-set_same old.consumers r t.after.consumer no_consumer is_reading.kept)
        ∙ keeps.duty ∙ is_reading.duty

    pub told-there : r < length told.readers
    told-there = rw (ap (λ (x : Tells). length x.readers) t.ends, length-set tells.readers r t.after.tells) is_reading.there

  by_done : (done : Bool) (after before : Owner) → after ≡ cond done Gone before → after ≢ Gone → after ≡ before
  by_done true after before e g = absurd (g e)
  by_done false after before e g = e

  -- its reader stays
  pub taken-stays : (mid : State) (told : Tells) (t : HasReaderTurn old mid tells told r s write (Ok tt)) → (stream_at mid s).reader.owner ≢ Gone → Does old mid tells told (Ok replies.Done) (λ w. reader_turn w s r write)
  taken-stays mid told t g =
      let k = keeps mid told (Ok tt) t in
      let here = mid-stream mid told (Ok tt) t in
      let same = by_done k.stream.done t.after.stream.reader.owner (stream_at old s).reader.owner k.stream.leaves
      (λ e. g (ap (λ (x : Stream). x.reader.owner) here ∙ e)) in
      Does-after t.state t.ends (take_stays old tells r s write is_reading t.after (record { takes = t.takes; guests = k.guests }) (record { writer = k.stream.stays; reader = same }))

  -- its reader is gone, and was closed
  module _ (mid new : State) (told after : Tells) (t : HasReaderTurn old mid tells told r s write (Ok tt)) (g : (stream_at mid s).reader.owner ≡ Gone) (is : new ≡ ended_reader_in mid r) (closed : after ≡ with_reader_closed told r) where
    left : IsLeftByReader (record old { consumers = set old.consumers r t.after.consumer }) (told_after tells r t.after) s r t.after.stream
    left = record {
      there = rw (length-set tells.readers r t.after.tells) is_reading.there;
      owner = h.reader.owner;
      gone = sym (ap (λ (x : Stream). x.reader.owner) (mid-stream mid told (Ok tt) t)) ∙ g;
      writer = (keeps mid told (Ok tt) t).stream.stays;
    }

    pub left-does : Does old new tells after (Ok replies.Done) (λ w. reader_turn w s r write)
    left-does =
        Does-after (is ∙ ap (λ x. ended_reader_in x r) t.state) (closed ∙ ap (λ x. with_reader_closed x r) t.ends)
        (take_left old tells r s write is_reading t.after (record { takes = t.takes; guests = (keeps mid told (Ok tt) t).guests }) left)

    pub left-fits : Fits new after
    left-fits =
        Fits-after (ended_reader_in mid r) new (with_reader_closed told r) after is closed
        (Fits-told_reader (ended_reader_in mid r) told r (closed_tells (told_by_reader told r)) (record { kind = refl; payload = refl })
        (Fits-reader_ended mid told r (reading_kept mid.consumers r s (mid-duty mid told (Ok tt) t)) (mid-fits mid told (Ok tt) t)))

    pub left-length : length new.streams ≡ length old.streams
    left-length = ap (λ (x : State). length x.streams) is ∙ mid-length mid told (Ok tt) t

  -- it stops, and the store is trapped
  module _ (mid new : State) (told : Tells) (e : ReaderStops) (t : HasReaderTurn old mid tells told r s write (Err e)) (is : new ≡ record mid { trapped = true }) where
    pub stops-does : Does old new tells told (call_answered (Err (stop_of_reader e r s))) (λ w. reader_turn w s r write)
    stops-does =
        subst (λ (x : Answered). Does old new tells told x (λ w. reader_turn w s r write)) (cause-is e r s)
        (Does-after refl t.ends
        (take_stops old tells r s write is_reading e t.after new t.takes
        (ap (λ (x : State). x.producers) is ∙ ap (λ (x : State). x.producers) t.state)))

    pub stops-fits : Fits new told
    stops-fits = Fits-after (record mid { trapped = true }) new told told is refl (though_trapped mid told (mid-fits mid told (Err e) t))

    pub stops-length : length new.streams ≡ length old.streams
    stops-length = ap (λ (x : State). length x.streams) is ∙ mid-length mid told (Err e) t

    -- where memory had run out
    pub stops-wants : IfOutOfMemory (stop_of_reader e r s) (RunsOutInPoll old tells told (λ w. reader_turn w s r write))
    stops-wants = take_wants old tells r s write is_reading e t.after told t.ends t.takes
