-- A turn of a host writer in a store: what the machine does, whether the writer stays, is gone, or stops
-- the call; and the host ends that the store needs then.
use Rattle.std.proofs.Common.{◌≡◌, ◌≢◌, ℕ, ◌<◌, Bool, true, false, cond, List, [], ◌∷◌, length, set, Result, Ok, Err, refl, sym, ap, subst, ◌∙◌}
use Rattle.std.proofs.lemmas.List.{length-set, get_or-set_same, set-get_or}
use Rattle.strm_buffers.specs.Listing.{Item}
use Rattle.strm_buffers.specs.Tells.{WriterTells, Tells, told_by, with_told, ClosesWriter}
use Rattle.strm_machine.specs.State.{State, no_producer, no_stream, producer_at, stream_at}
use Rattle.strm_machine.specs.Soundness.{IsSound, sizes_of, IsPlaced, StreamIsPlaced}
use Rattle.strm_machine.specs.Reactions.{with_stream_at}
use Rattle.strm_machine.proofs.SoundLemmas.{placed_at}
use Rattle.strm_machine.specs.declared.replies.Reply.TheVariants as replies
use Rattle.strm_machine.specs.declared.streams.Duty.TheVariants.{Serves}
use Rattle.strm_machine.specs.declared.streams.Operation.{Operation}
use Rattle.strm_machine.specs.declared.streams.Owner.{Owner}
use Rattle.strm_machine.specs.declared.streams.Owner.TheVariants.{Host, Gone}
use Rattle.strm_machine.specs.declared.streams.Producer.{Producer}
use Rattle.strm_machine.specs.declared.streams.Stream.{Stream}
use Rattle.strm_host_machine.specs.WriterTurn.{writer_turn}
use Rattle.strm_host_machine.specs.Does.{Answered, Fits, Does}
use Rattle.strm_host_machine.proofs.CloseLemmas.{ended_in}
use Rattle.strm_host_machine.proofs.FitsLemmas.{Fits-stream}
use Rattle.strm_host_machine.proofs.PollLemmas.{IsServing}
use Rattle.strm_host_machine.proofs.SettleLemmas.{IsLeft}
use Rattle.strm_host_machine.proofs.WriterTurnLemmas.{turned_but}
use Rattle.strm_host_turns.specs.WriterTurns.{WriterScene, IsWriterPoll, IsEmptyWriterTurn, IsHoldingWriterTurn}
use Rattle.strm_host_turns.specs.declared.writer_turns.WriterStops.{WriterStops}
use Rattle.strm_host_turns.specs.declared.writer_turns.WriterStops.TheVariants.{Failed, OutOfMemory, Broke}
use Rattle.strm_host_turns.proofs.StepLemmas.{scene_in, told_in, turned_in, stop_of, turn_stays, turn_left, turn_stops}
use Rattle.strm_transmit.specs.Inside.{AreServed}
use Rattle.strm_transmit.specs.Hosted.{call_answered, IsStop}
use Rattle.strm_transmit.specs.Turning.{HasWriterTurn, stop_of_writer}
use Rattle.strm_transmit.specs.OutOfMemory.{RunsOutInPoll, IfOutOfMemory}
use Rattle.strm_transmit.proofs.ServedLemmas.{serving_kept}
use Rattle.strm_transmit.proofs.FitsLemmas.{keeps-closed, Fits-told, Fits-producer, Fits-ended, other_guests, though_trapped, HasWriter, serving}
use Rattle.strm_transmit.proofs.HostStepLemmas.{Does-after, Fits-after}
use Rattle.strm_transmit.proofs.OutOfMemoryLemmas.{turn_wants}
use Rattle.strm_transmit.proofs.SceneLemmas.{SceneKeeps, turn_keeps}

-- ## A turn that stops keeps what is kept of the writer

polled_producer : (e : WriterStops) (old after : WriterScene) (read : Operation) → IsWriterPoll (Err e) old after read → after.producer ≡ old.producer
polled_producer Failed old after read t = ap (λ (x : WriterScene). x.producer) t.1.stopped.after
polled_producer Broke old after read t = ap (λ (x : WriterScene). x.producer) t.1.stopped.after
polled_producer OutOfMemory old after read t = ap (λ (x : WriterScene). x.producer) t.1.stopped.after

empty_producer : (over : Bool) (e : WriterStops) (old after : WriterScene) (read : Operation) → IsEmptyWriterTurn over (Err e) old after read → after.producer ≡ old.producer
empty_producer true e old after read t = cc (t.0)
empty_producer false e old after read t = polled_producer e old after read t

holding_producer : (held : List Item) (e : WriterStops) (old after : WriterScene) (read : Operation) → IsHoldingWriterTurn held (Err e) old after read → after.producer ≡ old.producer
holding_producer (item ∷ items) e old after read t = cc (t.0)
holding_producer [] e old after read t = empty_producer old.producer.over e old after read t

-- ## A turn of a writer that holds items doesn't stop

held_goes : (held : List Item) (e : WriterStops) (old after : WriterScene) (read : Operation) → IsHoldingWriterTurn held (Err e) old after read → held ≢ [] → ⊥
held_goes (item ∷ items) e old after read t some = cc (t.0)
held_goes [] e old after read t some = some refl

pub stream_goes : (old new : State) (tells told : Tells) (n s : ℕ) (read : Operation) (e : WriterStops) → HasWriterTurn old new tells told n s read (Err e) → (told_by tells n).holds ≢ [] → ⊥
stream_goes old new tells told n s read e t some = held_goes (told_by tells n).holds e _ t.after read t.turns some

pub stop-is : (e : WriterStops) (n : ℕ) → stop_of e n ≡ call_answered (Err (stop_of_writer e n))
stop-is Failed n = refl
stop-is Broke n = refl
stop-is OutOfMemory n = refl

pub stop-stops : (e : WriterStops) (n : ℕ) → IsStop (stop_of_writer e n)
stop-stops Failed n = tt
stop-stops Broke n = tt
stop-stops OutOfMemory n = tt

-- ## In a store

-- a read for which the host writer of its stream has its turn
pub record IsServed (old : State) (tells : Tells) (n s : ℕ) (read : Operation) : Type 0 where
  pub writer : HasWriter old tells n s
  pub read_placed : IsPlaced (sizes_of old.guests) (stream_at old s).payload read
  pub placed : StreamIsPlaced (sizes_of old.guests) (stream_at old s)

module _ (old : State) (tells : Tells) (n s : ℕ) (read : Operation) where
  pub is_served : IsSound old → AreServed old.producers old.consumers old.streams → s < length old.streams → (stream_at old s).writer.owner ≡ Host n → Fits old tells → IsPlaced (sizes_of old.guests) (stream_at old s).payload read → IsServed old tells n s read
  is_served sound served made owner fits placed = record {
    writer = record { served = served; made = made; owner = owner; fits = fits };
    read_placed = placed;
    placed = placed_at old s made sound;
  }

module _ (old : State) (tells : Tells) (n s : ℕ) (read : Operation) (h : IsServed old tells n s read) where
  is_serving : IsServing old tells n s
  is_serving = serving old tells n s h.writer

  module _ (mid : State) (told : Tells) (result : Result (Unit {0}) WriterStops) (t : HasWriterTurn old mid tells told n s read result) where
    keeps : SceneKeeps (scene_in old tells n s) t.after
    keeps = turn_keeps (scene_in old tells n s) read h.read_placed h.placed result t.after t.turns

    turned-fits : Fits (turned_in old n s t.after) (told_in tells n t.after)
    turned-fits =
        let stream = with_stream_at old s t.after.stream in
        Fits-told (turned_in old n s t.after) tells n t.after.tells keeps.tells
        (other_guests (record stream { producers = set old.producers n t.after.producer }) t.after.guests tells (Fits-producer stream tells n t.after.producer is_serving.kept (λ k e. sym keeps.duty ∙ e)
        (Fits-stream old tells s t.after.stream (record { kind = keeps.stream.kind; payload = keeps.stream.payload }) h.writer.fits)))

    pub mid-fits : Fits mid told
    mid-fits = Fits-after (turned_in old n s t.after) mid (told_in tells n t.after) told t.state t.ends turned-fits

    pub mid-made : s < length mid.streams
    mid-made = rw (ap (λ (x : State). length x.streams) t.state, length-set old.streams s t.after.stream) h.writer.made

    -- the stream then
    pub mid-stream : stream_at mid s ≡ t.after.stream
    mid-stream = ap (λ (x : State). stream_at x s) t.state ∙ get_or-set_same old.streams s t.after.stream no_stream h.writer.made

    pub mid-duty : (producer_at mid n).duty ≡ Serves s
    mid-duty =
        ap (λ (x : State). (producer_at x n).duty) t.state
        ∙ ap (λ (p : Producer). p.duty) (get_or-set_same old.producers n t.after.producer no_producer is_serving.kept)
        ∙ keeps.duty ∙ is_serving.duty

    pub told-there : n < length told.writers
    told-there = rw (ap (λ (x : Tells). length x.writers) t.ends, length-set tells.writers n t.after.tells) is_serving.there

  -- its writer stays
  by_done : (done : Bool) (after before : Owner) → after ≡ cond done Gone before → after ≢ Gone → after ≡ before
  by_done true after before e g = absurd (g e)
  by_done false after before e g = e

  pub produced-stays : (mid : State) (told : Tells) (t : HasWriterTurn old mid tells told n s read (Ok tt)) → (stream_at mid s).writer.owner ≢ Gone → Does old mid tells told (Ok replies.Done) (λ w. writer_turn w s n read)
  produced-stays mid told t g =
      let k = keeps mid told (Ok tt) t in
      let here = mid-stream mid told (Ok tt) t in
      let same = by_done k.stream.done t.after.stream.writer.owner (stream_at old s).writer.owner k.stream.leaves
      (λ e. g (ap (λ (x : Stream). x.writer.owner) here ∙ e)) in
      Does-after t.state t.ends (turn_stays old tells n s read is_serving t.after t.turns (record { writer = same; reader = k.stream.stays }))

  -- its writer is gone, and was closed
  module _ (mid : State) (told : Tells) (t : HasWriterTurn old mid tells told n s read (Ok tt)) (g : (stream_at mid s).writer.owner ≡ Gone) (w : WriterTells) (c : ClosesWriter (told_by told n) w) where
    left : IsLeft (turned_but old n t.after.guests t.after.producer) (told_in tells n t.after) s n t.after.stream w
    left = record {
      there = rw (length-set tells.writers n t.after.tells) is_serving.there;
      kept = rw (length-set old.producers n t.after.producer) is_serving.kept;
      owner = h.writer.owner;
      gone = sym (ap (λ (x : Stream). x.writer.owner) (mid-stream mid told (Ok tt) t)) ∙ g;
      reader = (keeps mid told (Ok tt) t).stream.stays;
      closes = subst (λ (x : Tells). ClosesWriter (told_by x n) w) t.ends c;
    }

    pub produced-left : Does old (ended_in mid n) tells (with_told told n w) (Ok replies.Done) (λ v. writer_turn v s n read)
    produced-left =
        Does-after (ap (λ x. ended_in x n) t.state) (ap (λ x. with_told x n w) t.ends) (turn_left old tells n s read is_serving t.after w t.turns left)

    pub left-fits : Fits (ended_in mid n) (with_told told n w)
    left-fits =
        Fits-told (ended_in mid n) told n w (keeps-closed (told_by told n) w c)
        (Fits-ended mid told n (serving_kept mid.producers n s (mid-duty mid told (Ok tt) t)) (mid-fits mid told (Ok tt) t))

  -- it stops, and the store is trapped
  pub produced-stops : (mid : State) (told : Tells) (e : WriterStops) (t : HasWriterTurn old mid tells told n s read (Err e)) → Does old (record mid { trapped = true }) tells told (stop_of e n) (λ w. writer_turn w s n read)
  produced-stops mid told e t =
      let same : t.after.producer ≡ producer_at old n = holding_producer (told_by tells n).holds e (scene_in old tells n s) t.after read t.turns in
      let producers : mid.producers ≡ old.producers =
      ap (λ (x : State). x.producers) t.state ∙ ap (set old.producers n) same ∙ set-get_or old.producers n no_producer in
      Does-after refl t.ends (turn_stops old tells n s read is_serving e t.after (record mid { trapped = true }) t.turns producers)

  -- ## By what the calls say

  pub mid-length : (mid : State) (told : Tells) (result : Result (Unit {0}) WriterStops) → HasWriterTurn old mid tells told n s read result → length mid.streams ≡ length old.streams
  mid-length mid told result t = ap (λ (x : State). length x.streams) t.state ∙ length-set old.streams s t.after.stream

  module _ (mid new : State) (told : Tells) (e : WriterStops) (t : HasWriterTurn old mid tells told n s read (Err e)) (is : new ≡ record mid { trapped = true }) where
    pub stops-does : Does old new tells told (call_answered (Err (stop_of_writer e n))) (λ w. writer_turn w s n read)
    stops-does =
        Does-after is refl
        (subst (λ (x : Answered). Does old (record mid { trapped = true }) tells told x (λ w. writer_turn w s n read)) (stop-is e n) (produced-stops mid told e t))

    pub stops-fits : Fits new told
    stops-fits = Fits-after (record mid { trapped = true }) new told told is refl (though_trapped mid told (mid-fits mid told (Err e) t))

    pub stops-length : length new.streams ≡ length old.streams
    stops-length = ap (λ (x : State). length x.streams) is ∙ mid-length mid told (Err e) t

    -- where memory had run out
    pub stops-wants : IfOutOfMemory (stop_of_writer e n) (RunsOutInPoll old tells told (λ w. writer_turn w s n read))
    stops-wants = turn_wants old tells told n s read is_serving t.after t.ends e t.turns

  module _ (mid new : State) (told after : Tells) (t : HasWriterTurn old mid tells told n s read (Ok tt)) (g : (stream_at mid s).writer.owner ≡ Gone) (c : ClosesWriter (told_by told n) (told_by after n))
      (is : new ≡ ended_in mid n) (others : after ≡ with_told told n (told_by after n)) where
    pub left-does : Does old new tells after (Ok replies.Done) (λ v. writer_turn v s n read)
    left-does = Does-after is others (produced-left mid told t g (told_by after n) c)

    pub left-fits_as : Fits new after
    left-fits_as = Fits-after (ended_in mid n) new (with_told told n (told_by after n)) after is others (left-fits mid told t g (told_by after n) c)

    pub left-length : length new.streams ≡ length old.streams
    left-length = ap (λ (x : State). length x.streams) is ∙ mid-length mid told (Ok tt) t
