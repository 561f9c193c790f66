-- The writer turn, by what was done to the guests, the stream, what is kept of the writer, and its box.
use Rattle.std.proofs.Common.{◌≡◌, ℕ, ◌<◌, ◌==◌, ◌||◌, ◌&&◌, Bool, true, false, cond, List, [], ◌∷◌, length, take, drop, Option, Some, None, Err, refl, sym, ap, subst, ◌∙◌}
use Rattle.std.specs.Prelude.{slice_set}
use Rattle.std.proofs.lemmas.Bool.{eq-eqb}
use Rattle.strm_codes.specs.declared.codes.StreamResult.{StreamResult}
use Rattle.strm_codes.specs.declared.codes.StreamResult.TheVariants as results
use Rattle.strm_buffers.specs.declared.answers.Answer.TheVariants.{Failed}
use Rattle.strm_buffers.specs.HostRules.{breaks_as_writer}
use Rattle.strm_buffers.specs.Listing.{Item}
use Rattle.strm_buffers.specs.Said.{WriterSaid}
use Rattle.strm_codes.specs.Counters.{Rose}
use Rattle.strm_buffers.specs.Tells.{WriterTells, Tells, no_tells, told_by, with_told, PollsWriter, KeepsWriter, RisesOnFailed, writer_given}
use Rattle.strm_machine.specs.State.{State, Guest, no_producer, producer_at, stream_at}
use Rattle.strm_machine.specs.declared.stops.Stop.{Stop}
use Rattle.strm_machine.specs.declared.stops.Stop.TheVariants.{HostFailed, HostBroke}
use Rattle.strm_machine.specs.declared.streams.HostEnd.TheVariants as ends
use Rattle.strm_machine.specs.declared.streams.Operation.{Operation}
use Rattle.strm_machine.specs.declared.streams.Producer.{Producer}
use Rattle.strm_machine.specs.declared.streams.Side.TheVariants.{Reading}
use Rattle.strm_machine.specs.declared.streams.Stream.{Stream}
use Rattle.strm_host_machine.specs.World.{World, with_producer, with_writer, with_stream_in}
use Rattle.strm_host_machine.specs.Outcomes.{Outcome, Stops, done, stops}
use Rattle.strm_host_machine.specs.Polls.{AfterWriter, is_failed, same_flag, same_room, is_writer_poll, writer_judged}
use Rattle.strm_host_machine.specs.Settling.{moved_on}
use Rattle.strm_host_machine.specs.Attaching.{has_items}
use Rattle.strm_host_machine.specs.WriterTurn.{lowered_items, receives, is_last, with_answer, produced_result, hands_over, is_produced, produces, writer_turn}
use Rattle.strm_host_machine.specs.Does.{Logs, Extends, writers_from, readers_from, world_of, Does}
use Rattle.strm_host_machine.proofs.WorldLemmas.{writers_from-duty, set-same}
use Rattle.strm_host_machine.proofs.GrowLemmas.{Does-told, grows-polled, grows-kept, begins-told, told_by-told}
use Rattle.strm_host_machine.proofs.PollLemmas.{IsServing, IsRecorded, writer_at-serving, with_writer-serving, polls_writer-box}

-- the state after a turn, but for its stream
abbrev pub turned_but : State → ℕ → List Guest → Producer → State
turned_but state n guests producer = record state {
  guests = guests;
  producers = slice_set state.producers n producer;
}

-- the read on stream s gets these items
abbrev pub lowered_in : State → ℕ → Operation → List Item → List Guest
lowered_in state s read items = lowered_items state.guests (stream_at state s).payload read items

-- the stream then
abbrev pub moved_in : State → ℕ → Operation → List Item → Option StreamResult → Stream
moved_in state s read items result = moved_on Reading (stream_at state s) read (length items) result

-- a part that goes on with stream s written back, after which a writer tells this, whatever is to come
abbrev pub WritesBack : State → State → Tells → Tells → ℕ → Stream → (World → Outcome) → Type 0
WritesBack old but tells told s stream machine =
    (logs : Logs) → Extends told logs → machine (world_of old tells logs) ≡ done (with_stream_in (world_of but told logs) s stream)

-- nothing but the duty of what is kept is to be seen
pub world_of-kept : (state : State) (tells : Tells) (logs : Logs) (n : ℕ) (guests : List Guest) (p : Producer) → (producer_at state n).duty ≡ p.duty
    → world_of (turned_but state n guests p) tells logs ≡ record (world_of state tells logs) { state = turned_but state n guests p }
world_of-kept state tells logs n guests producer e =
    ap (λ ws. record (world_of state tells logs) { state = turned_but state n guests producer; writers = ws })
    (writers_from-duty state.producers tells.writers logs.writers n producer no_producer e)

-- a writer that is told to be what it is
pub told-same : (tells : Tells) (n : ℕ) → with_told tells n (told_by tells n) ≡ tells
told-same tells n = ap (λ ws. record tells { writers = ws }) (set-same tells.writers n no_tells)

kept-same : (state : State) (n : ℕ) (guests : List Guest) → turned_but state n guests (producer_at state n) ≡ record state { guests = guests }
kept-same state n guests = ap (λ ps. record state { guests = guests; producers = ps }) (set-same state.producers n no_producer)

module _ (old : State) (tells : Tells) (n s : ℕ) (read : Operation) (i : IsServing old tells n s) where
  -- what the writer holds is what it tells that it holds
  by_holds : (logs : Logs) → writer_turn (world_of old tells logs) s n read ≡ produces (world_of old tells logs) s n read (told_by tells n).holds
  unfolding writer_turn
  by_holds logs = ap (λ w. produces (world_of old tells logs) s n read w.holds) (writer_at-serving old tells logs n s i)

  -- a turn in which the read gets these items and is settled so, if it is, with this kept of the writer
  abbrev pub Turns : Producer → List Item → Option StreamResult → Tells → Type 0
  Turns producer items result told =
      WritesBack old (turned_but old n (lowered_in old s read items) producer) tells told s (moved_in old s read items result) (λ w. writer_turn w s n read)

  -- HELD ITEMS

  abbrev given_items : List Item
  given_items = take read.left (told_by tells n).holds

  abbrev after_giving : Tells
  after_giving = with_told tells n (writer_given (told_by tells n) (Some read.left))

  -- what is kept of it then
  abbrev pub given_kept : Producer
  given_kept = record (producer_at old n) { holding = has_items (drop read.left (told_by tells n).holds) }

  -- a world in which that is kept of it
  abbrev kept_so : World → List Item → World
  kept_so w held = with_producer w n (record (producer_at old n) { holding = has_items held })

  hands_over-box : (logs : Logs) → hands_over (world_of old tells logs) s n read ≡ with_stream_in (world_of (turned_but old n (lowered_in old s read given_items) given_kept) after_giving logs) s (moved_in old s read given_items (Some results.Completed))
  hands_over-box logs =
      ap (λ w. receives (kept_so (with_writer (world_of old tells logs) n (record w { holds = drop read.left w.holds })) (drop read.left w.holds)) s read (take read.left w.holds) (Some results.Completed)) (writer_at-serving old tells logs n s i)
      ∙ ap (λ v. receives (kept_so v (drop read.left (told_by tells n).holds)) s read (take read.left (told_by tells n).holds) (Some results.Completed)) (with_writer-serving old tells logs n s i (writer_given (told_by tells n) (Some read.left)))
      ∙ ap (λ v. with_stream_in v s (moved_in old s read (take read.left (told_by tells n).holds) (Some results.Completed)))
      (sym (world_of-kept old (with_told tells n (writer_given (told_by tells n) (Some read.left))) logs n (lowered_in old s read (take read.left (told_by tells n).holds)) (record (producer_at old n) { holding = has_items (drop read.left (told_by tells n).holds) }) refl))

  pub turn-hands_over : (item : Item) (items : List Item) → (told_by tells n).holds ≡ item ∷ items → Turns given_kept given_items (Some results.Completed) after_giving
  turn-hands_over item items e logs x =
      by_holds logs
      ∙ ap (produces (world_of old tells logs) s n read) e
      ∙ ap done (hands_over-box logs)

  -- A WRITER THAT IS OVER

  pub turn-ended : (told_by tells n).holds ≡ [] → (producer_at old n).over ≡ true → Turns (producer_at old n) [] (Some results.Dropped) tells
  turn-ended e over logs x =
      by_holds logs
      ∙ ap (produces (world_of old tells logs) s n read) e
      ∙ ap (λ b. cond b (done (receives (world_of old tells logs) s read [] (Some results.Dropped))) (is_produced (world_of old tells logs) s n read)) over
      ∙ ap (λ st. done (with_stream_in (world_of st tells logs) s (moved_in old s read [] (Some results.Dropped)))) (sym (kept-same old n (lowered_in old s read [])))

  by_poll : (told_by tells n).holds ≡ [] → (producer_at old n).over ≡ false → (logs : Logs) → writer_turn (world_of old tells logs) s n read ≡ is_produced (world_of old tells logs) s n read
  by_poll e over logs =
      by_holds logs
      ∙ ap (produces (world_of old tells logs) s n read) e
      ∙ ap (λ b. cond b (done (receives (world_of old tells logs) s read [] (Some results.Dropped))) (is_produced (world_of old tells logs) s n read)) over

-- ONE POLL

same_room-refl : (a : ℕ) → (a == a) ≡ true
same_room-refl a = eq-eqb a a refl

same_flag-refl : (b : Bool) → same_flag b b ≡ true
same_flag-refl true = refl
same_flag-refl false = refl

-- a writer that holds nothing and has more to come is polled, with room for the items that the read has
-- left, and asked to finish if the read was
pub record IsPolledFor (old : State) (tells : Tells) (n : ℕ) (read : Operation) (said : WriterSaid) (w : WriterTells) : Type 0 where
  pub empty : (told_by tells n).holds ≡ []
  pub over : (producer_at old n).over ≡ false
  pub polls : PollsWriter (told_by tells n) w said (take read.left said.items)
  pub room : said.room ≡ Some read.left
  pub finish : said.finish ≡ read.asked

module _ (old : State) (tells : Tells) (n s : ℕ) (read : Operation) (i : IsServing old tells n s) (said : WriterSaid) (w : WriterTells)
    (p : IsPolledFor old tells n read said w) where
  asked_is : is_writer_poll (Some read.left) read.asked said ≡ true
  asked_is =
      ap (λ r. same_room r (Some read.left) && same_flag said.finish read.asked) p.room
      ∙ ap (λ b. b && same_flag said.finish read.asked) (same_room-refl read.left)
      ∙ ap (λ f. same_flag f read.asked) p.finish
      ∙ same_flag-refl read.asked

  is_recorded : (logs : Logs) → Extends (with_told tells n w) logs → IsRecorded tells logs n (Some read.left) read.asked said w
  is_recorded logs e = record {
    marked = take read.left said.items;
    polls = p.polls;
    asked = asked_is;
    room_is = p.room;
    begins = begins-told tells.writers logs.writers n w i.there e.0;
  }

  -- what goes on after its record
  abbrev next : AfterWriter
  next after said' = done (receives (with_answer after n said'.answer (drop read.left said'.items)) s read (take read.left said'.items) (produced_result said'.answer (drop read.left said'.items)))

  judged : (logs : Logs) → Extends (with_told tells n w) logs → writer_turn (world_of old tells logs) s n read ≡ writer_judged (world_of old (with_told tells n w) logs) (stream_at old s).kind n said next
  judged logs e =
      by_poll old tells n s read i p.empty p.over logs
      ∙ polls_writer-box old tells logs n s i (Some read.left) read.asked said w (is_recorded logs e) s next

  -- what is kept of it then
  abbrev pub kept_after : Producer
  kept_after = record (producer_at old n) {
    over = (producer_at old n).over || is_last said.answer;
    holding = has_items (drop read.left said.items);
  }

  pub turn-produced : is_failed said.answer ≡ false → breaks_as_writer (stream_at old s).kind said ≡ false
      → Turns old tells n s read i kept_after (take read.left said.items) (produced_result said.answer (drop read.left said.items)) (with_told tells n w)
  turn-produced f b logs e =
      judged logs e
      ∙ ap (λ x. cond x (stops (HostFailed (ends.Writer n)) (world_of old (with_told tells n w) logs)) (cond (breaks_as_writer (stream_at old s).kind said) (stops (HostBroke (ends.Writer n)) (world_of old (with_told tells n w) logs)) (next (world_of old (with_told tells n w) logs) said))) f
      ∙ ap (λ x. cond x (stops (HostBroke (ends.Writer n)) (world_of old (with_told tells n w) logs)) (next (world_of old (with_told tells n w) logs) said)) b
      ∙ ap (λ v. done (with_stream_in v s (moved_in old s read (take read.left said.items) (produced_result said.answer (drop read.left said.items)))))
      (sym (world_of-kept old (with_told tells n w) logs n (lowered_in old s read (take read.left said.items)) kept_after refl))

  -- IT STOPS

  -- a stop, with what the host ends tell then
  stops-by : (new : State) (logs : Logs) (stop : Stop) → new.producers ≡ old.producers
      → stops stop (world_of old (with_told tells n w) logs) ≡ Stops stop (world_of new (with_told tells n w) logs).writers (world_of new (with_told tells n w) logs).readers
  stops-by new logs stop e =
      ap (λ ps. Stops stop (writers_from ps (with_told tells n w).writers logs.writers) (readers_from tells.readers logs.readers)) (sym e)

  faults_rise : said.answer ≡ Failed → Rose (told_by tells n).faults (told_by (with_told tells n w) n).faults
  faults_rise f =
      subst (λ (v : WriterTells). Rose (told_by tells n).faults v.faults) (sym (told_by-told tells.writers n w no_tells i.there))
      (subst (λ a. RisesOnFailed a (told_by tells n).faults w.faults) f p.polls.faults)

  pub turn-failed : (new : State) → said.answer ≡ Failed → new.producers ≡ old.producers
      → Does old new tells (with_told tells n w) (Err (Some (HostFailed (ends.Writer n)))) (λ v. writer_turn v s n read)
  turn-failed new f e =
      Does-told old new tells n w (Err (Some (HostFailed (ends.Writer n)))) (λ v. writer_turn v s n read) i.there
      (grows-polled (told_by tells n) w said (take read.left said.items) p.polls)
      (λ logs x. judged logs x
      ∙ ap (λ a. cond (is_failed a) (stops (HostFailed (ends.Writer n)) (world_of old (with_told tells n w) logs)) (cond (breaks_as_writer (stream_at old s).kind said) (stops (HostBroke (ends.Writer n)) (world_of old (with_told tells n w) logs)) (next (world_of old (with_told tells n w) logs) said))) f
      ∙ stops-by new logs (HostFailed (ends.Writer n)) e)
      (faults_rise f)

  pub turn-broke : (new : State) → is_failed said.answer ≡ false → breaks_as_writer (stream_at old s).kind said ≡ true → new.producers ≡ old.producers
      → Does old new tells (with_told tells n w) (Err (Some (HostBroke (ends.Writer n)))) (λ v. writer_turn v s n read)
  turn-broke new f b e =
      Does-told old new tells n w (Err (Some (HostBroke (ends.Writer n)))) (λ v. writer_turn v s n read) i.there
      (grows-polled (told_by tells n) w said (take read.left said.items) p.polls)
      (λ logs x. judged logs x
      ∙ ap (λ x'. cond x' (stops (HostFailed (ends.Writer n)) (world_of old (with_told tells n w) logs)) (cond (breaks_as_writer (stream_at old s).kind said) (stops (HostBroke (ends.Writer n)) (world_of old (with_told tells n w) logs)) (next (world_of old (with_told tells n w) logs) said))) f
      ∙ ap (λ x'. cond x' (stops (HostBroke (ends.Writer n)) (world_of old (with_told tells n w) logs)) (next (world_of old (with_told tells n w) logs) said)) b
      ∙ stops-by new logs (HostBroke (ends.Writer n)) e)
      tt

-- a poll for which memory had run out
pub turn-out_of_memory : (old new : State) (tells : Tells) (n : ℕ) (w : WriterTells) (machine : World → Outcome) → n < length tells.writers → KeepsWriter (told_by tells n) w
    → Does old new tells (with_told tells n w) (Err None) machine
turn-out_of_memory old new tells n w machine l k =
    Does-told old new tells n w (Err None) machine l (grows-kept (told_by tells n) w k) (λ logs e. tt) tt
