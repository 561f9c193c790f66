-- The reader turn, by what was done to the stream, what is kept of the reader, and its box.
use Rattle.std.proofs.Common.{◌≡◌, ℕ, ◌<◌, ◌==◌, ◌&&◌, Bool, true, false, cond, List, length, Some, None, Err, refl, sym, ap, subst, ◌∙◌, arith}
use Rattle.std.specs.Prelude.{slice_set, nat_le}
use Rattle.std.proofs.lemmas.Bool.{eq-eqb}
use Rattle.std.proofs.lemmas.Bool.Decides.{nat_tests}
use Rattle.strm_buffers.specs.declared.answers.Answer.TheVariants.{Failed}
use Rattle.strm_buffers.specs.declared.answers.ReaderSaid.{ReaderSaid}
use Rattle.strm_buffers.specs.HostRules.{breaks_as_reader}
use Rattle.strm_buffers.specs.Listing.{Item}
use Rattle.strm_codes.specs.Counters.{Rose}
use Rattle.strm_buffers.specs.Tells.{ReaderTells, Tells, no_reader_tells, PollsReader, KeepsReader, RisesOnFailed, told_by_reader, with_told_reader}
use Rattle.strm_machine.specs.State.{State, consumer_at, stream_at}
use Rattle.strm_machine.specs.declared.stops.Stop.{Stop}
use Rattle.strm_machine.specs.declared.stops.Stop.TheVariants.{HostFailed, HostBroke, BadItem}
use Rattle.strm_machine.specs.declared.streams.Consumer.{Consumer}
use Rattle.strm_machine.specs.declared.streams.HostEnd.TheVariants as ends
use Rattle.strm_machine.specs.declared.streams.Operation.{Operation}
use Rattle.strm_machine.specs.declared.streams.Side.TheVariants.{Writing}
use Rattle.strm_machine.specs.declared.streams.Stream.{Stream}
use Rattle.strm_host_machine.specs.World.{World}
use Rattle.strm_host_machine.specs.Outcomes.{Outcome, Stops, done, stops}
use Rattle.strm_host_machine.specs.Polls.{AfterReader, is_failed, same_flag, is_reader_poll, reader_judged}
use Rattle.strm_host_machine.specs.Settling.{result_of, moved_on, since_after}
use Rattle.strm_host_machine.specs.ReaderTurn.{lifted_items, reader_with_taken, gives_up, reader_turn}
use Rattle.strm_host_machine.specs.Does.{Logs, Extends, writers_from, readers_from, world_of, Does}
use Rattle.strm_host_machine.proofs.ReaderLemmas.{IsBadNext, IsReaderPolled, polls_reader-box, begins-told_reader, told_by_reader-told, grows-polled_reader, grows-same_reader, Does-told_reader}
use Rattle.strm_host_machine.proofs.WriterTurnLemmas.{WritesBack}

same_flag-refl : (b : Bool) → same_flag b b ≡ true
same_flag-refl true = refl
same_flag-refl false = refl

-- the items that a write on stream s has next
abbrev pub next_items : State → ℕ → Operation → ℕ → List Item
next_items state s write n = lifted_items state.guests (stream_at state s).payload write n

-- a host reader is polled with the items that the write has left, and asked to finish if the write was
pub record IsPolledWith (old : State) (tells : Tells) (r s : ℕ) (write : Operation) (said : ReaderSaid) (t : ReaderTells) : Type 0 where
  pub there : r < length tells.readers
  pub polls : PollsReader (told_by_reader tells r) t said (next_items old s write said.taken)
  pub offered : said.offered ≡ write.left
  pub since : said.since ≡ (consumer_at old r).since
  pub finish : said.finish ≡ write.asked
  pub next : said.bad ≡ true → IsBadNext write.left (next_items old s write) said.taken

-- what is kept of it then
abbrev pub took_in : State → ℕ → ReaderSaid → Consumer
took_in old r said = record (consumer_at old r) { since = since_after said.answer (consumer_at old r).since said.taken }

-- the state after a turn, but for its stream
abbrev pub consumed_but : State → ℕ → Consumer → State
consumed_but state r consumer = record state { consumers = slice_set state.consumers r consumer }

-- the stream then
abbrev pub given_up_in : State → ℕ → Operation → ReaderSaid → Stream
given_up_in state s write said = moved_on Writing (stream_at state s) write said.taken (result_of said.answer)

module _ (old : State) (tells : Tells) (r s : ℕ) (write : Operation) (said : ReaderSaid) (t : ReaderTells) (p : IsPolledWith old tells r s write said t) where
  most_is : nat_le said.taken write.left ≡ true
  most_is = let most = p.polls.most in let offered = p.offered in grind (arith, nat_tests)

  asked_is : is_reader_poll write.left (consumer_at old r).since write.asked said ≡ true
  asked_is =
      ap (λ b. b && ((said.since == (consumer_at old r).since) && (same_flag said.finish write.asked && nat_le said.taken write.left))) (eq-eqb said.offered write.left p.offered)
      ∙ ap (λ b. b && (same_flag said.finish write.asked && nat_le said.taken write.left)) (eq-eqb said.since (consumer_at old r).since p.since)
      ∙ ap (λ f. same_flag f write.asked && nat_le said.taken write.left) p.finish
      ∙ ap (λ b. b && nat_le said.taken write.left) (same_flag-refl write.asked)
      ∙ most_is

  is_polled : (logs : Logs) → Extends (with_told_reader tells r t) logs → IsReaderPolled old tells logs r write.left write.asked (next_items old s write) said t
  is_polled logs e = record {
    took = next_items old s write said.taken;
    there = p.there;
    polls = p.polls;
    taken = refl;
    asked = asked_is;
    next = p.next;
    begins = begins-told_reader tells.readers logs.readers r t p.there e.1;
  }

  -- what goes on after its record
  abbrev next : AfterReader
  next after said' = done (gives_up (reader_with_taken after r said'.answer said'.taken) s write said'.taken said'.answer)

  abbrev polled : Logs → World
  polled logs = world_of old (with_told_reader tells r t) logs

  judged : (logs : Logs) → Extends (with_told_reader tells r t) logs → reader_turn (world_of old tells logs) s r write ≡ reader_judged (polled logs) (stream_at old s).kind s r said next
  unfolding reader_turn
  judged logs e = polls_reader-box old tells logs r write.left write.asked (next_items old s write) said t (is_polled logs e) s next

  abbrev broke_or : Logs → Bool → Outcome
  broke_or logs b = cond b (stops (HostBroke (ends.Reader r)) (polled logs)) (next (polled logs) said)

  abbrev bad_or : Logs → Bool → Outcome
  bad_or logs b = cond b (stops (BadItem s) (polled logs)) (broke_or logs (breaks_as_reader (stream_at old s).kind said))

  abbrev failed_or : Logs → Bool → Outcome
  failed_or logs b = cond b (stops (HostFailed (ends.Reader r)) (polled logs)) (bad_or logs said.bad)

  -- the items that it took are gone from the write, which is settled as it answered
  pub turn-consumed : is_failed said.answer ≡ false → said.bad ≡ false → breaks_as_reader (stream_at old s).kind said ≡ false
      → WritesBack old (consumed_but old r (took_in old r said)) tells (with_told_reader tells r t) s (given_up_in old s write said) (λ w. reader_turn w s r write)
  turn-consumed f g b logs e = judged logs e ∙ ap (failed_or logs) f ∙ ap (bad_or logs) g ∙ ap (broke_or logs) b

  -- IT STOPS

  stops-by : (new : State) (logs : Logs) (stop : Stop) → new.producers ≡ old.producers
      → stops stop (polled logs) ≡ Stops stop (world_of new (with_told_reader tells r t) logs).writers (world_of new (with_told_reader tells r t) logs).readers
  stops-by new logs stop e =
      ap (λ ps. Stops stop (writers_from ps tells.writers logs.writers) (readers_from (with_told_reader tells r t).readers logs.readers)) (sym e)

  faults_rise : said.answer ≡ Failed → Rose (told_by_reader tells r).faults (told_by_reader (with_told_reader tells r t) r).faults
  faults_rise f =
      subst (λ (v : ReaderTells). Rose (told_by_reader tells r).faults v.faults) (sym (told_by_reader-told tells.readers r t no_reader_tells p.there))
      (subst (λ a. RisesOnFailed a (told_by_reader tells r).faults t.faults) f p.polls.faults)

  pub turn-reader_failed : (new : State) → said.answer ≡ Failed → new.producers ≡ old.producers
      → Does old new tells (with_told_reader tells r t) (Err (Some (HostFailed (ends.Reader r)))) (λ v. reader_turn v s r write)
  turn-reader_failed new f e =
      Does-told_reader old new tells r t (Err (Some (HostFailed (ends.Reader r)))) (λ v. reader_turn v s r write) p.there
      (grows-polled_reader (told_by_reader tells r) t said (next_items old s write said.taken) p.polls)
      (λ logs x. judged logs x ∙ ap (λ a. failed_or logs (is_failed a)) f ∙ stops-by new logs (HostFailed (ends.Reader r)) e)
      (faults_rise f)

  pub turn-bad_item : (new : State) → is_failed said.answer ≡ false → said.bad ≡ true → new.producers ≡ old.producers
      → Does old new tells (with_told_reader tells r t) (Err (Some (BadItem s))) (λ v. reader_turn v s r write)
  turn-bad_item new f b e =
      Does-told_reader old new tells r t (Err (Some (BadItem s))) (λ v. reader_turn v s r write) p.there
      (grows-polled_reader (told_by_reader tells r) t said (next_items old s write said.taken) p.polls)
      (λ logs x. judged logs x ∙ ap (failed_or logs) f ∙ ap (bad_or logs) b ∙ stops-by new logs (BadItem s) e)
      tt

  pub turn-reader_broke : (new : State) → is_failed said.answer ≡ false → said.bad ≡ false → breaks_as_reader (stream_at old s).kind said ≡ true → new.producers ≡ old.producers
      → Does old new tells (with_told_reader tells r t) (Err (Some (HostBroke (ends.Reader r)))) (λ v. reader_turn v s r write)
  turn-reader_broke new f g b e =
      Does-told_reader old new tells r t (Err (Some (HostBroke (ends.Reader r)))) (λ v. reader_turn v s r write) p.there
      (grows-polled_reader (told_by_reader tells r) t said (next_items old s write said.taken) p.polls)
      (λ logs x. judged logs x ∙ ap (failed_or logs) f ∙ ap (bad_or logs) g ∙ ap (broke_or logs) b ∙ stops-by new logs (HostBroke (ends.Reader r)) e)
      tt

-- a poll for which memory had run out
pub turn-reader_wanting : (old new : State) (tells : Tells) (r : ℕ) (t : ReaderTells) (machine : World → Outcome) → r < length tells.readers → KeepsReader (told_by_reader tells r) t
    → Does old new tells (with_told_reader tells r t) (Err None) machine
turn-reader_wanting old new tells r t machine l k =
    Does-told_reader old new tells r t (Err None) machine l (grows-same_reader (told_by_reader tells r) t k.said k.faults) (λ logs e. tt) tt
