-- Running out of memory in a poll: the host end could have failed in it, with no items, and the machine would stop there.
use Rattle.std.proofs.Common.{◌≡◌, ℕ, zero, suc, ◌<◌, Bool, true, false, List, [], ◌∷◌, ◌++◌, length, get_or, set, Option, Some, None, Result, Ok, Err, refl, sym, ap, subst, ◌∙◌, append-nil, arith}
use Rattle.std.specs.Option.{option_map}
use Rattle.std.specs.Prelude.{IfErr}
use Rattle.std.proofs.Math.Seq.{drop-nil}
use Rattle.strm_memory.specs.Items.{items}
use Rattle.strm_buffers.specs.declared.answers.Answer.TheVariants as answers
use Rattle.strm_buffers.specs.declared.answers.ReaderSaid.{ReaderSaid}
use Rattle.strm_buffers.specs.Listing.{Item}
use Rattle.strm_buffers.specs.Said.{WriterSaid, in_room, past_room}
use Rattle.strm_codes.specs.Counters.{one_more}
use Rattle.strm_buffers.specs.Tells.{WriterTells, ReaderTells, Tells, no_tells, no_reader_tells, told_by, with_told, told_by_reader, with_told_reader, PollsWriter, KeepsWriter, PollsReader, KeepsReader}
use Rattle.strm_machine.specs.State.{State, producer_at, consumer_at}
use Rattle.strm_machine.specs.declared.stops.Stop.TheVariants.{HostFailed}
use Rattle.strm_machine.specs.declared.streams.HostEnd.TheVariants as ends
use Rattle.strm_machine.specs.declared.streams.Operation.{Operation}
use Rattle.strm_host_machine.specs.World.{World}
use Rattle.strm_host_machine.specs.Outcomes.{Outcome}
use Rattle.strm_host_machine.specs.WriterTurn.{writer_turn}
use Rattle.strm_host_machine.specs.ReaderTurn.{reader_turn}
use Rattle.strm_host_machine.specs.Does.{Logs, world_of}
use Rattle.strm_host_machine.proofs.ReaderTurnLemmas.{IsPolledWith, turn-reader_failed}
use Rattle.strm_host_machine.proofs.DoesLemmas.{rose_more, Does-as}
use Rattle.strm_host_machine.proofs.PollLemmas.{IsServing}
use Rattle.strm_host_machine.proofs.WriterTurnLemmas.{IsPolledFor, turn-failed}
use Rattle.strm_host_turns.specs.WriterTurns.{WriterScene, WriterRunsOut, IsEmptyWriterTurn, IsHoldingWriterTurn, IsWriterTurn}
use Rattle.strm_host_turns.specs.declared.writer_turns.WriterStops.{WriterStops}
use Rattle.strm_host_turns.specs.declared.writer_turns.WriterStops.TheVariants.{Failed, OutOfMemory, Broke}
use Rattle.strm_host_turns.proofs.StepLemmas.{scene_in, told_in}
use Rattle.strm_transmit.specs.Turning.{stop_of_writer}
use Rattle.strm_transmit.specs.OutOfMemory.{ProducesNone, TakesNone, writer_failed, reader_failed, FailsOnce, RunsOutInPoll, IfOutOfMemory}
use Rattle.strm_transmit.specs.declared.errors.StoreError.{StoreError}
use Rattle.strm_transmit.specs.declared.errors.StoreError.TheVariants as errors

-- two changes of a place, the second of what the first left
pub set_again : {A : Type 0} (xs : List A) (n : ℕ) (x d : A) (f : A → A) → set (set xs n x) n (f (get_or (set xs n x) n d)) ≡ set xs n (f x)
set_again [] n x d f = refl
set_again (y ∷ ys) zero x d f = refl
set_again (y ∷ ys) (suc n) x d f = ap (λ zs. y ∷ zs) (set_again ys n x d f)

-- ## A record that was not made

-- of a poll of a host writer with this room
abbrev pub none_from : WriterTells → Option ℕ → Bool → WriterSaid
none_from tells room finish = record { room = room; finish = finish; payload = tells.payload; items = []; answer = answers.Failed }

-- of one of a host reader that was offered so many items
abbrev pub none_to : ℕ → ℕ → Bool → ReaderSaid
none_to offered since finish = record { offered = offered; since = since; finish = finish; taken = 0; bad = false; answer = answers.Failed }

past_none : (room : Option ℕ) → past_room room [] ≡ []
past_none (Some n) = drop-nil n
past_none None = refl

-- a host writer that held nothing would have made it
pub fails_polled : (old w : WriterTells) (room : Option ℕ) (finish : Bool) → KeepsWriter old w → old.holds ≡ [] → PollsWriter old (writer_failed w (none_from w room finish)) (none_from w room finish) (in_room room [])
fails_polled old w room finish k e = record {
  said_more = ap (λ xs. xs ++ none_from w room finish ∷ []) k.said;
  fits = tt;
  marks = refl;
  holds = k.holds ∙ e ∙ sym (past_none room);
  faults = rose_more old.faults w.faults (one_more w.faults) k.faults (omega arith);
  closed = k.closed;
  heard = k.heard;
  kind = k.kind;
  payload = k.payload;
}

no_more_held : (o : Option (List Item)) → o ≡ option_map (λ xs. xs ++ []) o
no_more_held None = refl
no_more_held (Some xs) = ap Some (sym (append-nil xs))

-- and so would a host reader
pub fails_offered : (old t : ReaderTells) (offered since : ℕ) (finish : Bool) → KeepsReader old t → PollsReader old (reader_failed t (none_to offered since finish)) (none_to offered since finish) []
fails_offered old t offered since finish k = record {
  said_more = ap (λ xs. xs ++ none_to offered since finish ∷ []) k.said;
  holds = k.holds ∙ no_more_held old.holds;
  taken = refl;
  most = omega arith;
  faults = rose_more old.faults t.faults (one_more t.faults) k.faults (omega arith);
  closed = k.closed;
  heard = k.heard;
  kind = k.kind;
  payload = k.payload;
}

-- host writer n told this, and would have told this record more
pub fails_writer : (tells : Tells) (n : ℕ) (w : WriterTells) (said : WriterSaid) → ProducesNone said → FailsOnce (ends.Writer n) (with_told tells n w) (with_told tells n (writer_failed w said))
fails_writer tells n w said p = (said, p, ap (λ ws. record tells { writers = ws }) (sym (set_again tells.writers n w no_tells (λ x. writer_failed x said))))

-- the same of host reader r
pub fails_reader : (tells : Tells) (r : ℕ) (t : ReaderTells) (said : ReaderSaid) → TakesNone said → FailsOnce (ends.Reader r) (with_told_reader tells r t) (with_told_reader tells r (reader_failed t said))
fails_reader tells r t said p = (said, p, ap (λ rs. record tells { readers = rs }) (sym (set_again tells.readers r t no_reader_tells (λ x. reader_failed x said))))

-- ## A turn

module _ (old : State) (tells told : Tells) (n s : ℕ) (read : Operation) (i : IsServing old tells n s) (new : WriterScene) (ends_so : told ≡ told_in tells n new) where
  abbrev TurnRunsOut : Type 0
  TurnRunsOut = RunsOutInPoll old tells told (λ w. writer_turn w s n read)

  polled_wants : (told_by tells n).holds ≡ [] → (producer_at old n).over ≡ false → (items : List Item) → WriterRunsOut (scene_in old tells n s) new read items → TurnRunsOut
  polled_wants e over items w =
      let said = none_from new.tells (Some read.left) read.asked in
      let after = writer_failed new.tells said in
      let polled : IsPolledFor old tells n read said after = record { empty = e; over = over; polls = fails_polled (told_by tells n) new.tells (Some read.left) read.asked w.tells e; room = refl; finish = refl } in
      record {
        end = ends.Writer n;
        more = with_told tells n after;
        fails = subst (λ t. FailsOnce (ends.Writer n) t (with_told tells n after)) (sym ends_so) (fails_writer tells n new.tells said (record { failed = refl; none = refl }));
        state = old;
        does = turn-failed old tells n s read i said after polled old refl refl;
      }

  empty_wants : (over : Bool) → (told_by tells n).holds ≡ [] → (producer_at old n).over ≡ over → IsEmptyWriterTurn over (Err OutOfMemory) (scene_in old tells n s) new read → TurnRunsOut
  empty_wants true e o t = cc (t.0)
  empty_wants false e o t = polled_wants e o t.0 t.1

  holding_wants : (held : List Item) → (told_by tells n).holds ≡ held → IsHoldingWriterTurn held (Err OutOfMemory) (scene_in old tells n s) new read → TurnRunsOut
  holding_wants (item ∷ items) e t = cc (t.0)
  holding_wants [] e t = empty_wants (producer_at old n).over e refl t

  -- of a host writer
  pub turn_wants : (e : WriterStops) → IsWriterTurn (Err e) (scene_in old tells n s) new read → IfOutOfMemory (stop_of_writer e n) TurnRunsOut
  turn_wants Failed t = tt
  turn_wants Broke t = tt
  turn_wants OutOfMemory t = holding_wants (told_by tells n).holds refl t

-- of a host reader, which is there
module _ (old : State) (tells told : Tells) (r s : ℕ) (write : Operation) (there : r < length tells.readers) (t : ReaderTells) (ends_so : told ≡ with_told_reader tells r t) where
  pub taking_wants : KeepsReader (told_by_reader tells r) t → RunsOutInPoll old tells told (λ w. reader_turn w s r write)
  unfolding items
  taking_wants k =
      let said = none_to write.left (consumer_at old r).since write.asked in
      let after = reader_failed t said in
      let polled : IsPolledWith old tells r s write said after = record {
        there = there;
        polls = fails_offered (told_by_reader tells r) t write.left (consumer_at old r).since write.asked k;
        offered = refl;
        since = refl;
        finish = refl;
        next = λ b. cc b;
      } in
      record {
        end = ends.Reader r;
        more = with_told_reader tells r after;
        fails = subst (λ x. FailsOnce (ends.Reader r) x (with_told_reader tells r after)) (sym ends_so) (fails_reader tells r t said (record { failed = refl; none = refl; good = refl }));
        state = old;
        does = turn-reader_failed old tells r s write said after polled old refl refl;
      }

-- ## From one part to another

-- what is wanted of one part holds of another
pub out_of_memory_as : {P Q : Type 0} (error : StoreError) → (P → Q) → IfOutOfMemory error P → IfOutOfMemory error Q
out_of_memory_as (errors.Refused refusal) f w = tt
out_of_memory_as (errors.HostFailed end) f w = tt
out_of_memory_as (errors.HostBroke end) f w = tt
out_of_memory_as (errors.BadItem s) f w = tt
out_of_memory_as errors.StoreTrapped f w = tt
out_of_memory_as errors.OutOfMemory f w = f w

pub out_of_memory_result : {T P Q : Type 0} (result : Result T StoreError) → (P → Q) → IfErr result (λ error. IfOutOfMemory error P) → IfErr result (λ error. IfOutOfMemory error Q)
out_of_memory_result (Ok v) f w = tt
out_of_memory_result (Err error) f w = out_of_memory_as error f w

-- a part of the machine that does the same
pub poll_as : (old : State) (tells told : Tells) (m k : World → Outcome) → ((logs : Logs) → k (world_of old tells logs) ≡ m (world_of old tells logs)) → RunsOutInPoll old tells told m → RunsOutInPoll old tells told k
poll_as old tells told m k same w = record {
  end = w.end;
  more = w.more;
  fails = w.fails;
  state = w.state;
  does = Does-as old w.state tells w.more (Err (Some (HostFailed w.end))) m k same w.does;
}
