-- The turn of a host end in a state, for a read or write on the other side: so many of its items are moved, and
-- the host end ends where it is done.
use Rattle.std.proofs.Common.{◌≡◌, ◌≢◌, ℕ, ◌<◌, ◌≤◌, ◌==◌, ◌||◌, ◌&&◌, Bool, true, false, cond, List, [], ◌∷◌, length, take, drop, set, Option, Some, refl, sym, ap, subst, ◌∙◌, arith, length-take}
use Rattle.std.proofs.lemmas.Bool.{cond_both, and_parts, eqb-true}
use Rattle.std.proofs.lemmas.Bool.Decides.{nat_tests}
use Rattle.std.proofs.lemmas.List.{get_or-set_same, get_or-set_other, length-set}
use Rattle.std.specs.Prelude.{slice_set, nat_le}
use Rattle.strm_codes.specs.declared.codes.StreamResult.{StreamResult}
use Rattle.strm_codes.specs.declared.codes.StreamResult.TheVariants as results
use Rattle.strm_codes.specs.declared.codes.TransmitKind.{TransmitKind}
use Rattle.strm_codes.specs.declared.payloads.Payload.{Payload}
use Rattle.strm_buffers.specs.declared.answers.Answer.{Answer}
use Rattle.strm_buffers.specs.declared.answers.ReaderSaid.{ReaderSaid}
use Rattle.strm_buffers.specs.HostRules.{reader_breaks, breaks_as_writer, breaks_as_reader}
use Rattle.strm_buffers.specs.Listing.{Item}
use Rattle.strm_buffers.specs.Said.{WriterSaid}
use Rattle.strm_machine.specs.State.{State, Guest, no_producer, no_consumer, producer_at, consumer_at, stream_at}
use Rattle.strm_machine.specs.Hosting.{duty_of}
use Rattle.strm_machine.specs.Sides.{opposite, end_of}
use Rattle.strm_machine.specs.Reactions.{with_stream_at}
use Rattle.strm_machine.specs.declared.streams.Duty.TheVariants.{Ended}
use Rattle.strm_machine.specs.declared.streams.Owner.TheVariants.{Host, Gone}
use Rattle.strm_machine.specs.declared.streams.Operation.{Operation}
use Rattle.strm_machine.specs.declared.streams.Producer.{Producer}
use Rattle.strm_machine.specs.declared.streams.Consumer.{Consumer}
use Rattle.strm_machine.specs.declared.streams.Side.{Side}
use Rattle.strm_machine.specs.declared.streams.Side.TheVariants.{Writing, Reading}
use Rattle.strm_machine.specs.declared.streams.Stream.{Stream}
use Rattle.strm_machine.specs.declared.replies.Reply.{Reply}
use Rattle.strm_machine.specs.declared.replies.Reply.TheVariants as replies
use Rattle.strm_machine.proofs.TableLemmas.{OwnersStay, set-keeps}
use Rattle.strm_host_machine.specs.Ends.{polled_writer, polled_reader, given_writer}
use Rattle.strm_host_machine.specs.World.{World, stream_in, writer_at, reader_at, with_guests, with_producer, with_writer, with_reader, leaves_writer, leaves_reader, with_stream_in}
use Rattle.strm_host_machine.specs.Outcomes.{Outcome, Goes, Stops, Stuck, done}
use Rattle.strm_host_machine.specs.Polls.{AfterWriter, AfterReader, is_failed, same_flag, is_writer_poll, writer_says, is_reader_poll, tells_truly, reader_says}
use Rattle.strm_host_machine.specs.Settling.{result_of, moved_on, since_after}
use Rattle.strm_host_machine.specs.Attaching.{has_items}
use Rattle.strm_host_machine.specs.WriterTurn.{lowered_items, receives, is_last, with_answer, produced_result, produces, writer_turn}
use Rattle.strm_host_machine.specs.ReaderTurn.{lifted_items, reader_with_taken, gives_up, reader_turn}
use Rattle.strm_host_machine.proofs.SettleLemmas.{is_done_with, leaves_writer-stays, leaves_reader-stays}
use Rattle.strm_host_laws.proofs.GoingRules.{with_state, gave_up, with_stream_in-same}
use Rattle.strm_host_laws.proofs.TurnMoves.{moved-theirs, moved-mine}

-- ## What is kept of host ends

-- how many of them there are on a side
abbrev pub known_among : Side → List Producer → List Consumer → ℕ
known_among Writing producers consumers = length producers
known_among Reading producers consumers = length consumers

-- the same in a state
abbrev pub known_on : Side → State → ℕ
known_on side state = known_among side state.producers state.consumers

-- host end n on a side ends where it is done, and else nothing becomes of duties
pub record Leaves (side : Side) (done : Bool) (n : ℕ) (old new : State) : Type 0 where
  pub all : (k : Side) → known_on k new ≡ known_on k old
  pub others : (k : ℕ) → k ≢ n → duty_of side new k ≡ duty_of side old k
  pub here : n < known_on side old → duty_of side new n ≡ cond done Ended (duty_of side old n)
  pub across : (k : ℕ) → duty_of (opposite side) new k ≡ duty_of (opposite side) old k

leaves_none : (side : Side) (n : ℕ) (state : State) → Leaves side false n state state
leaves_none side n state = record { all = λ k. refl; others = λ k ne. refl; here = λ l. refl; across = λ k. refl }

-- host end n on a side has ended
abbrev pub with_ended : Side → State → ℕ → State
with_ended Writing state n = record state { producers = set state.producers n (record (producer_at state n) { duty = Ended }) }
with_ended Reading state n = record state { consumers = set state.consumers n (record (consumer_at state n) { duty = Ended }) }

pub leaves_ended : (side : Side) (n : ℕ) (state : State) → Leaves side true n state (with_ended side state n)
leaves_ended Writing n state =
    let producer = record (producer_at state n) { duty = Ended } in
    record {
      all = by;
      others = λ k ne. ap (λ (p : Producer). p.duty) (get_or-set_other state.producers n k producer no_producer ne);
      here = λ l. ap (λ (p : Producer). p.duty) (get_or-set_same state.producers n producer no_producer l);
      across = λ k. refl;
    }
  where
    by : (k : Side) → known_on k (with_ended Writing state n) ≡ known_on k state
    by Writing = length-set state.producers n (record (producer_at state n) { duty = Ended })
    by Reading = refl
leaves_ended Reading n state =
    let consumer = record (consumer_at state n) { duty = Ended } in
    record {
      all = by;
      others = λ k ne. ap (λ (p : Consumer). p.duty) (get_or-set_other state.consumers n k consumer no_consumer ne);
      here = λ l. ap (λ (p : Consumer). p.duty) (get_or-set_same state.consumers n consumer no_consumer l);
      across = λ k. refl;
    }
  where
    by : (k : Side) → known_on k (with_ended Reading state n) ≡ known_on k state
    by Writing = refl
    by Reading = length-set state.consumers n (record (consumer_at state n) { duty = Ended })

-- duties are as they were
pub record SameDuties (old new : State) : Type 0 where
  pub all : (k : Side) → known_on k new ≡ known_on k old
  pub same : (side : Side) (k : ℕ) → duty_of side new k ≡ duty_of side old k

leaves_behind : (side : Side) (done : Bool) (n : ℕ) (a b c : State) → SameDuties a b → Leaves side done n b c → Leaves side done n a c
leaves_behind side done n a b c s h = record {
  all = λ k. h.all k ∙ s.all k;
  others = λ k ne. h.others k ne ∙ s.same side k;
  here = λ l. h.here (subst (λ x. n < x) (sym (s.all side)) l) ∙ ap (cond done Ended) (s.same side n);
  across = λ k. h.across k ∙ s.same (opposite side) k;
}

-- ## The turn of a host end

-- the stream once so many items of the operation on a side were moved, and it is settled so, if it is
abbrev pub turned_stream : Side → State → ℕ → Operation → ℕ → Option StreamResult → Stream
turned_stream side state s operation count result = moved_on side (stream_at state s) operation count result

-- the state then, with these guests, and with what is kept of host ends in another
abbrev pub turned_by : Side → State → ℕ → Operation → ℕ → Option StreamResult → List Guest → State → State
turned_by side state s operation count result guests ends = record state {
  guests = guests;
  streams = set state.streams s (turned_stream side state s operation count result);
  producers = ends.producers;
  consumers = ends.consumers;
}

-- a read got so many items
pub record IsLowered (old : List Guest) (payload : Payload) (read : Operation) (count : ℕ) (new : List Guest) : Type 0 where
  pub items : List Item
  pub long : count ≡ length items
  pub is : new ≡ lowered_items old payload read items

-- what becomes of the guests: those that write stay
abbrev pub Fills : Side → List Guest → Payload → Operation → ℕ → List Guest → Type 0
Fills Reading old payload operation count new = IsLowered old payload operation count new
Fills Writing old payload operation count new = new ≡ old

-- what host reader k took since it was last ready
abbrev pub since_of : State → ℕ → ℕ
since_of state k = (consumer_at state k).since

-- it is the same where a host end has ended
pub since_ended : (side : Side) (state : State) (n k : ℕ) → since_of (with_ended side state n) k ≡ since_of state k
since_ended Writing state n k = refl
since_ended Reading state n k = set-keeps (λ (x : Consumer). x.since) state.consumers n k (record (consumer_at state n) { duty = Ended }) no_consumer refl

-- host reader n answered so in its turn, by its rules, and took so many items
pub record Answers (kind : TransmitKind) (n : ℕ) (old ends : State) (count : ℕ) (result : Option StreamResult) : Type 0 where
  pub answer : Answer
  pub offered : ℕ
  pub finish : Bool
  pub result_is : result ≡ result_of answer
  pub kept : reader_breaks kind answer offered (since_of old n) finish count ≡ false
  pub since : n < length old.consumers → since_of ends n ≡ since_after answer (since_of old n) count
  pub others : (k : ℕ) → k ≢ n → since_of ends k ≡ since_of old k

-- what becomes of what host readers took: that of one which has its turn is as it answers
abbrev pub Obeys : Side → TransmitKind → ℕ → State → State → ℕ → Option StreamResult → Type 0
Obeys Writing kind n old ends count result = Answers kind n old ends count result
Obeys Reading kind n old ends count result = (k : ℕ) → since_of ends k ≡ since_of old k

-- host end n had its turn for the operation on a side of stream s
pub record Turned (side : Side) (old new : State) (s n : ℕ) (operation : Operation) : Type 0 where
  pub count : ℕ
  pub result : Option StreamResult
  pub guests : List Guest
  pub ends : State
  pub few : count ≤ operation.left
  pub fills : Fills side old.guests (stream_at old s).payload operation count guests
  pub leaves : Leaves (opposite side) (is_done_with result) n old ends
  pub is : new ≡ turned_by side old s operation count result guests ends
  pub obeys : Obeys side (stream_at old s).kind n old ends count result

-- the stream was written back so, after the host end was asked
record Back (side : Side) (old new : State) (s n : ℕ) (operation : Operation) (count : ℕ) (result : Option StreamResult) : Type 0 where
  guests : List Guest
  ends : State
  few : count ≤ operation.left
  fills : Fills side old.guests (stream_at old s).payload operation count guests
  leaves : Leaves (opposite side) (is_done_with result) n old ends
  is : new ≡ turned_by side old s operation count result guests ends
  since : (k : ℕ) → since_of ends k ≡ since_of old k

-- a state that differs from another in its host ends only
abbrev SameButHosts : State → State → Type 0
SameButHosts old mid = mid ≡ record old { producers = mid.producers; consumers = mid.consumers }

module _ (side : Side) (old mid new : State) (s n : ℕ) (operation : Operation) (count : ℕ) (result : Option StreamResult) where
  turned_over : SameButHosts old mid → SameDuties old mid → (b : Back side mid new s n operation count result)
      → Obeys side (stream_at old s).kind n old b.ends count result → Turned side old new s n operation
  turned_over e d b o = record {
    count = count;
    result = result;
    guests = b.guests;
    ends = b.ends;
    few = b.few;
    fills = subst (λ (x : State). Fills side x.guests (stream_at x s).payload operation count b.guests) e b.fills;
    leaves = leaves_behind (opposite side) (is_done_with result) n old mid b.ends d b.leaves;
    is = b.is ∙ ap (λ (x : State). turned_by side x s operation count result b.guests b.ends) e;
    obeys = o;
  }

-- the state with a stream, and with a host end whose duty is done
abbrev pub with_done : Side → State → (s n : ℕ) → Stream → State
with_done side state s n stream = with_stream_at (with_ended side state n) s stream

-- a stream has the owner of another on a side
abbrev pub SameOwner : Side → Stream → Stream → Type 0
SameOwner side old new = (end_of side new).owner ≡ (end_of side old).owner

-- a stream written back whose host end on a side goes
pub with_stream_in-gone : (side : Side) (w : World) (s n : ℕ) (stream : Stream) → (end_of side (stream_in w s)).owner ≡ Host n → (end_of side stream).owner ≡ Gone → SameOwner (opposite side) (stream_in w s) stream
    → (with_stream_in w s stream).state ≡ with_done side w.state s n stream
unfolding with_stream_in
with_stream_in-gone Writing w s n stream e g k =
    let after = with_state w (record w.state { streams = slice_set w.state.streams s stream }) in
    let o = stream_in w s in
    ap (λ x. (leaves_writer o.writer.owner stream.writer.owner (leaves_reader o.reader.owner x after)).state) k
    ∙ ap (λ x. (leaves_writer o.writer.owner stream.writer.owner x).state) (leaves_reader-stays o.reader.owner after)
    ∙ ap (λ x. (leaves_writer x stream.writer.owner after).state) e
    ∙ ap (λ x. (leaves_writer (Host n) x after).state) g
with_stream_in-gone Reading w s n stream e g k =
    let after = with_state w (record w.state { streams = slice_set w.state.streams s stream }) in
    let o = stream_in w s in
    ap (λ x. (leaves_writer o.writer.owner x (leaves_reader o.reader.owner stream.reader.owner after)).state) k
    ∙ ap (λ (x : World). x.state) (leaves_writer-stays o.writer.owner (leaves_reader o.reader.owner stream.reader.owner after))
    ∙ ap (λ x. (leaves_reader x stream.reader.owner after).state) e
    ∙ ap (λ x. (leaves_reader (Host n) x after).state) g

-- the duties of both host ends of a stream are done
abbrev pub both_ended : State → (n r : ℕ) → State
both_ended state n r = with_ended Writing (with_ended Reading state r) n

-- one whose both host ends go
pub with_stream_in-both : (w : World) (s n r : ℕ) (stream : Stream) → (stream_in w s).writer.owner ≡ Host n → stream.writer.owner ≡ Gone → (stream_in w s).reader.owner ≡ Host r → stream.reader.owner ≡ Gone
    → (with_stream_in w s stream).state ≡ with_stream_at (both_ended w.state n r) s stream
unfolding with_stream_in
with_stream_in-both w s n r stream e g f k =
    let after = with_state w (record w.state { streams = slice_set w.state.streams s stream }) in
    let o = stream_in w s in
    ap (λ x. (leaves_writer o.writer.owner stream.writer.owner (leaves_reader x stream.reader.owner after)).state) f
    ∙ ap (λ x. (leaves_writer o.writer.owner stream.writer.owner (leaves_reader (Host r) x after)).state) k
    ∙ ap (λ x. (leaves_writer x stream.writer.owner (leaves_reader (Host r) Gone after)).state) e
    ∙ ap (λ x. (leaves_writer (Host n) x (leaves_reader (Host r) Gone after)).state) g

pub with_stream_in-kept : (w : World) (s : ℕ) (stream : Stream) → OwnersStay (stream_in w s) stream → (with_stream_in w s stream).state ≡ with_stream_at w.state s stream
with_stream_in-kept w s stream e = ap (λ (v : World). v.state) (with_stream_in-same w s stream e)

-- owners stay on both sides
pub owners_by : (side : Side) (old new : Stream) → SameOwner side old new → SameOwner (opposite side) old new → OwnersStay old new
owners_by Writing old new e f = record { writer = e; reader = f }
owners_by Reading old new e f = record { writer = f; reader = e }

-- the side across the opposite one
pub end_twice : (side : Side) (stream : Stream) → end_of (opposite (opposite side)) stream ≡ end_of side stream
end_twice Writing stream = refl
end_twice Reading stream = refl

-- of what comes of a part, what holds where it goes on
abbrev pub Going : (Reply → World → Type 0) → Outcome → Type 0
Going P (Goes reply v) = P reply v
Going P (Stops stop writers readers) = Unit {0}
Going P Stuck = Unit {0}

module _ (side : Side) (s n : ℕ) (operation : Operation) where
  -- the turn of host end n
  abbrev pub TurnsIn : World → Reply → World → Type 0
  TurnsIn w reply v = Turned side w.state v.state s n operation

  -- host end n has the end across
  abbrev IsAcross : World → Type 0
  IsAcross w = (end_of (opposite side) (stream_in w s)).owner ≡ Host n

  -- these guests have the items of a turn
  abbrev FillsIn : World → List Guest → ℕ → Type 0
  FillsIn w guests count = Fills side w.state.guests (stream_in w s).payload operation count guests

  -- the state with these guests, and the stream with these items moved
  abbrev back_in : World → List Guest → ℕ → Option StreamResult → State
  back_in w guests count result = (with_stream_in (with_guests w guests) s (turned_stream side w.state s operation count result)).state

  -- the stream is written back with these items moved, from a world with other guests
  back_by : (w : World) (guests : List Guest) (count : ℕ) (result : Option StreamResult) (b : Bool) → IsAcross w → count ≤ operation.left → FillsIn w guests count → is_done_with result ≡ b
      → Back side w.state (back_in w guests count result) s n operation count result
  back_by w guests count result true o l f e =
      let now = turned_stream side w.state s operation count result in
      record {
        guests = guests;
        ends = with_ended (opposite side) w.state n;
        few = l;
        fills = f;
        leaves = rw e (leaves_ended (opposite side) n w.state);
        is =
            with_stream_in-gone (opposite side) (with_guests w guests) s n now o
            (moved-theirs (stream_in w s) operation count side result ∙ ap (λ b. cond b Gone (end_of (opposite side) (stream_in w s)).owner) e)
            (ap (λ (x : _). x.owner) (end_twice side now) ∙ moved-mine (stream_in w s) operation count side result ∙ ap (λ (x : _). x.owner) (sym (end_twice side (stream_in w s))))
            ∙ ended_so (opposite side) now;
        since = since_ended (opposite side) w.state n;
      }
    where
      ended_so : (k : Side) (x : Stream) → with_done k (with_guests w guests).state s n x ≡ record w.state { guests = guests; streams = set w.state.streams s x; producers = (with_ended k w.state n).producers; consumers = (with_ended k w.state n).consumers }
      ended_so Writing x = refl
      ended_so Reading x = refl
  back_by w guests count result false o l f e =
      let now = turned_stream side w.state s operation count result in
      record {
        guests = guests;
        ends = w.state;
        few = l;
        fills = f;
        leaves = rw e (leaves_none (opposite side) n w.state);
        is =
            with_stream_in-kept (with_guests w guests) s now
            (owners_by side (stream_in w s) now (moved-mine (stream_in w s) operation count side result)
            (moved-theirs (stream_in w s) operation count side result ∙ ap (λ b. cond b Gone (end_of (opposite side) (stream_in w s)).owner) e));
        since = λ k. refl;
      }

-- ## Of a host writer

module _ (s n : ℕ) (read : Operation) where
  receives_back : (w : World) (items : List Item) (result : Option StreamResult) → (stream_in w s).writer.owner ≡ Host n → length items ≤ read.left → Back Reading w.state (receives w s read items result).state s n read (length items) result
  receives_back w items result o l =
      back_by Reading s n read w (lowered_items w.state.guests (stream_in w s).payload read items) (length items) result (is_done_with result) o l
      (record { items = items; long = refl; is = refl }) refl

  receives_turned : (w : World) (items : List Item) (result : Option StreamResult) → (stream_in w s).writer.owner ≡ Host n → length items ≤ read.left → Turned Reading w.state (receives w s read items result).state s n read
  receives_turned w items result o l =
      let b = receives_back w items result o l in
      turned_over Reading w.state w.state (receives w s read items result).state s n read (length items) result refl (record { all = λ k. refl; same = λ k m. refl }) b b.since

  front_few : (xs : List Item) → length (take read.left xs) ≤ read.left
  front_few xs = omega (arith, length-take read.left xs)

  -- something else is kept of it, with the same duty
  kept_same : (w : World) (producer : Producer) → producer.duty ≡ (producer_at w.state n).duty → SameDuties w.state (with_producer w n producer).state
  kept_same w producer e = record { all = all; same = same }
    where
      all : (k : Side) → known_on k (with_producer w n producer).state ≡ known_on k w.state
      all Writing = length-set w.state.producers n producer
      all Reading = refl

      same : (k : Side) (m : ℕ) → duty_of k (with_producer w n producer).state m ≡ duty_of k w.state m
      same Writing m = set-keeps (λ (p : Producer). p.duty) w.state.producers n m producer no_producer e
      same Reading m = refl

  -- these items are received, and something else is kept of it
  receives_kept : (w : World) (p : Producer) → p.duty ≡ (producer_at w.state n).duty → (items : List Item) (result : Option StreamResult) → (stream_in w s).writer.owner ≡ Host n → length items ≤ read.left
      → Turned Reading w.state (receives (with_producer w n p) s read items result).state s n read
  receives_kept w producer d items result o l =
      let v = with_producer w n producer in
      let b = receives_back v items result o l in
      turned_over Reading w.state v.state (receives v s read items result).state s n read (length items) result refl (kept_same w producer d) b b.since

  says_turned : (w : World) (room : Option ℕ) (finish : Bool) (coming : List WriterSaid) (next : AfterWriter) → ((v : World) (said : WriterSaid) → v.state ≡ w.state → Going (TurnsIn Reading s n read w) (next v said))
      → Going (TurnsIn Reading s n read w) (writer_says w s n room finish coming next)
  says_turned w room finish [] next h = tt
  says_turned w room finish (said ∷ more) next h =
      let after = with_writer w n (polled_writer (writer_at w n) room said more) in
      cond_both (is_writer_poll room finish said) _ _ (Going (TurnsIn Reading s n read w))
      (λ f. cond_both (is_failed said.answer) _ _ (Going (TurnsIn Reading s n read w)) (λ g. tt)
      (λ g. cond_both (breaks_as_writer (stream_in w s).kind said) _ _ (Going (TurnsIn Reading s n read w)) (λ k. tt) (λ k. h after said refl)))
      (λ f. tt)

  produced_turned : (w v : World) (r : WriterSaid) → (stream_in w s).writer.owner ≡ Host n → v.state ≡ w.state
      → Turned Reading w.state (receives (with_answer v n r.answer (drop read.left r.items)) s read (take read.left r.items) (produced_result r.answer (drop read.left r.items))).state s n read
  produced_turned w v said o e =
      let over = with_answer v n said.answer (drop read.left said.items) in
      let items = take read.left said.items in
      let result = produced_result said.answer (drop read.left said.items) in
      let owned : (stream_in v s).writer.owner ≡ Host n = ap (λ (x : State). (stream_at x s).writer.owner) e ∙ o in
      subst (λ (x : State). Turned Reading x (receives over s read items result).state s n read) e
      (receives_kept v (record (producer_at v.state n) { over = (producer_at v.state n).over || is_last said.answer; holding = has_items (drop read.left said.items) }) refl items result owned (front_few said.items))

  produces_turned : (w : World) (held : List Item) → (stream_in w s).writer.owner ≡ Host n → Going (TurnsIn Reading s n read w) (produces w s n read held)
  produces_turned w (item ∷ items) o =
      let writer = writer_at w n in
      let given = given_writer writer read.left in
      receives_kept (with_writer w n given) (record (producer_at w.state n) { holding = has_items given.holds }) refl (take read.left writer.holds) (Some results.Completed) o (front_few writer.holds)
  produces_turned w [] o =
      cond_both (producer_at w.state n).over _ _ (Going (TurnsIn Reading s n read w))
      (λ e. receives_turned w [] (Some results.Dropped) o (omega arith))
      (λ e. says_turned w (Some read.left) read.asked (writer_at w n).coming
      (λ after said. done (receives (with_answer after n said.answer (drop read.left said.items)) s read (take read.left said.items) (produced_result said.answer (drop read.left said.items))))
      (λ v said e. produced_turned w v said o e))

  -- which tells nothing of its own
  abbrev IsDone : Reply → World → Type 0
  IsDone reply v = reply ≡ replies.Done

  says_done : (w : World) (room : Option ℕ) (finish : Bool) (coming : List WriterSaid) (next : AfterWriter) → ((v : World) (said : WriterSaid) → Going IsDone (next v said)) → Going IsDone (writer_says w s n room finish coming next)
  says_done w room finish [] next h = tt
  says_done w room finish (said ∷ more) next h =
      let after = with_writer w n (polled_writer (writer_at w n) room said more) in
      cond_both (is_writer_poll room finish said) _ _ (Going IsDone)
      (λ f. cond_both (is_failed said.answer) _ _ (Going IsDone) (λ g. tt)
      (λ g. cond_both (breaks_as_writer (stream_in w s).kind said) _ _ (Going IsDone) (λ k. tt) (λ k. h after said)))
      (λ f. tt)

  produces_done : (w : World) (held : List Item) → Going IsDone (produces w s n read held)
  produces_done w (item ∷ items) = refl
  produces_done w [] =
      cond_both (producer_at w.state n).over _ _ (Going IsDone)
      (λ e. refl)
      (λ e. says_done w (Some read.left) read.asked (writer_at w n).coming
      (λ after said. done (receives (with_answer after n said.answer (drop read.left said.items)) s read (take read.left said.items) (produced_result said.answer (drop read.left said.items))))
      (λ v said. refl))

pub goes_both : (P Q : Reply → World → Type 0) (o : Outcome) → Going P o → Going Q o → Going (λ reply v. P reply v × Q reply v) o
goes_both P Q (Goes reply v) p q = (p, q)
goes_both P Q (Stops stop writers readers) p q = tt
goes_both P Q Stuck p q = tt

-- the turn of host end n, which tells nothing of its own
abbrev pub TurnsDone : Side → ℕ → ℕ → Operation → World → Reply → World → Type 0
TurnsDone side s n operation w reply v = Turned side w.state v.state s n operation × (reply ≡ replies.Done)

pub turn_done : (s n : ℕ) (read : Operation) (w : World) → (stream_in w s).writer.owner ≡ Host n → Going (TurnsDone Reading s n read w) (writer_turn w s n read)
unfolding writer_turn
turn_done s n read w o = goes_both (TurnsIn Reading s n read w) (IsDone s n read) (writer_turn w s n read) (produces_turned s n read w (writer_at w n).holds o) (produces_done s n read w (writer_at w n).holds)

-- ## Of a host reader

module _ (s r : ℕ) (write : Operation) where
  -- what is kept of it then
  abbrev took_now : World → Answer → ℕ → Consumer
  took_now w answer taken = record (consumer_at w.state r) { since = since_after answer (consumer_at w.state r).since taken }

  taken_same : (w : World) (answer : Answer) (taken : ℕ) → SameDuties w.state (reader_with_taken w r answer taken).state
  taken_same w answer taken = record { all = all; same = same }
    where
      all : (k : Side) → known_on k (reader_with_taken w r answer taken).state ≡ known_on k w.state
      all Writing = refl
      all Reading = length-set w.state.consumers r (took_now w answer taken)

      same : (k : Side) (m : ℕ) → duty_of k (reader_with_taken w r answer taken).state m ≡ duty_of k w.state m
      same Writing m = refl
      same Reading m = set-keeps (λ (p : Consumer). p.duty) w.state.consumers r m (took_now w answer taken) no_consumer refl

  -- it takes no more than it was offered
  pub taken_few : (offered since : ℕ) (finish : Bool) (said : ReaderSaid) → is_reader_poll offered since finish said ≡ true → said.taken ≤ offered
  taken_few offered since finish said e =
      let one = and_parts (said.offered == offered) ((said.since == since) && (same_flag said.finish finish && nat_le said.taken offered)) e in
      let two = and_parts (said.since == since) (same_flag said.finish finish && nat_le said.taken offered) one.1 in
      let three = and_parts (same_flag said.finish finish) (nat_le said.taken offered) two.1 in
      let few = three.1 in
      grind (arith, nat_tests)

  -- its record tells what it took since
  polled_since : (offered since : ℕ) (finish : Bool) (said : ReaderSaid) → is_reader_poll offered since finish said ≡ true → said.since ≡ since
  polled_since offered since finish said e =
      let one = and_parts (said.offered == offered) ((said.since == since) && (same_flag said.finish finish && nat_le said.taken offered)) e in
      eqb-true said.since since (and_parts (said.since == since) (same_flag said.finish finish && nat_le said.taken offered) one.1).0

  gives_turned : (w v : World) (said : ReaderSaid) → (stream_in w s).reader.owner ≡ Host r → v.state ≡ w.state → said.taken ≤ write.left → breaks_as_reader (stream_in w s).kind said ≡ false → said.since ≡ since_of w.state r
      → Turned Writing w.state (gave_up s r write v said).state s r write
  gives_turned w v said o e l kept since =
      let after = reader_with_taken v r said.answer said.taken in
      let owned : (stream_in v s).reader.owner ≡ Host r = ap (λ (x : State). (stream_at x s).reader.owner) e ∙ o in
      let result = result_of said.answer in
      let b = back_by Writing s r write after after.state.guests said.taken result (is_done_with result) owned l refl refl in
      let was : said.since ≡ since_of v.state r = since ∙ ap (λ (x : State). since_of x r) (sym e) in
      let kind : (stream_in w s).kind ≡ (stream_at v.state s).kind = ap (λ (x : State). (stream_at x s).kind) (sym e) in
      subst (λ (x : State). Turned Writing x (gives_up after s write said.taken said.answer).state s r write) e
      (turned_over Writing v.state after.state (gives_up after s write said.taken said.answer).state s r write said.taken result refl (taken_same v said.answer said.taken) b
      (record {
        answer = said.answer;
        offered = said.offered;
        finish = said.finish;
        result_is = refl;
        kept = subst (λ k. reader_breaks k said.answer said.offered (since_of v.state r) said.finish said.taken ≡ false) kind (subst (λ k. reader_breaks (stream_in w s).kind said.answer said.offered k said.finish said.taken ≡ false) was kept);
        since = λ known. b.since r ∙ ap (λ (x : Consumer). x.since) (get_or-set_same v.state.consumers r (took_now v said.answer said.taken) no_consumer known);
        others = λ k ne. b.since k ∙ ap (λ (x : Consumer). x.since) (get_or-set_other v.state.consumers r k (took_now v said.answer said.taken) no_consumer ne);
      }))

  abbrev pub AfterTaking : AfterReader
  AfterTaking after said = done (gave_up s r write after said)

  takes_by : (w : World) (finish : Bool) (first : ℕ → List Item) (coming : List ReaderSaid) → (stream_in w s).reader.owner ≡ Host r → Going (TurnsDone Writing s r write w) (reader_says w s r write.left finish first coming AfterTaking)
  takes_by w finish first [] o = tt
  takes_by w finish first (said ∷ more) o =
      let after = with_reader w r (polled_reader (reader_at w r) (first said.taken) more) in
      cond_both (is_reader_poll write.left (consumer_at w.state r).since finish said && tells_truly write.left first said) _ _ (Going (TurnsDone Writing s r write w))
      (λ t. let f = (and_parts (is_reader_poll write.left (consumer_at w.state r).since finish said) (tells_truly write.left first said) t).0 in cond_both (is_failed said.answer) _ _ (Going (TurnsDone Writing s r write w)) (λ g. tt)
      (λ g. cond_both said.bad _ _ (Going (TurnsDone Writing s r write w)) (λ b. tt)
      (λ b. cond_both (breaks_as_reader (stream_in w s).kind said) _ _ (Going (TurnsDone Writing s r write w)) (λ k. tt)
      (λ k. (gives_turned w after said o refl (taken_few write.left (consumer_at w.state r).since finish said f) k (polled_since write.left (consumer_at w.state r).since finish said f), refl)))))
      (λ f. tt)

  pub taking_done : (w : World) → (stream_in w s).reader.owner ≡ Host r → Going (TurnsDone Writing s r write w) (reader_turn w s r write)
  unfolding reader_turn
  taking_done w o = takes_by w write.asked (lifted_items w.state.guests (stream_in w s).payload write) (reader_at w r).coming o
