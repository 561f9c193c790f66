-- What the turn of a host end does where it goes on: of a host writer the items that it hands over, the records
-- that it uses, and what it holds then; of a host reader its record, and the items that it takes.
use Rattle.std.proofs.Common.{◌≡◌, ℕ, zero, suc, ◌+◌, ◌≤◌, ◌||◌, ◌&&◌, Bool, List, [], ◌∷◌, ◌++◌, length, take, drop, Option, Some, None, true, false, refl, sym, ap, ◌∙◌, arith, append-nil, take-append-drop, length-take, length-append}
use Rattle.std.proofs.lemmas.Bool.{cond_both, and_parts, eqb-true}
use Rattle.std.specs.Prelude.{slice_set, nat_lt, not}
use Rattle.std.proofs.lemmas.Bool.Decides.{nat_tests}
use Rattle.strm_codes.specs.declared.codes.StreamResult.{StreamResult}
use Rattle.strm_codes.specs.declared.codes.StreamResult.TheVariants as results
use Rattle.strm_codes.specs.declared.codes.TransmitKind.{TransmitKind}
use Rattle.strm_codes.specs.declared.codes.TransmitKind.TheVariants.{Future}
use Rattle.strm_buffers.specs.declared.answers.Answer.{Answer}
use Rattle.strm_buffers.specs.declared.answers.Answer.TheVariants as answers
use Rattle.strm_buffers.specs.declared.answers.ReaderSaid.{ReaderSaid}
use Rattle.strm_buffers.specs.HostRules.{writer_breaks, breaks_as_writer, breaks_as_reader}
use Rattle.strm_buffers.specs.Listing.{Item}
use Rattle.strm_buffers.specs.Said.{WriterSaid}
use Rattle.strm_machine.specs.State.{no_producer, producer_at, consumer_at}
use Rattle.strm_machine.specs.declared.streams.Operation.{Operation}
use Rattle.strm_machine.specs.declared.streams.Producer.{Producer}
use Rattle.strm_machine.specs.declared.streams.Side.TheVariants.{Writing, Reading}
use Rattle.strm_machine.specs.declared.streams.Stream.{Stream}
use Rattle.strm_machine.specs.declared.replies.Reply.{Reply}
use Rattle.strm_host_machine.specs.Ends.{Writer, no_writer, polled_writer, given_writer, polled_reader}
use Rattle.strm_host_machine.specs.World.{World, stream_in, writer_at, reader_at, with_writer, with_reader, with_stream_in}
use Rattle.strm_host_machine.specs.Outcomes.{done}
use Rattle.strm_host_machine.specs.Polls.{AfterWriter, is_failed, is_writer_poll, writer_says, is_reader_poll, are_items, tells_truly, reader_says}
use Rattle.strm_host_machine.specs.Settling.{result_of, moved_on}
use Rattle.strm_host_machine.specs.Attaching.{has_items}
use Rattle.strm_host_machine.specs.ReaderTurn.{lifted_items, reader_with_taken, reader_turn}
use Rattle.strm_host_machine.specs.WriterTurn.{lowered_items, receives, is_last, with_answer, produced_result, produces, writer_turn}
use Rattle.strm_host_machine.proofs.WorldLemmas.{set-same}
use Rattle.strm_host_laws.specs.HostLaws.{items_of_records}
use Rattle.strm_host_laws.proofs.GoingRules.{gave_up, IfGoes}
use Rattle.strm_host_laws.proofs.Rounds.{IsGoodSaid, one_said}

-- the world after a turn, but for the stream: these items were lowered, and this is kept of the writer
abbrev pub turned : World → ℕ → ℕ → Operation → List Item → Producer → Writer → World
turned w s n read items producer writer = record {
  state = record w.state {
    guests = lowered_items w.state.guests (stream_in w s).payload read items;
    producers = slice_set w.state.producers n producer;
  };
  writers = slice_set w.writers n writer;
  readers = w.readers;
}

-- the stream after it
abbrev pub stream_moved : World → ℕ → Operation → List Item → Option StreamResult → Stream
stream_moved w s read items result = moved_on Reading (stream_in w s) read (length items) result

pub record Turned (w : World) (s n : ℕ) (read : Operation) (v : World) : Type 0 where
  pub items : List Item
  pub said : List WriterSaid
  pub result : Option StreamResult
  pub producer : Producer
  pub writer : Writer
  pub is : v ≡ with_stream_in (turned w s n read items producer writer) s (stream_moved w s read items result)
  pub fits : length items ≤ read.left
  pub duty : producer.duty ≡ (producer_at w.state n).duty
  pub coming : (writer_at w n).coming ≡ said ++ writer.coming
  pub balance : (writer_at w n).holds ++ items_of_records said ≡ items ++ writer.holds
  -- a future has one item at most, where its writer held no more, and what is left open moved none
  pub one : (stream_in w s).kind ≡ Future → length (writer_at w n).holds ≤ 1 → length items + length writer.holds ≤ 1
  pub none : result ≡ None → items ≡ []

-- a list by its front and its rest
parts_long : (k : ℕ) (xs : List Item) → length xs ≤ 1 → length (take k xs) + length (drop k xs) ≤ 1
parts_long k xs l = let all = ap length (take-append-drop k xs) in let long = length-append (take k xs) (drop k xs) in omega (arith, all, long, l)

no_more : (n : ℕ) → nat_lt 0 n ≡ false → n ≡ 0
no_more n e = grind (arith, nat_tests)

-- an answer that leaves a read open is of no items
nothing_said : (kind : TransmitKind) (answer : Answer) (room : Option ℕ) (finish : Bool) (items : List Item) (k : ℕ) → is_failed answer ≡ false → writer_breaks kind answer room finish (length items) ≡ false → produced_result answer (drop k items) ≡ None → take k items ≡ []
nothing_said kind answers.Pending room finish [] zero f e r = refl
nothing_said kind answers.Pending room finish [] (suc k) f e r = refl
nothing_said kind answers.Pending room finish (x ∷ xs) k f e r = absurd (let none = no_more (length (x ∷ xs)) e in omega (arith, none))
nothing_said kind answers.Completed room finish items k f e r = cc
nothing_said kind answers.Cancelled room finish items k f e r = cc
nothing_said kind answers.Dropped room finish items k f e r = by (drop k items) r
  where
    by : (held : List Item) → produced_result answers.Dropped held ≡ None → take k items ≡ []
    by [] r = cc
    by (x ∷ xs) r = cc
nothing_said kind answers.Failed room finish items k f e r = cc

module _ (w : World) (s n : ℕ) (read : Operation) where
  -- a turn that goes on did this
  abbrev AsTurned : Reply → World → Type 0
  AsTurned reply v = Turned w s n read v

  -- written back
  abbrev back : List Item → Option StreamResult → Producer → Writer → World
  back items result producer writer = with_stream_in (turned w s n read items producer writer) s (stream_moved w s read items result)

  -- held items
  by_holding : (item : Item) (items : List Item) → IfGoes (produces w s n read (item ∷ items)) AsTurned
  by_holding item items =
      let held = (writer_at w n).holds in
      let writer = given_writer (writer_at w n) read.left in
      record {
        items = take read.left held;
        said = [];
        result = Some results.Completed;
        producer = record (producer_at w.state n) { holding = has_items (drop read.left held) };
        writer = writer;
        is = refl;
        fits = omega (arith, length-take read.left held);
        duty = refl;
        coming = refl;
        balance = append-nil held ∙ sym (take-append-drop read.left held);
        one = λ k l. parts_long read.left held l;
        none = λ e. cc;
      }

  -- a writer that is over
  by_over : (writer_at w n).holds ≡ [] → Turned w s n read (receives w s read [] (Some results.Dropped))
  by_over e =
      let moved = stream_moved w s read [] (Some results.Dropped) in
      record {
        items = [];
        said = [];
        result = Some results.Dropped;
        producer = producer_at w.state n;
        writer = writer_at w n;
        is = ap (λ ps. with_stream_in (record {
          state = record w.state { guests = lowered_items w.state.guests (stream_in w s).payload read []; producers = ps };
          writers = w.writers;
          readers = w.readers;
        }) s moved) (sym (set-same w.state.producers n no_producer))
            ∙ ap (λ ws. with_stream_in (record {
              state = record w.state { guests = lowered_items w.state.guests (stream_in w s).payload read []; producers = slice_set w.state.producers n (producer_at w.state n) };
              writers = ws;
              readers = w.readers;
            }) s moved) (sym (set-same w.writers n no_writer));
        fits = omega arith;
        duty = refl;
        coming = refl;
        balance = append-nil (writer_at w n).holds;
        one = λ k l. omega (arith, l);
        none = λ e. refl;
      }

  -- after a record
  abbrev next : AfterWriter
  next after said = done (receives (with_answer after n said.answer (drop read.left said.items)) s read (take read.left said.items) (produced_result said.answer (drop read.left said.items)))

  by_record : (said : WriterSaid) (more : List WriterSaid) → (writer_at w n).holds ≡ [] → (writer_at w n).coming ≡ said ∷ more → IsGoodSaid (stream_in w s).kind said
      → IfGoes (next (with_writer w n (polled_writer (writer_at w n) (Some read.left) said more)) said) AsTurned
  by_record said more e c good =
      let items = said.items in
      record {
        items = take read.left items;
        said = said ∷ [];
        result = produced_result said.answer (drop read.left items);
        producer = record (producer_at w.state n) {
          over = (producer_at w.state n).over || is_last said.answer;
          holding = has_items (drop read.left items);
        };
        writer = polled_writer (writer_at w n) (Some read.left) said more;
        is = refl;
        fits = omega (arith, length-take read.left items);
        duty = refl;
        coming = c;
        balance = ap (λ xs. xs ++ (items ++ [])) e ∙ append-nil items ∙ sym (take-append-drop read.left items);
        one = λ k l. parts_long read.left items (one_said said (good.0, ap (λ x. breaks_as_writer x said) (sym k) ∙ good.1));
        none = λ r. nothing_said (stream_in w s).kind said.answer said.room said.finish items read.left good.0 good.1 r;
      }

  by_saying : (coming : List WriterSaid) → (writer_at w n).holds ≡ [] → (writer_at w n).coming ≡ coming
      → IfGoes (writer_says w s n (Some read.left) read.asked coming next) AsTurned
  by_saying [] e c = tt
  by_saying (said ∷ more) e c =
      cond_both (is_writer_poll (Some read.left) read.asked said) _ _ (λ o. IfGoes o AsTurned)
      (λ f. cond_both (is_failed said.answer) _ _ (λ o. IfGoes o AsTurned) (λ g. tt)
      (λ g. cond_both (breaks_as_writer (stream_in w s).kind said) _ _ (λ o. IfGoes o AsTurned) (λ k. tt) (λ k. by_record said more e c (g, k))))
      (λ f. tt)

  by_held : (held : List Item) → (writer_at w n).holds ≡ held → IfGoes (produces w s n read held) AsTurned
  by_held (item ∷ items) e = by_holding item items
  by_held [] e =
      cond_both (producer_at w.state n).over _ _ (λ o. IfGoes o AsTurned)
      (λ f. by_over e)
      (λ f. by_saying (writer_at w n).coming e refl)

  pub turn_is : IfGoes (writer_turn w s n read) AsTurned
  unfolding writer_turn
  turn_is = by_held (writer_at w n).holds refl

-- THE TURN OF A HOST READER

-- the world after it, but for the stream: the first of its records was used
abbrev pub taken_by : World → ℕ → ℕ → Operation → ReaderSaid → List ReaderSaid → World
taken_by w s r write said more =
    reader_with_taken (with_reader w r (polled_reader (reader_at w r) (lifted_items w.state.guests (stream_in w s).payload write said.taken) more)) r said.answer said.taken

-- the stream after it
abbrev pub stream_taken : World → ℕ → Operation → ReaderSaid → Stream
stream_taken w s write said = moved_on Writing (stream_in w s) write said.taken (result_of said.answer)

pub record Taken (w : World) (s r : ℕ) (write : Operation) (v : World) : Type 0 where
  pub said : ReaderSaid
  pub more : List ReaderSaid
  pub coming : (reader_at w r).coming ≡ said ∷ more
  pub polled : is_reader_poll write.left (consumer_at w.state r).since write.asked said ≡ true
  pub kept : breaks_as_reader (stream_in w s).kind said ≡ false
  -- each item that it took is one
  pub good : length (lifted_items w.state.guests (stream_in w s).payload write said.taken) ≡ said.taken
  pub is : v ≡ with_stream_in (taken_by w s r write said more) s (stream_taken w s write said)

module _ (w : World) (s r : ℕ) (write : Operation) where
  -- a turn that goes on did this
  abbrev AsTaken : Reply → World → Type 0
  AsTaken reply v = Taken w s r write v

  after_taking : (coming : List ReaderSaid) → (reader_at w r).coming ≡ coming
      → IfGoes (reader_says w s r write.left write.asked (lifted_items w.state.guests (stream_in w s).payload write) coming (λ after said. done (gave_up s r write after said))) AsTaken
  after_taking [] e = tt
  after_taking (said ∷ more) e =
      let first = lifted_items w.state.guests (stream_in w s).payload write in
      let polled = is_reader_poll write.left (consumer_at w.state r).since write.asked said in
      let told = and_parts polled (tells_truly write.left first said) in
      let took = λ (t : tells_truly write.left first said ≡ true). eqb-true (length (first said.taken)) said.taken (and_parts (are_items first said.taken) (not said.bad || (nat_lt said.taken write.left && not (are_items first (said.taken + 1)))) t).0 in
      cond_both (is_reader_poll write.left (consumer_at w.state r).since write.asked said && tells_truly write.left (lifted_items w.state.guests (stream_in w s).payload write) said) _ _ (λ o. IfGoes o AsTaken)
      (λ f. cond_both (is_failed said.answer) _ _ (λ o. IfGoes o AsTaken) (λ g. tt)
      (λ g. cond_both said.bad _ _ (λ o. IfGoes o AsTaken) (λ b. tt)
      (λ b. cond_both (breaks_as_reader (stream_in w s).kind said) _ _ (λ o. IfGoes o AsTaken) (λ k. tt)
      (λ k. record { said = said; more = more; coming = e; polled = (told f).0; kept = k; good = took (told f).1; is = refl }))))
      (λ f. tt)

  pub taking_is : IfGoes (reader_turn w s r write) AsTaken
  unfolding reader_turn
  taking_is = after_taking (reader_at w r).coming refl
