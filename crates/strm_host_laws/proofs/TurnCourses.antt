-- The turn of a host end for an open read or write is its course's, with the records that it used, and changes
-- no other stream.
use Rattle.std.proofs.Common.{◌≡◌, ℕ, suc, arith, ◌<◌, ◌-◌, ◌==◌, ◌||◌, Bool, true, false, cond, List, [], ◌∷◌, ◌++◌, length, map, min, nat_lt, take, drop, Option, Some, None, refl, sym, ap, subst, ◌∙◌, length-take}
use Rattle.std.proofs.lemmas.Bool.{cond_both}
use Rattle.std.proofs.lemmas.Bool.Decides.{nat_tests}
use Rattle.std.proofs.lemmas.List.{get_or-set_same, length-drop}
use Rattle.strm_codes.specs.declared.codes.StreamResult.{StreamResult}
use Rattle.strm_codes.specs.declared.codes.StreamResult.TheVariants as results
use Rattle.strm_buffers.specs.HostRules.{breaks_as_writer}
use Rattle.strm_buffers.specs.declared.answers.Answer.{Answer}
use Rattle.strm_buffers.specs.declared.answers.Answer.TheVariants as answers
use Rattle.strm_buffers.specs.Listing.{Item}
use Rattle.strm_buffers.specs.Said.{WriterSaid}
use Rattle.strm_machine.specs.State.{no_producer, producer_at, kept_at, consumer_at, is_host}
use Rattle.strm_machine.specs.declared.streams.Operation.{Operation}
use Rattle.strm_machine.specs.declared.streams.Owner.TheVariants.{Held, Loose, Host, Gone}
use Rattle.strm_machine.specs.declared.streams.Producer.{Producer}
use Rattle.strm_machine.specs.declared.streams.Side.{Side}
use Rattle.strm_machine.specs.declared.streams.Side.TheVariants.{Writing, Reading}
use Rattle.strm_machine.specs.declared.streams.Stream.{Stream}
use Rattle.strm_machine.specs.declared.replies.Reply.{Reply}
use Rattle.strm_host_machine.specs.Ends.{Writer, Reader, no_writer, no_reader, polled_writer, given_writer, polled_reader}
use Rattle.strm_host_machine.specs.Attaching.{has_items}
use Rattle.strm_host_machine.specs.World.{World, stream_in, writer_at, reader_at, with_guests, with_producer, with_writer, with_reader, with_stream_in}
use Rattle.strm_host_machine.specs.Outcomes.{Outcome, Goes, Stops, Stuck, done}
use Rattle.strm_host_machine.specs.Settling.{result_of, since_after}
use Rattle.strm_host_machine.specs.ReaderTurn.{lifted_items, reader_turn}
use Rattle.strm_buffers.specs.declared.answers.ReaderSaid.{ReaderSaid}
use Rattle.strm_machine.specs.declared.streams.Owner.{Owner}
use Rattle.strm_host_laws.specs.HostLaws.{used_records}
use Rattle.strm_host_laws.proofs.Fed.{used_are}
use Rattle.strm_host_laws.proofs.Rounds.{reader_there}
use Rattle.strm_host_laws.proofs.TurnMoves.{moved-mine}
use Rattle.strm_host_machine.specs.Polls.{AfterWriter, is_failed, is_writer_poll, writer_says}
use Rattle.strm_host_machine.specs.WriterTurn.{lowered_items, receives, is_last, with_answer, produced_result, produces, writer_turn}
use Rattle.strm_host_machine.proofs.SettleLemmas.{is_done_with, moved_on-owner}
use Rattle.strm_host_machine.proofs.WorldLemmas.{set-same}
use Rattle.strm_host_laws.proofs.GoingRules.{IfGoes}
use Rattle.strm_host_laws.proofs.Turned.{turned, stream_moved, Turned, turn_is, taken_by, stream_taken, Taken, taking_is}
use Rattle.strm_host_laws.proofs.WrittenBack.{back-coming, back-told, back-length}
use Rattle.strm_host_machine.specs.Courses.{Course, CoursePoll, goes_on}
use Rattle.strm_host_machine.specs.Courses as courses
use Rattle.strm_host_laws.specs.StreamEvents.{poll_of_record, poll_of_reader}
use Rattle.strm_host_laws.proofs.Tracing.{progress_of, held_for, over_for, seen, course_of}
use Rattle.strm_host_laws.proofs.HostSteps.{back-course, back-unhosted}
use Rattle.strm_host_laws.proofs.Apart.{OnlyAt, WritesIt, ReadsIt, only-then, only-guests, only-producer, only-writer, only-consumer, only-reader, only-back}
use Rattle.strm_host_laws.proofs.CourseLemmas.{held_if, over_if, moved_on-seen, taken-seen}

-- the records that the host end across from a side used from one world to another
abbrev pub polls_used : Side → ℕ → World → World → List CoursePoll
polls_used Reading n w u = map poll_of_record (used_records (writer_at w n).coming (writer_at u n).coming)
polls_used Writing r w u = map poll_of_reader (used_records (reader_at w r).coming (reader_at u r).coming)

-- the turn for the operation on a side leads where the course's does, and changes no other stream
pub record Leads (side : Side) (w : World) (s n : ℕ) (operation : Operation) (u : World) : Type 0 where
  pub course : courses.after_turn_across side (course_of s w) (progress_of operation) (polls_used side n w u) ≡ course_of s u
  pub only : OnlyAt s (WritesIt w s) (ReadsIt w s) w u
  pub many : length u.state.streams ≡ length w.state.streams

above_none : (k : ℕ) → nat_lt 0 (suc k) ≡ true
above_none k = grind (arith, nat_tests)

module _ (w : World) (s n : ℕ) (read : Operation) (made : s < length w.state.streams) (owner : (stream_in w s).writer.owner ≡ Host n)
    (there : n < length w.writers) (known : n < length w.state.producers) (unkept : kept_at w.state n ≡ []) where
  -- the stream's course before
  abbrev before : Course
  before = seen (stream_in w s) (length (writer_at w n).holds) (producer_at w.state n).over

  before-is : course_of s w ≡ before
  before-is =
      ap (λ o. seen (stream_in w s) (held_for w o) (over_for w o)) owner
      ∙ ap (λ ks. seen (stream_in w s) (length (ks ++ (writer_at w n).holds)) (producer_at w.state n).over) unkept

  -- written back: these items went, the read was settled so, and this is kept of the writer
  module _ (items : List Item) (producer : Producer) (writer : Writer) (result : Option StreamResult) where
    abbrev but : World
    but = turned w s n read items producer writer

    abbrev now : Stream
    now = stream_moved w s read items result

    abbrev v : World
    v = with_stream_in but s now

    stays-course : now.writer.owner ≡ Host n → course_of s v ≡ seen now (length writer.holds) producer.over
    stays-course e =
        back-course but s now made (e ∙ sym owner)
        ∙ ap (λ o. seen now (held_for but o) (over_for but o)) owner
        ∙ ap (λ ks. seen now (length (ks ++ (writer_at but n).holds)) (producer_at but.state n).over) unkept
        ∙ ap (λ (x : Writer). seen now (length x.holds) (producer_at but.state n).over) (get_or-set_same w.writers n writer no_writer there)
        ∙ ap (λ (x : Producer). seen now (length writer.holds) x.over) (get_or-set_same w.state.producers n producer no_producer known)

    seen-by : (r : Option StreamResult) → now.writer.owner ≡ cond (is_done_with r) Gone (Host n) → course_of s v ≡ seen now (held_if r (length writer.holds)) (over_if r producer.over)
    seen-by (Some results.Dropped) e = back-unhosted but s now made (ap is_host e)
    seen-by None e = stays-course e
    seen-by (Some _) e = stays-course e

    moved-course : course_of s v ≡ seen now (held_if result (length writer.holds)) (over_if result producer.over)
    moved-course = seen-by result (moved_on-owner (stream_in w s) read (length items) result ∙ ap (λ o. cond (is_done_with result) Gone o) owner)

    -- as the course goes on
    goes-course : goes_on Reading (seen (stream_in w s) (length writer.holds) producer.over) (progress_of read) (length items) result ≡ course_of s v
    goes-course = moved_on-seen (length writer.holds) producer.over (stream_in w s) read (length items) result ∙ sym moved-course

    coming-is : (writer_at v n).coming ≡ writer.coming
    coming-is = back-coming but s now n ∙ ap (λ (x : Writer). x.coming) (get_or-set_same w.writers n writer no_writer there)

  -- the course's turn, with the records that were used, leads to what is then
  record TurnsBySelf (u : World) : Type 0 where
    pub said : List WriterSaid
    pub coming : (writer_at w n).coming ≡ said ++ (writer_at u n).coming
    pub course : courses.after_writer_turn (course_of s w) (progress_of read) (map poll_of_record said) ≡ course_of s u

  abbrev LeadsSo : Reply → World → Type 0
  LeadsSo reply u = TurnsBySelf u

  -- held items are handed over
  by_holding : (item : Item) (rest : List Item) → (writer_at w n).holds ≡ item ∷ rest → IfGoes (produces w s n read (item ∷ rest)) LeadsSo
  by_holding item rest e =
      let held = (writer_at w n).holds in
      let writer = given_writer (writer_at w n) read.left in
      let producer = record (producer_at w.state n) { holding = has_items writer.holds } in
      record {
        said = [];
        coming = sym (coming-is (take read.left held) producer writer (Some results.Completed));
        course =
            ap (λ c. courses.after_writer_turn c (progress_of read) []) before-is
            ∙ ap (λ (b : Bool). cond b
            (goes_on Reading (record before { held = length held - read.left }) (progress_of read) (min read.left (length held)) (Some results.Completed))
            (cond before.over (goes_on Reading before (progress_of read) 0 (Some results.Dropped)) before)) (some_held e)
            ∙ ap (λ k. goes_on Reading (seen (stream_in w s) (length held - read.left) (producer_at w.state n).over) (progress_of read) k (Some results.Completed)) (sym (length-take read.left held))
            ∙ ap (λ k. goes_on Reading (seen (stream_in w s) k (producer_at w.state n).over) (progress_of read) (length (take read.left held)) (Some results.Completed)) (sym (length-drop read.left held))
            ∙ goes-course (take read.left held) producer writer (Some results.Completed);
      }
    where
      some_held : (writer_at w n).holds ≡ item ∷ rest → nat_lt 0 (length (writer_at w n).holds) ≡ true
      some_held e = ap (λ xs. nat_lt 0 (length xs)) e ∙ above_none (length rest)

  none_held : (writer_at w n).holds ≡ [] → nat_lt 0 (length (writer_at w n).holds) ≡ false
  none_held e = ap (λ (xs : List Item). nat_lt 0 (length xs)) e

  -- the course's turn where nothing is held, by whether the writer is over
  abbrev dry_turn : Bool → List WriterSaid → Course
  dry_turn over said = cond over (goes_on Reading before (progress_of read) 0 (Some results.Dropped)) (courses.produces before (progress_of read) (map poll_of_record said))

  is-dry : (said : List WriterSaid) → (writer_at w n).holds ≡ [] → courses.after_writer_turn (course_of s w) (progress_of read) (map poll_of_record said) ≡ dry_turn (producer_at w.state n).over said
  is-dry said e =
      ap (λ c. courses.after_writer_turn c (progress_of read) (map poll_of_record said)) before-is
      ∙ ap (λ (b : Bool). cond b
      (goes_on Reading (record before { held = length (writer_at w n).holds - read.left }) (progress_of read) (min read.left (length (writer_at w n).holds)) (Some results.Completed))
      (dry_turn (producer_at w.state n).over said)) (none_held e)

  -- a writer that is over is gone
  by_over : (writer_at w n).holds ≡ [] → (producer_at w.state n).over ≡ true → TurnsBySelf (receives w s read [] (Some results.Dropped))
  by_over e o =
      let u = with_stream_in (turned w s n read [] (producer_at w.state n) (writer_at w n)) s (stream_moved w s read [] (Some results.Dropped)) in
      let is : receives w s read [] (Some results.Dropped) ≡ u
      = ap (λ ps. with_stream_in (record (turned w s n read [] (producer_at w.state n) (writer_at w n)) {
        state = record (turned w s n read [] (producer_at w.state n) (writer_at w n)).state { producers = ps };
        writers = w.writers;
      }) s (stream_moved w s read [] (Some results.Dropped))) (sym (set-same w.state.producers n no_producer))
      ∙ ap (λ ws. with_stream_in (record (turned w s n read [] (producer_at w.state n) (writer_at w n)) { writers = ws }) s (stream_moved w s read [] (Some results.Dropped))) (sym (set-same w.writers n no_writer)) in
      subst TurnsBySelf (sym is) (record {
        said = [];
        coming = sym (coming-is [] (producer_at w.state n) (writer_at w n) (Some results.Dropped));
        course =
            is-dry [] e
            ∙ ap (λ b. dry_turn b []) o
            ∙ goes-course [] (producer_at w.state n) (writer_at w n) (Some results.Dropped);
      })

  -- after a record
  abbrev next : AfterWriter
  next after said = done (receives (with_answer after n said.answer (drop read.left said.items)) s read (take read.left said.items) (produced_result said.answer (drop read.left said.items)))

  -- how the answer settles the read, by what is held then
  result-is : (answer : Answer) (held : List Item) → courses.produced_result answer (length held) ≡ produced_result answer held
  result-is answers.Dropped [] = refl
  result-is answers.Dropped (item ∷ items) = ap (λ b. cond b (Some results.Dropped) (Some results.Completed)) (some_none (length items))
    where
      some_none : (k : ℕ) → (suc k == 0) ≡ false
      some_none k = grind (arith, nat_tests)
  result-is answers.Pending held = refl
  result-is answers.Completed held = refl
  result-is answers.Cancelled held = refl
  result-is answers.Failed held = refl

  by_record : (said : WriterSaid) (more : List WriterSaid) → (writer_at w n).holds ≡ [] → (producer_at w.state n).over ≡ false → (writer_at w n).coming ≡ said ∷ more
      → IfGoes (next (with_writer w n (polled_writer (writer_at w n) (Some read.left) said more)) said) LeadsSo
  by_record said more e o c =
      let writer = polled_writer (writer_at w n) (Some read.left) said more in
      let producer = record (producer_at w.state n) { over = (producer_at w.state n).over || is_last said.answer; holding = has_items (drop read.left said.items) } in
      let result = produced_result said.answer (drop read.left said.items) in
      record {
        said = said ∷ [];
        coming = c ∙ ap (λ xs. said ∷ xs) (sym (coming-is (take read.left said.items) producer writer result));
        course =
            is-dry (said ∷ []) e
            ∙ ap (λ b. dry_turn b (said ∷ [])) o
            ∙ ap (λ k. goes_on Reading (seen (stream_in w s) k producer.over) (progress_of read) (min read.left (length said.items)) (courses.produced_result said.answer k)) (sym (length-drop read.left said.items))
            ∙ ap (λ r. goes_on Reading (seen (stream_in w s) (length (drop read.left said.items)) producer.over) (progress_of read) (min read.left (length said.items)) r) (result-is said.answer (drop read.left said.items))
            ∙ ap (λ k. goes_on Reading (seen (stream_in w s) (length (drop read.left said.items)) producer.over) (progress_of read) k result) (sym (length-take read.left said.items))
            ∙ goes-course (take read.left said.items) producer writer result;
      }

  by_saying : (coming : List WriterSaid) → (writer_at w n).holds ≡ [] → (producer_at w.state n).over ≡ false → (writer_at w n).coming ≡ coming
      → IfGoes (writer_says w s n (Some read.left) read.asked coming next) LeadsSo
  by_saying [] e o c = tt
  by_saying (said ∷ more) e o c =
      cond_both (is_writer_poll (Some read.left) read.asked said) _ _ (λ x. IfGoes x LeadsSo)
      (λ f. cond_both (is_failed said.answer) _ _ (λ x. IfGoes x LeadsSo) (λ g. tt)
      (λ g. cond_both (breaks_as_writer (stream_in w s).kind said) _ _ (λ x. IfGoes x LeadsSo) (λ k. tt) (λ k. by_record said more e o c)))
      (λ f. tt)

  by_held : (held : List Item) → (writer_at w n).holds ≡ held → IfGoes (produces w s n read held) LeadsSo
  by_held (item ∷ items) e = by_holding item items e
  by_held [] e =
      cond_both (producer_at w.state n).over _ _ (λ x. IfGoes x LeadsSo)
      (λ f. by_over e f)
      (λ f. by_saying (writer_at w n).coming e f refl)

  writer-turn : IfGoes (writer_turn w s n read) LeadsSo
  unfolding writer_turn
  writer-turn = by_held (writer_at w n).holds refl

  -- with what it changes
  abbrev Both : Reply → World → Type 0
  Both reply u = Leads Reading w s n read u

  turned-only : (u : World) → Turned w s n read u → OnlyAt s (WritesIt w s) (ReadsIt w s) w u
  turned-only u t =
      let guests = lowered_items w.state.guests (stream_in w s).payload read t.items in
      let a = with_guests w guests in
      let b = with_producer a n t.producer in
      let c = turned w s n read t.items t.producer t.writer in
      let x = stream_moved w s read t.items t.result in
      let W = WritesIt w s in
      let R = ReadsIt w s in
      subst (OnlyAt s W R w) (sym t.is)
      (only-then s W R w a (with_stream_in c s x) (only-guests s W R w guests)
      (only-then s W R a b (with_stream_in c s x) (only-producer s W R a n owner t.producer)
      (only-then s W R b c (with_stream_in c s x) (only-writer s W R b n owner t.writer)
      (only-back s W R c x (λ m e. e) (λ r e. e)))))

  leads-with : (u : World) → TurnsBySelf u → Turned w s n read u → Leads Reading w s n read u
  leads-with u c t = record {
    course = ap (λ said. courses.after_writer_turn (course_of s w) (progress_of read) (map poll_of_record said)) (used_are (writer_at w n).coming (writer_at u n).coming c.said c.coming) ∙ c.course;
    only = turned-only u t;
    many = ap (λ (x : World). length x.state.streams) t.is ∙ back-length (turned w s n read t.items t.producer t.writer) s (stream_moved w s read t.items t.result);
  }

  pub writer-leads : IfGoes (writer_turn w s n read) (λ reply u. Leads Reading w s n read u)
  writer-leads = by (writer_turn w s n read) writer-turn (turn_is w s n read)
    where
      by : (o : Outcome) → IfGoes o LeadsSo → IfGoes o (λ reply u. Turned w s n read u) → IfGoes o (λ reply u. Leads Reading w s n read u)
      by (Goes reply u) c t = leads-with u c t
      by (Stops stop writers readers) c t = tt
      by Stuck c t = tt

-- THE TURN OF A HOST READER

module _ (w : World) (s r : ℕ) (write : Operation) (made : s < length w.state.streams) (owner : (stream_in w s).reader.owner ≡ Host r) where
  module _ (u : World) (t : Taken w s r write u) where
    abbrev taken_but : World
    taken_but = taken_by w s r write t.said t.more

    abbrev taken_now : Stream
    taken_now = stream_taken w s write t.said

    same-held : (o : Owner) → seen taken_now (held_for taken_but o) (over_for taken_but o) ≡ seen taken_now (held_for w o) (over_for w o)
    same-held (Host n) = refl
    same-held (Held g handle) = refl
    same-held Loose = refl
    same-held Gone = refl

    taken-course : course_of s u ≡ seen taken_now (held_for w (stream_in w s).writer.owner) (over_for w (stream_in w s).writer.owner)
    taken-course =
        ap (course_of s) t.is
        ∙ back-course taken_but s taken_now made (moved-mine (stream_in w s) write t.said.taken Writing (result_of t.said.answer))
        ∙ same-held (stream_in w s).writer.owner

    taken-coming : (reader_at u r).coming ≡ t.more
    taken-coming =
        let polled = polled_reader (reader_at w r) (lifted_items w.state.guests (stream_in w s).payload write t.said.taken) t.more in
        ap (λ x. (reader_at x r).coming) t.is
        ∙ ap (λ (p : Option (List Item) × List ReaderSaid). p.1) (back-told taken_but s taken_now r)
        ∙ ap (λ (x : Reader). x.coming) (get_or-set_same w.readers r polled no_reader (reader_there w r t.said t.more t.coming))

    taken-only : OnlyAt s (WritesIt w s) (ReadsIt w s) w u
    taken-only =
        let polled = polled_reader (reader_at w r) (lifted_items w.state.guests (stream_in w s).payload write t.said.taken) t.more in
        let a = with_reader w r polled in
        let W = WritesIt w s in
        let R = ReadsIt w s in
        subst (OnlyAt s W R w) (sym t.is)
        (only-then s W R w a (with_stream_in taken_but s taken_now) (only-reader s W R w r owner polled)
        (only-then s W R a taken_but (with_stream_in taken_but s taken_now) (only-consumer s W R a r owner (record (consumer_at w.state r) { since = since_after t.said.answer (consumer_at w.state r).since t.said.taken }))
        (only-back s W R taken_but taken_now (λ n e. e) (λ q e. e))))

    reader-leads_to : Leads Writing w s r write u
    reader-leads_to = record {
      course =
          ap (λ said. courses.after_reader_turn (course_of s w) (progress_of write) (map poll_of_reader said))
          (used_are (reader_at w r).coming (reader_at u r).coming (t.said ∷ []) (t.coming ∙ ap (λ xs. t.said ∷ xs) (sym taken-coming)))
          ∙ taken-seen (held_for w (stream_in w s).writer.owner) (over_for w (stream_in w s).writer.owner) (stream_in w s) write t.said.taken (result_of t.said.answer)
          ∙ sym taken-course;
      only = taken-only;
      many = ap (λ (x : World). length x.state.streams) t.is ∙ back-length taken_but s taken_now;
    }

  pub reader-leads : IfGoes (reader_turn w s r write) (λ reply u. Leads Writing w s r write u)
  reader-leads = by (reader_turn w s r write) (taking_is w s r write)
    where
      by : (o : Outcome) → IfGoes o (λ reply u. Taken w s r write u) → IfGoes o (λ reply u. Leads Writing w s r write u)
      by (Goes reply u) t = reader-leads_to u t
      by (Stops stop writers readers) t = tt
      by Stuck t = tt
