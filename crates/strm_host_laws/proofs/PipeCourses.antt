-- The round of a pipe is its course's, with the records that its host ends used, and changes no other stream.
use Rattle.std.proofs.Common.{◌≡◌, ℕ, ◌+◌, ◌-◌, ◌<◌, ◌==◌, ◌||◌, ◌&&◌, not, Bool, true, false, cond, List, [], ◌∷◌, ◌++◌, length, map, drop, take, get_or, set, Option, Some, None, refl, sym, ap, ◌∙◌, arith, append-nil, length-set}
use Rattle.std.proofs.lemmas.Bool.{cond_both, and_parts, or_parts}
use Rattle.std.proofs.lemmas.List.{get_or-set_same, length-drop}
use Rattle.strm_buffers.specs.HostRules.{breaks_as_writer, breaks_as_reader}
use Rattle.strm_buffers.specs.Listing.{Item}
use Rattle.strm_buffers.specs.Said.{WriterSaid}
use Rattle.strm_buffers.specs.declared.answers.Answer.{Answer}
use Rattle.strm_buffers.specs.declared.answers.Answer.TheVariants as answers
use Rattle.strm_buffers.specs.declared.answers.ReaderSaid.{ReaderSaid}
use Rattle.strm_codes.specs.declared.codes.TransmitKind.{TransmitKind}
use Rattle.strm_codes.specs.declared.codes.TransmitKind.TheVariants.{Stream as AStream, Future}
use Rattle.strm_machine.specs.State.{no_producer, no_consumer, producer_at, kept_at, consumer_at, is_host}
use Rattle.strm_machine.specs.declared.replies.Reply.TheVariants as replies
use Rattle.strm_machine.specs.declared.streams.Consumer.{Consumer}
use Rattle.strm_machine.specs.declared.streams.End.{End}
use Rattle.strm_machine.specs.declared.streams.Owner.{Owner}
use Rattle.strm_machine.specs.declared.streams.Owner.TheVariants.{Host, Gone}
use Rattle.strm_machine.specs.declared.streams.Producer.{Producer}
use Rattle.strm_machine.specs.declared.streams.Side.TheVariants.{Writing, Reading}
use Rattle.strm_machine.specs.declared.streams.Stream.{Stream}
use Rattle.strm_machine.proofs.TableLemmas.{set-keeps}
use Rattle.strm_host_machine.specs.Attaching.{has_items, without_ends}
use Rattle.strm_host_machine.specs.Courses.{Course, CoursePoll, fills, empties, ends_round, both_gone_if, course_with_items}
use Rattle.strm_host_machine.specs.Courses as courses
use Rattle.strm_host_machine.specs.Ends.{Writer, Reader, no_writer, no_reader, polled_writer, polled_reader}
use Rattle.strm_host_machine.specs.Outcomes.{Outcome, Goes, Stops, Stuck, then_on}
use Rattle.strm_host_machine.specs.Piping.{wants_items, fetches, gathered, is_resting, passed_on, offers, is_done_with, is_run_dry, both_gone, ends_if_done, pipe_round}
use Rattle.strm_host_machine.specs.Polls.{is_failed, is_writer_poll, writer_says, is_reader_poll, tells_truly, reader_says}
use Rattle.strm_host_machine.specs.WriterTurn.{is_last, with_answer}
use Rattle.strm_host_machine.specs.Settling.{with_some_received, since_after}
use Rattle.strm_host_machine.specs.World.{World, stream_in, writer_at, reader_at, held_of, with_kept, with_consumer, with_writer, with_reader, leaves_writer, leaves_reader, with_stream_in}
use Rattle.strm_host_machine.proofs.SettleLemmas.{leaves_reader-stays}
use Rattle.strm_host_laws.specs.HostLaws.{used_records}
use Rattle.strm_host_laws.specs.StreamEvents.{poll_of_record, poll_of_reader}
use Rattle.strm_host_laws.proofs.Tracing.{held_for, over_for, seen, course_of}
use Rattle.strm_host_laws.proofs.CourseLemmas.{with_items-seen}
use Rattle.strm_host_laws.proofs.Fed.{used_are}
use Rattle.strm_host_laws.proofs.GoingRules.{IfGoes, some_received-end, some_received-kind}
use Rattle.strm_host_laws.proofs.Rounds.{none_held, reader_there, set_empty}
use Rattle.strm_host_laws.proofs.WrittenBack.{set_back, back-here, back-coming, back-told, back-length}
use Rattle.strm_host_laws.proofs.Apart.{OnlyAt, only-same, only-then, only-producer, only-kept, only-writer, only-consumer, only-reader, only-back}
use Rattle.strm_host_laws.proofs.HostSteps.{none-held, back-course}
use Rattle.strm_host_laws.proofs.SingleSteps.{unhosted-course}
use Rattle.strm_host_laws.proofs.TurnCourses.{polls_used}

-- ## What ends a round

never : (a b : Bool) → a && (b && not true) ≡ false
never true true = refl
never true false = refl
never false b = refl

if_quiet : (a b : Bool) → a && (b && not false) ≡ a && b
if_quiet true true = refl
if_quiet true false = refl
if_quiet false b = refl

-- once the host reader answered
ends-by : (kind : TransmitKind) (answer : Answer) (over none : Bool) → is_done_with kind (Some answer) || (over && (none && not (is_resting answer))) ≡ ends_round kind answer (over && none)
ends-by AStream answers.Pending over none = never over none
ends-by AStream answers.Completed over none = if_quiet over none
ends-by AStream answers.Cancelled over none = if_quiet over none
ends-by AStream answers.Dropped over none = refl
ends-by AStream answers.Failed over none = if_quiet over none
ends-by Future answers.Pending over none = never over none
ends-by Future answers.Completed over none = refl
ends-by Future answers.Cancelled over none = if_quiet over none
ends-by Future answers.Dropped over none = refl
ends-by Future answers.Failed over none = if_quiet over none

-- or was not polled
ends-unasked : (kind : TransmitKind) (over none : Bool) → is_done_with kind None || (over && (none && not false)) ≡ over && none
ends-unasked AStream over none = if_quiet over none
ends-unasked Future over none = if_quiet over none

-- ## A stream that is written back, whose host reader stays

leaves_writer-consumers : (old new : Owner) (w : World) → (leaves_writer old new w).state.consumers ≡ w.state.consumers
leaves_writer-consumers (Host n) Gone w = refl
leaves_writer-consumers (Host n) _ w = refl
leaves_writer-consumers _ new w = refl

back-consumers : (w : World) (s : ℕ) (x : Stream) → x.reader.owner ≡ (stream_in w s).reader.owner → (with_stream_in w s x).state.consumers ≡ w.state.consumers
unfolding with_stream_in
back-consumers w s x stays =
    let old = stream_in w s in
    let set_ = set_back w s x in
    leaves_writer-consumers old.writer.owner x.writer.owner (leaves_reader old.reader.owner x.reader.owner set_)
    ∙ ap (λ o. (leaves_reader old.reader.owner o set_).state.consumers) stays
    ∙ ap (λ (v : World). v.state.consumers) (leaves_reader-stays old.reader.owner set_)

module _ (s n r : ℕ) where
  -- what changes is stream s, and these two host ends
  abbrev IsWriter : ℕ → Type 0
  IsWriter m = m ≡ n

  abbrev IsReader : ℕ → Type 0
  IsReader q = q ≡ r

  abbrev Only : World → World → Type 0
  Only w v = OnlyAt s IsWriter IsReader w v

  -- a pipe: both ends of stream s are these host ends
  pub record IsBetween (w : World) : Type 0 where
    pub made : s < length w.state.streams
    pub wrote : (stream_in w s).writer.owner ≡ Host n
    pub read : (stream_in w s).reader.owner ≡ Host r

  -- and they are there
  pub record IsPipe (w : World) : Type 0 where
    pub ends : IsBetween w
    pub known : n < length w.state.producers
    pub kept : n < length w.state.kept
    pub there : n < length w.writers
    pub known_reader : r < length w.state.consumers

  -- its course
  abbrev pipe_course : World → Course
  pipe_course w = seen (stream_in w s) (length (held_of w n)) (producer_at w.state n).over

  pipe-is : (w : World) → IsBetween w → course_of s w ≡ pipe_course w
  pipe-is w p = ap (λ o. seen (stream_in w s) (held_for w o) (over_for w o)) p.wrote

  owner_is : (w : World) → IsBetween w → (m : ℕ) → (stream_in w s).writer.owner ≡ Host m → IsWriter m
  owner_is w p m e = let same : Host m ≡ Host n = sym e ∙ p.wrote in cc

  reader_is : (w : World) → IsBetween w → (q : ℕ) → (stream_in w s).reader.owner ≡ Host q → IsReader q
  reader_is w p q e = let same : Host q ≡ Host r = sym e ∙ p.read in cc

  -- what a part of the round does
  record Does (w v : World) : Type 0 where
    only : Only w v
    many : length v.state.streams ≡ length w.state.streams

  -- ## ITS END

  record Ends (u v : World) (ends : Bool) : Type 0 where
    course : course_of s v ≡ both_gone_if ends (course_of s u)
    coming : (writer_at v n).coming ≡ (writer_at u n).coming
    told : (reader_at v r).coming ≡ (reader_at u r).coming
    does : Does u v

  ends-so : (u : World) → IsBetween u → (answer : Option Answer) → IfGoes (ends_if_done u s n r answer) (λ reply v. Ends u v (is_done_with (stream_in u s).kind answer || is_run_dry u n r))
  ends-so u p answer = by (is_done_with (stream_in u s).kind answer || is_run_dry u n r)
    where
      by : (b : Bool) → IfGoes (cond b (Goes replies.Done (both_gone u s n)) (Goes replies.Done u)) (λ reply v. Ends u v b)
      by false = record { course = refl; coming = refl; told = refl; does = record { only = only-same s IsWriter IsReader u; many = refl } }
      by true =
          let x = without_ends (stream_in u s) in
          let back = with_stream_in u s x in
          record {
            course =
                unhosted-course s (both_gone u s n) (ap (λ (y : Stream). is_host y.writer.owner) (back-here u s x p.made))
                ∙ ap (λ y. seen y 0 false) (back-here u s x p.made);
            coming = back-coming u s x n;
            told = ap (λ (q : Option (List Item) × List ReaderSaid). q.1) (back-told u s x r);
            does = record {
              only = only-then s IsWriter IsReader u back (both_gone u s n)
                  (only-back s IsWriter IsReader u x (owner_is u p) (reader_is u p))
                  (only-kept s IsWriter IsReader back n refl []);
              many = back-length u s x;
            };
          }

  -- ## FETCHING

  record Filled (w f : World) : Type 0 where
    said : List WriterSaid
    coming : (writer_at w n).coming ≡ said ++ (writer_at f n).coming
    course : fills (course_of s w) (map poll_of_record said) ≡ course_of s f
    pipe : IsPipe f
    readers : f.readers ≡ w.readers
    does : Does w f

  module _ (w : World) (p : IsPipe w) where
    unfetched : Filled w w
    unfetched = record { said = []; coming = refl; course = refl; pipe = p; readers = refl; does = record { only = only-same s IsWriter IsReader w; many = refl } }

    fetched : (said : WriterSaid) (more : List WriterSaid) → (writer_at w n).coming ≡ said ∷ more → held_of w n ≡ []
        → Filled w (with_kept (with_answer (with_writer w n (polled_writer (writer_at w n) None said more)) n said.answer []) n said.items)
    fetched said more c none =
        let writer = polled_writer (writer_at w n) None said more in
        let a = with_writer w n writer in
        let producer = record (producer_at w.state n) { over = (producer_at w.state n).over || is_last said.answer; holding = false } in
        let b = with_answer a n said.answer [] in
        let f = with_kept b n said.items in
        let here : writer_at f n ≡ writer = get_or-set_same w.writers n writer no_writer p.there in
        let pipe : IsPipe f = record {
          ends = record { made = p.ends.made; wrote = p.ends.wrote; read = p.ends.read };
          known = omega (arith, p.known, length-set w.state.producers n producer);
          kept = omega (arith, p.kept, length-set w.state.kept n said.items);
          there = omega (arith, p.there, length-set w.writers n writer);
          known_reader = p.known_reader;
        } in
        record {
          said = said ∷ [];
          coming = c ∙ ap (λ (x : Writer). said ∷ x.coming) (sym here);
          course =
              ap (λ k. fills k (poll_of_record said ∷ [])) (pipe-is w p.ends)
              ∙ ap (λ (xs : List Item). seen (stream_in w s) (length xs + length said.items) ((producer_at w.state n).over || is_last said.answer)) none
              ∙ ap (λ k. seen (stream_in w s) k ((producer_at w.state n).over || is_last said.answer)) (sum_none (length said.items) ∙ ap length (sym (append-nil said.items)))
              ∙ ap (λ (x : Producer). seen (stream_in w s) (length (said.items ++ [])) x.over) (sym (get_or-set_same w.state.producers n producer no_producer p.known))
              ∙ ap (λ (x : Writer). seen (stream_in w s) (length (said.items ++ x.holds)) (producer_at f.state n).over) (sym here)
              ∙ ap (λ ks. seen (stream_in w s) (length (ks ++ (writer_at f n).holds)) (producer_at f.state n).over) (sym (get_or-set_same w.state.kept n said.items [] p.kept))
              ∙ sym (pipe-is f pipe.ends);
          pipe = pipe;
          readers = refl;
          does = record {
            only =
                only-then s IsWriter IsReader w a f (only-writer s IsWriter IsReader w n refl writer)
                (only-then s IsWriter IsReader a b f (only-producer s IsWriter IsReader a n refl producer)
                (only-kept s IsWriter IsReader b n refl said.items));
            many = refl;
          };
        }
      where
        sum_none : (k : ℕ) → 0 + k ≡ k
        sum_none k = omega arith

    fetches-so : IfGoes (fetches w s n r) (λ reply f. Filled w f)
    fetches-so =
        cond_both (wants_items w n r) _ _ (λ o. IfGoes o (λ reply f. Filled w f))
        (λ e. by (writer_at w n).coming refl (none_held (held_of w n) (and_parts (not (has_items (held_of w n))) _ (and_parts (not (consumer_at w.state r).resting) _ e).1).0))
        (λ e. unfetched)
      where
        by : (coming : List WriterSaid) → (writer_at w n).coming ≡ coming → held_of w n ≡ []
            → IfGoes (writer_says w s n None false coming (λ after said. Goes replies.Done (with_kept (with_answer after n said.answer []) n said.items))) (λ reply f. Filled w f)
        by [] c none = tt
        by (said ∷ more) c none =
            cond_both (is_writer_poll None false said) _ _ (λ o. IfGoes o (λ reply f. Filled w f))
            (λ e. cond_both (is_failed said.answer) _ _ (λ o. IfGoes o (λ reply f. Filled w f)) (λ g. tt)
            (λ g. cond_both (breaks_as_writer (stream_in w s).kind said) _ _ (λ o. IfGoes o (λ reply f. Filled w f)) (λ k. tt) (λ k. fetched said more c none)))
            (λ e. tt)

  -- ## OFFERING

  -- the rest of the round from a world on
  record Emptied (f v : World) : Type 0 where
    told : List ReaderSaid
    records : (reader_at f r).coming ≡ told ++ (reader_at v r).coming
    coming : (writer_at v n).coming ≡ (writer_at f n).coming
    course : empties (course_of s f) (map poll_of_reader told) ≡ course_of s v
    does : Does f v

  module _ (f : World) (p : IsPipe f) where
    abbrev held : List Item
    held = held_of f n

    abbrev kind : TransmitKind
    kind = (stream_in f s).kind

    abbrev EmptiedSo : Outcome → Type 0
    EmptiedSo o = IfGoes o (λ reply v. Emptied f v)

    -- whether it has run dry, of a reader that rests or not
    dry-is : (u : World) (rest : Bool) → (consumer_at u.state r).resting ≡ rest → is_run_dry u n r ≡ (producer_at u.state n).over && ((length (held_of u n) == 0) && not rest)
    dry-is u rest e =
        ap (λ b. (producer_at u.state n).over && (not (has_items (held_of u n)) && not b)) e
        ∙ ap (λ b. (producer_at u.state n).over && (b && not rest)) (sym (none-held (held_of u n)))

    -- it was not polled
    unpolled : (consumer_at f.state r).resting ≡ false → EmptiedSo (ends_if_done f s n r None)
    unpolled rest = by (ends_if_done f s n r None) (ends-so f p.ends None)
      where
        by : (o : Outcome) → IfGoes o (λ reply v. Ends f v (is_done_with kind None || is_run_dry f n r)) → EmptiedSo o
        by (Goes reply v) h = record {
          told = [];
          records = sym h.told;
          coming = h.coming;
          course =
              ap (λ c. both_gone_if (courses.is_dry c) (course_of s f)) (pipe-is f p.ends)
              ∙ ap (λ b. both_gone_if b (course_of s f))
              (sym (ap (λ b. is_done_with kind None || b) (dry-is f false rest) ∙ ends-unasked kind (producer_at f.state n).over (length held == 0)))
              ∙ sym h.course;
          does = h.does;
        }
        by (Stops stop writers readers) h = tt
        by Stuck h = tt

    module _ (one : ReaderSaid) (more : List ReaderSaid) (c : (reader_at f r).coming ≡ one ∷ more) where
      abbrev offered : World
      offered = gathered f n

      abbrev gave : Writer
      gave = record (writer_at f n) { holds = [] }

      -- what is kept of it then
      abbrev emptied : Producer
      emptied = record (producer_at f.state n) { holding = false }

      abbrev polled : Reader
      polled = polled_reader (reader_at f r) (take one.taken held) more

      abbrev after : World
      after = with_reader offered r polled

      abbrev left : List Item
      left = drop one.taken (kept_at after.state n)

      abbrev rested : Consumer
      rested = record (consumer_at f.state r) { since = since_after one.answer (consumer_at f.state r).since one.taken; resting = is_resting one.answer }

      abbrev but : World
      but = with_consumer (with_kept after n left) r rested

      abbrev x : Stream
      x = with_some_received (stream_in f s) one.taken

      abbrev passed : World
      passed = with_stream_in but s x

      wrote_still : x.writer.owner ≡ (stream_in f s).writer.owner
      wrote_still = ap (λ (e : End). e.owner) (some_received-end Writing (stream_in f s) one.taken)

      read_still : x.reader.owner ≡ (stream_in f s).reader.owner
      read_still = ap (λ (e : End). e.owner) (some_received-end Reading (stream_in f s) one.taken)

      left-is : kept_at but.state n ≡ drop one.taken held
      left-is =
          get_or-set_same (set f.state.kept n held) n left [] (omega (arith, p.kept, length-set f.state.kept n held))
          ∙ ap (drop one.taken) (get_or-set_same f.state.kept n held [] p.kept)

      held-then : length (held_of but n) ≡ length held - one.taken
      held-then =
          ap (λ xs. length (kept_at but.state n ++ xs)) (set_empty f.writers n gave refl)
          ∙ ap length (append-nil (kept_at but.state n) ∙ left-is)
          ∙ length-drop one.taken held

      passed-course : course_of s passed ≡ seen x (length held - one.taken) (producer_at f.state n).over
      passed-course =
          back-course but s x p.ends.made wrote_still
          ∙ ap (λ o. seen x (held_for but o) (over_for but o)) p.ends.wrote
          ∙ ap (λ k. seen x k (producer_at but.state n).over) held-then
          ∙ ap (seen x (length held - one.taken)) (set-keeps (λ (y : Producer). y.over) f.state.producers n n emptied no_producer refl)

      -- as the course goes on
      emptied-course : course_with_items (record (course_of s f) { held = (course_of s f).held - one.taken }) one.taken ≡ course_of s passed
      emptied-course =
          ap (λ (k : Course). course_with_items (record k { held = k.held - one.taken }) one.taken) (pipe-is f p.ends)
          ∙ with_items-seen (length held - one.taken) (producer_at f.state n).over (stream_in f s) one.taken
          ∙ sym passed-course

      here : stream_in passed s ≡ x
      here = back-here but s x p.ends.made

      between-then : IsBetween passed
      between-then = record {
        made = let long = back-length but s x in let made = p.ends.made in omega (arith, made, long);
        wrote = ap (λ (y : Stream). y.writer.owner) here ∙ wrote_still ∙ p.ends.wrote;
        read = ap (λ (y : Stream). y.reader.owner) here ∙ read_still ∙ p.ends.read;
      }

      rest-then : (consumer_at passed.state r).resting ≡ is_resting one.answer
      rest-then =
          ap (λ cs. (get_or cs r no_consumer).resting) (back-consumers but s x read_still)
          ∙ ap (λ (y : Consumer). y.resting) (get_or-set_same f.state.consumers r rested no_consumer p.known_reader)

      told-then : (reader_at passed r).coming ≡ more
      told-then =
          ap (λ (q : Option (List Item) × List ReaderSaid). q.1) (back-told but s x r)
          ∙ ap (λ (y : Reader). y.coming) (get_or-set_same f.readers r polled no_reader (reader_there f r one more c))

      -- the round ends then, as the course's does
      ends-then : ends_round kind one.answer (courses.is_dry (course_of s passed)) ≡ is_done_with (stream_in passed s).kind (Some one.answer) || is_run_dry passed n r
      ends-then =
          ap (λ k. ends_round kind one.answer (courses.is_dry k)) (pipe-is passed between-then)
          ∙ sym (ends-by kind one.answer (producer_at passed.state n).over (length (held_of passed n) == 0))
          ∙ ap (λ b. is_done_with kind (Some one.answer) || b) (sym (dry-is passed (is_resting one.answer) rest-then))
          ∙ ap (λ k. is_done_with k (Some one.answer) || is_run_dry passed n r) (sym (ap (λ (y : Stream). y.kind) here ∙ some_received-kind (stream_in f s) one.taken))

      passed-does : Does f passed
      passed-does =
          let a = with_kept f n held in
          let g = with_writer a n gave in
          let b = with_kept after n left in
          let W = IsWriter in
          let R = IsReader in
          record {
            only =
                only-then s W R f a passed (only-kept s W R f n refl held)
                (only-then s W R a g passed (only-writer s W R a n refl gave)
                (only-then s W R g offered passed (only-producer s W R g n refl emptied)
                (only-then s W R offered after passed (only-reader s W R offered r refl polled)
                (only-then s W R after b passed (only-kept s W R after n refl left)
                (only-then s W R b but passed (only-consumer s W R b r refl rested)
                (only-back s W R but x (owner_is f p.ends) (reader_is f p.ends)))))));
            many = back-length but s x;
          }

      polled-so : EmptiedSo (ends_if_done passed s n r (Some one.answer))
      polled-so = by (ends_if_done passed s n r (Some one.answer)) (ends-so passed between-then (Some one.answer))
        where
          by : (o : Outcome) → IfGoes o (λ reply v. Ends passed v (is_done_with (stream_in passed s).kind (Some one.answer) || is_run_dry passed n r)) → EmptiedSo o
          by (Goes reply v) h = record {
            told = one ∷ [];
            records = c ∙ ap (λ xs. one ∷ xs) (sym (h.told ∙ told-then));
            coming = h.coming ∙ back-coming but s x n ∙ set-keeps (λ (y : Writer). y.coming) f.writers n n gave no_writer refl;
            course =
                ap (λ k. both_gone_if (ends_round kind one.answer (courses.is_dry k)) k) emptied-course
                ∙ ap (λ b. both_gone_if b (course_of s passed)) ends-then
                ∙ sym h.course;
            does = record {
              only = only-then s IsWriter IsReader f passed v passed-does.only h.does.only;
              many = h.does.many ∙ passed-does.many;
            };
          }
          by (Stops stop writers readers) h = tt
          by Stuck h = tt

    offers-so : EmptiedSo (offers f s n r (λ u answer. ends_if_done u s n r answer))
    offers-so =
        cond_both (has_items held || (consumer_at f.state r).resting) _ _ EmptiedSo
        (λ e. by (reader_at f r).coming refl)
        (λ e. unpolled (or_parts (has_items held) (consumer_at f.state r).resting e).1)
      where
        by : (coming : List ReaderSaid) → (reader_at f r).coming ≡ coming
            → EmptiedSo (reader_says (gathered f n) s r (length held) false (λ k. take k held) coming (λ u one. ends_if_done (passed_on u s n r one.answer one.taken) s n r (Some one.answer)))
        by [] c = tt
        by (one ∷ more) c =
            cond_both (is_reader_poll (length held) (consumer_at f.state r).since false one && tells_truly (length held) (λ k. take k held) one) _ _ EmptiedSo
            (λ e. cond_both (is_failed one.answer) _ _ EmptiedSo (λ g. tt)
            (λ g. cond_both one.bad _ _ EmptiedSo (λ b. tt)
            (λ b. cond_both (breaks_as_reader (stream_in f s).kind one) _ _ EmptiedSo (λ k. tt)
            (λ k. polled-so one more c))))
            (λ e. tt)

  -- ## THE ROUND

  pub record Rounds (w v : World) : Type 0 where
    pub course : empties (fills (course_of s w) (polls_used Reading n w v)) (polls_used Writing r w v) ≡ course_of s v
    pub only : Only w v
    pub many : length v.state.streams ≡ length w.state.streams

  module _ (w : World) (p : IsPipe w) where
    rounds : (f v : World) → Filled w f → Emptied f v → Rounds w v
    rounds f v x y =
        let said : used_records (writer_at w n).coming (writer_at v n).coming ≡ x.said = used_are (writer_at w n).coming (writer_at v n).coming x.said (x.coming ∙ ap (λ xs. x.said ++ xs) (sym y.coming)) in
        let told : used_records (reader_at w r).coming (reader_at v r).coming ≡ y.told = used_are (reader_at w r).coming (reader_at v r).coming y.told (ap (λ rs. (get_or rs r no_reader).coming) (sym x.readers) ∙ y.records) in
        record {
          course =
              ap (λ xs. empties (fills (course_of s w) (map poll_of_record xs)) (polls_used Writing r w v)) said
              ∙ ap (λ xs. empties (fills (course_of s w) (map poll_of_record x.said)) (map poll_of_reader xs)) told
              ∙ ap (λ k. empties k (map poll_of_reader y.told)) x.course
              ∙ y.course;
          only = only-then s IsWriter IsReader w f v x.does.only y.does.only;
          many = y.does.many ∙ x.does.many;
        }

    pub round-so : IfGoes (pipe_round w s n r) (λ reply v. Rounds w v)
    unfolding pipe_round
    round-so = by (fetches w s n r) (fetches-so w p)
      where
        on : (f : World) → Filled w f → (o : Outcome) → IfGoes o (λ reply v. Emptied f v) → IfGoes o (λ reply v. Rounds w v)
        on f x (Goes reply v) y = rounds f v x y
        on f x (Stops stop writers readers) y = tt
        on f x Stuck y = tt

        by : (o : Outcome) → IfGoes o (λ reply f. Filled w f) → IfGoes (then_on o (λ f. offers f s n r (λ u answer. ends_if_done u s n r answer))) (λ reply v. Rounds w v)
        by (Goes reply f) x = on f x _ (offers-so f x.pipe)
        by (Stops stop writers readers) x = tt
        by Stuck x = tt
