-- A step that stops since a host end failed or broke its rules stops by the record that it used last, and
-- host ends are polled for streams of their kinds.
use Rattle.std.proofs.Common.{◌≡◌, ◌⊎◌, inl, inr, ℕ, Bool, true, false, ◌||◌, ◌&&◌, cond, List, [], ◌∷◌, ◌++◌, length, take, drop, get_or, set, Option, Some, None, refl, sym, ap, subst, ◌∙◌}
use Rattle.std.proofs.lemmas.Bool.{cond_both}
use Rattle.strm_codes.specs.declared.codes.ReturnCode.{ReturnCode}
use Rattle.strm_codes.specs.declared.refusals.Refusal.{Refusal}
use Rattle.strm_buffers.specs.Listing.{Item}
use Rattle.strm_buffers.specs.declared.answers.Answer.{Answer}
use Rattle.strm_buffers.specs.declared.answers.ReaderSaid.{ReaderSaid}
use Rattle.strm_buffers.specs.Said.{WriterSaid}
use Rattle.strm_buffers.specs.HostRules.{breaks_as_writer, breaks_as_reader}
use Rattle.strm_machine.specs.Meetings.{begun}
use Rattle.strm_machine.specs.Tests.{named, stream_named, items_asked}
use Rattle.strm_machine.specs.State.{producer_at, consumer_at, is_host, no_stream}
use Rattle.strm_machine.specs.Reactions.{reaction}
use Rattle.strm_machine.specs.Sides.{opposite, end_of}
use Rattle.strm_machine.specs.declared.acts.Act.{Act}
use Rattle.strm_machine.specs.declared.acts.Act.TheVariants.{OnEnd}
use Rattle.strm_machine.specs.declared.acts.EndAct.TheVariants.{Operate}
use Rattle.strm_machine.specs.declared.acts.HostAct.{HostAct}
use Rattle.strm_machine.specs.declared.acts.HostAct.TheVariants.{New, Feed, Pipe, Grant}
use Rattle.strm_machine.specs.declared.acts.NamedEnd.{NamedEnd}
use Rattle.strm_machine.specs.declared.replies.Reply.{Reply}
use Rattle.strm_machine.specs.declared.stops.Stop.{Stop}
use Rattle.strm_machine.specs.declared.stops.Stop.TheVariants.{HostFailed, HostBroke, BadItem, StoreTrapped}
use Rattle.strm_machine.specs.declared.streams.Operation.{Operation}
use Rattle.strm_machine.specs.declared.streams.Owner.{Owner}
use Rattle.strm_machine.specs.declared.streams.Owner.TheVariants.{Host, Gone}
use Rattle.strm_machine.specs.declared.streams.Side.{Side}
use Rattle.strm_machine.specs.declared.streams.Side.TheVariants.{Writing, Reading}
use Rattle.strm_machine.specs.declared.streams.Stream.{Stream}
use Rattle.strm_host_machine.specs.World.{World, stream_in, writer_at, reader_at, held_of, with_kept, with_writer, with_reader, leaves_writer, leaves_reader, with_stream_in, with_guests}
use Rattle.strm_host_machine.specs.Ends.{Writer, Reader, no_writer, no_reader, writer_in, reader_in, polled_writer, polled_reader, given_writer, fed_writer, granted_reader, closed_writer, closed_reader}
use Rattle.strm_host_machine.specs.Outcomes.{Outcome, Goes, Stops, Stuck, stops, done, then_on, of_reply}
use Rattle.strm_host_machine.specs.Polls.{AfterWriter, is_failed, is_writer_poll, writer_judged, writer_says, polls_writer, AfterReader, is_reader_poll, tells_truly, reader_judged, reader_says, polls_reader}
use Rattle.strm_host_machine.specs.WriterTurn.{receives, with_answer, produced_result, hands_out, is_produced, produces, writer_turn, lowered_items}
use Rattle.strm_host_machine.specs.ReaderTurn.{lifted_items, reader_with_taken, gives_up, reader_turn}
use Rattle.strm_host_machine.specs.Settling.{answered_with, result_of}
use Rattle.strm_host_machine.specs.Piping.{wants_items, fetches, gathered, passed_on, offers, is_done_with, is_run_dry, both_gone, ends_if_done, pipe_round}
use Rattle.strm_host_machine.specs.Driving.{if_open, driven_by, drive_turn, driven}
use Rattle.strm_host_machine.specs.Attaching.{has_items, hosts_new, is_dry, piped, piped_by, without_ends, pipes, forsakes}
use Rattle.strm_host_machine.specs.HostRefusals.{refusal_in}
use Rattle.strm_host_machine.specs.Steps.{reacts, operates_by, drops_in, on_host, performs_by, performs_in, unless_refused_in, outcome}
use Rattle.strm_host_machine.proofs.TouchLemmas.{touch-by}
use Rattle.strm_machine.proofs.TableLemmas.{set-keeps}
use Rattle.strm_host_machine.specs.LastRecord.{SaysFailed, SaysBroken, ReaderSaysFailed, ReaderSaysBroken, KeepsRules, ReaderKeepsRules, SaysWhy, ReaderSaysWhy}
use Rattle.strm_codes.specs.declared.codes.StreamResult.{StreamResult}
use Rattle.strm_codes.specs.declared.codes.StreamResult.TheVariants as results
use Rattle.strm_machine.specs.declared.replies.Reply.TheVariants as replies
use Rattle.strm_machine.specs.declared.streams.HostEnd.TheVariants as ends
use Rattle.strm_host_machine.proofs.LaterLemmas.{Behind_one, used_more, all-set, set-there, WriterLater, ReaderLater, StreamLater, WriterStopsSo, ReaderStopsSo, EndsLater, IsLater, EndsFit, itself_later, stream_twice, operation_later, received_later, moved_later, without_ends_later}

-- a step from this world
module _ (first : World) where
  -- the host end that it names says why by the record that was used last
  abbrev pub NamedBy : Stop → List Writer → List Reader → Type 0
  NamedBy (HostFailed (ends.Writer n)) ws rs = Behind_one SaysFailed (writer_at first n).coming (writer_in ws n).coming
  NamedBy (HostFailed (ends.Reader r)) ws rs = Behind_one ReaderSaysFailed (reader_at first r).coming (reader_in rs r).coming
  NamedBy (HostBroke (ends.Writer n)) ws rs =
      Behind_one (SaysBroken (writer_in ws n).kind) (writer_at first n).coming (writer_in ws n).coming
  NamedBy (HostBroke (ends.Reader r)) ws rs =
      Behind_one (ReaderSaysBroken (reader_in rs r).kind) (reader_at first r).coming (reader_in rs r).coming
  NamedBy (BadItem s) ws rs = Unit {0}
  NamedBy StoreTrapped ws rs = Unit {0}

  -- a host writer where it stopped
  abbrev pub WriterFares : Stop → List Writer → ℕ → Type 0
  WriterFares stop ws n = WriterLater (writer_at first n) (writer_in ws n) ⊎ WriterStopsSo stop n (writer_at first n) (writer_in ws n)

  -- and a host reader
  abbrev pub ReaderFares : Stop → List Reader → ℕ → Type 0
  ReaderFares stop rs r = ReaderLater (reader_at first r) (reader_in rs r) ⊎ ReaderStopsSo stop r (reader_at first r) (reader_in rs r)

  -- it stopped by that record, and no other record that was used says why
  pub record StoppedBy (stop : Stop) (ws : List Writer) (rs : List Reader) : Type 0 where
    pub named : NamedBy stop ws rs
    pub writers : (n : ℕ) → WriterFares stop ws n
    pub readers : (r : ℕ) → ReaderFares stop rs r

  -- what comes of a part of it
  abbrev pub Fares : Outcome → Type 0
  Fares (Goes reply world) = IsLater first world
  Fares (Stops stop writers readers) = StoppedBy stop writers readers
  Fares Stuck = Unit {0}

  -- and of all of it
  abbrev pub Halts : Outcome → Type 0
  Halts (Goes reply world) = EndsLater first world
  Halts (Stops stop writers readers) = StoppedBy stop writers readers
  Halts Stuck = Unit {0}

  ends_later : (w : World) → IsLater first w → EndsLater first w
  ends_later w t = record { writers = t.writers; readers = t.readers }

  fares-halts : (o : Outcome) → Fares o → Halts o
  fares-halts (Goes reply world) r = ends_later world r
  fares-halts (Stops stop writers readers) r = r
  fares-halts Stuck r = tt

  writer-later : (w : World) (n : ℕ) (x : Writer) → WriterLater (writer_at first n) x → IsLater first w → IsLater first (with_writer w n x)
  writer-later w n x e t = record {
    writers = all-set (λ k v. WriterLater (writer_at first k) v) no_writer w.writers n x t.writers e;
    readers = t.readers;
    streams = t.streams;
  }

  reader-later : (w : World) (r : ℕ) (x : Reader) → ReaderLater (reader_at first r) x → IsLater first w → IsLater first (with_reader w r x)
  reader-later w r x e t = record {
    writers = t.writers;
    readers = all-set (λ k v. ReaderLater (reader_at first k) v) no_reader w.readers r x t.readers e;
    streams = t.streams;
  }

  writer-ends : (w : World) (n : ℕ) (x : Writer) → WriterLater (writer_at first n) x → EndsLater first w → EndsLater first (with_writer w n x)
  writer-ends w n x e t = record {
    writers = all-set (λ k v. WriterLater (writer_at first k) v) no_writer w.writers n x t.writers e;
    readers = t.readers;
  }

  reader-ends : (w : World) (r : ℕ) (x : Reader) → ReaderLater (reader_at first r) x → EndsLater first w → EndsLater first (with_reader w r x)
  reader-ends w r x e t = record {
    writers = t.writers;
    readers = all-set (λ k v. ReaderLater (reader_at first k) v) no_reader w.readers r x t.readers e;
  }

  leaves_writer-ends : (a b : Owner) (w : World) → EndsLater first w → EndsLater first (leaves_writer a b w)
  leaves_writer-ends (Host n) Gone w t =
      writer-ends _ n (closed_writer (writer_at w n)) (record { coming = (t.writers n).coming; kind = (t.writers n).kind })
      (record { writers = t.writers; readers = t.readers })
  leaves_writer-ends _ _ w t = t

  leaves_reader-ends : (a b : Owner) (w : World) → EndsLater first w → EndsLater first (leaves_reader a b w)
  leaves_reader-ends (Host r) Gone w t =
      reader-ends _ r (closed_reader (reader_at w r)) (record { coming = (t.readers r).coming; kind = (t.readers r).kind })
      (record { writers = t.writers; readers = t.readers })
  leaves_reader-ends _ _ w t = t

  with_stream-ends : (w : World) (s : ℕ) (stream : Stream) → EndsLater first w → EndsLater first (with_stream_in w s stream)
  unfolding with_stream_in
  with_stream-ends w s stream t =
      leaves_writer-ends (stream_in w s).writer.owner stream.writer.owner _
      (leaves_reader-ends (stream_in w s).reader.owner stream.reader.owner _ (record { writers = t.writers; readers = t.readers }))

  leaves_writer-streams : (a b : Owner) (w : World) → (leaves_writer a b w).state.streams ≡ w.state.streams
  leaves_writer-streams (Host n) Gone w = refl
  leaves_writer-streams _ _ w = refl

  leaves_reader-streams : (a b : Owner) (w : World) → (leaves_reader a b w).state.streams ≡ w.state.streams
  leaves_reader-streams (Host r) Gone w = refl
  leaves_reader-streams _ _ w = refl

  with_stream-later : (w : World) (s : ℕ) (stream : Stream) → StreamLater (stream_in w s) stream → IsLater first w → IsLater first (with_stream_in w s stream)
  unfolding with_stream_in
  with_stream-later w s stream l t =
      let after = record w { state = record w.state { streams = set w.state.streams s stream } } in
      let left = leaves_reader (stream_in w s).reader.owner stream.reader.owner after in
      let same : (with_stream_in w s stream).state.streams ≡ set w.state.streams s stream = leaves_writer-streams (stream_in w s).writer.owner stream.writer.owner left ∙ leaves_reader-streams (stream_in w s).reader.owner stream.reader.owner after in
      let ends = with_stream-ends w s stream (ends_later w t) in
      record {
        writers = ends.writers;
        readers = ends.readers;
        streams = λ k. subst (λ xs. StreamLater (stream_in first k) (get_or xs k no_stream)) (sym same)
            (all-set (λ j x. StreamLater (stream_in first j) x) no_stream w.state.streams s stream t.streams (stream_twice _ _ stream (t.streams s) l) k);
      }

  then-fares : (o : Outcome) (next : World → Outcome) → Fares o → ((w : World) → IsLater first w → Fares (next w)) → Fares (then_on o next)
  then-fares (Goes reply world) next r h = h world r
  then-fares (Stops stop writers readers) next r h = r
  then-fares Stuck next r h = tt

  then-halts : (o : Outcome) (next : World → Outcome) → Fares o → ((w : World) → IsLater first w → Halts (next w)) → Halts (then_on o next)
  then-halts (Goes reply world) next r h = h world r
  then-halts (Stops stop writers readers) next r h = r
  then-halts Stuck next r h = tt

  -- A HOST WRITER'S TURN

  -- this writer serves a stream of its kind
  abbrev Writes : ℕ → ℕ → Type 0
  Writes s n = (stream_in first s).kind ≡ (writer_at first n).kind

  -- and this host reader
  abbrev Reads : ℕ → ℕ → Type 0
  Reads s r = (stream_in first s).kind ≡ (reader_at first r).kind

  -- what is done after a poll
  abbrev FaresAfterWriter : AfterWriter → Type 0
  FaresAfterWriter next = (w : World) (said : WriterSaid) → IsLater first w → Fares (next w said)

  -- a writer that used its first record, which keeps the rules
  polled-later : (w : World) (n : ℕ) (room : Option ℕ) (said : WriterSaid) (more : List WriterSaid) → (writer_at w n).coming ≡ said ∷ more → KeepsRules (writer_at first n).kind said → IsLater first w → WriterLater (writer_at first n) (polled_writer (writer_at w n) room said more)
  polled-later w n room said more e p t =
      let was = (t.writers n).coming in
      record { coming = used_more (KeepsRules (writer_at first n).kind) _ more said p (was.0, was.1 ∙ ap (λ rest. was.0 ++ rest) e, was.2); kind = (t.writers n).kind }

  -- the world after that
  abbrev writer_used : World → ℕ → Option ℕ → WriterSaid → List WriterSaid → World
  writer_used w n room said more = with_writer w n (polled_writer (writer_at w n) room said more)

  -- or says why the step stops
  writer_stopped : (w : World) (stop : Stop) (n : ℕ) (room : Option ℕ) (said : WriterSaid) (more : List WriterSaid) → (writer_at w n).coming ≡ said ∷ more → SaysWhy stop n (writer_at first n).kind said → IsLater first w
      → (k : ℕ) → WriterFares stop (writer_used w n room said more).writers k
  writer_stopped w stop n room said more e p t =
      let was = (t.writers n).coming in
      all-set (λ k v. WriterLater (writer_at first k) v ⊎ WriterStopsSo stop k (writer_at first k) v) no_writer w.writers n (polled_writer (writer_at w n) room said more)
      (λ k. inl (t.writers k))
      (inr (record { coming = (was.0, said, was.1 ∙ ap (λ rest. was.0 ++ rest) e, was.2, p); kind = (t.writers n).kind }))

  says-fares : (w : World) (s n : ℕ) (room : Option ℕ) (finish : Bool) (coming : List WriterSaid) (next : AfterWriter) → (writer_at w n).coming ≡ coming → Writes s n → IsLater first w → FaresAfterWriter next → Fares (writer_says w s n room finish coming next)
  says-fares w s n room finish [] next e q t h = tt
  says-fares w s n room finish (said ∷ more) next e q t h =
      let x = polled_writer (writer_at w n) room said more in
      let after = with_writer w n x in
      let kind = (stream_in w s).kind in
      let was = (t.writers n).coming in
      let used : (writer_at after n).coming ≡ more = set-there (λ (v : Writer). v.coming) no_writer w.writers n x said more e refl in
      let all : (writer_at first n).coming ≡ was.0 ++ said ∷ (writer_at after n).coming = was.1 ∙ ap (λ rest. was.0 ++ rest) e ∙ ap (λ rest. was.0 ++ said ∷ rest) (sym used) in
      let here : kind ≡ (writer_at first n).kind = (t.streams s).kind ∙ q in
      let stays : (writer_at after n).kind ≡ (writer_at first n).kind = set-keeps (λ (v : Writer). v.kind) w.writers n n x no_writer refl ∙ (t.writers n).kind in
      let same : kind ≡ (writer_at after n).kind = here ∙ sym stays in
      let broken = λ (b : breaks_as_writer kind said ≡ true). ap (λ k. breaks_as_writer k said) (sym here) ∙ b in
      cond_both (is_writer_poll room finish said) (writer_judged after kind n said next) Stuck Fares
      (λ p. cond_both (is_failed said.answer) (stops (HostFailed (ends.Writer n)) after) (cond (breaks_as_writer kind said) (stops (HostBroke (ends.Writer n)) after) (next after said)) Fares
      (λ f. record { named = (was.0, said, all, f); writers = writer_stopped w (HostFailed (ends.Writer n)) n room said more e (refl, f) t; readers = λ r. inl (t.readers r) })
      (λ f. cond_both (breaks_as_writer kind said) (stops (HostBroke (ends.Writer n)) after) (next after said) Fares
      (λ b. record {
        named = (was.0, said, all, (f, ap (λ k. breaks_as_writer k said) (sym same) ∙ b));
        writers = writer_stopped w (HostBroke (ends.Writer n)) n room said more e (refl, (f, broken b)) t;
        readers = λ r. inl (t.readers r);
      })
      (λ b. h after said (writer-later w n x (polled-later w n room said more e (f, ap (λ k. breaks_as_writer k said) (sym here) ∙ b) t) t))))
      (λ p. tt)

  -- a read that receives items from a host writer
  received-later : (w : World) (s : ℕ) (read : Operation) (items : List Item) (result : Option StreamResult) → IsLater first w → IsLater first (receives w s read items result)
  received-later w s read items result t =
      let guests = lowered_items w.state.guests (stream_in w s).payload read items in
      with_stream-later (with_guests w guests) s _ (moved_later Reading (stream_in w s) read (length items) result)
      (record { writers = t.writers; readers = t.readers; streams = t.streams })

  produced-fares : (w : World) (s n : ℕ) (read : Operation) → Writes s n → IsLater first w → Fares (is_produced w s n read)
  produced-fares w s n read q t =
      says-fares w s n (Some read.left) read.asked (writer_at w n).coming
      (λ after said. done (receives (with_answer after n said.answer (drop read.left said.items)) s read (take read.left said.items) (produced_result said.answer (drop read.left said.items))))
      refl q t (λ v x k. received-later (with_answer v n x.answer (drop read.left x.items)) s read (take read.left x.items) _ (record { writers = k.writers; readers = k.readers; streams = k.streams }))

  produces-fares : (w : World) (s n : ℕ) (read : Operation) (items : List Item) → Writes s n → IsLater first w → Fares (produces w s n read items)
  produces-fares w s n read (item ∷ items) q t =
      let given = writer-later w n (given_writer (writer_at w n) read.left) (record { coming = (t.writers n).coming; kind = (t.writers n).kind }) t in
      received-later (hands_out w n read.left) s read _ _ (record { writers = given.writers; readers = given.readers; streams = given.streams })
  produces-fares w s n read [] q t =
      cond_both (producer_at w.state n).over (done (receives w s read [] (Some results.Dropped))) (is_produced w s n read) Fares
      (λ o. received-later w s read [] _ t) (λ o. produced-fares w s n read q t)

  turn-fares : (w : World) (s n : ℕ) (read : Operation) → Writes s n → IsLater first w → Fares (writer_turn w s n read)
  unfolding writer_turn
  turn-fares w s n read q t = produces-fares w s n read _ q t

  -- A HOST READER'S TURN

  -- what is done after a poll
  abbrev FaresAfterReader : AfterReader → Type 0
  FaresAfterReader next = (w : World) (said : ReaderSaid) → IsLater first w → Fares (next w said)

  -- a host reader that used its first record, which keeps the rules
  polled_reader-later : (w : World) (r : ℕ) (took : List Item) (said : ReaderSaid) (more : List ReaderSaid) → (reader_at w r).coming ≡ said ∷ more → ReaderKeepsRules (reader_at first r).kind said → IsLater first w → ReaderLater (reader_at first r) (polled_reader (reader_at w r) took more)
  polled_reader-later w r took said more e p t =
      let was = (t.readers r).coming in
      record { coming = used_more (ReaderKeepsRules (reader_at first r).kind) _ more said p (was.0, was.1 ∙ ap (λ rest. was.0 ++ rest) e, was.2); kind = (t.readers r).kind }

  -- the world after that
  abbrev reader_used : World → ℕ → List Item → List ReaderSaid → World
  reader_used w r took more = with_reader w r (polled_reader (reader_at w r) took more)

  -- or says why the step stops
  reader_stopped : (w : World) (stop : Stop) (r : ℕ) (took : List Item) (said : ReaderSaid) (more : List ReaderSaid) → (reader_at w r).coming ≡ said ∷ more → ReaderSaysWhy stop r (reader_at first r).kind said → IsLater first w
      → (k : ℕ) → ReaderFares stop (reader_used w r took more).readers k
  reader_stopped w stop r took said more e p t =
      let was = (t.readers r).coming in
      all-set (λ k v. ReaderLater (reader_at first k) v ⊎ ReaderStopsSo stop k (reader_at first k) v) no_reader w.readers r (polled_reader (reader_at w r) took more)
      (λ k. inl (t.readers k))
      (inr (record { coming = (was.0, said, was.1 ∙ ap (λ rest. was.0 ++ rest) e, was.2, p); kind = (t.readers r).kind }))

  reader_says-fares : (w : World) (s r offered : ℕ) (finish : Bool) (took : ℕ → List Item) (coming : List ReaderSaid) (next : AfterReader) → (reader_at w r).coming ≡ coming → Reads s r → IsLater first w → FaresAfterReader next → Fares (reader_says w s r offered finish took coming next)
  reader_says-fares w s r offered finish took [] next e q t h = tt
  reader_says-fares w s r offered finish took (said ∷ more) next e q t h =
      let x = polled_reader (reader_at w r) (took said.taken) more in
      let after = with_reader w r x in
      let kind = (stream_in w s).kind in
      let was = (t.readers r).coming in
      let used : (reader_at after r).coming ≡ more = set-there (λ (v : Reader). v.coming) no_reader w.readers r x said more e refl in
      let all : (reader_at first r).coming ≡ was.0 ++ said ∷ (reader_at after r).coming = was.1 ∙ ap (λ rest. was.0 ++ rest) e ∙ ap (λ rest. was.0 ++ said ∷ rest) (sym used) in
      let here : kind ≡ (reader_at first r).kind = (t.streams s).kind ∙ q in
      let stays : (reader_at after r).kind ≡ (reader_at first r).kind = set-keeps (λ (v : Reader). v.kind) w.readers r r x no_reader refl ∙ (t.readers r).kind in
      let same : kind ≡ (reader_at after r).kind = here ∙ sym stays in
      let goes_on = next after said in
      let broken = cond (breaks_as_reader kind said) (stops (HostBroke (ends.Reader r)) after) goes_on in
      let bad = cond said.bad (stops (BadItem s) after) broken in
      cond_both (is_reader_poll offered (consumer_at w.state r).since finish said && tells_truly offered took said) (reader_judged after kind s r said next) Stuck Fares
      (λ p. cond_both (is_failed said.answer) (stops (HostFailed (ends.Reader r)) after) bad Fares
      (λ f. record { named = (was.0, said, all, f); writers = λ n. inl (t.writers n); readers = reader_stopped w (HostFailed (ends.Reader r)) r (took said.taken) said more e (refl, f) t })
      (λ f. cond_both said.bad (stops (BadItem s) after) broken Fares
      (λ b. record { named = tt; writers = λ n. inl (t.writers n); readers = reader_stopped w (BadItem s) r (took said.taken) said more e (f, b) t })
      (λ b. cond_both (breaks_as_reader kind said) (stops (HostBroke (ends.Reader r)) after) goes_on Fares
      (λ k. record {
        named = (was.0, said, all, (f, ap (λ z. breaks_as_reader z said) (sym same) ∙ k));
        writers = λ n. inl (t.writers n);
        readers = reader_stopped w (HostBroke (ends.Reader r)) r (took said.taken) said more e (refl, (f, ap (λ z. breaks_as_reader z said) (sym here) ∙ k)) t;
      })
      (λ k. h after said (reader-later w r x (polled_reader-later w r (took said.taken) said more e (f, b, ap (λ z. breaks_as_reader z said) (sym here) ∙ k) t) t)))))
      (λ p. tt)

  reader_turn-fares : (w : World) (s r : ℕ) (write : Operation) → Reads s r → IsLater first w → Fares (reader_turn w s r write)
  unfolding reader_turn
  reader_turn-fares w s r write q t =
      reader_says-fares w s r write.left write.asked (lifted_items w.state.guests (stream_in w s).payload write) (reader_at w r).coming
      (λ after said. done (gives_up (reader_with_taken after r said.answer said.taken) s write said.taken said.answer))
      refl q t
      (λ v x k. with_stream-later (reader_with_taken v r x.answer x.taken) s _ (moved_later Writing (stream_in v s) write x.taken (result_of x.answer))
      (record { writers = k.writers; readers = k.readers; streams = k.streams }))

  -- THE ROUND OF A PIPE

  fetches-fares : (w : World) (s n r : ℕ) → Writes s n → IsLater first w → Fares (fetches w s n r)
  fetches-fares w s n r q t =
      let keeps : AfterWriter = λ after said. done (with_kept (with_answer after n said.answer []) n said.items) in
      cond_both (wants_items w n r) (polls_writer w s n None false keeps) (done w) Fares
      (λ e. says-fares w s n None false (writer_at w n).coming keeps refl q t (λ v x k. record { writers = k.writers; readers = k.readers; streams = k.streams }))
      (λ e. t)

  gathered-later : (w : World) (n : ℕ) → IsLater first w → IsLater first (gathered w n)
  gathered-later w n t =
      let given = writer-later (with_kept w n (held_of w n)) n (record (writer_at w n) { holds = [] }) (record { coming = (t.writers n).coming; kind = (t.writers n).kind })
      (record { writers = t.writers; readers = t.readers; streams = t.streams }) in
      record { writers = given.writers; readers = given.readers; streams = given.streams }

  passed-later : (w : World) (s n r : ℕ) (answer : Answer) (taken : ℕ) → IsLater first w → IsLater first (passed_on w s n r answer taken)
  passed-later w s n r answer taken t =
      with_stream-later _ s _ (received_later (stream_in w s) taken) (record { writers = t.writers; readers = t.readers; streams = t.streams })

  offers-fares : (w : World) (s n r : ℕ) (next : World → Option Answer → Outcome) → Reads s r → IsLater first w → ((v : World) (answer : Option Answer) → IsLater first v → Fares (next v answer)) → Fares (offers w s n r next)
  offers-fares w s n r next q t h =
      let held = held_of w n in
      let goes_on : AfterReader = λ after said. next (passed_on after s n r said.answer said.taken) (Some said.answer) in
      cond_both (has_items held || (consumer_at w.state r).resting) (polls_reader (gathered w n) s r (length held) false (λ k. take k held) goes_on) (next w None) Fares
      (λ e. reader_says-fares (gathered w n) s r (length held) false (λ k. take k held) (reader_at (gathered w n) r).coming goes_on refl q (gathered-later w n t)
      (λ after said k. h (passed_on after s n r said.answer said.taken) (Some said.answer) (passed-later after s n r said.answer said.taken k)))
      (λ e. h w None t)

  ends_if_done-fares : (w : World) (s n r : ℕ) (answer : Option Answer) → IsLater first w → Fares (ends_if_done w s n r answer)
  ends_if_done-fares w s n r answer t =
      let ended = with_stream-later w s (without_ends (stream_in w s)) (without_ends_later (stream_in w s)) t in
      cond_both (is_done_with (stream_in w s).kind answer || is_run_dry w n r) (done (both_gone w s n)) (done w) Fares
      (λ d. record { writers = ended.writers; readers = ended.readers; streams = ended.streams }) (λ d. t)

  pipe_round-fares : (w : World) (s n r : ℕ) → Writes s n → Reads s r → IsLater first w → Fares (pipe_round w s n r)
  unfolding pipe_round
  pipe_round-fares w s n r q p t =
      then-fares (fetches w s n r) (λ fetched. offers fetched s n r (λ after answer. ends_if_done after s n r answer)) (fetches-fares w s n r q t)
      (λ fetched k. offers-fares fetched s n r (λ after answer. ends_if_done after s n r answer) p k (λ after answer. ends_if_done-fares after s n r answer))

  -- A STEP

  open-fares : (w : World) (operation : Option Operation) (turn : Operation → Outcome) → IsLater first w → ((o : Operation) → Fares (turn o)) → Fares (if_open w operation turn)
  open-fares w None turn t h = t
  open-fares w (Some operation) turn t h = cond_both operation.is_open (turn operation) (done w) Fares (λ o. h operation) (λ o. t)

  answered-halts : (w : World) (s : ℕ) (side : Side) (code : Option ReturnCode) → EndsLater first w → Halts (answered_with w s side code)
  answered-halts w s side (Some code) t = with_stream-ends w s _ t
  answered-halts w s side None t = t

  itself_ends : EndsLater first first
  itself_ends = ends_later first (itself_later first)

  -- the host ends are as they were
  reply-halts : (reply : Reply) (w : World) → EndsLater first w → Halts (of_reply reply w)
  reply-halts (replies.BadItem stream) w t = record { named = tt; writers = λ n. inl (t.writers n); readers = λ r. inl (t.readers r) }
  reply-halts replies.StoreTrapped w t = record { named = tt; writers = λ n. inl (t.writers n); readers = λ r. inl (t.readers r) }
  reply-halts _ w t = t

  reacts-halts : (act : Act) → Halts (reacts first act)
  reacts-halts act = reply-halts (reaction first.state act).reply _ (record { writers = itself_ends.writers; readers = itself_ends.readers })

  forsakes-halts : (o : Outcome) (s : ℕ) (side : Side) → Halts o → Halts (forsakes o s side)
  forsakes-halts (Goes reply w) s side r = with_stream-ends w s _ r
  forsakes-halts (Stops stop writers readers) s side r = r
  forsakes-halts Stuck s side r = tt

  drops-halts : (s : ℕ) (side : Side) (act : Act) → Halts (drops_in first s side act)
  drops-halts s side act =
      cond_both (is_host (end_of (opposite side) (stream_in first s)).owner) (forsakes (reacts first act) s side) (reacts first act) Halts
      (λ h. forsakes-halts (reacts first act) s side (reacts-halts act)) (λ h. reacts-halts act)

  piped-ends : (w : World) (s r : ℕ) → EndsLater first w → EndsLater first (piped_by w s r)
  piped-ends w s r t =
      let stream = piped (stream_in w s) r in
      let after = with_stream_in w s stream in
      let here = with_stream-ends w s stream t in
      cond_both (is_dry w stream.writer.owner) (with_stream_in after s (without_ends stream)) after (EndsLater first) (λ d. with_stream-ends after s _ here) (λ d. here)

  on_host-halts : (n : ℕ) (act : HostAct) → Halts (on_host first n act)
  unfolding hosts_new pipes
  on_host-halts n New = record { writers = itself_ends.writers; readers = itself_ends.readers }
  on_host-halts n (Feed bytes) =
      let was = itself_ends.writers n in
      writer-ends first n (fed_writer (writer_at first n) bytes) (record { coming = was.coming; kind = was.kind }) itself_ends
  on_host-halts r (Pipe reader) = piped-ends _ reader r (record { writers = itself_ends.writers; readers = itself_ends.readers })
  on_host-halts r (Grant count) =
      let was = itself_ends.readers r in
      reader-ends first r (granted_reader (reader_at first r) count) (record { coming = was.coming; kind = was.kind }) itself_ends

  -- whose host ends are of the kinds of their streams
  module _ (fits : EndsFit first) where
    -- the kind of a host writer that is polled is that of the stream
    written_kind : (w : World) (s n : ℕ) → IsLater first w → (stream_in w s).writer.owner ≡ Host n → Writes s n
    written_kind w s n t o = sym (fits.writers n s ((t.streams s).writer n o))

    read_kind : (w : World) (s r : ℕ) → IsLater first w → (stream_in w s).reader.owner ≡ Host r → Reads s r
    read_kind w s r t o = sym (fits.readers r s ((t.streams s).reader r o))

    driven_by-fares : (w : World) (s : ℕ) (stream : Stream) (writer reader : Owner) → (stream_in w s).writer.owner ≡ writer → (stream_in w s).reader.owner ≡ reader → IsLater first w → Fares (driven_by w s stream writer reader)
    driven_by-fares w s stream (Host n) (Host r) e f t = pipe_round-fares w s n r (written_kind w s n t e) (read_kind w s r t f) t
    driven_by-fares w s stream (Host n) _ e f t = open-fares w stream.reader.operation _ t (λ o. turn-fares w s n o (written_kind w s n t e) t)
    driven_by-fares w s stream _ (Host r) e f t = open-fares w stream.writer.operation _ t (λ o. reader_turn-fares w s r o (read_kind w s r t f) t)
    driven_by-fares w s stream _ _ e f t = t

    drive_turn-fares : (w : World) (s : ℕ) → IsLater first w → Fares (drive_turn w s)
    unfolding drive_turn
    drive_turn-fares w s t = driven_by-fares w s (stream_in w s) (stream_in w s).writer.owner (stream_in w s).reader.owner refl refl t

    driven-fares : (w : World) (streams : List ℕ) → IsLater first w → Fares (driven w streams)
    driven-fares w [] t = t
    driven-fares w (s ∷ more) t = then-fares (drive_turn w s) _ (drive_turn-fares w s t) (λ v k. driven-fares v more k)

    operates-halts : (side : Side) (end : NamedEnd) (address count : ℕ) (owner : Owner) → (end_of (opposite side) (stream_in first (stream_named (named first.state end)))).owner ≡ owner → Halts (operates_by first side end address count owner)
    operates-halts Reading end address count (Host n) e =
        let s = stream_named (named first.state end) in
        let read = begun end.guest address (items_asked end.ty count) in
        let t = itself_later first in
        then-halts _ _ (turn-fares _ s n read (written_kind first s n t e) (with_stream-later first s _ (operation_later Reading (stream_in first s) read) t))
        (λ v k. answered-halts v s Reading _ (ends_later v k))
    operates-halts Writing end address count (Host r) e =
        let s = stream_named (named first.state end) in
        let write = begun end.guest address (items_asked end.ty count) in
        let t = itself_later first in
        then-halts _ _ (reader_turn-fares _ s r write (read_kind first s r t e) (with_stream-later first s _ (operation_later Writing (stream_in first s) write) t))
        (λ v k. answered-halts v s Writing _ (ends_later v k))
    operates-halts side end address count _ e = reacts-halts (OnEnd side end (Operate address count))

    performs-halts : (act : Act) → Halts (performs_in first act)
    unfolding performs_in
    performs-halts act =
        touch-by (λ act touch. Halts (performs_by first act touch)) first.state
        (record {
          operated = λ side end address count. operates-halts side end address count _ refl;
          dropped = λ act s side d. drops-halts s side act;
          hosted = λ n act. on_host-halts n act;
          driven = fares-halts _ (driven-fares first _ (itself_later first));
          alone = λ act n. reacts-halts act;
        })
        act

    unless-halts : (act : Act) (o : Option Refusal) → Halts (unless_refused_in first act o)
    unless-halts act (Some refusal) = itself_ends
    unless-halts act None = performs-halts act

    pub act-halts : (act : Act) → Halts (outcome first act)
    unfolding outcome
    act-halts act =
        cond_both first.state.trapped (stops StoreTrapped first) (unless_refused_in first act (refusal_in first act)) Halts
        (λ e. record { named = tt; writers = λ n. inl (itself_ends.writers n); readers = λ r. inl (itself_ends.readers r) }) (λ e. unless-halts act (refusal_in first act))
