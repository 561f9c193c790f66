-- The worlds that come later in a step: since its first one each host end used one record at most, of which each
-- has a place on a tape.
use Rattle.std.proofs.Common.{◌≡◌, ◌⊎◌, inl, inr, zero, suc, ◌+◌, ℕ, ◌==◌, ◌<◌, ◌≤◌, Bool, true, false, ◌||◌, ◌&&◌, cond, List, [], ◌∷◌, ◌++◌, length, take, drop, get_or, set, Option, Some, None, refl, sym, ap, subst, ◌∙◌, arith, append_assoc}
use Rattle.std.specs.Prelude.{nat_le}
use Rattle.std.proofs.lemmas.Bool.{cond_both, eqb-true, leb-true}
use Rattle.std.proofs.lemmas.List.Elements.{All-nil, All-push}
use Rattle.strm_codes.specs.declared.codes.ReturnCode.{ReturnCode}
use Rattle.strm_codes.specs.declared.codes.StreamResult.{StreamResult}
use Rattle.strm_codes.specs.declared.codes.StreamResult.TheVariants as results
use Rattle.strm_codes.specs.declared.refusals.Refusal.{Refusal}
use Rattle.strm_buffers.specs.Listing.{Item}
use Rattle.strm_buffers.specs.declared.answers.Answer.{Answer}
use Rattle.strm_buffers.specs.declared.answers.ReaderSaid.{ReaderSaid}
use Rattle.strm_buffers.specs.Said.{WriterSaid}
use Rattle.strm_buffers.specs.HostRules.{breaks_as_writer, breaks_as_reader}
use Rattle.strm_machine.specs.Meetings.{begun}
use Rattle.strm_machine.specs.Operating.{with_received}
use Rattle.strm_machine.specs.Tests.{named, stream_named, items_asked}
use Rattle.strm_machine.specs.State.{producer_at, consumer_at, is_host, no_stream}
use Rattle.strm_machine.specs.Acts.{act_of}
use Rattle.strm_machine.specs.Reactions.{reaction}
use Rattle.strm_machine.specs.Refusals.{front_reasons, handle_reasons, own_reasons, last_reasons}
use Rattle.strm_machine.specs.Sides.{opposite, end_of, with_operation}
use Rattle.strm_machine.specs.declared.acts.Act.{Act}
use Rattle.strm_machine.specs.declared.acts.Act.TheVariants.{OnEnd}
use Rattle.strm_machine.specs.declared.acts.EndAct.TheVariants.{Operate}
use Rattle.strm_machine.specs.declared.acts.HostAct.{HostAct}
use Rattle.strm_machine.specs.declared.acts.HostAct.TheVariants.{New, Feed, Pipe, Grant}
use Rattle.strm_machine.specs.declared.acts.NamedEnd.{NamedEnd}
use Rattle.strm_machine.specs.declared.replies.Reply.{Reply}
use Rattle.strm_machine.specs.declared.replies.Reply.TheVariants as replies
use Rattle.strm_machine.specs.declared.stops.Stop.TheVariants.{HostFailed, HostBroke, BadItem, StoreTrapped}
use Rattle.strm_machine.specs.declared.streams.HostEnd.TheVariants as ends
use Rattle.strm_machine.specs.declared.streams.Operation.{Operation}
use Rattle.strm_machine.specs.declared.streams.Owner.{Owner}
use Rattle.strm_machine.specs.declared.streams.Owner.TheVariants.{Host, Gone}
use Rattle.strm_machine.specs.declared.streams.Side.{Side}
use Rattle.strm_machine.specs.declared.streams.Side.TheVariants.{Writing, Reading}
use Rattle.strm_machine.specs.declared.streams.Stream.{Stream}
use Rattle.strm_machine.specs.declared.steps.Step.{Step}
use Rattle.strm_machine.proofs.RefusalLemmas.{none_of_both, region_fits}
use Rattle.strm_host_machine.specs.World.{World, stream_in, writer_at, reader_at, held_of, with_kept, with_writer, with_reader, leaves_writer, leaves_reader, with_stream_in, with_guests}
use Rattle.strm_host_machine.specs.Ends.{Writer, Reader, no_writer, no_reader, writer_in, reader_in, polled_writer, polled_reader, given_writer, fed_writer, granted_reader, closed_writer, closed_reader}
use Rattle.strm_host_machine.specs.Outcomes.{Outcome, Goes, Stops, Stuck, stops, done, then_on, of_reply}
use Rattle.strm_host_machine.specs.Polls.{AfterWriter, is_failed, same_flag, same_room, is_writer_poll, writer_judged, writer_says, polls_writer, AfterReader, is_reader_poll, tells_truly, reader_judged, reader_says, polls_reader}
use Rattle.strm_host_machine.specs.WriterTurn.{receives, with_answer, produced_result, hands_out, is_produced, produces, writer_turn, lowered_items}
use Rattle.strm_host_machine.specs.ReaderTurn.{lifted_items, reader_with_taken, gives_up, reader_turn}
use Rattle.strm_host_machine.specs.Settling.{answered_with, result_of, moved_on, with_some_received}
use Rattle.strm_host_machine.specs.Piping.{wants_items, fetches, gathered, passed_on, offers, is_done_with, is_run_dry, both_gone, ends_if_done, pipe_round}
use Rattle.strm_host_machine.specs.Driving.{if_open, driven_by, drive_turn, numbers_from, driven}
use Rattle.strm_host_machine.specs.Attaching.{has_items, hosts_new, is_dry, piped, piped_by, without_ends, pipes, forsakes}
use Rattle.strm_host_machine.specs.HostRefusals.{refusal_in}
use Rattle.strm_host_machine.specs.Steps.{reacts, operates_by, drops_in, on_host, performs_by, performs_in, unless_refused_in, outcome, outcome_of_step}
use Rattle.strm_host_machine.proofs.TouchLemmas.{touch-by}
use Rattle.strm_host_machine.proofs.LaterLemmas.{Used, all-set, StreamLater, stream_twice, operation_later, received_later, moved_later, without_ends_later}
use Rattle.strm_tape.specs.Spelling.{IsSpelledRoom}
use Rattle.strm_tape_runs.specs.Marks.{FairRoom, FairTaking}
use Rattle.strm_tape_runs.proofs.FairRecords.{ReadsFew}

-- OF EACH END AT MOST ONE

-- some of the streams
abbrev pub Streams : Type 1
Streams = ℕ → Type 0

-- at most so many records were used, of each of which this holds
abbrev pub UsedFew : {A : Type 0} → ℕ → (A → Type 0) → List A → List A → Type 0
UsedFew {A} k P all rest = (used : Used P all rest) × (length used.0 ≤ k)

-- none, or one for a stream among these that has the end
abbrev pub OnceFor : {A : Type 0} → (ℕ → Type 0) → (ℕ → Type 0) → List A → Type 0
OnceFor {A} T owns front = (front ≡ []) ⊎ ((length front ≡ 1) × ((s : ℕ) × T s × owns s))

-- these streams, and one more
abbrev pub And : (ℕ → Type 0) → ℕ → ℕ → Type 0
And T s t = T t ⊎ (t ≡ s)

once_few : {A : Type 0} (T owns : ℕ → Type 0) (front : List A) → OnceFor T owns front → length front ≤ 1
once_few T owns front (inl e) = let none = ap (λ xs. length xs) e in omega (arith, none)
once_few T owns front (inr h) = omega (arith, h.0)

once_widened : {A : Type 0} (T X owns : ℕ → Type 0) (front : List A) → ((s : ℕ) → T s → X s) → OnceFor T owns front → OnceFor X owns front
once_widened T X owns front h (inl e) = inl e
once_widened T X owns front h (inr o) = inr (o.0, (o.1.0, h o.1.0 o.1.1, o.1.2))

-- no record of an end was used whose stream had no turn
pub once_fresh : {A : Type 0} (T owns : ℕ → Type 0) (front : List A) (s : ℕ) → ((t : ℕ) → owns t → t ≡ s) → ¬ T s → OnceFor T owns front → front ≡ []
once_fresh T owns front s one n (inl e) = e
once_fresh T owns front s one n (inr o) = absurd (n (subst T (one o.1.0 o.1.2) o.1.1))

-- a step from this world, in which no two streams have one end
module _ (first : World) where
  abbrev pub Writes : ℕ → ℕ → Type 0
  Writes n s = (stream_in first s).writer.owner ≡ Host n

  abbrev pub Reads : ℕ → ℕ → Type 0
  Reads r s = (stream_in first s).reader.owner ≡ Host r

  -- the records that host writer n used since, for these streams
  pub record WriterOnce (T : Streams) (n : ℕ) (coming : List WriterSaid) : Type 0 where
    pub used : Used FairRoom (writer_at first n).coming coming
    pub once : OnceFor T (Writes n) used.0

  -- and host reader r
  pub record ReaderOnce (T : Streams) (r : ℕ) (coming : List ReaderSaid) : Type 0 where
    pub used : Used FairTaking (reader_at first r).coming coming
    pub once : OnceFor T (Reads r) used.0

  -- those that these host ends used, each so many at most
  pub record EndsUsed (k : ℕ) (ws : List Writer) (rs : List Reader) : Type 0 where
    pub writers : (n : ℕ) → UsedFew k FairRoom (writer_at first n).coming (writer_in ws n).coming
    pub readers : (r : ℕ) → UsedFew k FairTaking (reader_at first r).coming (reader_in rs r).coming

  -- a world later in the same step: host writers had their turns for the first of these streams, and host readers
  -- for the second
  pub record IsLater (T U : Streams) (w : World) : Type 0 where
    pub writers : (n : ℕ) → WriterOnce T n (writer_at w n).coming
    pub readers : (r : ℕ) → ReaderOnce U r (reader_at w r).coming
    pub streams : (s : ℕ) → StreamLater (stream_in first s) (stream_in w s)
    pub few : (s : ℕ) → ReadsFew (stream_in w s)

  -- what comes of a part of it
  abbrev pub Fares : (ℕ → Type 0) → (ℕ → Type 0) → Outcome → Type 0
  Fares T U (Goes reply w) = IsLater T U w
  Fares T U (Stops stop ws rs) = EndsUsed 1 ws rs
  Fares T U Stuck = Unit {0}

  -- and of all of it
  abbrev pub StepFares : Outcome → Type 0
  StepFares (Goes reply w) = EndsUsed 1 w.writers w.readers
  StepFares (Stops stop ws rs) = EndsUsed 1 ws rs
  StepFares Stuck = Unit {0}

  abbrev pub Ends : World → Type 0
  Ends w = EndsUsed 1 w.writers w.readers

  pub ends_used : (T U : Streams) (w : World) → IsLater T U w → Ends w
  ends_used T U w t = record {
    writers = λ n. ((t.writers n).used, once_few T (Writes n) (t.writers n).used.0 (t.writers n).once);
    readers = λ r. ((t.readers r).used, once_few U (Reads r) (t.readers r).used.0 (t.readers r).once);
  }

  writer_widened : (T X : Streams) (n : ℕ) (coming : List WriterSaid) → ((s : ℕ) → T s → X s) → WriterOnce T n coming → WriterOnce X n coming
  writer_widened T X n coming h o = record { used = o.used; once = once_widened T X (Writes n) o.used.0 h o.once }

  reader_widened : (T X : Streams) (r : ℕ) (coming : List ReaderSaid) → ((s : ℕ) → T s → X s) → ReaderOnce T r coming → ReaderOnce X r coming
  reader_widened T X r coming h o = record { used = o.used; once = once_widened T X (Reads r) o.used.0 h o.once }

  pub widened : (T U X Y : Streams) (w : World) → ((s : ℕ) → T s → X s) → ((s : ℕ) → U s → Y s) → IsLater T U w → IsLater X Y w
  widened T U X Y w f g t = record {
    writers = λ n. writer_widened T X n (writer_at w n).coming f (t.writers n);
    readers = λ r. reader_widened U Y r (reader_at w r).coming g (t.readers r);
    streams = t.streams;
    few = t.few;
  }

  -- a turn that polls no host writer
  pub writers_on : (T U : Streams) (s : ℕ) (w : World) → IsLater T U w → IsLater (And T s) U w
  writers_on T U s w t = widened T U (And T s) U w (λ k h. inl h) (λ k h. h) t

  pub readers_on : (T U : Streams) (s : ℕ) (w : World) → IsLater T U w → IsLater T (And U s) w
  readers_on T U s w t = widened T U T (And U s) w (λ k h. h) (λ k h. inl h) t

  pub writer-later : (T U : Streams) (w : World) (n : ℕ) (x : Writer) → WriterOnce T n x.coming → IsLater T U w → IsLater T U (with_writer w n x)
  writer-later T U w n x e t = record {
    writers = all-set (λ k (v : Writer). WriterOnce T k v.coming) no_writer w.writers n x t.writers e;
    readers = t.readers;
    streams = t.streams;
    few = t.few;
  }

  pub reader-later : (T U : Streams) (w : World) (r : ℕ) (x : Reader) → ReaderOnce U r x.coming → IsLater T U w → IsLater T U (with_reader w r x)
  reader-later T U w r x e t = record {
    writers = t.writers;
    readers = all-set (λ k (v : Reader). ReaderOnce U k v.coming) no_reader w.readers r x t.readers e;
    streams = t.streams;
    few = t.few;
  }

  pub writer-ends : (w : World) (n : ℕ) (x : Writer) → UsedFew 1 FairRoom (writer_at first n).coming x.coming → Ends w → Ends (with_writer w n x)
  writer-ends w n x e t = record {
    writers = all-set (λ k (v : Writer). UsedFew 1 FairRoom (writer_at first k).coming v.coming) no_writer w.writers n x t.writers e;
    readers = t.readers;
  }

  pub reader-ends : (w : World) (r : ℕ) (x : Reader) → UsedFew 1 FairTaking (reader_at first r).coming x.coming → Ends w → Ends (with_reader w r x)
  reader-ends w r x e t = record {
    writers = t.writers;
    readers = all-set (λ k (v : Reader). UsedFew 1 FairTaking (reader_at first k).coming v.coming) no_reader w.readers r x t.readers e;
  }

  leaves_writer-ends : (a b : Owner) (w : World) → Ends w → Ends (leaves_writer a b w)
  leaves_writer-ends (Host n) Gone w t = record {
    writers = all-set (λ k (v : Writer). UsedFew 1 FairRoom (writer_at first k).coming v.coming) no_writer w.writers n (closed_writer (writer_at w n)) t.writers (t.writers n);
    readers = t.readers;
  }
  leaves_writer-ends _ _ w t = t

  leaves_reader-ends : (a b : Owner) (w : World) → Ends w → Ends (leaves_reader a b w)
  leaves_reader-ends (Host r) Gone w t = record {
    writers = t.writers;
    readers = all-set (λ k (v : Reader). UsedFew 1 FairTaking (reader_at first k).coming v.coming) no_reader w.readers r (closed_reader (reader_at w r)) t.readers (t.readers r);
  }
  leaves_reader-ends _ _ w t = t

  pub with_stream-ends : (w : World) (s : ℕ) (stream : Stream) → Ends w → Ends (with_stream_in w s stream)
  unfolding with_stream_in
  with_stream-ends w s stream t =
      leaves_writer-ends (stream_in w s).writer.owner stream.writer.owner _
      (leaves_reader-ends (stream_in w s).reader.owner stream.reader.owner _ (record { writers = t.writers; readers = t.readers }))

  leaves_writer-once : (T U : Streams) (a b : Owner) (w : World) → ((n : ℕ) → WriterOnce T n (writer_at w n).coming) → (n : ℕ) → WriterOnce T n (writer_at (leaves_writer a b w) n).coming
  leaves_writer-once T U (Host k) Gone w t = all-set (λ j (v : Writer). WriterOnce T j v.coming) no_writer w.writers k (closed_writer (writer_at w k)) t (t k)
  leaves_writer-once T U _ _ w t = t

  leaves_reader-once : (T U : Streams) (a b : Owner) (w : World) → ((r : ℕ) → ReaderOnce U r (reader_at w r).coming) → (r : ℕ) → ReaderOnce U r (reader_at (leaves_reader a b w) r).coming
  leaves_reader-once T U (Host k) Gone w t = all-set (λ j (v : Reader). ReaderOnce U j v.coming) no_reader w.readers k (closed_reader (reader_at w k)) t (t k)
  leaves_reader-once T U _ _ w t = t

  leaves_writer-streams : (a b : Owner) (w : World) → (leaves_writer a b w).state.streams ≡ w.state.streams
  leaves_writer-streams (Host n) Gone w = refl
  leaves_writer-streams _ _ w = refl

  leaves_writer-readers : (a b : Owner) (w : World) → (leaves_writer a b w).readers ≡ w.readers
  leaves_writer-readers (Host n) Gone w = refl
  leaves_writer-readers _ _ w = refl

  leaves_reader-streams : (a b : Owner) (w : World) → (leaves_reader a b w).state.streams ≡ w.state.streams
  leaves_reader-streams (Host r) Gone w = refl
  leaves_reader-streams _ _ w = refl

  leaves_reader-writers : (a b : Owner) (w : World) → (leaves_reader a b w).writers ≡ w.writers
  leaves_reader-writers (Host n) Gone w = refl
  leaves_reader-writers _ _ w = refl

  pub with_stream-later : (T U : Streams) (w : World) (s : ℕ) (stream : Stream) → StreamLater (stream_in w s) stream → ReadsFew stream → IsLater T U w → IsLater T U (with_stream_in w s stream)
  unfolding with_stream_in
  with_stream-later T U w s stream l few t =
      let after = record w { state = record w.state { streams = set w.state.streams s stream } } in
      let a = (stream_in w s).reader.owner in
      let b = stream.reader.owner in
      let left = leaves_reader a b after in
      let c = (stream_in w s).writer.owner in
      let d = stream.writer.owner in
      let same : (with_stream_in w s stream).state.streams ≡ set w.state.streams s stream = leaves_writer-streams c d left ∙ leaves_reader-streams a b after in
      record {
        writers = leaves_writer-once T U c d left (λ n. subst (λ (ws : List Writer). WriterOnce T n (writer_in ws n).coming) (sym (leaves_reader-writers a b after)) (t.writers n));
        readers = λ r. subst (λ (rs : List Reader). ReaderOnce U r (reader_in rs r).coming) (sym (leaves_writer-readers c d left)) (leaves_reader-once T U a b after t.readers r);
        streams = λ k. subst (λ xs. StreamLater (stream_in first k) (get_or xs k no_stream)) (sym same)
            (all-set (λ j x. StreamLater (stream_in first j) x) no_stream w.state.streams s stream t.streams (stream_twice _ _ stream (t.streams s) l) k);
        few = λ k. subst (λ xs. ReadsFew (get_or xs k no_stream)) (sym same) (all-set (λ j x. ReadsFew x) no_stream w.state.streams s stream t.few few k);
      }

  pub then-fares : (T U X Y : Streams) (o : Outcome) (next : World → Outcome) → Fares T U o → ((w : World) → IsLater T U w → Fares X Y (next w)) → Fares X Y (then_on o next)
  then-fares T U X Y (Goes reply w) next r h = h w r
  then-fares T U X Y (Stops stop ws rs) next r h = r
  then-fares T U X Y Stuck next r h = tt

  pub then-halts : (T U : Streams) (o : Outcome) (next : World → Outcome) → Fares T U o → ((w : World) → IsLater T U w → StepFares (next w)) → StepFares (then_on o next)
  then-halts T U (Goes reply w) next r h = h w r
  then-halts T U (Stops stop ws rs) next r h = r
  then-halts T U Stuck next r h = tt
