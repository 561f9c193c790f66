-- What is done to host ends, and the drop of an end that a host end goes with, is nothing to a stream or one
-- event of it.
use Rattle.std.proofs.Common.{◌≡◌, ℕ, suc, ◌<◌, Bool, true, false, cond, List, [], ◌∷◌, ◌++◌, length, get_or, None, refl, sym, ap, ◌∙◌, arith, length-set, length-append}
use Rattle.std.specs.Prelude.{◌==◌, ◌&&◌, ◌||◌, not}
use Rattle.std.proofs.lemmas.Bool.{cond_both, ne_eqb, eq-eqb}
use Rattle.std.proofs.lemmas.Bool.Decides.{nat_tests}
use Rattle.std.proofs.lemmas.List.{get_or-set_same}
use Rattle.strm_buffers.specs.Listing.{Item}
use Rattle.strm_machine.specs.State.{Guest, no_producer, no_consumer, producer_at, kept_at, consumer_at, is_host, is_loose}
use Rattle.strm_machine.specs.Hosting.{is_piped}
use Rattle.strm_machine.specs.Sides.{opposite, end_of}
use Rattle.strm_machine.specs.Endings.{dropped}
use Rattle.strm_machine.specs.Moves.{without_handle}
use Rattle.strm_machine.specs.Tests.{named, stream_named}
use Rattle.strm_machine.specs.Refusals.{on_end_reasons, first_of, refusal}
use Rattle.strm_machine.specs.Reactions.{on_end, performs}
use Rattle.strm_machine.specs.declared.acts.Act.TheVariants.{OnEnd, OnLoose, OnHost}
use Rattle.strm_machine.specs.declared.acts.EndAct.TheVariants.{Drop}
use Rattle.strm_machine.specs.declared.acts.HostAct.TheVariants.{New, Feed, Pipe, Grant}
use Rattle.strm_machine.specs.declared.acts.LooseAct.TheVariants.{Close}
use Rattle.strm_machine.specs.declared.acts.NamedEnd.{NamedEnd}
use Rattle.strm_machine.specs.declared.replies.Reply.TheVariants as replies
use Rattle.strm_machine.specs.declared.streams.Duty.{Duty}
use Rattle.strm_machine.specs.declared.streams.Duty.TheVariants.{Unused, Serves, Ended}
use Rattle.strm_machine.specs.declared.streams.Owner.{Owner}
use Rattle.strm_machine.specs.declared.streams.Owner.TheVariants.{Held, Loose, Host, Gone}
use Rattle.strm_machine.specs.declared.streams.Producer.{Producer}
use Rattle.strm_machine.specs.declared.streams.Side.{Side}
use Rattle.strm_machine.specs.declared.streams.Side.TheVariants.{Writing, Reading}
use Rattle.strm_machine.specs.declared.streams.Stream.{Stream}
use Rattle.strm_machine.proofs.RefusalLemmas.{drop_fits, close_fits}
use Rattle.strm_machine.proofs.TableLemmas.{set-keeps}
use Rattle.strm_host_machine.specs.Attaching.{hosted_stream, new_producer, piped, has_items, is_dry, without_ends, piped_by, forsaken, forsakes}
use Rattle.strm_host_machine.specs.Courses.{AHost, NoMore, Begins, Drops, Moves, Course, reaches, end_on, with_holder, dropped_by, fresh_course, both_gone_if, course_by, codes_from, is_no_more, is_a_host}
use Rattle.strm_host_machine.specs.Courses as courses
use Rattle.strm_host_machine.specs.Ends.{Writer, Reader, no_writer, no_reader, fed_writer, granted_reader}
use Rattle.strm_host_machine.specs.HostRefusals.{refusal_in, is_used}
use Rattle.strm_host_machine.specs.Outcomes.{reacted}
use Rattle.strm_host_machine.specs.World.{World, stream_in, writer_at, reader_at, with_consumer, with_writer, with_reader, leaves_writer, leaves_reader, with_stream_in}
use Rattle.strm_host_machine.proofs.SettleLemmas.{leaves_writer-stays}
use Rattle.strm_host_laws.specs.HostMoments.{Acts}
use Rattle.strm_host_laws.specs.StreamEvents.{events_in}
use Rattle.strm_host_laws.proofs.Tracing.{holder_of, held_for, over_for, seen, course_of}
use Rattle.strm_host_laws.proofs.CourseLemmas.{forsaken-seen, piped-seen}
use Rattle.strm_host_laws.proofs.CourseRuns.{course_after}
use Rattle.strm_host_laws.proofs.Closed.{is_new, is_new_reader}
use Rattle.strm_host_laws.proofs.GoingRules.{hosted}
use Rattle.strm_host_laws.proofs.TurnsStand.{Holds, nothing_kept}
use Rattle.strm_host_laws.proofs.PartEffects.{loose_made}
use Rattle.strm_host_laws.proofs.Unmoved.{push-other}
use Rattle.strm_host_laws.proofs.WrittenBack.{set_back, back-here, back-kept, back-stays, back-length}
use Rattle.strm_host_laws.proofs.Apart.{push-here, OnlyAt, WritesIt, ReadsIt, only-then, only-set, only-producer, only-consumer, only-back, served_once, stays-only}
use Rattle.strm_host_laws.proofs.Happenings.{moment_at, silent-of, Happening, ToNone, ToOne, Makes}
use Rattle.strm_host_laws.proofs.SingleSteps.{set_one, set-here, unhosted-course, holder-across, Formed, named_one, loose_one, found-on}

-- ## A stream that is written back

leaves_writer-producers : (old new : Owner) (w : World) → new ≡ old → (leaves_writer old new w).state.producers ≡ w.state.producers
leaves_writer-producers old new w e = ap (λ o. (leaves_writer old o w).state.producers) e ∙ ap (λ (x : World). x.state.producers) (leaves_writer-stays old w)

leaves_reader-producers : (old new : Owner) (w : World) → (leaves_reader old new w).state.producers ≡ w.state.producers
leaves_reader-producers (Host r) Gone w = refl
leaves_reader-producers (Host r) _ w = refl
leaves_reader-producers _ new w = refl

module _ (w : World) (s : ℕ) (x : Stream) (made : s < length w.state.streams) where
  abbrev v : World
  v = with_stream_in w s x

  -- whose host writer stays
  module _ (stays : x.writer.owner ≡ (stream_in w s).writer.owner) where
    pub back-producers : v.state.producers ≡ w.state.producers
    unfolding with_stream_in
    back-producers =
        leaves_writer-producers (stream_in w s).writer.owner x.writer.owner (leaves_reader (stream_in w s).reader.owner x.reader.owner (set_back w s x)) stays
        ∙ leaves_reader-producers (stream_in w s).reader.owner x.reader.owner (set_back w s x)

    held-back : (o : Owner) → seen x (held_for v o) (over_for v o) ≡ seen x (held_for w o) (over_for w o)
    held-back (Host n) =
        ap (λ ps. seen x (held_for v (Host n)) (get_or ps n no_producer).over) back-producers
        ∙ ap (λ ks. seen x (length (get_or ks n [] ++ (writer_at v n).holds)) (producer_at w.state n).over) (back-kept w s x)
        ∙ ap (λ (y : Writer). seen x (length (kept_at w.state n ++ y.holds)) (producer_at w.state n).over) (back-stays w s x stays n)
    held-back (Held g handle) = refl
    held-back Loose = refl
    held-back Gone = refl

    pub back-course : course_of s v ≡ seen x (held_for w (stream_in w s).writer.owner) (over_for w (stream_in w s).writer.owner)
    back-course =
        ap (λ (y : Stream). seen y (held_for v y.writer.owner) (over_for v y.writer.owner)) (back-here w s x made)
        ∙ held-back x.writer.owner
        ∙ ap (λ o. seen x (held_for w o) (over_for w o)) stays

  -- which no host writer writes then
  pub back-unhosted : is_host x.writer.owner ≡ false → course_of s v ≡ seen x 0 false
  back-unhosted e =
      unhosted-course s v (ap (λ (y : Stream). is_host y.writer.owner) (back-here w s x made) ∙ e)
      ∙ ap (λ y. seen y 0 false) (back-here w s x made)

-- ## Host ends that are unused

unused_serves : (duty : Duty) (s : ℕ) → is_used duty ≡ false → duty ≡ Serves s → ⊥
unused_serves duty s e f = let wrong : is_used (Serves s) ≡ false = ap is_used (sym f) ∙ e in cc

unused_unpiped : (w : World) (duty : Duty) → is_used duty ≡ false → is_piped w.state duty ≡ false
unused_unpiped w Unused e = refl
unused_unpiped w (Serves s) e = cc
unused_unpiped w Ended e = refl

-- ## Items that are held

pub none-held : (xs : List Item) → (length xs == 0) ≡ not (has_items xs)
none-held [] = refl
none-held (x ∷ xs) = some_none (length xs)
  where
    some_none : (k : ℕ) → (suc k == 0) ≡ false
    some_none k = grind (arith, nat_tests)

module _ (w : World) (h : Holds w.state) where
  -- ## FEEDS AND GRANTS

  pub fed-happening : (n : ℕ) (bytes : List ℕ) → Happening (moment_at w (Acts (OnHost n (Feed bytes))) replies.Done (with_writer w n (fed_writer (writer_at w n) bytes)))
  fed-happening n bytes = ToNone (λ k. (
    record { events = refl; answers = refl },
    record {
      stream = refl;
      writer = λ m o. record { producer = refl; kept = refl; holds = set-keeps (λ (x : Writer). x.holds) w.writers n m (fed_writer (writer_at w n) bytes) no_writer refl };
      reader = λ r o. record { consumer = refl; holds = refl };
    },
  )) refl

  pub granted-happening : (r count : ℕ) → Happening (moment_at w (Acts (OnHost r (Grant count))) replies.Done (with_reader w r (granted_reader (reader_at w r) count)))
  granted-happening r count = ToNone (λ k. (
    record { events = refl; answers = refl },
    record {
      stream = refl;
      writer = λ n o. record { producer = refl; kept = refl; holds = refl };
      reader = λ q o. record { consumer = refl; holds = set-keeps (λ (x : Reader). x.holds) w.readers r q (granted_reader (reader_at w r) count) no_reader refl };
    },
  )) refl

  -- ## A STREAM OF A HOST WRITER

  pub hosted-happening : (n : ℕ) → refusal_in w (OnHost n New) ≡ None → Happening (moment_at w (Acts (OnHost n New)) (replies.Number (length w.state.streams)) (hosted w n))
  unfolding course_by
  hosted-happening n e =
      let s = length w.state.streams in
      let new = is_new w n e in
      let v = hosted w n in
      let x = hosted_stream (writer_at w n) n in
      let m = moment_at w (Acts (OnHost n New)) (replies.Number s) v in
      let holds = (writer_at w n).holds in
      let here : stream_in v s ≡ x = push-here w.state.streams x in
      let known : n < length w.state.producers = let all = h.hosts.all in let small = new.known in omega (arith, all, small) in
      let producer = new_producer s (writer_at w n) in
      let events : events_in s m ≡ Begins (length holds) ∷ [] = ap (λ b. cond b (Begins (length holds) ∷ []) []) (eq-eqb s s refl) in
      Makes
      (record {
        answers = refl;
        unanswered = ap (codes_from (fresh_course (stream_in v s).kind)) events;
        course =
            ap (λ (y : Stream). seen y (held_for v y.writer.owner) (over_for v y.writer.owner)) here
            ∙ ap (λ ks. seen x (length (ks ++ holds)) (producer_at v.state n).over) (h.hosts.keeps n (unused_unpiped w (producer_at w.state n).duty new.unused))
            ∙ ap (λ (p : Producer). seen x (length holds) p.over) (get_or-set_same w.state.producers n producer no_producer known)
            ∙ ap (λ k. (course_by (Begins (length holds)) (fresh_course k)).course) (sym (ap (λ (y : Stream). y.kind) here))
            ∙ ap (course_after (fresh_course (stream_in v s).kind)) (sym events);
      })
      (λ k ne. (
        silent-of k m (λ side. refl) (ap (λ b. cond b (Begins (length holds) ∷ []) []) (ne_eqb s k (λ f. ne (sym f)))) (λ side. refl),
        stays-only s k (λ i. i ≡ n) (λ r. ⊥) w v
            (record {
              streams = λ j off. push-other w.state.streams x j off;
              writers = (only-producer s (λ i. i ≡ n) (λ r. ⊥) w n refl producer).writers;
              readers = λ r q. refl;
            })
            ne
            (λ i o f. unused_serves (producer_at w.state n).duty k new.unused (ap (λ j. (producer_at w.state j).duty) (sym f) ∙ (h.hosts.serve Writing i k).serves o))
            (λ r o f. f),
      ))
      (let long = length-append w.state.streams (x ∷ []) in omega (arith, long))

  -- ## A HOST END THAT GOES WITH THE OTHER END

  module _ (side : Side) (s : ℕ) (guests : List Guest) (made : s < length w.state.streams) (host : is_host (end_of (opposite side) (stream_in w s)).owner ≡ true) where
    abbrev it : Stream
    it = stream_in w s

    abbrev u : World
    u = set_one w guests s (dropped side it)

    abbrev left : Stream
    left = forsaken side (stream_in u s)

    pub forsaken_world : World
    forsaken_world = with_stream_in u s left

    here : stream_in u s ≡ dropped side it
    here = set-here w guests s (dropped side it) made

    writer_gone : (side : Side) (x : Stream) → is_host (forsaken side (dropped side x)).writer.owner ≡ false
    unfolding dropped
    writer_gone Writing x = refl
    writer_gone Reading x = refl

    is_hosts : (o : Owner) → is_host o ≡ true → holder_of o ≡ AHost
    is_hosts (Host n) e = refl
    is_hosts (Held g handle) e = cc
    is_hosts Loose e = cc
    is_hosts Gone e = cc

    pub forsaken-course : course_by (Drops side) (course_of s w) ≡ reaches None (course_of s (with_stream_in u s left))
    unfolding course_by
    forsaken-course =
        let held = held_for w it.writer.owner in
        let over = over_for w it.writer.owner in
        let long : s < length u.state.streams = omega (arith, made, length-set w.state.streams s (dropped side it)) in
        ap (λ k. reaches None (dropped_by k side (seen it held over))) (holder-across side it held over ∙ is_hosts (end_of (opposite side) it).owner host)
        ∙ ap (reaches None)
        (forsaken-seen held over side it
        ∙ ap (λ x. seen (forsaken side x) 0 false) (sym here)
        ∙ sym (back-unhosted u s left long (ap (λ x. is_host (forsaken side x).writer.owner) here ∙ writer_gone side it)))

    dropped_from : (side : Side) (n : ℕ) → (dropped side it).writer.owner ≡ Host n → it.writer.owner ≡ Host n
    unfolding dropped
    dropped_from Writing n e = cc
    dropped_from Reading n e = e

    dropped_from_reader : (side : Side) (n : ℕ) → (dropped side it).reader.owner ≡ Host n → it.reader.owner ≡ Host n
    unfolding dropped
    dropped_from_reader Writing n e = e
    dropped_from_reader Reading n e = cc

    pub forsaken-only : OnlyAt s (WritesIt w s) (ReadsIt w s) w (with_stream_in u s left)
    forsaken-only =
        only-then s (WritesIt w s) (ReadsIt w s) w u (with_stream_in u s left)
        (only-set s (WritesIt w s) (ReadsIt w s) w guests (dropped side it))
        (only-back s (WritesIt w s) (ReadsIt w s) u left
        (λ n e. dropped_from side n (ap (λ (x : Stream). x.writer.owner) (sym here) ∙ e))
        (λ r e. dropped_from_reader side r (ap (λ (x : Stream). x.reader.owner) (sym here) ∙ e)))

    pub forsaken-long : length (with_stream_in u s left).state.streams ≡ length w.state.streams
    forsaken-long = back-length u s left ∙ length-set w.state.streams s (dropped side it)

  -- a host end is the other end of stream s
  abbrev pub IsHostAcross : ℕ → Side → Type 0
  IsHostAcross s side = is_host (end_of (opposite side) (stream_in w s)).owner ≡ true

  pub forsaking-drop : (side : Side) (end : NamedEnd) → first_of (on_end_reasons w.state side end Drop) ≡ None → IsHostAcross (stream_named (named w.state end)) side
      → Formed w h (OnEnd side end Drop) (forsakes (reacted w (on_end w.state side end Drop)) (stream_named (named w.state end)) side)
  forsaking-drop side end e host =
      let s = stream_named (named w.state end) in
      let fits = drop_fits w.state side end e in
      let found = found-on w h side end Drop (record { there = fits.there; found = fits.found; same = fits.same }) in
      let guests = (without_handle w.state end.guest end.handle).guests in
      named_one w h (OnEnd side end Drop) replies.Done _ s side (record {
        made = found.made;
        named = found.named replies.Done;
        free = λ k. refl;
        event = Drops side;
        code = None;
        is_event = refl;
        answers = refl;
        course = forsaken-course side s guests found.made host;
      })
      (record { only = forsaken-only side s guests found.made host; many = forsaken-long side s guests found.made host })

  pub forsaking-close : (s : ℕ) → refusal w.state (OnLoose s Close) ≡ None → is_host (stream_in w s).writer.owner ≡ true
      → Formed w h (OnLoose s Close) (forsakes (reacted w (performs w.state (OnLoose s Close))) s Reading)
  unfolding performs
  forsaking-close s e host =
      let made = loose_made w.state s (close_fits w.state s e) in
      loose_one w h s Close replies.Done _ (record {
        made = made;
        event = Drops Reading;
        unanswered = refl;
        is_event = refl;
        course = forsaken-course Reading s w.state.guests made host;
      })
      (record { only = forsaken-only Reading s w.state.guests made host; many = forsaken-long Reading s w.state.guests made host })

  -- ## A LOOSE READ END THAT GOES TO A HOST READER

  module _ (s r : ℕ) (e : refusal_in w (OnHost r (Pipe s)) ≡ None) where
    abbrev stream : Stream
    stream = stream_in w s

    abbrev kept_for : World
    kept_for = with_consumer w r (record no_consumer { duty = Serves s })

    abbrev pipe : Stream
    pipe = piped stream r

    abbrev after : World
    after = with_stream_in kept_for s pipe

    abbrev dry : World
    dry = with_stream_in after s (without_ends pipe)

    abbrev pipe_made : s < length w.state.streams
    pipe_made = loose_made w.state s (is_new_reader w r s e).loose

    after_made : s < length after.state.streams
    after_made = let long = back-length kept_for s pipe in omega (arith, pipe_made, long)

    here_after : stream_in after s ≡ pipe
    here_after = back-here kept_for s pipe pipe_made

    unread : is_host stream.reader.owner ≡ false
    unread = by stream.reader.owner (is_new_reader w r s e).loose
      where
        by : (o : Owner) → is_loose o ≡ true → is_host o ≡ false
        by Loose e = refl
        by (Held g handle) e = cc
        by (Host n) e = cc
        by Gone e = cc

    -- nothing comes any more
    dry-seen : (o : Owner) → stream.writer.owner ≡ o → is_no_more (holder_of o) || (is_a_host (holder_of o) && courses.is_dry (seen stream (held_for w o) (over_for w o))) ≡ is_dry kept_for o
    dry-seen (Host n) f =
        ap (λ ks. (producer_at w.state n).over && (length (ks ++ (writer_at w n).holds) == 0)) (nothing_kept w.state s n h.hosts f unread)
        ∙ ap (λ b. (producer_at w.state n).over && b) (none-held (writer_at w n).holds)
    dry-seen (Held g handle) f = refl
    dry-seen Loose f = refl
    dry-seen Gone f = refl

    ends-course : (d : Bool) → both_gone_if d (course_of s after) ≡ course_of s (cond d dry after)
    ends-course false = refl
    ends-course true =
        ap courses.both_gone (back-course kept_for s pipe pipe_made refl)
        ∙ sym (back-unhosted after s (without_ends pipe) after_made refl)

    pipe-course : course_by (Moves Reading AHost) (course_of s w) ≡ reaches None (course_of s (piped_by kept_for s r))
    unfolding course_by
    pipe-course =
        let held = held_for w stream.writer.owner in
        let over = over_for w stream.writer.owner in
        ap (reaches None)
        (ap (λ c. both_gone_if (is_no_more (holder_of stream.writer.owner) || (is_a_host (holder_of stream.writer.owner) && courses.is_dry (seen stream held over))) c) (piped-seen held over stream r)
        ∙ ap (λ b. both_gone_if b (seen pipe held over)) (dry-seen stream.writer.owner refl)
        ∙ ap (both_gone_if (is_dry kept_for stream.writer.owner)) (sym (back-course kept_for s pipe pipe_made refl))
        ∙ ends-course (is_dry kept_for stream.writer.owner))

    abbrev ToReader : ℕ → Type 0
    ToReader q = q ≡ r

    no_reads : (q : ℕ) → ReadsIt kept_for s q → ToReader q
    no_reads q f = absurd (let wrong : is_host (Host q) ≡ false = ap is_host (sym f) ∙ unread in cc)

    after-only : OnlyAt s (WritesIt w s) ToReader w after
    after-only =
        only-then s (WritesIt w s) ToReader w kept_for after
        (only-consumer s (WritesIt w s) ToReader w r refl (record no_consumer { duty = Serves s }))
        (only-back s (WritesIt w s) ToReader kept_for pipe (λ n f. f) no_reads)

    pipe-only : OnlyAt s (WritesIt w s) ToReader w (piped_by kept_for s r)
    pipe-only =
        cond_both (is_dry kept_for pipe.writer.owner) dry after (OnlyAt s (WritesIt w s) ToReader w)
        (λ d. only-then s (WritesIt w s) ToReader w after dry after-only
        (only-back s (WritesIt w s) ToReader after (without_ends pipe)
        (λ n f. ap (λ (x : Stream). x.writer.owner) (sym here_after) ∙ f)
        (λ q f. let same : Host r ≡ Host q = ap (λ (x : Stream). x.reader.owner) (sym here_after) ∙ f in cc)))
        (λ d. after-only)

    pipe-long : length (piped_by kept_for s r).state.streams ≡ length w.state.streams
    pipe-long =
        cond_both (is_dry kept_for pipe.writer.owner) dry after (λ x. length x.state.streams ≡ length w.state.streams)
        (λ d. back-length after s (without_ends pipe) ∙ back-length kept_for s pipe)
        (λ d. back-length kept_for s pipe)

    pub piped-happening : Happening (moment_at w (Acts (OnHost r (Pipe s))) replies.Done (piped_by kept_for s r))
    piped-happening =
        let v = piped_by kept_for s r in
        let m = moment_at w (Acts (OnHost r (Pipe s))) replies.Done v in
        ToOne s pipe_made
        (record {
          event = Moves Reading AHost;
          code = None;
          events = ap (λ b. cond b (Moves Reading AHost ∷ []) []) (eq-eqb s s refl);
          answers = refl;
          course = pipe-course;
        })
        (λ k ne. (
          silent-of k m (λ side. refl) (ap (λ b. cond b (Moves Reading AHost ∷ []) []) (ne_eqb s k (λ f. ne (sym f)))) (λ side. refl),
          stays-only s k (WritesIt w s) ToReader w v pipe-only ne
              (λ n o f. ne (served_once Writing w.state s k n h.hosts f o))
              (λ q o f. unused_serves (consumer_at w.state r).duty k (is_new_reader w r s e).unused (ap (λ j. (consumer_at w.state j).duty) (sym f) ∙ (h.hosts.serve Reading q k).serves o)),
        ))
        pipe-long
