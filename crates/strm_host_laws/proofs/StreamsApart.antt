-- Every moment of a run is nothing to a stream, or one event of it that leads where its course leads, or makes it.
use Rattle.std.proofs.Common.{◌≡◌, ℕ, ◌<◌, Bool, true, false, cond, List, [], ◌∷◌, length, map, set, Option, Some, None, refl, sym, ap, subst, ◌∙◌, arith}
use Rattle.std.specs.Option.{option_map}
use Rattle.std.proofs.lemmas.Bool.{cond_both, ne_eqb, eq-eqb}
use Rattle.strm_codes.specs.declared.codes.ReturnCode.{ReturnCode}
use Rattle.strm_codes.specs.declared.codes.ReturnCode.TheVariants as codes
use Rattle.strm_codes.specs.declared.refusals.Refusal.{Refusal}
use Rattle.strm_machine.specs.State.{kept_at, is_host}
use Rattle.strm_machine.specs.Sides.{opposite, end_of, with_operation}
use Rattle.strm_machine.specs.Endings.{report_on, delivered}
use Rattle.strm_machine.specs.Tests.{items_asked}
use Rattle.strm_machine.specs.Refusals.{first_of, on_end_reasons, refusal}
use Rattle.strm_machine.specs.Reactions.{on_end, performs}
use Rattle.strm_machine.specs.declared.acts.Act.{Act}
use Rattle.strm_machine.specs.declared.acts.Act.TheVariants.{Make, OnEnd, Transfer, OnLoose, OnHost, Drive, Event, OnSet, OnContext, OnMemory}
use Rattle.strm_machine.specs.declared.acts.EndAct.{EndAct}
use Rattle.strm_machine.specs.declared.acts.EndAct.TheVariants.{Operate, Cancel, Drop, Lift}
use Rattle.strm_machine.specs.declared.acts.HostAct.{HostAct}
use Rattle.strm_machine.specs.declared.acts.HostAct.TheVariants.{New, Feed, Pipe, Grant}
use Rattle.strm_machine.specs.declared.acts.LooseAct.TheVariants.{Lower, Close}
use Rattle.strm_machine.specs.declared.acts.NamedEnd.{NamedEnd}
use Rattle.strm_machine.specs.declared.replies.Reply.{Reply}
use Rattle.strm_machine.specs.declared.replies.Reply.TheVariants as replies
use Rattle.strm_machine.specs.declared.streams.Operation.{Operation}
use Rattle.strm_machine.specs.declared.streams.Owner.{Owner}
use Rattle.strm_machine.specs.declared.streams.Owner.TheVariants.{Held, Loose, Host, Gone}
use Rattle.strm_machine.specs.declared.streams.Side.{Side}
use Rattle.strm_machine.specs.declared.streams.Side.TheVariants.{Writing, Reading}
use Rattle.strm_machine.specs.declared.streams.Stream.{Stream}
use Rattle.strm_machine.proofs.HostLemmas.{serving_known}
use Rattle.strm_machine.proofs.ReactionLemmas.{refusal-on_end, reaction-performs, performs-on_end}
use Rattle.strm_machine.proofs.ShapeLemmas.{operate-fits}
use Rattle.strm_machine.proofs.Shapes.{Operates}
use Rattle.strm_machine.proofs.TableLemmas.{OwnersStay}
use Rattle.strm_host_machine.specs.Attaching.{hosts_new, pipes, forsakes}
use Rattle.strm_host_machine.specs.ReaderTurn.{reader_turn}
use Rattle.strm_host_machine.specs.Courses.{Course, AHost, Calls, Turns, Reached, reaches, hears, answers_then, code_or_blocked, called_by, after_turn_across, with_progress, begins, course_by, report_at}
use Rattle.strm_host_machine.specs.Courses as courses
use Rattle.strm_host_machine.specs.Driving.{if_open, driven_by, drive_turn}
use Rattle.strm_host_machine.specs.HostRefusals.{refusal_in}
use Rattle.strm_host_machine.specs.Outcomes.{Outcome, Goes, Stops, Stuck, then_on, reacted}
use Rattle.strm_host_machine.specs.Piping.{pipe_round}
use Rattle.strm_host_machine.specs.WriterTurn.{writer_turn}
use Rattle.strm_host_machine.specs.Settling.{answered_with, turn_answered}
use Rattle.strm_host_machine.specs.Steps.{reacts, reads_from, writes_to, operates_by, drops_in, on_host, performs_in, unless_refused_in, outcome}
use Rattle.strm_host_machine.specs.World.{World, stream_in, writer_at, reader_at, with_stream_in}
use Rattle.strm_host_machine.proofs.OutcomeLemmas.{refusal_in-on_end}
use Rattle.strm_host_machine.proofs.SettleLemmas.{delivered-owners}
use Rattle.strm_host_machine.proofs.TouchLemmas.{names_none, refusal-none}
use Rattle.strm_buffers.specs.Listing.{Item}
use Rattle.strm_buffers.specs.declared.answers.ReaderSaid.{ReaderSaid}
use Rattle.strm_host_laws.specs.HostLaws.{used_records}
use Rattle.strm_host_laws.specs.HostMoments.{Part, Acts, Turns as TurnsOf, HostMoment, part_on}
use Rattle.strm_host_laws.specs.StreamEvents.{poll_of_record, poll_of_reader, polls_by_writer, polls_by_reader, produced_polls, taken_polls, polls_across}
use Rattle.strm_host_laws.proofs.Tracing.{holder_of, progress_of, held_for, over_for, course_of}
use Rattle.strm_host_laws.proofs.Chains.{is_part}
use Rattle.strm_host_laws.proofs.Closed.{Stands}
use Rattle.strm_host_laws.proofs.CourseLemmas.{report-seen, delivered-seen, opened-seen, unheard}
use Rattle.strm_host_laws.proofs.Forms.{called, stream_of}
use Rattle.strm_host_laws.proofs.GoingRules.{with_state, with_stream_in-same, IfGoes}
use Rattle.strm_host_laws.proofs.TurnsStand.{Holds, nothing_kept}
use Rattle.strm_host_laws.proofs.WrittenBack.{back-here, back-coming, back-told, back-length}
use Rattle.strm_host_laws.proofs.Apart.{OnlyAt, WritesIt, ReadsIt, only-same, only-fewer, only-then, only-set, only-back, stays-apart}
use Rattle.strm_host_laws.proofs.Happenings.{moment_at, silent-of, Happening, ToOne}
use Rattle.strm_host_laws.proofs.SingleSteps.{holder-across, refused-happening, ChangesOne, Formed, named_one, reacts-formed, called-formed, cancel-formed, lift-formed, drop-formed, transfer-formed, event-formed, lower-formed, close-formed}
use Rattle.strm_host_laws.proofs.RestSteps.{rest-formed}
use Rattle.strm_host_laws.proofs.HostSteps.{back-course, fed-happening, granted-happening, hosted-happening, forsaking-drop, forsaking-close, piped-happening}
use Rattle.strm_host_laws.proofs.TurnCourses.{polls_used, Leads, writer-leads, reader-leads}
use Rattle.strm_host_laws.proofs.PipeCourses.{Rounds, round-so}

-- ## Records of a call

-- what is done to the stream itself uses no record
module _ (s : ℕ) where
  polls_from : (side : Side) (n : ℕ) (a b : World) (x : Stream) → polls_used side n (with_stream_in a s x) b ≡ polls_used side n a b
  polls_from Reading n a b x = ap (λ xs. map poll_of_record (used_records xs (writer_at b n).coming)) (back-coming a s x n)
  polls_from Writing r a b x = ap (λ (q : Option (List Item) × List ReaderSaid). map poll_of_reader (used_records q.1 (reader_at b r).coming)) (back-told a s x r)

  polls_to : (side : Side) (n : ℕ) (a b : World) (x : Stream) → polls_used side n a (with_stream_in b s x) ≡ polls_used side n a b
  polls_to Reading n a b x = ap (λ xs. map poll_of_record (used_records (writer_at a n).coming xs)) (back-coming b s x n)
  polls_to Writing r a b x = ap (λ (q : Option (List Item) × List ReaderSaid). map poll_of_reader (used_records (reader_at a r).coming q.1)) (back-told b s x r)

across-polls : (side : Side) (s n : ℕ) (m : HostMoment) → (end_of (opposite side) (stream_in m.before s)).owner ≡ Host n → polls_across s side m ≡ polls_used side n m.before m.after
across-polls Reading s n m e = ap (polls_by_writer m) e
across-polls Writing s n m e = ap (polls_by_reader m) e

opened-owners : (side : Side) (stream : Stream) (operation : Operation) → OwnersStay stream (with_operation side stream operation)
opened-owners Writing stream operation = record { writer = refl; reader = refl }
opened-owners Reading stream operation = record { writer = refl; reader = refl }

module _ (first w : World) (h : Holds w.state) (stands : Stands first w) where
  -- what comes of a part is something to streams
  abbrev FormedBy : Part → Outcome → Type 0
  FormedBy part o = IfGoes o (λ reply v. Happening (moment_at w part reply v))

  -- ## A TURN IN A DRIVE ROUND

  -- by what its owners are, the stream's course goes on so
  abbrev DrivenSo : ℕ → Owner → Owner → Reply → World → Type 0
  DrivenSo s writer reader reply v =
      courses.driven_by (holder_of writer) (holder_of reader) (course_of s w) (polls_by_writer (moment_at w (TurnsOf s) reply v) writer) (polls_by_reader (moment_at w (TurnsOf s) reply v) reader) ≡ course_of s v

  turned-happening : (s : ℕ) (reply : Reply) (v : World) → s < length w.state.streams → DrivenSo s (stream_in w s).writer.owner (stream_in w s).reader.owner reply v → ChangesOne w v s → Happening (moment_at w (TurnsOf s) reply v)
  unfolding course_by
  turned-happening s reply v made c changes =
      let m = moment_at w (TurnsOf s) reply v in
      ToOne s made
      (record {
        event = Turns (produced_polls s m) (taken_polls s m);
        code = None;
        events = ap (λ b. cond b (Turns (produced_polls s m) (taken_polls s m) ∷ []) []) (eq-eqb s s refl);
        answers = refl;
        course = ap (reaches None) c;
      })
      (λ k ne. (
        silent-of k m (λ side. refl) (ap (λ b. cond b (Turns (produced_polls k m) (taken_polls k m) ∷ []) []) (ne_eqb s k (λ e. ne (sym e)))) (λ side. refl),
        stays-apart s k w v h.hosts changes.only ne,
      ))
      changes.many

  unchanged : (s : ℕ) → ChangesOne w w s
  unchanged s = record { only = only-same s (WritesIt w s) (ReadsIt w s) w; many = refl }

  module _ (s : ℕ) (made : s < length w.state.streams) where
    abbrev it : Stream
    it = stream_in w s

    -- its owners are these
    record AreOwners (writer reader : Owner) : Type 0 where
      wrote : it.writer.owner ≡ writer
      read : it.reader.owner ≡ reader

    driven-so : (writer reader : Owner) (reply : Reply) (v : World) → AreOwners writer reader → DrivenSo s writer reader reply v → ChangesOne w v s → Happening (moment_at w (TurnsOf s) reply v)
    driven-so writer reader reply v o c changes =
        turned-happening s reply v made
        (subst (λ x. DrivenSo s x it.reader.owner reply v) (sym o.wrote) (subst (λ x. DrivenSo s writer x reply v) (sym o.read) c)) changes

    -- of a host writer, for a guest's read
    module _ (n : ℕ) (reader : Owner) (u : is_host reader ≡ false) (owners : AreOwners (Host n) reader) where
      read-drives : (o : Option Operation) → it.reader.operation ≡ o → (reply : Reply) (v : World)
          → courses.if_open Reading (course_of s w) (option_map progress_of o) (polls_used Reading n w v) ≡ course_of s v → DrivenSo s (Host n) reader reply v
      read-drives o g reply v c = by reader u
        where
          same : courses.if_open Reading (course_of s w) (option_map progress_of it.reader.operation) (polls_used Reading n w v) ≡ course_of s v
          same = ap (λ x. courses.if_open Reading (course_of s w) (option_map progress_of x) (polls_used Reading n w v)) g ∙ c

          by : (reader : Owner) → is_host reader ≡ false → DrivenSo s (Host n) reader reply v
          by (Host r) u = cc
          by (Held k handle) u = same
          by Loose u = same
          by Gone u = same

      open-read : (o : Option Operation) → it.reader.operation ≡ o → FormedBy (TurnsOf s) (if_open w o (writer_turn w s n))
      open-read None g = driven-so (Host n) reader replies.Done w owners (read-drives None g replies.Done w refl) (unchanged s)
      open-read (Some read) g =
          let there = stands.there s n owners.wrote in
          let small = there.known in
          let all = h.hosts.all in
          let unkept = nothing_kept w.state s n h.hosts owners.wrote (ap is_host owners.read ∙ u) in
          cond_both read.is_open _ _ (FormedBy (TurnsOf s))
          (λ b. turned b (writer_turn w s n read) (writer-leads w s n read made owners.wrote there.there (omega (arith, small, all)) unkept))
          (λ b. driven-so (Host n) reader replies.Done w owners (read-drives (Some read) g replies.Done w (ap (λ x. cond x (courses.after_turn_across Reading (course_of s w) (progress_of read) (polls_used Reading n w w)) (course_of s w)) b)) (unchanged s))
        where
          turned : read.is_open ≡ true → (o : Outcome) → IfGoes o (λ reply v. Leads Reading w s n read v) → FormedBy (TurnsOf s) o
          turned b (Goes reply v) l =
              driven-so (Host n) reader reply v owners
              (read-drives (Some read) g reply v (ap (λ x. cond x (courses.after_turn_across Reading (course_of s w) (progress_of read) (polls_used Reading n w v)) (course_of s w)) b ∙ l.course))
              (record { only = l.only; many = l.many })
          turned b (Stops stop writers readers) l = tt
          turned b Stuck l = tt

    -- of a host reader, for a guest's write
    module _ (r : ℕ) (writer : Owner) (u : is_host writer ≡ false) (owners : AreOwners writer (Host r)) where
      write-drives : (o : Option Operation) → it.writer.operation ≡ o → (reply : Reply) (v : World)
          → courses.if_open Writing (course_of s w) (option_map progress_of o) (polls_used Writing r w v) ≡ course_of s v → DrivenSo s writer (Host r) reply v
      write-drives o g reply v c = by writer u
        where
          same : courses.if_open Writing (course_of s w) (option_map progress_of it.writer.operation) (polls_used Writing r w v) ≡ course_of s v
          same = ap (λ x. courses.if_open Writing (course_of s w) (option_map progress_of x) (polls_used Writing r w v)) g ∙ c

          by : (writer : Owner) → is_host writer ≡ false → DrivenSo s writer (Host r) reply v
          by (Host n) u = cc
          by (Held k handle) u = same
          by Loose u = same
          by Gone u = same

      open-write : (o : Option Operation) → it.writer.operation ≡ o → FormedBy (TurnsOf s) (if_open w o (reader_turn w s r))
      open-write None g = driven-so writer (Host r) replies.Done w owners (write-drives None g replies.Done w refl) (unchanged s)
      open-write (Some write) g =
          cond_both write.is_open _ _ (FormedBy (TurnsOf s))
          (λ b. turned b (reader_turn w s r write) (reader-leads w s r write made owners.read))
          (λ b. driven-so writer (Host r) replies.Done w owners (write-drives (Some write) g replies.Done w (ap (λ x. cond x (courses.after_turn_across Writing (course_of s w) (progress_of write) (polls_used Writing r w w)) (course_of s w)) b)) (unchanged s))
        where
          turned : write.is_open ≡ true → (o : Outcome) → IfGoes o (λ reply v. Leads Writing w s r write v) → FormedBy (TurnsOf s) o
          turned b (Goes reply v) l =
              driven-so writer (Host r) reply v owners
              (write-drives (Some write) g reply v (ap (λ x. cond x (courses.after_turn_across Writing (course_of s w) (progress_of write) (polls_used Writing r w v)) (course_of s w)) b ∙ l.course))
              (record { only = l.only; many = l.many })
          turned b (Stops stop writers readers) l = tt
          turned b Stuck l = tt

    -- of a pipe
    round-formed : (n r : ℕ) → AreOwners (Host n) (Host r) → FormedBy (TurnsOf s) (pipe_round w s n r)
    round-formed n r owners =
        let there = stands.there s n owners.wrote in
        let small = there.known in
        let small_reader = serving_known w.state Reading r s h.hosts ((h.hosts.serve Reading r s).serves owners.read) in
        let all = h.hosts.all in
        let all_kept = h.hosts.all_kept in
        let all_readers = h.hosts.all_readers in
        by (pipe_round w s n r) (round-so s n r w (record {
          ends = record { made = made; wrote = owners.wrote; read = owners.read };
          known = omega (arith, small, all);
          kept = omega (arith, small, all_kept);
          there = there.there;
          known_reader = omega (arith, small_reader, all_readers);
        }))
      where
        by : (o : Outcome) → IfGoes o (λ reply v. Rounds s n r w v) → FormedBy (TurnsOf s) o
        by (Goes reply v) x =
            driven-so (Host n) (Host r) reply v owners x.course (record {
              only = only-fewer s (λ m. m ≡ n) (λ q. q ≡ r) (WritesIt w s) (ReadsIt w s) w v (λ m g. owners.wrote ∙ ap Host (sym g)) (λ q g. owners.read ∙ ap Host (sym g)) x.only;
              many = x.many;
            })
        by (Stops stop writers readers) x = tt
        by Stuck x = tt

    still : (writer reader : Owner) → is_host writer ≡ false → is_host reader ≡ false → (reply : Reply) → DrivenSo s writer reader reply w
    still (Host n) reader a b reply = cc
    still (Held g handle) (Host r) a b reply = cc
    still Loose (Host r) a b reply = cc
    still Gone (Host r) a b reply = cc
    still (Held g handle) (Held k i) a b reply = refl
    still (Held g handle) Loose a b reply = refl
    still (Held g handle) Gone a b reply = refl
    still Loose (Held k i) a b reply = refl
    still Loose Loose a b reply = refl
    still Loose Gone a b reply = refl
    still Gone (Held k i) a b reply = refl
    still Gone Loose a b reply = refl
    still Gone Gone a b reply = refl

    driven-formed : (writer reader : Owner) → AreOwners writer reader → FormedBy (TurnsOf s) (driven_by w s it writer reader)
    driven-formed (Host n) (Host r) o = round-formed n r o
    driven-formed (Host n) (Held g handle) o = open-read n (Held g handle) refl o it.reader.operation refl
    driven-formed (Host n) Loose o = open-read n Loose refl o it.reader.operation refl
    driven-formed (Host n) Gone o = open-read n Gone refl o it.reader.operation refl
    driven-formed (Held g handle) (Host r) o = open-write r (Held g handle) refl o it.writer.operation refl
    driven-formed Loose (Host r) o = open-write r Loose refl o it.writer.operation refl
    driven-formed Gone (Host r) o = open-write r Gone refl o it.writer.operation refl
    driven-formed writer reader o = driven-so writer reader replies.Done w o (still writer reader refl refl replies.Done) (unchanged s)

    drive-formed : FormedBy (TurnsOf s) (drive_turn w s)
    unfolding drive_turn
    drive-formed = driven-formed it.writer.owner it.reader.owner (record { wrote = refl; read = refl })

  -- ## A READ OR WRITE FOR WHICH A HOST END HAS ITS TURN

  module _ (side : Side) (end : NamedEnd) (address count n : ℕ) (o : Operates w.state side end address count) (host : (end_of (opposite side) (stream_in w (stream_of w end))).owner ≡ Host n) where
    abbrev here : ℕ
    here = stream_of w end

    abbrev stream : Stream
    stream = stream_in w here

    abbrev calling : Act
    calling = OnEnd side end (Operate address count)

    abbrev operation : Operation
    operation = called end address count

    abbrev x : Stream
    x = with_operation side stream operation

    abbrev open_world : World
    open_world = with_stream_in w here x

    call_made : here < length w.state.streams
    call_made = o.found.made

    abbrev held : ℕ
    held = held_for w stream.writer.owner

    abbrev over : Bool
    over = over_for w stream.writer.owner

    open_here : stream_in open_world here ≡ x
    open_here = back-here w here x call_made

    open_made : here < length open_world.state.streams
    open_made = let long = back-length w here x in let made = call_made in omega (arith, made, long)

    open-course : with_progress side (course_of here w) (progress_of operation) ≡ course_of here open_world
    open-course =
        opened-seen held over side stream operation
        ∙ sym (back-course w here x call_made (opened-owners side stream operation).writer)

    open-only : OnlyAt here (WritesIt w here) (ReadsIt w here) w open_world
    open-only = only-back here (WritesIt w here) (ReadsIt w here) w x (λ m e. e) (λ r e. e)

    -- once it had it
    module _ (mid : World) (l : Leads side open_world here n operation mid) where
      mid_made : here < length mid.state.streams
      mid_made = let many = l.many in let made = open_made in omega (arith, made, many)

      mid-only : OnlyAt here (WritesIt w here) (ReadsIt w here) w mid
      mid-only =
          only-then here (WritesIt w here) (ReadsIt w here) w open_world mid open-only
          (only-fewer here (WritesIt open_world here) (ReadsIt open_world here) (WritesIt w here) (ReadsIt w here) open_world mid
          (λ m e. sym (opened-owners side stream operation).writer ∙ ap (λ (y : Stream). y.writer.owner) (sym open_here) ∙ e)
          (λ r e. sym (opened-owners side stream operation).reader ∙ ap (λ (y : Stream). y.reader.owner) (sym open_here) ∙ e)
          l.only)

      -- the course until then
      mid-course : (polls : List courses.CoursePoll) → polls ≡ polls_used side n open_world mid → course_by (Calls side (items_asked end.ty count) polls) (course_of here w) ≡ answers_then side (course_of here mid)
      unfolding course_by
      mid-course polls e =
          ap (λ k. called_by k side (course_of here w) (items_asked end.ty count) polls) (holder-across side stream held over ∙ ap holder_of host)
          ∙ ap (λ c. answers_then side (after_turn_across side c (progress_of operation) polls)) open-course
          ∙ ap (λ ps. answers_then side (after_turn_across side (course_of here open_world) (progress_of operation) ps)) e
          ∙ ap (answers_then side) l.course

      -- its report
      mid-report : report_at side (course_of here mid) ≡ report_on side (stream_in mid here)
      mid-report = report-seen (held_for mid (stream_in mid here).writer.owner) (over_for mid (stream_in mid here).writer.owner) side (stream_in mid here)

      call-one : (code : ReturnCode) (v : World) → polls_used side n w v ≡ polls_used side n open_world mid → answers_then side (course_of here mid) ≡ reaches (Some code) (course_of here v)
          → ChangesOne w v here → Happening (moment_at w (Acts calling) (replies.Code code) v)
      call-one code v polls c changes =
          let m = moment_at w (Acts calling) (replies.Code code) v in
          named_one w h calling (replies.Code code) v here side (record {
            made = call_made;
            named = o.found.named (replies.Code code);
            free = λ k. refl;
            event = Calls side (items_asked end.ty count) (polls_across here side m);
            code = Some code;
            is_event = refl;
            answers = refl;
            course = mid-course (polls_across here side m) (across-polls side here n m host ∙ polls) ∙ c;
          })
          changes

      mid_long : length mid.state.streams ≡ length w.state.streams
      mid_long = l.many ∙ back-length w here x

      same-polls : polls_used side n w mid ≡ polls_used side n open_world mid
      same-polls = sym (polls_from here side n w mid x)

      answers-formed : (report : Option ReturnCode) → report_on side (stream_in mid here) ≡ report → FormedBy (Acts calling) (answered_with mid here side report)
      answers-formed None e =
          call-one codes.Blocked mid same-polls
          (ap (λ r. reaches (Some (code_or_blocked r)) (hears side (course_of here mid)).course) (mid-report ∙ e)
          ∙ ap (reaches (Some codes.Blocked)) (unheard side (course_of here mid) (mid-report ∙ e)))
          (record { only = mid-only; many = mid_long })
      answers-formed (Some code) e =
          let y = delivered side (stream_in mid here) in
          let v = with_stream_in mid here y in
          let owner = (stream_in mid here).writer.owner in
          call-one code v (polls_to here side n w mid y ∙ same-polls)
          (ap (λ r. reaches (Some (code_or_blocked r)) (hears side (course_of here mid)).course) (mid-report ∙ e)
          ∙ ap (reaches (Some code))
          (ap (λ (q : Reached). q.course) (delivered-seen (held_for mid owner) (over_for mid owner) side (stream_in mid here))
          ∙ sym (back-course mid here y mid_made (delivered-owners side (stream_in mid here)).writer)))
          (record {
            only =
                only-then here (WritesIt w here) (ReadsIt w here) w mid v mid-only
                (subst (OnlyAt here (WritesIt w here) (ReadsIt w here) mid) (sym (with_stream_in-same mid here y (delivered-owners side (stream_in mid here))))
                (only-set here (WritesIt w here) (ReadsIt w here) mid mid.state.guests y));
            many = back-length mid here y ∙ mid_long;
          })

    then-formed : (u : Outcome) → IfGoes u (λ reply mid. Leads side open_world here n operation mid) → FormedBy (Acts calling) (then_on u (λ after. turn_answered after here side))
    then-formed (Goes reply mid) l = answers-formed mid l (report_on side (stream_in mid here)) refl
    then-formed (Stops stop writers readers) l = tt
    then-formed Stuck l = tt

    open_same : open_world ≡ with_state w (record w.state { streams = set w.state.streams here x })
    open_same = with_stream_in-same w here x (opened-owners side stream operation)

  -- a read or write of an end, whose other end's owner is this one
  abbrev call : Side → NamedEnd → ℕ → ℕ → Part
  call side end address count = Acts (OnEnd side end (Operate address count))

  abbrev AcrossIs : Side → NamedEnd → Owner → Type 0
  AcrossIs side end owner = (end_of (opposite side) (stream_in w (stream_of w end))).owner ≡ owner

  reads-formed : (end : NamedEnd) (address count n : ℕ) → Operates w.state Reading end address count → AcrossIs Reading end (Host n)
      → FormedBy (call Reading end address count) (reads_from w (stream_of w end) n (called end address count))
  reads-formed end address count n o host =
      let s = stream_of w end in
      let u = open_world Reading end address count n o host in
      let read = called end address count in
      let same = open_same Reading end address count n o host in
      let there = stands.there s n host in
      let small = there.known in
      let all = h.hosts.all in
      let guest = ap is_host (h.held.agree.named end.guest end.handle s Reading o.found.held) in
      then-formed Reading end address count n o host (writer_turn u s n read)
      (writer-leads u s n read (open_made Reading end address count n o host)
      (ap (λ (y : Stream). y.writer.owner) (open_here Reading end address count n o host) ∙ host)
      (subst (λ (y : World). n < length y.writers) (sym same) there.there)
      (subst (λ (y : World). n < length y.state.producers) (sym same) (omega (arith, small, all)))
      (ap (λ (y : World). kept_at y.state n) same ∙ nothing_kept w.state s n h.hosts host guest))

  writes-formed : (end : NamedEnd) (address count r : ℕ) → Operates w.state Writing end address count → AcrossIs Writing end (Host r)
      → FormedBy (call Writing end address count) (writes_to w (stream_of w end) r (called end address count))
  writes-formed end address count r o host =
      let s = stream_of w end in
      let u = open_world Writing end address count r o host in
      then-formed Writing end address count r o host (reader_turn u s r (called end address count))
      (reader-leads u s r (called end address count) (open_made Writing end address count r o host)
      (ap (λ (y : Stream). y.reader.owner) (open_here Writing end address count r o host) ∙ host))

  -- ## A STEP

  module _ (t : w.state.trapped ≡ false) where
    unrefused : (act : Act) → names_none act ≡ true → refusal_in w act ≡ None → refusal w.state act ≡ None
    unrefused act n e = sym (refusal-none w act n) ∙ e

    on_end-unrefused : (side : Side) (end : NamedEnd) (act : EndAct) → refusal_in w (OnEnd side end act) ≡ None → first_of (on_end_reasons w.state side end act) ≡ None
    on_end-unrefused side end act e = sym (refusal-on_end w.state side end act) ∙ unrefused (OnEnd side end act) refl e

    -- an act at an end, by what it performs
    end-formed : (side : Side) (end : NamedEnd) (act : EndAct) → first_of (on_end_reasons w.state side end act) ≡ None → Formed w h (OnEnd side end act) (reacted w (on_end w.state side end act)) → FormedBy (Acts (OnEnd side end act)) (reacts w (OnEnd side end act))
    end-formed side end act e f =
        reacts-formed w h (OnEnd side end act) t (refusal-on_end w.state side end act ∙ e)
        (subst (λ r. Formed w h (OnEnd side end act) (reacted w r)) (sym (performs-on_end w.state side end act)) f)

    -- nothing refuses a read or write
    abbrev Unrefused : Side → NamedEnd → ℕ → ℕ → Type 0
    Unrefused side end address count = first_of (on_end_reasons w.state side end (Operate address count)) ≡ None

    operates-formed : (side : Side) (end : NamedEnd) (address count : ℕ) → Unrefused side end address count → (owner : Owner) → AcrossIs side end owner
        → FormedBy (call side end address count) (operates_by w side end address count owner)
    operates-formed Reading end address count e (Host n) host = reads-formed end address count n (operate-fits w.state Reading end address count h.sound e) host
    operates-formed Writing end address count e (Host r) host = writes-formed end address count r (operate-fits w.state Writing end address count h.sound e) host
    operates-formed side end address count e _ f = end-formed side end (Operate address count) e (called-formed w h side end address count e (ap is_host f))

    -- a host end is the other end of stream s
    abbrev is_forsaken : ℕ → Side → Bool
    is_forsaken s side = is_host (end_of (opposite side) (stream_in w s)).owner

    abbrev performed : Act → Outcome
    performed act = reacted w (performs w.state act)

    drops-formed : (act : Act) (s : ℕ) (side : Side) → refusal w.state act ≡ None → (is_forsaken s side ≡ true → Formed w h act (forsakes (performed act) s side))
        → (is_forsaken s side ≡ false → Formed w h act (performed act)) → FormedBy (Acts act) (drops_in w s side act)
    drops-formed act s side e f g =
        cond_both (is_host (end_of (opposite side) (stream_in w s)).owner) _ _ (FormedBy (Acts act))
        (λ host. subst (λ r. FormedBy (Acts act) (forsakes (reacted w r) s side)) (sym (reaction-performs w.state act t e)) (f host))
        (λ alone. reacts-formed w h act t e (g alone))

    on_host-formed : (n : ℕ) (act : HostAct) → refusal_in w (OnHost n act) ≡ None → FormedBy (Acts (OnHost n act)) (on_host w n act)
    unfolding hosts_new pipes
    on_host-formed n New e = hosted-happening w h n e
    on_host-formed n (Feed bytes) e = fed-happening w h n bytes
    on_host-formed r (Pipe s) e = piped-happening w h s r e
    on_host-formed r (Grant count) e = granted-happening w h r count

    performs-formed : (act : Act) → is_part (Acts act) ≡ true → refusal_in w act ≡ None → FormedBy (Acts act) (performs_in w act)
    unfolding performs_in
    performs-formed (OnEnd side end (Operate address count)) p e =
        operates-formed side end address count (on_end-unrefused side end (Operate address count) e) (end_of (opposite side) (stream_in w (stream_of w end))).owner refl
    performs-formed (OnEnd side end Drop) p e =
        let f = on_end-unrefused side end Drop e in
        drops-formed (OnEnd side end Drop) (stream_of w end) side (sym (refusal_in-on_end w side end Drop) ∙ e)
        (λ host. subst (λ r. Formed w h (OnEnd side end Drop) (forsakes (reacted w r) (stream_of w end) side)) (sym (performs-on_end w.state side end Drop)) (forsaking-drop w h side end f host))
        (λ alone. subst (λ r. Formed w h (OnEnd side end Drop) (reacted w r)) (sym (performs-on_end w.state side end Drop)) (drop-formed w h side end f alone))
    performs-formed (OnEnd side end Cancel) p e = let f = on_end-unrefused side end Cancel e in end-formed side end Cancel f (cancel-formed w h side end f)
    performs-formed (OnEnd side end Lift) p e = let f = on_end-unrefused side end Lift e in end-formed side end Lift f (lift-formed w h side end f)
    performs-formed (Transfer end to) p e = let f = unrefused (Transfer end to) refl e in reacts-formed w h (Transfer end to) t f (transfer-formed w h end to f)
    performs-formed (OnLoose s (Lower g ty)) p e = let f = unrefused (OnLoose s (Lower g ty)) refl e in reacts-formed w h (OnLoose s (Lower g ty)) t f (lower-formed w h s g ty f)
    performs-formed (OnLoose s Close) p e =
        let f = unrefused (OnLoose s Close) refl e in
        drops-formed (OnLoose s Close) s Reading f (λ host. forsaking-close w h s f host) (λ alone. close-formed w h s f alone)
    performs-formed (OnHost n act) p e = on_host-formed n act e
    performs-formed Drive p e = cc
    performs-formed (Event g handle) p e = let f = unrefused (Event g handle) refl e in reacts-formed w h (Event g handle) t f (event-formed w h g handle f)
    performs-formed (Make making) p e = reacts-formed w h (Make making) t (unrefused (Make making) refl e) (rest-formed w h (Make making) refl)
    performs-formed (OnSet g set act) p e = reacts-formed w h (OnSet g set act) t (unrefused (OnSet g set act) refl e) (rest-formed w h (OnSet g set act) refl)
    performs-formed (OnContext g handle act) p e = reacts-formed w h (OnContext g handle act) t (unrefused (OnContext g handle act) refl e) (rest-formed w h (OnContext g handle act) refl)
    performs-formed (OnMemory g act) p e = reacts-formed w h (OnMemory g act) t (unrefused (OnMemory g act) refl e) (rest-formed w h (OnMemory g act) refl)

    unless-formed : (act : Act) (o : Option Refusal) → is_part (Acts act) ≡ true → refusal_in w act ≡ o → FormedBy (Acts act) (unless_refused_in w act o)
    unless-formed act (Some r) p e = refused-happening w act r
    unless-formed act None p e = performs-formed act p e

  outcome-formed : (act : Act) → is_part (Acts act) ≡ true → FormedBy (Acts act) (outcome w act)
  unfolding outcome
  outcome-formed act p =
      cond_both w.state.trapped _ _ (FormedBy (Acts act)) (λ t. tt) (λ t. unless-formed t act (refusal_in w act) p refl)

  -- a turn is of a stream that was made
  abbrev pub IsMadePart : Part → Type 0
  IsMadePart (Acts act) = Unit {0}
  IsMadePart (TurnsOf s) = s < length w.state.streams

  pub part-happens : (part : Part) → is_part part ≡ true → IsMadePart part → FormedBy part (part_on w part)
  part-happens (Acts act) p l = outcome-formed act p
  part-happens (TurnsOf s) p l = drive-formed s l
