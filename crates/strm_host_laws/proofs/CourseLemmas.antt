-- What a read, a write, a delivery, a cancel, a drop or a move of an end does to a stream of the machine is
-- what its course says.
use Rattle.std.proofs.Common.{◌≡◌, ℕ, ◌==◌, Bool, true, false, cond, not, ◌&&◌, List, min, is_some, Option, Some, None, refl, sym, ap, ◌∙◌}
use Rattle.std.specs.Option.{option_map}
use Rattle.std.specs.Prelude.{IsTrue}
use Rattle.strm_codes.specs.declared.codes.ReturnCode.{ReturnCode}
use Rattle.strm_codes.specs.declared.codes.ReturnCode.TheVariants as codes
use Rattle.strm_codes.specs.declared.codes.StreamResult.{StreamResult}
use Rattle.strm_codes.specs.declared.codes.StreamResult.TheVariants as results
use Rattle.strm_events.specs.Reports.{report_of, left_pending, cancel_answer}
use Rattle.strm_machine.specs.State.{Guest, is_gone, is_host}
use Rattle.strm_machine.specs.Sides.{opposite, end_of, with_end, with_operation, write_of, read_of}
use Rattle.strm_machine.specs.Meetings.{meeting_of}
use Rattle.strm_machine.specs.Operating.{Operated, with_received, learns, moves, rendezvous_by, rendezvous, finds, operate}
use Rattle.strm_machine.specs.Endings.{pending_of, report_on, told_end, delivered, dropped, cancelled, cancelled_end, asked_to_finish, code_of_cancel, waits_for_host}
use Rattle.strm_machine.specs.Moves.{with_owner}
use Rattle.strm_machine.specs.declared.streams.End.{End}
use Rattle.strm_machine.specs.declared.streams.Meeting.{Meeting}
use Rattle.strm_machine.specs.declared.streams.Meeting.TheVariants.{BothComplete, WriteCompletes, ReadCompletes}
use Rattle.strm_machine.specs.declared.streams.Operation.{Operation}
use Rattle.strm_machine.specs.declared.streams.Owner.{Owner}
use Rattle.strm_machine.specs.declared.streams.Owner.TheVariants.{Held, Loose, Host, Gone}
use Rattle.strm_machine.specs.declared.streams.Side.{Side}
use Rattle.strm_machine.specs.declared.streams.Side.TheVariants.{Writing, Reading}
use Rattle.strm_machine.specs.declared.streams.Stream.{Stream}
use Rattle.strm_codes.specs.declared.payloads.Payload.{Payload}
use Rattle.strm_host_machine.specs.Attaching.{withdrawn, piped, forsaken}
use Rattle.strm_host_machine.specs.Settling.{went, operation_settled, with_some_received, let_go, moved_on}
use Rattle.strm_host_machine.specs.Courses.{Holder, AGuest, NoGuest, AHost, NoMore, CoursePoll, Progress, CourseEnd, Course, Reached, reaches, end_on, with_end_on, with_holder, is_no_more, is_a_host, report_at, hearing_end, hears, course_cancels, begins, meets_by, called_by, Calls, course_by}
use Rattle.strm_host_machine.specs.Courses as courses
use Rattle.strm_host_laws.proofs.Tracing.{holder_of, progress_of, seen_end, seen}

-- ## One end

holder-gone : (o : Owner) → is_no_more (holder_of o) ≡ is_gone o
holder-gone (Held g handle) = refl
holder-gone Loose = refl
holder-gone (Host n) = refl
holder-gone Gone = refl

holder-host : (o : Owner) → is_a_host (holder_of o) ≡ is_host o
holder-host (Held g handle) = refl
holder-host Loose = refl
holder-host (Host n) = refl
holder-host Gone = refl

pending-seen : (o : Option Operation) → option_map (λ (p : Progress). p.pending) (option_map progress_of o) ≡ option_map pending_of o
pending-seen None = refl
pending-seen (Some o) = refl

left-seen : (code : Option ReturnCode) (o : Option Operation) → left_pending code (option_map progress_of o) ≡ option_map progress_of (left_pending code o)
left-seen None o = refl
left-seen (Some code) o = refl

told_end-seen : (code : Option ReturnCode) (e : End) → hearing_end code (seen_end e) ≡ seen_end (told_end code e)
told_end-seen code e = ap (λ p. record (seen_end (told_end code e)) { progress = p }) (left-seen code e.operation)

-- ## A stream

module _ (held : ℕ) (over : Bool) where
  report-by : (stream : Stream) (e : End) (o : Owner) → report_of stream.kind (option_map (λ (p : Progress). p.pending) (seen_end e).progress) (is_no_more (holder_of o)) e.told stream.passed ≡ report_of stream.kind (option_map pending_of e.operation) (is_gone o) e.told stream.passed
  report-by stream e o =
      ap (λ p. report_of stream.kind p (is_no_more (holder_of o)) e.told stream.passed) (pending-seen e.operation)
      ∙ ap (λ g. report_of stream.kind (option_map pending_of e.operation) g e.told stream.passed) (holder-gone o)

  -- what an end is to be told
  pub report-seen : (side : Side) (stream : Stream) → report_at side (seen stream held over) ≡ report_on side stream
  report-seen Writing stream = report-by stream stream.writer stream.reader.owner
  report-seen Reading stream = report-by stream stream.reader stream.writer.owner

  -- another end
  pub with_end-seen : (side : Side) (stream : Stream) (e : End) → with_end_on side (seen stream held over) (seen_end e) ≡ seen (with_end side stream e) held over
  with_end-seen Writing stream e = refl
  with_end-seen Reading stream e = refl

  end-seen : (side : Side) (stream : Stream) → end_on side (seen stream held over) ≡ seen_end (end_of side stream)
  end-seen Writing stream = refl
  end-seen Reading stream = refl

  -- it is told this
  told-seen : (side : Side) (stream : Stream) (code : Option ReturnCode) → with_end_on side (seen stream held over) (hearing_end code (end_on side (seen stream held over))) ≡ seen (with_end side stream (told_end code (end_of side stream))) held over
  told-seen side stream code =
      ap (λ e. with_end_on side (seen stream held over) (hearing_end code e)) (end-seen side stream)
      ∙ ap (with_end_on side (seen stream held over)) (told_end-seen code (end_of side stream))
      ∙ with_end-seen side stream (told_end code (end_of side stream))

  -- a delivery
  pub delivered-seen : (side : Side) (stream : Stream) → hears side (seen stream held over) ≡ reaches (report_on side stream) (seen (delivered side stream) held over)
  unfolding delivered
  delivered-seen side stream =
      ap (λ code. reaches code (with_end_on side (seen stream held over) (hearing_end code (end_on side (seen stream held over))))) (report-seen side stream)
      ∙ ap (reaches (report_on side stream)) (told-seen side stream (report_on side stream))

  -- another owner, of an end that no host has
  pub owner-seen : (side : Side) (stream : Stream) (o : Owner) → with_holder side (seen stream held over) (holder_of o) ≡ seen (with_owner side stream o) held over
  owner-seen Writing stream o = refl
  owner-seen Reading stream o = refl

  -- ## A read or write between guests

  -- a turn that finds only items
  abbrev SeenAs : Stream → Reached → Operated → Type 0
  SeenAs stream reached t = IsTrue (is_some t.code) → reached ≡ reaches t.code (seen t.stream held over)

  module _ (guests : List Guest) (stream : Stream) (mine theirs : Operation) where
    abbrev course : Course
    course = seen stream held over

    abbrev both : ℕ
    both = min mine.left theirs.left

    moves-seen : (side : Side) (o : Option (List Guest)) → SeenAs stream (meets_by BothComplete side course (progress_of mine) (progress_of theirs)) (moves side guests stream mine theirs both o)
    moves-seen side None some = cc
    moves-seen Writing (Some after) some = refl
    moves-seen Reading (Some after) some = refl

    rendezvous-seen : (m : Meeting) (side : Side) → SeenAs stream (meets_by m side course (progress_of mine) (progress_of theirs)) (rendezvous_by m side guests stream mine theirs)
    rendezvous-seen BothComplete side some = moves-seen side _ some
    rendezvous-seen WriteCompletes Writing some = refl
    rendezvous-seen WriteCompletes Reading some = refl
    rendezvous-seen ReadCompletes Writing some = refl
    rendezvous-seen ReadCompletes Reading some = refl

    meeting-seen : (side : Side) → courses.meeting side (progress_of mine) (progress_of theirs) ≡ meeting_of (write_of side mine theirs).left (read_of side mine theirs).left
    meeting-seen Writing = refl
    meeting-seen Reading = refl

    -- they meet
    abbrev meets_so : Side → Reached
    meets_so side = meets_by (courses.meeting side (progress_of mine) (progress_of theirs)) side course (progress_of mine) (progress_of theirs)

    open-seen : (side : Side) (b : Bool) → SeenAs stream (cond b (meets_so side) (courses.course_waits side course (progress_of mine))) (cond b (rendezvous side guests stream mine theirs) (finds side guests stream mine None))
    open-seen side true some = ap (λ m. meets_by m side course (progress_of mine) (progress_of theirs)) (meeting-seen side) ∙ rendezvous-seen _ side some
    open-seen Writing false some = refl
    open-seen Reading false some = refl

  module _ (side : Side) (guests : List Guest) (stream : Stream) (mine : Operation) where
    finds-seen : (o : Option Operation) → SeenAs stream (courses.course_finds side (seen stream held over) (progress_of mine) (option_map progress_of o)) (finds side guests stream mine o)
    finds-seen None some = waits-by side
      where
        waits-by : (side : Side) → courses.course_waits side (seen stream held over) (progress_of mine) ≡ reaches (finds side guests stream mine None).code (seen (finds side guests stream mine None).stream held over)
        waits-by Writing = refl
        waits-by Reading = refl
    finds-seen (Some theirs) some = open-seen guests stream mine theirs side theirs.is_open some

    learns-seen : (side : Side) → with_end_on side (seen stream held over) (record (end_on side (seen stream held over)) { told = true }) ≡ seen (learns side guests stream).stream held over
    learns-seen Writing = refl
    learns-seen Reading = refl

    across-seen : (side : Side) → (end_on (opposite side) (seen stream held over)).progress ≡ option_map progress_of (end_of (opposite side) stream).operation
    across-seen Writing = refl
    across-seen Reading = refl

    -- the operation across, and what the course finds in it
    abbrev across : Option Operation
    across = (end_of (opposite side) stream).operation

    abbrev finds_so : Reached
    finds_so = courses.course_finds side (seen stream held over) (begins mine.left) (end_on (opposite side) (seen stream held over)).progress

    found-seen : (polls : List CoursePoll) → progress_of mine ≡ begins mine.left → SeenAs stream finds_so (finds side guests stream mine across)
    found-seen polls b some =
        ap (courses.course_finds side (seen stream held over) (begins mine.left)) (across-seen side)
        ∙ ap (λ p. courses.course_finds side (seen stream held over) p (option_map progress_of (end_of (opposite side) stream).operation)) (sym b)
        ∙ finds-seen (end_of (opposite side) stream).operation some

    -- by the owner of the end across, where that is no host end
    called-seen : (polls : List CoursePoll) (o : Owner) → is_host o ≡ false → progress_of mine ≡ begins mine.left
        → SeenAs stream (called_by (holder_of o) side (seen stream held over) mine.left polls) (cond (is_gone o) (learns side guests stream) (finds side guests stream mine across))
    called-seen polls Gone e b some = ap (reaches (Some (codes.Dropped 0))) (learns-seen side)
    called-seen polls (Held g handle) e b some = found-seen polls b some
    called-seen polls Loose e b some = found-seen polls b some
    called-seen polls (Host n) e b some = cc

    holder-across : (end_on (opposite side) (seen stream held over)).holder ≡ holder_of (end_of (opposite side) stream).owner
    holder-across = ap (λ (x : CourseEnd). x.holder) (end-seen (opposite side) stream)

    -- a read or write of an end whose other end is no host's: what is answered, and what becomes of the stream
    pub operate-seen : (polls : List CoursePoll) → is_host (end_of (opposite side) stream).owner ≡ false → progress_of mine ≡ begins mine.left
        → SeenAs stream (course_by (Calls side mine.left polls) (seen stream held over)) (operate side guests stream mine)
    unfolding operate course_by
    operate-seen polls e b some =
        ap (λ o. called_by o side (seen stream held over) mine.left polls) holder-across
        ∙ called-seen polls (end_of (opposite side) stream).owner e b some

  -- ## Cancels and drops

  host-across : (side : Side) (stream : Stream) → is_a_host (end_on (opposite side) (seen stream held over)).holder ≡ is_host (end_of (opposite side) stream).owner
  host-across side stream = ap (λ (x : CourseEnd). is_a_host x.holder) (end-seen (opposite side) stream) ∙ holder-host (end_of (opposite side) stream).owner

  asked-seen : (o : Option Operation) → option_map courses.asked (option_map progress_of o) ≡ option_map progress_of (option_map asked_to_finish o)
  asked-seen None = refl
  asked-seen (Some o) = refl

  -- the host end across from the end on a side is asked to finish
  abbrev asks : Side → Course → Course
  asks side course = with_end_on side course (record (end_on side course) { progress = option_map courses.asked (end_on side course).progress })

  -- the end of a stream's operation is
  abbrev asked_on : Side → Stream → Stream
  asked_on side stream = with_end side stream (record (end_of side stream) { operation = option_map asked_to_finish (end_of side stream).operation })

  asks-seen : (side : Side) (stream : Stream) → asks side (seen stream held over) ≡ seen (asked_on side stream) held over
  asks-seen Writing stream = ap (λ p. record (seen stream held over) { writer = record (seen_end stream.writer) { progress = p } }) (asked-seen stream.writer.operation)
  asks-seen Reading stream = ap (λ p. record (seen stream held over) { reader = record (seen_end stream.reader) { progress = p } }) (asked-seen stream.reader.operation)

  -- a cancel, by whether the host end across is to finish first, and by the report
  abbrev cancels_of : Side → Stream → Bool → Option ReturnCode → Reached
  cancels_of side stream waits report =
      let answer = cancel_answer stream.kind report in
      cond waits (reaches (Some codes.Blocked) (asks side (seen stream held over)))
      (reaches (Some answer) (with_end_on side (seen stream held over) (hearing_end (Some answer) (end_on side (seen stream held over)))))

  -- and on the stream
  abbrev cancelled_so : Side → Stream → Bool → Option ReturnCode → Reached
  cancelled_so side stream waits report =
      let code = cond waits codes.Blocked (cancel_answer stream.kind report) in
      reaches (Some code) (seen (with_end side stream (cancelled_end waits code (end_of side stream))) held over)

  course_cancels-by : (side : Side) (stream : Stream) (waits : Bool) (report : Option ReturnCode) → cancels_of side stream waits report ≡ cancelled_so side stream waits report
  course_cancels-by side stream true report = ap (reaches (Some codes.Blocked)) (asks-seen side stream)
  course_cancels-by side stream false report = ap (reaches (Some (cancel_answer stream.kind report))) (told-seen side stream (Some (cancel_answer stream.kind report)))

  -- a cancel
  pub cancelled-seen : (side : Side) (stream : Stream) → course_cancels side (seen stream held over) ≡ reaches (Some (code_of_cancel side stream)) (seen (cancelled side stream) held over)
  unfolding cancelled
  cancelled-seen side stream =
      ap (λ report. cancels_of side stream (is_a_host (end_on (opposite side) (seen stream held over)).holder && not (is_some report)) report) (report-seen side stream)
      ∙ ap (λ host. cancels_of side stream (host && not (is_some (report_on side stream))) (report_on side stream)) (host-across side stream)
      ∙ course_cancels-by side stream (waits_for_host side stream) (report_on side stream)

-- ## Turns of a host writer

some-seen : (held : ℕ) (over : Bool) (stream : Stream) (n : ℕ) (b : Bool) → cond b (seen stream held over) (courses.with_value (seen stream held over)) ≡ seen (cond b stream (with_received stream n)) held over
some-seen held over stream n true = refl
some-seen held over stream n false = refl

pub with_items-seen : (held : ℕ) (over : Bool) (stream : Stream) (n : ℕ) → courses.course_with_items (seen stream held over) n ≡ seen (with_some_received stream n) held over
with_items-seen held over stream n = some-seen held over stream n (n == 0)

operation_settled-seen : (payload : Payload) (result : Option StreamResult) (o : Operation) (n : ℕ) → courses.progress_settled result (courses.went_on (progress_of o) n) ≡ progress_of (operation_settled result (went payload o n))
operation_settled-seen payload None o n = refl
operation_settled-seen payload (Some result) o n = refl

-- what is held and whether it is over, once the writer is gone or stays
abbrev pub held_if : Option StreamResult → ℕ → ℕ
held_if (Some results.Dropped) held = 0
held_if _ held = held

abbrev pub over_if : Option StreamResult → Bool → Bool
over_if (Some results.Dropped) over = false
over_if _ over = over

let_go-seen : (held : ℕ) (over : Bool) (result : Option StreamResult) (stream : Stream) → courses.let_go Writing result (seen stream held over) ≡ seen (let_go Writing result stream) (held_if result held) (over_if result over)
let_go-seen held over None stream = refl
let_go-seen held over (Some results.Completed) stream = refl
let_go-seen held over (Some results.Cancelled) stream = refl
let_go-seen held over (Some results.Dropped) stream = refl

let_go_reader-seen : (held : ℕ) (over : Bool) (result : Option StreamResult) (stream : Stream) → courses.let_go Reading result (seen stream held over) ≡ seen (let_go Reading result stream) held over
let_go_reader-seen held over None stream = refl
let_go_reader-seen held over (Some results.Completed) stream = refl
let_go_reader-seen held over (Some results.Cancelled) stream = refl
let_go_reader-seen held over (Some results.Dropped) stream = refl

-- n items of an open read came from the host writer, which settles it so
pub moved_on-seen : (held : ℕ) (over : Bool) (stream : Stream) (read : Operation) (n : ℕ) (result : Option StreamResult)
    → courses.goes_on Reading (seen stream held over) (progress_of read) n result
    ≡ seen (moved_on Reading stream read n result) (held_if result held) (over_if result over)
unfolding moved_on
moved_on-seen held over stream read n result =
    ap (λ c. courses.let_go Writing result (courses.with_progress Reading c (courses.progress_settled result (courses.went_on (progress_of read) n)))) (with_items-seen held over stream n)
    ∙ ap (λ p. courses.let_go Writing result (courses.with_progress Reading (seen (with_some_received stream n) held over) p)) (operation_settled-seen stream.payload result read n)
    ∙ let_go-seen held over result (with_operation Reading (with_some_received stream n) (operation_settled result (went stream.payload read n)))

-- and of an open write went to the host reader
pub taken-seen : (held : ℕ) (over : Bool) (stream : Stream) (write : Operation) (n : ℕ) (result : Option StreamResult)
    → courses.goes_on Writing (seen stream held over) (progress_of write) n result
    ≡ seen (moved_on Writing stream write n result) held over
unfolding moved_on
taken-seen held over stream write n result =
    ap (λ c. courses.let_go Reading result (courses.with_progress Writing c (courses.progress_settled result (courses.went_on (progress_of write) n)))) (with_items-seen held over stream n)
    ∙ ap (λ p. courses.let_go Reading result (courses.with_progress Writing (seen (with_some_received stream n) held over) p)) (operation_settled-seen stream.payload result write n)
    ∙ let_go_reader-seen held over result (with_operation Writing (with_some_received stream n) (operation_settled result (went stream.payload write n)))

-- an operation opens
pub opened-seen : (held : ℕ) (over : Bool) (side : Side) (stream : Stream) (operation : Operation) → courses.with_progress side (seen stream held over) (progress_of operation) ≡ seen (with_operation side stream operation) held over
opened-seen held over Writing stream operation = refl
opened-seen held over Reading stream operation = refl

-- where there is nothing to tell, nothing changes
pub unheard : (side : Side) (course : Course) → report_at side course ≡ None → (hears side course).course ≡ course
unheard Writing course e = ap (λ code. with_end_on Writing course (hearing_end code course.writer)) e
unheard Reading course e = ap (λ code. with_end_on Reading course (hearing_end code course.reader)) e

-- ## Ends that go

-- an end is dropped, and the host end across goes with it
pub forsaken-seen : (held : ℕ) (over : Bool) (side : Side) (stream : Stream) → courses.dropped_by AHost side (seen stream held over) ≡ seen (forsaken side (dropped side stream)) 0 false
unfolding dropped
forsaken-seen held over Writing stream = refl
forsaken-seen held over Reading stream = refl

-- an end is dropped whose other end no host end has
pub dropped-seen : (side : Side) (stream : Stream) (o : Owner) → is_host o ≡ false → courses.dropped_by (holder_of o) side (seen stream 0 false) ≡ seen (dropped side stream) 0 false
unfolding dropped
dropped-seen side stream (Host n) e = cc
dropped-seen Writing stream (Held g handle) e = refl
dropped-seen Writing stream Loose e = refl
dropped-seen Writing stream Gone e = refl
dropped-seen Reading stream (Held g handle) e = refl
dropped-seen Reading stream Loose e = refl
dropped-seen Reading stream Gone e = refl

-- ## A host reader gets the read end

withdrawn-seen : (o : Option Operation) → option_map courses.withdrawn (option_map progress_of o) ≡ option_map progress_of (option_map withdrawn o)
withdrawn-seen None = refl
withdrawn-seen (Some o) = by o.is_open
  where
    by : (b : Bool) → Some (cond b (record (progress_of o) { pending = record (progress_of o).pending { met = false } }) (progress_of o)) ≡ Some (progress_of (cond b (record o { met = false }) o))
    by true = refl
    by false = refl

pub piped-seen : (held : ℕ) (over : Bool) (stream : Stream) (r : ℕ)
    → record (with_holder Reading (seen stream held over) AHost) { writer = record (seen_end stream.writer) { progress = option_map courses.withdrawn (option_map progress_of stream.writer.operation) } }
    ≡ seen (piped stream r) held over
piped-seen held over stream r = ap (λ p. record (seen (piped stream r) held over) { writer = record (seen_end stream.writer) { progress = p } }) (withdrawn-seen stream.writer.operation)
