-- The course of one stream by itself: what becomes of it by its own events, and which codes are answered.
-- It counts items, and knows no address, payload, memory, guest, handle or number of a host end; of who
-- has an end it knows whether that is a guest or a host end. Ours, by the Canonical ABI's built-ins for
-- streams and futures.
use Rattle.std.specs.Prelude.{ℕ, ◌+◌, ◌-◌, ◌==◌, Bool, true, false, ◌&&◌, ◌||◌, not, if◌then◌else◌, List, [], ◌∷◌, ◌++◌, min, nat_lt, is_some, Option, Some, None}
use Rattle.std.specs.Option.{option_map}
use Rattle.strm_codes.specs.Codes.{completed_code}
use Rattle.strm_codes.specs.declared.codes.ReturnCode.{ReturnCode}
use Rattle.strm_codes.specs.declared.codes.ReturnCode.TheVariants as codes
use Rattle.strm_codes.specs.declared.codes.StreamResult.{StreamResult}
use Rattle.strm_codes.specs.declared.codes.StreamResult.TheVariants as results
use Rattle.strm_codes.specs.declared.codes.TransmitKind.{TransmitKind}
use Rattle.strm_events.specs.Reports.{report_of, left_pending, told_after, cancel_answer}
use Rattle.strm_events.specs.declared.reports.Pending.{Pending}
use Rattle.strm_buffers.specs.declared.answers.Answer.{Answer}
use Rattle.strm_buffers.specs.declared.answers.Answer.TheVariants as answers
use Rattle.strm_machine.specs.Sides.{opposite, same_side}
use Rattle.strm_machine.specs.Meetings.{meeting_of}
use Rattle.strm_machine.specs.Operating.{is_future}
use Rattle.strm_machine.specs.declared.streams.Meeting.{Meeting}
use Rattle.strm_machine.specs.declared.streams.Meeting.TheVariants.{BothComplete, WriteCompletes, ReadCompletes}
use Rattle.strm_machine.specs.declared.streams.Side.{Side}
use Rattle.strm_machine.specs.declared.streams.Side.TheVariants.{Writing, Reading}
use Rattle.strm_host_machine.specs.WriterTurn.{is_last}
use Rattle.strm_host_machine.specs.Settling.{result_of}

-- EVENTS

-- who has an end: a guest, nobody yet, a host end, or nobody any more
pub data Holder : Type 0 where
  AGuest : Holder
  NoGuest : Holder
  AHost : Holder
  NoMore : Holder

-- a record of a poll, with the number of its items: those that a host writer produced, or that a host
-- reader took
pub record CoursePoll : Type 0 where
  pub items : ℕ
  pub answer : Answer

-- what happens to one stream
pub data StreamEvent : Type 0 where
  -- it is made of a host writer that holds so many items; one that is made for guests begins with no event
  Begins : ℕ → StreamEvent
  -- a read or write of so many items is accepted, and uses these records of the host end across
  Calls : Side → ℕ → List CoursePoll → StreamEvent
  -- its end on a side is asked what it is to be told, by an event or by a poll of a set that tells it
  Hears : Side → StreamEvent
  -- its operation on a side is cancelled
  Cancels : Side → StreamEvent
  -- its end on a side is dropped or closed
  Drops : Side → StreamEvent
  -- its end on a side moves to one who has it then
  Moves : Side → Holder → StreamEvent
  -- its part of a drive round, with the records used of its host writer and of its host reader
  Turns : List CoursePoll → List CoursePoll → StreamEvent

-- STATES

-- a read or write that has not ended: the items still to move, and what its report may depend on
pub record Progress : Type 0 where
  pub left : ℕ
  pub pending : Pending

-- one end
pub record CourseEnd : Type 0 where
  pub holder : Holder
  pub told : Bool
  pub progress : Option Progress

-- a stream
pub record Course : Type 0 where
  pub kind : TransmitKind
  pub passed : Bool
  -- the items that its host writer holds, and whether that has no more to come
  pub held : ℕ
  pub over : Bool
  pub writer : CourseEnd
  pub reader : CourseEnd

-- an end that is just made
abbrev pub fresh_end : Holder → CourseEnd
fresh_end holder = record { holder = holder; told = false; progress = None }

-- a stream of a kind that is just made, and whose ends guests have
abbrev pub fresh_course : TransmitKind → Course
fresh_course kind = record {
  kind = kind;
  passed = false;
  held = 0;
  over = false;
  writer = fresh_end AGuest;
  reader = fresh_end AGuest;
}

-- nobody has it any more
abbrev pub is_no_more : Holder → Bool
is_no_more NoMore = true
is_no_more _ = false

-- a host end has it
abbrev pub is_a_host : Holder → Bool
is_a_host AHost = true
is_a_host _ = false

-- the end on a side
abbrev pub end_on : Side → Course → CourseEnd
end_on Writing course = course.writer
end_on Reading course = course.reader

-- another end on a side
abbrev pub with_end_on : Side → Course → CourseEnd → Course
with_end_on Writing course end = record course { writer = end }
with_end_on Reading course end = record course { reader = end }

-- this progress on a side
abbrev pub with_progress : Side → Course → Progress → Course
with_progress side course progress =
    with_end_on side course (record (end_on side course) { progress = Some progress })

-- another one has the end on a side
abbrev pub with_holder : Side → Course → Holder → Course
with_holder side course holder = with_end_on side course (record (end_on side course) { holder = holder })

-- nobody has the end on a side any more; what a host writer held is given up with it
abbrev pub course_gone_on : Side → Course → Course
course_gone_on Writing course = record (with_holder Writing course NoMore) { held = 0; over = false }
course_gone_on Reading course = with_holder Reading course NoMore

-- both ends are gone
abbrev pub both_gone : Course → Course
both_gone course = course_gone_on Writing (course_gone_on Reading course)

-- items were received: a future's value has passed
abbrev pub with_value : Course → Course
with_value course = record course { passed = course.passed || is_future course.kind }

-- n items were received
abbrev pub course_with_items : Course → ℕ → Course
course_with_items course n = if n == 0 then course else with_value course

-- WHAT IS ANSWERED

-- a code, or that there is none to tell; and the stream afterwards
pub record Reached : Type 0 where
  pub code : Option ReturnCode
  pub course : Course

-- this code and this course
abbrev pub reaches : Option ReturnCode → Course → Reached
reaches code course = record { code = code; course = course }

-- what the end on a side is to be told
abbrev pub report_at : Side → Course → Option ReturnCode
report_at side course =
    report_of course.kind (option_map (λ (p : Progress). p.pending) (end_on side course).progress)
    (is_no_more (end_on (opposite side) course).holder) (end_on side course).told course.passed

-- an end after it was told this, if anything
abbrev pub hearing_end : Option ReturnCode → CourseEnd → CourseEnd
hearing_end code end = record end {
  told = told_after code end.told;
  progress = left_pending code end.progress;
}

-- the end on a side is told its report
abbrev pub hears : Side → Course → Reached
hears side course =
    let code = report_at side course in
    reaches code (with_end_on side course (hearing_end code (end_on side course)))

-- a host end is asked to finish
abbrev pub asked : Progress → Progress
asked progress = record progress { pending = record progress.pending { asked = true } }

-- the operation on a side is cancelled: what its report says is answered, and where there is none yet a
-- host end across is to finish first
abbrev pub course_cancels : Side → Course → Reached
course_cancels side course =
    let code = report_at side course in
    if is_a_host (end_on (opposite side) course).holder && not (is_some code)
    then reaches (Some codes.Blocked)
    (with_end_on side course (record (end_on side course) { progress = option_map asked (end_on side course).progress }))
    else (let answer = cancel_answer course.kind code in
    reaches (Some answer) (with_end_on side course (hearing_end (Some answer) (end_on side course))))

-- MEETINGS OF GUESTS

-- a read or write of n items that is just called
abbrev pub begins : ℕ → Progress
begins n = record {
  left = n;
  pending = record { is_open = true; met = false; asked = false; moved = 0; outcome = results.Completed };
}

-- after n of its items went
abbrev pub went_on : Progress → ℕ → Progress
went_on p n = record { left = p.left - n; pending = record p.pending { moved = p.pending.moved + n } }

-- one that waits, once it was met by n items
abbrev pub met_by : Progress → ℕ → Progress
met_by p n = record {
  left = p.left - n;
  pending = record p.pending {
    is_open = nat_lt 0 (p.left - n);
    met = true;
    moved = p.pending.moved + n;
    outcome = results.Completed;
  };
}

-- the operation opens
abbrev pub course_waits : Side → Course → Progress → Reached
course_waits side course mine = reaches (Some codes.Blocked) (with_progress side course mine)

-- a side completes alone
abbrev pub course_completes_alone : Side → Side → Course → Progress → Progress → Reached
course_completes_alone who side course mine theirs =
    if same_side who side
    then reaches (Some (completed_code course.kind 0)) course
    else course_waits side (with_progress (opposite side) course (met_by theirs 0)) mine

-- mine and theirs meet
abbrev pub meets_by : Meeting → Side → Course → Progress → Progress → Reached
meets_by BothComplete side course mine theirs =
    let n = min mine.left theirs.left in
    reaches (Some (completed_code course.kind n)) (with_progress (opposite side) (with_value course) (met_by theirs n))
meets_by WriteCompletes side course mine theirs = course_completes_alone Writing side course mine theirs
meets_by ReadCompletes side course mine theirs = course_completes_alone Reading side course mine theirs

-- the items that a write has left and those that a read has, of mine on a side and theirs
abbrev pub meeting : Side → Progress → Progress → Meeting
meeting Writing mine theirs = meeting_of mine.left theirs.left
meeting Reading mine theirs = meeting_of theirs.left mine.left

-- by the operation across, if there is one
abbrev pub course_finds : Side → Course → Progress → Option Progress → Reached
course_finds side course mine None = course_waits side course mine
course_finds side course mine (Some theirs) =
    if theirs.pending.is_open
    then meets_by (meeting side mine theirs) side course mine theirs
    else course_waits side course mine

-- TURNS OF HOST ENDS

-- an operation that is settled so, if it is
abbrev pub progress_settled : Option StreamResult → Progress → Progress
progress_settled None p = p
progress_settled (Some result) p = record p { pending = record p.pending { is_open = false; met = true; outcome = result } }

-- the host end across is gone once it is done
abbrev pub let_go : Side → Option StreamResult → Course → Course
let_go side (Some results.Dropped) course = course_gone_on side course
let_go side _ course = course

-- n items of the operation on a side came from the host end across or went to it, which settles it so
abbrev pub goes_on : Side → Course → Progress → ℕ → Option StreamResult → Course
goes_on side course p n result =
    let_go (opposite side) result (with_progress side (course_with_items course n) (progress_settled result (went_on p n)))

-- how an answer settles a read where so many items are held then
abbrev pub produced_result : Answer → ℕ → Option StreamResult
produced_result answers.Dropped held = if held == 0 then Some results.Dropped else Some results.Completed
produced_result answer held = result_of answer

-- a poll of the host writer for the read that waits
abbrev pub produces : Course → Progress → List CoursePoll → Course
produces course p [] = course
produces course p (poll ∷ more) =
    let held = poll.items - p.left in
    goes_on Reading (record course { held = held; over = course.over || is_last poll.answer }) p
    (min p.left poll.items) (produced_result poll.answer held)

-- the host writer's turn for it: what is held goes first, then a poll, unless there is no more to come
abbrev pub after_writer_turn : Course → Progress → List CoursePoll → Course
after_writer_turn course p polls =
    if nat_lt 0 course.held
    then goes_on Reading (record course { held = course.held - p.left }) p (min p.left course.held) (Some results.Completed)
    else (if course.over then goes_on Reading course p 0 (Some results.Dropped) else produces course p polls)

-- a poll of the host reader for the write that waits
abbrev pub after_reader_turn : Course → Progress → List CoursePoll → Course
after_reader_turn course p [] = course
after_reader_turn course p (poll ∷ more) = goes_on Writing course p poll.items (result_of poll.answer)

-- the turn of the host end across from a side
abbrev pub after_turn_across : Side → Course → Progress → List CoursePoll → Course
after_turn_across Reading = after_writer_turn
after_turn_across Writing = after_reader_turn

-- what a call answers that its end is to be told
abbrev pub code_or_blocked : Option ReturnCode → ReturnCode
code_or_blocked None = codes.Blocked
code_or_blocked (Some code) = code

-- and what becomes of the stream
abbrev pub answers_then : Side → Course → Reached
answers_then side course = record (hears side course) { code = Some (code_or_blocked (report_at side course)) }

-- ROUNDS BETWEEN TWO HOST ENDS

-- the host writer produced these
abbrev pub fills : Course → List CoursePoll → Course
fills course [] = course
fills course (poll ∷ more) = record course { held = course.held + poll.items; over = course.over || is_last poll.answer }

-- the host reader was not polled, or its answer is this, on a stream of a kind: whether that ends both, where
-- nothing more is to come, or something is
abbrev pub ends_round : TransmitKind → Answer → Bool → Bool
ends_round kind answers.Pending dry = false
ends_round kind answers.Dropped dry = true
ends_round kind answers.Completed dry = is_future kind || dry
ends_round kind _ dry = dry

-- nothing is held, and nothing more is to come
abbrev pub is_dry : Course → Bool
is_dry course = course.over && (course.held == 0)

-- both ends go, or stay
abbrev pub both_gone_if : Bool → Course → Course
both_gone_if true course = both_gone course
both_gone_if false course = course

-- the host reader took these. Where it was not polled it does not rest
abbrev pub empties : Course → List CoursePoll → Course
empties course [] = both_gone_if (is_dry course) course
empties course (poll ∷ more) =
    let after = course_with_items (record course { held = course.held - poll.items }) poll.items in
    both_gone_if (ends_round course.kind poll.answer (is_dry after)) after

-- EVENTS ONE BY ONE

-- the turn for an operation that is open
abbrev pub if_open : Side → Course → Option Progress → List CoursePoll → Course
if_open side course None polls = course
if_open side course (Some p) polls = if p.pending.is_open then after_turn_across side course p polls else course

-- its part of a drive round, by who has its write end and its read end
abbrev pub driven_by : Holder → Holder → Course → List CoursePoll → List CoursePoll → Course
driven_by AHost AHost course produced took = empties (fills course produced) took
driven_by AHost _ course produced took = if_open Reading course course.reader.progress produced
driven_by _ AHost course produced took = if_open Writing course course.writer.progress took
driven_by _ _ course produced took = course

-- a read or write of n items, by who has the end across
abbrev pub called_by : Holder → Side → Course → ℕ → List CoursePoll → Reached
called_by NoMore side course n polls =
    reaches (Some (codes.Dropped 0)) (with_end_on side course (record (end_on side course) { told = true }))
called_by AHost side course n polls =
    answers_then side (after_turn_across side (with_progress side course (begins n)) (begins n) polls)
called_by _ side course n polls =
    course_finds side course (begins n) (end_on (opposite side) course).progress

-- the end on a side is dropped; a host end across goes with it
abbrev pub dropped_by : Holder → Side → Course → Course
dropped_by AHost side course = both_gone course
dropped_by _ side course = course_gone_on side course

-- an operation that is open and whose report is withdrawn: it goes on with a host end
abbrev pub withdrawn : Progress → Progress
withdrawn p = if p.pending.is_open then record p { pending = record p.pending { met = false } } else p

-- a host reader has the read end: what was to be told to an open write is withdrawn, and both ends go where
-- nothing more is to come
abbrev pub piped : Course → Course
piped course =
    let after = record (with_holder Reading course AHost) {
      writer = record course.writer { progress = option_map withdrawn course.writer.progress };
    } in
    both_gone_if (is_no_more course.writer.holder || (is_a_host course.writer.holder && is_dry course)) after

-- the end on a side has another holder
abbrev pub moved_to : Side → Holder → Course → Course
moved_to Reading AHost course = piped course
moved_to side holder course = with_holder side course holder

-- what the event leads to
unfoldable pub course_by : StreamEvent → Course → Reached
course_by (Begins held) course =
    reaches None (record (with_holder Writing (with_holder Reading course NoGuest) AHost) { held = held })
course_by (Calls side n polls) course = called_by (end_on (opposite side) course).holder side course n polls
course_by (Hears side) course = hears side course
course_by (Cancels side) course = course_cancels side course
course_by (Drops side) course = reaches None (dropped_by (end_on (opposite side) course).holder side course)
course_by (Moves side holder) course = reaches None (moved_to side holder course)
course_by (Turns produced took) course =
    reaches None (driven_by course.writer.holder course.reader.holder course produced took)

-- an event that is answered by a code, or by there being none
abbrev pub is_answered : StreamEvent → Bool
is_answered (Calls side n polls) = true
is_answered (Hears side) = true
is_answered (Cancels side) = true
is_answered _ = false

-- what is answered to an event
abbrev pub answers_of : StreamEvent → Course → List (Option ReturnCode)
answers_of event course = if is_answered event then (course_by event course).code ∷ [] else []

-- what is answered to these events, from a course on
abbrev pub codes_from : Course → List StreamEvent → List (Option ReturnCode)
codes_from course [] = []
codes_from course (event ∷ more) = answers_of event course ++ codes_from (course_by event course).course more

-- the codes of a stream: of its kind and its events alone
abbrev pub codes_of : TransmitKind → List StreamEvent → List (Option ReturnCode)
codes_of kind events = codes_from (fresh_course kind) events
