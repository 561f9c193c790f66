-- Worked runs of the machine with host writers, computed: the events of a stream, the codes that are
-- answered, the codes of these events, and the stream as it is at the end.
use Rattle.std.proofs.Common.{◌≡◌, ℕ, Bool, true, false, List, [], ◌∷◌, Option, Some, None, refl}
use Rattle.std.specs.Prelude.{pos, map}
use Rattle.strm_codes.specs.declared.codes.ReturnCode.{ReturnCode}
use Rattle.strm_codes.specs.declared.codes.ReturnCode.TheVariants as codes
use Rattle.strm_codes.specs.declared.codes.TransmitIndex.{TransmitIndex}
use Rattle.strm_codes.specs.declared.codes.TransmitIndex.TheVariants as index
use Rattle.strm_codes.specs.declared.codes.TransmitKind.{TransmitKind}
use Rattle.strm_codes.specs.declared.codes.TransmitKind.TheVariants.{Stream as AStream, Future}
use Rattle.strm_codes.specs.declared.payloads.Payload.TheVariants.{One}
use Rattle.strm_codes.specs.declared.scalars.Scalar.TheVariants.{U8}
use Rattle.strm_memory.specs.Items.{items, stored}
use Rattle.strm_memory.specs.Loads.{decode, encode}
use Rattle.strm_buffers.specs.declared.answers.Answer.{Answer}
use Rattle.strm_buffers.specs.declared.answers.Answer.TheVariants as answers
use Rattle.strm_buffers.specs.Listing.{Item}
use Rattle.strm_buffers.specs.Said.{WriterSaid}
use Rattle.strm_machine.specs.State.{empty}
use Rattle.strm_machine.specs.Operating.{operate}
use Rattle.strm_machine.specs.Endings.{delivered, dropped, cancelled}
use Rattle.strm_machine.specs.Making.{with_stream}
use Rattle.strm_machine.specs.Moments.{decoded}
use Rattle.strm_machine.specs.Refusals.{refusal}
use Rattle.strm_machine.specs.Reactions.{performs, reaction}
use Rattle.strm_machine.specs.WaitableSets.{ready_member}
use Rattle.strm_machine.specs.declared.steps.Step.{Step}
use Rattle.strm_machine.specs.declared.steps.Step.TheVariants as steps
use Rattle.strm_machine.specs.declared.streams.Side.TheVariants.{Writing, Reading}
use Rattle.strm_host_machine.specs.Ends.{no_writer}
use Rattle.strm_host_machine.specs.World.{World, stream_in, with_stream_in}
use Rattle.strm_host_machine.specs.Settling.{moved_on}
use Rattle.strm_host_machine.specs.WriterTurn.{writer_turn}
use Rattle.strm_host_machine.specs.Attaching.{hosts_new}
use Rattle.strm_host_machine.specs.Driving.{drive_turn}
use Rattle.strm_host_machine.specs.HostRefusals.{refusal_in}
use Rattle.strm_host_machine.specs.Steps.{performs_in, outcome}
use Rattle.strm_host_laws.specs.HostMoments.{HostMoment, host_moments, end_world}
use Rattle.strm_host_machine.specs.Courses.{AGuest, CoursePoll, StreamEvent, Course, Begins, Calls, Hears, Cancels, Drops, Moves, Turns, course_by, codes_of, fresh_course}
use Rattle.strm_host_laws.proofs.CourseRuns.{course_after}
use Rattle.strm_host_laws.specs.StreamEvents.{events, codes_answered}
use Rattle.strm_host_laws.proofs.Tracing.{course_of}

abbrev bytes : TransmitIndex
bytes = index.Stream (One U8)

abbrev one_byte : TransmitIndex
one_byte = index.Future (One U8)

abbrev all_items : List ℕ → List Item
all_items ns = map (λ n. pos n ∷ []) ns

-- a poll with this room
abbrev said : ℕ → Bool → List ℕ → Answer → WriterSaid
said room finish ns answer = record { payload = One U8; room = Some room; finish = finish; items = all_items ns; answer = answer }

abbrev poll : ℕ → Answer → CoursePoll
poll n answer = record { items = n; answer = answer }

-- an unused store with a host writer of bytes that holds these at first, with these records to come
abbrev among : List ℕ → List WriterSaid → World
among held coming = record {
  state = empty 0 (record { handles = 32; places = 32 });
  writers = (record no_writer { payload = One U8; holds = all_items held; coming = coming; heard = Some [] }) ∷ [];
  readers = [];
}

-- of stream s in a run: its events, what is answered, the codes of its events, and whether its course leads to
-- what it is
record Row : Type 0 where
  happens : List StreamEvent
  answers : List (Option ReturnCode)
  codes_alone : List (Option ReturnCode)
  course : Course

abbrev row_of : ℕ → List HostMoment → World → Row
row_of s all last = record {
  happens = events s all;
  answers = codes_answered s all;
  codes_alone = codes_of (stream_in last s).kind (events s all);
  course = course_of s last;
}

abbrev row : ℕ → World → List Step → Row
row s world run = row_of s (host_moments world run) (end_world world (host_moments world run))

abbrev expected : TransmitKind → List StreamEvent → List (Option ReturnCode) → Row
expected kind happens answers = record {
  happens = happens;
  answers = answers;
  codes_alone = answers;
  course = course_after (fresh_course kind) happens;
}

-- a write that is read in part, and whose read end goes then
told_parts : row 0 (among [] [])
    (steps.Guest 16
    ∷ steps.Guest 16
    ∷ steps.Between 0 1 bytes
    ∷ steps.Write 0 bytes 1 0 5
    ∷ steps.Read 1 bytes 1 0 2
    ∷ steps.DropRead 1 bytes 1
    ∷ steps.Event 0 1
    ∷ steps.Event 0 1
    ∷ steps.Write 0 bytes 1 0 1
    ∷ [])
    ≡ expected AStream
    (Calls Writing 5 []
    ∷ Calls Reading 2 []
    ∷ Drops Reading
    ∷ Hears Writing
    ∷ Hears Writing
    ∷ [])
    (Some codes.Blocked
    ∷ Some (codes.Completed 2)
    ∷ Some (codes.Dropped 2)
    ∷ None
    ∷ [])
unfolding course_by outcome performs_in refusal_in hosts_new writer_turn drive_turn with_stream_in moved_on reaction refusal performs operate delivered dropped cancelled with_stream ready_member decode encode items stored decoded
told_parts = refl

-- a future: cancels before its value passes, a drop that is refused, and a cancel that comes too late
future_value : row 0 (among [] [])
    (steps.Guest 16
    ∷ steps.Guest 16
    ∷ steps.Between 0 1 one_byte
    ∷ steps.Read 1 one_byte 1 3 1
    ∷ steps.CancelRead 1 one_byte 1
    ∷ steps.CancelRead 1 one_byte 1
    ∷ steps.Write 0 one_byte 1 0 1
    ∷ steps.CancelWrite 0 one_byte 1
    ∷ steps.DropWrite 0 one_byte 1
    ∷ steps.Write 0 one_byte 1 0 1
    ∷ steps.Read 1 one_byte 1 3 1
    ∷ steps.CancelWrite 0 one_byte 1
    ∷ steps.Write 0 one_byte 1 0 1
    ∷ steps.DropWrite 0 one_byte 1
    ∷ steps.Event 1 1
    ∷ [])
    ≡ expected Future
    (Calls Reading 1 []
    ∷ Cancels Reading
    ∷ Calls Writing 1 []
    ∷ Cancels Writing
    ∷ Calls Writing 1 []
    ∷ Calls Reading 1 []
    ∷ Cancels Writing
    ∷ Drops Writing
    ∷ Hears Reading
    ∷ [])
    (Some codes.Blocked
    ∷ Some (codes.Cancelled 0)
    ∷ Some codes.Blocked
    ∷ Some (codes.Cancelled 0)
    ∷ Some codes.Blocked
    ∷ Some (codes.Completed 0)
    ∷ Some (codes.Completed 0)
    ∷ None
    ∷ [])
unfolding course_by outcome performs_in refusal_in hosts_new writer_turn drive_turn with_stream_in moved_on reaction refusal performs operate delivered dropped cancelled with_stream ready_member decode encode items stored decoded
future_value = refl

-- a host writer that held an item, whose polls leave items over, and which is driven
host_served : row 0 (among (7 ∷ []) (said 2 false (1 ∷ 2 ∷ 3 ∷ []) answers.Completed ∷ said 1 false [] answers.Pending ∷ said 1 false (9 ∷ 8 ∷ []) answers.Completed ∷ []))
    (steps.Guest 16
    ∷ steps.HostNew 0
    ∷ steps.Lower 0 0 bytes
    ∷ steps.Read 0 bytes 1 0 3
    ∷ steps.Read 0 bytes 1 4 2
    ∷ steps.Read 0 bytes 1 8 4
    ∷ steps.Read 0 bytes 1 9 1
    ∷ steps.Feed 0 (65 ∷ [])
    ∷ steps.Drive
    ∷ steps.Event 0 1
    ∷ [])
    ≡ expected AStream
    (Begins 1
    ∷ Moves Reading AGuest
    ∷ Calls Reading 3 []
    ∷ Calls Reading 2 (poll 3 answers.Completed ∷ [])
    ∷ Calls Reading 4 []
    ∷ Calls Reading 1 (poll 0 answers.Pending ∷ [])
    ∷ Turns (poll 2 answers.Completed ∷ []) []
    ∷ Hears Reading
    ∷ [])
    (Some (codes.Completed 1)
    ∷ Some (codes.Completed 2)
    ∷ Some (codes.Completed 1)
    ∷ Some codes.Blocked
    ∷ Some (codes.Completed 1)
    ∷ [])
unfolding course_by outcome performs_in refusal_in hosts_new writer_turn drive_turn with_stream_in moved_on reaction refusal performs operate delivered dropped cancelled with_stream ready_member decode encode items stored decoded
host_served = refl

-- a host writer that has no more to come, and then is gone
host_over : row 0 (among [] (said 1 false (5 ∷ 6 ∷ []) answers.Dropped ∷ []))
    (steps.Guest 16
    ∷ steps.HostNew 0
    ∷ steps.Lower 0 0 bytes
    ∷ steps.Read 0 bytes 1 0 1
    ∷ steps.Read 0 bytes 1 1 3
    ∷ steps.Read 0 bytes 1 2 1
    ∷ steps.Read 0 bytes 1 2 1
    ∷ steps.DropRead 0 bytes 1
    ∷ [])
    ≡ expected AStream
    (Begins 0
    ∷ Moves Reading AGuest
    ∷ Calls Reading 1 (poll 2 answers.Dropped ∷ [])
    ∷ Calls Reading 3 []
    ∷ Calls Reading 1 []
    ∷ Drops Reading
    ∷ [])
    (Some (codes.Completed 1)
    ∷ Some (codes.Completed 1)
    ∷ Some (codes.Dropped 0)
    ∷ [])
unfolding course_by outcome performs_in refusal_in hosts_new writer_turn drive_turn with_stream_in moved_on reaction refusal performs operate delivered dropped cancelled with_stream ready_member decode encode items stored decoded
host_over = refl

-- a read that is cancelled while its host writer has to finish first
host_asked : row 0 (among [] (said 4 false [] answers.Pending ∷ said 4 true [] answers.Cancelled ∷ []))
    (steps.Guest 16
    ∷ steps.HostNew 0
    ∷ steps.Lower 0 0 bytes
    ∷ steps.Read 0 bytes 1 0 4
    ∷ steps.CancelRead 0 bytes 1
    ∷ steps.CancelRead 0 bytes 1
    ∷ steps.Drive
    ∷ steps.Event 0 1
    ∷ steps.Drive
    ∷ [])
    ≡ expected AStream
    (Begins 0
    ∷ Moves Reading AGuest
    ∷ Calls Reading 4 (poll 0 answers.Pending ∷ [])
    ∷ Cancels Reading
    ∷ Turns (poll 0 answers.Cancelled ∷ []) []
    ∷ Hears Reading
    ∷ Turns [] []
    ∷ [])
    (Some codes.Blocked
    ∷ Some codes.Blocked
    ∷ Some (codes.Cancelled 0)
    ∷ [])
unfolding course_by outcome performs_in refusal_in hosts_new writer_turn drive_turn with_stream_in moved_on reaction refusal performs operate delivered dropped cancelled with_stream ready_member decode encode items stored decoded
host_asked = refl

-- a stream of a host writer beside one of guests, with refused steps between
beside_guests : row 0 (among [] (said 4 false [] answers.Pending ∷ said 4 false [] answers.Pending ∷ said 4 true [] answers.Cancelled ∷ []))
    (steps.Guest 16
    ∷ steps.HostNew 0
    ∷ steps.New 0 bytes
    ∷ steps.Lower 0 0 bytes
    ∷ steps.Write 0 bytes 2 0 3
    ∷ steps.Read 0 bytes 3 0 4
    ∷ steps.Read 0 bytes 1 4 2
    ∷ steps.Read 0 bytes 1 99 2
    ∷ steps.Drive
    ∷ steps.CancelRead 0 bytes 3
    ∷ steps.Write 0 bytes 2 0 1
    ∷ steps.Event 0 2
    ∷ steps.Drive
    ∷ steps.DropRead 0 bytes 1
    ∷ steps.Event 0 3
    ∷ steps.Event 0 2
    ∷ [])
    ≡ expected AStream
    (Begins 0
    ∷ Moves Reading AGuest
    ∷ Calls Reading 4 (poll 0 answers.Pending ∷ [])
    ∷ Turns (poll 0 answers.Pending ∷ []) []
    ∷ Cancels Reading
    ∷ Turns (poll 0 answers.Cancelled ∷ []) []
    ∷ Hears Reading
    ∷ [])
    (Some codes.Blocked
    ∷ Some codes.Blocked
    ∷ Some (codes.Cancelled 0)
    ∷ [])
unfolding course_by outcome performs_in refusal_in hosts_new writer_turn drive_turn with_stream_in moved_on reaction refusal performs operate delivered dropped cancelled with_stream ready_member decode encode items stored decoded
beside_guests = refl

-- and the other stream of the same run
beside_host : row 1 (among [] (said 4 false [] answers.Pending ∷ said 4 false [] answers.Pending ∷ said 4 true [] answers.Cancelled ∷ []))
    (steps.Guest 16
    ∷ steps.HostNew 0
    ∷ steps.New 0 bytes
    ∷ steps.Lower 0 0 bytes
    ∷ steps.Write 0 bytes 2 0 3
    ∷ steps.Read 0 bytes 3 0 4
    ∷ steps.Read 0 bytes 1 4 2
    ∷ steps.Read 0 bytes 1 99 2
    ∷ steps.Drive
    ∷ steps.CancelRead 0 bytes 3
    ∷ steps.Write 0 bytes 2 0 1
    ∷ steps.Event 0 2
    ∷ steps.Drive
    ∷ steps.DropRead 0 bytes 1
    ∷ steps.Event 0 3
    ∷ steps.Event 0 2
    ∷ [])
    ≡ expected AStream
    (Calls Writing 3 []
    ∷ Calls Reading 2 []
    ∷ Turns [] []
    ∷ Hears Writing
    ∷ Turns [] []
    ∷ Drops Reading
    ∷ Hears Writing
    ∷ [])
    (Some codes.Blocked
    ∷ Some (codes.Completed 2)
    ∷ Some (codes.Completed 2)
    ∷ Some (codes.Dropped 0)
    ∷ [])
unfolding course_by outcome performs_in refusal_in hosts_new writer_turn drive_turn with_stream_in moved_on reaction refusal performs operate delivered dropped cancelled with_stream ready_member decode encode items stored decoded
beside_host = refl

-- a read of nothing and a write of nothing, then each beside one that waits
empty_both : row 0 (among [] [])
    (steps.Guest 16
    ∷ steps.Guest 16
    ∷ steps.Between 0 1 bytes
    ∷ steps.Read 1 bytes 1 0 0
    ∷ steps.Write 0 bytes 1 0 0
    ∷ steps.Event 1 1
    ∷ steps.Write 0 bytes 1 0 3
    ∷ steps.Event 1 1
    ∷ steps.CancelWrite 0 bytes 1
    ∷ steps.Read 1 bytes 1 0 4
    ∷ steps.Write 0 bytes 1 0 0
    ∷ steps.Event 1 1
    ∷ steps.CancelRead 1 bytes 1
    ∷ [])
    ≡ expected AStream
    (Calls Reading 0 []
    ∷ Calls Writing 0 []
    ∷ Hears Reading
    ∷ Calls Writing 3 []
    ∷ Hears Reading
    ∷ Cancels Writing
    ∷ Calls Reading 4 []
    ∷ Calls Writing 0 []
    ∷ Hears Reading
    ∷ Cancels Reading
    ∷ [])
    (Some codes.Blocked
    ∷ Some (codes.Completed 0)
    ∷ None
    ∷ Some codes.Blocked
    ∷ Some (codes.Completed 0)
    ∷ Some (codes.Cancelled 0)
    ∷ Some codes.Blocked
    ∷ Some (codes.Completed 0)
    ∷ None
    ∷ Some (codes.Cancelled 0)
    ∷ [])
unfolding course_by outcome performs_in refusal_in hosts_new writer_turn drive_turn with_stream_in moved_on reaction refusal performs operate delivered dropped cancelled with_stream ready_member decode encode items stored decoded
empty_both = refl

-- a read that two writes serve, and that is cancelled with an item left
partly_served : row 0 (among [] [])
    (steps.Guest 16
    ∷ steps.Guest 16
    ∷ steps.Between 0 1 bytes
    ∷ steps.Read 1 bytes 1 0 5
    ∷ steps.Write 0 bytes 1 0 2
    ∷ steps.Write 0 bytes 1 2 2
    ∷ steps.CancelRead 1 bytes 1
    ∷ steps.DropWrite 0 bytes 1
    ∷ steps.Read 1 bytes 1 0 1
    ∷ steps.Read 1 bytes 1 0 1
    ∷ [])
    ≡ expected AStream
    (Calls Reading 5 []
    ∷ Calls Writing 2 []
    ∷ Calls Writing 2 []
    ∷ Cancels Reading
    ∷ Drops Writing
    ∷ Calls Reading 1 []
    ∷ [])
    (Some codes.Blocked
    ∷ Some (codes.Completed 2)
    ∷ Some (codes.Completed 2)
    ∷ Some (codes.Cancelled 4)
    ∷ Some (codes.Dropped 0)
    ∷ [])
unfolding course_by outcome performs_in refusal_in hosts_new writer_turn drive_turn with_stream_in moved_on reaction refusal performs operate delivered dropped cancelled with_stream ready_member decode encode items stored decoded
partly_served = refl
