-- What a stream's course knows of a stream of the machine: all but addresses, payload, received items, and
-- who it is that has an end.
use Rattle.std.specs.Prelude.{ℕ, Bool, false, length}
use Rattle.std.specs.Option.{option_map}
use Rattle.strm_machine.specs.State.{producer_at}
use Rattle.strm_machine.specs.Endings.{pending_of}
use Rattle.strm_machine.specs.declared.streams.End.{End}
use Rattle.strm_machine.specs.declared.streams.Operation.{Operation}
use Rattle.strm_machine.specs.declared.streams.Owner.{Owner}
use Rattle.strm_machine.specs.declared.streams.Owner.TheVariants.{Held, Loose, Host, Gone}
use Rattle.strm_machine.specs.declared.streams.Stream.{Stream}
use Rattle.strm_host_machine.specs.Courses.{Holder, AGuest, NoGuest, AHost, NoMore, Progress, CourseEnd, Course}
use Rattle.strm_host_machine.specs.World.{World, stream_in, held_of}

-- who has an end, a guest or a host end, and not which
abbrev pub holder_of : Owner → Holder
holder_of (Held g handle) = AGuest
holder_of Loose = NoGuest
holder_of (Host n) = AHost
holder_of Gone = NoMore

-- an operation without its guest and its address
abbrev pub progress_of : Operation → Progress
progress_of o = record { left = o.left; pending = pending_of o }

-- an end
abbrev pub seen_end : End → CourseEnd
seen_end end = record {
  holder = holder_of end.owner;
  told = end.told;
  progress = option_map progress_of end.operation;
}

-- what is held for a stream of this write end's owner, and whether that is over
abbrev pub held_for : World → Owner → ℕ
held_for world (Host n) = length (held_of world n)
held_for world owner = 0

abbrev pub over_for : World → Owner → Bool
over_for world (Host n) = (producer_at world.state n).over
over_for world owner = false

-- a stream, and what is held for it
abbrev pub seen : Stream → ℕ → Bool → Course
seen stream held over = record {
  kind = stream.kind;
  passed = stream.passed;
  held = held;
  over = over;
  writer = seen_end stream.writer;
  reader = seen_end stream.reader;
}

-- stream s
abbrev pub course_of : ℕ → World → Course
course_of s world =
    let stream = stream_in world s in
    seen stream (held_for world stream.writer.owner) (over_for world stream.writer.owner)
