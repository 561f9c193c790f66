-- Streams are isolated: the codes of one are those of its own events, and what is done to others leaves it.
-- Ours.
use Rattle.std.specs.Prelude.{◌≡◌, ℕ, ◌<◌, List, [], length, All}
use Rattle.strm_machine.specs.State.{producer_at, kept_at, consumer_at}
use Rattle.strm_machine.specs.declared.streams.Owner.TheVariants.{Host}
use Rattle.strm_host_machine.specs.Courses.{codes_of}
use Rattle.strm_host_machine.specs.World.{World, stream_in, writer_at, reader_at}
use Rattle.strm_host_laws.specs.HostMoments.{HostMoment}
use Rattle.strm_host_laws.specs.StreamEvents.{events_in, events, codes_answered}

-- what is answered for stream s in these moments of a run are the codes of its kind and its own events
abbrev pub AnswersByItself : ℕ → List HostMoment → World → Type 0
AnswersByItself s all last = codes_answered s all ≡ codes_of (stream_in last s).kind (events s all)

-- host writer n stays as an end of its stream: what is kept of it, its items that are kept, and those that it
-- holds
pub record WriterStays (n : ℕ) (old new : World) : Type 0 where
  pub producer : producer_at new.state n ≡ producer_at old.state n
  pub kept : kept_at new.state n ≡ kept_at old.state n
  pub holds : (writer_at new n).holds ≡ (writer_at old n).holds

-- the same of host reader r, and of what it took
pub record ReaderStays (r : ℕ) (old new : World) : Type 0 where
  pub consumer : consumer_at new.state r ≡ consumer_at old.state r
  pub holds : (reader_at new r).holds ≡ (reader_at old r).holds

-- stream s stays whole, with its host ends
pub record StreamStaysWhole (s : ℕ) (old new : World) : Type 0 where
  pub stream : stream_in new s ≡ stream_in old s
  pub writer : (n : ℕ) → (stream_in old s).writer.owner ≡ Host n → WriterStays n old new
  pub reader : (r : ℕ) → (stream_in old s).reader.owner ≡ Host r → ReaderStays r old new

-- a moment that is none of its own leaves a stream that was made before
abbrev pub LeavesOthers : HostMoment → Type 0
LeavesOthers m =
    (s : ℕ) → s < length m.before.state.streams → events_in s m ≡ [] → StreamStaysWhole s m.before m.after

-- streams are isolated in these moments of a run
pub record AreIsolated (all : List HostMoment) (last : World) : Type 0 where
  pub answers : (s : ℕ) → AnswersByItself s all last
  pub others : All LeavesOthers all
