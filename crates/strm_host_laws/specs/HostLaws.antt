-- What holds of every run with host ends. Ours.
use Rattle.std.specs.Prelude.{◌≡◌, ℕ, ◌+◌, ◌-◌, ◌^◌, ◌≤◌, min, ◌==◌, Bool, true, false, ◌&&◌, ◌||◌, if◌then◌else◌, List, [], ◌∷◌, ◌++◌, length, map, take, All, Option, Some, IsSome}
use Rattle.std.specs.Option.{option_map}
use Rattle.strm_codes.specs.Layout.{item_type}
use Rattle.strm_codes.specs.declared.codes.TransmitKind.TheVariants.{Future}
use Rattle.strm_memory.specs.Items.{AreItems}
use Rattle.strm_buffers.specs.Listing.{Item}
use Rattle.strm_buffers.specs.Said.{WriterSaid}
use Rattle.strm_buffers.specs.declared.answers.ReaderSaid.{ReaderSaid}
use Rattle.strm_machine.specs.State.{State, is_host, producer_at, consumer_at, stream_at, is_gone}
use Rattle.strm_machine.specs.Soundness.{IsUnmoved}
use Rattle.strm_machine.specs.declared.streams.Stream.{Stream}
use Rattle.strm_machine.specs.Moments.{Moment, MemoryPlace, place_of, is_named, rise, items_in_memory, received, got_in}
use Rattle.strm_machine.specs.declared.acts.Act.{Act}
use Rattle.strm_machine.specs.declared.acts.Act.TheVariants.{OnEnd, OnHost, Drive}
use Rattle.strm_machine.specs.declared.acts.EndAct.TheVariants.{Operate}
use Rattle.strm_machine.specs.declared.acts.HostAct.TheVariants.{New, Feed, Pipe, Grant}
use Rattle.strm_machine.specs.declared.replies.Reply.{Reply}
use Rattle.strm_machine.specs.declared.replies.Reply.TheVariants as replies
use Rattle.strm_machine.specs.declared.streams.Owner.{Owner}
use Rattle.strm_machine.specs.declared.streams.Owner.TheVariants.{Host}
use Rattle.strm_machine.specs.declared.streams.Side.{Side}
use Rattle.strm_machine.specs.declared.streams.Side.TheVariants.{Writing, Reading}
use Rattle.strm_host_machine.specs.Ends.{Writer, Reader, writer_in, reader_in}
use Rattle.strm_host_machine.specs.World.{World, stream_in, writer_at, reader_at, held_of}
use Rattle.strm_host_machine.specs.Does.{is_ended, SaidFits}
use Rattle.strm_laws.specs.Conservation.{calls, writes, reads, all_reported, all_handed}
use Rattle.strm_laws.specs.Laws.{total_of_calls, moved_at, IsWithinAsked}
use Rattle.strm_host_laws.specs.HostMoments.{Part, Acts, Turns, HostMoment}

-- CLOSES

-- of host writers that tell this, in a run from a world to a state: those are closed that were closed
-- at first, and those that became gone, and no others
abbrev pub ClosesExactly : World → State → List Writer → Type 0
ClosesExactly first state writers =
    (n : ℕ) →
    (writer_in writers n).closed ≡ ((writer_at first n).closed || is_ended (producer_at state n).duty)

-- those tell that they are gone that were ends of streams and are none any more, and no others
abbrev pub EndsExactly : State → List Writer → Type 0
EndsExactly state writers = (n : ℕ) → (writer_in writers n).ended ≡ is_ended (producer_at state n).duty

-- RECORDS AND FEEDS

-- of records that were to come and those that are, the ones used since: they left the front
abbrev pub used_records : {A : Type 0} → List A → List A → List A
used_records before after = take (length before - length after) before

-- the records of host writer n that a moment used
abbrev pub used_in : ℕ → HostMoment → List WriterSaid
used_in n m = used_records (writer_at m.before n).coming (writer_at m.after n).coming

-- and those that these moments used
abbrev pub all_used : ℕ → List HostMoment → List WriterSaid
all_used n [] = []
all_used n (m ∷ more) = used_in n m ++ all_used n more

-- the items of records
abbrev pub items_of_records : List WriterSaid → List Item
items_of_records [] = []
items_of_records (said ∷ more) = said.items ++ items_of_records more

-- what a feed passes on to host writer n, if it is accepted: the bytes, behind so many records
abbrev pub fed_in : ℕ → ℕ → Part → Reply → List (ℕ × List ℕ)
fed_in n spoken (Acts (OnHost host (Feed bytes))) replies.Done =
    if host == n then (spoken, bytes) ∷ [] else []
fed_in n spoken part reply = []

-- what these moments pass on to it, in order
abbrev pub all_fed : ℕ → List HostMoment → List (ℕ × List ℕ)
all_fed n [] = []
all_fed n (m ∷ more) = fed_in n (writer_at m.before n).spoken m.part m.reply ++ all_fed n more

-- in these moments a host writer that was this one first and is that one then used its records in order,
-- each once, and counted them; it heard exactly what was passed on to it, each behind the records that it
-- had then; and it stayed of its kind and payload
pub record WriterGoesOn (n : ℕ) (all : List HostMoment) (first last : Writer) : Type 0 where
  pub records : first.coming ≡ all_used n all ++ last.coming
  pub spoken : last.spoken ≡ first.spoken + length (all_used n all)
  pub heard : last.heard ≡ option_map (λ xs. xs ++ all_fed n all) first.heard
  pub kind : last.kind ≡ first.kind
  pub payload : last.payload ≡ first.payload

-- where a step stops, a host writer that was this one before used these records more, in order, and counted them;
-- it heard nothing more
pub record WriterHalts (before after : Writer) : Type 0 where
  pub said : List WriterSaid
  pub records : before.coming ≡ said ++ after.coming
  pub spoken : after.spoken ≡ before.spoken + length said
  pub heard : after.heard ≡ before.heard
  pub kind : after.kind ≡ before.kind
  pub payload : after.payload ≡ before.payload

-- WHAT HOST WRITERS PRODUCED

-- what a host writer held when stream s was made of it
abbrev pub made_of : ℕ → World → Part → Reply → List Item
made_of s world (Acts (OnHost host New)) (replies.Number n) =
    if n == s then (writer_at world host).holds else []
made_of s world part reply = []

-- and in one of these moments
abbrev pub held_first : ℕ → List HostMoment → List Item
held_first s [] = []
held_first s (m ∷ more) = made_of s m.before m.part m.reply ++ held_first s more

-- the items of the records that a write end of this owner used in a moment
abbrev pub produced_by : HostMoment → Owner → List Item
produced_by m (Host n) = items_of_records (used_in n m)
produced_by m owner = []

-- on stream s
abbrev pub produced_in : ℕ → HostMoment → List Item
produced_in s m = produced_by m (stream_in m.before s).writer.owner

-- all that the host writer of stream s produced in these moments: what it held when the stream was made,
-- and then the items of its records
abbrev pub produced_on : ℕ → List HostMoment → List Item
produced_on s [] = []
produced_on s (m ∷ more) = made_of s m.before m.part m.reply ++ (produced_in s m ++ produced_on s more)

-- WHAT WAS RECEIVED

-- the act that a part is of
abbrev pub act_in : Part → Act
act_in (Acts act) = act
act_in (Turns s) = Drive

-- a moment without what its host ends tell
abbrev pub plain : HostMoment → Moment
plain m = record {
  act = act_in m.part;
  before = m.before.state;
  reply = m.reply;
  after = m.after.state;
}

-- and all of these
abbrev pub plains : List HostMoment → List Moment
plains all = map plain all

-- where a write writes from, and else where one that waits does
abbrev pub write_place : Act → MemoryPlace → MemoryPlace
write_place (OnEnd Writing end (Operate address count)) waiting =
    record { guest = end.guest; address = address }
write_place _ waiting = waiting

-- where the items lie that a guest offers in a moment: at the place of the write that is called in it on
-- stream s, and else of the write that waited before it
abbrev pub source : ℕ → Moment → MemoryPlace
source s m =
    let waiting = place_of (stream_at m.before s).writer.operation in
    if is_named s Writing m then write_place m.act waiting else waiting

-- the records of host reader r that a moment used
abbrev pub used_by : ℕ → HostMoment → List ReaderSaid
used_by r m = used_records (reader_at m.before r).coming (reader_at m.after r).coming

-- how many items these records say were taken
abbrev pub count_taken : List ReaderSaid → ℕ
count_taken [] = 0
count_taken (said ∷ more) = said.taken + count_taken more

-- what is taken of them, as it lay in the writer's memory just before the moment
abbrev pub taken_in_moment : ℕ → Moment → List (Option Item)
taken_in_moment s m =
    items_in_memory (stream_at m.before s).payload m.before.guests (source s m).guest (source s m).address (rise s m)

-- what host reader r took in a moment, by the owner of the write end: of a host writer as many items as its
-- records say, from the front of what was held and what was produced then, and else what a guest offered
abbrev pub taken_from_owner : ℕ → HostMoment → ℕ → Owner → List (Option Item)
taken_from_owner s m r (Host n) =
    map Some (take (count_taken (used_by r m)) (held_of m.before n ++ produced_in s m))
taken_from_owner s m r owner = taken_in_moment s (plain m)

-- on stream s, by the owner of its read end; a guest took none
abbrev pub taken_by : ℕ → HostMoment → Owner → List (Option Item)
taken_by s m (Host r) = taken_from_owner s m r (stream_in m.before s).writer.owner
taken_by s m owner = []

-- what host readers took on stream s in a moment
abbrev pub host_taken_in : ℕ → HostMoment → List (Option Item)
host_taken_in s m = taken_by s m (stream_in m.before s).reader.owner

-- what host readers took on stream s in these moments
abbrev pub all_taken : ℕ → List HostMoment → List (Option Item)
all_taken s [] = []
all_taken s (m ∷ more) = host_taken_in s m ++ all_taken s more

-- what was received in a moment, by the owner of the read end: a guest has it in its memory just after
-- it, and a host reader took it
abbrev pub got_by : ℕ → HostMoment → Owner → List (Option Item)
got_by s m (Host r) = taken_from_owner s m r (stream_in m.before s).writer.owner
got_by s m owner = got_in s (plain m)

-- the items received on stream s in a moment, whoever received them
abbrev pub host_got_in : ℕ → HostMoment → List (Option Item)
host_got_in s m = got_by s m (stream_in m.before s).reader.owner

-- the items received on stream s in these moments, whoever received them
abbrev pub host_got : ℕ → List HostMoment → List (Option Item)
host_got s [] = []
host_got s (m ∷ more) = host_got_in s m ++ host_got s more

-- DELIVERS

-- stream s was made of a host writer in a moment
abbrev pub is_made_by : ℕ → Part → Reply → Bool
is_made_by s (Acts (OnHost host New)) (replies.Number n) = n == s
is_made_by s part reply = false

-- and in one of these
abbrev pub is_hosted : ℕ → List HostMoment → Bool
is_hosted s [] = false
is_hosted s (m ∷ more) = is_made_by s m.part m.reply || is_hosted s more

-- its read end went to a host reader in a moment
abbrev pub is_piped_in : ℕ → Part → Reply → Bool
is_piped_in s (Acts (OnHost host (Pipe reader))) replies.Done = reader == s
is_piped_in s part reply = false

-- and in one of these
abbrev pub was_piped : ℕ → List HostMoment → Bool
was_piped s [] = false
was_piped s (m ∷ more) = is_piped_in s m.part m.reply || was_piped s more

-- what is held on a stream of this write end's owner
abbrev pub held_for_owner : World → Owner → List Item
held_for_owner world (Host n) = held_of world n
held_for_owner world owner = []

-- what a host writer holds and what its records produce are items of its payload
pub record Supplies (writer : Writer) : Type 0 where
  pub holds : AreItems (item_type writer.payload) writer.holds
  pub coming : All (SaidFits writer.payload) writer.coming

-- what the host writer of stream s produced is, in order, what was received and what is held, while it is
-- an end of the stream; from then on what was received comes first of it, and the rest is given up. As
-- many items were counted, up to the end of the count's type, which is not reached where no host reader reads.
-- A future passes one item at most, if its writer held no more when the future was made
pub record DeliversAll (s : ℕ) (all : List HostMoment) (last : World) : Type 0 where
  pub there :
      is_host (stream_in last s).writer.owner ≡ true →
      map Some (produced_on s all) ≡ host_got s all ++ map Some (held_for_owner last (stream_in last s).writer.owner)
  pub given_up : is_hosted s all ≡ true →
      host_got s all ≡ take (length (host_got s all)) (map Some (produced_on s all))
  pub count : is_hosted s all ≡ true → was_piped s all ≡ false →
      length (host_got s all) ≡ received s last.state
  pub capped : is_hosted s all ≡ true →
      received s last.state ≡ min (length (host_got s all)) (2 ^ 128 - 1)
  pub one : is_hosted s all ≡ true → (stream_in last s).kind ≡ Future → length (held_first s all) ≤ 1 →
      length (host_got s all) ≤ 1

-- HOST READERS

-- the read end of stream s went to host reader r in a moment
abbrev pub is_piped_to : ℕ → ℕ → Part → Reply → Bool
is_piped_to s r (Acts (OnHost host (Pipe reader))) replies.Done = (reader == s) && (host == r)
is_piped_to s r part reply = false

-- and in one of these
abbrev pub is_pipe_of : ℕ → ℕ → List HostMoment → Bool
is_pipe_of s r [] = false
is_pipe_of s r (m ∷ more) = is_piped_to s r m.part m.reply || is_pipe_of s r more

-- of host readers that tell this, in a run from a world to a state: those are closed that were closed at
-- first, and those that became gone, and no others
abbrev pub ReadersCloseExactly : World → State → List Reader → Type 0
ReadersCloseExactly first state readers =
    (r : ℕ) →
    (reader_in readers r).closed ≡ ((reader_at first r).closed || is_ended (consumer_at state r).duty)

-- and those that these moments used
abbrev pub all_used_by : ℕ → List HostMoment → List ReaderSaid
all_used_by r [] = []
all_used_by r (m ∷ more) = used_by r m ++ all_used_by r more

-- what a grant gives host reader r, if it is accepted: so many items, behind so many records
abbrev pub granted_in : ℕ → ℕ → Part → Reply → List (ℕ × ℕ)
granted_in r spoken (Acts (OnHost host (Grant count))) replies.Done =
    if host == r then (spoken, count) ∷ [] else []
granted_in r spoken part reply = []

-- what these moments grant it, in order
abbrev pub all_granted : ℕ → List HostMoment → List (ℕ × ℕ)
all_granted r [] = []
all_granted r (m ∷ more) = granted_in r (reader_at m.before r).spoken m.part m.reply ++ all_granted r more

-- in these moments a host reader that was this one first and is that one then used its records in order,
-- each once, and counted them; it heard exactly what it was granted, each behind the records that it had
-- then; and it stayed of its kind and payload
pub record ReaderGoesOn (r : ℕ) (all : List HostMoment) (first last : Reader) : Type 0 where
  pub records : first.coming ≡ all_used_by r all ++ last.coming
  pub spoken : last.spoken ≡ first.spoken + length (all_used_by r all)
  pub heard : last.heard ≡ option_map (λ xs. xs ++ all_granted r all) first.heard
  pub kind : last.kind ≡ first.kind
  pub payload : last.payload ≡ first.payload

-- where a step stops, a host reader used these records more, in order, and counted them; it heard nothing more
pub record ReaderHalts (before after : Reader) : Type 0 where
  pub said : List ReaderSaid
  pub records : before.coming ≡ said ++ after.coming
  pub spoken : after.spoken ≡ before.spoken + length said
  pub heard : after.heard ≡ before.heard
  pub kind : after.kind ≡ before.kind
  pub payload : after.payload ≡ before.payload

-- what host readers took of a stream are items; and a host reader that tells what it took has, behind what it
-- had at first, exactly what was taken of its stream
pub record TellsTaken (s r : ℕ) (all : List HostMoment) (first last : Reader) : Type 0 where
  pub items : All IsSome (all_taken s all)
  pub told : is_pipe_of s r all ≡ true →
      option_map (λ xs. map Some xs) last.holds
      ≡ option_map (λ xs. map Some xs ++ all_taken s all) first.holds

-- CONSERVATION AMONG HOST READERS

-- on stream s, which guests write, what was received is what the writes handed over, item by item, whoever
-- received it. It is as many items as the writes report, or have moved so far, and as the reads do, together
-- with what host readers took; no call reports more than it asked for. All that was told to an end adds up to
-- the same; as many were counted, and each is an item
pub record ConservesAmong (s : ℕ) (all : List HostMoment) (end : State) : Type 0 where
  pub items :
      host_got s all
      ≡ all_handed (stream_at end s).kind s (plains all) (moved_at s Writing end) 0 (writes s (plains all))
  pub written :
      length (host_got s all)
      ≡ total_of_calls (stream_at end s).kind (moved_at s Writing end) (writes s (plains all))
  pub read :
      length (host_got s all)
      ≡ total_of_calls (stream_at end s).kind (moved_at s Reading end) (reads s (plains all)) + length (all_taken s all)
  pub asked : (side : Side) →
      All (IsWithinAsked (stream_at end s).kind (moved_at s side end)) (calls s side (plains all))
  pub told_writer :
      all_reported (stream_at end s).kind s Writing (plains all) + moved_at s Writing end
      ≡ length (host_got s all)
  pub told_reader :
      all_reported (stream_at end s).kind s Reading (plains all) + moved_at s Reading end
      + length (all_taken s all)
      ≡ length (host_got s all)
  pub count : length (host_got s all) ≡ received s end
  pub whole : All IsSome (host_got s all)

-- MOVES

-- a write that has not met has moved nothing, unless a host reader has the read end, or the write end is
-- gone; and neither has a read, unless a host writer has the write end, or the read end is gone
pub record MovesByHosts (stream : Stream) : Type 0 where
  pub writing : is_host stream.reader.owner ≡ false → is_gone stream.writer.owner ≡ false →
      IsUnmoved stream.writer.operation
  pub reading : is_host stream.writer.owner ≡ false → is_gone stream.reader.owner ≡ false →
      IsUnmoved stream.reader.operation
