-- One poll of a host end: its next record is used, if it is of such a poll. A step stops where the
-- record says Failed, where a host reader asked for an item that is none, and where the end broke its
-- rules, in this order.
-- wasmtime, futures_and_streams.rs, `poll_produce` and `poll_consume`. Ours: the records and the order.
use Rattle.std.specs.Prelude.{ℕ, ◌+◌, ◌==◌, Bool, true, false, ◌&&◌, ◌||◌, not, if◌then◌else◌, List, [], ◌∷◌, length, nat_le, nat_lt, Option, Some, None}
use Rattle.strm_codes.specs.declared.codes.TransmitKind.{TransmitKind}
use Rattle.strm_buffers.specs.declared.answers.Answer.{Answer}
use Rattle.strm_buffers.specs.declared.answers.Answer.TheVariants.{Failed}
use Rattle.strm_buffers.specs.declared.answers.ReaderSaid.{ReaderSaid}
use Rattle.strm_buffers.specs.Listing.{Item}
use Rattle.strm_buffers.specs.Said.{WriterSaid}
use Rattle.strm_buffers.specs.HostRules.{breaks_as_writer, breaks_as_reader}
use Rattle.strm_machine.specs.State.{consumer_at}
use Rattle.strm_machine.specs.declared.streams.HostEnd.TheVariants as ends
use Rattle.strm_host_machine.specs.Ends.{polled_writer, polled_reader}
use Rattle.strm_host_machine.specs.World.{World, stream_in, writer_at, reader_at, with_writer, with_reader}
use Rattle.strm_machine.specs.declared.stops.Stop.TheVariants.{HostFailed, HostBroke, BadItem}
use Rattle.strm_host_machine.specs.Outcomes.{Outcome, Stuck, stops}

-- A HOST WRITER

-- what is done after a poll, with the record that was used
abbrev pub AfterWriter : Type 0
AfterWriter = World → WriterSaid → Outcome

-- the answer of an end that failed
abbrev pub is_failed : Answer → Bool
is_failed Failed = true
is_failed _ = false

-- two flags are the same
abbrev pub same_flag : Bool → Bool → Bool
same_flag true b = b
same_flag false b = not b

-- the same room, stated or not
abbrev pub same_room : Option ℕ → Option ℕ → Bool
same_room None None = true
same_room (Some a) (Some b) = a == b
same_room _ _ = false

-- the record is of a poll with this room that was asked to finish or not
abbrev pub is_writer_poll : Option ℕ → Bool → WriterSaid → Bool
is_writer_poll room finish said = same_room said.room room && same_flag said.finish finish

-- what goes on after the record of a poll of host writer n, whose stream has this kind
abbrev pub writer_judged : World → TransmitKind → ℕ → WriterSaid → AfterWriter → Outcome
writer_judged world kind n said next =
    if is_failed said.answer then stops (HostFailed (ends.Writer n)) world
    else (if breaks_as_writer kind said then stops (HostBroke (ends.Writer n)) world else next world said)

-- the first of these records of host writer n is used
abbrev pub writer_says :
    World → ℕ → ℕ → Option ℕ → Bool → List WriterSaid → AfterWriter → Outcome
writer_says world s n room finish [] next = Stuck
writer_says world s n room finish (said ∷ more) next =
    if is_writer_poll room finish said
    then (let after = with_writer world n (polled_writer (writer_at world n) room said more) in
    writer_judged after (stream_in world s).kind n said next)
    else Stuck

-- a poll of host writer n for stream s, with this room
abbrev pub polls_writer : World → ℕ → ℕ → Option ℕ → Bool → AfterWriter → Outcome
polls_writer world s n room finish next =
    writer_says world s n room finish (writer_at world n).coming next

-- A HOST READER

-- what is done after a poll, with the record that was used
abbrev pub AfterReader : Type 0
AfterReader = World → ReaderSaid → Outcome

-- the record is of a poll that offered so many items after so many that were taken, and was asked to
-- finish or not; it took no more than were offered
abbrev pub is_reader_poll : ℕ → ℕ → Bool → ReaderSaid → Bool
is_reader_poll offered since finish said =
    (said.offered == offered)
    && ((said.since == since) && (same_flag said.finish finish && nat_le said.taken offered))

-- the first so many of the items that were offered, of which these are the first ones, are items
abbrev pub are_items : (ℕ → List Item) → ℕ → Bool
are_items first n = length (first n) == n

-- what the record tells of the items that were offered is so: those that were taken are items, and where
-- one more was asked for that is none, it was offered, and is none. No end can make another record
abbrev pub tells_truly : ℕ → (ℕ → List Item) → ReaderSaid → Bool
tells_truly offered first said =
    are_items first said.taken
    && (not said.bad || (nat_lt said.taken offered && not (are_items first (said.taken + 1))))

-- what goes on after the record of a poll of host reader r for stream s, of this kind
abbrev pub reader_judged : World → TransmitKind → ℕ → ℕ → ReaderSaid → AfterReader → Outcome
reader_judged world kind s r said next =
    if is_failed said.answer then stops (HostFailed (ends.Reader r)) world
    else (if said.bad then stops (BadItem s) world
    else (if breaks_as_reader kind said then stops (HostBroke (ends.Reader r)) world
    else next world said))

-- the first of these records of host reader r is used, if it is of such a poll and what it tells of the
-- items is so; of the items that it was offered, the first so many are those that it took
abbrev pub reader_says :
    World → ℕ → ℕ → ℕ → Bool → (ℕ → List Item) → List ReaderSaid → AfterReader → Outcome
reader_says world s r offered finish first [] next = Stuck
reader_says world s r offered finish first (said ∷ more) next =
    if is_reader_poll offered (consumer_at world.state r).since finish said && tells_truly offered first said
    then (let after = with_reader world r (polled_reader (reader_at world r) (first said.taken) more) in
    reader_judged after (stream_in world s).kind s r said next)
    else Stuck

-- a poll of host reader r for stream s, which is offered so many items
abbrev pub polls_reader :
    World → ℕ → ℕ → ℕ → Bool → (ℕ → List Item) → AfterReader → Outcome
polls_reader world s r offered finish first next =
    reader_says world s r offered finish first (reader_at world r).coming next
