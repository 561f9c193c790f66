-- The writer turn: a guest's open read on a stream that a host writer writes.
-- wasmtime, futures_and_streams.rs, `guest_read` with `WriteState::HostReady`, and what `set_producer`
-- makes of it.
use Rattle.std.specs.Prelude.{ℕ, Bool, true, false, ◌||◌, if◌then◌else◌, List, [], ◌∷◌, length, take, drop, Option, Some}
use Rattle.strm_codes.specs.Layout.{item_type}
use Rattle.strm_codes.specs.declared.payloads.Payload.{Payload}
use Rattle.strm_codes.specs.declared.codes.StreamResult.{StreamResult}
use Rattle.strm_codes.specs.declared.codes.StreamResult.TheVariants as results
use Rattle.strm_memory.specs.Items.{stored_at}
use Rattle.strm_buffers.specs.declared.answers.Answer.{Answer}
use Rattle.strm_buffers.specs.declared.answers.Answer.TheVariants.{Dropped}
use Rattle.strm_buffers.specs.Listing.{Item}
use Rattle.strm_machine.specs.State.{Guest, memory_in, with_memory, producer_at}
use Rattle.strm_machine.specs.declared.streams.Side.TheVariants.{Reading}
use Rattle.strm_machine.specs.declared.streams.Operation.{Operation}
use Rattle.strm_host_machine.specs.Ends.{given_writer}
use Rattle.strm_host_machine.specs.World.{World, stream_in, writer_at, with_guests, with_producer, with_writer, with_stream_in}
use Rattle.strm_host_machine.specs.Attaching.{has_items}
use Rattle.strm_host_machine.specs.Outcomes.{Outcome, done}
use Rattle.strm_host_machine.specs.Polls.{polls_writer}
use Rattle.strm_host_machine.specs.Settling.{result_of, moved_on}

-- the guests once these items were lowered where the read's next ones are to lie
abbrev pub lowered_items : List Guest → Payload → Operation → List Item → List Guest
lowered_items guests payload read items =
    with_memory guests read.guest
    (stored_at (item_type payload) (memory_in guests read.guest) read.address items)

-- a read on stream s receives these items, and is settled so, if it is
abbrev pub receives : World → ℕ → Operation → List Item → Option StreamResult → World
receives world s read items result =
    let stream = stream_in world s in
    let guests = lowered_items world.state.guests stream.payload read items in
    with_stream_in (with_guests world guests) s (moved_on Reading stream read (length items) result)

-- a writer that answered Dropped has no more to come
abbrev pub is_last : Answer → Bool
is_last Dropped = true
is_last _ = false

-- what is kept of host writer n after this answer: it is over, if that says so, and holds these items
abbrev pub with_answer : World → ℕ → Answer → List Item → World
with_answer world n answer held =
    let producer = producer_at world.state n in
    with_producer world n (record producer { over = producer.over || is_last answer; holding = has_items held })

-- how an answer settles a read, with these items held for the next one: what is held is yet to come
abbrev pub produced_result : Answer → List Item → Option StreamResult
produced_result Dropped (item ∷ items) = Some results.Completed
produced_result answer held = result_of answer

-- so many items that host writer n holds were handed out
abbrev pub hands_out : World → ℕ → ℕ → World
hands_out world n count =
    let writer = given_writer (writer_at world n) count in
    with_producer (with_writer world n writer) n (record (producer_at world.state n) { holding = has_items writer.holds })

-- held items are handed over without a poll
abbrev pub hands_over : World → ℕ → ℕ → Operation → World
hands_over world s n read =
    let writer = writer_at world n in
    receives (hands_out world n read.left) s read (take read.left writer.holds) (Some results.Completed)

-- one poll with room for the items left: as many of its items are lowered, and the rest is held
abbrev pub is_produced : World → ℕ → ℕ → Operation → Outcome
is_produced world s n read =
    polls_writer world s n (Some read.left) read.asked
    (λ after said. done
    (receives (with_answer after n said.answer (drop read.left said.items)) s read (take read.left said.items)
    (produced_result said.answer (drop read.left said.items))))

-- by what the writer holds
abbrev pub produces : World → ℕ → ℕ → Operation → List Item → Outcome
produces world s n read (item ∷ items) = done (hands_over world s n read)
produces world s n read [] =
    if (producer_at world.state n).over
    then done (receives world s read [] (Some results.Dropped))
    else is_produced world s n read

-- the turn of host writer n for the open read on stream s
unfoldable pub writer_turn : World → ℕ → ℕ → Operation → Outcome
writer_turn world s n read = produces world s n read (writer_at world n).holds
