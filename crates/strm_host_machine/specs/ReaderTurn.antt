-- The reader turn: a guest's open write on a stream that a host reader reads.
-- wasmtime, futures_and_streams.rs, `guest_write` with `ReadState::HostReady`, and what `set_consumer`
-- makes of it.
use Rattle.std.specs.Prelude.{ℕ, List}
use Rattle.strm_codes.specs.Layout.{item_type}
use Rattle.strm_codes.specs.declared.payloads.Payload.{Payload}
use Rattle.strm_buffers.specs.declared.answers.Answer.{Answer}
use Rattle.strm_buffers.specs.Listing.{Item, items_in}
use Rattle.strm_machine.specs.State.{Guest, memory_in, consumer_at}
use Rattle.strm_machine.specs.declared.streams.Side.TheVariants.{Writing}
use Rattle.strm_machine.specs.declared.streams.Operation.{Operation}
use Rattle.strm_host_machine.specs.World.{World, stream_in, with_consumer, with_stream_in}
use Rattle.strm_host_machine.specs.Outcomes.{Outcome, done}
use Rattle.strm_host_machine.specs.Polls.{polls_reader}
use Rattle.strm_host_machine.specs.Settling.{result_of, moved_on, since_after}

-- the first so many items of those that a write has left, as they lie in its guest's memory
abbrev pub lifted_items : List Guest → Payload → Operation → ℕ → List Item
lifted_items guests payload write n = items_in (item_type payload) (memory_in guests write.guest) write.address n

-- host reader r answered so, and took so many items
abbrev pub reader_with_taken : World → ℕ → Answer → ℕ → World
reader_with_taken world r answer taken =
    let consumer = consumer_at world.state r in
    with_consumer world r (record consumer { since = since_after answer consumer.since taken })

-- a write on stream s loses so many items, and is settled so, as this answer says
abbrev pub gives_up : World → ℕ → Operation → ℕ → Answer → World
gives_up world s write taken answer =
    with_stream_in world s (moved_on Writing (stream_in world s) write taken (result_of answer))

-- the turn of host reader r for the open write on stream s: one poll that offers the items left
unfoldable pub reader_turn : World → ℕ → ℕ → Operation → Outcome
reader_turn world s r write =
    polls_reader world s r write.left write.asked (lifted_items world.state.guests (stream_in world s).payload write)
    (λ after said. done (gives_up (reader_with_taken after r said.answer said.taken) s write said.taken said.answer))
