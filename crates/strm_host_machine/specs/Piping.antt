-- The round of a pipe: a stream from a host writer to a host reader. Each is polled at most once, and
-- neither is asked to finish.
-- wasmtime, futures_and_streams.rs, `set_consumer` on `WriteState::HostReady`. Ours: one poll of each a
-- round.
use Rattle.std.specs.Prelude.{ℕ, Bool, true, false, ◌&&◌, ◌||◌, not, if◌then◌else◌, [], length, take, drop, Option, Some, None}
use Rattle.strm_codes.specs.declared.codes.TransmitKind.{TransmitKind}
use Rattle.strm_codes.specs.declared.codes.TransmitKind.TheVariants.{Future}
use Rattle.strm_buffers.specs.declared.answers.Answer.{Answer}
use Rattle.strm_buffers.specs.declared.answers.Answer.TheVariants.{Pending, Completed, Dropped}
use Rattle.strm_machine.specs.State.{producer_at, kept_at, consumer_at}
use Rattle.strm_host_machine.specs.World.{World, stream_in, writer_at, held_of, with_kept, with_producer, with_consumer, with_writer, with_stream_in}
use Rattle.strm_host_machine.specs.Outcomes.{Outcome, done, then_on}
use Rattle.strm_host_machine.specs.Polls.{polls_writer, polls_reader}
use Rattle.strm_host_machine.specs.Settling.{with_some_received, since_after}
use Rattle.strm_host_machine.specs.WriterTurn.{with_answer}
use Rattle.strm_host_machine.specs.Attaching.{has_items, without_ends}

-- FETCHING

-- with nothing held, a writer that is not over is polled, unless the reader waits for what it was offered
abbrev pub wants_items : World → ℕ → ℕ → Bool
wants_items world n r =
    not (consumer_at world.state r).resting
    && (not (has_items (held_of world n)) && not (producer_at world.state n).over)

-- it produces as many items as it likes, which are kept
abbrev pub fetches : World → ℕ → ℕ → ℕ → Outcome
fetches world s n r =
    if wants_items world n r
    then polls_writer world s n None false (λ after said. done (with_kept (with_answer after n said.answer []) n said.items))
    else done world

-- OFFERING

-- all that is held is kept, and the writer holds nothing
abbrev pub gathered : World → ℕ → World
gathered world n =
    let given = with_writer (with_kept world n (held_of world n)) n (record (writer_at world n) { holds = [] }) in
    with_producer given n (record (producer_at world.state n) { holding = false })

-- a reader that answered Pending waits, and is polled again
abbrev pub is_resting : Answer → Bool
is_resting Pending = true
is_resting _ = false

-- the reader answered so, and took so many of the items kept
abbrev pub passed_on : World → ℕ → ℕ → ℕ → Answer → ℕ → World
passed_on world s n r answer taken =
    let consumer = record (consumer_at world.state r) {
      since = since_after answer (consumer_at world.state r).since taken;
      resting = is_resting answer;
    } in
    with_stream_in
    (with_consumer (with_kept world n (drop taken (kept_at world.state n))) r consumer)
    s (with_some_received (stream_in world s) taken)

-- with items held, or where it waits, the reader is polled with all that is held; what follows goes by
-- its answer, if it was polled
abbrev pub offers : World → ℕ → ℕ → ℕ → (World → Option Answer → Outcome) → Outcome
offers world s n r next =
    let held = held_of world n in
    if has_items held || (consumer_at world.state r).resting
    then polls_reader (gathered world n) s r (length held) false (λ k. take k held)
    (λ after said. next (passed_on after s n r said.answer said.taken) (Some said.answer))
    else next world None

-- ENDING

-- the reader is done with the stream
abbrev pub is_done_with : TransmitKind → Option Answer → Bool
is_done_with kind (Some Dropped) = true
is_done_with Future (Some Completed) = true
is_done_with _ _ = false

-- all that the writer had was taken, and the reader waits for nothing
abbrev pub is_run_dry : World → ℕ → ℕ → Bool
is_run_dry world n r =
    (producer_at world.state n).over
    && (not (has_items (held_of world n)) && not (consumer_at world.state r).resting)

-- both ends of stream s are gone, and what is kept for the reader is given up
abbrev pub both_gone : World → ℕ → ℕ → World
both_gone world s n = with_kept (with_stream_in world s (without_ends (stream_in world s))) n []

-- a pipe that is done ends
abbrev pub ends_if_done : World → ℕ → ℕ → ℕ → Option Answer → Outcome
ends_if_done world s n r answer =
    if is_done_with (stream_in world s).kind answer || is_run_dry world n r
    then done (both_gone world s n)
    else done world

-- the round of stream s, from host writer n to host reader r
unfoldable pub pipe_round : World → ℕ → ℕ → ℕ → Outcome
pipe_round world s n r =
    then_on (fetches world s n r)
    (λ fetched. offers fetched s n r (λ after answer. ends_if_done after s n r answer))
