-- What the two polls of a pipe's round do to a store. Ours.
use Rattle.std.specs.Prelude.{◌≡◌, ℕ, ◌<◌, Bool, false, ◌&&◌, ◌||◌, not, List, ◌++◌, length, slice_set, Option, Some, None, Result}
use Rattle.strm_buffers.specs.declared.answers.Answer.{Answer}
use Rattle.strm_buffers.specs.Listing.{Item}
use Rattle.strm_buffers.specs.Tells.{Tells, told_by, with_told, told_by_reader, with_told_reader}
use Rattle.strm_machine.specs.State.{State, producer_at, kept_at, consumer_at, stream_at}
use Rattle.strm_machine.specs.declared.streams.Owner.{Owner}
use Rattle.strm_machine.specs.declared.streams.Owner.TheVariants.{Host}
use Rattle.strm_machine.specs.declared.streams.Stream.{Stream}
use Rattle.strm_host_machine.specs.World.{World}
use Rattle.strm_host_machine.specs.Outcomes.{Outcome}
use Rattle.strm_host_machine.specs.Attaching.{has_items}
use Rattle.strm_host_machine.specs.Piping.{offers, is_done_with, ends_if_done}
use Rattle.strm_host_machine.specs.Does.{Fits}
use Rattle.strm_host_turns.specs.Piping.{Fetching, fetching, Fetches, Offering, offering, Offers}
use Rattle.strm_host_turns.specs.declared.reader_turns.ReaderStops.{ReaderStops}
use Rattle.strm_host_turns.specs.declared.writer_turns.WriterStops.{WriterStops}

-- the host writer and the host reader of a stream from one to the other
abbrev pub ends_by : Owner → Owner → Option (ℕ × ℕ)
ends_by (Host n) (Host r) = Some (n, r)
ends_by _ _ = None

-- those of a pipe
abbrev pub pipe_ends : Stream → Option (ℕ × ℕ)
pipe_ends stream = ends_by stream.writer.owner stream.reader.owner

-- stream s goes from host writer n to host reader r, in a store that its host ends fit
pub record IsPipe (state : State) (tells : Tells) (s n r : ℕ) : Type 0 where
  pub made : s < length state.streams
  pub writer : (stream_at state s).writer.owner ≡ Host n
  pub reader : (stream_at state s).reader.owner ≡ Host r
  pub fits : Fits state tells

-- what is held on the stream of host writer n: what is kept of it, and then what it tells that it holds
abbrev pub held_on : State → Tells → ℕ → List Item
held_on state tells n = kept_at state n ++ (told_by tells n).holds

-- the writer is to be polled
abbrev pub fetch_due : State → Tells → ℕ → ℕ → Bool
fetch_due state tells n r =
    not (consumer_at state r).resting && (not (has_items (held_on state tells n)) && not (producer_at state n).over)

-- the reader is
abbrev pub offer_due : State → Tells → ℕ → ℕ → Bool
offer_due state tells n r = has_items (held_on state tells n) || (consumer_at state r).resting

-- the pipe ends once the reader answered so, if it was polled
abbrev pub end_due : State → Tells → ℕ → ℕ → ℕ → Option Answer → Bool
end_due state tells s n r answer =
    is_done_with (stream_at state s).kind answer
    || ((producer_at state n).over && (not (has_items (held_on state tells n)) && not (consumer_at state r).resting))

-- host writer n was polled for stream s
pub record FetchesStream (old new : State) (tells told : Tells) (s n : ℕ) (result : Result (Unit {0}) WriterStops) : Type 0 where
  pub after : Fetching
  pub fetches : Fetches result (stream_at old s).kind (fetching (producer_at old n) (kept_at old n) (told_by tells n)) after
  pub state : new ≡ record old {
    producers = slice_set old.producers n after.producer;
    kept = slice_set old.kept n after.kept;
  }
  pub ends : told ≡ with_told tells n after.tells

-- host reader r was polled for stream s with all that is held
pub record OffersStream (old new : State) (tells told : Tells) (s n r : ℕ) (result : Result Answer ReaderStops) : Type 0 where
  pub after : Offering
  pub offers : Offers result
      (offering (stream_at old s) (consumer_at old r) (kept_at old n) (told_by tells n) (told_by_reader tells r)) after
  pub state : new ≡ record old {
    streams = slice_set old.streams s after.stream;
    producers = slice_set old.producers n (record (producer_at old n) { holding = false });
    kept = slice_set old.kept n after.kept;
    consumers = slice_set old.consumers r after.consumer;
  }
  pub ends : told ≡ with_told_reader (with_told tells n after.writer) r after.reader

-- what is held is offered, and the pipe ends if it is done
abbrev pub offer_part : ℕ → ℕ → ℕ → World → Outcome
offer_part s n r world = offers world s n r (λ after answer. ends_if_done after s n r answer)
