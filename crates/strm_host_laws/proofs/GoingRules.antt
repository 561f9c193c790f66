-- The changes that a part of a run is made of, and what each of them leaves of a stream.
use Rattle.std.proofs.Common.{◌≡◌, ℕ, ◌==◌, Bool, true, false, cond, List, ◌∷◌, length, get_or, set, Option, None, refl, sym, ap, subst, ◌∙◌, ◌⊎◌, inl, inr}
use Rattle.std.specs.Prelude.{slice_set}
use Rattle.strm_codes.specs.declared.codes.StreamResult.{StreamResult}
use Rattle.strm_buffers.specs.declared.answers.Answer.{Answer}
use Rattle.strm_buffers.specs.declared.answers.ReaderSaid.{ReaderSaid}
use Rattle.strm_buffers.specs.Listing.{Item}
use Rattle.strm_buffers.specs.Said.{WriterSaid, past_room}
use Rattle.strm_machine.specs.State.{State, Guest, no_stream, no_consumer, consumer_at}
use Rattle.strm_machine.specs.Sides.{opposite, end_of, with_operation}
use Rattle.strm_machine.specs.Endings.{delivered}
use Rattle.strm_machine.specs.Reactions.{reaction}
use Rattle.strm_machine.specs.declared.acts.Act.{Act}
use Rattle.strm_machine.specs.declared.acts.Act.TheVariants.{OnHost}
use Rattle.strm_machine.specs.declared.acts.HostAct.TheVariants.{New, Feed, Pipe, Grant}
use Rattle.strm_machine.specs.declared.streams.Duty.TheVariants.{Serves}
use Rattle.strm_machine.specs.declared.streams.Owner.{Owner}
use Rattle.strm_machine.specs.declared.streams.Owner.TheVariants.{Host, Gone}
use Rattle.strm_machine.specs.declared.streams.Operation.{Operation}
use Rattle.strm_machine.specs.declared.streams.Side.{Side}
use Rattle.strm_machine.specs.declared.streams.Side.TheVariants.{Writing, Reading}
use Rattle.strm_machine.specs.declared.streams.Stream.{Stream}
use Rattle.strm_machine.specs.declared.replies.Reply.{Reply}
use Rattle.strm_host_machine.specs.Ends.{Writer, Reader, polled_writer, polled_reader}
use Rattle.strm_host_machine.specs.World.{World, stream_in, writer_at, reader_at, with_guests, with_producer, with_kept, with_consumer, with_writer, with_reader, leaves_writer, leaves_reader, with_stream_in}
use Rattle.strm_host_machine.specs.Outcomes.{Outcome, Goes, Stops, Stuck}
use Rattle.strm_host_machine.specs.Settling.{with_some_received, moved_on, since_after}
use Rattle.strm_host_machine.specs.WriterTurn.{with_answer, hands_out}
use Rattle.strm_host_machine.specs.ReaderTurn.{reader_with_taken, gives_up}
use Rattle.strm_host_machine.specs.Attaching.{hosted_stream, with_new_stream, new_producer, piped, without_ends, forsaken}
use Rattle.strm_host_machine.specs.Piping.{is_resting}
use Rattle.strm_machine.specs.Operating.{with_received}
use Rattle.strm_host_machine.specs.HostRefusals.{refusal_in}
use Rattle.strm_host_machine.proofs.SettleLemmas.{is_done_with as is_settled_done, leaves_writer-stays, leaves_reader-stays, delivered-owners}
use Rattle.strm_host_laws.specs.HostMoments.{Part, Acts}
use Rattle.strm_machine.proofs.EndLemmas.{each_side}
use Rattle.strm_machine.proofs.TableLemmas.{OwnersStay, set-keeps}
use Rattle.strm_host_laws.proofs.TurnMoves.{moved_on-moves, moved-theirs, moved-mine}

-- CHANGES

-- another state
abbrev pub with_state : World → State → World
with_state w state = record w { state = state }

-- the world after a turn of host reader r at stream s, by what it told
abbrev pub gave_up : ℕ → ℕ → Operation → World → ReaderSaid → World
gave_up s r write after said = gives_up (reader_with_taken after r said.answer said.taken) s write said.taken said.answer

-- what is kept of host reader r after its answer in the round of a pipe, and after so many items that it took
abbrev pub with_passed : World → ℕ → Answer → ℕ → World
with_passed w r answer taken =
    with_consumer w r (record (consumer_at w.state r) { since = since_after answer (consumer_at w.state r).since taken; resting = is_resting answer })

-- another stream has the same owners and payload
pub record SameOwned (old new : Stream) : Type 0 where
  pub owners : OwnersStay old new
  pub payload : new.payload ≡ old.payload

-- an owner stays, or is gone
abbrev pub StaysOrGone : Owner → Owner → Type 0
StaysOrGone old new = (new ≡ old) ⊎ (new ≡ Gone)

-- another stream has the same payload, and of each end the same owner or none
pub record LeftBy (old new : Stream) : Type 0 where
  pub owners : (side : Side) → StaysOrGone (end_of side old).owner (end_of side new).owner
  pub payload : new.payload ≡ old.payload

-- what is done before the first end may go: a read or write opens, a host end is polled and goes on, items are
-- handed out, and kept for a host reader
pub record Begins (K : World → World → Type 0) : Type 0 where
  pub stays : (w : World) → K w w
  pub joins : (a b c : World) → K a b → K b c → K a c
  pub opens : (w : World) (s : ℕ) (stream : Stream) → SameOwned (stream_in w s) stream → K w (with_stream_in w s stream)
  pub says : (w : World) (n : ℕ) (room : Option ℕ) (said : WriterSaid) (more : List WriterSaid) → (writer_at w n).coming ≡ said ∷ more → K w (with_answer (with_writer w n (polled_writer (writer_at w n) room said more)) n said.answer (past_room room said.items))
  pub takes : (w : World) (r : ℕ) (took : List Item) (said : ReaderSaid) (more : List ReaderSaid) → (reader_at w r).coming ≡ said ∷ more → K w (with_reader w r (polled_reader (reader_at w r) took more))
  pub gives : (w : World) (n k : ℕ) → K w (hands_out w n k)
  pub keeps : (w : World) (n : ℕ) (items : List Item) → K w (with_kept w n items)

-- and where a poll of a host writer stops the step
pub record Stopping (K : World → World → Type 0) : Type 0 where
  pub begins : Begins K
  pub polls : (w : World) (n : ℕ) (room : Option ℕ) (said : WriterSaid) (more : List WriterSaid) → (writer_at w n).coming ≡ said ∷ more → K w (with_writer w n (polled_writer (writer_at w n) room said more))

-- host writer n has a stream more
abbrev pub hosted : World → ℕ → World
hosted w n = with_new_stream (with_producer w n (new_producer (length w.state.streams) (writer_at w n))) (hosted_stream (writer_at w n) n)

-- host reader r reads stream s
abbrev pub piped_to : World → ℕ → ℕ → World
piped_to w s r = with_stream_in (with_consumer w r (record no_consumer { duty = Serves s })) s (piped (stream_in w s) r)

-- all that may be done, but for feeds and grants
pub record Rules (R : World → World → Type 0) : Type 0 where
  pub begins : Begins R
  pub reacts : (w : World) (act : Act) → R w (with_state w (reaction w.state act).state)
  pub lowers : (w : World) (guests : List Guest) → R w (with_guests w guests)
  pub counts : (w : World) (r : ℕ) (answer : Answer) (taken : ℕ) → R w (reader_with_taken w r answer taken)
  pub rests : (w : World) (r : ℕ) (answer : Answer) (taken : ℕ) → R w (with_passed w r answer taken)
  pub leaves : (w : World) (s : ℕ) (stream : Stream) → LeftBy (stream_in w s) stream → R w (with_stream_in w s stream)
  pub hosts : (w : World) (n : ℕ) → refusal_in w (OnHost n New) ≡ None → R w (hosted w n)
  pub pipes : (w : World) (s r : ℕ) → refusal_in w (OnHost r (Pipe s)) ≡ None → R w (piped_to w s r)

-- a stop, by what was done before it
pub record Halted (K : World → World → Type 0) (w : World) (writers : List Writer) (readers : List Reader) : Type 0 where
  pub at : World
  pub kept : K w at
  pub is : writers ≡ at.writers
  pub read : readers ≡ at.readers

-- what holds of all that may come of a part
abbrev pub Comes : (World → World → Type 0) → (World → World → Type 0) → World → Outcome → Type 0
Comes R K w (Goes reply after) = R w after
Comes R K w (Stops stop writers readers) = Halted K w writers readers
Comes R K w Stuck = Unit {0}

-- what holds where it goes on
abbrev pub IfGoes : Outcome → (Reply → World → Type 0) → Type 0
IfGoes (Goes reply v) P = P reply v
IfGoes _ P = Unit {0}

-- something is passed on to a host end from outside: bytes to a writer, a grant to a reader
abbrev pub is_passing : Part → Bool
is_passing (Acts (OnHost n (Feed bytes))) = true
is_passing (Acts (OnHost n (Grant count))) = true
is_passing _ = false

-- the stream of a turn, and of a report told, is of the same payload
pub moved_on-payload : (side : Side) (stream : Stream) (operation : Operation) (n : ℕ) (result : Option StreamResult) → (moved_on side stream operation n result).payload ≡ stream.payload
moved_on-payload side stream operation n result = (moved_on-moves stream operation n side result).payload

cond_gone : (b : Bool) (owner : Owner) → StaysOrGone owner (cond b Gone owner)
cond_gone true owner = inr refl
cond_gone false owner = inl refl

-- in a turn the host end may go
pub moved_on-left : (side : Side) (stream : Stream) (operation : Operation) (n : ℕ) (result : Option StreamResult) → LeftBy stream (moved_on side stream operation n result)
moved_on-left side stream operation n result = record {
  owners = each_side (λ k. StaysOrGone (end_of k stream).owner (end_of k (moved_on side stream operation n result)).owner) side
      (inl (moved-mine stream operation n side result))
      (subst (StaysOrGone (end_of (opposite side) stream).owner) (sym (moved-theirs stream operation n side result)) (cond_gone (is_settled_done result) (end_of (opposite side) stream).owner));
  payload = moved_on-payload side stream operation n result;
}

delivered-payload : (side : Side) (stream : Stream) → (delivered side stream).payload ≡ stream.payload
unfolding delivered
delivered-payload Writing stream = refl
delivered-payload Reading stream = refl

pub delivered-stays : (side : Side) (stream : Stream) → SameOwned stream (delivered side stream)
delivered-stays side stream = record { owners = delivered-owners side stream; payload = delivered-payload side stream }

pub with_operation-owned : (side : Side) (stream : Stream) (operation : Operation) → SameOwned stream (with_operation side stream operation)
with_operation-owned Writing stream operation = record { owners = record { writer = refl; reader = refl }; payload = refl }
with_operation-owned Reading stream operation = record { owners = record { writer = refl; reader = refl }; payload = refl }

-- a host end goes with the other end
pub forsaken-left : (side : Side) (stream : Stream) → LeftBy stream (forsaken side stream)
forsaken-left Writing stream = record { owners = by; payload = refl }
  where
    by : (side : Side) → StaysOrGone (end_of side stream).owner (end_of side (forsaken Writing stream)).owner
    by Writing = inl refl
    by Reading = inr refl
forsaken-left Reading stream = record { owners = by; payload = refl }
  where
    by : (side : Side) → StaysOrGone (end_of side stream).owner (end_of side (forsaken Reading stream)).owner
    by Writing = inr refl
    by Reading = inl refl

-- A STREAM WRITTEN BACK

leaves_writer-streams : (old new : Owner) (w : World) → (leaves_writer old new w).state.streams ≡ w.state.streams
leaves_writer-streams (Host n) Gone w = refl
leaves_writer-streams (Host n) _ w = refl
leaves_writer-streams _ new w = refl

leaves_reader-streams : (old new : Owner) (w : World) → (leaves_reader old new w).state.streams ≡ w.state.streams
leaves_reader-streams (Host n) Gone w = refl
leaves_reader-streams (Host n) _ w = refl
leaves_reader-streams _ new w = refl

-- it is the one of its number
pub written-streams : (w : World) (s : ℕ) (stream : Stream) → (with_stream_in w s stream).state.streams ≡ set w.state.streams s stream
unfolding with_stream_in
written-streams w s stream =
    let after = with_state w (record w.state { streams = slice_set w.state.streams s stream }) in
    let old = stream_in w s in
    leaves_writer-streams old.writer.owner stream.writer.owner (leaves_reader old.reader.owner stream.reader.owner after)
    ∙ leaves_reader-streams old.reader.owner stream.reader.owner after

-- both ends of a pipe may go at once
pub piped-ends : (w : World) (s r : ℕ) → LeftBy (stream_in (piped_to w s r) s) (without_ends (piped (stream_in w s) r))
piped-ends w s r = record { owners = gone; payload = same }
  where
    gone : (side : Side) → StaysOrGone (end_of side (stream_in (piped_to w s r) s)).owner (end_of side (without_ends (piped (stream_in w s) r))).owner
    gone Writing = inr refl
    gone Reading = inr refl

    same : (without_ends (piped (stream_in w s) r)).payload ≡ (stream_in (piped_to w s r) s).payload
    same =
        sym
        (ap (λ xs. (get_or xs s no_stream).payload) (written-streams (with_consumer w r (record no_consumer { duty = Serves s })) s (piped (stream_in w s) r))
        ∙ set-keeps (λ (x : Stream). x.payload) w.state.streams s s (piped (stream_in w s) r) no_stream refl)

-- a stream written back whose owners stay
pub with_stream_in-same : (w : World) (s : ℕ) (stream : Stream) → OwnersStay (stream_in w s) stream
    → with_stream_in w s stream ≡ with_state w (record w.state { streams = slice_set w.state.streams s stream })
unfolding with_stream_in
with_stream_in-same w s stream e =
    let after = with_state w (record w.state { streams = slice_set w.state.streams s stream }) in
    let old = stream_in w s in
    ap (λ o. leaves_writer old.writer.owner o (leaves_reader old.reader.owner stream.reader.owner after)) e.writer
    ∙ ap (λ o. leaves_writer old.writer.owner old.writer.owner (leaves_reader old.reader.owner o after)) e.reader
    ∙ ap (leaves_writer old.writer.owner old.writer.owner) (leaves_reader-stays old.reader.owner after)
    ∙ leaves_writer-stays old.writer.owner after

-- what holds of a stream and once items more were received holds where it may have been so
pub some_received-by : (P : Stream → Type 0) (stream : Stream) (n : ℕ) → P stream → P (with_received stream n) → P (with_some_received stream n)
some_received-by P stream n h k = by (n == 0)
  where
    by : (none : Bool) → P (cond none stream (with_received stream n))
    by true = h
    by false = k

-- of which so many items more were received
pub some_received-owned : (stream : Stream) (n : ℕ) → SameOwned stream (with_some_received stream n)
some_received-owned stream n =
    some_received-by (SameOwned stream) stream n
    (record { owners = record { writer = refl; reader = refl }; payload = refl })
    (record { owners = record { writer = refl; reader = refl }; payload = refl })

-- both its ends stay
pub some_received-end : (side : Side) (stream : Stream) (n : ℕ) → end_of side (with_some_received stream n) ≡ end_of side stream
some_received-end Writing stream n = some_received-by (λ x. x.writer ≡ stream.writer) stream n refl refl
some_received-end Reading stream n = some_received-by (λ x. x.reader ≡ stream.reader) stream n refl refl

-- it is no other kind of stream
pub some_received-payload : (stream : Stream) (n : ℕ) → (with_some_received stream n).payload ≡ stream.payload
some_received-payload stream n = some_received-by (λ x. x.payload ≡ stream.payload) stream n refl refl

pub some_received-kind : (stream : Stream) (n : ℕ) → (with_some_received stream n).kind ≡ stream.kind
some_received-kind stream n = some_received-by (λ x. x.kind ≡ stream.kind) stream n refl refl

-- both ends may go
pub without_ends-left : (stream : Stream) → LeftBy stream (without_ends stream)
without_ends-left stream = record { owners = gone; payload = refl }
  where
    gone : (side : Side) → StaysOrGone (end_of side stream).owner (end_of side (without_ends stream)).owner
    gone Writing = inr refl
    gone Reading = inr refl

-- FETCHING FOR A PIPE
