-- A stream that is written back among its host ends: they stay, or its writer goes with its box closed.
use Rattle.std.proofs.Common.{◌≡◌, ℕ, ◌<◌, ◌==◌, Bool, true, false, cond, length, Option, Some, None, Ok, refl, sym, ap, subst, ◌∙◌}
use Rattle.strm_codes.specs.declared.codes.ReturnCode.{ReturnCode}
use Rattle.strm_codes.specs.declared.codes.ReturnCode.TheVariants.{Blocked}
use Rattle.strm_codes.specs.declared.codes.StreamResult.{StreamResult}
use Rattle.strm_codes.specs.declared.codes.StreamResult.TheVariants as results
use Rattle.strm_buffers.specs.Tells.{WriterTells, Tells, told_by, with_told, ClosesWriter, reader_tells_closed as closed_tells, told_by_reader, with_told_reader}
use Rattle.strm_machine.specs.State.{State, no_stream, stream_at, is_host}
use Rattle.strm_machine.specs.Sides.{end_of, with_end}
use Rattle.strm_machine.specs.Reactions.{Reaction, goes, with_stream_at, told, tells as tells_end}
use Rattle.strm_machine.specs.Endings.{report_on, told_end, delivered}
use Rattle.strm_machine.specs.Operating.{with_received}
use Rattle.strm_machine.specs.declared.streams.Owner.{Owner}
use Rattle.strm_machine.specs.declared.streams.Owner.TheVariants.{Host, Gone}
use Rattle.strm_machine.specs.declared.streams.Side.{Side}
use Rattle.strm_machine.specs.declared.streams.Side.TheVariants.{Writing, Reading}
use Rattle.strm_machine.specs.declared.streams.Operation.{Operation}
use Rattle.strm_machine.specs.declared.streams.Stream.{Stream}
use Rattle.strm_machine.specs.declared.replies.Reply.TheVariants as replies
use Rattle.strm_host_machine.specs.World.{World, leaves_writer, leaves_reader, with_stream_in}
use Rattle.strm_host_machine.specs.Outcomes.{Goes}
use Rattle.strm_host_machine.specs.Settling.{moved_on, answered_with, turn_answered}
use Rattle.strm_host_machine.specs.Does.{Logs, world_of, Does}
use Rattle.strm_machine.proofs.TableLemmas.{OwnersStay, with_end-owners}
use Rattle.strm_host_machine.proofs.WorldLemmas.{set-same}
use Rattle.strm_host_machine.proofs.CloseLemmas.{ended_in, without_writer-box}
use Rattle.strm_host_machine.proofs.ReaderLemmas.{ended_reader_in, without_reader-box}
use Rattle.strm_host_machine.proofs.DoesLemmas.{Does-untold}

pub leaves_writer-stays : (owner : Owner) (world : World) → leaves_writer owner owner world ≡ world
leaves_writer-stays (Host n) world = refl
leaves_writer-stays _ world = refl

pub leaves_reader-stays : (owner : Owner) (world : World) → leaves_reader owner owner world ≡ world
leaves_reader-stays (Host r) world = refl
leaves_reader-stays _ world = refl

-- the world with this stream as stream s, and after its reader left, if it did
abbrev pub world_with : State → Tells → Logs → ℕ → Stream → World
world_with state tells logs s stream = world_of (with_stream_at state s stream) tells logs

abbrev pub reader_left_of : State → Tells → Logs → ℕ → Stream → World
reader_left_of state tells logs s stream =
    leaves_reader (stream_at state s).reader.owner stream.reader.owner (world_with state tells logs s stream)

-- a reader that stays, or none
with_reader_there : (state : State) (tells : Tells) (logs : Logs) (s : ℕ) (stream : Stream) → stream.reader.owner ≡ (stream_at state s).reader.owner
    → reader_left_of state tells logs s stream ≡ world_with state tells logs s stream
with_reader_there state tells logs s stream e =
    ap (λ o. leaves_reader (stream_at state s).reader.owner o (world_of (with_stream_at state s stream) tells logs)) e
    ∙ leaves_reader-stays (stream_at state s).reader.owner (world_of (with_stream_at state s stream) tells logs)

-- the same owners
pub with_stream_in-stays : (state : State) (tells : Tells) (logs : Logs) (s : ℕ) (stream : Stream) → OwnersStay (stream_at state s) stream
    → with_stream_in (world_of state tells logs) s stream ≡ world_of (with_stream_at state s stream) tells logs
unfolding with_stream_in
with_stream_in-stays state tells logs s stream e =
    ap (leaves_writer (stream_at state s).writer.owner stream.writer.owner) (with_reader_there state tells logs s stream e.reader)
    ∙ ap (λ o. leaves_writer (stream_at state s).writer.owner o (world_of (with_stream_at state s stream) tells logs)) e.writer
    ∙ leaves_writer-stays (stream_at state s).writer.owner (world_of (with_stream_at state s stream) tells logs)

leaves_reader-none : (old new : Owner) (world : World) → is_host old ≡ false → leaves_reader old new world ≡ world
leaves_reader-none (Host r) new world e = cc
leaves_reader-none _ new world e = refl

-- the same writer, and no host reader before
pub with_stream_in-unread : (state : State) (tells : Tells) (logs : Logs) (s : ℕ) (stream : Stream) → is_host (stream_at state s).reader.owner ≡ false → stream.writer.owner ≡ (stream_at state s).writer.owner
    → with_stream_in (world_of state tells logs) s stream ≡ world_with state tells logs s stream
unfolding with_stream_in
with_stream_in-unread state tells logs s stream u e =
    ap (leaves_writer (stream_at state s).writer.owner stream.writer.owner) (leaves_reader-none (stream_at state s).reader.owner stream.reader.owner (world_of (with_stream_at state s stream) tells logs) u)
    ∙ ap (λ o. leaves_writer (stream_at state s).writer.owner o (world_of (with_stream_at state s stream) tells logs)) e
    ∙ leaves_writer-stays (stream_at state s).writer.owner (world_of (with_stream_at state s stream) tells logs)

-- host writer n, whose box was closed, is gone from stream s, which is this one now
pub record IsLeft (state : State) (tells : Tells) (s n : ℕ) (stream : Stream) (w : WriterTells) : Type 0 where
  pub there : n < length tells.writers
  pub kept : n < length state.producers
  pub owner : (stream_at state s).writer.owner ≡ Host n
  pub gone : stream.writer.owner ≡ Gone
  pub reader : stream.reader.owner ≡ (stream_at state s).reader.owner
  pub closes : ClosesWriter (told_by tells n) w

pub with_stream_in-left : (state : State) (tells : Tells) (logs : Logs) (s n : ℕ) (stream : Stream) (w : WriterTells) → IsLeft state tells s n stream w
    → with_stream_in (world_of state tells logs) s stream ≡ world_of (ended_in (with_stream_at state s stream) n) (with_told tells n w) logs
unfolding with_stream_in
with_stream_in-left state tells logs s n stream w l =
    ap (leaves_writer (stream_at state s).writer.owner stream.writer.owner) (with_reader_there state tells logs s stream l.reader)
    ∙ ap (λ o. leaves_writer o stream.writer.owner (world_of (with_stream_at state s stream) tells logs)) l.owner
    ∙ ap (λ o. leaves_writer (Host n) o (world_of (with_stream_at state s stream) tells logs)) l.gone
    ∙ without_writer-box (with_stream_at state s stream) tells logs n w l.kept l.there l.closes

-- host reader r is gone from stream s, which is this one now
pub record IsLeftByReader (state : State) (tells : Tells) (s r : ℕ) (stream : Stream) : Type 0 where
  pub there : r < length tells.readers
  pub owner : (stream_at state s).reader.owner ≡ Host r
  pub gone : stream.reader.owner ≡ Gone
  pub writer : stream.writer.owner ≡ (stream_at state s).writer.owner

-- its box was closed
abbrev pub with_reader_closed : Tells → ℕ → Tells
with_reader_closed tells r = with_told_reader tells r (closed_tells (told_by_reader tells r))

-- the world with this stream as stream s, and without its reader r
abbrev pub world_unread : State → Tells → Logs → ℕ → ℕ → Stream → World
world_unread state tells logs s r stream =
    world_of (ended_reader_in (with_stream_at state s stream) r) (with_reader_closed tells r) logs

-- the reader that is gone is closed, whatever becomes of the writer
reader_left : (state : State) (tells : Tells) (logs : Logs) (s r : ℕ) (stream : Stream) → r < length tells.readers → (stream_at state s).reader.owner ≡ Host r → stream.reader.owner ≡ Gone
    → reader_left_of state tells logs s stream ≡ world_unread state tells logs s r stream
reader_left state tells logs s r stream there owner gone =
    ap (λ o. leaves_reader o stream.reader.owner (world_of (with_stream_at state s stream) tells logs)) owner
    ∙ ap (λ o. leaves_reader (Host r) o (world_of (with_stream_at state s stream) tells logs)) gone
    ∙ without_reader-box (with_stream_at state s stream) tells logs r there

pub with_stream_in-left_by_reader : (state : State) (tells : Tells) (logs : Logs) (s r : ℕ) (stream : Stream) → IsLeftByReader state tells s r stream
    → with_stream_in (world_of state tells logs) s stream ≡ world_of (ended_reader_in (with_stream_at state s stream) r) (with_reader_closed tells r) logs
unfolding with_stream_in
with_stream_in-left_by_reader state tells logs s r stream l =
    ap (leaves_writer (stream_at state s).writer.owner stream.writer.owner) (reader_left state tells logs s r stream l.there l.owner l.gone)
    ∙ ap (λ o. leaves_writer (stream_at state s).writer.owner o (world_of (ended_reader_in (with_stream_at state s stream) r) (with_reader_closed tells r) logs)) l.writer
    ∙ leaves_writer-stays (stream_at state s).writer.owner (world_of (ended_reader_in (with_stream_at state s stream) r) (with_reader_closed tells r) logs)

-- the world with this stream as stream s, and without its host ends
abbrev pub world_ended : State → Tells → Logs → ℕ → ℕ → ℕ → Stream → WriterTells → World
world_ended state tells logs s n r stream w =
    world_of (ended_in (ended_reader_in (with_stream_at state s stream) r) n) (with_told (with_reader_closed tells r) n w) logs

-- host writer n, whose box was closed, and host reader r are gone from stream s, which is this one now
pub record AreBothLeft (state : State) (tells : Tells) (s n r : ℕ) (stream : Stream) (w : WriterTells) : Type 0 where
  pub there : n < length tells.writers
  pub kept : n < length state.producers
  pub owner : (stream_at state s).writer.owner ≡ Host n
  pub gone : stream.writer.owner ≡ Gone
  pub closes : ClosesWriter (told_by tells n) w
  pub reader_there : r < length tells.readers
  pub reader_owner : (stream_at state s).reader.owner ≡ Host r
  pub reader_gone : stream.reader.owner ≡ Gone

pub with_stream_in-both_left : (state : State) (tells : Tells) (logs : Logs) (s n r : ℕ) (stream : Stream) (w : WriterTells) → AreBothLeft state tells s n r stream w
    → with_stream_in (world_of state tells logs) s stream ≡ world_ended state tells logs s n r stream w
unfolding with_stream_in
with_stream_in-both_left state tells logs s n r stream w l =
    let after = world_of (ended_reader_in (with_stream_at state s stream) r) (with_reader_closed tells r) logs in
    ap (leaves_writer (stream_at state s).writer.owner stream.writer.owner) (reader_left state tells logs s r stream l.reader_there l.reader_owner l.reader_gone)
    ∙ ap (λ o. leaves_writer o stream.writer.owner after) l.owner
    ∙ ap (λ o. leaves_writer (Host n) o after) l.gone
    ∙ without_writer-box (ended_reader_in (with_stream_at state s stream) r) (with_reader_closed tells r) logs n w l.kept l.there l.closes

-- WHO WRITES AND READS THEN

-- a result by which the host end is done with the stream
abbrev pub is_done_with : Option StreamResult → Bool
is_done_with (Some results.Dropped) = true
is_done_with _ = false

pub some_received-owner : (side : Side) (stream : Stream) (b : Bool) (n : ℕ) → (end_of side (cond b stream (with_received stream n))).owner ≡ (end_of side stream).owner
some_received-owner side stream true n = refl
some_received-owner Writing stream false n = refl
some_received-owner Reading stream false n = refl

pub moved_on-owner : (stream : Stream) (read : Operation) (n : ℕ) (result : Option StreamResult)
    → (moved_on Reading stream read n result).writer.owner ≡ cond (is_done_with result) Gone stream.writer.owner
unfolding moved_on
moved_on-owner stream read n None = some_received-owner Writing stream (n == 0) n
moved_on-owner stream read n (Some results.Dropped) = refl
moved_on-owner stream read n (Some _) = some_received-owner Writing stream (n == 0) n

-- who reads stays
pub moved_on-reader : (stream : Stream) (read : Operation) (n : ℕ) (result : Option StreamResult)
    → (moved_on Reading stream read n result).reader.owner ≡ stream.reader.owner
unfolding moved_on
moved_on-reader stream read n None = some_received-owner Reading stream (n == 0) n
moved_on-reader stream read n (Some results.Dropped) = some_received-owner Reading stream (n == 0) n
moved_on-reader stream read n (Some _) = some_received-owner Reading stream (n == 0) n

-- and where items of a write went to a host reader, the same with the sides changed
pub moved_on-reader_left : (stream : Stream) (write : Operation) (n : ℕ) (result : Option StreamResult)
    → (moved_on Writing stream write n result).reader.owner ≡ cond (is_done_with result) Gone stream.reader.owner
unfolding moved_on
moved_on-reader_left stream write n None = some_received-owner Reading stream (n == 0) n
moved_on-reader_left stream write n (Some results.Dropped) = refl
moved_on-reader_left stream write n (Some _) = some_received-owner Reading stream (n == 0) n

pub moved_on-writer : (stream : Stream) (write : Operation) (n : ℕ) (result : Option StreamResult)
    → (moved_on Writing stream write n result).writer.owner ≡ stream.writer.owner
unfolding moved_on
moved_on-writer stream write n None = some_received-owner Writing stream (n == 0) n
moved_on-writer stream write n (Some results.Dropped) = some_received-owner Writing stream (n == 0) n
moved_on-writer stream write n (Some _) = some_received-owner Writing stream (n == 0) n

-- WHAT A CALL ANSWERS THEN

pub delivered-owners : (side : Side) (stream : Stream) → OwnersStay stream (delivered side stream)
unfolding delivered
delivered-owners side stream = with_end-owners side stream (told_end (report_on side stream) (end_of side stream)) refl

-- its end has a report
pub Does-delivered : (state : State) (tells : Tells) (s : ℕ) (side : Side) (code : ReturnCode) → report_on side (stream_at state s) ≡ Some code
    → Does state (told state s side) tells tells (Ok (replies.Code code)) (λ w. turn_answered w s side)
Does-delivered state tells s side code e =
    Does-untold state (told state s side) tells (Ok (replies.Code code)) (λ w. turn_answered w s side)
    (λ logs. ap (answered_with (world_of state tells logs) s side) e
    ∙ ap (Goes (replies.Code code)) (with_stream_in-stays state tells logs s (delivered side (stream_at state s)) (delivered-owners side (stream_at state s)))) tt

-- it has none
pub Does-blocked : (state : State) (tells : Tells) (s : ℕ) (side : Side) → report_on side (stream_at state s) ≡ None
    → Does state state tells tells (Ok (replies.Code Blocked)) (λ w. turn_answered w s side)
Does-blocked state tells s side e =
    Does-untold state state tells (Ok (replies.Code Blocked)) (λ w. turn_answered w s side)
    (λ logs. ap (answered_with (world_of state tells logs) s side) e) tt

-- what is answered where this is to be told
abbrev pub code_told : Option ReturnCode → ReturnCode
code_told (Some code) = code
code_told None = Blocked

with_end-same : (side : Side) (stream : Stream) → with_end side stream (end_of side stream) ≡ stream
with_end-same Writing stream = refl
with_end-same Reading stream = refl

-- a stream whose end was told nothing is as it was
pub told-nothing : (state : State) (s : ℕ) (side : Side) → report_on side (stream_at state s) ≡ None → told state s side ≡ state
unfolding delivered
told-nothing state s side e =
    ap (λ code. with_stream_at state s (with_end side (stream_at state s) (told_end code (end_of side (stream_at state s))))) e
    ∙ ap (λ stream. with_stream_at state s stream) (with_end-same side (stream_at state s))
    ∙ ap (λ xs. record state { streams = xs }) (set-same state.streams s no_stream)

answers_by : (state : State) (tells : Tells) (s : ℕ) (side : Side) (report : Option ReturnCode) → report_on side (stream_at state s) ≡ report
    → Does state (told state s side) tells tells (Ok (replies.Code (code_told report))) (λ w. turn_answered w s side)
answers_by state tells s side (Some code) e = Does-delivered state tells s side code e
answers_by state tells s side None e =
    subst (λ (new : State). Does state new tells tells (Ok (replies.Code Blocked)) (λ w. turn_answered w s side)) (sym (told-nothing state s side e)) (Does-blocked state tells s side e)

-- a call that told an end its report, if there was one, answers that
pub Does-answers : (old new : State) (s : ℕ) (side : Side) (report : Option ReturnCode) → tells_end old s side ≡ goes (replies.Event report) new → (tells : Tells)
    → Does old new tells tells (Ok (replies.Code (code_told report))) (λ w. turn_answered w s side)
Does-answers old new s side report e tells =
    let reply_is : replies.Event (report_on side (stream_at old s)) ≡ replies.Event report = ap (λ (r : Reaction). r.reply) e in
    let report_is : report_on side (stream_at old s) ≡ report = cc in
    let state_is : told old s side ≡ new = ap (λ (r : Reaction). r.state) e in
    subst (λ (x : State). Does old x tells tells (Ok (replies.Code (code_told report))) (λ w. turn_answered w s side)) state_is (answers_by old tells s side report report_is)
