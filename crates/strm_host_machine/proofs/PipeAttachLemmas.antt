-- A loose read end that goes to a host reader, and a host reader that is granted items.
use Rattle.std.proofs.Common.{◌≡◌, ℕ, ◌<◌, ◌&&◌, Bool, true, false, cond, length, Ok, refl, sym, ap, ◌∙◌, arith}
use Rattle.std.specs.Prelude.{slice_set, not}
use Rattle.std.proofs.lemmas.List.{get_or-set_same}
use Rattle.strm_buffers.specs.Tells.{WriterTells, Tells, told_by, with_told, reader_granted, reader_tells_closed as closed_tells, told_by_reader, with_told_reader}
use Rattle.strm_machine.specs.State.{State, no_stream, no_consumer, producer_at, stream_at, is_host}
use Rattle.strm_machine.specs.Reactions.{with_stream_at}
use Rattle.strm_machine.specs.declared.acts.HostAct.TheVariants.{Grant}
use Rattle.strm_machine.specs.declared.streams.Duty.TheVariants.{Serves}
use Rattle.strm_machine.specs.declared.streams.Owner.{Owner}
use Rattle.strm_machine.specs.declared.streams.Owner.TheVariants.{Host, Gone}
use Rattle.strm_machine.specs.declared.streams.Stream.{Stream}
use Rattle.strm_machine.specs.declared.replies.Reply.TheVariants as replies
use Rattle.strm_host_machine.specs.Ends.{Writer}
use Rattle.strm_host_machine.specs.World.{World, with_stream_in}
use Rattle.strm_host_machine.specs.Outcomes.{Goes, done}
use Rattle.strm_host_machine.specs.Attaching.{piped, has_items, is_dry, without_ends, pipes}
use Rattle.strm_host_machine.specs.Steps.{on_host}
use Rattle.strm_host_machine.specs.Does.{Logs, world_of, Does}
use Rattle.strm_host_machine.proofs.DoesLemmas.{Does-untold}
use Rattle.strm_host_machine.proofs.GrowLemmas.{follows-told, follows-then, grows-closed, Does-follows}
use Rattle.strm_host_machine.proofs.PollLemmas.{IsServing, writer_at-serving}
use Rattle.strm_host_machine.proofs.CloseLemmas.{ended_in}
use Rattle.strm_host_machine.proofs.ReaderLemmas.{reader_granted-box, grows-same_reader, follows-told_reader, Does-told_reader, ended_reader_in}
use Rattle.strm_host_machine.proofs.SettleLemmas.{with_stream_in-unread, with_reader_closed, with_stream_in-left_by_reader, AreBothLeft, with_stream_in-both_left}

-- ## A grant

pub Does-grant : (state : State) (tells : Tells) (r count : ℕ) → r < length tells.readers
    → Does state state tells (with_told_reader tells r (reader_granted (told_by_reader tells r) count)) (Ok replies.Done) (λ w. on_host w r (Grant count))
Does-grant state tells r count there =
    Does-told_reader state state tells r (reader_granted (told_by_reader tells r) count) (Ok replies.Done) (λ w. on_host w r (Grant count)) there
    (grows-same_reader (told_by_reader tells r) (reader_granted (told_by_reader tells r) count) refl (omega arith))
    (λ logs e. ap done (reader_granted-box state tells logs r count there)) tt

-- ## A pipe

-- the state in which host reader r serves stream s
abbrev pub reading_in : State → ℕ → ℕ → State
reading_in state s r = record state { consumers = slice_set state.consumers r (record no_consumer { duty = Serves s }) }

-- and has its read end
abbrev pub piped_in : State → ℕ → ℕ → State
piped_in state s r = with_stream_at (reading_in state s r) s (piped (stream_at state s) r)

-- nothing comes any more from a write end of this owner, by what the store keeps and its writer tells
abbrev pub is_dry_told : State → Tells → Owner → Bool
is_dry_told state tells Gone = true
is_dry_told state tells (Host n) = (producer_at state n).over && not (has_items (told_by tells n).holds)
is_dry_told state tells _ = false

-- the write end of stream s, where a host writer has it, is served by that
abbrev pub IsWritten : State → Tells → ℕ → Type 0
IsWritten state tells s = (n : ℕ) → (stream_at state s).writer.owner ≡ Host n → IsServing state tells n s

pub is_dry-told : (state : State) (tells : Tells) (logs : Logs) (s : ℕ) (owner : Owner) → ((n : ℕ) → owner ≡ Host n → IsServing state tells n s) → is_dry (world_of state tells logs) owner ≡ is_dry_told state tells owner
is_dry-told state tells logs s (Host n) i = ap (λ (w : Writer). (producer_at state n).over && not (has_items w.holds)) (writer_at-serving state tells logs n s (i n refl))
is_dry-told state tells logs s Gone i = refl
is_dry-told state tells logs s _ i = refl

-- a reader that was not used, and a stream whose read end no host reader has
pub record MayPipe (state : State) (tells : Tells) (s r : ℕ) : Type 0 where
  pub made : s < length state.streams
  pub there : r < length tells.readers
  pub unread : is_host (stream_at state s).reader.owner ≡ false
  pub written : IsWritten state tells s

module _ (state : State) (tells : Tells) (s r : ℕ) (m : MayPipe state tells s r) where
  abbrev stream : Stream
  stream = piped (stream_at state s) r

  -- the world just after
  abbrev after : Logs → World
  after logs = with_stream_in (world_of (reading_in state s r) tells logs) s stream

  abbrev ended_or : Logs → Bool → World
  ended_or logs b = cond b (with_stream_in (after logs) s (without_ends stream)) (after logs)

  after-is : (logs : Logs) → after logs ≡ world_of (piped_in state s r) tells logs
  after-is logs = with_stream_in-unread (reading_in state s r) tells logs s stream m.unread refl

  dry-is : (logs : Logs) (b : Bool) → is_dry_told state tells (stream_at state s).writer.owner ≡ b
      → pipes (world_of state tells logs) s r ≡ Goes replies.Done (ended_or logs b)
  unfolding pipes
  dry-is logs b e =
      ap (λ d. Goes replies.Done (ended_or logs d)) (is_dry-told (reading_in state s r) tells logs s (stream_at state s).writer.owner (λ n o. let i = m.written n o in record { there = i.there; kept = i.kept; duty = i.duty }) ∙ e)

  -- something may still come
  pub Does-pipes : is_dry_told state tells (stream_at state s).writer.owner ≡ false
      → Does state (piped_in state s r) tells tells (Ok replies.Done) (λ w. pipes w s r)
  Does-pipes e =
      Does-untold state (piped_in state s r) tells (Ok replies.Done) (λ w. pipes w s r)
      (λ logs. dry-is logs false e ∙ ap (Goes replies.Done) (after-is logs)) tt

  here : stream_at (piped_in state s r) s ≡ stream
  here = get_or-set_same state.streams s stream no_stream m.made

  -- the state in which both ends are gone, of which the reader was closed
  abbrev pub dry_in : State
  dry_in = ended_reader_in (with_stream_at (piped_in state s r) s (without_ends stream)) r

  ended-is : (logs : Logs) (v : World) → is_dry_told state tells (stream_at state s).writer.owner ≡ true
      → with_stream_in (world_of (piped_in state s r) tells logs) s (without_ends stream) ≡ v
      → pipes (world_of state tells logs) s r ≡ Goes replies.Done v
  ended-is logs v d e =
      dry-is logs true d
      ∙ ap (λ w. Goes replies.Done (with_stream_in w s (without_ends stream))) (after-is logs)
      ∙ ap (Goes replies.Done) e

  -- the write end is gone
  pub Does-pipes_gone : (stream_at state s).writer.owner ≡ Gone → Does state dry_in tells (with_reader_closed tells r) (Ok replies.Done) (λ w. pipes w s r)
  Does-pipes_gone g =
      Does-told_reader state dry_in tells r (closed_tells (told_by_reader tells r)) (Ok replies.Done) (λ w. pipes w s r) m.there
      (grows-same_reader (told_by_reader tells r) (closed_tells (told_by_reader tells r)) refl (omega arith))
      (λ logs x. ended-is logs (world_of dry_in (with_reader_closed tells r) logs) (ap (is_dry_told state tells) g)
      (with_stream_in-left_by_reader (piped_in state s r) tells logs s r (without_ends stream)
      (record { there = m.there; owner = ap (λ (x : Stream). x.reader.owner) here; gone = refl; writer = sym (ap (λ (x : Stream). x.writer.owner) here ∙ g) }))) tt

  -- both host ends of the stream are gone
  abbrev pub BothLeft : ℕ → WriterTells → Type 0
  BothLeft n w = AreBothLeft (piped_in state s r) tells s n r (without_ends stream) w

  -- or its host writer n is over and holds nothing: it was closed too
  pub Does-pipes_dry : (n : ℕ) (w : WriterTells) → is_dry_told state tells (stream_at state s).writer.owner ≡ true → BothLeft n w
      → Does state (ended_in dry_in n) tells (with_told (with_reader_closed tells r) n w) (Ok replies.Done) (λ v. pipes v s r)
  Does-pipes_dry n w d l =
      let f = follows-told_reader tells r (closed_tells (told_by_reader tells r)) m.there (grows-same_reader (told_by_reader tells r) (closed_tells (told_by_reader tells r)) refl (omega arith)) in
      let g = follows-told (with_reader_closed tells r) n w l.there (grows-closed (told_by tells n) w l.closes) in
      Does-follows state (ended_in dry_in n) tells (with_told (with_reader_closed tells r) n w) (Ok replies.Done) (λ v. pipes v s r)
      (follows-then tells (with_reader_closed tells r) (with_told (with_reader_closed tells r) n w) f g)
      (λ logs x. ended-is logs (world_of (ended_in dry_in n) (with_told (with_reader_closed tells r) n w) logs) d
      (with_stream_in-both_left (piped_in state s r) tells logs s n r (without_ends stream) w l)) tt
