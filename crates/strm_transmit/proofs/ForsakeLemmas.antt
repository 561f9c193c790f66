-- A stream that lost an end: the host end on the other side is gone and closed, in one step.
use Rattle.std.proofs.Common.{◌≡◌, ℕ, cond, Ok, refl, ap, ◌∙◌, arith}
use Rattle.strm_buffers.specs.Tells.{WriterTells, Tells, told_by, with_told, told_by_reader, ClosesWriter, reader_tells_closed as closed_tells}
use Rattle.strm_machine.specs.State.{State, stream_at, is_host}
use Rattle.strm_machine.specs.Moves.{with_owner}
use Rattle.strm_machine.specs.Reactions.{with_stream_at}
use Rattle.strm_machine.specs.declared.replies.Reply.TheVariants as replies
use Rattle.strm_machine.specs.declared.streams.Owner.TheVariants.{Gone}
use Rattle.strm_machine.specs.declared.streams.Side.{Side}
use Rattle.strm_machine.specs.declared.streams.Side.TheVariants.{Writing, Reading}
use Rattle.strm_host_machine.specs.World.{with_stream_in}
use Rattle.strm_host_machine.specs.Outcomes.{Goes, done}
use Rattle.strm_host_machine.specs.Attaching.{forsaken}
use Rattle.strm_host_machine.specs.Does.{Logs, world_of, Fits, Does}
use Rattle.strm_host_machine.proofs.GrowLemmas.{grows-closed, Does-told}
use Rattle.strm_host_machine.proofs.CloseLemmas.{ended_in}
use Rattle.strm_host_machine.proofs.ReaderLemmas.{grows-same_reader, Does-told_reader, ended_reader_in}
use Rattle.strm_host_machine.proofs.SettleLemmas.{with_stream_in-left, with_reader_closed, with_stream_in-left_by_reader}
use Rattle.strm_host_machine.proofs.FitsLemmas.{Fits-stream}
use Rattle.strm_host_machine.proofs.PollLemmas.{IsServing}
use Rattle.strm_transmit.specs.Hosted.{forsaken_in}
use Rattle.strm_transmit.proofs.FitsLemmas.{keeps-closed, Fits-told, Fits-told_reader, Fits-ended, Fits-reader_ended, HasWriter, serving, HasReader, IsReading, reading}
use Rattle.strm_transmit.proofs.HostStepLemmas.{Does-after, Fits-after}

-- the state without the end on a side of stream s
abbrev pub without_end : State → ℕ → Side → State
without_end state s side = with_stream_at state s (with_owner side (stream_at state s) Gone)

-- ## A host writer

module _ (old : State) (tells : Tells) (s n : ℕ) (w : WriterTells) (h : HasWriter old tells n s) (c : ClosesWriter (told_by tells n) w) where
  -- the stream without its write end
  abbrev gone : State
  gone = without_end old s Writing

  -- and the state in which its writer has ended
  abbrev pub ended : State
  ended = ended_in gone n

  is_serving : IsServing old tells n s
  is_serving = serving old tells n s h

  forsaken-is : (logs : Logs) → forsaken_in (world_of old tells logs) s Reading ≡ world_of ended (with_told tells n w) logs
  forsaken-is logs =
      ap (λ x. cond (is_host x) (with_stream_in (world_of old tells logs) s (forsaken Reading (stream_at old s))) (world_of old tells logs)) h.owner
      ∙ with_stream_in-left old tells logs s n (forsaken Reading (stream_at old s)) w
      (record { there = is_serving.there; kept = is_serving.kept; owner = h.owner; gone = refl; reader = refl; closes = c })

  pub forsaken-does : Does old ended tells (with_told tells n w) (Ok replies.Done) (λ v. done (forsaken_in v s Reading))
  forsaken-does =
      Does-told old ended tells n w (Ok replies.Done) (λ v. done (forsaken_in v s Reading)) is_serving.there (grows-closed (told_by tells n) w c)
      (λ logs e. ap (λ v. Goes replies.Done v) (forsaken-is logs)) tt

  pub forsaken-fits : Fits ended (with_told tells n w)
  forsaken-fits =
      Fits-told ended tells n w (keeps-closed (told_by tells n) w c)
      (Fits-ended gone tells n is_serving.kept
      (Fits-stream old tells s (with_owner Writing (stream_at old s) Gone) (record { kind = refl; payload = refl }) h.fits))

-- the same by the steps in which a store does it: the stream without its write end, what is kept of the
-- host writer, and what that tells
pub record IsForsaken (old mid new : State) (tells told : Tells) (s n : ℕ) : Type 0 where
  pub before : HasWriter old tells n s
  pub gone : mid ≡ without_end old s Writing
  pub retired : new ≡ ended_in mid n
  pub closes : ClosesWriter (told_by tells n) (told_by told n)
  pub others : told ≡ with_told tells n (told_by told n)

module _ (old mid new : State) (tells told : Tells) (s n : ℕ) (h : IsForsaken old mid new tells told s n) where
  state_is : new ≡ ended old tells s n (told_by told n) h.before h.closes
  state_is = h.retired ∙ ap (λ m. ended_in m n) h.gone

  pub forsakes-does : Does old new tells told (Ok replies.Done) (λ v. done (forsaken_in v s Reading))
  forsakes-does = Does-after state_is h.others (forsaken-does old tells s n (told_by told n) h.before h.closes)

  pub forsakes-fits : Fits new told
  forsakes-fits =
      Fits-after (ended old tells s n (told_by told n) h.before h.closes) new (with_told tells n (told_by told n)) told state_is h.others
      (forsaken-fits old tells s n (told_by told n) h.before h.closes)

-- ## A host reader

module _ (old : State) (tells : Tells) (s r : ℕ) (h : HasReader old tells r s) where
  -- the stream without its read end
  abbrev unread : State
  unread = without_end old s Reading

  -- and the state in which its reader has ended
  abbrev pub reader_ended : State
  reader_ended = ended_reader_in unread r

  is_reading : IsReading old tells r s
  is_reading = reading old tells r s h

  left-is : (logs : Logs) → forsaken_in (world_of old tells logs) s Writing ≡ world_of reader_ended (with_reader_closed tells r) logs
  left-is logs =
      ap (λ x. cond (is_host x) (with_stream_in (world_of old tells logs) s (forsaken Writing (stream_at old s))) (world_of old tells logs)) h.owner
      ∙ with_stream_in-left_by_reader old tells logs s r (forsaken Writing (stream_at old s))
      (record { there = is_reading.there; owner = h.owner; gone = refl; writer = refl })

  pub left-does : Does old reader_ended tells (with_reader_closed tells r) (Ok replies.Done) (λ v. done (forsaken_in v s Writing))
  left-does =
      Does-told_reader old reader_ended tells r (closed_tells (told_by_reader tells r)) (Ok replies.Done) (λ v. done (forsaken_in v s Writing)) is_reading.there
      (grows-same_reader (told_by_reader tells r) (closed_tells (told_by_reader tells r)) refl (omega arith))
      (λ logs e. ap (λ v. Goes replies.Done v) (left-is logs)) tt

  pub left-fits : Fits reader_ended (with_reader_closed tells r)
  left-fits =
      Fits-told_reader reader_ended tells r (closed_tells (told_by_reader tells r)) (record { kind = refl; payload = refl })
      (Fits-reader_ended unread tells r is_reading.kept
      (Fits-stream old tells s (with_owner Reading (stream_at old s) Gone) (record { kind = refl; payload = refl }) h.fits))

-- the same by the steps in which a store does it
pub record IsLeftUnread (old mid new : State) (tells told : Tells) (s r : ℕ) : Type 0 where
  pub before : HasReader old tells r s
  pub gone : mid ≡ without_end old s Reading
  pub retired : new ≡ ended_reader_in mid r
  pub closes : told ≡ with_reader_closed tells r

module _ (old mid new : State) (tells told : Tells) (s r : ℕ) (h : IsLeftUnread old mid new tells told s r) where
  unread_is : new ≡ reader_ended old tells s r h.before
  unread_is = h.retired ∙ ap (λ m. ended_reader_in m r) h.gone

  pub leaves-does : Does old new tells told (Ok replies.Done) (λ v. done (forsaken_in v s Writing))
  leaves-does = Does-after unread_is h.closes (left-does old tells s r h.before)

  pub leaves-fits : Fits new told
  leaves-fits = Fits-after (reader_ended old tells s r h.before) new (with_reader_closed tells r) told unread_is h.closes (left-fits old tells s r h.before)
