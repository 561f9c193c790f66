-- The plays of a tape are one.
use Rattle.std.proofs.Common.{◌≡◌, List, Option, Some, None, Result, Ok, Err, refl, sym, ap, ◌∙◌, subst}
use Rattle.strm_machine.specs.declared.replies.Reply.{Reply}
use Rattle.strm_machine.specs.declared.stops.Stop.{Stop}
use Rattle.strm_machine.specs.declared.stops.Stop.TheVariants as stops
use Rattle.strm_host_machine.specs.World.{World}
use Rattle.strm_host_machine.specs.HostPlays.{HostPlayed, Ends, Halts, Hangs}
use Rattle.strm_session.specs.declared.runs.RunCause.{RunCause}
use Rattle.strm_session.specs.declared.runs.RunCause.TheVariants as causes
use Rattle.strm_session.specs.declared.runs.RunStop.{RunStop}
use Rattle.strm_session.specs.declared.runs.Transcript.{Transcript}
use Rattle.strm_session.specs.Runs.{stop_of, received_counts, next_step}
use Rattle.strm_tape.specs.Spelling.{TapeOf}
use Rattle.strm_tape_runs.specs.Playing.{PlaysToEnd, PlaysToStop, IsPlayOf}

-- the replies of a run
told_in : HostPlayed → List Reply
told_in (Ends told world) = told
told_in (Halts told stop writers readers) = told
told_in (Hangs told) = told

-- where it ended, if it did
ended_at : World → HostPlayed → World
ended_at other (Ends told world) = world
ended_at other _ = other

-- by what it stopped, if it did
stopped_by : HostPlayed → Option Stop
stopped_by (Halts told stop writers readers) = Some stop
stopped_by _ = None

-- a run that ended
abbrev HasEnded : HostPlayed → Type 0
HasEnded (Ends told world) = Unit {0}
HasEnded _ = ⊥

-- the cause that is stopped by this
cause_by : Option Stop → RunCause
cause_by (Some (stops.HostFailed end)) = causes.HostFailed end
cause_by (Some (stops.HostBroke end)) = causes.HostBroke end
cause_by (Some (stops.BadItem s)) = causes.BadItem s
cause_by _ = causes.OutOfMemory

cause_back : (cause : RunCause) → cause_by (stop_of cause) ≡ cause
unfolding cause_by
cause_back (causes.HostFailed end) = refl
cause_back (causes.HostBroke end) = refl
cause_back (causes.BadItem s) = refl
cause_back causes.OutOfMemory = refl

module _ (tape : TapeOf) where
  one_end : (t u : Transcript) → PlaysToEnd tape t → PlaysToEnd tape u → t ≡ u
  unfolding told_in ended_at
  one_end t u p q =
      let same = sym p.plays ∙ q.plays in
      let state = p.state ∙ ap (λ (o : HostPlayed). (ended_at p.end o).state) same ∙ sym q.state in
      let counts = p.counts ∙ ap (λ (o : HostPlayed). received_counts (ended_at p.end o).state) same ∙ sym q.counts in
      let replies = ap told_in same in
      λ i. record { replies = replies i; moved = counts i; store = state i }

  one_stop : (s u : RunStop) → PlaysToStop tape s → PlaysToStop tape u → s ≡ u
  unfolding told_in stopped_by
  one_stop s u p q =
      let same = sym p.plays ∙ q.plays in
      let replies = ap told_in same in
      let cause = sym (cause_back s.cause) ∙ ap cause_by (p.cause ∙ ap stopped_by same ∙ sym q.cause) ∙ cause_back u.cause in
      let at = p.at ∙ ap next_step replies ∙ sym q.at in
      λ i. record { at = at i; cause = cause i; replies = replies i }

  apart : (t : Transcript) (s : RunStop) → PlaysToEnd tape t → PlaysToStop tape s → ⊥
  apart t s p q = subst HasEnded (sym p.plays ∙ q.plays) tt

  pub one_play : (a b : Result Transcript RunStop) → IsPlayOf tape a → IsPlayOf tape b → a ≡ b
  one_play (Ok t) (Ok u) p q = ap Ok (one_end t u p q)
  one_play (Ok t) (Err s) p q = absurd (apart t s p q)
  one_play (Err s) (Ok t) p q = absurd (apart t s q p)
  one_play (Err s) (Err u) p q = ap Err (one_stop s u p q)
