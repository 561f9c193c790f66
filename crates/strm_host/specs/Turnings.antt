-- What a value that is sent later answers to a poll, and what each call leaves of it. Ours.
use Rattle.std.specs.Prelude.{ℕ, Bool, true, false, Option, Some, None}
use Rattle.strm_buffers.specs.declared.answers.Turn.{Turn}
use Rattle.strm_buffers.specs.declared.answers.Turn.TheVariants as turn
use Rattle.strm_host.specs.declared.turning.Turning.{Turning}
use Rattle.strm_host.specs.declared.turning.Progress.{Progress}
use Rattle.strm_host.specs.declared.turning.Progress.TheVariants.{Pending, Ready, Over}
use Rattle.strm_codes.specs.Counters.{one_more}

module _ {A : Type 0} where
  -- it was sent
  abbrev pub with_value : Turning A → A → Turning A
  with_value turning value = record turning { progress = Ready value }

  -- it is lost
  abbrev pub lost : Turning A → Turning A
  lost turning = record turning { progress = Over }

  -- what a poll answers
  abbrev pub answer_of : Progress A → Bool → Turn (Option A)
  answer_of Pending false = turn.Pending
  answer_of Pending true = turn.Ready None
  answer_of (Ready value) finish = turn.Ready (Some value)
  answer_of Over finish = turn.Failed

  -- what a poll leaves: the value is given once, and each poll after that is a fault
  abbrev pub after_poll : Progress A → ℕ → Turning A
  after_poll Pending faults = record { progress = Pending; faults = faults }
  after_poll (Ready value) faults = record { progress = Over; faults = faults }
  after_poll Over faults = record { progress = Over; faults = one_more faults }
