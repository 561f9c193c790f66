-- Which steps may bring a report to an end or end its operation: after one of these, those that wait for a report
-- or for an end look again. Ours.
use Rattle.std.specs.Prelude.{◌≡◌, ℕ, ◌<◌, length, Bool, true, false}
use Rattle.strm_machine.specs.Acts.{act_of}
use Rattle.strm_machine.specs.State.{State, stream_at}
use Rattle.strm_machine.specs.Sides.{end_of}
use Rattle.strm_machine.specs.Endings.{report_on}
use Rattle.strm_machine.specs.Reactions.{react}
use Rattle.strm_machine.specs.declared.acts.Act.{Act}
use Rattle.strm_machine.specs.declared.acts.Act.TheVariants.{Make, OnEnd, Transfer, OnLoose, OnHost, Drive, Event, OnSet, OnContext, OnMemory}
use Rattle.strm_machine.specs.declared.acts.EndAct.{EndAct}
use Rattle.strm_machine.specs.declared.acts.EndAct.TheVariants.{Operate, Drop, Cancel, Lift}
use Rattle.strm_machine.specs.declared.acts.SetAct.{SetAct}
use Rattle.strm_machine.specs.declared.acts.SetAct.TheVariants as set_acts
use Rattle.strm_machine.specs.declared.steps.Step.{Step}
use Rattle.strm_machine.specs.declared.streams.Side.{Side}
use Rattle.strm_machine.specs.declared.streams.Stream.{Stream}
use Rattle.strm_shared.specs.Places.{is_host_step}
use Rattle.strm_shared.specs.Reaching.{IsStateReached}

-- an end is read, written, dropped or cancelled
abbrev pub ends_waits_of_end : EndAct → Bool
ends_waits_of_end (Operate address count) = true
ends_waits_of_end Drop = true
ends_waits_of_end Cancel = true
ends_waits_of_end Lift = false

-- a set is polled
abbrev pub ends_waits_of_set : SetAct → Bool
ends_waits_of_set (set_acts.Join handle) = false
ends_waits_of_set set_acts.Poll = true
ends_waits_of_set set_acts.Drop = false

-- an act may bring a report to an end, as a read, a write or a drop of the other end does, or end an operation, as
-- a cancel does and what tells a report. Each act has its case, so that a new one asks for its own
abbrev pub ends_waits_in : Act → Bool
ends_waits_in (Make making) = false
ends_waits_in (OnEnd side end act) = ends_waits_of_end act
ends_waits_in (Transfer end to) = false
ends_waits_in (OnLoose reader act) = false
ends_waits_in (OnHost host act) = false
ends_waits_in Drive = false
ends_waits_in (Event guest handle) = true
ends_waits_in (OnSet guest set act) = ends_waits_of_set act
ends_waits_in (OnContext guest handle act) = false
ends_waits_in (OnMemory guest act) = false

-- the same, of a step
abbrev pub ends_waits : Step → Bool
ends_waits step = ends_waits_in (act_of step)

-- an end has the operation that it had, and the report
pub record IsEndKept (side : Side) (old new : Stream) : Type 0 where
  pub operation : (end_of side new).operation ≡ (end_of side old).operation
  pub report : report_on side new ≡ report_on side old

-- no end that was there has another report or another operation, and the store is trapped if it was
pub record IsQuiet (old new : State) : Type 0 where
  pub trapped : new.trapped ≡ old.trapped
  pub ends : (s : ℕ) (side : Side) → s < length old.streams → IsEndKept side (stream_at old s) (stream_at new s)

-- the step brings no report and ends no operation, in whichever state: nobody who waits need look
abbrev pub WakesNone : Step → Type 0
WakesNone step = is_host_step step ≡ false → (state : State) → IsStateReached state → IsQuiet state (react state step).state
