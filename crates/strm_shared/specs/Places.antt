-- Which handle a step names, reads or writes, of which handle a reply tells a report, and which steps name
-- a host end. Ours.
use Rattle.std.specs.Prelude.{◌≡◌, ℕ, Bool, true, false, Option, Some, None}
use Rattle.strm_codes.specs.declared.codes.ReturnCode.TheVariants as codes
use Rattle.strm_codes.specs.declared.refusals.Refusal.TheVariants as refusals
use Rattle.strm_waitable_sets.specs.Sets.{is_member}
use Rattle.strm_machine.specs.Acts.{act_of}
use Rattle.strm_machine.specs.Moments.{is_end}
use Rattle.strm_machine.specs.State.{State, sets_in, stream_at}
use Rattle.strm_machine.specs.Tests.{end_named, is_busy}
use Rattle.strm_machine.specs.declared.acts.Act.{Act}
use Rattle.strm_machine.specs.declared.acts.Act.TheVariants.{Make, OnEnd, Transfer, OnLoose, OnHost, Drive, Event, OnSet, OnContext, OnMemory}
use Rattle.strm_machine.specs.declared.acts.EndAct.{EndAct}
use Rattle.strm_machine.specs.declared.acts.EndAct.TheVariants.{Operate, Drop, Cancel, Lift}
use Rattle.strm_machine.specs.declared.acts.Making.{Making}
use Rattle.strm_machine.specs.declared.acts.Making.TheVariants.{Guest, Between, Set, Context}
use Rattle.strm_machine.specs.declared.acts.SetAct.TheVariants.{Join, Poll}
use Rattle.strm_machine.specs.declared.replies.Reply.{Reply}
use Rattle.strm_machine.specs.declared.replies.Reply.TheVariants as replies
use Rattle.strm_machine.specs.declared.steps.Step.{Step}
use Rattle.strm_machine.specs.declared.streams.Side.{Side}
use Rattle.strm_shared.specs.declared.entry.Place.{Place}

-- a handle of a guest
abbrev pub place : ℕ → ℕ → Place
place guest handle = record { guest = guest; handle = handle }

-- WHAT A STEP NAMES

-- the handle that an event, a cancel or a set-join names, by which its end may be told its report, or join
-- a set
abbrev pub named_in : Act → Option Place
named_in (OnEnd side end Cancel) = Some (place end.guest end.handle)
named_in (Event guest handle) = Some (place guest handle)
named_in (OnSet guest set (Join handle)) = Some (place guest handle)
named_in _ = None

-- the same, of a step
abbrev pub place_named : Step → Option Place
place_named step = named_in (act_of step)

-- the handle whose end is read or written
abbrev pub operated_in : Act → Option Place
operated_in (OnEnd side end (Operate address count)) = Some (place end.guest end.handle)
operated_in _ = None

-- the same, of a step
abbrev pub operated : Step → Option Place
operated step = operated_in (act_of step)

-- the handle whose end was told a report
abbrev pub told_in : Act → Reply → Option Place
told_in (OnEnd side end Cancel) (replies.Code code) = Some (place end.guest end.handle)
told_in (Event guest handle) (replies.Event (Some code)) = Some (place guest handle)
told_in (OnSet guest set Poll) (replies.Member (Some member)) = Some (place guest member.handle)
told_in _ _ = None

-- an end is moved, whichever of the two it is
abbrev pub is_move_act : Act → Bool
is_move_act (Transfer end to) = true
is_move_act _ = false

-- the same, of a step
abbrev pub is_move : Step → Bool
is_move step = is_move_act (act_of step)

-- HOST ENDS

-- what is made has a host end
abbrev pub is_host_making : Making → Bool
is_host_making (Guest size) = false
is_host_making (Between writer reader ty) = false
is_host_making (Set guest) = false
is_host_making (Context guest address len) = false

-- the end that a guest's handle names leaves the guests
abbrev pub is_host_end_act : EndAct → Bool
is_host_end_act (Operate address count) = false
is_host_end_act Drop = false
is_host_end_act Cancel = false
is_host_end_act Lift = true

-- a host end is named, or an end that is of no guest, or an end leaves the guests: no act on a store that
-- threads share. Each act has its case, so that a new one asks for its own
abbrev pub is_host_act : Act → Bool
is_host_act (Make making) = is_host_making making
is_host_act (OnEnd side end act) = is_host_end_act act
is_host_act (Transfer end to) = false
is_host_act (OnLoose reader act) = true
is_host_act (OnHost host act) = true
is_host_act Drive = true
is_host_act (Event guest handle) = false
is_host_act (OnSet guest set act) = false
is_host_act (OnContext guest handle act) = false
is_host_act (OnMemory guest act) = false

-- the same, of a step
abbrev pub is_host_step : Step → Bool
is_host_step step = is_host_act (act_of step)

-- WHAT A REPLY SAYS

-- a step is refused since the end that it names has an operation
abbrev pub is_refused_busy : Reply → Bool
is_refused_busy (replies.Refused refusals.Busy) = true
is_refused_busy _ = false

-- AN END THAT WAITS

-- the handle names an end that has an operation
pub record IsBusy (state : State) (there : Place) : Type 0 where
  pub stream : ℕ
  pub side : Side
  pub named : is_end stream side (end_named state there.guest there.handle) ≡ true
  pub operates : is_busy side (stream_at state stream) ≡ true

-- the handle is in no set
abbrev pub IsInNoSet : State → Place → Type 0
IsInNoSet state there =
    (number : ℕ) → is_member (sets_in state.guests there.guest) number there.handle ≡ false
