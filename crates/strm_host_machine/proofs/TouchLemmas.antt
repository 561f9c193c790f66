-- How a step may touch a host end: what holds of each way holds of each act.
use Rattle.std.proofs.Common.{◌≡◌, ℕ, Bool, true, false, set, refl}
use Rattle.strm_machine.specs.State.{State, stream_at}
use Rattle.strm_machine.specs.Endings.{dropped}
use Rattle.strm_machine.specs.Tests.{named, stream_named}
use Rattle.strm_machine.specs.Refusals.{refusal}
use Rattle.strm_machine.specs.Reactions.{performs}
use Rattle.strm_machine.specs.declared.acts.Act.{Act}
use Rattle.strm_machine.specs.declared.acts.Act.TheVariants.{OnEnd, OnLoose, OnHost, Drive}
use Rattle.strm_machine.specs.declared.acts.EndAct.TheVariants.{Operate, Drop}
use Rattle.strm_machine.specs.declared.acts.LooseAct.TheVariants.{Close}
use Rattle.strm_machine.specs.declared.acts.HostAct.{HostAct}
use Rattle.strm_machine.specs.declared.acts.NamedEnd.{NamedEnd}
use Rattle.strm_machine.specs.declared.streams.Side.{Side}
use Rattle.strm_machine.specs.declared.streams.Side.TheVariants.{Reading}
use Rattle.strm_machine.specs.declared.replies.Reply.TheVariants as replies
use Rattle.strm_host_machine.specs.World.{World}
use Rattle.strm_host_machine.specs.HostRefusals.{refusal_in}
use Rattle.strm_host_machine.specs.Steps.{Touch, Operates, Drops, Hosts, Drives, TouchesNone, touch_of}

-- what a step does names no host end
abbrev pub names_none : Act → Bool
names_none (OnHost n act) = false
names_none _ = true

-- its own reasons refuse it
pub refusal-none : (world : World) (act : Act) → names_none act ≡ true → refusal_in world act ≡ refusal world.state act
unfolding refusal_in refusal
refusal-none world (OnHost n act) e = cc
refusal-none world _ e = refl

-- an act drops the end on a side of stream s, and names no host end
pub record IsDrop (state : State) (act : Act) (s : ℕ) (side : Side) : Type 0 where
  pub hostless : names_none act ≡ true
  pub done : (performs state act).reply ≡ replies.Done
  pub streams : (performs state act).state.streams ≡ set state.streams s (dropped side (stream_at state s))

-- what holds of each way in which an act may touch a host end
pub record EachTouch (P : Act → Touch → Type 0) (state : State) : Type 0 where
  pub operated : (side : Side) (end : NamedEnd) (address count : ℕ) → P (OnEnd side end (Operate address count)) (Operates side end address count)
  pub dropped : (act : Act) (s : ℕ) (side : Side) → IsDrop state act s side → P act (Drops s side)
  pub hosted : (n : ℕ) (act : HostAct) → P (OnHost n act) (Hosts n act)
  pub driven : P Drive Drives
  pub alone : (act : Act) → names_none act ≡ true → P act TouchesNone

-- holds of each act
pub touch-by : (P : Act → Touch → Type 0) (state : State) → EachTouch P state → (act : Act) → P act (touch_of state act)
unfolding performs
touch-by P state w (OnEnd side end (Operate address count)) = w.operated side end address count
touch-by P state w (OnEnd side end Drop) =
    w.dropped (OnEnd side end Drop) (stream_named (named state end)) side (record { hostless = refl; done = refl; streams = refl })
touch-by P state w (OnLoose reader Close) =
    w.dropped (OnLoose reader Close) reader Reading (record { hostless = refl; done = refl; streams = refl })
touch-by P state w (OnHost n act) = w.hosted n act
touch-by P state w Drive = w.driven
touch-by P state w act = w.alone act refl
