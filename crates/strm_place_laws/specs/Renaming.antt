-- States that are equal but for the numbers of their streams, and a step and its reply under other
-- numbers. Ours.
use Rattle.std.specs.Prelude.{◌≡◌, ℕ, ◌<◌, ◌≤◌, ◌==◌, true, if◌then◌else◌, List, length, map, count_by, nat_lt, slice_index_or}
use Rattle.std.specs.Option.{option_map}
use Rattle.strm_handles.specs.Handles.{Handles}
use Rattle.strm_handles.specs.declared.entries.Entry.{Entry}
use Rattle.strm_handles.specs.declared.entries.Entry.TheVariants as entries
use Rattle.strm_machine.specs.State.{State, Guest, no_stream, is_live, stream_limit}
use Rattle.strm_machine.specs.Soundness.{IsSound}
use Rattle.strm_machine.specs.Reactions.{Reaction}
use Rattle.strm_machine.specs.declared.streams.Stream.{Stream}
use Rattle.strm_machine.specs.declared.acts.Act.{Act}
use Rattle.strm_machine.specs.declared.acts.Act.TheVariants.{OnEnd, OnLoose}
use Rattle.strm_machine.specs.declared.acts.EndAct.TheVariants.{Lift}
use Rattle.strm_machine.specs.declared.steps.Step.{Step}
use Rattle.strm_machine.specs.declared.steps.Step.TheVariants as steps
use Rattle.strm_laws.specs.Laws.{HandlesHold}
use Rattle.strm_places.specs.Again.{IsFree, is_making}
use Rattle.strm_machine.specs.declared.replies.Reply.{Reply}
use Rattle.strm_machine.specs.declared.replies.Reply.TheVariants as replies

-- STATES

-- what a handle stands for, the number of a stream exchanged for its number under f
abbrev pub entry_as : (ℕ → ℕ) → Entry → Entry
entry_as f (entries.Stream end) = entries.Stream (record end { rep = f end.rep })
entry_as f (entries.Future end) = entries.Future (record end { rep = f end.rep })
entry_as f entry = entry

-- a table so
abbrev pub handles_as : (ℕ → ℕ) → Handles → Handles
handles_as f handles = record {
  entries = map (option_map (entry_as f)) handles.entries;
  freed = handles.freed;
}

-- a guest so
abbrev pub guest_as : (ℕ → ℕ) → Guest → Guest
guest_as f guest = record guest { handles = handles_as f guest.handles }

-- all guests so
abbrev pub guests_as : (ℕ → ℕ) → List Guest → List Guest
guests_as f guests = map (guest_as f) guests

-- a state so, with these streams
abbrev pub state_as : (ℕ → ℕ) → State → List Stream → State
state_as f state streams = record state { guests = guests_as f state.guests; streams = streams }

-- each place of the slim list has the stream that the full one has under that number, no two places the
-- same one; what else the full one has is gone
pub record AreRenamed (f : ℕ → ℕ) (slim full : List Stream) : Type 0 where
  pub there : (s : ℕ) → s < length slim → f s < length full
  pub single : (s t : ℕ) → s < length slim → t < length slim → f s ≡ f t → s ≡ t
  pub same : (s : ℕ) → s < length slim →
      slice_index_or full (f s) no_stream ≡ slice_index_or slim s no_stream
  pub live : count_by is_live full ≡ count_by is_live slim
  pub few : length slim ≤ length full

-- two states are equal but for the numbers of their streams, and for streams of the full one that are gone
pub record Renames (f : ℕ → ℕ) (slim full : State) : Type 0 where
  pub rest : full ≡ state_as f slim full.streams
  pub streams : AreRenamed f slim.streams full.streams

-- STEPS

-- the number of a stream in the full state. One that the slim state has no place for gets one that the full
-- state has no stream of either
abbrev pub number_as : (ℕ → ℕ) → State → State → ℕ → ℕ
number_as f slim full s = if nat_lt s (length slim.streams) then f s else length full.streams

-- an act, the number of a loose end's stream that it names, if it does, exchanged so. Beside these only acts
-- of host ends name one, which the machine without host ends refuses
abbrev pub act_as : (ℕ → ℕ) → Act → Act
act_as number (OnLoose reader act) = OnLoose (number reader) act
act_as number act = act

-- the same of a step
abbrev pub step_as : (ℕ → ℕ) → Step → Step
step_as number (steps.Lower reader guest ty) = steps.Lower (number reader) guest ty
step_as number (steps.Close reader) = steps.Close (number reader)
step_as number step = step

-- REPLIES

-- a number that is answered: a lift's is a stream's
abbrev pub answer_as : (ℕ → ℕ) → Act → ℕ → ℕ
answer_as f (OnEnd side end Lift) n = f n
answer_as f act n = n

-- a reply, with the number under f of the stream that it tells of, if it does
abbrev pub reply_as : (ℕ → ℕ) → Act → Reply → Reply
reply_as f act (replies.Number n) = replies.Number (answer_as f act n)
reply_as f act (replies.Pair pair) = replies.Pair (record pair { stream = f pair.stream })
reply_as f act (replies.BadItem s) = replies.BadItem (f s)
reply_as f act reply = reply

-- the numbers, and that of one stream
abbrev pub with_number : (ℕ → ℕ) → ℕ → ℕ → ℕ → ℕ
with_number f n number s = if s == n then number else f s

-- the numbers after a step, by its reply in the slim state: a stream that was made in place n there has the
-- number behind the last in the full one
abbrev pub numbers_after : (ℕ → ℕ) → ℕ → State → Reply → ℕ → ℕ
numbers_after f n full (replies.Pair pair) = with_number f n (length full.streams)
numbers_after f n full reply = f

-- STEPS OF BOTH

-- an act may be done in both states: they are equal but for numbers, the slim one is sound, its handles and
-- ends agree, place n of it is free, and the full one has a number for a stream that is made
pub record CanAct (f : ℕ → ℕ) (n : ℕ) (slim full : State) (act : Act) : Type 0 where
  pub renames : Renames f slim full
  pub sound : IsSound slim
  pub hold : HandlesHold slim
  pub free : IsFree slim.streams n
  pub room : is_making act ≡ true → length full.streams < stream_limit

-- what an act does in the full state is what it does in the slim one: the reply is the same but for the
-- stream's number, and the states are equal but for numbers again
pub record ComesOut (f : ℕ → ℕ) (n : ℕ) (before : State) (act : Act) (slim full : Reaction) : Type 0 where
  pub reply : full.reply ≡ reply_as (numbers_after f n before slim.reply) act slim.reply
  pub state : Renames (numbers_after f n before slim.reply) slim.state full.state
