-- How a call of the store is a step of the machine. Ours.
use Rattle.std.specs.Prelude.{Bool, not, ◌==◌, false, ◌≡◌, true, Option, Some, None, Result, Ok, Err, if◌then◌else◌}
use Rattle.strm_codes.specs.declared.refusals.Refusal.{Refusal}
pub use Rattle.strm_machine.specs.Plays.{is_settled}
use Rattle.strm_machine.specs.Acts.{act_of}
use Rattle.strm_machine.specs.State.{State}
use Rattle.strm_machine.specs.Reactions.{Reaction, goes}
use Rattle.strm_machine.specs.declared.acts.Act.{Act}
use Rattle.strm_machine.specs.declared.acts.Act.TheVariants.{Make, Transfer, OnLoose, OnHost, OnSet, OnContext}
use Rattle.strm_machine.specs.declared.acts.ContextAct.TheVariants as context_acts
use Rattle.strm_machine.specs.declared.acts.HostAct.TheVariants as host_acts
use Rattle.strm_machine.specs.declared.acts.LooseAct.TheVariants.{Lower}
use Rattle.strm_machine.specs.declared.acts.SetAct.TheVariants.{Join}
use Rattle.strm_machine.specs.declared.steps.Step.{Step}
use Rattle.strm_machine.specs.declared.replies.Reply.{Reply}
use Rattle.strm_machine.specs.declared.replies.Reply.TheVariants as replies
use Rattle.strm_transmit.specs.declared.errors.StoreError.{StoreError}
use Rattle.strm_transmit.specs.declared.errors.StoreError.TheVariants.{Refused, HostFailed, HostBroke, BadItem, StoreTrapped, OutOfMemory}

-- a reply of a step that is done
abbrev pub is_done : Reply → Bool
is_done (replies.Refused refusal) = false
is_done (replies.BadItem stream) = false
is_done replies.StoreTrapped = false
is_done _ = true

-- the store's answer and the state after it are the machine's. A refusal, a store that was trapped
-- and running out of memory leave the state as it was; running out of memory comes only where the machine does the
-- step, so never in place of a refusal. No host end is polled, so none fails or breaks its rules
abbrev pub Meets : State → State → Result Reply StoreError → Reaction → Type 0
Meets old new (Ok reply) reaction = reaction ≡ goes reply new
Meets old new (Err (Refused refusal)) reaction = (reaction ≡ goes (replies.Refused refusal) new) × (new ≡ old)
Meets old new (Err (HostFailed end)) reaction = ⊥
Meets old new (Err (HostBroke end)) reaction = ⊥
Meets old new (Err (BadItem stream)) reaction = (reaction ≡ goes (replies.BadItem stream) new) × (new.trapped ≡ true)
Meets old new (Err StoreTrapped) reaction = (reaction ≡ goes replies.StoreTrapped new) × (new ≡ old)
Meets old new (Err OutOfMemory) reaction = (is_done reaction.reply ≡ true) × (new ≡ old)

-- an answer as the reply that it is
abbrev pub as_reply : {T : Type 0} → (T → Reply) → Result T StoreError → Result Reply StoreError
as_reply f (Ok value) = Ok (f value)
as_reply f (Err error) = Err error

-- what was looked for, or why it may not be had, as an answer
abbrev pub as_answer : {T : Type 0} → Result T Refusal → Result T StoreError
as_answer (Ok value) = Ok value
as_answer (Err refusal) = Err (Refused refusal)

-- whether a step may be done for which this was looked for: a trapped store does none
abbrev pub admitted : {T : Type 0} → State → Result T Refusal → Result T StoreError
admitted state found = if state.trapped then Err StoreTrapped else as_answer found

-- a refusal, or what was looked for
abbrev pub or_found : {T : Type 0} → Option Refusal → T → Result T Refusal
or_found None value = Ok value
or_found (Some refusal) value = Err refusal

-- an answer in which a refusal is a reply too
abbrev pub refused_too : Result Reply StoreError → Result Reply StoreError
refused_too (Err (Refused refusal)) = Ok (replies.Refused refusal)
refused_too (Err (HostFailed end)) = Err (HostFailed end)
refused_too (Err (HostBroke end)) = Err (HostBroke end)
refused_too (Err (BadItem stream)) = Err (BadItem stream)
refused_too (Err StoreTrapped) = Err StoreTrapped
refused_too (Err OutOfMemory) = Err OutOfMemory
refused_too (Ok reply) = Ok reply

-- an act that takes memory: it makes something, gives a guest a handle that it has not given up in the
-- same act, gives a set a member, or acts on a host end; a pipe takes none
abbrev pub act_takes_memory : Act → Bool
act_takes_memory (Make making) = true
act_takes_memory (Transfer end to) = not (end.guest == to)
act_takes_memory (OnLoose reader (Lower guest ty)) = true
act_takes_memory (OnHost host host_acts.New) = true
act_takes_memory (OnHost host (host_acts.Feed bytes)) = true
act_takes_memory (OnHost host (host_acts.Grant count)) = true
act_takes_memory (OnSet guest set (Join handle)) = true
act_takes_memory (OnContext guest handle (context_acts.Move to)) = true
act_takes_memory _ = false

-- a step that takes memory
abbrev pub takes_memory : Step → Bool
takes_memory step = act_takes_memory (act_of step)
