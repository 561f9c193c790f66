-- What the functions of a read or write promise one another. Ours.
use Rattle.std.specs.Prelude.{◌≡◌, ◌≢◌, ℕ, ◌<◌, false, length, None, Result, Err, IfErr}
use Rattle.strm_buffers.specs.Tells.{Tells}
use Rattle.strm_codes.specs.declared.codes.ReturnCode.{ReturnCode}
use Rattle.strm_machine.specs.Acts.{act_of}
use Rattle.strm_machine.specs.State.{State, stream_at}
use Rattle.strm_machine.specs.Reactions.{on_stream, reaction}
use Rattle.strm_machine.specs.Sides.{end_of}
use Rattle.strm_machine.specs.declared.acts.Act.{Act}
use Rattle.strm_machine.specs.declared.replies.Reply.TheVariants as replies
use Rattle.strm_machine.specs.declared.steps.Step.{Step}
use Rattle.strm_machine.specs.declared.streams.Operation.{Operation}
use Rattle.strm_machine.specs.declared.streams.Side.{Side}
use Rattle.strm_transmit.specs.Hosted.{MeetsHosted, StillFits, RunsOutOnlyPolling, RunsOutNoneHeld}
use Rattle.strm_transmit.specs.Meets.{Meets, as_reply}
use Rattle.strm_transmit.specs.Turning.{IsPlacedOn, IsNumberWithin}
use Rattle.strm_transmit.specs.declared.errors.StoreError.{StoreError}
use Rattle.strm_transmit.specs.BadItems.{MeetsOrStays}
use Rattle.strm_transmit.specs.declared.errors.StoreError.TheVariants.{BadItem, OutOfMemory}

-- a call that answers a code is this step of the machine among host ends
abbrev pub MeetsCode : Step → State → State → Tells → Tells → Result ReturnCode StoreError → Type 0
MeetsCode step old new tells told result =
    MeetsHosted old new tells told (as_reply replies.Code result) (act_of step)

-- a read or write is done, and a host end on the other side has its turn
pub record Operates (old new : State) (tells told : Tells) (act : Act) (result : Result ReturnCode StoreError) : Type 0 where
  -- it is the machine's step among host ends
  pub meets : MeetsHosted old new tells told (as_reply replies.Code result) act
  -- memory runs out only where a host end may be polled
  pub takes_no_memory : RunsOutOnlyPolling old act result
  -- and never for items that are handed over
  pub held : RunsOutNoneHeld old tells act result

-- a read or write is done, and no host end is polled
pub record OperatesOrStays (old new : State) (act : Act) (result : Result ReturnCode StoreError) : Type 0 where
  -- it is the machine's step, or an item that is none leaves the store as it was
  pub meets : MeetsOrStays old new (as_reply replies.Code result) (reaction old act)
  -- host ends that fitted the store fit it still
  pub fits : StillFits old new
  pub takes_no_memory : result ≢ Err OutOfMemory

-- an operation may begin on a side of stream s: nothing refuses it
pub record MayBegin (state : State) (side : Side) (s : ℕ) (operation : Operation) : Type 0 where
  pub there : s < length state.streams
  -- the end has no operation yet
  pub idle : (end_of side (stream_at state s)).operation ≡ None
  -- its items lie in its guest's memory
  pub placed : IsPlacedOn state s operation
  -- and are numbers or none, where the same guest waits on the other side
  pub numbers : IsNumberWithin state side s operation.guest
  pub untrapped : state.trapped ≡ false

-- it began there: it met the operation on the other side, or waits
pub record BeginsOn (old new : State) (side : Side) (s : ℕ) (operation : Operation) (result : Result ReturnCode StoreError) : Type 0 where
  -- it is the machine's step
  pub meets : Meets old new (as_reply replies.Code result) (on_stream old s side operation)
  pub takes_no_memory : result ≢ Err OutOfMemory

-- the same, or an item that is none leaves the store as it was
pub record BeginsOrStays (old new : State) (side : Side) (s : ℕ) (operation : Operation) (result : Result ReturnCode StoreError) : Type 0 where
  pub meets : MeetsOrStays old new (as_reply replies.Code result) (on_stream old s side operation)
  -- no other error comes
  pub bad : IfErr result (λ error. error ≡ BadItem s)
  pub takes_no_memory : result ≢ Err OutOfMemory
