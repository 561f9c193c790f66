-- What the functions of a drop promise one another. Ours.
use Rattle.std.specs.Prelude.{◌≡◌, ◌≢◌, ℕ, ◌<◌, length, Result, Err, IfOk, OnErr}
use Rattle.strm_machine.specs.State.{State, stream_at}
use Rattle.strm_machine.specs.Moves.{with_owner, without_handle}
use Rattle.strm_machine.specs.Reactions.{with_stream_at}
use Rattle.strm_machine.specs.Refusals.{refusal}
use Rattle.strm_machine.specs.Tests.{named, stream_named}
use Rattle.strm_machine.specs.declared.acts.Act.TheVariants.{OnEnd}
use Rattle.strm_machine.specs.declared.acts.EndAct.TheVariants.{Drop}
use Rattle.strm_machine.specs.declared.acts.NamedEnd.{NamedEnd}
use Rattle.strm_machine.specs.declared.streams.Owner.TheVariants.{Gone}
use Rattle.strm_machine.specs.declared.streams.Side.{Side}
use Rattle.strm_transmit.specs.Meets.{admitted, or_found}
use Rattle.strm_transmit.specs.declared.errors.StoreError.{StoreError}
use Rattle.strm_transmit.specs.declared.errors.StoreError.TheVariants.{OutOfMemory}

-- the end that a handle names is gone, where it may be dropped, and the answer is its stream; a host end on the other
-- side stays
pub record DropsEnd (old new : State) (side : Side) (end : NamedEnd) (result : Result ℕ StoreError) : Type 0 where
  pub exact : result ≡ admitted old (or_found (refusal old (OnEnd side end Drop)) (stream_named (named old end)))
  pub there : IfOk result (λ s. s < length old.streams)
  pub gone : IfOk result (λ s.
      new ≡ with_stream_at (without_handle old end.guest end.handle) s (with_owner side (stream_at old s) Gone))
  pub err : OnErr result (new ≡ old)
  pub takes_no_memory : result ≢ Err OutOfMemory
