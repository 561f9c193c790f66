-- How a step that is done on a store and its host ends may end. Ours.
use Rattle.std.specs.Prelude.{◌≢◌, Result, Err, IfOk, IsTrue}
use Rattle.strm_codes.specs.declared.refusals.Refusal.{Refusal}
use Rattle.strm_buffers.specs.Tells.{Tells}
use Rattle.strm_machine.specs.State.{State}
use Rattle.strm_machine.specs.declared.acts.Act.{Act}
use Rattle.strm_machine.specs.declared.replies.Reply.{Reply}
use Rattle.strm_transmit.specs.Meets.{is_settled}
use Rattle.strm_transmit.specs.Hosted.{RunsOutOnlyTaking, RunsOutNoneHeld}
use Rattle.strm_transmit.specs.declared.errors.StoreError.{StoreError}
use Rattle.strm_transmit.specs.declared.errors.StoreError.TheVariants.{Refused}

-- a reply stops nothing, a refusal is a reply, and memory runs out only where the act takes some, and never for
-- items that are handed over
pub record EndsPerforming (old : State) (tells : Tells) (act : Act) (result : Result Reply StoreError) : Type 0 where
  pub settled : IfOk result (λ reply. IsTrue (is_settled reply))
  pub refused : (refusal : Refusal) → result ≢ Err (Refused refusal)
  pub takes_no_memory : RunsOutOnlyTaking old act result
  pub held : RunsOutNoneHeld old tells act result
