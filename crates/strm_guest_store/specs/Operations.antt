-- A read or write of a store among guests. Ours: in the Canonical ABI a bad char traps the instance that lifts
-- it.
use Rattle.std.specs.Prelude.{◌≡◌, Result, Ok, Err}
use Rattle.strm_codes.specs.declared.codes.ReturnCode.{ReturnCode}
use Rattle.strm_machine.specs.State.{State}
use Rattle.strm_machine.specs.Reactions.{goes, react}
use Rattle.strm_machine.specs.declared.replies.Reply.TheVariants as replies
use Rattle.strm_machine.specs.declared.steps.Step.{Step}
use Rattle.strm_transmit.specs.BadItems.{IsBadItem}
use Rattle.strm_transmit.specs.declared.store.bad_items.BadItem.{BadItem}
use Rattle.strm_guest_store.specs.declared.operations.OperateError.{OperateError}
use Rattle.strm_guest_store.specs.declared.operations.OperateError.TheVariants as errors

-- the machine stops this step at an item that is none, and this is the item: who writes it, and its place
pub record StopsAtItem (state : State) (step : Step) (item : BadItem) : Type 0 where
  pub found : IsBadItem state step item
  pub answer : (react state step).reply ≡ replies.BadItem found.stream

-- a read or write, and the state after it, are the machine's step. Where the machine stops at an item that is
-- none, the answer says so with the item, and the state is as it was
abbrev pub MeetsOrTells : State → State → Result ReturnCode OperateError → Step → Type 0
MeetsOrTells old new (Ok code) step = react old step ≡ goes (replies.Code code) new
MeetsOrTells old new (Err (errors.Refused refusal)) step = (react old step ≡ goes (replies.Refused refusal) new) × (new ≡ old)
MeetsOrTells old new (Err (errors.BadItem item)) step = StopsAtItem old step item × (new ≡ old)
