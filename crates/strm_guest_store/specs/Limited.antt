-- A call that gives a guest a handle, where guests have limits. Ours.
use Rattle.std.specs.Prelude.{◌≡◌, ℕ, Bool, true, ◌↔◌, Result, IfOk, IsErr, OnErr}
use Rattle.strm_machine.specs.Reactions.{Reaction}
use Rattle.strm_machine.specs.declared.replies.Reply.TheVariants as replies
use Rattle.strm_transmit.specs.Meets.{Meets, as_reply}
use Rattle.strm_transmit.specs.declared.errors.StoreError.{StoreError}
use Rattle.strm_guest_store.specs.declared.guest_limits.PastLimit.{PastLimit}
use Rattle.strm_guest_store.specs.declared.limited_store.LimitedStore.{LimitedStore}

-- it is refused exactly where it would give a guest more than its limits allow, and nothing changes then;
-- whatever it answers, the limits stay
pub record KeepsLimits {T : Type 0} (old new : LimitedStore) (past : Bool) (result : Result T PastLimit) : Type 0 where
  pub exactly : IsErr result ↔ (past ≡ true)
  pub kept : OnErr result (new ≡ old)
  pub limits : new.limits ≡ old.limits

-- where it is not refused so, it answers a number, as the machine does
abbrev pub GivesNumber : LimitedStore → LimitedStore → Result (Result ℕ StoreError) PastLimit → Reaction → Type 0
GivesNumber old new result reaction =
    IfOk result (λ answer. Meets old.store new.store (as_reply replies.Number answer) reaction)
