-- What C gets of a call that gives a guest a handle, where guests have limits. Ours.
use Rattle.std.specs.Prelude.{◌≡◌, ℕ, Bool, true, false, List, Option, Some, None, Result, Ok, Err}
use Rattle.strm_codes.specs.declared.refusals.Refusal.{Refusal}
use Rattle.strm_machine.specs.State.{State}
use Rattle.strm_transmit.specs.Queries.{of_guest}
use Rattle.strm_guest_store.specs.declared.guest_limits.GuestLimits.{GuestLimits}
use Rattle.strm_c.specs.Statuses.{IsNothing}
use Rattle.strm_c.specs.declared.exports.limits.StrmLimits.{StrmLimits}
use Rattle.strm_c.specs.declared.handles.StoreHandle.{StoreHandle}

-- the call would give a guest more than its limits allow
abbrev pub guest_limit_status : ℕ
guest_limit_status = 72

-- by a test of its store and of the limits of its guests
abbrev pub is_past_by : (State → List GuestLimits → Bool) → List GuestLimits → Option State → Bool
is_past_by past limits (Some state) = past state limits
is_past_by past limits None = false

-- a call on a handle would; it would not where that is of no store
abbrev pub is_past_in : StoreHandle → (State → List GuestLimits → Bool) → Bool
is_past_in h past = is_past_by past h.limits h.state

-- the same of a call that names a payload or a type by a word; it would not where the word is none's
abbrev pub is_past_of : {T : Type 0} → StoreHandle → Option T → (State → List GuestLimits → Bool) → Bool
is_past_of h (Some named) past = is_past_in h past
is_past_of h None past = false

-- a call that gives a guest a handle: where that would be more than the guest's limits allow, nothing is done, which
-- the status tells; else it answers as where there are no limits. The limits stay
pub record WithinLimits (old new : StoreHandle) (is_past : Bool) (status old_word new_word : ℕ) (answers : Type 0) : Type 0 where
  pub past : is_past ≡ true → IsNothing old.state guest_limit_status status old_word new_word new.state
  pub within : is_past ≡ false → answers
  pub limits : new.limits ≡ old.limits

-- whether a guest is there, whose limits are to be set
abbrev pub guest_answer : State → ℕ → Result (Unit {0}) Refusal
guest_answer state guest = of_guest state guest (Ok tt)

-- how much a guest may have
abbrev pub told_limits : GuestLimits → StrmLimits
told_limits limits = record { bytes = limits.bytes; handles = limits.handles; ends = limits.ends }

-- the same of an answer; a refusal leaves what was there
abbrev pub answer_limits : Result GuestLimits Refusal → StrmLimits → StrmLimits
answer_limits (Ok limits) old = told_limits limits
answer_limits (Err refusal) old = old
