-- Where a memory lies, as it was told.
use Rattle.std.proofs.Common.{◌≡◌, Bool, true, false, refl}
use Rattle.std.specs.Bool.{then_some}
use Rattle.std.specs.Ptr.{Ptr}
use Rattle.strm_memory.specs.Linear.{own_at, told_at}

-- bytes of the store's own stay so
pub told_own : (told : Bool) (at : Ptr) → told_at (then_some told (own_at at)) at ≡ own_at at
told_own true at = refl
told_own false at = refl
