-- What C is answered where a guest is to begin under the number of one that ended. Ours.
use Rattle.std.specs.Prelude.{ℕ, Bool, nat_le, List, [], ◌∷◌, length}
use Rattle.strm_codes.specs.Refusals.{refusal_number}
use Rattle.strm_codes.specs.declared.refusals.Refusal.TheVariants.{UnknownGuest}
use Rattle.strm_machine.specs.State.{State}
use Rattle.strm_places.specs.Lives.{is_in_use}
use Rattle.strm_c.specs.Bytes.{first_status}

-- the guest has bytes, handles, or a memory that was lent: it did not end, or began again
abbrev pub in_use : ℕ
in_use = 76

-- why a guest's number is not free for one that begins
abbrev pub use_reasons : State → ℕ → List (Bool × ℕ)
use_reasons state guest =
    (nat_le (length state.guests) guest, refusal_number UnknownGuest)
    ∷ (is_in_use state guest, in_use)
    ∷ []

-- what it is answered, or 0 where it is free
abbrev pub use_status : State → ℕ → ℕ
use_status state guest = first_status (use_reasons state guest)
