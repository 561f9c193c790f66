-- Bytes that an engine lends: what it has of them, and what it is answered where a memory grows. Ours.
use Rattle.std.specs.Prelude.{◌≡◌, ℕ, ◌<◌, ◌^◌, ◌+◌, Bool, nat_lt, nat_le, not, if◌then◌else◌, List, [], ◌∷◌, length, take, IfSome}
use base.Fml.{Fml, fex}
use denote.Builtin.{u8}
use denote.RawPtr.{Ptr, ◌+ₚ◌}
use Rattle.std_alloc.specs.Vec.Ownership.{lodged}
use Rattle.strm_codes.specs.Refusals.{refusal_number}
use Rattle.strm_codes.specs.declared.refusals.Refusal.TheVariants.{UnknownGuest, MemoryTooBig}
use Rattle.strm_machine.specs.State.{State, memory_in, size_limit}
use Rattle.strm_machine.specs.Bases.{base_in, is_lent_in}

-- so many bytes are these
abbrev pub IsRun : ℕ → List ℕ → Type 0
IsRun len items = (len ≡ length items) × (len < 2 ^ 63)

-- the bytes, which lie there
abbrev pub run_at : Ptr → ℕ → List ℕ → Fml
run_at at len items = fex (IsRun len items) (λ _. lodged u8 at len len items)

-- the memory is the store's own
abbrev pub not_lent : ℕ
not_lent = 74

-- the bytes are fewer than the memory has
abbrev pub shorter : ℕ
shorter = 75

-- the first status whose test holds; or it is done
abbrev pub first_status : List (Bool × ℕ) → ℕ
first_status [] = 0
first_status ((holds, status) ∷ more) = if holds then status else first_status more

-- why a guest's memory is not to have so many bytes, of those that an engine lent
abbrev pub growth_reasons : State → ℕ → ℕ → List (Bool × ℕ)
growth_reasons state guest size =
    (nat_le (length state.guests) guest, refusal_number UnknownGuest)
    ∷ (nat_le size_limit size, refusal_number MemoryTooBig)
    ∷ (not (is_lent_in state.guests guest), not_lent)
    ∷ (nat_lt size (length (memory_in state.guests guest)), shorter)
    ∷ []

-- what it is answered
abbrev pub growth_status : State → ℕ → ℕ → ℕ
growth_status state guest size = first_status (growth_reasons state guest size)

-- the bytes of a guest's memory with these
abbrev pub size_with : State → ℕ → List ℕ → ℕ
size_with state guest more = length (memory_in state.guests guest) + length more

-- a place directly behind the end of a guest's memory
abbrev pub IsBehind : State → ℕ → Ptr → Type 0
IsBehind state guest at =
    IfSome (base_in state.guests guest) (λ base. at ≡ base.at +ₚ length (memory_in state.guests guest))

-- bytes that begin with all of a guest's memory
abbrev pub BeginWith : State → ℕ → List ℕ → Type 0
BeginWith state guest bytes =
    take (length (memory_in state.guests guest)) bytes ≡ memory_in state.guests guest
