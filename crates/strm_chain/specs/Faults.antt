-- Why stages and an input make no chain. Ours.
use Rattle.std.specs.Prelude.{◌≡◌, ℕ, Bool, true, false, if◌then◌else◌, List, length, count_by, nat_lt, Option, Some, None, ◌⊎◌}
use Rattle.strm_chain.specs.declared.stages.Stage.{Stage}
use Rattle.strm_chain.specs.declared.stages.Stage.TheVariants.{Twice}
use Rattle.strm_chain.specs.declared.faults.ChainError.{ChainError}
use Rattle.strm_chain.specs.declared.faults.ChainError.TheVariants.{TooManyStages, TooManyTwice, TooLong, OutOfMemory}

-- whether a stage is Twice
abbrev pub is_twice : Stage → Bool
is_twice Twice = true
is_twice _ = false

-- more than 8 stages, more than 2 of them Twice, more than 65,536 bytes: the first of these
abbrev pub fault_of : List Stage → ℕ → Option ChainError
fault_of stages input =
    if nat_lt 8 (length stages) then Some TooManyStages
    else (if nat_lt 2 (count_by is_twice stages) then Some TooManyTwice
    else (if nat_lt 65536 input then Some TooLong else None))

-- an error is the fault of the stages and the input, or memory had run out where there is none
abbrev pub IsChainFault : List Stage → ℕ → ChainError → Type 0
IsChainFault stages input error =
    (fault_of stages input ≡ Some error) ⊎ ((fault_of stages input ≡ None) × (error ≡ OutOfMemory))
