-- Which errors there are. Ours.
use Rattle.strm_tape.specs.declared.errors.TapeError.{TapeError}
use Rattle.strm_tape.specs.declared.errors.TapeError.TheVariants.{Holding, NotTapable, Differs, OutOfMemory}

-- an error of a run that is put on tape
abbrev pub IsTakingError : TapeError → Type 0
IsTakingError (Holding n) = Unit {0}
IsTakingError NotTapable = Unit {0}
IsTakingError OutOfMemory = Unit {0}
IsTakingError _ = ⊥

-- an error of a replay
abbrev pub IsReplayError : TapeError → Type 0
IsReplayError (Differs reader end at) = Unit {0}
IsReplayError OutOfMemory = Unit {0}
IsReplayError _ = ⊥
