-- Steps as they are kept in a list, with the chunks of all of them in another. Ours.
use Rattle.std.specs.Prelude.{ℕ, ◌<◌, List, [], ◌∷◌, slice_index_or}
use Rattle.strm_machine.specs.declared.short_steps.ShortStep.{ShortStep}
use Rattle.strm_machine.specs.declared.short_steps.ShortStep.TheVariants as short
use Rattle.strm_machine.specs.declared.steps.Step.{Step}
use Rattle.strm_machine.specs.declared.steps.Step.TheVariants as steps

-- the chunk at a place
abbrev pub chunk_at : List (List ℕ) → ℕ → List ℕ
chunk_at chunks place = slice_index_or chunks place []

-- the step with its chunk
abbrev pub whole_step : List (List ℕ) → ShortStep → Step
whole_step chunks (short.Guest size) = steps.Guest size
whole_step chunks (short.New guest ty) = steps.New guest ty
whole_step chunks (short.Between writer reader ty) = steps.Between writer reader ty
whole_step chunks (short.Write guest ty handle address count) = steps.Write guest ty handle address count
whole_step chunks (short.Read guest ty handle address count) = steps.Read guest ty handle address count
whole_step chunks (short.DropWrite guest ty handle) = steps.DropWrite guest ty handle
whole_step chunks (short.DropRead guest ty handle) = steps.DropRead guest ty handle
whole_step chunks (short.CancelWrite guest ty handle) = steps.CancelWrite guest ty handle
whole_step chunks (short.CancelRead guest ty handle) = steps.CancelRead guest ty handle
whole_step chunks (short.Move guest ty handle to) = steps.Move guest ty handle to
whole_step chunks (short.Lift guest ty handle) = steps.Lift guest ty handle
whole_step chunks (short.Lower reader guest ty) = steps.Lower reader guest ty
whole_step chunks (short.Close reader) = steps.Close reader
whole_step chunks (short.HostNew host) = steps.HostNew host
whole_step chunks (short.Feed host bytes) = steps.Feed host (chunk_at chunks bytes)
whole_step chunks (short.Pipe reader host) = steps.Pipe reader host
whole_step chunks (short.Grant host count) = steps.Grant host count
whole_step chunks short.Drive = steps.Drive
whole_step chunks (short.Event guest handle) = steps.Event guest handle
whole_step chunks (short.SetNew guest) = steps.SetNew guest
whole_step chunks (short.SetJoin guest set handle) = steps.SetJoin guest set handle
whole_step chunks (short.SetPoll guest set) = steps.SetPoll guest set
whole_step chunks (short.SetDrop guest set) = steps.SetDrop guest set
whole_step chunks (short.ErrNew guest address len) = steps.ErrNew guest address len
whole_step chunks (short.ErrText guest handle address) = steps.ErrText guest handle address
whole_step chunks (short.ErrMove guest handle to) = steps.ErrMove guest handle to
whole_step chunks (short.ErrDrop guest handle) = steps.ErrDrop guest handle
whole_step chunks (short.Poke guest address bytes) = steps.Poke guest address (chunk_at chunks bytes)
whole_step chunks (short.Dump guest address len) = steps.Dump guest address len

-- the place of a step is the place of a chunk, of which there are so many
abbrev pub IsStepPlaced : ℕ → ShortStep → Type 0
IsStepPlaced count (short.Feed host bytes) = bytes < count
IsStepPlaced count (short.Poke guest address bytes) = bytes < count
IsStepPlaced count _ = Unit {0}

-- the chunk of a step, if it has one
abbrev pub chunks_of_step : Step → List (List ℕ)
chunks_of_step (steps.Feed host bytes) = bytes ∷ []
chunks_of_step (steps.Poke guest address bytes) = bytes ∷ []
chunks_of_step _ = []
