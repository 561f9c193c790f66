-- What a run puts on a tape: its steps, and what each host end adds to its records in it. Ours.
use Rattle.std.specs.Prelude.{◌≡◌, ℕ, ◌<◌, List, [], ◌∷◌, length, take, drop, All}
use Rattle.strm_codes.specs.declared.codes.TransmitIndex.{TransmitIndex}
use Rattle.strm_machine.specs.Soundness.{type_with}
use Rattle.strm_machine.specs.declared.steps.Step.{Step}
use Rattle.strm_buffers.specs.Tells.{WriterTells, ReaderTells, Tells, told_by}
use Rattle.strm_tape.specs.Spelling.{WriterTape, ReaderTape, TapeOf}

-- the type of a host writer
abbrev pub writer_type : WriterTells → TransmitIndex
writer_type tells = type_with tells.kind tells.payload

-- the type of a host reader
abbrev pub reader_type : ReaderTells → TransmitIndex
reader_type tells = type_with tells.kind tells.payload

-- a host writer holds no items
abbrev pub HoldsNone : WriterTells → Type 0
HoldsNone tells = tells.holds ≡ []

-- no host writer holds items
abbrev pub NoneHolds : Tells → Type 0
NoneHolds tells = All HoldsNone tells.writers

-- this host writer holds items, and none before it does
pub record IsFirstHolding (n : ℕ) (tells : Tells) : Type 0 where
  pub there : n < length tells.writers
  pub holds : 0 < length (told_by tells n).holds
  pub before : All HoldsNone (take n tells.writers)

-- the tape of a host writer that told this before and tells that after: its type, and the records added
abbrev pub writer_added : WriterTells → WriterTells → WriterTape
writer_added old new = record { ty = writer_type old; said = drop (length old.said) new.said }

-- the tape of a host reader
abbrev pub reader_added : ReaderTells → ReaderTells → ReaderTape
reader_added old new = record { ty = reader_type old; said = drop (length old.said) new.said }

-- two lists, made one by one into a list as long as the shorter one
abbrev pub zip_with : {A B C : Type 0} → (A → B → C) → List A → List B → List C
zip_with f [] ys = []
zip_with f (x ∷ xs) [] = []
zip_with f (x ∷ xs) (y ∷ ys) = f x y ∷ zip_with f xs ys

-- the tape of these steps, among host ends that told this before them and tell that after
abbrev pub tape_of_run : List Step → Tells → Tells → TapeOf
tape_of_run steps old new = record {
  steps = steps;
  writers = zip_with writer_added old.writers new.writers;
  readers = zip_with reader_added old.readers new.readers;
}
