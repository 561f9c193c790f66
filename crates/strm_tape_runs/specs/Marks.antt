-- What is kept of host ends before a run, and what they recorded behind it. Ours.
use Rattle.std.specs.Prelude.{◌≡◌, ℕ, ◌<◌, ◌≤◌, List, [], ◌∷◌, ◌++◌, length, drop, slice_get, All, Some}
use Rattle.strm_machine.specs.declared.steps.Step.{Step}
use Rattle.strm_codes.specs.Types.{payload_of}
use Rattle.strm_buffers.specs.Said.{WriterSaid}
use Rattle.strm_buffers.specs.declared.answers.ReaderSaid.{ReaderSaid}
use Rattle.strm_buffers.specs.Tells.{WriterTells, ReaderTells, Tells}
use Rattle.strm_tape.specs.Spelling.{IsSpelledRoom, WriterTape, ReaderTape, TapeOf}
use Rattle.strm_tape_runs.specs.declared.marks.Mark.{Mark}
use Rattle.strm_tape_runs.specs.declared.marks.Marks.{Marks}
use Rattle.strm_tape_runs.specs.Taking.{writer_type, reader_type, zip_with}

-- the type of a host writer, and how many records it has
abbrev pub mark_of : WriterTells → Mark
mark_of tells = record { ty = writer_type tells; records = length tells.said }

-- the same of a host reader
abbrev pub reader_mark_of : ReaderTells → Mark
reader_mark_of tells = record { ty = reader_type tells; records = length tells.said }

-- what a host writer recorded behind a mark
abbrev pub writer_behind : Mark → WriterTells → WriterTape
writer_behind mark tells = record { ty = mark.ty; said = drop mark.records tells.said }

-- what a host reader recorded behind a mark
abbrev pub reader_behind : Mark → ReaderTells → ReaderTape
reader_behind mark tells = record { ty = mark.ty; said = drop mark.records tells.said }

-- the tape of these steps, and of what host ends that tell this recorded behind their marks
abbrev pub tape_behind : List Step → Marks → Tells → TapeOf
tape_behind steps marks tells = record {
  steps = steps;
  writers = zip_with writer_behind marks.writers.items tells.writers;
  readers = zip_with reader_behind marks.readers.items tells.readers;
}

-- a host writer has at least as many records as a mark says
abbrev pub IsMarkReached : Mark → WriterTells → Type 0
IsMarkReached mark tells = mark.records ≤ length tells.said

-- a host reader has
abbrev pub ReaderReached : Mark → ReaderTells → Type 0
ReaderReached mark tells = mark.records ≤ length tells.said

-- a record of a host writer states a room that is a count, if it states one
abbrev pub FairRoom : WriterSaid → Type 0
FairRoom said = IsSpelledRoom said.room

-- a record of a host reader took no more than was offered
abbrev pub FairTaking : ReaderSaid → Type 0
FairTaking said = said.taken ≤ said.offered

-- what a host writer recorded behind a mark has a place on a tape
pub record IsTapable (mark : Mark) (tells : WriterTells) : Type 0 where
  pub reached : IsMarkReached mark tells
  pub rooms : All FairRoom (drop mark.records tells.said)
  pub typed : tells.payload ≡ payload_of mark.ty
  pub few : length (drop mark.records tells.said) < 4294967296

-- what a host reader did has
pub record ReaderTapable (mark : Mark) (tells : ReaderTells) : Type 0 where
  pub reached : ReaderReached mark tells
  pub taken : All FairTaking (drop mark.records tells.said)
  pub few : length (drop mark.records tells.said) < 4294967296

-- the element of a list at this place was put behind others
pub record IsNext {A : Type 0} (xs : List A) (index : ℕ) (old new : List A) : Type 0 where
  pub one : A
  pub there : slice_get xs index ≡ Some one
  pub behind : new ≡ old ++ one ∷ []
