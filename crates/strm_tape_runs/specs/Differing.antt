-- Where two tapes differ first. Ours.
use Rattle.std.specs.Prelude.{◌≡◌, ◌≢◌, ℕ, Bool, true, false, List, [], map, take, slice_get, slice_index_or}
use Rattle.strm_buffers.specs.declared.answers.ReaderSaid.{ReaderSaid}
use Rattle.strm_buffers.specs.Said.{WriterSaid}
use Rattle.strm_tape.specs.Spelling.{WriterTape, ReaderTape, TapeOf}

-- two lists have the same elements before this place, and not at it, where one of them may end
pub record DifferFirst {A : Type 0} (at : ℕ) (xs ys : List A) : Type 0 where
  pub before : take at xs ≡ take at ys
  pub there : slice_get xs at ≢ slice_get ys at

-- the records of a host writer, by its number
abbrev pub said_by : List WriterTape → ℕ → List WriterSaid
said_by writers n = slice_index_or (map (λ (w : WriterTape). w.said) writers) n []

-- and of a host reader
abbrev pub said_by_reader : List ReaderTape → ℕ → List ReaderSaid
said_by_reader readers r = slice_index_or (map (λ (r : ReaderTape). r.said) readers) r []

-- the records of host writers first differ in those of this one, at this place
abbrev pub WritersDiffer : List WriterTape → List WriterTape → ℕ → ℕ → Type 0
WritersDiffer xs ys n at = (take n xs ≡ take n ys) × DifferFirst at (said_by xs n) (said_by ys n)

-- and those of host readers
abbrev pub ReadersDiffer : List ReaderTape → List ReaderTape → ℕ → ℕ → Type 0
ReadersDiffer xs ys r at = (take r xs ≡ take r ys) × DifferFirst at (said_by_reader xs r) (said_by_reader ys r)

-- two tapes of the same steps first differ in the records of this end, host writers being before host readers,
-- and there at this place
abbrev pub FirstDiffer : TapeOf → TapeOf → Bool → ℕ → ℕ → Type 0
FirstDiffer a b false n at = WritersDiffer a.writers b.writers n at
FirstDiffer a b true r at = (a.writers ≡ b.writers) × ReadersDiffer a.readers b.readers r at
