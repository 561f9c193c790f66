-- Records of a host writer kept as they are spelled. Ours.
use Rattle.std.specs.Prelude.{◌≡◌, ℕ, List, [], Option, Some, None}
use Rattle.strm_codes.specs.declared.payloads.Payload.{Payload}
use Rattle.strm_buffers.specs.Said.{WriterSaid}
use Rattle.strm_tape.specs.Reading.{Found, many, read_writer_record}

-- records of host writers of one payload, in order
pub record Recorded : Type 0 where
  pub payload : Payload
  pub said : List WriterSaid

-- the things that were found, none where nothing was
abbrev pub things_of : {A : Type 0} → Found (List A) → List A
things_of None = []
things_of (Some found) = found.0

-- so many records at the front of bytes
abbrev pub records_in : Payload → ℕ → List ℕ → List WriterSaid
records_in payload n bytes = things_of (many (read_writer_record payload) n bytes)

-- the same, with their payload
abbrev pub recorded_in : Payload → ℕ → List ℕ → Recorded
recorded_in payload n bytes = record { payload = payload; said = records_in payload n bytes }

-- the bytes are so many records, one behind the other, and nothing more
pub record AreSpelledRecords (payload : Payload) (n : ℕ) (bytes : List ℕ) : Type 0 where
  pub are : many (read_writer_record payload) n bytes ≡ Some (records_in payload n bytes, [])
