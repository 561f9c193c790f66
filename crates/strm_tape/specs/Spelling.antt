-- The grammar of a tape: how a number, a payload, a step is spelled. Ours.
use Rattle.std.specs.Prelude.{◌≡◌, ℕ, ◌+◌, ◌*◌, ◌<◌, ◌≤◌, nat_lt, ◌&&◌, All, Bool, true, false, List, [], ◌∷◌, ◌++◌, length, map, replicate, codes, if◌then◌else◌, Option, Some, None}
use Rattle.std.specs.List.{flat_map, list_all}
use Rattle.std.specs.Str.{bytes_eq}
use Rattle.strm_codes.specs.Layout.{item_type}
use Rattle.strm_codes.specs.ItemTypes.{item_size, ItemType}
use Rattle.strm_codes.specs.NodeBytes.{node_byte}
use Rattle.strm_codes.specs.Sameness.{scalar_number}
use Rattle.strm_codes.specs.Types.{payload_of}
use Rattle.strm_codes.specs.declared.payloads.Payload.{Payload}
use Rattle.strm_codes.specs.declared.payloads.Payload.TheVariants.{Nothing, One, Tuple, Compound}
use Rattle.strm_codes.specs.declared.codes.TransmitIndex.{TransmitIndex}
use Rattle.strm_codes.specs.declared.codes.TransmitIndex.TheVariants.{Stream, Future}
use Rattle.strm_memory.specs.Bytes.{to_le}
use Rattle.strm_memory.specs.Items.{stored, AreItems}
use Rattle.strm_buffers.specs.declared.answers.Answer.{Answer}
use Rattle.strm_buffers.specs.declared.answers.Answer.TheVariants.{Pending, Completed, Cancelled, Dropped, Failed}
use Rattle.strm_buffers.specs.declared.answers.ReaderSaid.{ReaderSaid}
use Rattle.strm_buffers.specs.Listing.{Item}
use Rattle.strm_buffers.specs.Said.{WriterSaid}
use Rattle.strm_machine.specs.declared.steps.Step.{Step}
use Rattle.strm_lines.specs.Grammar.{Argument, Number, Within, Typed, Count, Bytes, Fed, line_of, IsU32, IsType, HasLine}

-- a number, the least of its four bytes first
abbrev pub number_bytes : ℕ → List ℕ
number_bytes n = to_le 4 n

-- a payload: nothing, a scalar, one to eight scalars, each by its place among the scalars, or the words of
-- a type that holds others
abbrev pub payload_bytes : Payload → List ℕ
payload_bytes Nothing = 0 ∷ []
payload_bytes (One scalar) = 1 ∷ scalar_number scalar ∷ []
payload_bytes (Tuple shape) = 2 ∷ length shape ∷ map scalar_number shape
payload_bytes (Compound words) = 3 ∷ length words ∷ map node_byte words

-- a kind, and a payload
abbrev pub type_bytes : TransmitIndex → List ℕ
type_bytes (Stream payload) = 0 ∷ payload_bytes payload
type_bytes (Future payload) = 1 ∷ payload_bytes payload

-- bytes behind their number
abbrev pub counted_bytes : List ℕ → List ℕ
counted_bytes bytes = length bytes ∷ bytes

-- an argument of a step's line, as its bytes: the count of a future's read or write is written too
abbrev pub argument_bytes : Argument → List ℕ
argument_bytes (Number n) = number_bytes n
argument_bytes (Within low high n) = number_bytes n
argument_bytes (Typed ty) = type_bytes ty
argument_bytes (Count ty count) = number_bytes count
argument_bytes (Bytes bytes) = counted_bytes bytes
argument_bytes (Fed bytes) = counted_bytes bytes

-- arguments in a row
abbrev pub arguments_bytes : List Argument → List ℕ
arguments_bytes [] = []
arguments_bytes (a ∷ []) = argument_bytes a
arguments_bytes (a ∷ b ∷ arguments) = argument_bytes a ++ arguments_bytes (b ∷ arguments)

-- the commands of the lines, in the order of their table: a new kind of step has its command here
abbrev pub commands : List (List ℕ)
commands =
    codes "guest" ∷ codes "new" ∷ codes "pair" ∷ codes "write" ∷ codes "read"
    ∷ codes "cancel-write" ∷ codes "cancel-read" ∷ codes "drop-write" ∷ codes "drop-read"
    ∷ codes "event" ∷ codes "move" ∷ codes "lift" ∷ codes "lower" ∷ codes "pipe" ∷ codes "close"
    ∷ codes "host" ∷ codes "drive" ∷ codes "feed" ∷ codes "grant"
    ∷ codes "set-new" ∷ codes "set-join" ∷ codes "set-poll" ∷ codes "set-drop"
    ∷ codes "err-new" ∷ codes "err-text" ∷ codes "err-move" ∷ codes "err-drop"
    ∷ codes "poke" ∷ codes "dump" ∷ []

-- the place of a command among these, from n on
abbrev pub place_among : ℕ → List (List ℕ) → List ℕ → ℕ
place_among n [] command = n
place_among n (c ∷ cs) command = if bytes_eq command c then n else place_among (n + 1) cs command

-- the place of a step's command, from 1
abbrev pub command_place : Step → ℕ
command_place step = place_among 1 commands (line_of step).command

-- a step: the place of its command, and the arguments of its line
abbrev pub step_bytes : Step → List ℕ
step_bytes step = command_place step ∷ arguments_bytes (line_of step).arguments

-- steps in a row
abbrev pub steps_bytes : List Step → List ℕ
steps_bytes steps = flat_map step_bytes steps

-- RECORDS

-- a room, which is below 2^28; none is the greatest number
abbrev pub room_bytes : Option ℕ → List ℕ
room_bytes None = number_bytes 4294967295
room_bytes (Some room) = number_bytes room

-- yes or no
abbrev pub flag_byte : Bool → ℕ
flag_byte false = 0
flag_byte true = 1

-- an answer by its place among the answers
abbrev pub answer_number : Answer → ℕ
answer_number Pending = 0
answer_number Completed = 1
answer_number Cancelled = 2
answer_number Dropped = 3
answer_number Failed = 4

-- items as they lie in bytes that were 0
abbrev pub region_bytes : ItemType → List Item → List ℕ
region_bytes ss xs = stored ss (replicate (item_size ss * length xs) 0) xs

-- items behind their number
abbrev pub items_bytes : ItemType → List Item → List ℕ
items_bytes ss xs = number_bytes (length xs) ++ region_bytes ss xs

-- a record of a host writer
abbrev pub writer_record_bytes : WriterSaid → List ℕ
writer_record_bytes said =
    room_bytes said.room
    ++ (flag_byte said.finish ∷ (items_bytes (item_type said.payload) said.items ++ (answer_number said.answer ∷ [])))

-- a record of a host reader
abbrev pub reader_record_bytes : ReaderSaid → List ℕ
reader_record_bytes said =
    number_bytes said.offered
    ++ number_bytes said.since
    ++ (flag_byte said.finish ∷ [])
    ++ number_bytes said.taken
    ++ (flag_byte said.bad ∷ [])
    ++ (answer_number said.answer ∷ [])

-- things in a row behind their number
abbrev pub spelled_counted : {A : Type 0} → (A → List ℕ) → List A → List ℕ
spelled_counted write xs = number_bytes (length xs) ++ flat_map write xs

-- the same behind one byte
abbrev pub few_counted : {A : Type 0} → (A → List ℕ) → List A → List ℕ
few_counted write xs = length xs ∷ flat_map write xs

-- TAPES

-- what a tape has of a host writer: the type and the records
pub record WriterTape : Type 0 where
  pub ty : TransmitIndex
  pub said : List WriterSaid

-- and of a host reader
pub record ReaderTape : Type 0 where
  pub ty : TransmitIndex
  pub said : List ReaderSaid

-- a tape: the steps of a run, and what its host ends recorded
pub record TapeOf : Type 0 where
  pub steps : List Step
  pub writers : List WriterTape
  pub readers : List ReaderTape

-- the tape of these
abbrev pub tape_with : List Step → List WriterTape → List ReaderTape → TapeOf
tape_with steps writers readers = record { steps = steps; writers = writers; readers = readers }

-- a host writer: its type, and its records
abbrev pub writer_bytes : WriterTape → List ℕ
writer_bytes writer = type_bytes writer.ty ++ spelled_counted writer_record_bytes writer.said

-- a host reader: the same
abbrev pub reader_bytes : ReaderTape → List ℕ
reader_bytes reader = type_bytes reader.ty ++ spelled_counted reader_record_bytes reader.said

-- a payload that the first version knows: no float, and no type that holds others
abbrev pub is_first_payload : Payload → Bool
is_first_payload Nothing = true
is_first_payload (One scalar) = nat_lt (scalar_number scalar) 10
is_first_payload (Tuple shape) = list_all (λ s. nat_lt (scalar_number s) 10) shape
is_first_payload (Compound words) = false

-- an argument that it knows
abbrev pub is_first_argument : Argument → Bool
is_first_argument (Typed ty) = is_first_payload (payload_of ty)
is_first_argument argument = true

-- whether all that a tape says can be said by the first version
abbrev pub is_first : TapeOf → Bool
is_first tape =
    list_all (λ step. list_all is_first_argument (line_of step).arguments) tape.steps
    && (list_all (λ writer. is_first_payload (payload_of writer.ty)) tape.writers
    && list_all (λ reader. is_first_payload (payload_of reader.ty)) tape.readers)

-- what a tape begins with: `STRT`, and its version, which is the least that can say it
abbrev pub head_bytes : Bool → List ℕ
head_bytes first = 83 ∷ 84 ∷ 82 ∷ 84 ∷ (if first then 1 else 2) ∷ []

-- the spelling of a tape
abbrev pub tape_spelling : TapeOf → List ℕ
tape_spelling tape =
    head_bytes (is_first tape)
    ++ (spelled_counted step_bytes tape.steps
    ++ (few_counted writer_bytes tape.writers
    ++ few_counted reader_bytes tape.readers))

-- WHICH TAPES THERE ARE

-- a stated room is below 2^28
abbrev pub IsSpelledRoom : Option ℕ → Type 0
IsSpelledRoom None = Unit {0}
IsSpelledRoom (Some room) = room < 268435456

-- a record of a host writer of this payload
pub record IsWriterRecord (payload : Payload) (said : WriterSaid) : Type 0 where
  pub of : said.payload ≡ payload
  pub room : IsSpelledRoom said.room
  pub few : length said.items < 4294967295
  pub fit : AreItems (item_type payload) said.items

-- a record of a host reader
pub record IsReaderRecord (said : ReaderSaid) : Type 0 where
  pub offered : IsU32 said.offered
  pub since : IsU32 said.since
  pub taken : said.taken ≤ said.offered

-- a host writer whose records are of its payload
pub record IsWriterTape (writer : WriterTape) : Type 0 where
  pub typed : IsType writer.ty
  pub few : IsU32 (length writer.said)
  pub each : All (IsWriterRecord (payload_of writer.ty)) writer.said

-- a host reader
pub record IsReaderTape (reader : ReaderTape) : Type 0 where
  pub typed : IsType reader.ty
  pub few : IsU32 (length reader.said)
  pub each : All IsReaderRecord reader.said

-- a tape that can be spelled
pub record IsTape (tape : TapeOf) : Type 0 where
  pub few_steps : IsU32 (length tape.steps)
  pub steps : All HasLine tape.steps
  pub few_writers : length tape.writers ≤ 64
  pub writers : All IsWriterTape tape.writers
  pub few_readers : length tape.readers ≤ 64
  pub readers : All IsReaderTape tape.readers
