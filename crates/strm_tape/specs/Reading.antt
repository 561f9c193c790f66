-- How the front of a tape is read, part by part: the inverse of `Spelling.antt`. Ours.
use mathlib.Core.Bool.{beq}
use Rattle.std.specs.Prelude.{ℕ, zero, suc, ◌*◌, ◌==◌, ◌&&◌, nat_le, nat_lt, Bool, true, false, List, [], ◌∷◌, length, take, drop, slice_get, slice_index_or, if◌then◌else◌, Option, Some, None}
use Rattle.std.specs.Option.{option_map}
use Rattle.std.specs.Str.{bytes_eq}
use Rattle.strm_codes.specs.Layout.{item_type}
use Rattle.strm_codes.specs.ItemTypes.{item_size, ItemType}
use Rattle.strm_codes.specs.Types.{payload_of}
use Rattle.strm_codes.specs.declared.scalars.Scalar.{Scalar}
use Rattle.strm_codes.specs.declared.scalars.Scalar.TheVariants.{Bool as Flag, S8, U8, S16, U16, S32, U32, S64, U64, Char, F32, F64}
use Rattle.strm_codes.specs.declared.payloads.Payload.{Payload}
use Rattle.strm_codes.specs.declared.payloads.Payload.TheVariants.{Nothing, One, Tuple, Compound}
use Rattle.strm_codes.specs.declared.codes.TransmitIndex.{TransmitIndex}
use Rattle.strm_codes.specs.declared.codes.TransmitIndex.TheVariants.{Stream, Future}
use Rattle.strm_memory.specs.Bytes.{le}
use Rattle.strm_memory.specs.Items.{items}
use Rattle.strm_buffers.specs.declared.answers.Answer.{Answer}
use Rattle.strm_buffers.specs.declared.answers.Answer.TheVariants.{Pending, Completed, Cancelled, Dropped, Failed}
use Rattle.strm_buffers.specs.declared.answers.ReaderSaid.{ReaderSaid}
use Rattle.strm_buffers.specs.Listing.{Item, TypedItems}
use Rattle.strm_buffers.specs.Said.{WriterSaid}
use Rattle.strm_machine.specs.declared.steps.Step.{Step}
use Rattle.strm_machine.specs.declared.steps.Step.TheVariants.{Guest, New, Between, Write, Read, DropWrite, DropRead, CancelWrite, CancelRead, Move, Lift, Lower, Close, HostNew, Feed, Pipe, Grant, Drive, Event, SetNew, SetJoin, SetPoll, SetDrop, ErrNew, ErrText, ErrMove, ErrDrop, Poke, Dump}
use Rattle.strm_codes.specs.CompoundTests.{spells_compound}
use Rattle.strm_lines.specs.Reading.{◌>>=◌}
use Rattle.strm_codes.specs.NodeBytes.{node_of_byte}
use Rattle.strm_codes.specs.declared.nodes.Node.{Node}
use Rattle.strm_tape.specs.Spelling.{region_bytes, head_bytes, is_first, WriterTape, ReaderTape, TapeOf}

-- what was found at the front, and what follows it
abbrev pub Found : Type 0 → Type 0
Found A = Option (A × List ℕ)

-- one part, and behind it another, which may rest on the first
abbrev pub followed_by_its_part : {A B : Type 0} → (List ℕ → Found A) → (A → List ℕ → Found B) → List ℕ → Found (A × B)
followed_by_its_part first second bytes = do
  p ← first bytes
  q ← second p.0 p.1
  Some ((p.0, q.0), q.1)

-- one part, and behind it another
abbrev pub followed_by_part : {A B : Type 0} → (List ℕ → Found A) → (List ℕ → Found B) → List ℕ → Found (A × B)
followed_by_part first second = followed_by_its_part first (λ x. second)

-- a part, seen as something else
abbrev pub read_as : {A B : Type 0} → (A → B) → (List ℕ → Found A) → List ℕ → Found B
read_as make read bytes = option_map (λ p. (make p.0, p.1)) (read bytes)

-- nothing
abbrev pub read_nothing : List ℕ → Found (Unit {0})
read_nothing bytes = Some (tt, bytes)

-- a byte
abbrev pub byte : List ℕ → Found ℕ
byte [] = None
byte (b ∷ bytes) = Some (b, bytes)

-- a number of four bytes
unfoldable pub read_number : List ℕ → Found ℕ
read_number bytes = if nat_le 4 (length bytes) then Some (le (take 4 bytes), drop 4 bytes) else None

-- a number from low to high
unfoldable pub within : ℕ → ℕ → List ℕ → Found ℕ
within low high bytes = do
  p ← read_number bytes
  if nat_le low p.0 && nat_le p.0 high then Some p else None

-- all scalars, by their places
abbrev pub scalars : List Scalar
scalars = Flag ∷ S8 ∷ U8 ∷ S16 ∷ U16 ∷ S32 ∷ U32 ∷ S64 ∷ U64 ∷ Char ∷ F32 ∷ F64 ∷ []

-- a scalar
unfoldable pub scalar : List ℕ → Found Scalar
scalar bytes = do
  p ← byte bytes
  s ← slice_get scalars p.0
  Some (s, p.1)

-- so many scalars
unfoldable pub fields : ℕ → List ℕ → Found (List Scalar)
fields zero bytes = Some ([], bytes)
fields (suc n) bytes = read_as (λ p. p.0 ∷ p.1) (followed_by_part scalar (fields n)) bytes

-- one to eight scalars behind their number
unfoldable pub shape : List ℕ → Found (List Scalar)
shape bytes = do
  p ← byte bytes
  if nat_le 1 p.0 && nat_le p.0 8 then fields p.0 p.1 else None

-- so many things
unfoldable pub many : {A : Type 0} → (List ℕ → Found A) → ℕ → List ℕ → Found (List A)
many read zero bytes = Some ([], bytes)
many read (suc n) bytes = read_as (λ p. p.0 ∷ p.1) (followed_by_part read (many read n)) bytes

-- a word of a type
unfoldable pub type_word : List ℕ → Found Node
type_word bytes = do
  p ← byte bytes
  word ← node_of_byte p.0
  Some (word, p.1)

-- the type that words spell, if it holds others
abbrev pub spelled_type : List Node → List ℕ → Found (List Node)
spelled_type words rest = if spells_compound words then Some (words, rest) else None

-- so many words of a type that holds others
unfoldable pub words_of_type : ℕ → List ℕ → Found (List Node)
words_of_type n bytes = do
  p ← many type_word n bytes
  spelled_type p.0 p.1

-- the same behind their number
unfoldable pub compound : List ℕ → Found (List Node)
compound bytes = do
  p ← byte bytes
  if nat_le p.0 16 then words_of_type p.0 p.1 else None

-- a payload, by its form
abbrev pub payload_by : ℕ → List ℕ → Found Payload
payload_by form bytes =
    if form == 0 then Some (Nothing, bytes)
    else (if form == 1 then read_as One scalar bytes
    else (if form == 2 then read_as Tuple shape bytes
    else (if form == 3 then read_as Compound compound bytes else None)))

-- a payload
unfoldable pub payload : List ℕ → Found Payload
payload bytes = do
  p ← byte bytes
  payload_by p.0 p.1

-- a type, by its kind
abbrev pub type_by : ℕ → List ℕ → Found TransmitIndex
type_by kind bytes =
    if kind == 0 then read_as Stream payload bytes
    else (if kind == 1 then read_as Future payload bytes else None)

-- a type
unfoldable pub transmit_type : List ℕ → Found TransmitIndex
transmit_type bytes = do
  p ← byte bytes
  type_by p.0 p.1

-- the count of a read or write of this type
unfoldable pub read_count : TransmitIndex → List ℕ → Found ℕ
read_count (Stream payload) bytes = read_number bytes
read_count (Future payload) bytes = within 1 1 bytes

-- so many bytes, which are to be low to 64
abbrev pub chunk_of : ℕ → ℕ → List ℕ → Found (List ℕ)
chunk_of low n bytes =
    if nat_le low n && nat_le n 64 && nat_le n (length bytes)
    then Some (take n bytes, drop n bytes) else None

-- low to 64 bytes behind their number
unfoldable pub chunk : ℕ → List ℕ → Found (List ℕ)
chunk low bytes = do
  p ← byte bytes
  chunk_of low p.0 p.1

-- two numbers
abbrev pub two : List ℕ → Found (ℕ × ℕ)
two = followed_by_part read_number read_number

-- three numbers
abbrev pub three : List ℕ → Found (ℕ × (ℕ × ℕ))
three = followed_by_part read_number two

-- an end: guest, type and handle
abbrev pub read_named_end : List ℕ → Found (ℕ × (TransmitIndex × ℕ))
read_named_end = followed_by_part read_number (followed_by_part transmit_type read_number)

-- what is read of a read or write: an end, an address and a count
abbrev pub read_operands : List ℕ → Found (ℕ × (TransmitIndex × (ℕ × (ℕ × ℕ))))
read_operands = followed_by_part read_number (followed_by_its_part transmit_type (λ ty. followed_by_part read_number (followed_by_part read_number (read_count ty))))

-- how the arguments of each command are read, by the places of the commands
abbrev pub argument_readers : List (List ℕ → Found Step)
argument_readers =
    read_as Guest read_number
    ∷ read_as (λ v. New v.0 v.1) (followed_by_part read_number transmit_type)
    ∷ read_as (λ v. Between v.0 v.1.0 v.1.1) (followed_by_part read_number (followed_by_part read_number transmit_type))
    ∷ read_as (λ v. Write v.0 v.1.0 v.1.1.0 v.1.1.1.0 v.1.1.1.1) read_operands
    ∷ read_as (λ v. Read v.0 v.1.0 v.1.1.0 v.1.1.1.0 v.1.1.1.1) read_operands
    ∷ read_as (λ v. CancelWrite v.0 v.1.0 v.1.1) read_named_end
    ∷ read_as (λ v. CancelRead v.0 v.1.0 v.1.1) read_named_end
    ∷ read_as (λ v. DropWrite v.0 v.1.0 v.1.1) read_named_end
    ∷ read_as (λ v. DropRead v.0 v.1.0 v.1.1) read_named_end
    ∷ read_as (λ v. Event v.0 v.1) two
    ∷ read_as (λ v. Move v.0 v.1.0 v.1.1.0 v.1.1.1) (followed_by_part read_number (followed_by_part transmit_type two))
    ∷ read_as (λ v. Lift v.0 v.1.0 v.1.1) read_named_end
    ∷ read_as (λ v. Lower v.0 v.1.0 v.1.1) (followed_by_part read_number (followed_by_part read_number transmit_type))
    ∷ read_as (λ v. Pipe v.0 v.1) two
    ∷ read_as Close read_number
    ∷ read_as HostNew read_number
    ∷ read_as (λ v. Drive) read_nothing
    ∷ read_as (λ v. Feed v.0 v.1) (followed_by_part read_number (chunk 0))
    ∷ read_as (λ v. Grant v.0 v.1) two
    ∷ read_as SetNew read_number
    ∷ read_as (λ v. SetJoin v.0 v.1.0 v.1.1) three
    ∷ read_as (λ v. SetPoll v.0 v.1) two
    ∷ read_as (λ v. SetDrop v.0 v.1) two
    ∷ read_as (λ v. ErrNew v.0 v.1.0 v.1.1) three
    ∷ read_as (λ v. ErrText v.0 v.1.0 v.1.1) three
    ∷ read_as (λ v. ErrMove v.0 v.1.0 v.1.1) three
    ∷ read_as (λ v. ErrDrop v.0 v.1) two
    ∷ read_as (λ v. Poke v.0 v.1.0 v.1.1) (followed_by_part read_number (followed_by_part read_number (chunk 1)))
    ∷ read_as (λ v. Dump v.0 v.1.0 v.1.1) (followed_by_part read_number (followed_by_part read_number (within 1 64)))
    ∷ []

-- no step
abbrev pub none : List ℕ → Found Step
none bytes = None

-- the step whose command has this place
unfoldable pub step_by : ℕ → List ℕ → Found Step
step_by zero bytes = None
step_by (suc n) bytes = slice_index_or argument_readers n none bytes

-- a step
unfoldable pub step : List ℕ → Found Step
step bytes = do
  p ← byte bytes
  step_by p.0 p.1

-- RECORDS

-- yes or no
unfoldable pub flag : List ℕ → Found Bool
flag bytes = do
  p ← byte bytes
  b ← slice_get (false ∷ true ∷ []) p.0
  Some (b, p.1)

-- all answers, by their places
abbrev pub all_answers : List Answer
all_answers = Pending ∷ Completed ∷ Cancelled ∷ Dropped ∷ Failed ∷ []

-- an answer
unfoldable pub answer : List ℕ → Found Answer
answer bytes = do
  p ← byte bytes
  a ← slice_get all_answers p.0
  Some (a, p.1)

-- the room that a number is
abbrev pub room_of_number : ℕ → Option (Option ℕ)
room_of_number n = if n == 4294967295 then Some None else (if nat_lt n 268435456 then Some (Some n) else None)

-- a room
unfoldable pub read_room : List ℕ → Found (Option ℕ)
read_room bytes = do
  p ← read_number bytes
  r ← room_of_number p.0
  Some (r, p.1)

-- items that lie in bytes as they are written over zeros
abbrev pub items_as_written : ItemType → List ℕ → ℕ → Option (List Item)
items_as_written ss bytes n = do
  xs ← items ss bytes n
  if bytes_eq (region_bytes ss xs) bytes then Some xs else None

-- so many items
unfoldable pub region : ItemType → ℕ → List ℕ → Found (List Item)
region ss n bytes =
    if nat_le (item_size ss * n) (length bytes)
    then option_map (λ xs. (xs, drop (item_size ss * n) bytes)) (items_as_written ss (take (item_size ss * n) bytes) n)
    else None

-- items behind their number
unfoldable pub read_item_list : ItemType → List ℕ → Found (List Item)
read_item_list ss bytes = do
  p ← read_number bytes
  if nat_lt p.0 4294967295 then region ss p.0 p.1 else None

-- items of a payload
abbrev pub typed_items : Payload → List Item → TypedItems
typed_items payload xs = record { payload = payload; items = xs }

-- a record of a host writer of this payload
abbrev pub read_writer_record : Payload → List ℕ → Found WriterSaid
read_writer_record payload =
    read_as
    (λ v. record { room = v.0; finish = v.1.0; payload = payload; items = v.1.1.0; answer = v.1.1.1 })
    (followed_by_part read_room (followed_by_part flag (followed_by_part (read_item_list (item_type payload)) answer)))

-- a record of a host reader
abbrev pub read_reader_record : List ℕ → Found ReaderSaid
read_reader_record =
    read_as
    (λ v. record { offered = v.0; since = v.1.0; finish = v.1.1.0; taken = v.1.1.1.0; bad = v.1.1.1.1.0; answer = v.1.1.1.1.1 })
    (followed_by_its_part read_number (λ offered. followed_by_part read_number (followed_by_part flag (followed_by_part (within 0 offered) (followed_by_part flag answer)))))

-- things behind their number
unfoldable pub read_counted : {A : Type 0} → (List ℕ → Found A) → List ℕ → Found (List A)
read_counted read bytes = do
  p ← read_number bytes
  many read p.0 p.1

-- at most 64 things behind one byte
unfoldable pub few_listed : {A : Type 0} → (List ℕ → Found A) → List ℕ → Found (List A)
few_listed read bytes = do
  p ← byte bytes
  if nat_le p.0 64 then many read p.0 p.1 else None

-- TAPES

-- a host writer
abbrev pub writer : List ℕ → Found WriterTape
writer =
    read_as (λ v. record { ty = v.0; said = v.1 })
    (followed_by_its_part transmit_type (λ ty. read_counted (read_writer_record (payload_of ty))))

-- a host reader
abbrev pub reader : List ℕ → Found ReaderTape
reader = read_as (λ v. record { ty = v.0; said = v.1 }) (followed_by_part transmit_type (read_counted read_reader_record))

-- what a tape begins with: whether its version is the first
unfoldable pub head : List ℕ → Found Bool
head bytes =
    if bytes_eq (take 5 bytes) (head_bytes true) then Some (true, drop 5 bytes)
    else (if bytes_eq (take 5 bytes) (head_bytes false) then Some (false, drop 5 bytes) else None)

-- what a tape says, and what follows it
abbrev pub tape_parts : List ℕ → Found TapeOf
tape_parts =
    read_as (λ v. record { steps = v.0; writers = v.1.0; readers = v.1.1 })
    (followed_by_part (read_counted step) (followed_by_part (few_listed writer) (few_listed reader)))

-- a tape, and what follows it: its version is the least that can say it
abbrev pub tape : List ℕ → Found TapeOf
tape bytes = do
  p ← head bytes
  q ← tape_parts p.1
  if beq (is_first q.0) p.0 then Some q else None
