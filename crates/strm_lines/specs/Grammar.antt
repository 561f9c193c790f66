-- The grammar of the lines: which steps have a line, and how each is spelled. Ours.
use Rattle.std.specs.Prelude.{◌≡◌, ℕ, ◌^◌, ◌<◌, ◌≤◌, List, [], ◌∷◌, length, All, codes, decimal}
use Rattle.std.specs.List.{flat_map, join_with_byte}
use Rattle.strm_codes.specs.Types.{payload_of}
use Rattle.strm_codes.specs.Spellings.{IsCompound}
use Rattle.strm_codes.specs.declared.payloads.Payload.{Payload}
use Rattle.strm_codes.specs.declared.payloads.Payload.TheVariants.{Tuple, Compound}
use Rattle.strm_codes.specs.declared.codes.TransmitIndex.{TransmitIndex}
use Rattle.strm_codes.specs.declared.codes.TransmitIndex.TheVariants.{Stream, Future}
use Rattle.strm_machine.specs.declared.steps.Step.{Step}
use Rattle.strm_machine.specs.declared.steps.Step.TheVariants.{Guest, New, Between, Write, Read, DropWrite, DropRead, CancelWrite, CancelRead, Move, Lift, Lower, Close, HostNew, Feed, Pipe, Grant, Drive, Event, SetNew, SetJoin, SetPoll, SetDrop, ErrNew, ErrText, ErrMove, ErrDrop, Poke, Dump}
use Rattle.strm_lines.specs.Words.{hex_pairs, type_text}

-- an argument of a line: a number; a number from low to high; a type; the count of a read or write
-- of this type; bytes; bytes that are fed, or none where no more will come
pub data Argument : Type 0 where
  Number : ℕ → Argument
  Within : ℕ → ℕ → ℕ → Argument
  Typed : TransmitIndex → Argument
  Count : TransmitIndex → ℕ → Argument
  Bytes : List ℕ → Argument
  Fed : List ℕ → Argument

-- a line, without its line feed: a command and its arguments
pub record Line : Type 0 where
  pub command : List ℕ
  pub arguments : List Argument

-- a line by its command and its arguments
abbrev pub line : List ℕ → List Argument → Line
line command arguments = record { command = command; arguments = arguments }

-- what `write` and `read` name
abbrev pub operands : ℕ → TransmitIndex → ℕ → ℕ → ℕ → List Argument
operands guest ty handle address count =
    Number guest ∷ Typed ty ∷ Number handle ∷ Number address ∷ Count ty count ∷ []

-- what the drops, the cancels and `lift` name
abbrev pub named_end : ℕ → TransmitIndex → ℕ → List Argument
named_end guest ty handle = Number guest ∷ Typed ty ∷ Number handle ∷ []

-- the line of a step
abbrev pub line_of : Step → Line
line_of (Guest size) = line (codes "guest") (Number size ∷ [])
line_of (New guest ty) = line (codes "new") (Number guest ∷ Typed ty ∷ [])
line_of (Between writer reader ty) =
    line (codes "pair") (Number writer ∷ Number reader ∷ Typed ty ∷ [])
line_of (Write guest ty handle address count) =
    line (codes "write") (operands guest ty handle address count)
line_of (Read guest ty handle address count) =
    line (codes "read") (operands guest ty handle address count)
line_of (DropWrite guest ty handle) = line (codes "drop-write") (named_end guest ty handle)
line_of (DropRead guest ty handle) = line (codes "drop-read") (named_end guest ty handle)
line_of (CancelWrite guest ty handle) = line (codes "cancel-write") (named_end guest ty handle)
line_of (CancelRead guest ty handle) = line (codes "cancel-read") (named_end guest ty handle)
line_of (Move guest ty handle to) =
    line (codes "move") (Number guest ∷ Typed ty ∷ Number handle ∷ Number to ∷ [])
line_of (Lift guest ty handle) = line (codes "lift") (named_end guest ty handle)
line_of (Lower reader guest ty) =
    line (codes "lower") (Number reader ∷ Number guest ∷ Typed ty ∷ [])
line_of (Close reader) = line (codes "close") (Number reader ∷ [])
line_of (HostNew host) = line (codes "host") (Number host ∷ [])
line_of (Feed host bytes) = line (codes "feed") (Number host ∷ Fed bytes ∷ [])
line_of (Pipe reader host) = line (codes "pipe") (Number reader ∷ Number host ∷ [])
line_of (Grant host count) = line (codes "grant") (Number host ∷ Number count ∷ [])
line_of Drive = line (codes "drive") []
line_of (Event guest handle) = line (codes "event") (Number guest ∷ Number handle ∷ [])
line_of (SetNew guest) = line (codes "set-new") (Number guest ∷ [])
line_of (SetJoin guest set handle) =
    line (codes "set-join") (Number guest ∷ Number set ∷ Number handle ∷ [])
line_of (SetPoll guest set) = line (codes "set-poll") (Number guest ∷ Number set ∷ [])
line_of (SetDrop guest set) = line (codes "set-drop") (Number guest ∷ Number set ∷ [])
line_of (ErrNew guest address len) =
    line (codes "err-new") (Number guest ∷ Number address ∷ Number len ∷ [])
line_of (ErrText guest handle address) =
    line (codes "err-text") (Number guest ∷ Number handle ∷ Number address ∷ [])
line_of (ErrMove guest handle to) =
    line (codes "err-move") (Number guest ∷ Number handle ∷ Number to ∷ [])
line_of (ErrDrop guest handle) = line (codes "err-drop") (Number guest ∷ Number handle ∷ [])
line_of (Poke guest address bytes) =
    line (codes "poke") (Number guest ∷ Number address ∷ Bytes bytes ∷ [])
line_of (Dump guest address len) =
    line (codes "dump") (Number guest ∷ Number address ∷ Within 1 64 len ∷ [])

-- how a line is spelled

-- the count of a stream's read or write; a future's is not written
abbrev pub count_words : TransmitIndex → ℕ → List (List ℕ)
count_words (Stream payload) count = decimal count ∷ []
count_words (Future payload) count = []

-- the word for what is fed: its bytes, or that no more will come
abbrev pub fed_word : List ℕ → List ℕ
fed_word [] = codes "end"
fed_word (b ∷ bytes) = hex_pairs (b ∷ bytes)

-- the words of an argument: one, or none; numbers are decimal, without leading zeros
abbrev pub argument_words : Argument → List (List ℕ)
argument_words (Number n) = decimal n ∷ []
argument_words (Within low high n) = decimal n ∷ []
argument_words (Typed ty) = type_text ty ∷ []
argument_words (Count ty count) = count_words ty count
argument_words (Bytes bytes) = hex_pairs bytes ∷ []
argument_words (Fed bytes) = fed_word bytes ∷ []

-- words in a row, exactly one space between each two
abbrev pub words : List (List ℕ) → List ℕ
words = join_with_byte 32

-- the line of a step, as its bytes
abbrev pub spelling : Step → List ℕ
spelling step = words ((line_of step).command ∷ flat_map argument_words (line_of step).arguments)

-- which steps have a line

-- what a number of a line can be
abbrev pub IsU32 : ℕ → Type 0
IsU32 n = n < 2 ^ 32

-- a number from low to high
abbrev pub IsBetween : ℕ → ℕ → ℕ → Type 0
IsBetween low high n = (low ≤ n) × (n ≤ high)

-- the bytes of one line: 1 to 64
pub record IsLineBytes (bytes : List ℕ) : Type 0 where
  pub some : 0 < length bytes
  pub most : length bytes ≤ 64
  pub each : All (λ b. b < 2 ^ 8) bytes

-- what can be fed in one line: none, or the bytes of one line
pub record AreFed (bytes : List ℕ) : Type 0 where
  pub most : length bytes ≤ 64
  pub each : All (λ b. b < 2 ^ 8) bytes

-- a payload that can be spelled: a tuple has 1 to 8 fields, and a compound is one type
abbrev pub IsPayload : Payload → Type 0
IsPayload (Tuple shape) = IsBetween 1 8 (length shape)
IsPayload (Compound words) = IsCompound words
IsPayload _ = Unit {0}

-- a type that can be spelled
abbrev pub IsType : TransmitIndex → Type 0
IsType ty = IsPayload (payload_of ty)

-- a count that can be spelled: a stream's of 2^28 or more is refused by the machine
abbrev pub IsCount : TransmitIndex → ℕ → Type 0
IsCount (Stream payload) count = IsU32 count
IsCount (Future payload) count = count ≡ 1

-- what an argument can be
abbrev pub IsArgument : Argument → Type 0
IsArgument (Number n) = IsU32 n
IsArgument (Within low high n) = IsBetween low high n
IsArgument (Typed ty) = IsType ty
IsArgument (Count ty count) = IsCount ty count
IsArgument (Bytes bytes) = IsLineBytes bytes
IsArgument (Fed bytes) = AreFed bytes

-- the steps that have a line
abbrev pub HasLine : Step → Type 0
HasLine step = All IsArgument (line_of step).arguments
