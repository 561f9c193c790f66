-- How a line is read, word by word: the inverse of `spelling`, as `parse` shows. Ours.
use Rattle.std.specs.Prelude.{ℕ, zero, suc, ◌+◌, ◌-◌, ◌*◌, ◌%◌, ◌^◌, ◌==◌, ◌&&◌, ◌||◌, not, nat_lt, nat_le, Bool, true, false, List, [], ◌∷◌, ◌++◌, length, take, drop, codes, slice_set, if◌then◌else◌, Option, Some, None, option_and_then}
use Rattle.std.specs.Option.{option_map, option_map_or}
use Rattle.std.specs.Str.{bytes_eq}
use Rattle.strm_codes.specs.declared.scalars.Scalar.{Scalar}
use Rattle.strm_codes.specs.declared.scalars.Scalar.TheVariants.{Bool as Flag, S8, U8, S16, U16, S32, U32, S64, U64, Char, F32, F64}
use Rattle.strm_codes.specs.declared.payloads.Payload.{Payload}
use Rattle.strm_codes.specs.declared.payloads.Payload.TheVariants.{Nothing, One, Tuple, Compound}
use Rattle.strm_codes.specs.CompoundTests.{spells_compound}
use Rattle.strm_codes.specs.declared.nodes.Node.{Node}
use Rattle.strm_codes.specs.declared.nodes.Node.TheVariants as node
use Rattle.strm_codes.specs.declared.codes.TransmitIndex.{TransmitIndex}
use Rattle.strm_codes.specs.declared.codes.TransmitIndex.TheVariants.{Stream, Future}
use Rattle.strm_machine.specs.declared.acts.NamedEnd.{NamedEnd}
use Rattle.strm_machine.specs.declared.steps.Step.{Step}
use Rattle.strm_machine.specs.declared.steps.Step.TheVariants.{Guest, New, Between, Write, Read, DropWrite, DropRead, CancelWrite, CancelRead, Move, Lift, Lower, Close, HostNew, Feed, Pipe, Grant, Drive, Event, SetNew, SetJoin, SetPoll, SetDrop, ErrNew, ErrText, ErrMove, ErrDrop, Poke, Dump}
use Rattle.strm_lines.specs.declared.lines.Group.{Group}
use Rattle.strm_lines.specs.declared.lines.Group.TheVariants as groups
use Rattle.strm_lines.specs.Words.{scalar_word}

-- a reading, and then another of what it found
infixl 10 ◌>>=◌
abbrev pub ◌>>=◌ : {A B : Type 0} → Option A → (A → Option B) → Option B
o >>= f = option_and_then f o

-- what follows these bytes at the front of a word or line
unfoldable pub behind : List ℕ → List ℕ → Option (List ℕ)
behind front line =
    if bytes_eq (take (length front) line) front then Some (drop (length front) line) else None

-- what comes before and after the first byte c
unfoldable pub cut_at : ℕ → List ℕ → Option (List ℕ × List ℕ)
cut_at c [] = None
cut_at c (b ∷ bytes) =
    if b == c then Some ([], bytes) else option_map (λ p. (b ∷ p.0, p.1)) (cut_at c bytes)

-- the first word, read in some way, and what follows its space
unfoldable pub leading : {A : Type 0} → (List ℕ → Option A) → List ℕ → Option (A × List ℕ)
leading read line = do
  parts ← cut_at 32 line
  x ← read parts.0
  Some (x, parts.1)

-- the first word read in one way, and what follows its space in another
abbrev pub followed_by : {A B : Type 0} →
    (List ℕ → Option A) → (List ℕ → Option B) → List ℕ → Option (A × B)
followed_by first second line = do
  p ← leading first line
  y ← second p.1
  Some (p.0, y)

-- the same, where the first word decides how the second is read
abbrev pub followed_by_its : {A B : Type 0} →
    (List ℕ → Option A) → (A → List ℕ → Option B) → List ℕ → Option (A × B)
followed_by_its first second line = do
  p ← leading first line
  y ← second p.0 p.1
  Some (p.0, y)

-- a decimal digit
abbrev pub is_digit : ℕ → Bool
is_digit c = nat_le 48 c && nat_le c 57

-- the number that begins with n and goes on with these digits, below 2^32
unfoldable pub digits_from : ℕ → List ℕ → Option ℕ
digits_from n [] = Some n
digits_from n (c ∷ cs) =
    if is_digit c && nat_lt (10 * n + (c - 48)) (2 ^ 32)
    then digits_from (10 * n + (c - 48)) cs else None

-- a number in decimal, without leading zeros
unfoldable pub decimal_number : List ℕ → Option ℕ
decimal_number [] = None
decimal_number (c ∷ cs) = if (c == 48) && nat_lt 0 (length cs) then None else digits_from 0 (c ∷ cs)

-- the number that begins with n and goes on to the first space, and what follows that
unfoldable pub read_to : ℕ → List ℕ → Option (ℕ × List ℕ)
read_to n line = do
  parts ← cut_at 32 line
  x ← digits_from n parts.0
  Some (x, parts.1)

-- a number from low to high
unfoldable pub number_within : ℕ → ℕ → List ℕ → Option ℕ
number_within low high word = do
  n ← decimal_number word
  if nat_le low n && nat_le n high then Some n else None

-- what a lower-case hexadecimal digit stands for
abbrev pub nibble : ℕ → Option ℕ
nibble c =
    if is_digit c then Some (c - 48)
    else (if nat_le 97 c && nat_le c 102 then Some (c - 87) else None)

-- the bytes that pairs of digits stand for
unfoldable pub pairs_from : List ℕ → Option (List ℕ)
pairs_from [] = Some []
pairs_from (a ∷ []) = None
pairs_from (a ∷ b ∷ cs) = do
  x ← nibble a
  y ← nibble b
  rest ← pairs_from cs
  Some ((16 * x + y) ∷ rest)

-- 1 to 64 bytes
unfoldable pub hex : List ℕ → Option (List ℕ)
hex word =
    if (length word == 0) || nat_lt 128 (length word) || not (length word % 2 == 0)
    then None else pairs_from word

-- what is fed: bytes, or that no more will come
unfoldable pub fed_bytes : List ℕ → Option (List ℕ)
fed_bytes word = if bytes_eq word (codes "end") then Some [] else hex word

-- the first of these scalars that has this name
abbrev pub named_among : List Scalar → List ℕ → Option Scalar
named_among [] word = None
named_among (s ∷ scalars) word =
    if bytes_eq word (scalar_word s) then Some s else named_among scalars word

-- the scalars, the first half
abbrev pub early : List Scalar
early = Flag ∷ S8 ∷ U8 ∷ S16 ∷ U16 ∷ []

-- and the second
abbrev pub late : List Scalar
late = S32 ∷ U32 ∷ S64 ∷ U64 ∷ Char ∷ F32 ∷ F64 ∷ []

-- a scalar, by its name
unfoldable pub scalar_read : List ℕ → Option Scalar
scalar_read word = named_among (early ++ late) word

-- one to so many scalars, separated by commas
unfoldable pub fields_read : ℕ → List ℕ → Option (List Scalar)
fields_read zero word = None
fields_read (suc n) word =
    option_map_or
    (λ p. do
      s ← scalar_read p.0
      fields ← fields_read n p.1
      Some (s ∷ fields))
    (cut_at 44 word) (option_map (λ s. s ∷ []) (scalar_read word))

-- the fields of a tuple, behind its first parenthesis: the second ends the word
unfoldable pub shape_read : List ℕ → Option (List Scalar)
shape_read rest = do
  parts ← cut_at 41 rest
  if length parts.1 == 0 then fields_read 8 parts.0 else None

-- a byte that ends a name: `<`, `,` or `>`
abbrev pub ends_name : ℕ → Bool
ends_name c = (c == 60) || ((c == 44) || (c == 62))

-- what stands before the first such byte, and what follows from there on
unfoldable pub name_cut : List ℕ → List ℕ × List ℕ
name_cut [] = ([], [])
name_cut (c ∷ text) =
    if ends_name c then ([], c ∷ text) else (c ∷ (name_cut text).0, (name_cut text).1)

-- flags, by their number
unfoldable pub flags_read : List ℕ → Option Node
flags_read count = option_map node.Flags (number_within 1 32 count)

-- an enum, by the number of its cases
unfoldable pub enum_read : List ℕ → Option Node
enum_read count = option_map node.Enum (number_within 1 128 count)

-- a type without parts, by its name
unfoldable pub plain_read : List ℕ → Option Node
plain_read name =
    if bytes_eq name (codes "_") then Some node.Nothing
    else option_map_or flags_read (behind (codes "flags") name)
    (option_map_or enum_read (behind (codes "enum") name)
    (option_map node.Plain (scalar_read name)))

-- no value: what a side of a result may be
abbrev pub is_nothing : List Node → Bool
is_nothing (node.Nothing ∷ words) = true
is_nothing words = false

-- one word more, of sixteen at most
unfoldable pub pushed : Node → List Node → Option (List Node)
pushed n words = if nat_lt (length words) 16 then Some (words ++ n ∷ []) else None

-- the word of a type that holds so many others and is no result, by its name
unfoldable pub holding : List ℕ → ℕ → Option Node
holding name parts =
    if bytes_eq name (codes "option") then (if parts == 1 then Some node.Option else None)
    else (if bytes_eq name (codes "record") then Some (node.Tuple parts)
    else (if bytes_eq name (codes "variant") then Some (node.Variant parts)
    else None))

-- the words with those of a type without brackets, by its name
unfoldable pub leaf_front : List ℕ → List Node → Option (List Node)
leaf_front name words =
    if bytes_eq name (codes "result")
    then (do
      one ← pushed node.Result words
      two ← pushed node.Nothing one
      pushed node.Nothing two)
    else (do
      n ← plain_read name
      pushed n words)

-- the words with the own word of a type, by its name and the number of its parts, which are there, in the
-- place kept for it; `result<_>` and `result<T,_>` are `result` and `result<T>`
unfoldable pub closed : List ℕ → ℕ → ℕ → Bool → List Node → Option (List Node)
closed name place parts ends_empty words =
    if bytes_eq name (codes "result")
    then (if ends_empty || nat_lt 2 parts then None
    else (if parts == 1 then pushed node.Nothing (slice_set words place node.Result)
    else Some (slice_set words place node.Result)))
    else option_map (λ n. slice_set words place n) (holding name parts)

-- at most so many types up to the closing bracket, each read in some way: how many they are, whether the
-- last is no value, the words with theirs, and what follows the bracket
unfoldable pub parts_by : (List Node → List ℕ → Option (List Node × List ℕ)) → ℕ → List Node → List ℕ → Option (ℕ × Bool × List Node × List ℕ)
parts_by read zero words text = None
parts_by read (suc most) words text = do
  p ← read words text
  option_map_or (λ after. Some (1, is_nothing (drop (length words) p.0), p.0, after))
      (behind (codes ">") p.1)
      (do
        others ← behind (codes ",") p.1
        q ← parts_by read most p.0 others
        Some (q.0 + 1, q.1, q.2, q.3))

-- the words with those of the type at the front of a text, of less than so many types in one another, and
-- what follows it
unfoldable pub type_front : ℕ → List Node → List ℕ → Option (List Node × List ℕ)
type_front zero words text = None
type_front (suc depth) words text =
    let name = (name_cut text).0 in
    let rest = (name_cut text).1 in
    option_map_or
    (λ inside. do
      own ← pushed node.Nothing words
      p ← parts_by (type_front depth) depth own inside
      all ← closed name (length words) p.0 p.1 p.2
      Some (all, p.3))
    (behind (codes "<") rest)
    (option_map (λ all. (all, rest)) (leaf_front name words))

-- the words of the type that a word spells, where it is none of nothing, a scalar and a tuple of scalars
unfoldable pub compound_read : List ℕ → Option (List Node)
compound_read word = do
  p ← type_front 16 [] word
  if (length p.1 == 0) && spells_compound p.0 then Some p.0 else None

-- a scalar, or a type that holds other types
unfoldable pub named_payload : List ℕ → Option Payload
named_payload word =
    option_map_or (λ s. Some (One s)) (scalar_read word) (option_map Compound (compound_read word))

-- nothing, a tuple of scalars, a scalar, or a type that holds other types
unfoldable pub payload_read : List ℕ → Option Payload
payload_read word =
    if bytes_eq word (codes "none") then Some Nothing
    else option_map_or (λ rest. option_map Tuple (shape_read rest)) (behind (codes "(") word)
    (named_payload word)

-- a kind, a colon and a payload
unfoldable pub type_read : List ℕ → Option TransmitIndex
type_read word =
    option_map_or (λ rest. option_map Stream (payload_read rest)) (behind (codes "stream:") word)
    (option_map_or (λ rest. option_map Future (payload_read rest)) (behind (codes "future:") word)
    None)

-- the arguments behind a command

-- nothing
unfoldable pub nothing : List ℕ → Option Unit
nothing [] = Some tt
nothing (c ∷ rest) = None

-- G H
unfoldable pub two_numbers : List ℕ → Option (ℕ × ℕ)
two_numbers rest = followed_by decimal_number decimal_number rest

-- G N H
unfoldable pub three_numbers : List ℕ → Option (ℕ × ℕ × ℕ)
three_numbers rest =
    option_map (λ v. (v.0, v.1.0, v.1.1)) (followed_by decimal_number (followed_by decimal_number decimal_number) rest)

-- G T
unfoldable pub number_and_type : List ℕ → Option (ℕ × TransmitIndex)
number_and_type rest = followed_by decimal_number type_read rest

-- W R T
unfoldable pub two_numbers_and_type : List ℕ → Option (ℕ × ℕ × TransmitIndex)
two_numbers_and_type rest =
    option_map (λ v. (v.0, v.1.0, v.1.1)) (followed_by decimal_number (followed_by decimal_number type_read) rest)

-- an end: G T H
unfoldable pub named_end_of : List ℕ → Option NamedEnd
named_end_of rest =
    option_map (λ v. record { guest = v.0; ty = v.1.0; handle = v.1.1 })
    (followed_by decimal_number (followed_by type_read decimal_number) rest)

-- an end and a guest: G T H R
unfoldable pub end_and_guest : List ℕ → Option (NamedEnd × ℕ)
end_and_guest rest =
    option_map (λ v. (record { guest = v.0; ty = v.1.0; handle = v.1.1.0 }, v.1.1.1))
    (followed_by decimal_number (followed_by type_read (followed_by decimal_number decimal_number)) rest)

-- handle, address and, of a stream, count; that of a future is 1
unfoldable pub place_words : TransmitIndex → List ℕ → Option (ℕ × ℕ × ℕ)
place_words (Stream payload) rest = three_numbers rest
place_words (Future payload) rest = option_map (λ v. (v.0, v.1, 1)) (two_numbers rest)

-- an end, address and count: G T H A N, or without N
unfoldable pub operands_of : List ℕ → Option (NamedEnd × ℕ × ℕ)
operands_of rest =
    option_map (λ v. (record { guest = v.0; ty = v.1.0; handle = v.1.1.0 }, v.1.1.1, v.1.1.2))
    (followed_by decimal_number (followed_by_its type_read place_words) rest)

-- N HEX, N end
unfoldable pub number_and_fed : List ℕ → Option (ℕ × List ℕ)
number_and_fed rest = followed_by decimal_number fed_bytes rest

-- G A HEX
unfoldable pub place_and_bytes : List ℕ → Option (ℕ × ℕ × List ℕ)
place_and_bytes rest =
    option_map (λ v. (v.0, v.1.0, v.1.1)) (followed_by decimal_number (followed_by decimal_number hex) rest)

-- G A N, of 1 to 64 bytes
unfoldable pub place_and_len : List ℕ → Option (ℕ × ℕ × ℕ)
place_and_len rest =
    option_map (λ v. (v.0, v.1.0, v.1.1))
    (followed_by decimal_number (followed_by decimal_number (number_within 1 64)) rest)

-- a command: what its lines begin with, and the step behind its arguments
pub record Command : Type 0 where
  pub front : List ℕ
  pub read : List ℕ → Option Step

-- a command by what its lines begin with, how its arguments are read, and the step that they make
abbrev pub command : {V : Type 0} → List ℕ → (List ℕ → Option V) → (V → Step) → Command
command front arguments make =
    record { front = front; read = λ rest. option_map make (arguments rest) }

-- the commands, each group with those after it

-- those of error contexts
unfoldable pub explaining : List Command
explaining =
    command (codes "err-drop ") two_numbers (λ v. ErrDrop v.0 v.1)
    ∷ command (codes "err-move ") three_numbers (λ v. ErrMove v.0 v.1 v.2)
    ∷ command (codes "err-new ") three_numbers (λ v. ErrNew v.0 v.1 v.2)
    ∷ command (codes "err-text ") three_numbers (λ v. ErrText v.0 v.1 v.2) ∷ []

-- those of waitable sets
unfoldable pub gathering : List Command
gathering =
    command (codes "set-poll ") two_numbers (λ v. SetPoll v.0 v.1)
    ∷ command (codes "set-join ") three_numbers (λ v. SetJoin v.0 v.1 v.2)
    ∷ command (codes "set-new ") decimal_number SetNew
    ∷ command (codes "set-drop ") two_numbers (λ v. SetDrop v.0 v.1) ∷ explaining

-- those of host ends
unfoldable pub hosting : List Command
hosting =
    command (codes "host ") decimal_number HostNew
    ∷ command (codes "feed ") number_and_fed (λ v. Feed v.0 v.1)
    ∷ command (codes "pipe ") two_numbers (λ v. Pipe v.0 v.1)
    ∷ command (codes "grant ") two_numbers (λ v. Grant v.0 v.1)
    ∷ command (codes "drive") nothing (λ v. Drive) ∷ gathering

-- those of read ends that change their owner
unfoldable pub moving : List Command
moving =
    command (codes "move ") end_and_guest (λ v. Move v.0.guest v.0.ty v.0.handle v.1)
    ∷ command (codes "lift ") named_end_of (λ e. Lift e.guest e.ty e.handle)
    ∷ command (codes "lower ") two_numbers_and_type (λ v. Lower v.0 v.1 v.2) ∷ hosting

-- those that end an end, or what it waits for
unfoldable pub ending : List Command
ending =
    command (codes "drop-write ") named_end_of (λ e. DropWrite e.guest e.ty e.handle)
    ∷ command (codes "drop-read ") named_end_of (λ e. DropRead e.guest e.ty e.handle)
    ∷ command (codes "cancel-write ") named_end_of (λ e. CancelWrite e.guest e.ty e.handle)
    ∷ command (codes "cancel-read ") named_end_of (λ e. CancelRead e.guest e.ty e.handle)
    ∷ command (codes "close ") decimal_number Close ∷ moving

-- the one that makes streams between two guests
unfoldable pub pairing : List Command
pairing = command (codes "pair ") two_numbers_and_type (λ v. Between v.0 v.1 v.2) ∷ ending

-- the one that makes streams of one guest
unfoldable pub opening : List Command
opening = command (codes "new ") number_and_type (λ v. New v.0 v.1) ∷ pairing

-- the one that makes guests
unfoldable pub making : List Command
making = command (codes "guest ") decimal_number Guest ∷ opening

-- those of a guest's memory
unfoldable pub touching : List Command
touching =
    command (codes "poke ") place_and_bytes (λ v. Poke v.0 v.1 v.2)
    ∷ command (codes "dump ") place_and_len (λ v. Dump v.0 v.1 v.2) ∷ making

-- those that most lines are made of
unfoldable pub often : List Command
often =
    command (codes "write ") operands_of (λ v. Write v.0.guest v.0.ty v.0.handle v.1 v.2)
    ∷ command (codes "read ") operands_of (λ v. Read v.0.guest v.0.ty v.0.handle v.1 v.2)
    ∷ command (codes "event ") two_numbers (λ v. Event v.0 v.1) ∷ touching

-- the commands of a group, and those behind it
abbrev pub commands_of : Group → List Command
commands_of groups.Often = often
commands_of groups.Touching = touching
commands_of groups.Making = making
commands_of groups.Opening = opening
commands_of groups.Pairing = pairing
commands_of groups.Ending = ending
commands_of groups.Moving = moving
commands_of groups.Hosting = hosting
commands_of groups.Gathering = gathering
commands_of groups.Explaining = explaining

-- the step of the first of these commands that a line begins with
abbrev pub read_by : List Command → List ℕ → Option Step
read_by [] line = None
read_by (c ∷ commands) line = option_map_or c.read (behind c.front line) (read_by commands line)

-- the step that a line spells, where it spells one
unfoldable pub step_of : List ℕ → Option Step
step_of line = read_by often line
