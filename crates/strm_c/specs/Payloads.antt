-- Payloads and types as the words that C passes. Ours.
use Rattle.std.specs.Prelude.{◌≤◌, option_and_then, ℕ, suc, zero, Option, Some, None, List, [], ◌∷◌, ◌==◌, ◌+◌, ◌*◌, ◌-◌, ◌/◌, ◌%◌, nat_lt, nat_le, length, Bool, if◌then◌else◌}
use Rattle.std.specs.Option.{option_map}
use Rattle.strm_codes.specs.declared.nodes.Node.TheVariants as node
use Rattle.strm_codes.specs.declared.codes.TransmitIndex.{TransmitIndex}
use Rattle.strm_codes.specs.declared.codes.TransmitIndex.TheVariants.{Stream, Future}
use Rattle.strm_codes.specs.declared.payloads.Payload.{Payload}
use Rattle.strm_codes.specs.declared.payloads.Payload.TheVariants.{Nothing, One, Tuple, Compound}
use Rattle.strm_codes.specs.CompoundTests.{spells_compound}
use Rattle.strm_codes.specs.NodeBytes.{node_byte, node_of_byte}
use Rattle.strm_codes.specs.declared.nodes.Node.{Node}
use Rattle.strm_codes.specs.declared.scalars.Scalar.{Scalar}
use Rattle.strm_codes.specs.declared.scalars.Scalar.TheVariants.{Bool as Flag, S8, U8, S16, U16, S32, U32, S64, U64, Char, F32, F64}

-- the scalar of a number, from 1 to 12 in the order of their declaration
abbrev pub scalar_of_number : ℕ → Option Scalar
scalar_of_number number =
    if number == 1 then Some Flag
    else (if number == 2 then Some S8
    else (if number == 3 then Some U8
    else (if number == 4 then Some S16
    else (if number == 5 then Some U16
    else (if number == 6 then Some S32
    else (if number == 7 then Some U32
    else (if number == 8 then Some S64
    else (if number == 9 then Some U64
    else (if number == 10 then Some Char
    else (if number == 11 then Some F32
    else (if number == 12 then Some F64 else None)))))))))))

-- and its number
abbrev pub number_of_scalar : Scalar → ℕ
number_of_scalar Flag = 1
number_of_scalar S8 = 2
number_of_scalar U8 = 3
number_of_scalar S16 = 4
number_of_scalar U16 = 5
number_of_scalar S32 = 6
number_of_scalar U32 = 7
number_of_scalar S64 = 8
number_of_scalar U64 = 9
number_of_scalar Char = 10
number_of_scalar F32 = 11
number_of_scalar F64 = 12

-- one before others, if all are there
abbrev pub with_first : {E : Type 0} → Option E → Option (List E) → Option (List E)
with_first (Some first) (Some more) = Some (first ∷ more)
with_first first more = None

-- what so many digits of a word at most stand for, the lowest first; 0 ends them
unfoldable pub digits_at : {E : Type 0} → ℕ → (ℕ → Option E) → ℕ → ℕ → Option (List E)
digits_at base read zero word = if word == 0 then Some [] else None
digits_at base read (suc most) word =
    if word == 0 then Some [] else with_first (read (word % base)) (digits_at base read most (word / base))

-- these as digits of a word, the first the lowest
abbrev pub digits_word : {E : Type 0} → ℕ → (E → ℕ) → List E → ℕ
digits_word base number [] = 0
digits_word base number (first ∷ more) = number first + base * digits_word base number more

-- so many fields at most, four bits each
abbrev pub fields_at : ℕ → ℕ → Option (List Scalar)
fields_at most word = digits_at 16 scalar_of_number most word

-- a tuple has fields
abbrev pub tuple_with : Option (List Scalar) → Option Payload
tuple_with (Some (field ∷ more)) = Some (Tuple (field ∷ more))
tuple_with fields = None

-- the bit of a tuple's word, 2^32
abbrev pub tuple_bit : ℕ
tuple_bit = 4294967296

-- the bit of a future's type, 2^33
abbrev pub future_bit : ℕ
future_bit = 8589934592

-- the bit of the word of a type that holds others, 2^34
abbrev pub compound_bit : ℕ
compound_bit = 17179869184

-- so many words of a type at most, a byte each
abbrev pub nodes_at : ℕ → ℕ → Option (List Node)
nodes_at most number = digits_at 256 node_of_byte most number

-- a compound has words that spell one
abbrev pub compound_with : Option (List Node) → Option Payload
compound_with None = None
compound_with (Some words) = if spells_compound words then Some (Compound words) else None

-- the bytes of a compound's word: the first four are the lowest, the other three the highest
abbrev pub compound_bytes : ℕ → ℕ
compound_bytes word = word % tuple_bit + tuple_bit * (word / 1099511627776)

-- the payload of a word: 0 is none, 1 to 12 the scalars; with the tuple's bit, its fields; with the bit of
-- compounds, the words of the type
abbrev pub payload_at : ℕ → Option Payload
payload_at word =
    if nat_lt word tuple_bit
    then (if word == 0 then Some Nothing else option_map One (scalar_of_number word))
    else (if word / tuple_bit % 256 == 4
    then compound_with (nodes_at 7 (compound_bytes word))
    else tuple_with (fields_at 8 (word - tuple_bit)))

-- whether a word has the future's bit
abbrev pub has_future_bit : ℕ → Bool
has_future_bit word = word / future_bit % 2 == 1

-- the type of a word: its payload's, with the future's bit or without
abbrev pub type_at : ℕ → Option TransmitIndex
type_at word =
    if has_future_bit word
    then option_map Future (payload_at (word - future_bit))
    else option_map Stream (payload_at word)

-- fields as a word
abbrev pub fields_word : List Scalar → ℕ
fields_word fields = digits_word 16 number_of_scalar fields

-- the words that bytes stand for, if each stands for one
unfoldable pub nodes_of_bytes : List ℕ → Option (List Node)
nodes_of_bytes [] = Some []
nodes_of_bytes (b ∷ bytes) = with_first (node_of_byte b) (nodes_of_bytes bytes)

-- the payload that words spell: nothing, a scalar, a tuple of scalars, or a type that holds others
abbrev pub payload_of_nodes : List Node → Option Payload
payload_of_nodes (node.Nothing ∷ []) = Some Nothing
payload_of_nodes (node.Plain s ∷ []) = Some (One s)
payload_of_nodes words = compound_with (Some words)

-- the payload that bytes spell
abbrev pub type_of_bytes : List ℕ → Option Payload
type_of_bytes bytes = option_and_then payload_of_nodes (nodes_of_bytes bytes)

-- the status of a type that is built: more than seven words are too many
abbrev pub built_status : List ℕ → ℕ
built_status bytes = if nat_le (length bytes) 7 then built_by (type_of_bytes bytes) else 77
  where
    built_by : Option Payload → ℕ
    built_by None = 78
    built_by (Some payload) = 0

-- the words of a type as a number, a byte each
abbrev pub nodes_number : List Node → ℕ
nodes_number words = digits_word 256 node_byte words

-- the word of no payload
abbrev pub no_word : ℕ
no_word = 18446744073709551615

-- a payload as its word; a compound of more than seven words has none
abbrev pub payload_word : Payload → ℕ
payload_word Nothing = 0
payload_word (One scalar) = number_of_scalar scalar
payload_word (Tuple fields) = tuple_bit + fields_word fields
payload_word (Compound words) =
    if nat_le (length words) 7
    then compound_bit + nodes_number words % tuple_bit + 1099511627776 * (nodes_number words / tuple_bit)
    else no_word

-- a payload that has a word
abbrev pub HasWord : Payload → Type 0
HasWord (Tuple fields) = 1 ≤ length fields
HasWord (Compound words) = length words ≤ 7
HasWord payload = Unit {0}

-- the word of a future, by that of its payload
abbrev pub future_word : ℕ → ℕ
future_word word = if word == no_word then no_word else future_bit + word

-- a type as its word
abbrev pub type_word : TransmitIndex → ℕ
type_word (Stream payload) = payload_word payload
type_word (Future payload) = future_word (payload_word payload)
