-- The words of a line: hexadecimal bytes, payloads and types. Ours.
-- The payloads' names are those of the Component Model's text format.
use Rattle.std.specs.Prelude.{ℕ, ◌+◌, ◌/◌, ◌%◌, nat_lt, List, [], ◌∷◌, ◌++◌, map, take, drop, codes, decimal, if◌then◌else◌}
use Rattle.std.specs.Str.{bytes_eq}
use Rattle.std.specs.List.{flat_map, join_with_byte}
use Rattle.strm_codes.specs.declared.scalars.Scalar.{Scalar}
use Rattle.strm_codes.specs.declared.scalars.Scalar.TheVariants.{Bool as Flag, S8, U8, S16, U16, S32, U32, S64, U64, Char, F32, F64}
use Rattle.strm_codes.specs.declared.payloads.Payload.{Payload}
use Rattle.strm_codes.specs.declared.payloads.Payload.TheVariants.{Nothing, One, Tuple, Compound}
use Rattle.strm_codes.specs.Spellings.{arity}
use Rattle.strm_codes.specs.declared.nodes.Node.{Node}
use Rattle.strm_codes.specs.declared.nodes.Node.TheVariants as node
use Rattle.strm_codes.specs.declared.codes.TransmitIndex.{TransmitIndex}
use Rattle.strm_codes.specs.declared.codes.TransmitIndex.TheVariants.{Stream, Future}

-- a lower-case hexadecimal digit: `0` is 48 and `a` is 97
abbrev pub hex_digit : ℕ → ℕ
hex_digit n = if nat_lt n 10 then 48 + n else 87 + n

-- a byte as two digits, the higher first
abbrev pub hex_pair : ℕ → List ℕ
hex_pair byte = hex_digit (byte / 16) ∷ hex_digit (byte % 16) ∷ []

-- bytes as pairs of digits
abbrev pub hex_pairs : List ℕ → List ℕ
hex_pairs bytes = flat_map hex_pair bytes

-- a scalar's name
abbrev pub scalar_word : Scalar → List ℕ
scalar_word Flag = codes "bool"
scalar_word S8 = codes "s8"
scalar_word U8 = codes "u8"
scalar_word S16 = codes "s16"
scalar_word U16 = codes "u16"
scalar_word S32 = codes "s32"
scalar_word U32 = codes "u32"
scalar_word S64 = codes "s64"
scalar_word U64 = codes "u64"
scalar_word Char = codes "char"
scalar_word F32 = codes "f32"
scalar_word F64 = codes "f64"

-- the first of some texts, and the one behind it
abbrev pub first_text : List (List ℕ) → List ℕ
first_text [] = []
first_text (t ∷ ts) = t

-- types in angle brackets, separated by commas
abbrev pub bracketed : List (List ℕ) → List ℕ
bracketed ts = codes "<" ++ join_with_byte 44 ts ++ codes ">"

-- a result: what it holds of `ok` and of `error`, where it holds something
abbrev pub result_text : List ℕ → List ℕ → List ℕ
result_text ok error =
    if bytes_eq error (codes "_")
    then (if bytes_eq ok (codes "_") then codes "result" else codes "result" ++ bracketed (ok ∷ []))
    else codes "result" ++ bracketed (ok ∷ error ∷ [])

-- the text of a word of a spelling, over those of the types behind it
abbrev pub text_with : Node → List (List ℕ) → List ℕ
text_with node.Nothing ts = codes "_"
text_with (node.Plain s) ts = scalar_word s
text_with (node.Flags n) ts = codes "flags" ++ decimal n
text_with (node.Enum n) ts = codes "enum" ++ decimal n
text_with node.Option ts = codes "option" ++ bracketed (take 1 ts)
text_with node.Result ts = result_text (first_text ts) (first_text (drop 1 ts))
text_with (node.Tuple n) ts = codes "record" ++ bracketed (take n ts)
text_with (node.Variant n) ts = codes "variant" ++ bracketed (take n ts)

-- the texts of the types that these words spell, one behind the other
unfoldable pub texts : List Node → List (List ℕ)
texts [] = []
texts (n ∷ ns) = text_with n (texts ns) ∷ drop (arity n) (texts ns)

-- a tuple of scalars stands in parentheses, its scalars separated by commas; other types are spelled as
-- the Component Model spells them, but that records have no names, and enums and flags a number
abbrev pub payload_text : Payload → List ℕ
payload_text Nothing = codes "none"
payload_text (One scalar) = scalar_word scalar
payload_text (Tuple shape) = codes "(" ++ join_with_byte 44 (map scalar_word shape) ++ codes ")"
payload_text (Compound words) = first_text (texts words)

-- the kind, a colon and the payload
abbrev pub type_text : TransmitIndex → List ℕ
type_text (Stream payload) = codes "stream:" ++ payload_text payload
type_text (Future payload) = codes "future:" ++ payload_text payload
