-- The words of a spelling as bytes, on tapes and in the words that C passes. None is 0. Ours.
use Rattle.std.specs.Prelude.{ℕ, ◌+◌, ◌-◌, nat_lt, if◌then◌else◌, List, [], ◌∷◌, slice_get, Option, Some, None}
use Rattle.std.specs.Option.{option_map}
use Rattle.strm_codes.specs.Sameness.{scalar_number}
use Rattle.strm_codes.specs.declared.nodes.Node.{Node}
use Rattle.strm_codes.specs.declared.nodes.Node.TheVariants as node
use Rattle.strm_codes.specs.declared.scalars.Scalar.{Scalar}
use Rattle.strm_codes.specs.declared.scalars.Scalar.TheVariants.{Bool as Flag, S8, U8, S16, U16, S32, U32, S64, U64, Char, F32, F64}

-- the byte of a word: of a tuple and a variant at most 15 parts, of flags at most 32, of an enum at most 128
abbrev pub node_byte : Node → ℕ
node_byte (node.Plain s) = 1 + scalar_number s
node_byte node.Nothing = 13
node_byte node.Option = 14
node_byte node.Result = 15
node_byte (node.Tuple n) = 16 + n
node_byte (node.Variant n) = 32 + n
node_byte (node.Flags n) = 47 + n
node_byte (node.Enum n) = 127 + n

-- all scalars, by their places
abbrev pub all_scalars : List Scalar
all_scalars = Flag ∷ S8 ∷ U8 ∷ S16 ∷ U16 ∷ S32 ∷ U32 ∷ S64 ∷ U64 ∷ Char ∷ F32 ∷ F64 ∷ []

-- the word of a byte
abbrev pub node_of_byte : ℕ → Option Node
node_of_byte b =
    if nat_lt b 1 then None
    else (if nat_lt b 13 then option_map node.Plain (slice_get all_scalars (b - 1))
    else (if nat_lt b 14 then Some node.Nothing
    else (if nat_lt b 15 then Some node.Option
    else (if nat_lt b 16 then Some node.Result
    else (if nat_lt b 17 then None
    else (if nat_lt b 32 then Some (node.Tuple (b - 16))
    else (if nat_lt b 33 then None
    else (if nat_lt b 48 then Some (node.Variant (b - 32))
    else (if nat_lt b 80 then Some (node.Flags (b - 47))
    else (if nat_lt b 128 then None
    else Some (node.Enum (b - 127))))))))))))
