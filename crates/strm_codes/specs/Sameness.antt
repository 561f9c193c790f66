-- When two scalars, and two payloads, are one type. Ours; that this is equality is shown in
-- `SamenessLemmas.antt`.
use Rattle.std.specs.Prelude.{ℕ, ◌==◌, Bool, ◌&&◌, List, []}
use lib.Pointwise.{pointwise}
use Rattle.strm_codes.specs.Layout.{scalars_of}
use Rattle.strm_codes.specs.declared.scalars.Scalar.{Scalar}
use Rattle.strm_codes.specs.declared.scalars.Scalar.TheVariants.{Bool as Flag, S8, U8, S16, U16, S32, U32, S64, U64, Char, F32, F64}
use Rattle.strm_codes.specs.declared.payloads.Payload.{Payload}
use Rattle.strm_codes.specs.declared.payloads.Payload.TheVariants.{Nothing, One, Tuple, Compound}
use Rattle.strm_codes.specs.declared.nodes.Node.{Node}
use Rattle.strm_codes.specs.declared.nodes.Node.TheVariants as node

-- a scalar's place among the scalars
abbrev pub scalar_number : Scalar → ℕ
scalar_number Flag = 0
scalar_number S8 = 1
scalar_number U8 = 2
scalar_number S16 = 3
scalar_number U16 = 4
scalar_number S32 = 5
scalar_number U32 = 6
scalar_number S64 = 7
scalar_number U64 = 8
scalar_number Char = 9
scalar_number F32 = 10
scalar_number F64 = 11

-- two scalars are one type
abbrev pub same_scalar : Scalar → Scalar → Bool
same_scalar a b = scalar_number a == scalar_number b

-- two tuples are one type: field by field
abbrev pub same_scalars : List Scalar → List Scalar → Bool
same_scalars = pointwise same_scalar

-- which constructor a word of a spelling is
abbrev pub node_kind : Node → ℕ
node_kind node.Nothing = 0
node_kind (node.Plain s) = 1
node_kind (node.Flags n) = 2
node_kind (node.Enum n) = 3
node_kind node.Option = 4
node_kind node.Result = 5
node_kind (node.Tuple n) = 6
node_kind (node.Variant n) = 7

-- how many flags, cases or fields it has; of a scalar its place among the scalars
abbrev pub node_count : Node → ℕ
node_count (node.Plain s) = scalar_number s
node_count (node.Flags n) = n
node_count (node.Enum n) = n
node_count (node.Tuple n) = n
node_count (node.Variant n) = n
node_count _ = 0

-- two words are one
abbrev pub same_node : Node → Node → Bool
same_node a b = node_kind a == node_kind b && node_count a == node_count b

-- two spellings are one: word by word
abbrev pub same_nodes : List Node → List Node → Bool
same_nodes = pointwise same_node

-- the words of a compound; of any other payload none
abbrev pub nodes_of : Payload → List Node
nodes_of (Compound words) = words
nodes_of _ = []

-- a payload's form: nothing, a scalar, a tuple of scalars, or a compound
abbrev pub form_number : Payload → ℕ
form_number Nothing = 0
form_number (One scalar) = 1
form_number (Tuple shape) = 2
form_number (Compound words) = 3

-- two payloads are one type: of one form, and of the same scalars and words; a tuple of one scalar is
-- another type than the scalar, and an option another than the result that lies as it does
abbrev pub same_payload : Payload → Payload → Bool
same_payload a b =
    form_number a == form_number b
    && (same_scalars (scalars_of a) (scalars_of b) && same_nodes (nodes_of a) (nodes_of b))
