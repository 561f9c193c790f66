-- The type of a payload's items: how they lie in bytes, and which numbers they are.
-- Canonical ABI, "Alignment", "Element Size" and "Despecialization": a tuple is a record.
use Rattle.std.specs.Prelude.{Bool, true, false, List, [], ◌∷◌}
use Rattle.strm_codes.specs.ItemTypes.{ItemType, Plain, fields_type}
use Rattle.strm_codes.specs.Spellings.{unit, spelled, first_type}
use Rattle.strm_codes.specs.Scalars.{is_numeric}
use Rattle.strm_codes.specs.declared.scalars.Scalar.{Scalar}
use Rattle.strm_codes.specs.declared.scalars.Scalar.TheVariants.{U8}
use Rattle.strm_codes.specs.declared.payloads.Payload.{Payload}
use Rattle.strm_codes.specs.declared.payloads.Payload.TheVariants.{Nothing, One, Tuple, Compound}

-- the type of a payload's items; a compound's is what its words spell
abbrev pub item_type : Payload → ItemType
item_type Nothing = unit
item_type (One scalar) = Plain scalar
item_type (Tuple shape) = fields_type shape
item_type (Compound words) = first_type (spelled words)

-- that of bytes: one whole number from 0 to 255
abbrev pub byte_type : ItemType
byte_type = Plain U8

-- the scalars of a payload that is nothing, one scalar or a tuple of scalars; of any other none
abbrev pub scalars_of : Payload → List Scalar
scalars_of Nothing = []
scalars_of (One scalar) = scalar ∷ []
scalars_of (Tuple shape) = shape
scalars_of (Compound words) = []

-- a type that holds others than scalars
abbrev pub is_compound : Payload → Bool
is_compound (Compound words) = true
is_compound _ = false

-- a tuple of one number is no number
abbrev pub is_number_payload : Payload → Bool
is_number_payload (One scalar) = is_numeric scalar
is_number_payload _ = false
