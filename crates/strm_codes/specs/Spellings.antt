-- Which type a list of words spells, each constructor before its parts. The words are read from the last
-- to the first: each takes the types of its parts from the front of those that were spelled behind it.
-- Component Model, "Type Definitions"; Canonical ABI, "Despecialization".
use Rattle.std.specs.Prelude.{◌≡◌, ℕ, zero, suc, ◌+◌, ◌≤◌, nat_le, Bool, true, false, ◌&&◌, List, [], ◌∷◌, length, drop}
use Rattle.std.specs.List.{list_all}
use Rattle.strm_codes.specs.ItemTypes.{ItemType, Plain, Flags, Record, Variant, Parts, no_parts, part, item_size}
use Rattle.strm_codes.specs.declared.nodes.Node.{Node}
use Rattle.strm_codes.specs.declared.nodes.Node.TheVariants as node

-- a value that is always the same
abbrev pub unit : ItemType
unit = Record no_parts

-- so many cases without values
abbrev pub units : ℕ → Parts
units zero = no_parts
units (suc n) = part unit (units n)

-- the first so many types
abbrev pub taken : ℕ → List ItemType → Parts
taken zero ts = no_parts
taken (suc n) [] = no_parts
taken (suc n) (t ∷ ts) = part t (taken n ts)

-- how many parts stand behind a word
abbrev pub arity : Node → ℕ
arity node.Option = 1
arity node.Result = 2
arity (node.Tuple n) = n
arity (node.Variant n) = n
arity _ = 0

-- the type of a word, over the types behind it
abbrev pub type_with : Node → List ItemType → ItemType
type_with node.Nothing ts = unit
type_with (node.Plain s) ts = Plain s
type_with (node.Flags n) ts = Flags n
type_with (node.Enum n) ts = Variant (units n)
type_with node.Option ts = Variant (part unit (taken 1 ts))
type_with node.Result ts = Variant (taken 2 ts)
type_with (node.Tuple n) ts = Record (taken n ts)
type_with (node.Variant n) ts = Variant (taken n ts)

-- the types that these words spell, one behind the other
unfoldable pub spelled : List Node → List ItemType
spelled [] = []
spelled (n ∷ ns) = type_with n (spelled ns) ∷ drop (arity n) (spelled ns)

-- the first of some types
abbrev pub first_type : List ItemType → ItemType
first_type [] = unit
first_type (t ∷ ts) = t

-- there are so many flags, cases and fields
abbrev pub HasCount : Node → Type 0
HasCount (node.Flags n) = (1 ≤ n) × (n ≤ 32)
HasCount (node.Enum n) = (1 ≤ n) × (n ≤ 128)
HasCount (node.Tuple n) = 1 ≤ n
HasCount (node.Variant n) = 1 ≤ n
HasCount _ = Unit {0}

-- each word finds its parts, and no item has more than 128 bytes
unfoldable pub AreSpelled : List Node → Type 0
AreSpelled [] = Unit {0}
AreSpelled (n ∷ ns) = AreSpelled ns × HasCount n × (arity n ≤ length (spelled ns)) × (item_size (type_with n (spelled ns)) ≤ 128)

-- the words behind those of the first so many types
unfoldable pub behind : ℕ → List Node → List Node
behind zero ns = ns
behind (suc m) [] = []
behind (suc m) (n ∷ ns) = behind (arity n + m) ns

-- a scalar
abbrev pub is_plain : Node → Bool
is_plain (node.Plain s) = true
is_plain _ = false

-- a payload of another form: nothing, one scalar, or a tuple of one to eight scalars
abbrev pub is_flat : List Node → Bool
is_flat (node.Nothing ∷ ns) = true
is_flat (node.Plain s ∷ ns) = true
is_flat (node.Tuple n ∷ ns) = nat_le n 8 && list_all is_plain ns
is_flat _ = false

-- at most sixteen words that spell one type, which is no payload of another form
pub record IsCompound (ns : List Node) : Type 0 where
  pub few : length ns ≤ 16
  pub one : length (spelled ns) ≡ 1
  pub each : AreSpelled ns
  pub nested : is_flat ns ≡ false
