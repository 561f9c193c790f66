-- Whether words spell a compound, as a test: `IsCompound` of `Spellings.antt`. Ours.
use Rattle.std.specs.Prelude.{◌==◌, ◌&&◌, not, nat_le, Bool, true, List, [], ◌∷◌, length}
use Rattle.strm_codes.specs.ItemTypes.{item_size}
use Rattle.strm_codes.specs.Spellings.{arity, type_with, spelled, is_flat}
use Rattle.strm_codes.specs.declared.nodes.Node.{Node}
use Rattle.strm_codes.specs.declared.nodes.Node.TheVariants as node

-- there are so many flags, cases and fields
abbrev pub has_count : Node → Bool
has_count (node.Flags n) = nat_le 1 n && nat_le n 32
has_count (node.Enum n) = nat_le 1 n && nat_le n 128
has_count (node.Tuple n) = nat_le 1 n
has_count (node.Variant n) = nat_le 1 n
has_count _ = true

-- each word has a count that there is and finds its parts, and no item has more than 128 bytes
unfoldable pub are_spelled : List Node → Bool
are_spelled [] = true
are_spelled (n ∷ ns) =
    are_spelled ns && (has_count n && (nat_le (arity n) (length (spelled ns)) && nat_le (item_size (type_with n (spelled ns))) 128))

-- at most sixteen words that spell one type, which is no payload of another form
abbrev pub spells_compound : List Node → Bool
spells_compound ns = nat_le (length ns) 16 && ((length (spelled ns) == 1) && (are_spelled ns && not (is_flat ns)))
