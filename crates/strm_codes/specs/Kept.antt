-- The words of a type at the front of an array, with its size and alignment. Ours.
use Rattle.std.specs.Prelude.{◌≡◌, ℕ, List, take}
use Rattle.strm_codes.specs.ItemTypes.{item_size, align_of}
use Rattle.strm_codes.specs.Padded.{IsPadded}
use Rattle.strm_codes.specs.Spellings.{spelled, first_type, IsCompound}
use Rattle.strm_codes.specs.declared.nodes.Node.{Node}
use Rattle.strm_codes.specs.declared.nodes.Node.TheVariants as node

-- words that spell one type, and no value behind them; the size and alignment are that type's
pub record IsKept (array : List Node) (len size align : ℕ) : Type 0 where
  pub padded : IsPadded 16 node.Nothing array len
  pub type : IsCompound (take len array)
  pub measured : size ≡ item_size (first_type (spelled (take len array)))
  pub aligned : align ≡ align_of (first_type (spelled (take len array)))
