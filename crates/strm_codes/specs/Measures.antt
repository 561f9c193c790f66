-- The bytes of an item and of its parts, together. Ours.
use Rattle.std.specs.Prelude.{ℕ}
use Rattle.strm_codes.specs.ItemTypes.{ItemType, Parts, align_of, most_align, item_size, end_of, most_size}
use Rattle.strm_codes.specs.declared.measures.Extent.{Extent}
use Rattle.strm_codes.specs.declared.measures.Span.{Span}

-- an item's size and alignment
abbrev pub extent : ItemType → Extent
extent t = record { bytes = item_size t; align = align_of t }

-- where fields end, the first of which may begin at an offset, and the greatest of the parts' alignments
-- and sizes
abbrev pub span : ℕ → Parts → Span
span at ps = record { end = end_of at ps; align = most_align ps; most = most_size ps }
