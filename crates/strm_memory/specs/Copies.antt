-- What a copy of items leaves, by their bytes. Ours: item by item it is the same as lifting all and
-- then lowering them (`CopyLemmas.antt`), and byte by byte the same as item by item
-- (`LimitLemmas.antt`). That all items are good is seen field by field (`ColumnLemmas.antt`).
use Rattle.std.specs.Prelude.{ℕ, zero, suc, ◌+◌, ◌-◌, min, nat_eq, if◌then◌else◌, List, [], ◌∷◌, ◌++◌, take, drop, replicate, slice_index, Bool, true, ◌&&◌, is_some}
use Rattle.strm_codes.specs.Scalars.{size_of}
use Rattle.strm_codes.specs.Offsets.{gap_before}
use Rattle.strm_codes.specs.Fields.{end_offset, fields_size}
use Rattle.strm_codes.specs.declared.scalars.Scalar.{Scalar}
use Rattle.strm_codes.specs.declared.scalars.Scalar.TheVariants.{Bool as Flag}
use Rattle.strm_memory.specs.Bytes.{le, bytes_at}
use Rattle.strm_memory.specs.Numbers.{lifted}

-- the bytes of a scalar, lifted and lowered: a flag becomes 0 or 1, any other stays
abbrev pub bytes_settled : Scalar → List ℕ → List ℕ
bytes_settled Flag bytes = min (slice_index bytes 0) 1 ∷ []
bytes_settled _ bytes = bytes

-- the bytes with the fields that may begin at an offset copied from others
unfoldable pub copied_from : ℕ → List Scalar → List ℕ → List ℕ → List ℕ
copied_from at [] source bytes = bytes
copied_from at (s ∷ ss) source bytes =
    let gap = gap_before at (size_of s) in
    let behind = gap + size_of s in
    take gap bytes
    ++ bytes_settled s (take (size_of s) (drop gap source))
    ++ copied_from (at + gap + size_of s) ss (drop behind source) (drop behind bytes)

-- the bytes with so many items copied from others, from the front on
unfoldable pub copied : List Scalar → List ℕ → List ℕ → ℕ → List ℕ
copied ss source bytes zero = bytes
copied ss source bytes (suc n) =
    let item = copied_from 0 ss source bytes in
    take (fields_size ss) item ++ copied ss (drop (fields_size ss) source) (drop (fields_size ss) item) n

-- what a byte becomes that another is copied to under a limit: under 0 it stays, else it becomes the
-- other, or the limit where that is less
abbrev pub limited : ℕ → ℕ → ℕ → ℕ
limited limit other byte = if nat_eq limit 0 then byte else min other limit

-- bytes copied to others from their fronts on, each under a limit of its own
unfoldable pub blended : List ℕ → List ℕ → List ℕ → List ℕ
blended [] source bytes = bytes
blended (l ∷ ls) [] bytes = bytes
blended (l ∷ ls) (s ∷ source) [] = []
blended (l ∷ ls) (s ∷ source) (b ∷ bytes) = limited l s b ∷ blended ls source bytes

-- the bytes of a memory with those of a source from an address on copied to another, under these limits
abbrev pub blended_on : List ℕ → List ℕ → ℕ → ℕ → List ℕ → List ℕ
blended_on limits source from to memory = take to memory ++ blended limits (drop from source) (drop to memory)

-- the limit of each byte of a scalar
abbrev pub limit_of : Scalar → ℕ
limit_of Flag = 1
limit_of _ = 255

-- its limits, and 0 up to eight bytes
abbrev pub limit_bytes : Scalar → List ℕ
limit_bytes s = replicate (size_of s) (limit_of s) ++ replicate (8 - size_of s) 0

-- the limits of the fields that may begin at an offset: padding stays
unfoldable pub limits_from : ℕ → List Scalar → List ℕ
limits_from at [] = []
limits_from at (s ∷ ss) =
    let gap = gap_before at (size_of s) in
    replicate gap 0 ++ replicate (size_of s) (limit_of s) ++ limits_from (at + gap + size_of s) ss

-- the limits of an item
abbrev pub item_limits : List Scalar → List ℕ
item_limits ss = limits_from 0 ss ++ replicate (fields_size ss - end_offset 0 ss) 0

-- a list so many times
unfoldable pub repeated : ℕ → List ℕ → List ℕ
repeated zero xs = []
repeated (suc n) xs = xs ++ repeated n xs

-- the bytes of one field at this offset stand for a number in so many items of a size
unfoldable pub is_good_column : Scalar → ℕ → ℕ → List ℕ → ℕ → Bool
is_good_column s start size source zero = true
is_good_column s start size source (suc n) =
    is_some (lifted s (le (bytes_at source start (size_of s))))
    && is_good_column s start size (drop size source) n

-- the same for all fields that may begin at an offset
unfoldable pub are_good_columns : ℕ → List Scalar → ℕ → List ℕ → ℕ → Bool
are_good_columns at [] size source n = true
are_good_columns at (s ∷ ss) size source n =
    let start = at + gap_before at (size_of s) in
    is_good_column s start size source n && are_good_columns (start + size_of s) ss size source n
