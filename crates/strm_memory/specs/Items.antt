-- The items of a region of a memory, and a memory with items stored in a region.
-- Canonical ABI, "Loading" and "Storing": `load_list_from_valid_range` and `store_list_into_valid_range`.
-- Padding is never written.
use Rattle.std.specs.Prelude.{ℕ, zero, suc, ◌*◌, ◌<◌, IsSome, IsNone, ℤ, pos, Bool, true, false, List, [], ◌∷◌, ◌++◌, take, drop, map, Option, Some, None, option_and_then}
use Rattle.std.specs.Option.{option_map}
use Rattle.strm_memory.specs.Loads.{decode, encode}
use Rattle.strm_codes.specs.Scalars.{is_numeric}
use Rattle.strm_codes.specs.ItemTypes.{item_size, ItemType}
use Rattle.strm_codes.specs.Begins.{FitsItem}
use Rattle.strm_codes.specs.declared.payloads.Payload.{Payload}
use Rattle.strm_codes.specs.declared.payloads.Payload.TheVariants.{Nothing, One}

-- so many items from the front of the bytes on; none where one of them is none
unfoldable pub items : ItemType → List ℕ → ℕ → Option (List (List ℤ))
items t bytes zero = Some []
items t bytes (suc n) =
    let rest = items t (drop (item_size t) bytes) n in
    option_and_then (λ x. option_map (λ xs. x ∷ xs) rest) (decode t bytes)

-- the bytes with these items from their front on, and all else as it was
unfoldable pub stored : ItemType → List ℕ → List (List ℤ) → List ℕ
stored t bytes [] = bytes
stored t bytes (x ∷ xs) =
    let item = encode t bytes x in
    take (item_size t) item ++ stored t (drop (item_size t) item) xs

-- so many items of a memory from an address on
abbrev pub items_at : ItemType → List ℕ → ℕ → ℕ → Option (List (List ℤ))
items_at t memory address n = items t (drop address memory) n

-- a memory with these items from an address on, and all else as it was
abbrev pub stored_at : ItemType → List ℕ → ℕ → List (List ℤ) → List ℕ
stored_at t memory address xs = take address memory ++ stored t (drop address memory) xs

-- each is an item of this type
abbrev pub AreItems : ItemType → List (List ℤ) → Type 0
AreItems t [] = Unit {0}
AreItems t (x ∷ xs) = FitsItem t x × AreItems t xs

-- bytes as items of payload u8
abbrev pub byte_items : List ℕ → List (List ℤ)
byte_items bytes = map (λ b. pos b ∷ []) bytes

-- any bytes are items of these payloads: nothing, and one number
abbrev pub is_number_or_none : Payload → Bool
is_number_or_none Nothing = true
is_number_or_none (One scalar) = is_numeric scalar
is_number_or_none _ = false

-- an item before others; where it is none, nothing
abbrev pub good_then : Option (List ℤ) → List (List ℤ) → List (List ℤ)
good_then None rest = []
good_then (Some x) rest = x ∷ rest

-- at most so many items from the front of the bytes on, up to the first that is none
unfoldable pub good_items : ItemType → List ℕ → ℕ → List (List ℤ)
good_items t bytes zero = []
good_items t bytes (suc n) =
    good_then (decode t bytes) (good_items t (drop (item_size t) bytes) n)

-- an item is none, and the ones before it are items: it is the first bad one of so many
pub record IsFirstBadItem (t : ItemType) (bytes : List ℕ) (count index : ℕ) : Type 0 where
  pub within : index < count
  pub before : IsSome (items t bytes index)
  pub bad : IsNone (decode t (drop (item_size t * index) bytes))
