-- What a window is to its calls: where marked items go, which those are, and the bytes behind them.
-- Ours: wasmtime lends a reader's bytes by references into its store.
use Rattle.std.specs.Prelude.{◌≡◌, ℕ, ◌+◌, ◌-◌, ◌*◌, ◌<◌, ◌≤◌, ◌⊎◌, Bool, true, false, List, [], ◌++◌, length, take, drop, replicate, Option, Some, None}
use Rattle.strm_codes.specs.Layout.{item_type}
use Rattle.strm_codes.specs.ItemTypes.{item_size, ItemType}
use Rattle.strm_codes.specs.declared.scalars.Scalar.TheVariants.{U8}
use Rattle.strm_codes.specs.declared.payloads.Payload.{Payload}
use Rattle.strm_codes.specs.declared.payloads.Payload.TheVariants.{One}
use Rattle.strm_memory.specs.Bytes.{put_at, bytes_at}
use Rattle.strm_memory.specs.Items.{stored_at, byte_items}
use Rattle.strm_memory.specs.Linear.{Base, LinearMemory}
use Rattle.strm_buffers.specs.Listing.{Item, LieIn, items_in}

-- where items go: into a memory, which has the marked ones in it and is otherwise as it was lent,
-- from an address on, with room for so many in all; or to another host end
pub data Place : Type 0 where
  Memory : List ℕ → ℕ → ℕ → Place
  Between : Place

-- a window: the payload, the place, the items marked so far, the bytes behind them as they stand (of
-- the room that is left, or those that were appended), whether they may be lent, and where the memory
-- lies, if that was told
pub record Lent : Type 0 where
  pub payload : Payload
  pub place : Place
  pub marked : List Item
  pub unmarked : List ℕ
  pub prepared : Bool
  pub base : Option Base

-- a memory that is lent from an address on, with room for so many items
abbrev pub lent_memory : Payload → LinearMemory → ℕ → ℕ → Lent
lent_memory payload memory address room =
    record {
      payload = payload;
      place = Memory memory.bytes address room;
      marked = [];
      unmarked = bytes_at memory.bytes address (item_size (item_type payload) * room);
      prepared = false;
      base = memory.base;
    }

-- as much room as is wanted
abbrev pub lent_between : Payload → Lent
lent_between payload = record { payload = payload; place = Between; marked = []; unmarked = []; prepared = true; base = None }

-- how many items there is room for in all, where that is stated
abbrev pub room_of : Place → Option ℕ
room_of (Memory memory address room) = Some room
room_of Between = None

-- so many more items fit behind the marked ones
abbrev pub HasRoom : Place → ℕ → ℕ → Type 0
HasRoom (Memory memory address room) marked count = marked + count ≤ room
HasRoom Between marked count = marked + count < 4294967295

-- between host ends so many more items can be counted
abbrev pub CanCount : Place → ℕ → ℕ → Type 0
CanCount (Memory memory address room) marked count = Unit {0}
CanCount Between marked count = marked + count < 4294967295

-- so many bytes lie behind the marked ones of payload u8: all that there is room for, or as many as
-- can be counted
abbrev pub IsBehind : Place → ℕ → ℕ → Type 0
IsBehind (Memory memory address room) marked count = marked + count ≡ room
IsBehind Between marked count = marked + count < 4294967295

-- the place with these items behind so many
abbrev pub stored_in : ItemType → Place → ℕ → List Item → Place
stored_in ss (Memory memory address room) marked items =
    Memory (stored_at ss memory (address + item_size ss * marked) items) address room
stored_in ss Between marked items = Between

-- the memory of a place
abbrev pub memory_of : Place → List ℕ
memory_of (Memory memory address room) = memory
memory_of Between = []

-- the memory that a window gives back
abbrev pub given_back : Lent → LinearMemory
given_back w = record { bytes = memory_of w.place; base = w.base }

-- the room lies in the memory; between host ends nothing is to be prepared
abbrev pub IsSoundPlace : Payload → Place → Bool → Type 0
IsSoundPlace payload (Memory memory address room) prepared =
    (address + item_size (item_type payload) * room ≤ length memory) × (room < 4294967296)
IsSoundPlace payload Between prepared = prepared ≡ true

-- the memory as it stands, behind so many marked items with these bytes
abbrev pub standing : ItemType → Place → ℕ → List ℕ → List ℕ
standing ss (Memory memory address room) marked unmarked =
    put_at memory (address + item_size ss * marked) unmarked
standing ss Between marked unmarked = unmarked

-- the bytes behind so many more that are marked by a put: between host ends they are given up
abbrev pub behind_put : Place → ℕ → List ℕ → List ℕ
behind_put (Memory memory address room) size unmarked = drop size unmarked
behind_put Between size unmarked = []

-- these items are marked behind those that were
abbrev pub with_items : Lent → List Item → Lent
with_items w items =
    record w {
      place = stored_in (item_type w.payload) w.place (length w.marked) items;
      marked = w.marked ++ items;
      unmarked = behind_put w.place (item_size (item_type w.payload) * length items) w.unmarked;
    }

-- the first so many of the unmarked bytes are marked as they stand
abbrev pub with_marked : Lent → ℕ → Lent
with_marked w count =
    let bytes = take count w.unmarked in
    record w {
      place = stored_in (item_type w.payload) w.place (length w.marked) (byte_items bytes);
      marked = w.marked ++ byte_items bytes;
      unmarked = drop count w.unmarked;
    }

-- the unmarked bytes of a place after so many were asked for: between host ends they are new
abbrev pub behind_direct : Place → ℕ → List ℕ → List ℕ
behind_direct (Memory memory address room) capacity unmarked = unmarked
behind_direct Between capacity unmarked = replicate capacity 0

-- so many bytes were asked for
abbrev pub with_direct : Lent → ℕ → Lent
with_direct w capacity = record w { unmarked = behind_direct w.place capacity w.unmarked }

-- the last so many of the bytes, or all of them
abbrev pub last_bytes : ℕ → List ℕ → List ℕ
last_bytes n bytes = drop (length bytes - n) bytes

-- how a place is kept: all bytes, the address and the room, and the last bytes of the room as they
-- were lent, once they may have been written to; between host ends nothing
abbrev pub place_kept : ItemType → List ℕ → List ℕ → ℕ → Option ℕ → ℕ → Place
place_kept ss bytes kept address None marked = Between
place_kept ss bytes kept address (Some room) marked =
    Memory (put_at bytes (address + item_size ss * marked) (last_bytes (item_size ss * (room - marked)) kept)) address room

-- the bytes behind the marked items, of the room or of all
abbrev pub unmarked_kept : ItemType → List ℕ → ℕ → Option ℕ → ℕ → List ℕ
unmarked_kept ss bytes address None marked = drop (item_size ss * marked) bytes
unmarked_kept ss bytes address (Some room) marked =
    bytes_at bytes (address + item_size ss * marked) (item_size ss * (room - marked))

-- how a window is kept, but for where its memory lies
abbrev pub window_kept : Payload → List ℕ → List ℕ → ℕ → Option ℕ → ℕ → Bool → Lent
window_kept payload bytes kept address room marked prepared =
    record {
      payload = payload;
      place = place_kept (item_type payload) bytes kept address room marked;
      marked = items_in (item_type payload) bytes address marked;
      unmarked = unmarked_kept (item_type payload) bytes address room marked;
      prepared = prepared;
      base = None;
    }

-- between host ends nobody was told where the bytes lie
abbrev pub IsUntold : Option ℕ → Option Base → Type 0
IsUntold room base = room ≡ None → base ≡ None

-- the window with its memory there
abbrev pub lying : Option Base → Lent → Lent
lying base w = record w { base = base }

-- bytes are kept for payload u8 alone, and then all that are not marked
abbrev pub KeepsRest : Payload → List ℕ → ℕ → Type 0
KeepsRest payload kept left = (kept ≡ []) ⊎ ((payload ≡ One U8) × (left ≤ length kept))

-- a stated room holds the marked items and lies in the memory; between host ends there is no
-- address, nothing is kept or to be prepared, and all bytes can be counted
abbrev pub IsRoom : Payload → List ℕ → List ℕ → ℕ → Option ℕ → ℕ → Bool → Type 0
IsRoom payload bytes kept address (Some room) marked prepared =
    (marked ≤ room) × (address + item_size (item_type payload) * room ≤ length bytes) × (room < 4294967296) × KeepsRest payload kept (room - marked)
IsRoom payload bytes kept address None marked prepared =
    (address ≡ 0) × (marked + (length bytes - item_size (item_type payload) * marked) < 4294967295) × (prepared ≡ true) × (kept ≡ [])

-- how many bytes may have to be kept
abbrev pub to_keep : Option ℕ → ℕ
to_keep None = 0
to_keep (Some room) = room

-- a window that is kept so is one, with so much space for the bytes that it may have to keep
pub record IsWindow (payload : Payload) (bytes kept : List ℕ) (space address : ℕ) (room : Option ℕ) (marked : ℕ) (prepared : Bool) : Type 0 where
  pub lie : LieIn (item_type payload) bytes address marked
  pub inside : IsRoom payload bytes kept address room marked prepared
  pub enough : prepared ≡ true → payload ≡ One U8 → to_keep room ≤ space
