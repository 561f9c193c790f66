-- What a host writer keeps of all that it was fed. Ours.
use Rattle.std.specs.Prelude.{◌≡◌, ℕ, ◌+◌, ◌*◌, ◌≤◌, List, [], ◌∷◌, ◌++◌, length, take, drop}
use Rattle.strm_codes.specs.Layout.{item_type}
use Rattle.strm_codes.specs.ItemTypes.{item_size}
use Rattle.strm_codes.specs.declared.payloads.Payload.{Payload}
use Rattle.strm_buffers.specs.Listing.{Item, LieIn, items_in}
use Rattle.strm_program_ends.specs.Queues.{items_fed}
use Rattle.strm_program_ends.specs.declared.feeds.Feed.{Feed}

-- all that it was fed: the items, and of each feed how many records there were, and its bytes
pub record AllFed : Type 0 where
  pub payload : Payload
  pub items : List Item
  pub heard : List (ℕ × List ℕ)

-- nothing yet
abbrev pub nothing_fed : Payload → AllFed
nothing_fed payload = record { payload = payload; items = []; heard = [] }

-- one feed more, behind so many records
abbrev pub more_fed : AllFed → ℕ → List ℕ → AllFed
more_fed fed records bytes =
    record fed {
      items = fed.items ++ items_fed fed.payload bytes;
      heard = fed.heard ++ (records, bytes) ∷ [];
    }

-- the bytes of the first feed: those of its items, and the others
abbrev pub bytes_of_feed : List ℕ → List ℕ → Feed → List ℕ
bytes_of_feed bytes rest feed = take feed.len bytes ++ take feed.rest_len rest

-- what was heard in each feed: its bytes lie behind those of the feeds before it
abbrev pub heard_kept : List ℕ → List ℕ → List Feed → List (ℕ × List ℕ)
heard_kept bytes rest [] = []
heard_kept bytes rest (feed ∷ feeds) =
    (feed.records, bytes_of_feed bytes rest feed) ∷ heard_kept (drop feed.len bytes) (drop feed.rest_len rest) feeds

-- how it is kept: the bytes of so many items, all other bytes, and how many of both each feed has
abbrev pub fed_kept : Payload → List ℕ → ℕ → List ℕ → List Feed → AllFed
fed_kept payload bytes len rest feeds =
    record {
      payload = payload;
      items = items_in (item_type payload) bytes 0 len;
      heard = heard_kept bytes rest feeds;
    }

-- how many bytes of all feeds are those of items
abbrev pub item_bytes : List Feed → ℕ
item_bytes [] = 0
item_bytes (feed ∷ feeds) = feed.len + item_bytes feeds

-- and how many are others
abbrev pub other_bytes : List Feed → ℕ
other_bytes [] = 0
other_bytes (feed ∷ feeds) = feed.rest_len + other_bytes feeds

-- what is kept so is what was fed
pub record IsQueueFed (payload : Payload) (bytes : List ℕ) (len : ℕ) (rest : List ℕ) (feeds : List Feed) : Type 0 where
  pub all : length bytes ≡ item_size (item_type payload) * len
  pub lie : LieIn (item_type payload) bytes 0 len
  pub counted : len ≤ length bytes + length rest
  pub fed : length bytes ≡ item_bytes feeds
  pub others : length rest ≡ other_bytes feeds
