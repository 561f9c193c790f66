-- What is done to a host end of a store between steps: a writer is fed and ended, a reader is granted items, its items
-- are collected, and it wants no more. The machine's state stays, and so do all other host ends. Ours.
use Rattle.std.specs.Prelude.{◌≡◌, ℕ, ◌<◌, ◌≤◌, min, Bool, true, List, length, take, Option, Some, None, Result, Ok, Err}
use Rattle.strm_codes.specs.Layout.{item_type}
use Rattle.strm_memory.specs.Items.{stored}
use Rattle.strm_ready_ends.specs.SendQueues.{Feeds, with_end, is_future}
use Rattle.strm_ready_ends.specs.ReceiveQueues.{Grants, collected, finished}
use Rattle.strm_host_store.specs.HostStates.{HostState, writer_of, reader_of, with_writer, with_reader}
use Rattle.strm_host_store.specs.declared.errors.HostFeedError.{HostFeedError}
use Rattle.strm_host_store.specs.declared.errors.HostFeedError.TheVariants as feeds
use Rattle.strm_host_store.specs.declared.errors.HostGrantError.{HostGrantError}
use Rattle.strm_host_store.specs.declared.errors.HostGrantError.TheVariants as grants
use Rattle.strm_host_store.specs.declared.errors.FinishError.{FinishError}
use Rattle.strm_host_store.specs.declared.errors.FinishError.TheVariants as finishes
use Rattle.strm_host_store.specs.declared.errors.UnknownHost.{UnknownHost}

-- HOST WRITERS

-- so many items that these bytes are were fed to host writer n, or why not
abbrev pub FeedsWriter : HostState → HostState → ℕ → List ℕ → ℕ → Result (Unit {0}) HostFeedError → Type 0
FeedsWriter old new n bytes count (Ok v) =
    (n < length old.writers)
    × Feeds (writer_of old n) (writer_of new n) bytes count (Ok v)
    × (new ≡ with_writer old n (writer_of new n))
FeedsWriter old new n bytes count (Err feeds.UnknownHost) = (length old.writers ≤ n) × (new ≡ old)
FeedsWriter old new n bytes count (Err (feeds.Refused error)) =
    (n < length old.writers) × Feeds (writer_of old n) (writer_of old n) bytes count (Err error) × (new ≡ old)

-- host writer n ends, a future's by its item alone: whether it is ended
abbrev pub EndsWriter : HostState → HostState → ℕ → Result Bool UnknownHost → Type 0
EndsWriter old new n (Ok ended) =
    (n < length old.writers)
    × (new ≡ with_writer old n (with_end (writer_of old n)))
    × (ended ≡ (with_end (writer_of old n)).ended)
EndsWriter old new n (Err error) = (length old.writers ≤ n) × (new ≡ old)

-- how many items host writer n holds
abbrev pub HeldOf : HostState → ℕ → Option ℕ → Type 0
HeldOf host n (Some held) = (n < length host.writers) × (held ≡ length (writer_of host n).items)
HeldOf host n None = length host.writers ≤ n

-- HOST READERS

-- host reader r may take so many items more, or why not
abbrev pub GrantsReader : HostState → HostState → ℕ → ℕ → Result (Unit {0}) HostGrantError → Type 0
GrantsReader old new r count (Ok v) =
    (r < length old.readers)
    × Grants (reader_of old r) (reader_of new r) count (Ok v)
    × (new ≡ with_reader old r (reader_of new r))
GrantsReader old new r count (Err grants.UnknownHost) = (length old.readers ≤ r) × (new ≡ old)
GrantsReader old new r count (Err (grants.Refused error)) =
    (r < length old.readers) × Grants (reader_of old r) (reader_of old r) count (Err error) × (new ≡ old)

-- how many items host reader r keeps
abbrev pub KeptOf : HostState → ℕ → Option ℕ → Type 0
KeptOf host r (Some kept) = (r < length host.readers) × (kept ≡ length (reader_of host r).items)
KeptOf host r None = length host.readers ≤ r

-- the first items that host reader r keeps, at most so many, were written over these bytes from their front on, and
-- given up
pub record CollectsReader (old new : HostState) (r : ℕ) (bytes after : List ℕ) (most count : ℕ) : Type 0 where
  pub there : r < length old.readers
  pub most_there : count ≡ min most (length (reader_of old r).items)
  pub written : after ≡ stored (item_type (reader_of old r).payload) bytes (take count (reader_of old r).items)
  pub left : new ≡ with_reader old r (collected (reader_of old r) count)

-- the same, or no host reader has the number
abbrev pub CollectsOf : HostState → HostState → ℕ → List ℕ → List ℕ → ℕ → Result ℕ UnknownHost → Type 0
CollectsOf old new r bytes after most (Ok count) = CollectsReader old new r bytes after most count
CollectsOf old new r bytes after most (Err error) = (length old.readers ≤ r) × (new ≡ old) × (after ≡ bytes)

-- host reader r wants no more; memory runs out of a future's alone
abbrev pub FinishesReader : HostState → HostState → ℕ → Result (Unit {0}) FinishError → Type 0
FinishesReader old new r (Ok v) = (r < length old.readers) × (new ≡ with_reader old r (finished (reader_of old r)))
FinishesReader old new r (Err finishes.UnknownHost) = (length old.readers ≤ r) × (new ≡ old)
FinishesReader old new r (Err finishes.OutOfMemory) =
    (r < length old.readers) × (is_future (reader_of old r).kind ≡ true) × (new ≡ old)
