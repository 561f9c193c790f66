-- The handles of a table: what each number stands for, and which number is given next.
-- Canonical ABI, "Table State"; wasmtime, `handle_table.rs`, `HandleTable`.
use Rattle.std.specs.Prelude.{◌≡◌, ◌≢◌, ℕ, zero, suc, ◌+◌, ◌^◌, ◌<◌, ◌≤◌, List, [], ◌∷◌, ◌++◌, length, slice_index_or, slice_set, sum_by, All, Option, Some, None}
use Rattle.strm_handles.specs.declared.entries.Entry.{Entry}
use Rattle.strm_handles.specs.declared.entries.Entry.TheVariants as entry

-- what each number from 1 on stands for, and the freed numbers, the last freed first
pub record HandlesOf (E : Type 0) : Type 0 where
  pub entries : List (Option E)
  pub freed : List ℕ

-- a table: its handles, and how many inserts take no memory
pub record TableOf (E : Type 0) : Type 0 where
  pub handles : HandlesOf E
  pub room : ℕ

-- 2^28: the first number that no handle has
abbrev pub handle_limit : ℕ
handle_limit = 2 ^ 28

-- each number of the list is another
abbrev pub AreApart : List ℕ → Type 0
AreApart [] = Unit {0}
AreApart (n ∷ ns) = All (λ k. n ≢ k) ns × AreApart ns

-- the number given next: the one freed last, else the one after the last
abbrev pub next_of : List ℕ → ℕ → ℕ
next_of [] last = last + 1
next_of (n ∷ ns) last = n

module _ {E : Type 0} where
  -- a new table's
  abbrev pub no_handles : HandlesOf E
  no_handles = record { entries = []; freed = [] }

  -- what a number stands for: 0, and a number that was never given, stand for nothing
  abbrev pub entry_in : List (Option E) → ℕ → Option E
  entry_in entries zero = None
  entry_in entries (suc i) = slice_index_or entries i None

  -- what a number of a table stands for
  abbrev pub entry_at : HandlesOf E → ℕ → Option E
  entry_at h n = entry_in h.entries n

  -- the number that the next insert gives
  abbrev pub next_index : HandlesOf E → ℕ
  next_index h = next_of h.freed (length h.entries)

  -- the entries, with another one under a number
  abbrev pub entries_with : List (Option E) → ℕ → Option E → List (Option E)
  entries_with entries zero x = entries
  entries_with entries (suc i) x = slice_set entries i x

  -- an entry more, under the number given next
  abbrev pub inserted_in : List (Option E) → List ℕ → E → HandlesOf E
  inserted_in entries [] e = record { entries = entries ++ Some e ∷ []; freed = [] }
  inserted_in entries (n ∷ ns) e = record { entries = entries_with entries n (Some e); freed = ns }

  -- the handles after an insert
  abbrev pub inserted : HandlesOf E → E → HandlesOf E
  inserted h e = inserted_in h.entries h.freed e

  -- an entry less, whose number is given first from now on
  abbrev pub removed : HandlesOf E → ℕ → HandlesOf E
  removed h n = record { entries = entries_with h.entries n None; freed = n ∷ h.freed }

  -- another entry under a number that stands for one
  abbrev pub with_entry : HandlesOf E → ℕ → E → HandlesOf E
  with_entry h n e = record { entries = entries_with h.entries n (Some e); freed = h.freed }

  -- a slot that stands for something is occupied
  abbrev pub occupied_in : Option E → ℕ
  occupied_in None = 0
  occupied_in (Some e) = 1

  -- how many slots are occupied
  abbrev pub occupied : HandlesOf E → ℕ
  occupied h = sum_by occupied_in h.entries

  -- a number that was given, and stands for nothing now
  pub record IsFreed (entries : List (Option E)) (n : ℕ) : Type 0 where
    pub some : 0 < n
    pub given : n ≤ length entries
    pub free : entry_in entries n ≡ None

  -- the freed numbers are those that were given and stand for nothing, each once; all are below 2^28
  pub record IsTable (h : HandlesOf E) : Type 0 where
    pub free : All (IsFreed h.entries) h.freed
    pub apart : AreApart h.freed
    pub all : occupied h + length h.freed ≡ length h.entries
    pub small : length h.entries < handle_limit

-- the handles of a guest
abbrev pub Handles : Type 0
Handles = HandlesOf Entry

-- the table of a guest
abbrev pub Table : Type 0
Table = TableOf Entry

-- the open lends of an entry, which an own resource may have
abbrev pub lends_of : Entry → ℕ
lends_of (entry.ResourceOwn resource lend_count) = lend_count
lends_of _ = 0

-- the open lends of what a number stands for
abbrev pub lends_in : Option Entry → ℕ
lends_in None = 0
lends_in (Some e) = lends_of e

-- the open lends of a table
abbrev pub open_lends : Handles → ℕ
open_lends h = sum_by lends_in h.entries

-- the live handles: occupied slots and open lends
abbrev pub live_of : Handles → ℕ
live_of h = occupied h + open_lends h
