-- What an insert answers, and what inserts and removals change.
-- wasmtime, `handle_table.rs`, `HandleTable::insert` and `remove`; the order of the refusals is ours.
use Rattle.std.specs.Prelude.{◌≡◌, ◌≢◌, ℕ, ◌+◌, ◌<◌, ◌≤◌, nat_le, if◌then◌else◌, Result, Ok, Err, IsOk, IfOk, OnOk, OnErr}
use Rattle.strm_handles.specs.declared.errors.HandleError.{HandleError}
use Rattle.strm_handles.specs.declared.errors.HandleError.TheVariants.{IndexOverflow, HandleLimit, OutOfMemory}
use Rattle.strm_handles.specs.Counters.{Counter, counted, uncounted}
use Rattle.strm_handles.specs.Handles.{handle_limit, HandlesOf, TableOf, next_index, inserted, removed}

module _ {E : Type 0} where
  -- what an insert answers where memory is there
  abbrev pub insert_answer : HandlesOf E → Counter → Result ℕ HandleError
  insert_answer h counter =
      if nat_le handle_limit (next_index h) then Err IndexOverflow
      else (if nat_le counter.limit counter.live then Err HandleLimit
      else Ok (next_index h))

  -- an entry is added and counted, or nothing changes; no number is 0, or 2^28 and above
  pub record Inserts (old new : TableOf E) (before after : Counter) (e : E) (result : Result ℕ HandleError) : Type 0 where
    pub answer : result ≢ Err OutOfMemory → result ≡ insert_answer old.handles before
    -- running out of memory comes where nothing else refuses, and there was no room
    pub last : result ≡ Err OutOfMemory → IsOk (insert_answer old.handles before)
    pub memory : result ≡ Err OutOfMemory → old.room ≡ 0
    pub some : IfOk result (λ n. 0 < n)
    pub small : IfOk result (λ n. n < handle_limit)
    pub ok : OnOk result (new.handles ≡ inserted old.handles e)
    pub room : old.room ≤ new.room + 1
    pub live : OnOk result (after ≡ counted before)
    pub err : OnErr result (new ≡ old)
    pub kept : OnErr result (after ≡ before)

  -- a number is freed and counted off, or nothing changes
  pub record Removes {A : Type 0} (old new : TableOf E) (before after : Counter) (n : ℕ) (result : Result A HandleError) : Type 0 where
    pub ok : OnOk result (new.handles ≡ removed old.handles n)
    pub room : OnOk result (new.room ≡ old.room + 1)
    pub live : OnOk result (after ≡ uncounted before)
    pub err : OnErr result (new ≡ old)
    pub kept : OnErr result (after ≡ before)

  -- an entry is changed where it stands, or nothing changes: the room stays
  pub record ChangesInPlace {A : Type 0} (old new : TableOf E) (before after : Counter) (result : Result A HandleError) : Type 0 where
    pub room : new.room ≡ old.room
    pub err : OnErr result (new ≡ old)
    pub kept : OnErr result (after ≡ before)
