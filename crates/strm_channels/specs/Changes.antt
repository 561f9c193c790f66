-- What the calls that give, move and free a handle do to the guests and to the counter of live handles.
-- Ours; wasmtime, `handle_table.rs`, `HandleTable::insert` and `remove`.
use Rattle.std.specs.Prelude.{◌≡◌, ℕ, ◌+◌, List, Result, IfOk, OnOk, OnErr}
use Rattle.strm_codes.specs.declared.counts.OutOfMemory.{OutOfMemory}
use Rattle.strm_codes.specs.declared.codes.TransmitIndex.{TransmitIndex}
use Rattle.strm_handles.specs.Handles.{next_index}
use Rattle.strm_handles.specs.Counters.{Counter, counted, uncounted}
use Rattle.strm_machine.specs.State.{Guest, guest_in}
use Rattle.strm_machine.specs.Making.{with_read_end, with_ends}
use Rattle.strm_machine.specs.declared.acts.NamedEnd.{NamedEnd}
use Rattle.strm_machine.specs.declared.streams.Side.{Side}
use Rattle.strm_channels.specs.Guests.{live_in, with_end_in, without_handle_in}

-- the next handle of guest g is taken, and the guests become these
pub record AddsHandle (before after given : List Guest) (g : ℕ) (old new : Counter) (handle : ℕ) : Type 0 where
  -- it is the number that its table gives next
  pub number : handle ≡ next_index (guest_in before g).handles
  pub guests : after ≡ given
  pub counter : new ≡ counted old
  -- of all guests together
  pub live : live_in after ≡ live_in before + 1

-- guest g gets a handle, or memory has run out and nothing changes
pub record GivesHandle (before after given : List Guest) (g : ℕ) (old new : Counter) (result : Result ℕ OutOfMemory) : Type 0 where
  pub ok : IfOk result (AddsHandle before after given g old new)
  pub err : OnErr result (after ≡ before)
  pub kept : OnErr result (new ≡ old)

-- the two ends of a stream get handles, the read end first, or memory has run out and nothing changes
pub record GivesEnds (before after : List Guest) (writer reader : ℕ) (ty : TransmitIndex) (s : ℕ) (old new : Counter) (result : Result (ℕ × ℕ) OutOfMemory) : Type 0 where
  -- the read end's number, and the write end's, which is given once the read end's is
  pub numbers : IfOk result (λ numbers. numbers ≡ (
    next_index (guest_in before reader).handles,
    next_index (guest_in (with_read_end before reader ty s) writer).handles,
  ))
  pub guests : OnOk result (after ≡ with_ends before writer reader ty s)
  pub counter : OnOk result (new ≡ counted (counted old))
  pub live : OnOk result (live_in after ≡ live_in before + 2)
  pub err : OnErr result (after ≡ before)
  pub kept : OnErr result (new ≡ old)

-- a handle is freed, and the guests become these
pub record FreesHandle (before after freed : List Guest) (old new : Counter) : Type 0 where
  pub guests : after ≡ freed
  pub counter : new ≡ uncounted old
  -- of all guests together
  pub live : live_in after + 1 ≡ live_in before

-- the guests without the handle of an end
abbrev pub without_end : List Guest → NamedEnd → List Guest
without_end guests end = without_handle_in guests end.guest end.handle

-- an end's handle is freed and guest `to` gets one, or memory has run out and the guests are as they were;
-- as many handles are live as before
pub record MovesEnd (before after : List Guest) (side : Side) (end : NamedEnd) (to s : ℕ) (old new : Counter) (result : Result ℕ OutOfMemory) : Type 0 where
  -- the number that is given once the end's old one is free
  pub number : IfOk result (λ handle. handle ≡ next_index (guest_in (without_end before end) to).handles)
  pub guests : OnOk result (after ≡ with_end_in (without_end before end) to side end.ty s)
  pub err : OnErr result (after ≡ before)
  pub counter : new ≡ old
  pub live : live_in after ≡ live_in before
