-- One stream of bytes between two guests while it carries: the states it goes through, and runs from one to the
-- next. Ours.
use Rattle.std.specs.Prelude.{◌≡◌, ℕ, ◌+◌, ◌<◌, Bool, true, false, List, [], ◌∷◌, length, take, drop, slice_index_or, nat_lt, Some}
use Rattle.strm_codes.specs.declared.codes.StreamResult.TheVariants.{Completed}
use Rattle.strm_memory.specs.Bytes.{IsBytes}
use Rattle.strm_machine.specs.State.{State, no_guest, stream_at}
use Rattle.strm_laws.specs.Starts.{run_start}
use Rattle.strm_machine.specs.declared.steps.Step.{Step}
use Rattle.strm_machine.specs.declared.steps.Step.TheVariants as steps
use Rattle.strm_laws.specs.Conservation.{state_after_steps, moments, replies_of, got}
use Rattle.strm_carry_laws.specs.OneStream.{carried_type, bytes_as_items, dumped, AreSettled}

-- both guests and the stream are made
abbrev pub carry_made : State
carry_made =
    state_after_steps run_start
    (steps.Guest 64 ∷ steps.Guest 64 ∷ steps.Between 0 1 carried_type ∷ [])

-- both ends are at rest, with these memories, after so many bytes
abbrev pub rests : List ℕ → List ℕ → ℕ → State
rests m0 m1 n = record carry_made {
  guests = (record (slice_index_or carry_made.guests 0 no_guest) { memory = m0 })
      ∷ (record (slice_index_or carry_made.guests 1 no_guest) { memory = m1 }) ∷ [];
  streams = (record (stream_at carry_made 0) { received = n }) ∷ [];
}

-- a write that waits, whose next byte of so many left lies at this address, after so many were moved
abbrev pub serving : List ℕ → List ℕ → ℕ → ℕ → ℕ → ℕ → Bool → State
serving m0 m1 n a j i met =
    let state = rests m0 m1 n in
    let s = stream_at state 0 in
    record state {
      streams = (record s {
        writer = record s.writer {
          operation = Some (record {
            guest = 0;
            address = a;
            left = j;
            moved = i;
            is_open = nat_lt 0 j;
            met = met;
            asked = false;
            outcome = Completed;
          });
        };
      }) ∷ [];
    }

-- a run from one state to another, in which these bytes are got, and these are dumped
pub record Runs (from to : State) (run : List Step) (taken told : List ℕ) : Type 0 where
  pub ends : state_after_steps from run ≡ to
  pub gets : got 0 (moments from run) ≡ bytes_as_items taken
  pub dumps : dumped (replies_of (moments from run)) ≡ told
  pub settles : AreSettled (replies_of (moments from run))

-- a run that gets, and dumps, all that a write has left, after which that has moved all
pub record Drains (m0 m1 : List ℕ) (n a j i : ℕ) (met : Bool) (run : List Step) : Type 0 where
  pub memory : List ℕ
  pub address : ℕ
  pub met_then : Bool
  pub long : length memory ≡ 64
  pub met_kept : met ≡ true → met_then ≡ true
  pub met_is : 0 < j → met_then ≡ true
  pub runs : Runs (serving m0 m1 n a j i met)
      (serving m0 memory (n + j) address 0 (i + j) met_then) run
      (take j (drop a m0)) (take j (drop a m0))

-- a run from rest to rest, that gets and dumps these bytes
pub record Brings (m0 m1 : List ℕ) (n : ℕ) (brought : List ℕ) (run : List Step) : Type 0 where
  pub writer : List ℕ
  pub reader : List ℕ
  pub are_bytes : IsBytes writer
  pub long : length writer ≡ 64
  pub long_too : length reader ≡ 64
  pub runs : Runs (rests m0 m1 n) (rests writer reader (n + length brought)) run brought brought
