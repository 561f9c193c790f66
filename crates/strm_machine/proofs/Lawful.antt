-- What one step hands to the laws: for each end of each stream one change, and what holds of the state after it.
use Rattle.std.proofs.Common.{◌≡◌, ℕ, ◌+◌, ◌^◌, ◌<◌, ◌≤◌, false, length}
use Rattle.std.specs.Prelude.{All, IsSome}
use Rattle.strm_memory.specs.Bytes.{IsBytes}
use Rattle.strm_machine.specs.Words.{State, stream_at, IsSound, Reaction, Side, Act, Moment, received, got_in, both_open}
use Rattle.strm_machine.proofs.Changes.{scene, Change}
use Rattle.strm_machine.proofs.TallyLemmas.{Tallies}

-- what the laws need of a state: what it keeps by itself, memories of bytes, no two open sides, and
-- futures that pass one item
pub record IsLawful (state : State) : Type 0 where
  pub sound : IsSound state
  pub bytes : All (λ g. IsBytes g.memory) state.guests
  pub apart : (s : ℕ) → both_open (stream_at state s) ≡ false
  pub tallies : (s : ℕ) → Tallies (stream_at state s)

-- the same, as far as it is seen of one stream
pub record IsLawfulAt (state : State) (s : ℕ) : Type 0 where
  pub bytes : All (λ g. IsBytes g.memory) state.guests
  pub apart : both_open (stream_at state s) ≡ false
  pub tallies : Tallies (stream_at state s)

-- a count that has room for the items of one more step
abbrev pub HasRoom : State → Type 0
HasRoom state = (s : ℕ) → received s state + 2 ^ 28 < 2 ^ 128

-- the moment of an act and what it does
abbrev pub as_moment : State → Act → Reaction → Moment
as_moment state act r = record { act = act; before = state; reply = r.reply; after = r.state }

-- a stream that was made has its kind
pub record StaysMade (s : ℕ) (before after : State) : Type 0 where
  pub there : s < length after.streams
  pub kind : (stream_at after s).kind ≡ (stream_at before s).kind

-- what is known of what an act does
pub record Reacts (state : State) (act : Act) (r : Reaction) : Type 0 where
  pub change : (s : ℕ) (side : Side) → Change side (scene s side (as_moment state act r))
  pub made : (s : ℕ) → s < length state.streams → StaysMade s state r.state
  pub whole : (s : ℕ) → All IsSome (got_in s (as_moment state act r))
  pub most : (s : ℕ) → received s r.state ≤ received s state + 2 ^ 28
  pub lawful : IsLawful r.state
