-- The making of a stream whose number may have been another stream's, which is gone. All else is the
-- machine's: only a making chooses a number. wasmtime, `ResourceTable::push`, which gives a free number
-- again; ours: which of them is given is left open.
use Rattle.std.specs.Prelude.{◌≡◌, ℕ, ◌<◌, Bool, true, false, if◌then◌else◌, List, [], ◌∷◌, ◌++◌, length, nat_lt, slice_index_or, slice_set, Option, Some, None}
use Rattle.strm_codes.specs.declared.codes.TransmitIndex.{TransmitIndex}
use Rattle.strm_codes.specs.declared.refusals.Refusal.{Refusal}
use Rattle.strm_machine.specs.State.{State, no_stream, is_live}
use Rattle.strm_machine.specs.Making.{with_ends, made_stream, made_pair}
use Rattle.strm_machine.specs.Refusals.{refusal}
use Rattle.strm_machine.specs.Reactions.{Reaction, goes, performs}
use Rattle.strm_machine.specs.Acts.{act_of}
use Rattle.strm_machine.specs.declared.acts.Making.TheVariants.{Between}
use Rattle.strm_machine.specs.declared.acts.Act.{Act}
use Rattle.strm_machine.specs.declared.acts.Act.TheVariants.{Make}
use Rattle.strm_machine.specs.declared.steps.Step.{Step}
use Rattle.strm_machine.specs.declared.streams.Stream.{Stream}
use Rattle.strm_machine.specs.declared.replies.Pair.{Pair}
use Rattle.strm_machine.specs.declared.replies.Reply.TheVariants as replies

-- a number that a stream may get: the one behind the last, or that of a stream both of whose ends are
-- gone
pub data IsFree (streams : List Stream) (n : ℕ) : Type 0 where
  Behind : n ≡ length streams → IsFree streams n
  Again : n < length streams → is_live (slice_index_or streams n no_stream) ≡ false → IsFree streams n

-- the streams with this one in the place of a number, where there is one, and else behind the last
unfoldable pub put : List Stream → ℕ → Stream → List Stream
put streams n stream =
    if nat_lt n (length streams) then slice_set streams n stream else streams ++ stream ∷ []

-- the handles of the two ends, which are those of any making, and this number of the stream
abbrev pub made_pair_at : State → ℕ → ℕ → ℕ → TransmitIndex → Pair
made_pair_at state n writer reader ty = record (made_pair state writer reader ty) { stream = n }

-- the state with a stream of this number between two guests
unfoldable pub with_pair_at : State → ℕ → ℕ → ℕ → TransmitIndex → State
with_pair_at state n writer reader ty =
    let pair = made_pair state writer reader ty in
    record state {
      guests = with_ends state.guests writer reader ty n;
      streams = put state.streams n (made_stream ty writer pair.write reader pair.read);
    }

-- a step that makes a stream, where nothing refuses it
abbrev pub is_making : Act → Bool
is_making (Make (Between writer reader ty)) = true
is_making act = false

-- what a step does where nothing refuses it, a stream that it makes getting this number
unfoldable pub performs_at : ℕ → State → Act → Reaction
performs_at n state (Make (Between writer reader ty)) =
    goes (replies.Pair (made_pair_at state n writer reader ty)) (with_pair_at state n writer reader ty)
performs_at n state act = performs state act

-- a refused step changes nothing
abbrev pub unless_refused_at : ℕ → State → Act → Option Refusal → Reaction
unless_refused_at n state act (Some r) = goes (replies.Refused r) state
unless_refused_at n state act None = performs_at n state act

-- what a step does then; it is refused where the machine refuses it
unfoldable pub reaction_at : ℕ → State → Act → Reaction
reaction_at n state act =
    if state.trapped
    then goes replies.StoreTrapped state
    else unless_refused_at n state act (refusal state act)

-- one step, a stream that it makes getting this number
abbrev pub reacts_at : ℕ → State → Step → Reaction
reacts_at n state step = reaction_at n state (act_of step)
