-- Lanes that came over a stream. Ours.
use Rattle.std.specs.Prelude.{◌≡◌, ℕ, ◌<◌, ◌≤◌, false, List, [], ◌∷◌, length, slice_index_or}
use Rattle.strm_laws.specs.Conservation.{got, moments, state_after_steps}
use Rattle.strm_machine.specs.Moments.{received}
use Rattle.strm_laws.specs.Starts.{run_start}
use Rattle.strm_machine.specs.Plays.{play, Ends}
use Rattle.strm_machine.specs.declared.replies.Reply.{Reply}
use Rattle.strm_machine.specs.declared.steps.Step.{Step}
use Rattle.strm_carry_laws.specs.OneStream.{script_of, bytes_as_items}
use Rattle.strm_frames.specs.Frames.{Frame, lane_in, ends}
use Rattle.strm_frames.specs.Demuxes.{LanesHeard}

-- each lane has just what was given to it, and has ended where it was ended; nothing is left over
pub record DeliversFrames (heard : LanesHeard) (given : List Frame) : Type 0 where
  pub lanes : (lane : ℕ) → lane < 256 → slice_index_or heard.lanes lane [] ≡ lane_in lane given
  pub ended : (lane : ℕ) → lane < 256 → slice_index_or heard.ended lane false ≡ ends lane given
  pub rest : heard.rest ≡ []

-- bytes were carried in pieces of these sizes: by the steps of such a carry, with the replies of the machine's play,
-- with no host ends; what the stream got is these bytes, in order, and as many were received
pub record AreCarried (write read : ℕ) (bytes : List ℕ) (made : List Step)
    (told : List Reply) (moved : ℕ) : Type 0 where
  pub steps : made ≡ script_of write read bytes
  pub played : play [] run_start made ≡ Ends told (state_after_steps run_start made)
  pub got_is : got 0 (moments run_start made) ≡ bytes_as_items bytes
  pub moved_is : moved ≡ received 0 (state_after_steps run_start made)
  pub whole : moved ≡ length bytes

-- one stream received so many items, which are few
abbrev pub IsOneCount : List ℕ → Type 0
IsOneCount [] = ⊥
IsOneCount (count ∷ []) = count ≤ 1048576
IsOneCount (count ∷ other ∷ more) = ⊥
