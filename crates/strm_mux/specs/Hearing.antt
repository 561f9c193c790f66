-- A demux that hears whole frames in pieces. Ours.
use Rattle.std.specs.Prelude.{◌≡◌, ℕ, List, ◌++◌, None}
use Rattle.strm_frames.specs.Streams.{AreWhole}
use Rattle.strm_frames.specs.Demuxes.{LanesHeard, IsDemuxFed}

-- what it heard, this piece and what is to come are whole frames
pub record HearsOn (heard : LanesHeard) (piece : List ℕ) : Type 0 where
  pub before : List ℕ
  pub more : List ℕ
  pub fed : IsDemuxFed heard before
  pub whole : AreWhole ((before ++ piece) ++ more)
  pub well : heard.fault ≡ None
