-- Streams and handles.
use Rattle.strm_place_laws.proofs.ShareLemmas.{streams_within}
use Rattle.strm_place_laws.proofs.shares.streams_are_within_handles.Goals as goal

pub returns : goal.returns
returns c state hold none = streams_within state hold none
