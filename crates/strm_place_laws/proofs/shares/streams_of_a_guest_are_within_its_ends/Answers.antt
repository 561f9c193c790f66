-- Streams that a guest is at, and its handles.
use Rattle.strm_place_laws.proofs.ShareLemmas.{streams_of_guest}
use Rattle.strm_place_laws.proofs.shares.streams_of_a_guest_are_within_its_ends.Goals as goal

pub returns : goal.returns
returns c state guest hold = streams_of_guest state hold guest
