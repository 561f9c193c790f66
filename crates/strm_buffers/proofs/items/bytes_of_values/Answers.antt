use Rattle.std.proofs.Common.{refl, subst}
use Rattle.strm_memory.specs.Bytes.{IsBytes}
use Rattle.strm_buffers.proofs.ListingLemmas.{bytes_stored}
use Rattle.strm_buffers.proofs.items.bytes_of_values.Goals as goal

pub returns-in-Some-clause-stored : goal.returns-in-Some-clause-stored
returns-in-Some-clause-stored g c =
    rw (c.in-Some.ensures.payload.0 refl, c.in-Some.ensures.bytes) (bytes_stored c.in-Some.bytes.items (subst IsBytes c.deref.ensures.value c.are_bytes.ensures))
