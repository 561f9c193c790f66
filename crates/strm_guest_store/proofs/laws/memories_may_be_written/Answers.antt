-- Bytes of a memory are no part of what a store keeps.
use Rattle.strm_guest_store.proofs.AmongLemmas.{written_among}
use Rattle.strm_guest_store.proofs.laws.memories_may_be_written.Goals as goal

pub returns : goal.returns
returns c = written_among
