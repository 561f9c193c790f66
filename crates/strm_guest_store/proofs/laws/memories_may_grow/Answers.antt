-- Bytes behind the end of a memory are no part of what a store keeps.
use Rattle.strm_machine.proofs.GrowthLemmas.{bytes_at-grown}
use Rattle.strm_guest_store.proofs.AmongLemmas.{grown_among}
use Rattle.strm_guest_store.proofs.laws.memories_may_grow.Goals as goal

pub returns-clause-among : goal.returns-clause-among
returns-clause-among c = grown_among

pub returns-clause-regions : goal.returns-clause-regions
returns-clause-regions c = λ state guest other address count more there. bytes_at-grown state guest other address count more there.inside
