use Rattle.std.proofs.Common.{refl}
use Rattle.strm_frames.proofs.DemuxLemmas.{nothing_part, fed_nothing, empties, unset}
use Rattle.strm_frames.proofs.demuxes.Demux.new.Goals as goal

pub invariant_of-result : goal.invariant_of-result
invariant_of-result c = rw c.new.ensures.items nothing_part

pub returns-clause-fed : goal.returns-clause-fed
returns-clause-fed c = fed_nothing _ (λ lane l. empties c.empty_lanes.result c.empty_lanes.ensures lane) (λ lane l. unset c.no_ends.result c.no_ends.ensures lane) c.new.ensures.items refl
