use Rattle.strm_frames.proofs.MuxLemmas.{carries_none, mux_none}
use Rattle.strm_frames.proofs.muxes.Mux.new.Goals as goal

pub invariant_of-result : goal.invariant_of-result
invariant_of-result c = mux_none _ c.new.ensures.items c.no_ends.ensures

pub returns-clause-carries : goal.returns-clause-carries
returns-clause-carries c = carries_none _ c.new.ensures.items c.no_ends.ensures
