use Rattle.std.proofs.Common.{refl, arith}
use Rattle.strm_frames.proofs.MuxLemmas.{carries_end, mux_end}
use Rattle.strm_frames.proofs.muxes.Mux.end.Goals as goal

pub invariant_of-self : goal.invariant_of-self
invariant_of-self c = mux_end _ _ c.args.lane (omega arith) c.self.told c.if-self-lane.false c.in-Ok.ensures.items refl c.self.invariant

pub returns-in-Ok-clause-carries : goal.returns-in-Ok-clause-carries
returns-in-Ok-clause-carries c = λ given d.
    carries_end _ _ given c.args.lane (omega arith) c.self.told c.if-self-lane.false c.in-Ok.ensures.items refl (rw (← c.self.view_is) at d)
