use Rattle.std.proofs.Common.{refl, arith}
use Rattle.strm_frames.proofs.MuxLemmas.{carries_put, mux_put}
use Rattle.strm_frames.proofs.muxes.Mux.put.Goals as goal

pub invariant_of-self : goal.invariant_of-self
invariant_of-self c = mux_put _ _ c.args.lane c.args.bytes.now (omega arith) c.if-self-lane.false (c.push_frames.ensures.ok c.if-push_frames.true) refl c.self.invariant

pub returns-then-push_frames-clause-carries : goal.returns-then-push_frames-clause-carries
returns-then-push_frames-clause-carries c = λ given d.
    carries_put _ _ given c.args.lane c.args.bytes.now (omega arith) c.if-self-lane.false (c.push_frames.ensures.ok c.if-push_frames.true) refl (rw (← c.self.view_is) at d)
