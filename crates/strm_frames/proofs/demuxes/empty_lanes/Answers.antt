use Rattle.std.proofs.Common.{◌<◌, subst, ℕ}
use Rattle.strm_frames.proofs.demuxes.empty_lanes.Goals as goal

pub returns : goal.returns
returns c = λ i d b. let h = c.from_fn.ensures.items.at i d (let P : ℕ → Type 0 = λ n. i < n in subst P c.from_fn.ensures.items.long b) in h.2.met.1
