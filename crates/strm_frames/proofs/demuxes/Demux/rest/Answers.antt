use Rattle.std.proofs.Common.{arith}
use Rattle.strm_frames.proofs.CompletingLemmas.{part_few}
use Rattle.strm_frames.proofs.demuxes.Demux.rest.Goals as goal

pub returns-clause-few : goal.returns-clause-few
returns-clause-few c = omega (arith, part_few c.self.inside.rest.items c.self.invariant, c.len.ensures, c.self.inside.rest.ok.0)
