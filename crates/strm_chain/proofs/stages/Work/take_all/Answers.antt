use Rattle.std.proofs.Common.{arith}
use Rattle.strm_chain.proofs.StageLemmas.{work_left-at_once}
use Rattle.strm_chain.proofs.stages.Work.take_all.Goals as goal

pub returns : goal.returns
returns c = work_left-at_once c.args.self.now c.args.bytes.now c.add_all-sum.result c.saturating_sub-left.result c.add_all-sum.ensures (omega (arith, c.saturating_sub-left.ensures))
