use Rattle.strm_chain.proofs.StageLemmas.{none_taken, more_taken}
use Rattle.strm_chain.proofs.stages.Work.go_on_by_bytes.Goals as goal

pub loop-byte-init : goal.loop-byte-init
loop-byte-init c = none_taken c.args.self.now c.args.out.now c.args.bytes.now

pub loop-byte-preserved : goal.loop-byte-preserved
loop-byte-preserved c =
    more_taken c.args.self.now c.args.out.now c.args.bytes.now c.loop-byte.byte-index 0 c.loop-byte.self _ c.loop-byte.out _
    c.loop-byte-test.true c.loop-byte.invariant c.take.ensures c.in_ok-put.ensures
