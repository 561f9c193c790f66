use Rattle.std.proofs.Common.{arith}
use Rattle.strm_mux.proofs.ScriptLemmas.{reads_more, reads_end}
use Rattle.strm_mux.proofs.scripts.push_reads.Goals as goal

pub reads-preserved : goal.reads-preserved
reads-preserved c = reads_more c.args.steps.now c.reads.steps _ c.args.read c.args.len c.reads.left c.min-count.result (omega arith) (omega (arith, c.reads-test.true)) c.min-count.ensures c.in_ok-push_read.ensures.ok c.reads.invariant

pub returns-clause-ok : goal.returns-clause-ok
returns-clause-ok c = reads_end c.args.steps.now c.reads.steps c.args.read c.args.len c.reads.left (omega (arith, c.reads-test.false)) c.reads.invariant
