use Rattle.strm_mux.proofs.ScriptLemmas.{ReadsSoFar}
use Rattle.strm_mux.proofs.scripts.push_reads.Given as goal

abbrev pub invariant-reads : goal.invariant-reads
invariant-reads l = ReadsSoFar l.initial.steps l.steps l.read l.len l.left

abbrev pub decreases-reads : goal.decreases-reads
decreases-reads l = l.left
