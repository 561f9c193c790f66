use Rattle.strm_chain.proofs.StageLemmas.{Taken}
use Rattle.strm_chain.proofs.stages.Work.go_on_by_bytes.Given as goal

abbrev pub invariant-loop-byte : goal.invariant-loop-byte
invariant-loop-byte l = Taken l.fn.self l.fn.out l.bytes l.byte-index l.self l.out
