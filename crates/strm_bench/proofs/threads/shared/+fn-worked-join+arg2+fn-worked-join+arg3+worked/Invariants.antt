use Rattle.strm_bench.proofs.threads.shared.+fn-worked-join+arg2+fn-worked-join+arg3+worked.Given as goal

abbrev pub decreases-join+arg2 : goal.decreases-join+arg2
decreases-join+arg2 g l = l.half

abbrev pub decreases-join+arg3 : goal.decreases-join+arg3
decreases-join+arg3 g l = l.rest

abbrev pub decreases-worked : goal.decreases-worked
decreases-worked g l = l.threads
