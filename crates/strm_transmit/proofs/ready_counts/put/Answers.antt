-- One end after the other is counted again.
use Rattle.std.proofs.Common.{arith}
use Rattle.strm_transmit.proofs.ReadyGuestLemmas.{few-recounted}
use Rattle.strm_transmit.proofs.ready_counts.put.Goals as goal

pub recount_end-requires-clause-few : goal.recount_end-requires-clause-few
recount_end-requires-clause-few c = λ g. omega (arith, c.requires.few g)

pub recount_end-requires-2-clause-few : goal.recount_end-requires-2-clause-few
recount_end-requires-2-clause-few c =
    few-recounted c.args.counts.now c.recount_end.new.counts c.index.result.now.counted.writing c.ready_by-is.result.writing c.recount_end.ensures.all c.recount_end.ensures.counts
    c.requires.few
