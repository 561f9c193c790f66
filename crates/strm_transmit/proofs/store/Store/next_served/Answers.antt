use Rattle.std.proofs.Common.{◌+◌, arith}
use Rattle.strm_transmit.proofs.NextLemmas.{next_none, next_both, next_first, next_of_all}
use Rattle.strm_transmit.proofs.store.Store.next_served.Goals as goal

pub loop-number-init : goal.loop-number-init
loop-number-init g c = next_none c.args.self.now c.args.from

pub loop-number-preserved : goal.loop-number-preserved
loop-number-preserved g c =
    rw (c.next_of-least.ensures, c.next_of-of_writers.ensures, c.writer_duty.ensures, c.reader_duty.ensures)
    (next_both c.args.self.now c.args.from c.loop-number.number _ c.loop-number.invariant)

pub returns-clause-next : goal.returns-clause-next
returns-clause-next g c =
    next_of_all c.args.self.now _ (rw (← c.self.view_is) c.self.invariant.served) c.requires.fits c.args.from c.max-most.result c.loop-number.number _
    (omega (arith, c.count_writers.ensures, c.max-most.ensures)) (omega (arith, c.count_readers.ensures, c.max-most.ensures)) (omega (arith, c.min-number-end.ensures, c.loop-number-test.false)) c.loop-number.invariant

pub returns-then-is_least-clause-next : goal.returns-then-is_least-clause-next
returns-then-is_least-clause-next g c =
    next_first c.args.self.now c.args.from (c.loop-number.number + 1) _ (c.is_least.ensures c.if-is_least.true)
    (rw (c.next_of-least.ensures, c.next_of-of_writers.ensures, c.writer_duty.ensures, c.reader_duty.ensures)
    (next_both c.args.self.now c.args.from c.loop-number.number _ c.loop-number.invariant))
