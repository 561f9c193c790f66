use Rattle.std.proofs.Common.{arith}
use Rattle.std.proofs.lemmas.Option.{slice_get-get_or}
use Rattle.strm_tape_runs.proofs.SameLemmas.{behind_more, apart_at}
use Rattle.strm_tape_runs.proofs.differing.reader_difference.Goals as goal

pub loop-at-preserved : goal.loop-at-preserved
loop-at-preserved g c =
    behind_more _ _ c.args.from c.loop-at.at _ (c.is_reader_record.ensures.0 c.if-not-is_reader_record.false)
    (slice_get-get_or c.args.said.now c.loop-at.at _ (omega (arith, c.loop-at-test.true, c.min-both.ensures))) c.loop-at.invariant

pub returns-else-added-said-clause-differ : goal.returns-else-added-said-clause-differ
returns-else-added-said-clause-differ g c =
    apart_at _ c.args.said.now c.args.from c.reader_records.result c.loop-at.at c.min-both.result c.reader_records.ensures
    (omega (arith, c.loop-at-test.false, c.loop-at.auto.at-end)) c.if-added-said.false c.min-both.ensures c.loop-at.invariant
