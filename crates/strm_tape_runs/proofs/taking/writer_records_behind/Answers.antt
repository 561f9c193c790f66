use Rattle.strm_tape_runs.proofs.ZipLemmas.{behind_next}
use Rattle.strm_tape_runs.proofs.taking.writer_records_behind.Goals as goal

pub loop-k-preserved : goal.loop-k-preserved
loop-k-preserved g c =
    (behind_next _ c.args.mark.now.records c.loop-k.k c.loop-k.records.items c.push_writer_record.new.records.items c.in_ok-push_writer_record.ensures.next c.loop-k.invariant.0, c.in_ok-push_writer_record.ensures.each)
