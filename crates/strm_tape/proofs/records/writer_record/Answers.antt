use Rattle.std.proofs.Common.{sym}
use Rattle.strm_tape.proofs.ManyLemmas.{record_read}
use Rattle.strm_tape.proofs.records.writer_record.Goals as goal

pub returns : goal.returns
returns c =
    record_read c.args.payload c.args.bytes.now c.in-Some.rest.now c.in-Some-flag.rest.now c.in-Some-2.rest.now c.in-Some-answer.rest.now c.in-Some.room c.in-Some-flag.finish c.in-Some-2.items c.in-Some-answer.answer
    (sym c.in-Some.ensures) (sym c.in-Some-flag.ensures) (sym (rw c.in-Some-2.is at c.in_ok-items.ensures)) (sym c.in-Some-answer.ensures)
