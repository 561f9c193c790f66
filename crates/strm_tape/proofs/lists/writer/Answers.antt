use Rattle.std.proofs.Common.{sym}
use Rattle.strm_tape.proofs.TapeLemmas.{writer_read}
use Rattle.strm_tape.proofs.lists.writer.Goals as goal

pub returns : goal.returns
returns c =
    writer_read c.args.bytes.now c.in-Some.rest.now c.in-Some-number.rest.now c.in-Some-2.behind.now c.in-Some.ty c.payload.result c.in-Some-number.count c.in-Some-2.records.said
    (sym c.in-Some.ensures) (sym c.in-Some-number.ensures) c.payload.ensures (sym (rw c.in-Some-2.is at c.in_ok-records.ensures.said))
