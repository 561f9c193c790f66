use Rattle.strm_transmit.proofs.NextLemmas.{reads_by}
use Rattle.strm_transmit.proofs.store.hosting.reads.Goals as goal

pub returns-then-is_of_kind : goal.returns-then-is_of_kind
returns-then-is_of_kind g c =
    reads_by c.args.stream.now _ c.args.number c.eq-is_of_payload.result (rw c.count_readers.ensures at c.if-number-count_readers.false)
    (rw (c.reader_kind.ensures, c.kind.ensures) at c.if-is_of_kind.ensures) (rw (c.reader_payload.ensures, c.payload.ensures) at c.eq-is_of_payload.ensures)
