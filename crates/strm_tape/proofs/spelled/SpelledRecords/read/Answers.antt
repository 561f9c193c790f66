use Rattle.strm_tape.proofs.SpelledLemmas.{front_of}
use Rattle.strm_tape.proofs.spelled.SpelledRecords.read.Goals as goal

pub overflow_sub-bytes : goal.overflow_sub-bytes
overflow_sub-bytes c = (front_of c.args.payload.now c.args.count c.args.bytes.now c.in-Some.rest.now c.are_bytes.ensures (rw c.in-Some.is at c.in_ok-rest.ensures)).short

pub invariant_of-result : goal.invariant_of-result
invariant_of-result c =
    rw (c.in_ok-bytes.ensures, c.split_at.ensures.front) (front_of c.args.payload.now c.args.count c.args.bytes.now c.in-Some.rest.now c.are_bytes.ensures (rw c.in-Some.is at c.in_ok-rest.ensures)).spelled

pub returns-clause-said : goal.returns-clause-said
returns-clause-said c =
    rw (c.in_ok-bytes.ensures, c.split_at.ensures.front) (front_of c.args.payload.now c.args.count c.args.bytes.now c.in-Some.rest.now c.are_bytes.ensures (rw c.in-Some.is at c.in_ok-rest.ensures)).is
