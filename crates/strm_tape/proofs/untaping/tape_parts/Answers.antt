use Rattle.std.proofs.Common.{sym}
use Rattle.strm_tape.proofs.TapeLemmas.{read_in_parts}
use Rattle.strm_tape.proofs.untaping.tape_parts.Goals as goal

pub invariant_of-result : goal.invariant_of-result
invariant_of-result c =
    read_in_parts c.args.bytes.now c.in-Some.rest.now c.in-Some-2.rest.now c.in-Some-3.rest.now
    c.in-Some.steps.items c.in-Some-2.writers.items c.in-Some-3.readers.items c.are_bytes.ensures
    (sym (rw c.in-Some.is at c.in_ok-steps.ensures))
    (sym (rw c.in-Some-2.is at c.in_ok-writers.ensures))
    (sym (rw c.in-Some-3.is at c.in_ok-readers.ensures))
