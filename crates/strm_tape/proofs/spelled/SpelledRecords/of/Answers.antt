use Rattle.std.proofs.Common.{length, refl, sym}
use Rattle.strm_tape.proofs.SpelledLemmas.{spelled_by}
use Rattle.strm_tape.proofs.spelled.SpelledRecords.of.Goals as goal

pub invariant_of-result : goal.invariant_of-result
invariant_of-result c =
    (spelled_by c.args.payload.now (length c.args.said.now) c.in_ok-bytes.bytes c.args.said.now (record { are = sym c.in_ok-bytes.ensures; count = refl; each = c.requires.each })).1

pub returns-clause-said : goal.returns-clause-said
returns-clause-said c =
    (spelled_by c.args.payload.now (length c.args.said.now) c.in_ok-bytes.bytes c.args.said.now (record { are = sym c.in_ok-bytes.ensures; count = refl; each = c.requires.each })).0
