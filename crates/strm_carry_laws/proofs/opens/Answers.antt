use Rattle.std.proofs.Common.{◌<◌, ◌≤◌, ◌+◌, ◌*◌, length, refl, arith}
use Rattle.std.proofs.lemmas.Bool.{le-ltb, lt-ltb, lt-leb}
use Rattle.strm_machine.specs.Reactions.{reaction, performs}
use Rattle.strm_machine.specs.Refusals.{refusal}
use Rattle.strm_machine.specs.Operating.{operate}
use Rattle.strm_machine.specs.Making.{with_stream}
use Rattle.strm_carry_laws.proofs.opens.Goals as goal

pub returns : goal.returns
unfolding reaction performs refusal operate with_stream
returns c = λ m0 m1 n k h p l.
    let few : k < 268435456 = omega arith in
    let fits : 0 + 1 * k ≤ length m0 = omega arith in
    rw (lt-leb 268435456 k few, lt-ltb 0 k p, le-ltb (length m0) (0 + 1 * k) fits) refl
