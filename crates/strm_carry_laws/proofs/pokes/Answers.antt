use Rattle.std.proofs.Common.{◌≤◌, ◌+◌, length, refl, arith}
use Rattle.std.proofs.lemmas.Bool.{le-ltb, lt-ltb}
use Rattle.strm_machine.specs.Reactions.{reaction, performs}
use Rattle.strm_machine.specs.Refusals.{refusal}
use Rattle.strm_machine.specs.Operating.{operate}
use Rattle.strm_machine.specs.Making.{with_stream}
use Rattle.strm_carry_laws.proofs.pokes.Goals as goal

pub returns : goal.returns
unfolding reaction performs refusal operate with_stream
returns c = λ m0 m1 p n h o l.
    let fits : 0 + length p ≤ length m0 = omega arith in
    rw (lt-ltb 0 (length p) o, le-ltb (length m0) (0 + length p) fits) refl
