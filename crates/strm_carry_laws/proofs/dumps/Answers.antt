use Rattle.std.proofs.Common.{◌≡◌, ◌<◌, ◌≤◌, ◌+◌, length, min, refl, arith}
use Rattle.std.proofs.lemmas.Bool.{le-ltb, lt-ltb}
use Rattle.strm_machine.specs.Reactions.{reaction, performs}
use Rattle.strm_machine.specs.Refusals.{refusal}
use Rattle.strm_machine.specs.Operating.{operate}
use Rattle.strm_machine.specs.Making.{with_stream}
use Rattle.strm_carry_laws.proofs.dumps.Goals as goal

pub returns : goal.returns
unfolding reaction performs refusal operate with_stream
returns c = λ m0 m1 n a j i k met h o l.
    let some : 0 < min k 64 = omega arith in
    let fits : 0 + min k 64 ≤ length m1 = omega arith in
    let least : min k 64 ≡ k = omega arith in
    rw (lt-ltb 0 (min k 64) some, le-ltb (length m1) (0 + min k 64) fits, least) refl
