use Rattle.std.proofs.Common.{refl}
use Rattle.strm_machine.specs.Reactions.{reaction, performs}
use Rattle.strm_machine.specs.Refusals.{refusal}
use Rattle.strm_machine.specs.Operating.{operate}
use Rattle.strm_machine.specs.Making.{with_stream}
use Rattle.strm_machine.specs.Endings.{delivered}
use Rattle.strm_carry_laws.proofs.tells.Goals as goal

pub returns : goal.returns
unfolding reaction performs refusal operate with_stream delivered
returns c = λ m0 m1 n a i. refl
