use Rattle.std.proofs.Common.{rules}
use Rattle.strm_machine.specs.Operating.{operate}
use Rattle.strm_channels.proofs.meetings.meet_or_wait.Goals as goal

pub returns-in_default : goal.returns-in_default
unfolding operate
returns-in_default c = search rules
