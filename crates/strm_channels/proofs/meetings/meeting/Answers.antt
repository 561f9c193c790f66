use Rattle.std.proofs.Common.{rules}
use Rattle.strm_channels.proofs.meetings.meeting.Goals as goal

pub returns-then-equals_u32-2 : goal.returns-then-equals_u32-2
returns-then-equals_u32-2 c = search rules

pub returns-else-equals_u32-2 : goal.returns-else-equals_u32-2
returns-else-equals_u32-2 c = search rules
