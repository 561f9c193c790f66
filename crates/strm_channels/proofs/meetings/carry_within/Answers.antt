use Rattle.strm_channels.proofs.CarryingLemmas.{within_ok}
use Rattle.strm_channels.proofs.meetings.carry_within.Goals as goal

pub returns-clause-carried : goal.returns-clause-carried
returns-clause-carried c =
    within_ok _ _ _ c.args.payload c.args.write.now c.args.read.now c.args.count _ _ c.requires.same
    (record { was = c.take_memory-memory.ensures.memory; out = c.take_memory-memory.ensures.rest; back = c.put_memory.ensures.guests })
    c.move_within.ensures
