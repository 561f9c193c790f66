use Rattle.std.proofs.Common.{rules}
use Rattle.strm_waitable_sets.specs.Homes.{homes_from}
use Rattle.strm_waitable_sets.proofs.sets.WaitableSets.new.Goals as goal

pub returns : goal.returns
unfolding homes_from
returns c = search rules
