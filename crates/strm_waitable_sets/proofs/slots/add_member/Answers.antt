use Rattle.std.proofs.Common.{sym}
use Rattle.strm_waitable_sets.proofs.TieLemmas.{flags-set}
use Rattle.strm_waitable_sets.proofs.slots.add_member.Goals as goal

pub returns-in-Some-clause-flags : goal.returns-in-Some-clause-flags
returns-in-Some-clause-flags c = flags-set c.args.slots.now.items c.args.set _ (sym c.requires.there)
