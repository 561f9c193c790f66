use Rattle.strm_waitable_sets.proofs.ReadyLemmas.{behind_place}
use Rattle.strm_waitable_sets.proofs.ready.find.Goals as goal

pub returns-clause-behind : goal.returns-clause-behind
returns-clause-behind c = behind_place c.args.handles.now c.above-place.result c.args.handle c.requires c.above-place.ensures.behind c.if-handles-place.false
