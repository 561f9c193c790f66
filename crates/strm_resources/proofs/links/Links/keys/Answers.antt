use Rattle.strm_resources.proofs.NumberLemmas.{numbers-ascending}
use Rattle.strm_resources.proofs.links.Links.keys.Goals as goal

pub returns-clause-ascending : goal.returns-clause-ascending
returns-clause-ascending c = numbers-ascending 0 c.as_slice.result.now
