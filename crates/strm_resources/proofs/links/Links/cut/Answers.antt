use Rattle.std.proofs.Common.{rules}
use Rattle.strm_resources.proofs.links.Links.cut.Goals as goal

pub returns-in-Some-clause-nodes : goal.returns-in-Some-clause-nodes
returns-in-Some-clause-nodes c = search rules
