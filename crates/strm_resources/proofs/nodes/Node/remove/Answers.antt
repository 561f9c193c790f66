use Rattle.strm_resources.proofs.NodeLemmas.{from_list-taken}
use Rattle.strm_resources.proofs.nodes.Node.remove.Goals as goal

pub returns : goal.returns
returns c = rw (← c.self.view_is, from_list-taken c.self.inside.children c.remove.new.self c.args.child c.remove.ensures.updates)
