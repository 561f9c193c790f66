use Rattle.strm_resources.proofs.NodeLemmas.{from_list-added}
use Rattle.strm_resources.proofs.nodes.Node.add.Goals as goal

pub returns-clause-ok : goal.returns-clause-ok
returns-clause-ok c =
    rw (← c.self.view_is, from_list-added c.self.inside.children c.insert.new.self c.args.child c.in_ok-insert.ensures.updates)
