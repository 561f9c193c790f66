use Rattle.std.proofs.Common.{length}
use Rattle.std.specs.Bool.{one_answer}
use Rattle.std.specs.Cmp.{unsigned_Decides}
use Rattle.strm_resources.proofs.NodeLemmas.{childless-from_list}
use Rattle.strm_resources.proofs.nodes.Node.is_childless.Goals as goal

pub returns : goal.returns
returns c =
    rw (← c.self.view_is, childless-from_list) (one_answer _ _ c.is_empty.ensures (unsigned_Decides (length c.self.inside.children.keys) 0))
