use Rattle.std.proofs.lemmas.Map.Keys.{IsStrictlyIncreasing-from_sorted}
use Rattle.strm_resources.proofs.NodeLemmas.{is_among-from_list}
use Rattle.strm_resources.proofs.nodes.Node.children.Goals as goal

pub returns : goal.returns
returns c = rw (c.iter.ensures.rest, ← c.self.view_is) (record {
  ascending = IsStrictlyIncreasing-from_sorted c.self.inside.children.keys c.iter.ensures.ordered;
  same = is_among-from_list c.self.inside.children.keys;
})
