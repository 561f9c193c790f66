use Rattle.std.proofs.Common.{◌∙◌, sym}
use Rattle.strm_resources.proofs.NumberLemmas.{numbers-alike}
use Rattle.strm_resources.proofs.tables.ResourceTable.keys.Goals as goal

pub returns-clause-exact : goal.returns-clause-exact
returns-clause-exact g c =
    let t = c.self.inside in
    rw (← c.self.view_is) (c.keys.ensures.exact ∙ sym (numbers-alike 0 t.values.items t.links.nodes c.self.invariant))
