use Rattle.std.proofs.Common.{◌∙◌, sym}
use Rattle.strm_resources.proofs.TableLemmas.{alike_at}
use Rattle.strm_resources.proofs.tables.ResourceTable.contains.Goals as goal

pub returns-clause-value : goal.returns-clause-value
returns-clause-value g c =
    let t = c.self.inside in
    rw (← c.self.view_is) (c.contains.ensures ∙ sym (alike_at t.values.items t.links.nodes c.self.invariant c.args.number))
