use Rattle.std.proofs.Common.{Some, ◌∙◌, sym}
use Rattle.strm_resources.proofs.TableLemmas.{alike-rewritten}
use Rattle.strm_resources.proofs.tables.ResourceTable.value_mut.Goals as goal

pub invariant_of-self-lent : goal.invariant_of-self-lent
invariant_of-self-lent g c = λ w.
    let t = c.self.inside in
    let there = rw (← c.self.view_is) at c.requires in
    alike-rewritten t.values.items c.args.number (Some w) (sym there) ∙ c.self.invariant
