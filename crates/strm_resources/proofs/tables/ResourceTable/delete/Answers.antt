use Rattle.std.proofs.Common.{rules}
use Rattle.strm_resources.proofs.TableLemmas.{alike-deleted}
use Rattle.strm_resources.proofs.tables.ResourceTable.delete.Goals as goal

pub invariant_of-self : goal.invariant_of-self
invariant_of-self g c =
    let t = c.self.inside in
    rw (c.remove.ensures.nodes, c.take.ensures.after) (alike-deleted t.values.items t.links.nodes c.self.invariant c.rep-number.result)

pub returns-in_err-get-clause-refused : goal.returns-in_err-get-clause-refused
returns-in_err-get-clause-refused g c = search rules

pub remove-requires-clause-childless : goal.remove-requires-clause-childless
remove-requires-clause-childless g c = search rules

pub returns-clause-refused : goal.returns-clause-refused
returns-clause-refused g c = search rules
