use Rattle.std.proofs.Common.{rules, ◌∙◌, sym}
use Rattle.strm_resources.proofs.TableLemmas.{alike-unlinked}
use Rattle.strm_resources.proofs.tables.ResourceTable.remove_child.Goals as goal

pub invariant_of-self : goal.invariant_of-self
invariant_of-self g c =
    rw c.unlink.ensures.nodes (c.self.invariant ∙ sym (alike-unlinked c.self.inside.links.nodes c.rep-child.result c.rep-parent.result))

pub returns-in_default-clause-refused : goal.returns-in_default-clause-refused
returns-in_default-clause-refused g c = search rules

pub returns-in_default-clause-takes_no_memory : goal.returns-in_default-clause-takes_no_memory
returns-in_default-clause-takes_no_memory g c = search rules

pub returns-in_default-2-clause-refused : goal.returns-in_default-2-clause-refused
returns-in_default-2-clause-refused g c = search rules

pub returns-in_default-2-clause-takes_no_memory : goal.returns-in_default-2-clause-takes_no_memory
returns-in_default-2-clause-takes_no_memory g c = search rules
