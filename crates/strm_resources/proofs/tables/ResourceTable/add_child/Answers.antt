use Rattle.std.proofs.Common.{rules, ◌∙◌, sym}
use Rattle.strm_resources.proofs.TableLemmas.{alike-linked}
use Rattle.strm_resources.proofs.tables.ResourceTable.add_child.Goals as goal

pub invariant_of-self-2 : goal.invariant_of-self-2
invariant_of-self-2 g c =
    rw c.in_ok-link.ensures.nodes (c.self.invariant ∙ sym (alike-linked c.self.inside.links.nodes c.rep-child.result c.rep-parent.result))

pub returns-then-not-contains-2-clause-refused : goal.returns-then-not-contains-2-clause-refused
returns-then-not-contains-2-clause-refused g c = search rules
