use Rattle.std.proofs.Common.{◌≡◌, true, false, not, Some, None, is_some, get_or, ap}
use Rattle.std.specs.Prelude.{if◌then◌else◌}
use Rattle.strm_resources.specs.declared.errors.ResourceTableError.TheVariants.{NotPresent}
use Rattle.strm_resources.proofs.TableLemmas.{alike_at}
use Rattle.strm_resources.proofs.tables.ResourceTable.iter_children.Goals as goal

pub returns-in-Some-clause-refused : goal.returns-in-Some-clause-refused
returns-in-Some-clause-refused g c =
    let t = c.self.inside in
    let there : true ≡ is_some (get_or t.values.items c.rep.result None) =
    rw (alike_at t.values.items t.links.nodes c.self.invariant c.rep.result) c.in-Some.ensures.some in
    rw (← c.self.view_is, ← c.rep.ensures) (ap (λ b. if not b then Some NotPresent else None) there)

pub returns-in-None-clause-refused : goal.returns-in-None-clause-refused
returns-in-None-clause-refused g c =
    let t = c.self.inside in
    let gone : false ≡ is_some (get_or t.values.items c.rep.result None) =
    rw (alike_at t.values.items t.links.nodes c.self.invariant c.rep.result) c.in-None.ensures.some in
    rw (← c.self.view_is, ← c.rep.ensures) (ap (λ b. if not b then Some NotPresent else None) gone)
