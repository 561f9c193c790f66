use Rattle.std.proofs.Common.{ap, subst, ◌∙◌}
use Rattle.strm_shared.specs.Histories.{state_after, IsLegal}
use Rattle.strm_shared.proofs.ledger.Ledger.into_parts.Goals as goal

pub returns-clause-legal : goal.returns-clause-legal
returns-clause-legal c = subst (λ a. IsLegal a.limits a.log) c.self.view_is c.self.invariant.legal

pub returns-clause-parts : goal.returns-clause-parts
returns-clause-parts c = (
  c.into_store.ensures ∙ c.self.invariant.store_is ∙ ap (λ a. state_after a.limits a.log) c.self.view_is,
  ap (λ a. a.log) c.self.view_is,
)
