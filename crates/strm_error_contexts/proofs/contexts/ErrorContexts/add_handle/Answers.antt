use Rattle.std.proofs.Common.{ap, ◌∙◌, arith}
use Rattle.strm_error_contexts.specs.Contexts.{is_context_there}
use Rattle.strm_error_contexts.proofs.HeldLemmas.{held-counted}
use Rattle.strm_error_contexts.proofs.contexts.ErrorContexts.add_handle.Goals as goal

pub invariant_of-self : goal.invariant_of-self
invariant_of-self c =
    let s = c.self.inside in
    let there = ap (λ v. is_context_there v c.args.number) c.self.view_is ∙ c.requires.there in
    rw c.raise_at.ensures (held-counted s.table.entries s.len c.self.invariant c.args.number there _ (omega arith))
