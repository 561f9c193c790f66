use Rattle.std.proofs.Common.{sym, ap, ◌∙◌, arith}
use Rattle.std.proofs.lemmas.Bool.{ltb-true}
use Rattle.strm_error_contexts.specs.Contexts.{is_context_there, context_count_at}
use Rattle.strm_error_contexts.proofs.HeldLemmas.{held_is_childless, held-counted, held-deleted}
use Rattle.strm_error_contexts.proofs.contexts.ErrorContexts.drop_handle.Goals as goal

pub invariant_of-self : goal.invariant_of-self
invariant_of-self c =
    let s = c.self.inside in
    let there = ap (λ v. is_context_there v c.args.number) c.self.view_is ∙ c.requires.there in
    rw c.lower_at.ensures (held-counted s.table.entries s.len c.self.invariant c.args.number there _ (omega (arith, ltb-true 1 _ (sym c.has_several.ensures ∙ c.if-has_several.true), ap (λ v. context_count_at v c.args.number) c.self.view_is)))

pub remove_at-requires-clause-lone : goal.remove_at-requires-clause-lone
remove_at-requires-clause-lone c = held_is_childless c.self.inside.table.entries c.self.inside.len c.self.invariant c.args.number

pub invariant_of-self-2 : goal.invariant_of-self-2
invariant_of-self-2 c =
    let s = c.self.inside in
    let there = ap (λ v. is_context_there v c.args.number) c.self.view_is ∙ c.requires.there in
    rw c.remove_at.ensures (held-deleted s.table.entries s.len c.self.invariant c.args.number there)
