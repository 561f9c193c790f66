use Rattle.std.proofs.Common.{◌++◌, ◌∷◌, [], Some, ◌∙◌, sym, ap₂, subst}
use Rattle.atomic_table.specs.Table.{opening}
use Rattle.strm_shared.specs.Plays.{first_view}
use Rattle.strm_shared.specs.Rules.{Orderly}
use Rattle.strm_shared.proofs.RuleLemmas.{opens}
use Rattle.strm_shared.proofs.store.SharedStore.open.Goals as goal

pub new-requires-2 : goal.new-requires-2
new-requires-2 c =
    let same = c.push_reserved.ensures.items ∙ ap₂ (λ slots desk. slots ++ Some desk ∷ []) c.in-Ok.ensures.items c.in-Ok-new.ensures in
    subst (λ slots. Orderly c.args.limits (opening (0 ∷ 0 ∷ 1 ∷ []) slots (first_view c.args.limits))) (sym same) (opens c.args.limits)
