use Rattle.std.proofs.Common.{◌≡◌, ◌∷◌, [], Some, ap, sym, subst, ◌∙◌, rules}
use Rattle.atomic_table.specs.Table.{rest}
use Rattle.strm_shared.specs.Plays.{IsTurn, Seated}
use Rattle.strm_shared.proofs.RuleLemmas.{pass_keeps}
use Rattle.strm_shared.proofs.store.SharedStore.leave.Goals as goal

pub returns-clause-recalls : goal.returns-clause-recalls
returns-clause-recalls g c =
    let e = c.exchange.ensures.3 in
    let has : c.exchange.new.seat.me.1 ≡ (0, Some c.args.desk) ∷ [] = ap (λ (x : Seated). x.1) e ∙ ap (λ l. (0, Some c.args.desk) ∷ rest l) c.requires.turn.1 in
    (c.fetch_add.ensures.2 c.args.desk has).1

pub fetch_add-requires : goal.fetch_add-requires
fetch_add-requires g c =
    let e = c.exchange.ensures.3 in let turn = c.requires.turn in let m : Seated = c.exchange.new.seat.me in
    let has : m.1 ≡ (0, Some c.args.desk) ∷ [] = ap (λ (x : Seated). x.1) e ∙ ap (λ l. (0, Some c.args.desk) ∷ rest l) turn.1 in (
      search rules,
      search rules,
      pass_keeps c.args.self.now.table.shared.key _ _ m c.args.desk c.args.self.now.sized.1 (ap (λ (x : Seated). x.0.limits) e ∙ c.requires.limits) (ap (λ (x : Seated). x.0.holds) e ∙ turn.0) has (subst (λ (x : Seated). IsTurn x.0 c.args.desk) (sym e) turn.2),
    )
