use Rattle.std.proofs.Common.{rules, ap, ◌∙◌, ◌∷◌, Some, sym}
use Rattle.atomic_table.specs.Table.{rest}
use Rattle.strm_shared.specs.Plays.{Seated}
use Rattle.strm_shared.proofs.RuleLemmas.{wait_keeps}
use Rattle.strm_shared.proofs.store.SharedStore.look_at_turn.Goals as goal

pub load-requires : goal.load-requires
load-requires c =
    let q = c.requires.queues in (
      search rules,
      search rules,
      wait_keeps c.args.self.now.table.shared.key _ _ c.args.seat.now.me c.args.ticket c.args.self.now.sized.1 q.0 q.1 q.2 c.requires.limits,
    )

pub exchange-requires : goal.exchange-requires
exchange-requires c =
    let t = c.load.ensures.2.0 (c.requires.queues.0 ∙ ap Some (sym c.if-load-ticket.true)) in
    let held = ap (λ (m : Seated). m.1) t.1 in
    (search rules, (Some t.0, held ∙ ap (λ l. (0, Some t.0) ∷ rest l) (sym held)))
