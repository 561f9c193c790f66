use Rattle.std.proofs.Common.{rules, ap, sym, subst, ◌∙◌}
use Rattle.strm_shared.specs.Plays.{Seated, RecallsAll, IsSeatApart}
use Rattle.strm_shared.specs.Tokens.{Token}
use Rattle.strm_shared.proofs.RuleLemmas.{join_keeps, recall_keeps}
use Rattle.strm_shared.proofs.JoinLemmas.{joins}
use Rattle.strm_shared.proofs.store.SharedStore.seat_join.Goals as goal

pub join_seat-requires : goal.join_seat-requires
join_seat-requires g c =
    let into = c.into.inside.inside in let from = c.from.inside.inside in
    (search rules, search rules, search rules, search rules, join_keeps c.args.self.now.table.shared.key into.id into.me.0 from.id from.me.0 c.into.invariant.0.free c.from.invariant.0.free)

pub load-requires : goal.load-requires
load-requires g c = (search rules, search rules, recall_keeps c.args.self.now.table.shared.key _ _ c.join_seat.new.seat.me)

pub returns-clause-joined : goal.returns-clause-joined
returns-clause-joined g c =
    let into = c.into.inside.inside in
    let from = c.from.inside.inside in
    let told = c.load.ensures.2 in
    let view = ap (λ (m : Seated). m.0) c.join_seat.ensures.2 in
    let limits = ap (λ (t : Token). t.limits) c.from.view_is ∙ (c.requires.from.1 ∙ (sym c.requires.into.1 ∙ sym (ap (λ (t : Token). t.limits) c.into.view_is))) in
    joins into.table_id from.table_id c.load.new.seat.table_id c.into.inside.number c.from.inside.number into.me.0 from.me.0 c.into.invariant.0 c.from.invariant.0
    c.args.into.now c.args.from c.load.new.seat.me.0 c.into.view_is c.from.view_is limits
    (ap (λ (m : Seated). m.0) told.0 ∙ view) (subst RecallsAll view told.1) (subst IsSeatApart view told.2)
