use Rattle.std.proofs.Common.{◌∷◌, subst, ◌∙◌}
use Rattle.strm_shared.specs.Histories.{numbers_of_seats, AreCallsIn, Differ}
use Rattle.strm_shared.proofs.EndedLemmas.{calls_of_last, last_differs}
use Rattle.strm_shared.proofs.FrontLemmas.{front_trans}
use Rattle.strm_uses.proofs.shared.in_one_history.Goals as goal

pub returns-clause-fronts : goal.returns-clause-fronts
returns-clause-fronts g c =
    let joined = c.seat_join.ensures.joined in
    let one = c.call.ensures.one in
    let old = c.args.seat.now in
    let mid = c.seat_join.new.into in
    let new = c.call.new.seat in
    (front_trans old.seen mid.seen new.seen joined.1 one.0, front_trans c.args.other.seen mid.seen new.seen joined.2 one.0)

pub returns-clause-others : goal.returns-clause-others
returns-clause-others g c =
    let ended = c.call.ensures.one.1 ∙ c.seat_join.ensures.joined.5 in
    let new = c.call.new.seat in
    let other = c.args.other in
    calls_of_last c.args.seat.now.ended other.ended (other.number, other.mine) new.seen (subst (λ e. AreCallsIn e new.seen) ended c.call.ensures.one.2.over)

pub returns-clause-apart : goal.returns-clause-apart
returns-clause-apart g c =
    let ended = c.call.ensures.one.1 ∙ c.seat_join.ensures.joined.5 in
    let new = c.call.new.seat in
    let other = c.args.other in
    last_differs new.number c.args.seat.now.ended other.ended (other.number, other.mine) (subst (λ e. Differ (new.number ∷ numbers_of_seats e)) ended c.call.ensures.one.2.apart)
