use Rattle.std.proofs.Common.{rules, ap, ◌∙◌, refl, ◌+◌, arith}
use Rattle.strm_shared.specs.Plays.{Seated}
use Rattle.strm_shared.proofs.RuleLemmas.{look_keeps, draw_keeps}
use Rattle.strm_shared.proofs.store.SharedStore.draw.Goals as goal

pub loop-init : goal.loop-init
loop-init g c = record { goes = search rules; table = refl; top = omega arith; me = (c.args.seat.now.me.0.top_ticket, refl) }

pub load-found-requires : goal.load-found-requires
load-found-requires g c = (search rules, search rules, look_keeps c.args.self.now.table.shared.key _ _ c.loop.seat.me)

pub compare_exchange-was-requires : goal.compare_exchange-was-requires
compare_exchange-was-requires g c =
    let ticket = λ (m : Seated). m.0.ticket in (
      search rules,
      search rules,
      draw_keeps c.args.self.now.table.shared.key _ _ c.load-found.new.seat.me c.load-found.result (c.load-found.result + 1) refl (omega arith) (ap ticket c.load-found.ensures.2.0 ∙ (ap ticket c.loop.invariant.me.1 ∙ c.requires.rests)),
    )
