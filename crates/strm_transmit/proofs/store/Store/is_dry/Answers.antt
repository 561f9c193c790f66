use Rattle.std.proofs.Common.{◌≡◌, true, rules, subst}
use Rattle.strm_machine.specs.State.{State, producer_at}
use Rattle.strm_machine.specs.declared.streams.Side.TheVariants.{Writing}
use Rattle.strm_transmit.proofs.PipeStoreLemmas.{dry-held}
use Rattle.strm_transmit.proofs.SceneStoreLemmas.{number_kept}
use Rattle.strm_transmit.proofs.store.Store.is_dry.Goals as goal

pub bounds-self-inside-number : goal.bounds-self-inside-number
bounds-self-inside-number g c = number_kept c.self.inside c.args.self.now c.in-Host.number c.args.stream c.self.view_is c.self.invariant (search rules)

pub writer_held-requires : goal.writer_held-requires
writer_held-requires g c =
    (c.requires.fits.writers c.in-Host.number c.args.stream (c.served.ensures.serves Writing c.in-Host.number c.args.stream (search rules))).there

pub returns-then-self-number : goal.returns-then-self-number
returns-then-self-number g c =
    dry-held c.args.self.now _ c.args.stream c.in-Host.number c.writer_held.result
    (record { served = c.served.ensures; made = c.requires.there; owner = search rules; fits = c.requires.fits })
    (subst (λ (x : State). (producer_at x c.in-Host.number).over ≡ true) c.self.view_is c.if-self-number.true)
    c.writer_held.ensures
