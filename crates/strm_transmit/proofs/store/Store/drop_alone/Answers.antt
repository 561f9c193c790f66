use Rattle.std.proofs.Common.{Err, refl, sym, subst}
use Rattle.strm_machine.specs.State.{State}
use Rattle.strm_machine.specs.Reactions.{reaction}
use Rattle.strm_machine.specs.declared.acts.Act.TheVariants.{OnEnd}
use Rattle.strm_machine.specs.declared.acts.EndAct.TheVariants.{Drop}
use Rattle.strm_host_machine.specs.Does.{Fits}
use Rattle.strm_transmit.specs.Meets.{Meets}
use Rattle.strm_transmit.proofs.StepLemmas.{is_admitted, meets_not_admitted}
use Rattle.strm_transmit.proofs.StillLemmas.{done_fits}
use Rattle.strm_transmit.proofs.DropLemmas.{dropped-alone}
use Rattle.strm_transmit.proofs.store.Store.drop_alone.Goals as goal

pub returns-in-Ok-clause-meets : goal.returns-in-Ok-clause-meets
returns-in-Ok-clause-meets c =
    dropped-alone c.args.self.now _ c.args.side c.args.end.now _ (is_admitted c.args.self.now _ _ _ _ refl c.in-Ok.ensures.drops.exact) c.in-Ok.ensures.drops.gone

pub returns-in-Ok-clause-fits : goal.returns-in-Ok-clause-fits
returns-in-Ok-clause-fits c = done_fits _ _ _ _ c.sound.ensures c.served.ensures (returns-in-Ok-clause-meets c)

pub returns-in-Err-clause-meets : goal.returns-in-Err-clause-meets
returns-in-Err-clause-meets c =
    subst (λ (s : State). Meets c.args.self.now s (Err c.in-Err.error) (reaction c.args.self.now (OnEnd c.args.side c.args.end.now Drop))) (sym c.in-Err.ensures.drops.err)
    (meets_not_admitted _ _ _ _ _ refl c.in-Err.ensures.drops.exact)

pub returns-in-Err-clause-fits : goal.returns-in-Err-clause-fits
returns-in-Err-clause-fits c = λ tells fits. subst (λ (s : State). Fits s tells) (sym c.in-Err.ensures.drops.err) fits

pub returns-in-Err-clause-takes_no_memory : goal.returns-in-Err-clause-takes_no_memory
returns-in-Err-clause-takes_no_memory c =
    λ e. c.in-Err.ensures.drops.takes_no_memory (cc e)
