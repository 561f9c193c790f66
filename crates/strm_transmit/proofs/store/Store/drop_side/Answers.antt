use Rattle.std.proofs.Common.{refl}
use Rattle.strm_machine.specs.declared.acts.EndAct.TheVariants.{Drop}
use Rattle.strm_host_machine.proofs.OutcomeLemmas.{refusal_in-on_end}
use Rattle.strm_transmit.proofs.StepLemmas.{is_admitted, meets_not_admitted}
use Rattle.strm_transmit.proofs.HostStepLemmas.{hosted_not_admitted}
use Rattle.strm_transmit.proofs.DropLemmas.{drops-end, drops-end-alone, dropped-fits, drops-hosted, still_made}
use Rattle.strm_transmit.proofs.store.Store.drop_side.Goals as goal

pub forsake-requires-clause-there : goal.forsake-requires-clause-there
forsake-requires-clause-there g c = still_made _ c.drop_end.new.self c.in-Ok.stream _ c.in-Ok.ensures.drops.gone c.in-Ok.ensures.drops.there

pub forsake-requires-clause-fits : goal.forsake-requires-clause-fits
forsake-requires-clause-fits g c =
    dropped-fits _ _ _ _ _ _
    (drops-end c.args.self.now c.drop_end.new.self _ c.args.side c.args.end.now c.in-Ok.stream (record { sound = c.sound.ensures; served = c.served.ensures; fits = c.requires.fits })
    (is_admitted c.args.self.now _ _ _ _ refl c.in-Ok.ensures.drops.exact) c.in-Ok.ensures.drops.there c.in-Ok.ensures.drops.gone)

pub returns-in-Ok-clause-meets : goal.returns-in-Ok-clause-meets
returns-in-Ok-clause-meets g c =
    let found = is_admitted c.args.self.now _ _ _ _ refl c.in-Ok.ensures.drops.exact in
    let drops = drops-end c.args.self.now c.drop_end.new.self _ c.args.side c.args.end.now c.in-Ok.stream (record { sound = c.sound.ensures; served = c.served.ensures; fits = c.requires.fits }) found c.in-Ok.ensures.drops.there c.in-Ok.ensures.drops.gone in
    drops-hosted _ _ _ _ _ _ drops _ _ c.forsake.ensures.does c.forsake.ensures.fits
    (λ u. c.forsake.ensures.alone (drops-end-alone _ _ _ c.args.side c.args.end.now c.in-Ok.stream drops found.same u))
    (λ u. c.forsake.ensures.untold (drops-end-alone _ _ _ c.args.side c.args.end.now c.in-Ok.stream drops found.same u))

pub returns-in-Err-clause-meets : goal.returns-in-Err-clause-meets
returns-in-Err-clause-meets g c =
    rw c.in-Err.ensures.drops.err
    (hosted_not_admitted c.args.self.now _ _ _ _ _ _ (λ logs. refusal_in-on_end _ c.args.side c.args.end.now Drop) refl c.in-Err.ensures.drops.exact c.requires.fits
    (λ u. meets_not_admitted _ _ _ _ _ refl c.in-Err.ensures.drops.exact))

pub returns-in-Err-clause-takes_no_memory : goal.returns-in-Err-clause-takes_no_memory
returns-in-Err-clause-takes_no_memory g c = λ e. c.in-Err.ensures.drops.takes_no_memory (cc e)
