use Rattle.strm_machine.specs.declared.acts.LooseAct.TheVariants.{Close}
use Rattle.strm_host_machine.proofs.OutcomeLemmas.{refusal_in-on_loose}
use Rattle.strm_host_turns.proofs.WriterTurnLemmas.{handed_on}
use Rattle.strm_transmit.proofs.StepLemmas.{is_admitted, meets_not_admitted}
use Rattle.strm_transmit.proofs.HostStepLemmas.{hosted_not_admitted}
use Rattle.strm_transmit.proofs.DropLemmas.{drops-loose, drops-loose-alone, dropped-fits, drops-hosted, still_made}
use Rattle.strm_transmit.proofs.MoveLemmas.{close_made, close_unheld}
use Rattle.strm_transmit.proofs.store.Store.close.Goals as goal

pub lose-requires-clause-there : goal.lose-requires-clause-there
lose-requires-clause-there g c = close_made c.args.self.now c.args.reader (is_admitted c.args.self.now _ _ _ _ c.close_fits.ensures c.in_ok-admit.ensures.exact).none

pub forsake-requires-clause-fits : goal.forsake-requires-clause-fits
forsake-requires-clause-fits g c =
    let found = is_admitted c.args.self.now _ _ _ _ c.close_fits.ensures c.in_ok-admit.ensures.exact in
    dropped-fits _ _ _ _ _ _
    (drops-loose c.args.self.now c.lose.new.self _ c.args.reader (record { sound = c.sound.ensures; served = c.served.ensures; fits = c.requires.fits })
    found (close_made c.args.self.now c.args.reader found.none) c.lose.ensures)

pub returns-clause-meets : goal.returns-clause-meets
returns-clause-meets g c =
    let found = is_admitted c.args.self.now _ _ _ _ c.close_fits.ensures c.in_ok-admit.ensures.exact in
    let drops = drops-loose c.args.self.now c.lose.new.self _ c.args.reader (record { sound = c.sound.ensures; served = c.served.ensures; fits = c.requires.fits })
    found (close_made c.args.self.now c.args.reader found.none) c.lose.ensures in
    drops-hosted _ _ _ _ _ _ drops _ _ c.forsake.ensures.does c.forsake.ensures.fits
    (λ u. c.forsake.ensures.alone (drops-loose-alone _ _ _ c.args.reader drops u))
    (λ u. c.forsake.ensures.untold (drops-loose-alone _ _ _ c.args.reader drops u))

pub returns-in_err-admit-clause-meets : goal.returns-in_err-admit-clause-meets
returns-in_err-admit-clause-meets g c =
    rw (handed_on c.from_residual.result c.from_residual.ensures.1)
    (hosted_not_admitted c.args.self.now _ _ _ _ _ _ (λ logs. refusal_in-on_loose _ c.args.reader Close) c.close_fits.ensures c.in_err-admit.ensures.exact c.requires.fits
    (λ u. meets_not_admitted _ _ _ _ _ c.close_fits.ensures c.in_err-admit.ensures.exact))

pub forsake-requires-clause-there : goal.forsake-requires-clause-there
forsake-requires-clause-there g c =
    still_made c.args.self.now c.lose.new.self c.args.reader _ c.lose.ensures
    (close_made c.args.self.now c.args.reader (is_admitted c.args.self.now _ _ _ _ c.close_fits.ensures c.in_ok-admit.ensures.exact).none)

pub lose-requires-clause-unheld : goal.lose-requires-clause-unheld
lose-requires-clause-unheld g c =
    close_unheld c.args.self.now c.args.reader (is_admitted c.args.self.now _ _ _ _ c.close_fits.ensures c.in_ok-admit.ensures.exact).none
