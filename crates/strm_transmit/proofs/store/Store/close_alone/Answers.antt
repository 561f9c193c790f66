use Rattle.strm_host_turns.proofs.WriterTurnLemmas.{handed_on}
use Rattle.strm_transmit.proofs.StepLemmas.{is_admitted, meets_not_admitted}
use Rattle.strm_transmit.proofs.StillLemmas.{done_fits}
use Rattle.strm_transmit.proofs.DropLemmas.{closed-alone}
use Rattle.strm_transmit.proofs.MoveLemmas.{close_made, close_unheld}
use Rattle.strm_transmit.proofs.store.Store.close_alone.Goals as goal

pub lose-requires-clause-there : goal.lose-requires-clause-there
lose-requires-clause-there c = close_made c.args.self.now c.args.reader (is_admitted c.args.self.now _ _ _ _ c.close_fits.ensures c.in_ok-admit.ensures.exact).none

pub lose-requires-clause-unheld : goal.lose-requires-clause-unheld
lose-requires-clause-unheld c =
    close_unheld c.args.self.now c.args.reader (is_admitted c.args.self.now _ _ _ _ c.close_fits.ensures c.in_ok-admit.ensures.exact).none

pub returns-clause-meets : goal.returns-clause-meets
returns-clause-meets c =
    closed-alone c.args.self.now c.lose.new.self c.args.reader (is_admitted c.args.self.now _ _ _ _ c.close_fits.ensures c.in_ok-admit.ensures.exact) c.lose.ensures

pub returns-in_err-admit-clause-meets : goal.returns-in_err-admit-clause-meets
returns-in_err-admit-clause-meets c =
    rw (handed_on c.from_residual.result c.from_residual.ensures.1)
    (meets_not_admitted _ _ _ _ _ c.close_fits.ensures c.in_err-admit.ensures.exact)

pub returns-clause-fits : goal.returns-clause-fits
returns-clause-fits c = done_fits _ _ _ _ c.in_ok-admit.ensures.sound c.in_ok-admit.ensures.served (returns-clause-meets c)
