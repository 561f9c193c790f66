use Rattle.strm_transmit.proofs.BadItemLemmas.{left_fits}
use Rattle.strm_transmit.proofs.store.Store.operate_alone.Goals as goal

pub returns-in-Err-clause-fits : goal.returns-in-Err-clause-fits
returns-in-Err-clause-fits c =
    rw c.trap_at_bad_item.ensures (left_fits c.in-Err.error c.args.self.now c.operate_or_stay.new.self c.operate_or_stay.ensures.fits)
