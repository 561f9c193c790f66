use Rattle.strm_transmit.proofs.RoundStoreLemmas.{reader_known}
use Rattle.strm_transmit.proofs.store.Store.is_offer_due.Goals as goal

pub bounds-self-inside-reader : goal.bounds-self-inside-reader
bounds-self-inside-reader g c = reader_known c.self.inside c.args.self.now _ c.args.stream c.args.writer c.args.reader c.self.view_is c.self.invariant c.requires.pipe
