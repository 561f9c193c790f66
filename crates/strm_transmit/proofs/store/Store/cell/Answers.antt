use Rattle.strm_transmit.proofs.store.Store.cell.Goals as goal

pub returns-in-Ok-clause-own : goal.returns-in-Ok-clause-own
returns-in-Ok-clause-own c some = c.in-Ok.ensures.own
