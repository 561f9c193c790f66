use Rattle.strm_transmit.proofs.store.Store.stream_read.Goals as goal

pub returns-clause-meets : goal.returns-clause-meets
returns-clause-meets g c = c.operate.ensures.meets

pub returns-clause-takes_no_memory : goal.returns-clause-takes_no_memory
returns-clause-takes_no_memory g c = c.operate.ensures.takes_no_memory

pub returns-clause-held : goal.returns-clause-held
returns-clause-held g c = c.operate.ensures.held
