use Rattle.chain.proofs.served.Goals as goal

pub returns-clause-writes : goal.returns-clause-writes
returns-clause-writes g c =
    let served = c.chain_serve-status.ensures in
    rw c.from.ensures (record { told = served.told; part = served.part; write_fault = served.write_fault })

pub returns-clause-complete : goal.returns-clause-complete
returns-clause-complete g c = rw c.from.ensures c.chain_serve-status.ensures.complete
