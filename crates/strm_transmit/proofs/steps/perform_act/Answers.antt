use Rattle.strm_transmit.proofs.ApplyLemmas.{refused-hosted, refused-ends}
use Rattle.strm_transmit.proofs.steps.perform_act.Goals as goal

pub returns-clause-meets : goal.returns-clause-meets
returns-clause-meets g c =
    rw c.reply.ensures (refused-hosted c.args.store.now _ _ _ c.perform_apart.result _ c.perform_apart.ensures.meets)

pub returns-clause-ends : goal.returns-clause-ends
returns-clause-ends g c =
    let apart = c.perform_apart.ensures in
    rw c.reply.ensures (refused-ends c.args.store.now _ _ c.perform_apart.result apart.settled apart.takes_no_memory apart.held)
