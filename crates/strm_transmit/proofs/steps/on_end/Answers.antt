use Rattle.std.proofs.Common.{refl}
use Rattle.strm_transmit.proofs.HostStepLemmas.{hosted_alone}
use Rattle.strm_transmit.proofs.steps.on_end.Goals as goal

pub returns-in-Cancel-clause-meets : goal.returns-in-Cancel-clause-meets
returns-in-Cancel-clause-meets g c =
    rw c.in-Cancel.is
    (hosted_alone c.args.store.now _ _ _ c.cancel.result c.sound.ensures c.served.ensures.made refl c.cancel.ensures.settled c.cancel.ensures.meets c.requires.fits)

pub returns-in-Lift-clause-meets : goal.returns-in-Lift-clause-meets
returns-in-Lift-clause-meets g c =
    rw c.in-Lift.is
    (hosted_alone c.args.store.now _ _ _ c.lift.result c.sound.ensures c.served.ensures.made refl c.lift.ensures.settled c.lift.ensures.meets c.requires.fits)
