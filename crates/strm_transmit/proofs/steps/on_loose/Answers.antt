use Rattle.std.proofs.Common.{refl}
use Rattle.strm_transmit.proofs.HostStepLemmas.{hosted_alone}
use Rattle.strm_transmit.proofs.steps.on_loose.Goals as goal

pub returns-in-Lower-clause-meets : goal.returns-in-Lower-clause-meets
returns-in-Lower-clause-meets g c =
    rw c.in-Lower.is
    (hosted_alone c.args.store.now _ _ _ c.lower.result c.sound.ensures c.served.ensures.made refl c.lower.ensures.settled c.lower.ensures.meets c.requires.fits)
