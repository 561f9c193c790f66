use Rattle.std.proofs.Common.{refl}
use Rattle.strm_transmit.proofs.HostStepLemmas.{hosted_alone}
use Rattle.strm_transmit.proofs.steps.perform.Goals as goal

pub returns-in-Make-clause-meets : goal.returns-in-Make-clause-meets
returns-in-Make-clause-meets g c =
    rw c.in-Make.is
    (hosted_alone c.args.store.now _ _ _ c.make.result c.sound.ensures c.served.ensures.made refl c.make.ensures.settled c.make.ensures.meets c.requires.fits)

pub returns-in-Transfer-clause-meets : goal.returns-in-Transfer-clause-meets
returns-in-Transfer-clause-meets g c =
    rw c.in-Transfer.is
    (hosted_alone c.args.store.now _ _ _ c.transfer.result c.sound.ensures c.served.ensures.made refl c.transfer.ensures.settled c.transfer.ensures.meets c.requires.fits)

pub returns-in-Event-clause-meets : goal.returns-in-Event-clause-meets
returns-in-Event-clause-meets g c =
    rw c.in-Event.is
    (hosted_alone c.args.store.now _ _ _ c.event.result c.sound.ensures c.served.ensures.made refl c.event.ensures.settled c.event.ensures.meets c.requires.fits)

pub returns-in-OnSet-clause-meets : goal.returns-in-OnSet-clause-meets
returns-in-OnSet-clause-meets g c =
    rw c.in-OnSet.is
    (hosted_alone c.args.store.now _ _ _ c.on_set.result c.sound.ensures c.served.ensures.made refl c.on_set.ensures.settled c.on_set.ensures.meets c.requires.fits)

pub returns-in-OnContext-clause-meets : goal.returns-in-OnContext-clause-meets
returns-in-OnContext-clause-meets g c =
    rw c.in-OnContext.is
    (hosted_alone c.args.store.now _ _ _ c.on_context.result c.sound.ensures c.served.ensures.made refl c.on_context.ensures.settled c.on_context.ensures.meets c.requires.fits)

pub returns-in-OnMemory-clause-meets : goal.returns-in-OnMemory-clause-meets
returns-in-OnMemory-clause-meets g c =
    rw c.in-OnMemory.is
    (hosted_alone c.args.store.now _ _ _ c.on_memory.result c.sound.ensures c.served.ensures.made refl c.on_memory.ensures.settled c.on_memory.ensures.meets c.requires.fits)
