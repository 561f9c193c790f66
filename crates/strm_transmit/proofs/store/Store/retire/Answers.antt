use Rattle.std.proofs.Common.{refl, ◌∙◌}
use Rattle.strm_machine.specs.declared.streams.Side.TheVariants.{Writing}
use Rattle.strm_transmit.proofs.ServedLemmas.{serving_kept, keeps_readers, writer_now, AreServed-retired, gone_has_none}
use Rattle.strm_transmit.proofs.KeptLemmas.{have_retired}
use Rattle.strm_transmit.proofs.StoreLemmas.{IsStore-kept}
use Rattle.strm_transmit.proofs.store.Store.retire.Goals as goal

pub invariant_of-self : goal.invariant_of-self
invariant_of-self c =
    let i = c.self.inside in
    let serves = rw (← c.self.view_is) at c.requires.serves in
    let gone = rw (← c.self.view_is) at c.requires.gone in
    IsStore-kept i _ i.consumers
    (AreServed-retired i.producers _ i.consumers i.consumers i.streams.items c.self.invariant.served Writing c.args.number
    (keeps_readers i.producers i.consumers c.args.number _)
    (gone_has_none Writing i.producers i.consumers i.streams.items c.args.number c.args.stream c.self.invariant.served serves gone)
    (writer_now i.producers i.consumers c.args.number _ (serving_kept i.producers c.args.number c.args.stream serves) ∙ refl))
    (have_retired i.producers i.kept.items i.streams.items c.self.invariant.kept c.args.number _ (serving_kept i.producers c.args.number c.args.stream serves) refl)
    c.self.invariant
