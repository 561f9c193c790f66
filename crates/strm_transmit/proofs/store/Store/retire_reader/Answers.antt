use Rattle.std.proofs.Common.{refl, ◌∙◌}
use Rattle.strm_machine.specs.declared.streams.Side.TheVariants.{Reading}
use Rattle.strm_transmit.proofs.ServedLemmas.{reading_kept, keeps_writers, reader_now, AreServed-retired, gone_has_none}
use Rattle.strm_transmit.proofs.StoreLemmas.{IsStore-kept}
use Rattle.strm_transmit.proofs.store.Store.retire_reader.Goals as goal

pub invariant_of-self : goal.invariant_of-self
invariant_of-self c =
    let i = c.self.inside in
    let serves = rw (← c.self.view_is) at c.requires.serves in
    let gone = rw (← c.self.view_is) at c.requires.gone in
    IsStore-kept i i.producers _
    (AreServed-retired i.producers i.producers i.consumers _ i.streams.items c.self.invariant.served Reading c.args.number
    (keeps_writers i.producers i.consumers c.args.number _)
    (gone_has_none Reading i.producers i.consumers i.streams.items c.args.number c.args.stream c.self.invariant.served serves gone)
    (reader_now i.producers i.consumers c.args.number _ (reading_kept i.consumers c.args.number c.args.stream serves) ∙ refl))
    c.self.invariant.kept
    c.self.invariant
