use Rattle.std.proofs.Common.{refl, arith}
use Rattle.std.proofs.lemmas.List.{length-map}
use Rattle.strm_machine.proofs.ContextStepLemmas.{context_fits}
use Rattle.strm_machine.proofs.SoundStepLemmas.{with_context-sound}
use Rattle.strm_channels.specs.Guests.{guest_of}
use Rattle.strm_transmit.specs.Inside.{state_of}
use Rattle.strm_transmit.proofs.HeldStoreLemmas.{with_context-held}
use Rattle.strm_transmit.proofs.StoreLemmas.{fits_below}
use Rattle.strm_transmit.proofs.ContextLemmas.{IsStore-gives}
use Rattle.strm_transmit.proofs.store.Store.make_context.Goals as goal

pub give_context-requires : goal.give_context-requires
give_context-requires c =
    let fits = context_fits (state_of c.self.inside) c.args.guest c.args.address c.args.len (rw (← c.self.view_is) at c.requires) in
    record {
      there = omega (arith, fits.bytes.there, length-map c.self.inside.guests.items guest_of);
      inside = fits.bytes.inside;
      text = fits.message.text;
      small = fits.handle.number;
      below = fits_below c.self.inside c.self.invariant fits.handle.handles;
    }

pub invariant_of-self : goal.invariant_of-self
invariant_of-self c =
    let may = rw (← c.self.view_is) at c.requires in
    let fits = context_fits (state_of c.self.inside) c.args.guest c.args.address c.args.len may in
    let did = c.give_context.ensures in
    IsStore-gives c.self.inside _ c.args.guest _ _
    (record { tag = refl; limits = refl; trapped = refl; streams = refl; producers = refl; kept = refl; consumers = refl; places = refl; live_sets = refl; bytes = refl; ready = refl })
    c.give_context.result
    (record { gives = did.gives; others = did.contexts; same = did.same })
    (fits_below c.self.inside c.self.invariant fits.handle.handles)
    (with_context-sound (state_of c.self.inside) c.args.guest c.args.address c.args.len c.self.invariant.sound may)
    (with_context-held (state_of c.self.inside) c.args.guest c.args.address c.args.len c.self.invariant.sound c.self.invariant.held may)
    c.self.invariant

pub invariant_of-self-2 : goal.invariant_of-self-2
invariant_of-self-2 c =
    let may = rw (← c.self.view_is) at c.requires in
    let fits = context_fits (state_of c.self.inside) c.args.guest c.args.address c.args.len may in
    let did = c.give_context.ensures in
    IsStore-gives c.self.inside _ c.args.guest _ _
    (record { tag = refl; limits = refl; trapped = refl; streams = refl; producers = refl; kept = refl; consumers = refl; places = refl; live_sets = refl; bytes = refl; ready = refl })
    c.give_context.result
    (record { gives = did.gives; others = did.contexts; same = did.same })
    (fits_below c.self.inside c.self.invariant fits.handle.handles)
    (with_context-sound (state_of c.self.inside) c.args.guest c.args.address c.args.len c.self.invariant.sound may)
    (with_context-held (state_of c.self.inside) c.args.guest c.args.address c.args.len c.self.invariant.sound c.self.invariant.held may)
    c.self.invariant
