use Rattle.std.proofs.Common.{refl, arith}
use Rattle.std.proofs.lemmas.List.{length-map}
use Rattle.strm_machine.proofs.ContextStepLemmas.{with_context_handle-sound}
use Rattle.strm_channels.specs.Guests.{guest_of}
use Rattle.strm_transmit.specs.Inside.{state_of}
use Rattle.strm_transmit.proofs.HeldStoreLemmas.{with_context_handle-held}
use Rattle.strm_transmit.proofs.StoreLemmas.{fits_below}
use Rattle.strm_transmit.proofs.ContextLemmas.{IsStore-gives, count_below}
use Rattle.strm_transmit.proofs.store.Store.share.Goals as goal

pub share_context-requires : goal.share_context-requires
share_context-requires c =
    let fits = rw (← c.self.view_is) at c.requires in
    let below = fits_below c.self.inside c.self.invariant fits.handle.handles in
    record {
      there = omega (arith, fits.there, length-map c.self.inside.guests.items guest_of);
      known = fits.known;
      fits = omega (arith, below, count_below c.self.inside c.args.context c.self.invariant);
      small = fits.handle.number;
      below = below;
    }

pub invariant_of-self : goal.invariant_of-self
invariant_of-self c =
    let fits = rw (← c.self.view_is) at c.requires in
    let did = c.share_context.ensures in
    IsStore-gives c.self.inside _ c.args.guest c.args.context _
    (record { tag = refl; limits = refl; trapped = refl; streams = refl; producers = refl; kept = refl; consumers = refl; places = refl; live_sets = refl; bytes = refl; ready = refl })
    c.share_context.result
    (record { gives = did.gives; others = did.contexts; same = did.same })
    (fits_below c.self.inside c.self.invariant fits.handle.handles)
    (with_context_handle-sound (state_of c.self.inside) c.args.context c.args.guest c.self.invariant.sound fits)
    (with_context_handle-held (state_of c.self.inside) c.args.context c.args.guest c.self.invariant.sound c.self.invariant.held fits)
    c.self.invariant

pub invariant_of-self-2 : goal.invariant_of-self-2
invariant_of-self-2 c =
    let fits = rw (← c.self.view_is) at c.requires in
    let did = c.share_context.ensures in
    IsStore-gives c.self.inside _ c.args.guest c.args.context _
    (record { tag = refl; limits = refl; trapped = refl; streams = refl; producers = refl; kept = refl; consumers = refl; places = refl; live_sets = refl; bytes = refl; ready = refl })
    c.share_context.result
    (record { gives = did.gives; others = did.contexts; same = did.same })
    (fits_below c.self.inside c.self.invariant fits.handle.handles)
    (with_context_handle-sound (state_of c.self.inside) c.args.context c.args.guest c.self.invariant.sound fits)
    (with_context_handle-held (state_of c.self.inside) c.args.context c.args.guest c.self.invariant.sound c.self.invariant.held fits)
    c.self.invariant
