use Rattle.std.proofs.Common.{refl, arith}
use Rattle.std.proofs.lemmas.List.{length-map}
use Rattle.strm_machine.proofs.SetStepLemmas.{set_fits}
use Rattle.strm_channels.specs.Guests.{guest_of}
use Rattle.strm_transmit.specs.Inside.{state_of}
use Rattle.strm_transmit.proofs.SetLemmas.{IsStore-made_set}
use Rattle.strm_transmit.proofs.store.Store.make_set.Goals as goal

pub give_set-requires-clause-there : goal.give_set-requires-clause-there
give_set-requires-clause-there c =
    let fits = set_fits (state_of c.self.inside) c.args.guest (rw (← c.self.view_is) at c.requires) in
    omega (arith, fits.there, length-map c.self.inside.guests.items guest_of)

pub give_set-requires-clause-small : goal.give_set-requires-clause-small
give_set-requires-clause-small c = (set_fits (state_of c.self.inside) c.args.guest (rw (← c.self.view_is) at c.requires)).number

pub give_set-requires-clause-below : goal.give_set-requires-clause-below
give_set-requires-clause-below c =
    let fits = set_fits (state_of c.self.inside) c.args.guest (rw (← c.self.view_is) at c.requires) in
    omega (arith, fits.handles, c.self.invariant.limit, c.self.invariant.live)

pub one_more-self-inside-requires : goal.one_more-self-inside-requires
one_more-self-inside-requires c =
    let fits = set_fits (state_of c.self.inside) c.args.guest (rw (← c.self.view_is) at c.requires) in
    omega (arith, fits.places, c.self.invariant.sets)

pub invariant_of-self-2 : goal.invariant_of-self-2
invariant_of-self-2 c =
    IsStore-made_set c.self.inside _ c.args.guest
    (record { same = record { tag = refl; limits = refl; producers = refl; kept = refl; consumers = refl; contexts = refl; trapped = refl }; streams = refl; places = refl; bytes = refl })
    (record {
      counter = c.in_ok-handle.ensures.gives.ok.counter;
      live = c.in_ok-handle.ensures.gives.ok.live;
      sets = c.in_ok-handle.ensures.sets;
      live_sets = c.one_more-self-inside.ensures;
      guests = c.in_ok-handle.ensures.gives.ok.guests;
      ready = refl;
    })
    (rw (← c.self.view_is) at c.requires) c.self.invariant
