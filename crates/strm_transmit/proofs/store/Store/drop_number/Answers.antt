use Rattle.std.proofs.Common.{refl, arith}
use Rattle.std.proofs.lemmas.List.{length-map}
use Rattle.strm_channels.specs.Guests.{guest_of}
use Rattle.strm_transmit.specs.Inside.{state_of}
use Rattle.strm_transmit.proofs.SetLemmas.{drops_set, IsStore-dropped_set}
use Rattle.strm_transmit.proofs.store.Store.drop_number.Goals as goal

pub remove_set-requires-clause-there : goal.remove_set-requires-clause-there
remove_set-requires-clause-there c =
    let drops = drops_set (state_of c.self.inside) c.args.guest c.args.set c.args.number c.self.invariant.sound (rw (← c.self.view_is) at c.requires.may) (rw (← c.self.view_is) at c.requires.number) in
    omega (arith, drops.there, length-map c.self.inside.guests.items guest_of)

pub remove_set-requires-clause-named : goal.remove_set-requires-clause-named
remove_set-requires-clause-named c =
    (drops_set (state_of c.self.inside) c.args.guest c.args.set c.args.number c.self.invariant.sound (rw (← c.self.view_is) at c.requires.may) (rw (← c.self.view_is) at c.requires.number)).named

pub remove_set-requires-clause-made : goal.remove_set-requires-clause-made
remove_set-requires-clause-made c =
    (drops_set (state_of c.self.inside) c.args.guest c.args.set c.args.number c.self.invariant.sound (rw (← c.self.view_is) at c.requires.may) (rw (← c.self.view_is) at c.requires.number)).made

pub remove_set-requires-clause-empty : goal.remove_set-requires-clause-empty
remove_set-requires-clause-empty c =
    (drops_set (state_of c.self.inside) c.args.guest c.args.set c.args.number c.self.invariant.sound (rw (← c.self.view_is) at c.requires.may) (rw (← c.self.view_is) at c.requires.number)).empty

pub invariant_of-self : goal.invariant_of-self
invariant_of-self c =
    IsStore-dropped_set c.self.inside _ c.args.guest c.args.set c.args.number
    (record { same = record { tag = refl; limits = refl; producers = refl; kept = refl; consumers = refl; contexts = refl; trapped = refl }; streams = refl; places = refl; bytes = refl })
    (record {
      counter = c.remove_set.ensures.frees.counter;
      live = c.remove_set.ensures.frees.live;
      sets = c.remove_set.ensures.sets;
      live_sets = refl;
      guests = c.remove_set.ensures.frees.guests;
      ready = refl;
    })
    (rw (← c.self.view_is) at c.requires.may) (rw (← c.self.view_is) at c.requires.number) c.self.invariant
