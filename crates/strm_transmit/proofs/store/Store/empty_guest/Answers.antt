use Rattle.std.proofs.Common.{◌-◌, refl, arith}
use Rattle.std.proofs.lemmas.List.{length-map}
use Rattle.std.proofs.lemmas.List.Sums.{get_or-le-sum_by}
use Rattle.strm_machine.specs.State.{no_guest, guest_in, own_size}
use Rattle.strm_channels.specs.Guests.{guest_of, guests_of}
use Rattle.strm_places.specs.Lives.{left_over}
use Rattle.strm_places.proofs.LivesLemmas.{left_replaces, left_own}
use Rattle.strm_transmit.specs.Inside.{state_of}
use Rattle.strm_transmit.proofs.LivesLemmas.{no_operation, replaced-state, IsStore-replaced}
use Rattle.strm_transmit.proofs.store.Store.empty_guest.Goals as goal

pub own_size-requires : goal.own_size-requires
own_size-requires c =
    omega (arith, rw (← c.self.view_is) at c.requires.there, length-map c.self.inside.guests.items guest_of)

-- its own bytes are among those of all
pub overflow_sub-self : goal.overflow_sub-self
overflow_sub-self c =
    omega (arith, c.own_size.ensures, c.self.invariant.bytes, get_or-le-sum_by own_size (guests_of c.self.inside.guests.items) c.args.guest no_guest (rw (← c.self.view_is) at c.requires.there))

pub clear_guest-requires : goal.clear_guest-requires
clear_guest-requires c =
    omega (arith, rw (← c.self.view_is) at c.requires.there, length-map c.self.inside.guests.items guest_of)

pub invariant_of-self : goal.invariant_of-self
invariant_of-self c =
    let old = c.self.inside in
    let was = guest_in (guests_of old.guests.items) c.args.guest in
    let there = rw (← c.self.view_is) at c.requires.there in
    let none = rw (← c.self.view_is) at c.requires.none in
    let owned = rw (← c.self.view_is) at c.requires.owned in
    let own = get_or-le-sum_by own_size (guests_of old.guests.items) c.args.guest no_guest there in
    IsStore-replaced old _ c.args.guest (left_over was)
    (record {
      same = record { tag = refl; limits = refl; producers = refl; kept = refl; consumers = refl; contexts = refl; trapped = refl };
      counter = refl;
      streams = refl;
      places = refl;
      live_sets = refl;
      ready = refl;
      guests = c.clear_guest.ensures.guests;
      bytes = omega (arith, c.own_size.ensures, c.self.invariant.bytes, own, left_own was);
    })
    (left_replaces (state_of old) c.args.guest there (no_operation (state_of old) c.args.guest c.self.invariant.held owned none) c.self.invariant.sound)
    c.self.invariant

pub returns : goal.returns
returns c =
    let old = c.self.inside in
    let was = guest_in (guests_of old.guests.items) c.args.guest in
    let there = rw (← c.self.view_is) at c.requires.there in
    let own = get_or-le-sum_by own_size (guests_of old.guests.items) c.args.guest no_guest there in
    rw (← c.self.view_is)
    (replaced-state old (record old { guests = c.clear_guest.new.guests; bytes = old.bytes - c.own_size.result }) c.args.guest (left_over was)
    (record {
      same = record { tag = refl; limits = refl; producers = refl; kept = refl; consumers = refl; contexts = refl; trapped = refl };
      counter = refl;
      streams = refl;
      places = refl;
      live_sets = refl;
      ready = refl;
      guests = c.clear_guest.ensures.guests;
      bytes = omega (arith, c.own_size.ensures, c.self.invariant.bytes, own, left_own was);
    }))
