use Rattle.std.proofs.Common.{◌≡◌, List, length, set, ap, ◌∙◌, refl, arith}
use Rattle.strm_machine.specs.State.{State, no_producer, is_live}
use Rattle.strm_machine.specs.declared.streams.Duty.TheVariants.{Serves}
use Rattle.strm_machine.specs.declared.streams.Stream.{Stream}
use Rattle.strm_channels.specs.Guests.{guests_of}
use Rattle.strm_transmit.proofs.StoreLemmas.{IsStore-room}
use Rattle.strm_transmit.proofs.ReadyGuestLemmas.{same_counts, may_add, added_after}
use Rattle.strm_transmit.proofs.HostingLemmas.{IsStore-hosted, IsStore-grown, hosted_is}
use Rattle.strm_transmit.proofs.store.Store.host.Goals as goal

pub append-requires-clause-few : goal.append-requires-clause-few
append-requires-clause-few c =
    let few = rw (← c.self.view_is) at c.requires.few in
    omega (arith, few, ap (λ (xs : List Stream). length xs) c.in_ok-make_room.ensures.streams)

pub append-requires-clause-live : goal.append-requires-clause-live
append-requires-clause-live c = ap is_live c.new-hosted.ensures

pub invariant_of-self : goal.invariant_of-self
invariant_of-self c =
    IsStore-room c.self.inside _
    (record {
      same = record { tag = refl; limits = refl; producers = refl; kept = refl; consumers = refl; contexts = refl; trapped = refl };
      counter = refl;
      live_sets = refl;
      bytes = refl;
      guests = refl;
      ready = refl;
      ready_counts = same_counts c.self.inside.ready;
      streams = c.in_err-make_room.ensures.streams;
      places = c.in_err-make_room.ensures.places;
    })
    c.self.invariant

pub invariant_of-self-in_err-reserve : goal.invariant_of-self-in_err-reserve
invariant_of-self-in_err-reserve c =
    IsStore-room c.self.inside _
    (record {
      same = record { tag = refl; limits = refl; producers = refl; kept = refl; consumers = refl; contexts = refl; trapped = refl };
      counter = refl;
      live_sets = refl;
      bytes = refl;
      guests = refl;
      ready = c.in_err-reserve.ensures.sets;
      ready_counts = c.in_err-reserve.ensures.counts;
      streams = c.in_ok-make_room.ensures.streams;
      places = c.in_ok-make_room.ensures.places;
    })
    c.self.invariant

pub add_stream-requires : goal.add_stream-requires
add_stream-requires c =
    let old = c.self.inside in
    may_add (guests_of old.guests.items) old.streams.items old.ready c.reserve.new.self c.self.invariant.ready_counted
    c.in_ok-reserve.ensures.counts c.in_ok-reserve.ensures.ok (rw (← c.self.view_is) at c.requires.few)

pub invariant_of-self-2 : goal.invariant_of-self-2
invariant_of-self-2 c =
    let old = c.self.inside in
    let number : c.len-stream.result ≡ length old.streams.items = omega (arith, c.len-stream.ensures, old.streams.ok) in
    IsStore-hosted c.self.inside _ c.args.number c.new-hosted.result _
    (record {
      few = rw (← c.self.view_is) at c.requires.few;
      kept = c.requires.there;
      unused = rw (← c.self.view_is) at c.requires.unused;
      serves = ap Serves number;
      writer = ap (λ (x : Stream). x.writer) c.new-hosted.ensures;
      reader = ap (λ (x : Stream). x.reader) c.new-hosted.ensures;
      tag = refl;
      limits = refl;
      contexts = refl;
      trapped = refl;
      counter = refl;
      guests = refl;
      places = c.append.ensures.places;
      live_sets = refl;
      bytes = refl;
      streams = c.append.ensures.streams ∙ rw c.in_ok-make_room.ensures.streams refl;
      producers = refl;
      place = c.in_ok-make_place.ensures.ok;
      consumers = refl;
      added = added_after _ _ _ _ _ c.in_ok-reserve.ensures.sets c.in_ok-reserve.ensures.counts c.add_stream.ensures;
    })
    c.self.invariant

pub invariant_of-self-in_err-make_place : goal.invariant_of-self-in_err-make_place
invariant_of-self-in_err-make_place c =
    IsStore-grown c.self.inside _
    (record {
      limits = refl;
      contexts = refl;
      counter = refl;
      guests = refl;
      places = c.in_ok-make_room.ensures.places;
      live_sets = refl;
      bytes = refl;
      streams = c.in_ok-make_room.ensures.streams;
      producers = refl;
      consumers = refl;
      grown = c.in_err-make_place.ensures.err;
      ready = c.in_ok-reserve.ensures.sets;
      ready_counts = c.in_ok-reserve.ensures.counts;
    })
    c.self.invariant

pub returns-clause-ok : goal.returns-clause-ok
returns-clause-ok c =
    let old = c.self.inside in
    let number : c.len-stream.result ≡ length old.streams.items = omega (arith, c.len-stream.ensures, old.streams.ok) in
    let after = record old {
      streams = c.append.new.streams;
      producers = set old.producers c.args.number (record no_producer { duty = Serves c.len-stream.result; holding = c.args.holding });
      kept = c.make_place.new.kept;
      places = c.append.new.places;
      ready = c.add_stream.new.self;
    } in
    hosted_is old after c.args.number c.new-hosted.result _
    (record {
      few = rw (← c.self.view_is) at c.requires.few;
      kept = c.requires.there;
      unused = rw (← c.self.view_is) at c.requires.unused;
      serves = ap Serves number;
      writer = ap (λ (x : Stream). x.writer) c.new-hosted.ensures;
      reader = ap (λ (x : Stream). x.reader) c.new-hosted.ensures;
      tag = refl;
      limits = refl;
      contexts = refl;
      trapped = refl;
      counter = refl;
      guests = refl;
      places = c.append.ensures.places;
      live_sets = refl;
      bytes = refl;
      streams = c.append.ensures.streams ∙ rw c.in_ok-make_room.ensures.streams refl;
      producers = refl;
      place = c.in_ok-make_place.ensures.ok;
      consumers = refl;
      added = added_after _ _ _ _ _ c.in_ok-reserve.ensures.sets c.in_ok-reserve.ensures.counts c.add_stream.ensures;
    })
    c.args.self.now c.self.view_is c.self.invariant _ c.new-hosted.ensures _
    (ap (λ s. record no_producer { duty = Serves s; holding = c.args.holding }) (number ∙ ap (λ (x : State). length x.streams) c.self.view_is))
