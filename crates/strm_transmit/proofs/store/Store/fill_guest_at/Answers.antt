use Rattle.std.proofs.Common.{refl, arith}
use Rattle.std.specs.Vec.{vec_ptr, with_item}
use Rattle.strm_machine.specs.Growth.{guest_at}
use Rattle.strm_places.proofs.LivesLemmas.{not_in_use, begin_at_replaces}
use Rattle.strm_transmit.specs.Inside.{state_of}
use Rattle.strm_transmit.proofs.LivesLemmas.{guests_of-filled, replaced-state, IsStore-replaced}
use Rattle.strm_transmit.proofs.store.Store.fill_guest_at.Goals as goal

pub invariant_of-self : goal.invariant_of-self
invariant_of-self c =
    let old = c.self.inside in
    let there = rw (← c.self.view_is) at c.requires.there in
    let unused = rw (← c.self.view_is) at c.requires.unused in
    IsStore-replaced old _ c.args.guest (guest_at c.args.bytes.items (vec_ptr c.args.bytes))
    (record {
      same = record { tag = refl; limits = refl; producers = refl; kept = refl; consumers = refl; contexts = refl; trapped = refl };
      counter = refl;
      streams = refl;
      places = refl;
      live_sets = refl;
      ready = refl;
      guests = guests_of-filled old.guests.items c.args.guest (record { memory = c.lent.result; table = c.new.result; sets = c.new-2.result }) (guest_at c.args.bytes.items (vec_ptr c.args.bytes)) c.lent.ensures c.new.ensures.empty c.new-2.ensures;
      bytes = omega (arith, (not_in_use (state_of old) c.args.guest unused).own);
    })
    (begin_at_replaces (state_of old) c.args.guest c.args.bytes.items (vec_ptr c.args.bytes) there unused c.self.invariant.sound c.requires.may)
    c.self.invariant

pub returns : goal.returns
returns c =
    let old = c.self.inside in
    let unused = rw (← c.self.view_is) at c.requires.unused in
    rw (← c.self.view_is)
    (replaced-state old (record old { guests = with_item old.guests c.args.guest (record { memory = c.lent.result; table = c.new.result; sets = c.new-2.result }) }) c.args.guest (guest_at c.args.bytes.items (vec_ptr c.args.bytes))
    (record {
      same = record { tag = refl; limits = refl; producers = refl; kept = refl; consumers = refl; contexts = refl; trapped = refl };
      counter = refl;
      streams = refl;
      places = refl;
      live_sets = refl;
      ready = refl;
      guests = guests_of-filled old.guests.items c.args.guest (record { memory = c.lent.result; table = c.new.result; sets = c.new-2.result }) (guest_at c.args.bytes.items (vec_ptr c.args.bytes)) c.lent.ensures c.new.ensures.empty c.new-2.ensures;
      bytes = omega (arith, (not_in_use (state_of old) c.args.guest unused).own);
    }))
