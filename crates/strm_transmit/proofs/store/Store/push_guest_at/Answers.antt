use Rattle.std.proofs.Common.{◌∙◌, length, refl, arith}
use Rattle.std.specs.Vec.{vec_ptr}
use Rattle.strm_memory.specs.Linear.{of_engine}
use Rattle.strm_transmit.specs.Inside.{state_of}
use Rattle.strm_machine.proofs.GrowthLemmas.{guest_at_fits}
use Rattle.strm_transmit.proofs.StoreLemmas.{IsStore-guest, adds-guest_at, own_within}
use Rattle.strm_transmit.proofs.store.Store.push_guest_at.Goals as goal

pub invariant_of-self-2 : goal.invariant_of-self-2
invariant_of-self-2 c =
    IsStore-guest c.self.inside (record c.self.inside { guests = c.push_reserved.new.self; ready = c.add_guest.new.self }) (record { memory = c.lent-memory.result; table = c.new.result; sets = c.new-2.result }) (of_engine c.args.bytes.items (vec_ptr c.args.bytes)) (length c.args.bytes.items)
    (record {
      same = record { tag = refl; limits = refl; producers = refl; kept = refl; consumers = refl; contexts = refl; trapped = refl };
      counter = refl;
      streams = refl;
      places = refl;
      live_sets = refl;
      guests = c.push_reserved.ensures.items ∙ rw c.in_ok-reserve.ensures.items refl;
      bytes = omega arith;
      many = refl;
      memory = c.lent-memory.ensures;
      handles = c.new.ensures.empty;
      sets = c.new-2.ensures;
      ready = c.in_ok-add_guest.ensures.sets;
      ready_guests = record { counting = c.in_ok-add_guest.ensures.counting; streams = c.in_ok-add_guest.ensures.streams; guests = c.in_ok-add_guest.ensures.ok };
    })
    (guest_at_fits (state_of c.self.inside) (length c.args.bytes.items) (rw (← c.self.view_is) at c.requires))
    (omega (arith, own_within (state_of c.self.inside) c.self.invariant.sound)) c.self.invariant

pub returns : goal.returns
returns c =
    rw (← c.self.view_is)
    (adds-guest_at c.self.inside (record c.self.inside { guests = c.push_reserved.new.self; ready = c.add_guest.new.self }) (record { memory = c.lent-memory.result; table = c.new.result; sets = c.new-2.result }) c.args.bytes.items (vec_ptr c.args.bytes) (length c.args.bytes.items) c.len-number.result
    (record {
      same = record { tag = refl; limits = refl; producers = refl; kept = refl; consumers = refl; contexts = refl; trapped = refl };
      counter = refl;
      streams = refl;
      places = refl;
      live_sets = refl;
      guests = c.push_reserved.ensures.items ∙ rw c.in_ok-reserve.ensures.items refl;
      bytes = omega arith;
      many = refl;
      memory = c.lent-memory.ensures;
      handles = c.new.ensures.empty;
      sets = c.new-2.ensures;
      ready = c.in_ok-add_guest.ensures.sets;
      ready_guests = record { counting = c.in_ok-add_guest.ensures.counting; streams = c.in_ok-add_guest.ensures.streams; guests = c.in_ok-add_guest.ensures.ok };
    })
    (omega (arith, c.len-number.ensures, c.self.inside.guests.ok)))
