use Rattle.std.proofs.Common.{◌+◌, ◌∙◌, replicate, refl, arith}
use Rattle.std.proofs.lemmas.List.{length-replicate}
use Rattle.strm_memory.specs.Linear.{untold}
use Rattle.strm_transmit.specs.Inside.{state_of}
use Rattle.strm_machine.proofs.RefusalLemmas.{guest_fits}
use Rattle.strm_transmit.proofs.StoreLemmas.{IsStore-guest, performs-guest, own_fits}
use Rattle.strm_transmit.proofs.store.Store.push_guest.Goals as goal

pub overflow_add-self : goal.overflow_add-self
overflow_add-self c =
    let fits = guest_fits (state_of c.self.inside) c.args.size (rw (← c.self.view_is) at c.requires) in
    omega (arith, fits.bytes, c.self.invariant.bytes)

pub invariant_of-self-2 : goal.invariant_of-self-2
invariant_of-self-2 c =
    IsStore-guest c.self.inside _ (record { memory = c.in_ok-memory.memory; table = c.new-2.result; sets = c.new-3.result }) (untold (replicate c.args.size 0)) c.args.size
    (record {
      same = record { tag = refl; limits = refl; producers = refl; kept = refl; consumers = refl; contexts = refl; trapped = refl };
      counter = refl;
      streams = refl;
      places = refl;
      live_sets = refl;
      guests = c.push_reserved.ensures.items ∙ rw c.in_ok-reserve.ensures.items refl;
      bytes = refl;
      many = length-replicate c.args.size 0;
      memory = c.in_ok-memory.ensures;
      handles = c.new-2.ensures.empty;
      sets = c.new-3.ensures;
      ready = c.in_ok-add_guest.ensures.sets;
      ready_guests = record { counting = c.in_ok-add_guest.ensures.counting; streams = c.in_ok-add_guest.ensures.streams; guests = c.in_ok-add_guest.ensures.ok };
    })
    (own_fits (state_of c.self.inside) c.args.size (rw (← c.self.view_is) at c.requires))
    (guest_fits (state_of c.self.inside) c.args.size (rw (← c.self.view_is) at c.requires)).bytes c.self.invariant

pub returns : goal.returns
returns c =
    rw (← c.self.view_is)
    (performs-guest c.self.inside (record c.self.inside { guests = c.push_reserved.new.self; ready = c.add_guest.new.self; bytes = c.self.inside.bytes + c.args.size }) (record { memory = c.in_ok-memory.memory; table = c.new-2.result; sets = c.new-3.result }) c.args.size c.len-number.result
    (record {
      same = record { tag = refl; limits = refl; producers = refl; kept = refl; consumers = refl; contexts = refl; trapped = refl };
      counter = refl;
      streams = refl;
      places = refl;
      live_sets = refl;
      guests = c.push_reserved.ensures.items ∙ rw c.in_ok-reserve.ensures.items refl;
      bytes = refl;
      many = length-replicate c.args.size 0;
      memory = c.in_ok-memory.ensures;
      handles = c.new-2.ensures.empty;
      sets = c.new-3.ensures;
      ready = c.in_ok-add_guest.ensures.sets;
      ready_guests = record { counting = c.in_ok-add_guest.ensures.counting; streams = c.in_ok-add_guest.ensures.streams; guests = c.in_ok-add_guest.ensures.ok };
    })
    (omega (arith, c.len-number.ensures, c.self.inside.guests.ok)))
