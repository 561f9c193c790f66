use Rattle.std.proofs.Common.{ℕ, ◌+◌, refl, sym, ap, arith}
use Rattle.std.proofs.lemmas.List.{length-replicate}
use Rattle.std.specs.Vec.{with_item}
use Rattle.strm_machine.specs.Reactions.{goes}
use Rattle.strm_machine.specs.declared.replies.Reply.TheVariants as replies
use Rattle.strm_places.specs.Lives.{guest_with}
use Rattle.strm_places.proofs.LivesLemmas.{not_in_use, begin_room, begin_replaces}
use Rattle.strm_transmit.specs.Inside.{state_of}
use Rattle.strm_transmit.proofs.LivesLemmas.{guests_of-filled, replaced-state, IsStore-replaced}
use Rattle.strm_transmit.proofs.store.Store.fill_guest.Goals as goal

pub overflow_add-self : goal.overflow_add-self
overflow_add-self c =
    omega (arith, c.self.invariant.bytes, begin_room (state_of c.self.inside) c.args.size (rw (← c.self.view_is) at c.requires.may))

pub invariant_of-self : goal.invariant_of-self
invariant_of-self c =
    let old = c.self.inside in
    let there = rw (← c.self.view_is) at c.requires.there in
    let unused = rw (← c.self.view_is) at c.requires.unused in
    let may = rw (← c.self.view_is) at c.requires.may in
    IsStore-replaced old _ c.args.guest (guest_with c.args.size)
    (record {
      same = record { tag = refl; limits = refl; producers = refl; kept = refl; consumers = refl; contexts = refl; trapped = refl };
      counter = refl;
      streams = refl;
      places = refl;
      live_sets = refl;
      ready = refl;
      guests = guests_of-filled old.guests.items c.args.guest (record { memory = c.in_ok-memory.memory; table = c.new-2.result; sets = c.new-3.result }) (guest_with c.args.size) c.in_ok-memory.ensures c.new-2.ensures.empty c.new-3.ensures;
      bytes = omega (arith, (not_in_use (state_of old) c.args.guest unused).own, length-replicate {A = ℕ} c.args.size 0);
    })
    (begin_replaces (state_of old) c.args.guest c.args.size there unused c.self.invariant.sound may)
    c.self.invariant

pub returns : goal.returns
returns c =
    let old = c.self.inside in
    let unused = rw (← c.self.view_is) at c.requires.unused in
    rw (← c.self.view_is)
    (ap (goes replies.Done)
    (sym (replaced-state old (record old { guests = with_item old.guests c.args.guest (record { memory = c.in_ok-memory.memory; table = c.new-2.result; sets = c.new-3.result }); bytes = old.bytes + c.args.size }) c.args.guest (guest_with c.args.size)
    (record {
      same = record { tag = refl; limits = refl; producers = refl; kept = refl; consumers = refl; contexts = refl; trapped = refl };
      counter = refl;
      streams = refl;
      places = refl;
      live_sets = refl;
      ready = refl;
      guests = guests_of-filled old.guests.items c.args.guest (record { memory = c.in_ok-memory.memory; table = c.new-2.result; sets = c.new-3.result }) (guest_with c.args.size) c.in_ok-memory.ensures c.new-2.ensures.empty c.new-3.ensures;
      bytes = omega (arith, (not_in_use (state_of old) c.args.guest unused).own, length-replicate {A = ℕ} c.args.size 0);
    }))))
