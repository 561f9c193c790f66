use Rattle.std.proofs.Common.{length, drop, refl, sym, ap, ◌∙◌, arith}
use Rattle.std.proofs.lemmas.List.{length-map}
use Rattle.std.specs.Vec.{vec_ptr}
use Rattle.strm_memory.specs.Linear.{LinearMemory}
use Rattle.strm_machine.specs.State.{memory_in}
use Rattle.strm_machine.proofs.GrowthLemmas.{may_grow}
use Rattle.strm_channels.specs.Guests.{guest_of}
use Rattle.strm_transmit.specs.Inside.{state_of}
use Rattle.strm_transmit.proofs.StoreLemmas.{IsStore-moved, guests-state, with_linear-moved}
use Rattle.strm_transmit.proofs.store.Store.memory_moved.Goals as goal

pub move_memory-requires-clause-there : goal.move_memory-requires-clause-there
move_memory-requires-clause-there c =
    let known = rw (← c.self.view_is) at c.requires.there in
    omega (arith, known, length-map c.self.inside.guests.items guest_of)

pub move_memory-requires-clause-lent : goal.move_memory-requires-clause-lent
move_memory-requires-clause-lent c = rw (← c.self.view_is) at c.requires.lent

pub move_memory-requires-clause-begins : goal.move_memory-requires-clause-begins
move_memory-requires-clause-begins c = rw (← c.self.view_is) at c.requires.begins

pub invariant_of-self : goal.invariant_of-self
invariant_of-self c =
    let old = state_of c.self.inside in
    let there = rw (← c.self.view_is) at c.requires.there in
    let lent = rw (← c.self.view_is) at c.requires.lent in
    let begins = rw (← c.self.view_is) at c.requires.begins in
    IsStore-moved c.self.inside (record c.self.inside { guests = c.move_memory.new.guests }) c.args.guest (drop (length (memory_in old.guests c.args.guest)) c.args.bytes.items) (vec_ptr c.args.bytes)
    (record {
      same = record { tag = refl; limits = refl; producers = refl; kept = refl; consumers = refl; contexts = refl; trapped = refl };
      counter = refl;
      streams = refl;
      places = refl;
      live_sets = refl;
      count = refl;
      ready = refl;
      guests = c.move_memory.ensures.moved ∙ with_linear-moved old.guests c.args.guest c.args.bytes.items (vec_ptr c.args.bytes) there lent begins;
    })
    (may_grow old c.args.guest c.args.bytes.items there lent begins c.requires.small)
    c.self.invariant

pub returns-clause-moved : goal.returns-clause-moved
returns-clause-moved c =
    let old = state_of c.self.inside in
    let there = rw (← c.self.view_is) at c.requires.there in
    let lent = rw (← c.self.view_is) at c.requires.lent in
    let begins = rw (← c.self.view_is) at c.requires.begins in
    rw (← c.self.view_is)
    (guests-state c.self.inside (record c.self.inside { guests = c.move_memory.new.guests }) _
    (record {
      same = record { tag = refl; limits = refl; producers = refl; kept = refl; consumers = refl; contexts = refl; trapped = refl };
      counter = refl;
      streams = refl;
      places = refl;
      live_sets = refl;
      count = refl;
      ready = refl;
      guests = c.move_memory.ensures.moved ∙ with_linear-moved old.guests c.args.guest c.args.bytes.items (vec_ptr c.args.bytes) there lent begins;
    }))

pub returns-clause-left : goal.returns-clause-left
returns-clause-left c = rw (← c.self.view_is) (ap (λ (m : LinearMemory). m.bytes) c.move_memory.ensures.left)

pub returns-clause-lay : goal.returns-clause-lay
returns-clause-lay c = rw (← c.self.view_is) (ap (λ (m : LinearMemory). m.base) (sym c.move_memory.ensures.left))
