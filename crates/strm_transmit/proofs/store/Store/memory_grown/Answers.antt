use Rattle.std.proofs.Common.{refl, arith}
use Rattle.std.proofs.lemmas.List.{length-map}
use Rattle.strm_channels.specs.Guests.{guest_of}
use Rattle.strm_transmit.proofs.StoreLemmas.{IsStore-grown, guests-state}
use Rattle.strm_transmit.proofs.store.Store.memory_grown.Goals as goal

pub grow_memory-requires-clause-there : goal.grow_memory-requires-clause-there
grow_memory-requires-clause-there c =
    let known = rw (← c.self.view_is) at c.requires.there in
    omega (arith, known, length-map c.self.inside.guests.items guest_of)

pub grow_memory-requires-clause-lent : goal.grow_memory-requires-clause-lent
grow_memory-requires-clause-lent c = rw (← c.self.view_is) at c.requires.lent

pub grow_memory-requires-clause-behind : goal.grow_memory-requires-clause-behind
grow_memory-requires-clause-behind c = rw (← c.self.view_is) at c.requires.behind

pub grow_memory-requires-clause-small : goal.grow_memory-requires-clause-small
grow_memory-requires-clause-small c = rw (← c.self.view_is) at c.requires.small

pub invariant_of-self : goal.invariant_of-self
invariant_of-self c =
    let there = rw (← c.self.view_is) at c.requires.there in
    let lent = rw (← c.self.view_is) at c.requires.lent in
    let small = rw (← c.self.view_is) at c.requires.small in
    IsStore-grown c.self.inside (record c.self.inside { guests = c.grow_memory.new.guests }) c.args.guest c.args.more.items
    (record {
      same = record { tag = refl; limits = refl; producers = refl; kept = refl; consumers = refl; contexts = refl; trapped = refl };
      counter = refl;
      streams = refl;
      places = refl;
      live_sets = refl;
      count = refl;
      ready = refl;
      guests = c.grow_memory.ensures.grown;
    })
    (record { there = there; lent = lent; small = small })
    c.self.invariant

pub returns : goal.returns
returns c =
    rw (← c.self.view_is)
    (guests-state c.self.inside (record c.self.inside { guests = c.grow_memory.new.guests }) _
    (record {
      same = record { tag = refl; limits = refl; producers = refl; kept = refl; consumers = refl; contexts = refl; trapped = refl };
      counter = refl;
      streams = refl;
      places = refl;
      live_sets = refl;
      count = refl;
      ready = refl;
      guests = c.grow_memory.ensures.grown;
    }))
