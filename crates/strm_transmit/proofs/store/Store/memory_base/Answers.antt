use Rattle.std.proofs.Common.{refl, arith}
use Rattle.std.proofs.lemmas.List.{length-map}
use Rattle.strm_channels.specs.Guests.{guest_of}
use Rattle.strm_transmit.proofs.StoreLemmas.{IsStore-base, tells-state}
use Rattle.strm_transmit.proofs.store.Store.memory_base.Goals as goal

pub tell_base-requires : goal.tell_base-requires
tell_base-requires c =
    let known = rw (← c.self.view_is) at c.requires in
    omega (arith, known, length-map c.self.inside.guests.items guest_of)

pub invariant_of-self : goal.invariant_of-self
invariant_of-self c =
    IsStore-base c.self.inside (record c.self.inside { guests = c.tell_base.new.guests }) c.args.guest c.tell_base.result
    (record {
      same = record { tag = refl; limits = refl; producers = refl; kept = refl; consumers = refl; contexts = refl; trapped = refl };
      counter = refl;
      streams = refl;
      places = refl;
      live_sets = refl;
      count = refl;
      ready = refl;
      guests = c.tell_base.ensures.told;
    })
    c.self.invariant

pub returns-clause-told : goal.returns-clause-told
returns-clause-told c =
    rw (← c.self.view_is)
    (tells-state c.self.inside (record c.self.inside { guests = c.tell_base.new.guests }) c.args.guest c.tell_base.result
    (record {
      same = record { tag = refl; limits = refl; producers = refl; kept = refl; consumers = refl; contexts = refl; trapped = refl };
      counter = refl;
      streams = refl;
      places = refl;
      live_sets = refl;
      count = refl;
      ready = refl;
      guests = c.tell_base.ensures.told;
    }))

pub returns-clause-again : goal.returns-clause-again
returns-clause-again c = rw (← c.self.view_is) c.tell_base.ensures.again
