use Rattle.std.proofs.Common.{refl, arith}
use Rattle.std.proofs.lemmas.List.{length-map}
use Rattle.strm_channels.specs.Guests.{guest_of}
use Rattle.strm_transmit.specs.Inside.{state_of}
use Rattle.strm_machine.proofs.RefusalLemmas.{poke_fits}
use Rattle.strm_transmit.proofs.StoreLemmas.{performs-poke, IsStore-poke}
use Rattle.strm_transmit.proofs.store.Store.put_bytes.Goals as goal

pub write_bytes-requires : goal.write_bytes-requires
write_bytes-requires c =
    let fits = poke_fits (state_of c.self.inside) c.args.guest c.args.address c.args.bytes.now (rw (← c.self.view_is) at c.requires) in
    record {
      there = omega (arith, fits.there, length-map c.self.inside.guests.items guest_of);
      inside = fits.inside;
    }

pub invariant_of-self : goal.invariant_of-self
invariant_of-self c =
    IsStore-poke c.self.inside (record c.self.inside { guests = c.write_bytes.new.guests }) c.args.guest c.args.address c.args.bytes.now
    (record {
      same = record { tag = refl; limits = refl; producers = refl; kept = refl; consumers = refl; contexts = refl; trapped = refl };
      counter = refl;
      streams = refl;
      places = refl;
      live_sets = refl;
      count = refl;
      ready = refl;
      guests = c.write_bytes.ensures.guests;
    })
    (rw (← c.self.view_is) at c.requires) c.self.invariant

pub returns : goal.returns
returns c =
    rw (← c.self.view_is)
    (performs-poke c.self.inside (record c.self.inside { guests = c.write_bytes.new.guests }) c.args.guest c.args.address c.args.bytes.now
    (record {
      same = record { tag = refl; limits = refl; producers = refl; kept = refl; consumers = refl; contexts = refl; trapped = refl };
      counter = refl;
      streams = refl;
      places = refl;
      live_sets = refl;
      count = refl;
      ready = refl;
      guests = c.write_bytes.ensures.guests;
    }))
