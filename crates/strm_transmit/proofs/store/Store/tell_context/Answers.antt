use Rattle.std.proofs.Common.{refl, arith}
use Rattle.std.proofs.lemmas.List.{length-map}
use Rattle.strm_machine.proofs.ContextStepLemmas.{text_fits}
use Rattle.strm_channels.specs.Guests.{guest_of}
use Rattle.strm_transmit.specs.Inside.{state_of}
use Rattle.strm_transmit.proofs.StoreLemmas.{IsStore-put}
use Rattle.strm_transmit.proofs.ContextLemmas.{message_is_short, texts-put}
use Rattle.strm_transmit.proofs.store.Store.tell_context.Goals as goal

pub tell_message-requires : goal.tell_message-requires
tell_message-requires c =
    let number = rw (← c.self.view_is) at c.requires.context in
    let fits = text_fits (state_of c.self.inside) c.args.guest c.args.handle c.args.address c.self.invariant.sound (rw (← c.self.view_is) at c.requires.may) in
    record {
      there = omega (arith, fits.bytes.there, length-map c.self.inside.guests.items guest_of);
      inside = rw number fits.bytes.inside;
      short = message_is_short c.self.inside c.args.context c.self.invariant;
    }

pub invariant_of-self : goal.invariant_of-self
invariant_of-self c =
    let number = rw (← c.self.view_is) at c.requires.context in
    let fits = text_fits (state_of c.self.inside) c.args.guest c.args.handle c.args.address c.self.invariant.sound (rw (← c.self.view_is) at c.requires.may) in
    IsStore-put c.self.inside _ c.args.guest c.args.address _
    (record {
      same = record { tag = refl; limits = refl; producers = refl; kept = refl; consumers = refl; contexts = refl; trapped = refl };
      counter = refl;
      streams = refl;
      places = refl;
      live_sets = refl;
      count = refl;
      ready = refl;
      guests = rw (← number) c.tell_message.ensures.guests;
    })
    fits.bytes c.self.invariant

pub returns : goal.returns
returns c =
    let number = rw (← c.self.view_is) at c.requires.context in
    rw (← c.self.view_is)
    (texts-put c.self.inside (record c.self.inside { guests = c.tell_message.new.guests }) c.args.guest c.args.handle c.args.address c.tell_message.result
    (record {
      same = record { tag = refl; limits = refl; producers = refl; kept = refl; consumers = refl; contexts = refl; trapped = refl };
      counter = refl;
      streams = refl;
      places = refl;
      live_sets = refl;
      count = refl;
      ready = refl;
      guests = rw (← number) c.tell_message.ensures.guests;
    })
    (rw (← number) c.tell_message.ensures.len))
