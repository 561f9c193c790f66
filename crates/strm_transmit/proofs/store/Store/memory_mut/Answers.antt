use Rattle.std.proofs.Common.{refl, sym, arith, ◌<◌, length, ◌∙◌}
use Rattle.std.proofs.lemmas.List.{length-map}
use Rattle.strm_channels.specs.Guests.{guest_of}
use Rattle.strm_channels.proofs.GuestLemmas.{memory_in-seen}
use Rattle.strm_transmit.proofs.LendingLemmas.{lent-keeps, lent-state}
use Rattle.strm_transmit.proofs.store.Store.memory_mut.Goals as goal

pub invariant_of-self-lent : goal.invariant_of-self-lent
invariant_of-self-lent c = λ w.
    let known = rw (← c.self.view_is) at c.requires in
    let there : c.args.guest < length c.self.inside.guests.items = omega (arith, known, length-map c.self.inside.guests.items guest_of) in
    lent-keeps c.self.inside c.args.guest c.index_mut-guest.result.now there c.index_mut-guest.ensures.value w c.self.invariant

pub returns : goal.returns
returns c =
    let known = rw (← c.self.view_is) at c.requires in
    let there : c.args.guest < length c.self.inside.guests.items = omega (arith, known, length-map c.self.inside.guests.items guest_of) in (
      (refl, λ w. rw (← c.self.view_is) (lent-state c.self.inside c.args.guest c.index_mut-guest.result.now there c.index_mut-guest.ensures.value w)),
      record {
        value = rw (← c.self.view_is) (c.bytes_mut.ensures.value ∙ sym (memory_in-seen c.self.inside.guests.items c.args.guest c.index_mut-guest.result.now there c.index_mut-guest.ensures.value));
        lends = tt;
      },
    )
