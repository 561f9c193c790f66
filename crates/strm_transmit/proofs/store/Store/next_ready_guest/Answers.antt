use Rattle.std.proofs.Common.{subst}
use Rattle.std.proofs.lemmas.List.{length-map}
use Rattle.strm_channels.specs.Guests.{guest_of, guests_of}
use Rattle.strm_transmit.specs.Inside.{state_of}
use Rattle.strm_transmit.specs.ReadyGuests.{AreWithin}
use Rattle.strm_transmit.proofs.ReadyGuestLemmas.{ends_within, tells_next, next_answer}
use Rattle.strm_transmit.proofs.store.Store.next_ready_guest.Goals as goal

pub count-requires-clause-within : goal.count-requires-clause-within
count-requires-clause-within c =
    let guests = c.self.inside.guests.items in
    subst (λ n. AreWithin n c.self.inside.streams.items) (length-map guests guest_of)
    (ends_within (guests_of guests) c.self.inside.streams.items c.self.invariant.held)

pub returns : goal.returns
returns c = record {
  exact = rw (← c.self.view_is)
      (next_answer (state_of c.self.inside) c.count.new.self c.args.from c.next_guest.result c.in_ok-count.ensures.counted
      c.in_ok-count.ensures.counting c.in_ok-count.ensures.settled
      (tells_next c.count.new.self.counts c.args.from c.next_guest.result c.next_guest.ensures.some c.next_guest.ensures.none));
  same = c.self.view_is;
}
