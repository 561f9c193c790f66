use Rattle.std.proofs.Common.{subst, refl}
use Rattle.strm_machine.specs.declared.streams.Owner.TheVariants.{Gone}
use Rattle.strm_machine.specs.declared.streams.Stream.{Stream}
use Rattle.strm_channels.specs.Guests.{guests_of}
use Rattle.strm_transmit.specs.ReadyGuests.{Retold}
use Rattle.strm_transmit.proofs.MoveLemmas.{IsStore-owned}
use Rattle.strm_transmit.proofs.StoreLemmas.{set_at}
use Rattle.strm_transmit.proofs.PlaceLemmas.{gone_stays}
use Rattle.strm_transmit.proofs.ReadyGuestLemmas.{same_counts}
use Rattle.strm_transmit.proofs.store.Store.lose.Goals as goal

pub set_owner-requires-clause-gone : goal.set_owner-requires-clause-gone
set_owner-requires-clause-gone c = gone_stays c.args.side _

pub invariant_of-self : goal.invariant_of-self
invariant_of-self c =
    IsStore-owned c.self.inside _ c.args.stream c.args.side Gone c.self.inside.ready (rw (← c.self.view_is) at c.requires.there) refl
    (record {
      same = record { tag = refl; limits = refl; producers = refl; kept = refl; consumers = refl; contexts = refl; trapped = refl };
      bytes = refl;
      live_sets = refl;
      counted = c.set_owner.ensures.places;
      streams = c.set_owner.ensures.streams;
      retold = subst (λ (x : Stream). Retold (guests_of c.self.inside.guests.items) c.args.stream x c.self.inside.ready c.retell.new.self)
          (set_at c.self.inside.streams.items c.set_owner.new.streams.items c.args.stream _ c.index.result.now (rw (← c.self.view_is) at c.requires.there) c.set_owner.ensures.streams c.index.ensures) c.retell.ensures;
      kept_counts = same_counts c.self.inside.ready;
    })
    c.self.invariant (rw (← c.self.view_is) at c.requires.unheld) refl refl
    (record { counter = refl; guests = refl })
