use Rattle.std.proofs.Common.{refl, subst, arith}
use Rattle.strm_machine.specs.State.{stream_at}
use Rattle.strm_machine.specs.Moves.{with_owner}
use Rattle.strm_machine.specs.declared.streams.Owner.TheVariants.{Host}
use Rattle.strm_machine.specs.declared.streams.Side.TheVariants.{Reading}
use Rattle.strm_machine.specs.declared.streams.Stream.{Stream}
use Rattle.strm_channels.specs.Guests.{guests_of}
use Rattle.strm_transmit.specs.Inside.{state_of}
use Rattle.strm_transmit.specs.ReadyGuests.{Retold}
use Rattle.strm_transmit.proofs.PlaceLemmas.{loose_live, live_stays}
use Rattle.strm_transmit.proofs.StoreLemmas.{set_at}
use Rattle.strm_transmit.proofs.PipeStoreLemmas.{IsStore-handed}
use Rattle.strm_transmit.proofs.store.Store.hand_to.Goals as goal

pub set_owner-requires-clause-gone : goal.set_owner-requires-clause-gone
set_owner-requires-clause-gone c =
    let old = stream_at (state_of c.self.inside) c.args.stream in
    live_stays old (with_owner Reading old (Host c.args.host)) (loose_live old (rw (← c.self.view_is) at c.requires.loose))

pub invariant_of-self : goal.invariant_of-self
invariant_of-self c =
    IsStore-handed c.self.inside _ c.args.stream c.args.host _
    (record {
      made = rw (← c.self.view_is) at c.requires.there;
      kept = omega (arith, c.self.invariant.served.all_readers, c.requires.known);
      unused = rw (← c.self.view_is) at c.requires.unused;
      serves = refl;
      tag = refl;
      limits = refl;
      contexts = refl;
      counter = refl;
      guests = refl;
      live_sets = refl;
      bytes = refl;
      counted = c.set_owner.ensures.places;
      streams = c.set_owner.ensures.streams;
      producers = refl;
      same_kept = refl;
      consumers = refl;
      loose = rw (← c.self.view_is) at c.requires.loose;
      retold = subst (λ (x : Stream). Retold (guests_of c.self.inside.guests.items) c.args.stream x c.self.inside.ready c.retell.new.self)
          (set_at c.self.inside.streams.items c.set_owner.new.streams.items c.args.stream _ c.index.result.now (rw (← c.self.view_is) at c.requires.there) c.set_owner.ensures.streams c.index.ensures) c.retell.ensures;
    })
    c.self.invariant
