use Rattle.std.proofs.Common.{◌≡◌, List, length, refl, ap, ◌∙◌, subst, arith}
use Rattle.strm_machine.specs.State.{stream_at}
use Rattle.strm_machine.specs.Moves.{with_owner}
use Rattle.strm_machine.specs.declared.streams.Owner.TheVariants.{Held}
use Rattle.strm_machine.specs.declared.streams.Side.TheVariants.{Reading}
use Rattle.strm_machine.specs.declared.streams.Stream.{Stream}
use Rattle.strm_transmit.specs.ReadyGuests.{Retold}
use Rattle.strm_transmit.proofs.PlaceLemmas.{loose_live, live_stays}
use Rattle.strm_transmit.proofs.StoreLemmas.{set_at}
use Rattle.std.proofs.lemmas.List.{length-map, length-set}
use Rattle.strm_machine.proofs.RefusalLemmas.{lower_fits}
use Rattle.strm_channels.specs.Guests.{guest_of, guests_of}
use Rattle.strm_transmit.specs.Inside.{state_of}
use Rattle.strm_transmit.proofs.MoveLemmas.{lower_made, IsStore-lowered}
use Rattle.strm_transmit.proofs.ReadyGuestLemmas.{same_counts}
use Rattle.strm_transmit.proofs.store.Store.lower_loose.Goals as goal

pub give_end-requires-clause-there : goal.give_end-requires-clause-there
give_end-requires-clause-there c =
    let fits = lower_fits (state_of c.self.inside) c.args.reader c.args.guest c.args.ty (rw (← c.self.view_is) at c.requires.may) in
    omega (arith, fits.there, length-map c.self.inside.guests.items guest_of)

pub give_end-requires-clause-small : goal.give_end-requires-clause-small
give_end-requires-clause-small c =
    (lower_fits (state_of c.self.inside) c.args.reader c.args.guest c.args.ty (rw (← c.self.view_is) at c.requires.may)).number

pub give_end-requires-clause-below : goal.give_end-requires-clause-below
give_end-requires-clause-below c =
    let fits = lower_fits (state_of c.self.inside) c.args.reader c.args.guest c.args.ty (rw (← c.self.view_is) at c.requires.may) in
    omega (arith, fits.handles, c.self.invariant.limit, c.self.invariant.live)

pub set_owner-requires-clause-there : goal.set_owner-requires-clause-there
set_owner-requires-clause-there c = lower_made (state_of c.self.inside) c.args.reader c.args.guest c.args.ty (rw (← c.self.view_is) at c.requires.may)

pub set_owner-requires-clause-gone : goal.set_owner-requires-clause-gone
set_owner-requires-clause-gone c =
    let old = stream_at (state_of c.self.inside) c.args.reader in
    live_stays old (with_owner Reading old (Held c.args.guest c.in_ok-handle.handle))
    (loose_live old (lower_fits (state_of c.self.inside) c.args.reader c.args.guest c.args.ty (rw (← c.self.view_is) at c.requires.may)).loose)

pub index-requires : goal.index-requires
index-requires c =
    let made = lower_made (state_of c.self.inside) c.args.reader c.args.guest c.args.ty (rw (← c.self.view_is) at c.requires.may) in
    let same : length c.set_owner.new.streams.items ≡ length c.self.inside.streams.items = ap (λ (xs : List Stream). length xs) c.set_owner.ensures.streams ∙ length-set c.self.inside.streams.items c.args.reader _ in
    omega (arith, made, same, c.set_owner.new.streams.ok)

pub invariant_of-self-2 : goal.invariant_of-self-2
invariant_of-self-2 c =
    IsStore-lowered c.self.inside _ c.args.reader c.args.guest c.args.ty c.in_ok-handle.handle
    (record {
      same = record { tag = refl; limits = refl; producers = refl; kept = refl; consumers = refl; contexts = refl; trapped = refl };
      bytes = refl;
      live_sets = refl;
      counted = c.set_owner.ensures.places;
      streams = c.set_owner.ensures.streams;
      retold = subst (λ (x : Stream). Retold (guests_of c.give_end.new.guests.items) c.args.reader x c.self.inside.ready c.retell.new.self)
          (set_at c.self.inside.streams.items c.set_owner.new.streams.items c.args.reader _ c.index.result.now (lower_made (state_of c.self.inside) c.args.reader c.args.guest c.args.ty (rw (← c.self.view_is) at c.requires.may)) c.set_owner.ensures.streams c.index.ensures) c.retell.ensures;
      kept_counts = same_counts c.self.inside.ready;
    })
    c.in_ok-handle.ensures.gives.ok
    (rw (← c.self.view_is) at c.requires.untrapped) (rw (← c.self.view_is) at c.requires.may)
    c.self.invariant
