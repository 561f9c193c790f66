use Rattle.std.proofs.Common.{◌≡◌, true, List, length, refl, sym, ap, ◌∙◌, subst, arith}
use Rattle.std.proofs.lemmas.List.{length-set}
use Rattle.strm_machine.specs.Moments.{is_end}
use Rattle.strm_machine.specs.State.{stream_at}
use Rattle.strm_machine.specs.Moves.{with_owner}
use Rattle.strm_machine.specs.Tests.{end_named}
use Rattle.strm_machine.specs.declared.streams.Stream.{Stream}
use Rattle.strm_channels.specs.Guests.{guests_of}
use Rattle.strm_channels.proofs.EndLemmas.{removable_end}
use Rattle.strm_transmit.specs.ReadyGuests.{Retold}
use Rattle.strm_transmit.proofs.PlaceLemmas.{live_stays}
use Rattle.strm_transmit.proofs.StoreLemmas.{set_at}
use Rattle.strm_transmit.specs.Inside.{state_of}
use Rattle.strm_transmit.proofs.EndingLemmas.{removable_named, named_made, named_end_is, named_live}
use Rattle.strm_transmit.proofs.MoveLemmas.{IsStore-released}
use Rattle.strm_transmit.proofs.store.Store.release.Goals as goal

pub remove_end-requires-clause-end : goal.remove_end-requires-clause-end
remove_end-requires-clause-end c =
    let end = c.args.end.now in
    removable_end c.args.side end.ty _ end.handle (removable_named (state_of c.self.inside) c.args.side end c.self.invariant.sound (rw (← c.self.view_is) at c.requires.fits))

pub set_owner-requires-clause-there : goal.set_owner-requires-clause-there
set_owner-requires-clause-there c =
    named_made (state_of c.self.inside) c.args.side c.args.end.now c.args.stream c.self.invariant.sound
    (rw (← c.self.view_is) at c.requires.fits) (rw (← c.self.view_is) at c.requires.stream)

pub set_owner-requires-clause-gone : goal.set_owner-requires-clause-gone
set_owner-requires-clause-gone c =
    let state = state_of c.self.inside in
    let fits = rw (← c.self.view_is) at c.requires.fits in
    live_stays (stream_at state c.args.stream) (with_owner c.args.side (stream_at state c.args.stream) c.args.owner) (named_live state c.args.side c.args.end.now c.args.stream c.self.invariant.sound c.self.invariant.held fits (rw (← c.self.view_is) at c.requires.stream))

pub index-requires : goal.index-requires
index-requires c =
    let made = named_made (state_of c.self.inside) c.args.side c.args.end.now c.args.stream c.self.invariant.sound
    (rw (← c.self.view_is) at c.requires.fits) (rw (← c.self.view_is) at c.requires.stream) in
    let same : length c.set_owner.new.streams.items ≡ length c.self.inside.streams.items = ap (λ (xs : List Stream). length xs) c.set_owner.ensures.streams ∙ length-set c.self.inside.streams.items c.args.stream _ in
    omega (arith, made, same, c.set_owner.new.streams.ok)

pub invariant_of-self : goal.invariant_of-self
invariant_of-self c =
    let i = c.self.inside in
    let state = state_of i in
    let fits = rw (← c.self.view_is) at c.requires.fits in
    let stream = rw (← c.self.view_is) at c.requires.stream in
    let made = named_made state c.args.side c.args.end.now c.args.stream c.self.invariant.sound fits stream in
    IsStore-released i _ c.args.stream c.args.side c.args.owner c.leave.new.self made c.requires.owner
    (record {
      same = record { tag = refl; limits = refl; producers = refl; kept = refl; consumers = refl; contexts = refl; trapped = refl };
      bytes = refl;
      live_sets = refl;
      counted = c.set_owner.ensures.places;
      streams = c.set_owner.ensures.streams;
      retold = subst (λ (x : Stream). Retold (guests_of c.remove_end.new.guests.items) c.args.stream x c.leave.new.self c.retell.new.self)
          (set_at i.streams.items c.set_owner.new.streams.items c.args.stream _ c.index.result.now made c.set_owner.ensures.streams c.index.ensures) c.retell.ensures;
      kept_counts = c.leave.ensures.counts;
    })
    c.self.invariant c.args.end.now.guest c.args.end.now.handle fits.there
    (subst (λ n. is_end n c.args.side (end_named state c.args.end.now.guest c.args.end.now.handle) ≡ true) (sym stream) (named_end_is state c.args.side c.args.end.now c.self.invariant.sound fits))
    c.requires.given
    (record { home = c.home_of-home.result; is = c.home_of-home.ensures; leaves = c.leave.ensures.leaves })
    c.remove_end.ensures.frees
