use Rattle.std.proofs.Common.{◌≡◌, ℕ, List, length, refl, ap, ◌∙◌, subst, arith}
use Rattle.strm_machine.specs.declared.streams.Stream.{Stream}
use Rattle.strm_transmit.specs.ReadyGuests.{Retold}
use Rattle.strm_transmit.proofs.PlaceLemmas.{live_stays}
use Rattle.strm_transmit.proofs.StoreLemmas.{set_at}
use Rattle.std.proofs.lemmas.List.{length-map, length-set}
use Rattle.strm_machine.specs.State.{stream_at}
use Rattle.strm_machine.specs.Moves.{with_owner}
use Rattle.strm_machine.specs.declared.streams.Owner.TheVariants.{Held}
use Rattle.strm_machine.specs.Tests.{named, side_named}
use Rattle.strm_machine.specs.declared.streams.Side.{Side}
use Rattle.strm_machine.proofs.RefusalLemmas.{move_fits}
use Rattle.strm_channels.specs.Guests.{guest_of, guests_of}
use Rattle.strm_transmit.specs.Inside.{state_of}
use Rattle.strm_transmit.proofs.EndingLemmas.{removable_named, named_made, named_live}
use Rattle.strm_transmit.proofs.MoveLemmas.{IsStore-moved}
use Rattle.strm_transmit.proofs.store.Store.move_named.Goals as goal

pub home_of-home-requires : goal.home_of-home-requires
home_of-home-requires c =
    let fits = move_fits (state_of c.self.inside) c.args.end.now c.args.to (rw (← c.self.view_is) at c.requires.may) in
    omega (arith, fits.leaves.there, length-map c.self.inside.guests.items guest_of)

pub move_end-requires-clause-from : goal.move_end-requires-clause-from
move_end-requires-clause-from c =
    let fits = move_fits (state_of c.self.inside) c.args.end.now c.args.to (rw (← c.self.view_is) at c.requires.may) in
    omega (arith, fits.leaves.there, length-map c.self.inside.guests.items guest_of)

pub move_end-requires-clause-to : goal.move_end-requires-clause-to
move_end-requires-clause-to c =
    let fits = move_fits (state_of c.self.inside) c.args.end.now c.args.to (rw (← c.self.view_is) at c.requires.may) in
    omega (arith, fits.to_there, length-map c.self.inside.guests.items guest_of)

pub move_end-requires-clause-idle : goal.move_end-requires-clause-idle
move_end-requires-clause-idle c =
    let fits = move_fits (state_of c.self.inside) c.args.end.now c.args.to (rw (← c.self.view_is) at c.requires.may) in
    let state = state_of c.self.inside in
    rw (rw (← c.self.view_is) at c.requires.found)
    (removable_named state (side_named (named state c.args.end.now)) c.args.end.now c.self.invariant.sound fits.leaves)

pub move_end-requires-clause-small : goal.move_end-requires-clause-small
move_end-requires-clause-small c =
    let fits = move_fits (state_of c.self.inside) c.args.end.now c.args.to (rw (← c.self.view_is) at c.requires.may) in
    fits.number

pub set_owner-requires-clause-there : goal.set_owner-requires-clause-there
set_owner-requires-clause-there c =
    let fits = move_fits (state_of c.self.inside) c.args.end.now c.args.to (rw (← c.self.view_is) at c.requires.may) in
    let state = state_of c.self.inside in
    named_made state (side_named (named state c.args.end.now)) c.args.end.now c.args.found.0 c.self.invariant.sound fits.leaves
    (ap (λ (q : ℕ × Side). q.0) (rw (← c.self.view_is) at c.requires.found))

pub set_owner-requires-clause-gone : goal.set_owner-requires-clause-gone
set_owner-requires-clause-gone c =
    let fits = move_fits (state_of c.self.inside) c.args.end.now c.args.to (rw (← c.self.view_is) at c.requires.may) in
    let state = state_of c.self.inside in
    let old = stream_at state c.args.found.0 in
    live_stays old (with_owner c.args.found.1 old (Held c.args.to c.in_ok-handle.handle))
    (named_live state (side_named (named state c.args.end.now)) c.args.end.now c.args.found.0 c.self.invariant.sound c.self.invariant.held fits.leaves
    (ap (λ (q : ℕ × Side). q.0) (rw (← c.self.view_is) at c.requires.found)))

pub index-requires : goal.index-requires
index-requires c =
    let fits = move_fits (state_of c.self.inside) c.args.end.now c.args.to (rw (← c.self.view_is) at c.requires.may) in
    let made = named_made (state_of c.self.inside) (side_named (named (state_of c.self.inside) c.args.end.now)) c.args.end.now c.args.found.0 c.self.invariant.sound fits.leaves
    (ap (λ (q : ℕ × Side). q.0) (rw (← c.self.view_is) at c.requires.found)) in
    let same : length c.set_owner.new.streams.items ≡ length c.self.inside.streams.items = ap (λ (xs : List Stream). length xs) c.set_owner.ensures.streams ∙ length-set c.self.inside.streams.items c.args.found.0 _ in
    omega (arith, made, same, c.set_owner.new.streams.ok)

pub invariant_of-self-2 : goal.invariant_of-self-2
invariant_of-self-2 c =
    let fits = move_fits (state_of c.self.inside) c.args.end.now c.args.to (rw (← c.self.view_is) at c.requires.may) in
    let made = named_made (state_of c.self.inside) (side_named (named (state_of c.self.inside) c.args.end.now)) c.args.end.now c.args.found.0 c.self.invariant.sound fits.leaves
    (ap (λ (q : ℕ × Side). q.0) (rw (← c.self.view_is) at c.requires.found)) in
    IsStore-moved c.self.inside _ c.args.found.0 c.args.found.1 c.args.end.now c.args.to c.in_ok-handle.handle c.leave.new.self
    (record {
      same = record { tag = refl; limits = refl; producers = refl; kept = refl; consumers = refl; contexts = refl; trapped = refl };
      bytes = refl;
      live_sets = refl;
      counted = c.set_owner.ensures.places;
      streams = c.set_owner.ensures.streams;
      retold = subst (λ (x : Stream). Retold (guests_of c.move_end.new.guests.items) c.args.found.0 x c.leave.new.self c.retell.new.self)
          (set_at c.self.inside.streams.items c.set_owner.new.streams.items c.args.found.0 _ c.index.result.now made c.set_owner.ensures.streams c.index.ensures) c.retell.ensures;
      kept_counts = c.leave.ensures.counts;
    })
    c.in_ok-handle.ensures.moves
    (record { home = c.home_of-home.result; is = c.home_of-home.ensures; leaves = c.leave.ensures.leaves })
    (rw (← c.self.view_is) at c.requires.untrapped) (rw (← c.self.view_is) at c.requires.may)
    (ap (λ (q : ℕ × Side). q.0) (rw (← c.self.view_is) at c.requires.found)) (ap (λ (q : ℕ × Side). q.1) (rw (← c.self.view_is) at c.requires.found))
    c.self.invariant
