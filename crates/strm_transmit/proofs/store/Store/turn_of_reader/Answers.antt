use Rattle.std.proofs.Common.{◌≡◌, set, refl, sym, ap, ◌∙◌, subst}
use Rattle.strm_machine.specs.State.{State, stream_at, is_live}
use Rattle.strm_machine.specs.declared.streams.Side.TheVariants.{Reading}
use Rattle.strm_machine.specs.declared.streams.Stream.{Stream}
use Rattle.strm_machine.proofs.SoundLemmas.{placed_at}
use Rattle.strm_transmit.specs.Inside.{state_of}
use Rattle.strm_transmit.specs.Places.{Places, ArePlaces}
use Rattle.strm_transmit.proofs.PlaceLemmas.{ArePlaces-settled, some_live, some_room, host_live, live_stays}
use Rattle.strm_transmit.proofs.StoreLemmas.{stream_at-there}
use Rattle.strm_transmit.proofs.ReaderTurnLemmas.{take_keeps}
use Rattle.strm_transmit.proofs.SceneStoreLemmas.{taking_of, IsStore-taking, reader_kept, reading_fits}
use Rattle.strm_transmit.proofs.store.Store.turn_of_reader.Goals as goal

pub bounds-self-inside-number : goal.bounds-self-inside-number
bounds-self-inside-number g c = reader_kept c.self.inside c.args.self.now c.args.number c.args.stream c.self.view_is c.self.invariant c.requires.owner

pub reader_turn_at-taken-requires-clause-there : goal.reader_turn_at-taken-requires-clause-there
reader_turn_at-taken-requires-clause-there g c =
    (reading_fits c.self.inside c.args.self.now c.args.number c.args.stream c.self.view_is c.self.invariant c.requires.owner _ c.requires.fits).there

pub reader_turn_at-taken-requires-clause-payload : goal.reader_turn_at-taken-requires-clause-payload
reader_turn_at-taken-requires-clause-payload g c =
    let there = rw (← c.self.view_is) at c.requires.there in
    let here = stream_at-there c.self.inside c.args.stream c.index_mut-served.result.now there c.index_mut-served.ensures.value in
    let now = subst (λ (x : State). stream_at x c.args.stream ≡ c.index_mut-served.result.now) c.self.view_is here in
    (reading_fits c.self.inside c.args.self.now c.args.number c.args.stream c.self.view_is c.self.invariant c.requires.owner _ c.requires.fits).payload
    ∙ ap (λ (x : Stream). x.payload) now

pub settle-requires-clause-live : goal.settle-requires-clause-live
settle-requires-clause-live g c =
    λ was. some_live c.self.inside.places c.self.inside.streams.items c.args.stream (rw (← c.self.view_is) at c.requires.there)
    (host_live (stream_at (state_of c.self.inside) c.args.stream) Reading c.args.number (rw (← c.self.view_is) at c.requires.owner)) c.self.invariant.places

pub settle-requires-clause-room : goal.settle-requires-clause-room
settle-requires-clause-room g c =
    λ was. some_room c.self.inside.places c.self.inside.streams.items (settle-requires-clause-live g c was) c.self.invariant.places

pub invariant_of-self : goal.invariant_of-self
invariant_of-self g c =
    let there = rw (← c.self.view_is) at c.requires.there in
    let placed = rw (← c.self.view_is) at c.requires.placed in
    let owner = rw (← c.self.view_is) at c.requires.owner in
    let here = stream_at-there c.self.inside c.args.stream c.index_mut-served.result.now there c.index_mut-served.ensures.value in
    let takes = rw (← here) at c.reader_turn_at-taken.ensures.takes in
    let keeps = take_keeps (taking_of c.self.inside c.args.stream c.args.number _) c.args.write.now placed
    (placed_at (state_of c.self.inside) c.args.stream there c.self.invariant.sound) _ _ takes in
    IsStore-taking c.self.inside _ c.args.stream c.args.number _ _ there owner keeps
    (record {
      tag = refl;
      limits = refl;
      contexts = refl;
      counter = refl;
      live_sets = refl;
      bytes = refl;
      counted = subst (λ (p : Places). ArePlaces p (set c.self.inside.streams.items c.args.stream c.reader_turn_at-taken.new.stream)) (sym c.settle.ensures)
          (ArePlaces-settled c.self.inside.streams.items c.args.stream c.reader_turn_at-taken.new.stream there c.self.inside.places c.is_live-was_live.result c.is_live.result
          (c.is_live-was_live.ensures ∙ ap is_live (sym here)) c.is_live.ensures (live_stays (stream_at (state_of c.self.inside) c.args.stream) c.reader_turn_at-taken.new.stream (host_live (stream_at (state_of c.self.inside) c.args.stream) Reading c.args.number owner)) c.self.invariant.places);
      guests = refl;
      streams = refl;
      producers = refl;
      kept = refl;
      consumers = refl;
      retold = c.retell.ensures;
    })
    c.self.invariant
