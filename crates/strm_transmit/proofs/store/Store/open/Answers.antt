use Rattle.std.proofs.Common.{refl, ap, ◌∙◌, sym, set, subst}
use Rattle.strm_machine.specs.Sides.{with_operation}
use Rattle.strm_machine.specs.State.{stream_at}
use Rattle.strm_machine.specs.Soundness.{sizes_of}
use Rattle.strm_machine.specs.declared.streams.Operation.{Operation}
use Rattle.strm_machine.specs.declared.streams.Stream.{Stream}
use Rattle.strm_machine.proofs.SideLemmas.{with_operation-keeps}
use Rattle.strm_channels.specs.Guests.{guests_of}
use Rattle.strm_transmit.specs.Inside.{state_of}
use Rattle.strm_transmit.specs.ReadyGuests.{Retold}
use Rattle.strm_transmit.proofs.StoreLemmas.{stream_at-there}
use Rattle.strm_transmit.proofs.EndingLemmas.{IsStore-set}
use Rattle.strm_transmit.proofs.store.Store.open.Goals as goal

pub invariant_of-self : goal.invariant_of-self
invariant_of-self c =
    let there = rw (← c.self.view_is) at c.requires.there in
    let placed = rw (← c.self.view_is) at c.requires.placed in
    let here = stream_at-there c.self.inside c.args.stream c.index_mut-meeting.result.now there c.index_mut-meeting.ensures.value in
    let stream = stream_at (state_of c.self.inside) c.args.stream in
    IsStore-set c.self.inside _ c.args.stream (with_operation c.args.side stream c.args.operation) there
    (λ h. with_operation-keeps c.args.side (sizes_of (guests_of c.self.inside.guests.items)) stream c.args.operation h placed)
    (record {
      same = record { tag = refl; limits = refl; producers = refl; kept = refl; consumers = refl; contexts = refl; trapped = refl };
      counter = refl;
      guests = refl;
      places = refl;
      live_sets = refl;
      bytes = refl;
      streams = ap (set c.self.inside.streams.items c.args.stream) (c.begin.ensures ∙ ap (λ (o : Operation). with_operation c.args.side c.index_mut-meeting.result.now o) (sym c.requires.begun) ∙ ap (λ (s : Stream). with_operation c.args.side s c.args.operation) (sym here));
      retold = subst (λ (x : Stream). Retold (guests_of c.self.inside.guests.items) c.args.stream x c.self.inside.ready c.retell.new.self) (c.begin.ensures ∙ ap (λ (o : Operation). with_operation c.args.side c.index_mut-meeting.result.now o) (sym c.requires.begun) ∙ ap (λ (s : Stream). with_operation c.args.side s c.args.operation) (sym here)) c.retell.ensures;
    })
    c.self.invariant
