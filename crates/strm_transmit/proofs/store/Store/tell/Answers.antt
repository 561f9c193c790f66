use Rattle.std.proofs.Common.{refl, ap, ◌∙◌, sym, set, subst}
use Rattle.strm_machine.specs.Endings.{delivered}
use Rattle.strm_machine.specs.State.{stream_at}
use Rattle.strm_machine.specs.Soundness.{sizes_of}
use Rattle.strm_machine.specs.declared.streams.Stream.{Stream}
use Rattle.strm_machine.proofs.EndingLemmas.{delivered-keeps}
use Rattle.strm_channels.specs.Guests.{guests_of}
use Rattle.strm_transmit.specs.Inside.{state_of}
use Rattle.strm_transmit.specs.ReadyGuests.{Retold}
use Rattle.strm_transmit.proofs.StoreLemmas.{stream_at-there}
use Rattle.strm_transmit.proofs.EndingLemmas.{IsStore-set}
use Rattle.strm_transmit.proofs.store.Store.tell.Goals as goal

pub invariant_of-self : goal.invariant_of-self
invariant_of-self c =
    let there = rw (← c.self.view_is) at c.requires in
    let here = stream_at-there c.self.inside c.args.stream c.index_mut-meeting.result.now there c.index_mut-meeting.ensures.value in
    let stream = stream_at (state_of c.self.inside) c.args.stream in
    IsStore-set c.self.inside _ c.args.stream (delivered c.args.side stream) there
    (delivered-keeps c.args.side (sizes_of (guests_of c.self.inside.guests.items)) stream)
    (record {
      same = record { tag = refl; limits = refl; producers = refl; kept = refl; consumers = refl; contexts = refl; trapped = refl };
      counter = refl;
      guests = refl;
      places = refl;
      live_sets = refl;
      bytes = refl;
      streams = ap (set c.self.inside.streams.items c.args.stream) (c.deliver-told.ensures.stream ∙ ap (λ (s : Stream). delivered c.args.side s) (sym here));
      retold = subst (λ (x : Stream). Retold (guests_of c.self.inside.guests.items) c.args.stream x c.self.inside.ready c.retell.new.self) (c.deliver-told.ensures.stream ∙ ap (λ (s : Stream). delivered c.args.side s) (sym here)) c.retell.ensures;
    })
    c.self.invariant
