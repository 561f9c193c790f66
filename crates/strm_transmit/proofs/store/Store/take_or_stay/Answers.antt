use Rattle.std.proofs.Common.{◌≡◌, ap, sym, refl, ◌∙◌, set, subst, true, OnErr}
use Rattle.strm_machine.specs.State.{State}
use Rattle.strm_machine.specs.Reactions.{goes, on_stream}
use Rattle.strm_machine.specs.declared.replies.Reply.TheVariants as replies
use Rattle.strm_machine.specs.Operating.{Operated, operate}
use Rattle.strm_machine.proofs.TurnLemmas.{operated-keeps}
use Rattle.strm_machine.proofs.SoundLemmas.{placed_at}
use Rattle.strm_channels.specs.Guests.{guests_of}
use Rattle.strm_transmit.specs.Inside.{state_of}
use Rattle.strm_transmit.specs.ReadyGuests.{Retold}
use Rattle.strm_transmit.proofs.BadItemLemmas.{on_err-bad, on_err-stays}
use Rattle.strm_transmit.proofs.StoreLemmas.{IsStore-turn, stream_at-there}
use Rattle.strm_transmit.proofs.store.Store.take_or_stay.Goals as goal

pub invariant_of-self : goal.invariant_of-self
invariant_of-self c =
    let e = ap (λ s. operate c.args.side (guests_of c.self.inside.guests.items) s c.args.mine) (stream_at-there c.self.inside c.args.stream c.index_mut-meeting.result.now (rw (← c.self.view_is) at c.requires.there) c.index_mut-meeting.ensures.value) ∙ c.meet_or_wait-taken.ensures in
    let there = rw (← c.self.view_is) at c.requires.there in
    IsStore-turn c.self.inside _ c.args.stream _ there
    (operated-keeps c.args.side _ _ c.args.mine (placed_at (state_of c.self.inside) c.args.stream there c.self.invariant.sound) (rw (← c.self.view_is) at c.requires.mine))
    (record {
      tag = refl;
      limits = refl;
      producers = refl;
      kept = refl;
      consumers = refl;
      contexts = refl;
      counter = refl;
      places = refl;
      live_sets = refl;
      bytes = refl;
      guests = sym (ap (λ (t : Operated). t.guests) e);
      streams = sym (ap (λ (t : Operated). set c.self.inside.streams.items c.args.stream t.stream) e);
      retold = subst (λ (t : Operated). Retold t.guests c.args.stream t.stream c.self.inside.ready c.retell.new.self) (sym e) c.retell.ensures;
    })
    c.self.invariant

pub returns-clause-bad : goal.returns-clause-bad
returns-clause-bad c =
    let e = ap (λ s. operate c.args.side (guests_of c.self.inside.guests.items) s c.args.mine) (stream_at-there c.self.inside c.args.stream c.index_mut-meeting.result.now (rw (← c.self.view_is) at c.requires.there) c.index_mut-meeting.ensures.value) ∙ c.meet_or_wait-taken.ensures in
    subst (λ (state : State). OnErr c.meet_or_wait-taken.result (on_stream state c.args.stream c.args.side c.args.mine ≡ goes (replies.BadItem c.args.stream) (record state { trapped = true }))) c.self.view_is
    (on_err-bad (state_of c.self.inside) _ c.args.stream c.args.side c.args.mine c.meet_or_wait-taken.new.guests.items c.meet_or_wait-taken.new.stream refl c.meet_or_wait-taken.result e)

pub returns-clause-err : goal.returns-clause-err
returns-clause-err c =
    let e = ap (λ s. operate c.args.side (guests_of c.self.inside.guests.items) s c.args.mine) (stream_at-there c.self.inside c.args.stream c.index_mut-meeting.result.now (rw (← c.self.view_is) at c.requires.there) c.index_mut-meeting.ensures.value) ∙ c.meet_or_wait-taken.ensures in
    rw (← c.self.view_is)
    (on_err-stays (state_of c.self.inside) _ c.args.stream c.args.side c.args.mine c.meet_or_wait-taken.new.guests.items c.meet_or_wait-taken.new.stream refl c.meet_or_wait-taken.result e)
