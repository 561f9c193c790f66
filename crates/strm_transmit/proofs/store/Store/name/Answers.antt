use Rattle.std.proofs.Common.{◌≡◌, ◌<◌, ap, sym, subst, ◌∙◌, length, get_or, arith}
use Rattle.std.specs.Prelude.{IfErr}
use Rattle.std.proofs.lemmas.List.{length-map}
use Rattle.strm_codes.specs.declared.codes.TransmitIndex.TheVariants as index
use Rattle.strm_machine.specs.declared.acts.NamedEnd.{NamedEnd}
use Rattle.strm_machine.specs.Tests.{Name, named, named_by}
use Rattle.strm_machine.specs.State.{Guest}
use Rattle.strm_machine.proofs.NameLemmas.{named_there, named_payload, IsNameError, named_by-error}
use Rattle.strm_channels.specs.Guests.{guest_of, guests_of}
use Rattle.strm_transmit.specs.Inside.{state_of}
use Rattle.strm_channels.specs.declared.guests.Guest as ours
use Rattle.strm_transmit.specs.declared.store.Store.TheInside.{Inside}
use Rattle.strm_channels.proofs.GuestLemmas.{guest_in-seen}
use Rattle.strm_transmit.proofs.store.Store.name.Goals as goal

-- what the table of a guest answers is what the machine finds
answer : (s : Inside) (end : NamedEnd) (x : ours.Guest) (r : Name) → end.guest < length (guests_of s.guests.items) → x ≡ get_or s.guests.items end.guest x → r ≡ named_by end.ty x.table.handles end.handle → r ≡ named (state_of s) end
answer s end x r l e h = h ∙ sym (ap (λ (q : Guest). named_by end.ty q.handles end.handle) (guest_in-seen s.guests.items end.guest x (omega (arith, l, length-map s.guests.items guest_of)) e))

pub returns-in-Stream-clause-there : goal.returns-in-Stream-clause-there
returns-in-Stream-clause-there c =
    rw (← c.self.view_is) (named_there (state_of c.self.inside) c.args.end.now c.stream_rep.result c.self.invariant.sound
    (answer c.self.inside c.args.end.now c.index-guest.result.now c.stream_rep.result (rw (← c.self.view_is) at c.requires) c.index-guest.ensures (rw c.in-Stream.is c.stream_rep.ensures)))

pub returns-in-Stream-clause-payload : goal.returns-in-Stream-clause-payload
returns-in-Stream-clause-payload c =
    rw (← c.self.view_is) (named_payload (state_of c.self.inside) c.args.end.now c.stream_rep.result c.self.invariant.sound
    (answer c.self.inside c.args.end.now c.index-guest.result.now c.stream_rep.result (rw (← c.self.view_is) at c.requires) c.index-guest.ensures (rw c.in-Stream.is c.stream_rep.ensures)))

pub returns-in-Stream-clause-others : goal.returns-in-Stream-clause-others
returns-in-Stream-clause-others c =
    subst (λ r. IfErr r IsNameError) (sym c.stream_rep.ensures) (named_by-error (index.Stream c.in-Stream.payload) c.index-guest.result.now.table.handles c.args.end.now.handle)

pub returns-in-Future-clause-there : goal.returns-in-Future-clause-there
returns-in-Future-clause-there c =
    rw (← c.self.view_is) (named_there (state_of c.self.inside) c.args.end.now c.future_rep.result c.self.invariant.sound
    (answer c.self.inside c.args.end.now c.index-guest.result.now c.future_rep.result (rw (← c.self.view_is) at c.requires) c.index-guest.ensures (rw c.in-Future.is c.future_rep.ensures)))

pub returns-in-Future-clause-payload : goal.returns-in-Future-clause-payload
returns-in-Future-clause-payload c =
    rw (← c.self.view_is) (named_payload (state_of c.self.inside) c.args.end.now c.future_rep.result c.self.invariant.sound
    (answer c.self.inside c.args.end.now c.index-guest.result.now c.future_rep.result (rw (← c.self.view_is) at c.requires) c.index-guest.ensures (rw c.in-Future.is c.future_rep.ensures)))

pub returns-in-Future-clause-others : goal.returns-in-Future-clause-others
returns-in-Future-clause-others c =
    subst (λ r. IfErr r IsNameError) (sym c.future_rep.ensures) (named_by-error (index.Future c.in-Future.payload) c.index-guest.result.now.table.handles c.args.end.now.handle)
