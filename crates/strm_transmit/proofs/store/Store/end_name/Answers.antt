use Rattle.std.proofs.Common.{◌≡◌, ℕ, Ok, Err, ap, subst, sym, ◌∙◌, arith}
use Rattle.std.specs.Prelude.{IfOk}
use Rattle.std.proofs.lemmas.List.{length-map}
use Rattle.strm_handles.specs.Lookups.{end_rep_of}
use Rattle.strm_machine.specs.Moments.{is_end}
use Rattle.strm_machine.specs.Sides.{end_of}
use Rattle.strm_machine.specs.State.{State, Guest, stream_at}
use Rattle.strm_machine.specs.Tests.{Name, end_named, stream_named, side_named, side_of}
use Rattle.strm_machine.specs.declared.streams.Owner.TheVariants.{Held}
use Rattle.strm_machine.proofs.NamedEndLemmas.{end_itself}
use Rattle.strm_machine.proofs.HeldLemmas.{StateIsHeld}
use Rattle.strm_machine.proofs.NameLemmas.{end_named_there}
use Rattle.strm_channels.specs.Guests.{guest_of}
use Rattle.strm_transmit.specs.Inside.{state_of}
use Rattle.strm_channels.proofs.GuestLemmas.{guest_in-seen}
use Rattle.strm_transmit.proofs.store.Store.end_name.Goals as goal

pub returns-clause-there : goal.returns-clause-there
returns-clause-there c =
    let guests = c.self.inside.guests.items in
    let here = guest_in-seen guests c.args.guest c.index.result.now (omega (arith, rw (← c.self.view_is) at c.requires, length-map guests guest_of)) c.index.ensures in
    rw (← c.self.view_is) (end_named_there (state_of c.self.inside) c.args.guest c.args.handle c.end_rep.result c.self.invariant.sound
    (c.end_rep.ensures ∙ sym (ap (λ (g : Guest). end_rep_of g.handles c.args.handle) here)))

-- the end that a handle names is held under it
own_of : (state : State) (g handle : ℕ) (r : Name) → StateIsHeld state → r ≡ end_named state g handle → IfOk r (λ name. (end_of (side_named (end_named state g handle)) (stream_at state (stream_named (end_named state g handle)))).owner ≡ Held g handle)
own_of state g handle (Ok name) h e =
    subst (λ (n : Name). (end_of (side_named n) (stream_at state (stream_named n))).owner ≡ Held g handle) e
    (h.agree.named g handle name.0 (side_of name.1) (ap (is_end name.0 (side_of name.1)) (sym e) ∙ end_itself name.0 (side_of name.1)))
own_of state g handle (Err error) h e = tt

pub returns-clause-own : goal.returns-clause-own
returns-clause-own c =
    let guests = c.self.inside.guests.items in
    let here = guest_in-seen guests c.args.guest c.index.result.now (omega (arith, rw (← c.self.view_is) at c.requires, length-map guests guest_of)) c.index.ensures in
    rw (← c.self.view_is) (own_of (state_of c.self.inside) c.args.guest c.args.handle c.end_rep.result c.self.invariant.held
    (c.end_rep.ensures ∙ sym (ap (λ (g : Guest). end_rep_of g.handles c.args.handle) here)))
