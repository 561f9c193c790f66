-- The guest's table is the machine's, and a sound state names what its handles stand for.
use Rattle.std.proofs.Common.{ap, sym, ◌∙◌, arith}
use Rattle.std.proofs.lemmas.List.{length-map}
use Rattle.strm_handles.specs.Handles.{entry_at}
use Rattle.strm_machine.specs.State.{Guest}
use Rattle.strm_channels.specs.Guests.{guest_of}
use Rattle.strm_channels.proofs.GuestLemmas.{guest_in-seen}
use Rattle.strm_transmit.specs.Inside.{state_of}
use Rattle.strm_transmit.proofs.QueryLemmas.{entry_is_named}
use Rattle.strm_transmit.proofs.store.Store.entry.Goals as goal

pub returns-clause-named : goal.returns-clause-named
returns-clause-named c =
    let guests = c.self.inside.guests.items in
    let here = guest_in-seen guests c.args.guest c.index.result.now (omega (arith, rw (← c.self.view_is) at c.requires, length-map guests guest_of)) c.index.ensures in
    rw (← c.self.view_is) (entry_is_named (state_of c.self.inside) c.args.guest c.args.number _ c.self.invariant.sound
    (c.entry.ensures ∙ sym (ap (λ (g : Guest). entry_at g.handles c.args.number) here)))
