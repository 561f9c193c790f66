use Rattle.std.proofs.Common.{length, ap, sym, ◌∙◌, arith}
use Rattle.std.proofs.lemmas.List.{length-map}
use Rattle.strm_machine.specs.State.{Guest}
use Rattle.strm_channels.specs.Guests.{guest_of}
use Rattle.strm_channels.proofs.GuestLemmas.{guest_in-seen}
use Rattle.strm_transmit.proofs.store.Store.numbers_given.Goals as goal

pub returns : goal.returns
returns c =
    let guests = c.self.inside.guests.items in
    let here = guest_in-seen guests c.args.guest c.index.result.now (omega (arith, rw (← c.self.view_is) at c.requires, length-map guests guest_of)) c.index.ensures in
    rw (← c.self.view_is) (c.last.ensures.exact ∙ sym (ap (λ (g : Guest). length g.handles.entries) here))
