use Rattle.std.proofs.Common.{arith}
use Rattle.std.proofs.lemmas.List.{length-map}
use Rattle.strm_channels.specs.Guests.{guest_of}
use Rattle.strm_transmit.proofs.store.Store.is_lent.Goals as goal

pub is_lent-requires : goal.is_lent-requires
is_lent-requires c =
    let known = rw (← c.self.view_is) at c.requires in
    omega (arith, known, length-map c.self.inside.guests.items guest_of)
