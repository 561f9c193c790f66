use Rattle.std.proofs.Common.{refl, arith}
use Rattle.std.proofs.lemmas.List.{length-reverse}
use Rattle.strm_transmit.proofs.PlaceLemmas.{popped}
use Rattle.strm_transmit.proofs.places.StreamPlaces.take.Goals as goal

pub take_last-requires : goal.take_last-requires
take_last-requires c =
    let free = c.self.inside.free in
    omega (arith, rw (← c.self.view_is) at c.requires.some, length-reverse free.items, free.ok)

pub returns : goal.returns
returns c =
    let old = c.self.inside.free in
    let left = popped old.items c.take_last.new.self.items c.take_last.result c.take_last.ensures.items in
    rw (← c.self.view_is, left, c.take_last.ensures.capacity) refl
