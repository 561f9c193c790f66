use Rattle.std.proofs.Common.{◌≡◌, sym}
use Rattle.strm_waitable_sets.proofs.TieLemmas.{tied-placed}
use Rattle.strm_waitable_sets.proofs.sets.WaitableSets.set_new.Goals as goal

pub invariant_of-self-2 : goal.invariant_of-self-2
invariant_of-self-2 c =
    let s = c.self.inside in
    let is : s.sets.items ≡ c.as_slice.result.now = sym c.as_slice.ensures.value in
    let number = c.first_free-number.result in
    tied-placed s.sets.items c.place.new.slots.items s.homes.items s.hint number c.self.invariant (rw is c.first_free-number.ensures.inside) (rw is c.first_free-number.ensures.taken) c.in_ok-place.ensures.flags c.in_ok-place.ensures.counts
