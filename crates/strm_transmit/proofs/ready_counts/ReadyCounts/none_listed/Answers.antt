use Rattle.std.specs.Prelude.{vec_capacity}
use Rattle.strm_transmit.proofs.ReadyGuestLemmas.{none_listed}
use Rattle.strm_transmit.proofs.ready_counts.ReadyCounts.none_listed.Goals as goal

pub returns : goal.returns
returns c =
    let i = c.self.inside in
    rw (← c.self.view_is) (none_listed i.streams.items i.listed.items (vec_capacity i.listed) c.self.invariant.listed)
