use Rattle.std.proofs.Common.{◌+◌, ap, ◌∙◌}
use Rattle.std.specs.Prelude.{◌*◌, nat_lt}
use Rattle.strm_transmit.proofs.StoreLemmas.{places_passed}
use Rattle.strm_transmit.proofs.store.Store.are_places_full.Goals as goal

pub returns : goal.returns
returns c =
    let s = c.self.inside in
    c.pass_limit.ensures
    ∙ rw (← c.self.view_is)
    (ap (λ n. nat_lt s.limits.places (3 * n + s.live_sets + c.len.result + c.args.needed)) c.live.ensures
    ∙ ap (λ n. nat_lt s.limits.places (3 * s.places.live + s.live_sets + n + c.args.needed)) c.len.ensures
    ∙ places_passed s c.args.needed c.self.invariant)
