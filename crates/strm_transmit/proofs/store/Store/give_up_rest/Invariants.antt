use Rattle.std.proofs.Common.{◌≡◌}
use Rattle.strm_places.specs.Lives.{all_given_up}
use Rattle.strm_transmit.proofs.store.Store.give_up_rest.Given as goal

-- the sets and error contexts under the numbers so far are given up
abbrev pub invariant-loop-index : goal.invariant-loop-index
invariant-loop-index l = l.self ≡ all_given_up l.fn.self l.fn.guest l.index
