use Rattle.std.proofs.Common.{◌≡◌}
use Rattle.strm_places.specs.Lives.{ends_given_up}
use Rattle.strm_transmit.proofs.store.Store.give_up_ends.Given as goal

-- the ends under the numbers so far are given up
abbrev pub invariant-loop-index : goal.invariant-loop-index
invariant-loop-index l = l.self ≡ ends_given_up l.fn.self l.fn.guest l.index
