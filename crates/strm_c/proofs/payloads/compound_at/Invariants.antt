-- The words that were found are the first of those that the number has.
use Rattle.std.proofs.Common.{◌≡◌, ◌≤◌, ◌-◌, length, take}
use Rattle.strm_c.specs.Payloads.{nodes_at}
use Rattle.strm_c.proofs.PayloadLemmas.{joined}
use Rattle.strm_c.proofs.payloads.compound_at.Given as goal

abbrev pub invariant-loop-k : goal.invariant-loop-k
invariant-loop-k l =
    (joined (take l.k l.words) (nodes_at (7 - l.k) l.rest) ≡ nodes_at 7 l.fn.bytes)
    × ((length l.words ≡ 7) × (l.k ≤ 7))
