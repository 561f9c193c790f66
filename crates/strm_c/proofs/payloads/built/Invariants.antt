-- The words that were found are those of the first bytes.
use Rattle.std.proofs.Common.{◌≡◌, ◌≤◌, length, take, drop}
use Rattle.strm_c.specs.Payloads.{nodes_of_bytes}
use Rattle.strm_c.proofs.PayloadLemmas.{joined}
use Rattle.strm_c.proofs.payloads.built.Given as goal

abbrev pub invariant-loop-k : goal.invariant-loop-k
invariant-loop-k l =
    (joined (take l.k l.words) (nodes_of_bytes (drop l.k l.bytes)) ≡ nodes_of_bytes l.bytes)
    × ((length l.words ≡ 7) × (l.k ≤ length l.bytes))
