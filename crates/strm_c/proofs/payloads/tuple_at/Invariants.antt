-- The fields that were found are the first of those that the word has.
use Rattle.std.proofs.Common.{◌≡◌, ◌≤◌, ◌-◌, length, take}
use Rattle.strm_c.specs.Payloads.{fields_at}
use Rattle.strm_c.proofs.PayloadLemmas.{joined}
use Rattle.strm_c.proofs.payloads.tuple_at.Given as goal

abbrev pub invariant-loop-k : goal.invariant-loop-k
invariant-loop-k l =
    (joined (take l.k l.fields) (fields_at (8 - l.k) l.rest) ≡ fields_at 8 l.fn.word)
    × ((length l.fields ≡ 8) × (l.k ≤ 8))
