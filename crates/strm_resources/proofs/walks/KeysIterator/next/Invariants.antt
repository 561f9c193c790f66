use Rattle.std.proofs.Common.{◌≡◌, ◌+◌, ◌≤◌, length}
use Rattle.strm_resources.specs.Numbers.{used_numbers_from}
use Rattle.strm_resources.proofs.walks.KeysIterator.next.Given as goal

-- only numbers that are not in use were passed over
abbrev pub invariant-loop-node : goal.invariant-loop-node
invariant-loop-node l =
    (l.self-inside.number + length l.self-inside.nodes.now ≤ 4294967296)
    × (used_numbers_from l.self-inside.number l.self-inside.nodes.now ≡ l.fn.self)

abbrev pub decreases-loop-node : goal.decreases-loop-node
decreases-loop-node l = length l.self-inside.nodes.now
