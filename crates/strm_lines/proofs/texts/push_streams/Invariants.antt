use Rattle.std.proofs.Common.{◌≡◌, ◌++◌, ℕ, List, drop}
use Rattle.strm_lines.specs.Text.{stream_lines}
use Rattle.strm_lines.proofs.texts.push_streams.Given as goal

abbrev pub invariant-loop-stream : goal.invariant-loop-stream
invariant-loop-stream l =
    (front : List ℕ) × (l.out ≡ l.fn.out ++ front) × (front ++ stream_lines l.stream (drop l.stream l.moved) ≡ stream_lines 0 l.moved)
