use Rattle.std.proofs.Common.{◌≡◌, List, ℕ, ◌++◌, length, cond}
use Rattle.std.specs.Fmt.{HasWritten, IsPlainFormatter}
use Rattle.strm_resources.specs.Text.{items_text, more_text}
use Rattle.strm_resources.proofs.prints.write_numbers.Given as goal

-- what is written, and then what is left, is all
abbrev pub invariant-loop-number : goal.invariant-loop-number
invariant-loop-number g l =
    IsPlainFormatter l.initial.f
    → ((done : List ℕ) × HasWritten g.W.Write.write_str_gives l.initial.f done l.f
    × (done ++ cond l.first (items_text l.keys) (more_text l.keys) ≡ items_text l.fn.keys))

abbrev pub decreases-loop-number : goal.decreases-loop-number
decreases-loop-number g l = length l.keys
