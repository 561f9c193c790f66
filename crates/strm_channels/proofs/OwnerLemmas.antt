-- How many streams have an end left, after one of them became another.
use mir.Val.{bool_byte}
use Rattle.std.proofs.Common.{◌≡◌, ℕ, ◌+◌, ◌-◌, ◌<◌, ◌≤◌, Bool, true, false, cond, List, length, get_or, set, sym, ap, ◌∙◌, arith, length-set}
use Rattle.std.specs.Prelude.{count_by}
use Rattle.std.proofs.lemmas.List.{get_or_default}
use Rattle.std.proofs.lemmas.List.Sums.{sum_by-set, count_by-le-length}
use Rattle.strm_machine.specs.State.{no_stream, is_live}
use Rattle.strm_machine.specs.declared.streams.Stream.{Stream}

abbrev weight : Stream → ℕ
weight stream = cond (is_live stream) 1 0

weight_is : (b : Bool) → bool_byte b ≡ cond b 1 0
weight_is true = omega arith
weight_is false = omega arith

-- one live stream less, or more, or neither, are at most all
pub live_fits : (streams : List Stream) (s : ℕ) (before after : Stream) (live was is : ℕ) → s < length streams → before ≡ get_or streams s before → live ≡ count_by is_live streams → was ≡ bool_byte (is_live before) → is ≡ bool_byte (is_live after) → (live - was) + is ≤ length streams
live_fits streams s before after live was is l e n w k =
    let here : before ≡ get_or streams s no_stream = e ∙ sym (get_or_default streams s no_stream before l) in
    let old : was ≡ weight (get_or streams s no_stream) = w ∙ weight_is (is_live before) ∙ ap weight here in
    let new : is ≡ weight after = k ∙ weight_is (is_live after) in
    let fewer = sum_by-set weight streams s no_stream no_stream l in
    let sum = sum_by-set weight streams s after no_stream l in
    let most = count_by-le-length is_live (set streams s after) in
    omega (arith, n, old, new, fewer, sum, most, length-set streams s after)
