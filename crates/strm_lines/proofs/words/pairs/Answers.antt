use Rattle.std.proofs.Common.{◌%◌, ◌<◌, inl, inr, ◌≡◌, ◌∙◌, ℕ, ◌+◌, ◌*◌, ◌/◌, ◌≤◌, List, length, take, Option, Some, None, IsSome, IfSome, sym, ap, arith, length-set, length-take-le}
use Rattle.std.proofs.lemmas.Bool.{cases_lt}
use Rattle.std.proofs.lemmas.List.{take_more_set}
use Rattle.strm_lines.proofs.HexLemmas.{pairs_more, pairs_bad_high, pairs_bad_low, pairs_end}
use Rattle.strm_lines.proofs.words.pairs.Goals as goal

pub loop-k-preserved : goal.loop-k-preserved
loop-k-preserved c =
    let word = c.args.word.now in
    let k = c.loop-k.k in
    let bytes = c.loop-k.bytes in
    let high = c.nibble-high.result in
    let low = c.nibble-low.result in
    let byte = high % 16 * 16 + low % 16 in
    let inside : 2 * k + 1 < length word = omega arith in
    let first = c.nibble-high.ensures in
    let second = c.nibble-low.ensures in
    record {
      whole = length-set bytes k byte ∙ c.loop-k.invariant.whole;
      good = λ h.
          let same : byte ≡ 16 * high + low = omega arith in
          rw (take_more_set bytes k byte (omega arith), same)
          (pairs_more word k (take k bytes) high low inside (sym (first.digit (omega arith))) (sym (second.digit (omega arith)))) ∙ c.loop-k.invariant.good (omega arith);
      bad = λ h.
          elim (cases_lt c.loop-k.worst 16) [
            | inr w ↦ c.loop-k.invariant.bad w
            | inl w ↦ elim (cases_lt high 16) [
              | inr a ↦ sym (c.loop-k.invariant.good w) ∙ pairs_bad_high word k (take k bytes) inside (sym (first.other a))
              | inl a ↦ sym (c.loop-k.invariant.good w) ∙ pairs_bad_low word k (take k bytes) high inside (sym (first.digit a)) (sym (second.other (omega arith)))
            ]
          ];
    }

-- what holds these bytes, if it can hold them
made : (o : Option (List ℕ)) (bytes : List ℕ) → (length bytes ≤ 64 → IsSome o) → IfSome o (λ chunk. chunk ≡ bytes) → length bytes ≤ 64 → o ≡ Some bytes
made None bytes can is h = let f = can h in cc
made (Some xs) bytes can is h = ap Some is

pub returns : goal.returns
returns c =
    let word = c.args.word.now in
    let k = c.loop-k.k in
    let end : k ≡ length word / 2 = omega (arith, c.loop-k.auto.k-end) in
    let most : length (take (length word / 2) c.loop-k.bytes) ≤ 64 = omega (arith, length-take-le (length word / 2) c.loop-k.bytes, c.loop-k.invariant.whole) in
    made c.new.result _ c.new.ensures.some.1 c.new.ensures.value most
    ∙ sym (ap (λ n. Some (take n c.loop-k.bytes)) end)
    ∙ sym (pairs_end word k (take k c.loop-k.bytes) (omega arith))
    ∙ c.loop-k.invariant.good (omega arith)
