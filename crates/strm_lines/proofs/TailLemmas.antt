-- The digits of a number: how many they are, and the one of a number that has no more.
use Rattle.std.proofs.Common.{◌≡◌, ℕ, ◌+◌, ◌<◌, ◌≤◌, ◌^◌, [], ◌∷◌, length, ap, ◌∙◌, arith}
use Rattle.std.specs.Fmt.{decimal}
use Rattle.std.proofs.lemmas.Fmt.{length-decimal-le, decimal_digit}

pub short_decimal : (n : ℕ) → n < 2 ^ 64 → length (decimal n) ≤ 20
short_decimal n small = length-decimal-le 20 n (omega arith) (omega arith) small

-- a number below ten is one digit
pub digit_text : (n : ℕ) → n < 10 → decimal n ≡ (48 + n) ∷ []
digit_text n h = decimal_digit n (omega arith) ∙ ap (λ x. x ∷ []) (omega arith)
