-- Texts are bytes: what an error context keeps may be put into a memory.
use Rattle.std.proofs.Common.{◌≡◌, ℕ, zero, suc, ◌+◌, ◌/◌, ◌%◌, ◌<◌, ◌≤◌, Bool, true, false, ◌&&◌, List, [], ◌∷◌, ◌++◌, refl, subst, inl, inr, ⊎_elim, arith}
use Rattle.std.specs.Prelude.{nat_lt, slice_index}
use Rattle.std.specs.Str.{is_utf8, all_scalars, encode_utf8_all}
use Rattle.std.proofs.lemmas.Str.{IsUtf8-from_is_utf8}
use Rattle.std.proofs.Math.Utf8.{encode, scalar, scalar_cases}
use Rattle.std.proofs.lemmas.Bool.{cases_Bool, cond_both, ltb-true}
use Rattle.strm_memory.specs.Bytes.{IsBytes}

-- no byte of a text is 248 or more
abbrev IsLow : List ℕ → Type 0
IsLow bytes = (k : ℕ) → slice_index bytes k < 248

low_nil : IsLow []
low_nil k = omega arith

low_more : (b : ℕ) (bytes : List ℕ) → b < 248 → IsLow bytes → IsLow (b ∷ bytes)
low_more b bytes l h zero = l
low_more b bytes l h (suc k) = h k

low_append : (xs ys : List ℕ) → IsLow xs → IsLow ys → IsLow (xs ++ ys)
low_append [] ys h g k = g k
low_append (x ∷ xs) ys h g zero = h 0
low_append (x ∷ xs) ys h g (suc k) = low_append xs ys (λ j. h (suc j)) g k

-- each of the up to four bytes of a character
low_encode : (c : ℕ) → c < 1114112 → IsLow (encode c)
unfolding encode
low_encode c l =
    let low = 128 + c % 64 in
    let mid = 128 + c / 64 % 64 in
    let high = 128 + c / 4096 % 64 in
    let one : IsLow (low ∷ []) = low_more low [] (omega arith) low_nil in
    let two : IsLow (mid ∷ low ∷ []) = low_more mid (low ∷ []) (omega arith) one in
    let three : IsLow (high ∷ mid ∷ low ∷ []) = low_more high (mid ∷ low ∷ []) (omega arith) two in
    cond_both (nat_lt c 128) _ _ IsLow
    (λ e. let small = ltb-true c 128 e in low_more c [] (omega (arith, small)) low_nil)
    (λ e. cond_both (nat_lt c 2048) _ _ IsLow
    (λ f. let small = ltb-true c 2048 f in low_more (192 + c / 64) (low ∷ []) (omega (arith, small)) one)
    (λ f. cond_both (nat_lt c 65536) _ _ IsLow
    (λ g. let small = ltb-true c 65536 g in low_more (224 + c / 4096) (mid ∷ low ∷ []) (omega (arith, small)) two)
    (λ g. low_more (240 + c / 262144) (high ∷ mid ∷ low ∷ []) (omega (arith, l)) three)))

scalar_small : (c : ℕ) → scalar c ≡ true → c < 1114112
scalar_small c e = ⊎_elim (λ l. omega (arith, l)) (λ h. h.1) (scalar_cases c e)

both_hold : (a b : Bool) → a && b ≡ true → (a ≡ true) × (b ≡ true)
both_hold true b e = (refl, e)
both_hold false b e = cc

low_encodes : (cs : List ℕ) → all_scalars cs ≡ true → IsLow (encode_utf8_all cs)
low_encodes [] e = low_nil
low_encodes (c ∷ cs) e =
    let both = both_hold (scalar c) (all_scalars cs) e in
    low_append (encode c) (encode_utf8_all cs) (low_encode c (scalar_small c both.0)) (low_encodes cs both.1)

low_text : (bytes : List ℕ) → is_utf8 bytes ≡ true → IsLow bytes
low_text bytes e =
    let text = IsUtf8-from_is_utf8 bytes e in
    subst IsLow text.1.1 (low_encodes text.0 text.1.0)

pub IsBytes-text : (bytes : List ℕ) → is_utf8 bytes ≡ true → IsBytes bytes
IsBytes-text bytes e k = omega (arith, low_text bytes e k)

-- what begins with a greater byte is none
pub no_text : (b : ℕ) (bytes : List ℕ) → 248 ≤ b → is_utf8 (b ∷ bytes) ≡ false
no_text b bytes l = elim (cases_Bool (is_utf8 (b ∷ bytes))) [
  | inl e ↦ absurd (omega (arith, l, low_text (b ∷ bytes) e 0))
  | inr e ↦ e
]
