-- What is cut off at a byte.
use Rattle.std.proofs.Common.{◌≡◌, ◌≢◌, ℕ, zero, suc, ◌+◌, ◌<◌, ◌≤◌, Bool, true, ◌&&◌, ltb, List, [], ◌∷◌, ◌++◌, length, take, drop, get_or, Option, Some, None, refl, ap, arith, eq-eqb, inl, inr}
use Rattle.std.specs.Option.{option_map}
use Rattle.std.proofs.lemmas.Bool.{ne_eqb, ltb-true}
use Rattle.std.proofs.lemmas.Bool.Decides.{eqb_tells}
use Rattle.std.proofs.lemmas.Option.{same_Some}
use Rattle.strm_lines.specs.Reading.{cut_at}
use Rattle.strm_lines.proofs.ChoiceLemmas.{both_true}

-- what a mapped option found
pub option_map_some : {A B P : Type 0} (f : A → B) (o : Option A) (y : B) → option_map f o ≡ Some y → ((x : A) → o ≡ Some x → f x ≡ y → P) → P
option_map_some f None y e k = cc
option_map_some f (Some x) y e k = k x refl cc

pub cut_sound : (c : ℕ) (bytes : List ℕ) (p : List ℕ × List ℕ) → cut_at c bytes ≡ Some p → bytes ≡ p.0 ++ c ∷ p.1
unfolding cut_at
cut_sound c [] p e = cc
cut_sound c (x ∷ bytes) p e =
    elim (eqb_tells x c) [
      | inl t ↦ (let q : ([], bytes) ≡ p = same_Some ([], bytes) p (rw t.0 at e) in rw (← q, t.1) refl)
      | inr t ↦ option_map_some _ (cut_at c bytes) p (rw t.0 at e) (λ q s u. rw (← u) (ap (λ t. x ∷ t) (cut_sound c bytes q s)))
    ]

-- no byte is c
abbrev pub IsWithout : ℕ → List ℕ → Type 0
IsWithout c [] = Unit {0}
IsWithout c (x ∷ xs) = (x ≢ c) × IsWithout c xs

pub IsWithout-append : (c : ℕ) (xs ys : List ℕ) → IsWithout c xs → IsWithout c ys → IsWithout c (xs ++ ys)
IsWithout-append c [] ys f g = g
IsWithout-append c (x ∷ xs) ys f g = (f.0, IsWithout-append c xs ys f.1 g)

-- each byte is above c, as a test, for words that are spelled out
abbrev pub are_above : ℕ → List ℕ → Bool
are_above c [] = true
are_above c (x ∷ xs) = ltb c x && are_above c xs

pub without_low : (c low : ℕ) (word : List ℕ) → c ≤ low → are_above low word ≡ true → IsWithout c word
without_low c low [] h e = tt
without_low c low (x ∷ xs) h e =
    let both = both_true (ltb low x) (are_above low xs) e in
    let above : low < x = ltb-true low x both.0 in
    ((λ same. absurd (omega (arith, above, h, same))), without_low c low xs h both.1)

pub cut_complete : (c : ℕ) (a b : List ℕ) → IsWithout c a → cut_at c (a ++ c ∷ b) ≡ Some (a, b)
unfolding cut_at
cut_complete c [] b h = rw (eq-eqb c c refl) refl
cut_complete c (x ∷ a) b h = rw (ne_eqb x c h.0, cut_complete c a b h.1) refl

-- the first such byte is where the bytes are cut
pub cut-first : (c : ℕ) (bytes : List ℕ) (k : ℕ) → k < length bytes → get_or bytes k 0 ≡ c → ((j : ℕ) → j < k → get_or bytes j 0 ≢ c) → cut_at c bytes ≡ Some (take k bytes, drop (k + 1) bytes)
unfolding cut_at
cut-first c [] k h e f = absurd (omega arith)
cut-first c (x ∷ bytes) zero h e f = rw (e, eq-eqb c c refl) refl
cut-first c (x ∷ bytes) (suc k) h e f =
    let n : suc k + 1 ≡ suc (k + 1) = omega arith in
    rw (ne_eqb x c (f 0 (omega arith)), cut-first c bytes k (omega arith) e (λ j i. f (suc j) (omega arith)), n) refl

pub cut-nowhere : (c : ℕ) (bytes : List ℕ) → ((j : ℕ) → j < length bytes → get_or bytes j 0 ≢ c) → cut_at c bytes ≡ None
unfolding cut_at
cut-nowhere c [] f = refl
cut-nowhere c (x ∷ bytes) f = rw (ne_eqb x c (f 0 (omega arith)), cut-nowhere c bytes (λ j i. f (suc j) (omega arith))) refl

pub cut-without : (c : ℕ) (word : List ℕ) → IsWithout c word → cut_at c word ≡ None
unfolding cut_at
cut-without c [] h = refl
cut-without c (x ∷ word) h = rw (ne_eqb x c h.0, cut-without c word h.1) refl
