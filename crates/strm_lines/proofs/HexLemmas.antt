-- Pairs of hexadecimal digits: what is read is what is written, and the other way round.
use Rattle.std.proofs.Common.{◌≡◌, ℕ, ◌+◌, ◌*◌, ◌/◌, ◌%◌, ◌<◌, ◌≤◌, ◌^◌, List, [], ◌∷◌, ◌++◌, length, drop, get_or, Option, Some, None, false, eqb, ltb, ◌||◌, not, refl, sym, ap, append_assoc, arith}
use Rattle.std.specs.Prelude.{option_and_then, All}
use Rattle.std.specs.Option.{option_map}
use Rattle.std.proofs.lemmas.Option.{option_and_then_some}
use Rattle.std.proofs.lemmas.Bool.Decides.{nat_tests}
use Rattle.std.proofs.lemmas.List.{drop_more, drop_all, append-nil}
use Rattle.std.proofs.lemmas.List.Elements.{All-nil, All-cons, All-head, All-tail}
use Rattle.strm_lines.specs.Words.{hex_digit, hex_pairs}
use Rattle.strm_lines.specs.Grammar.{IsLineBytes}
use Rattle.strm_lines.specs.Reading.{nibble, pairs_from, hex}
use Rattle.strm_lines.proofs.ChoiceLemmas.{skipped}

-- the list that is read has this front more
abbrev pub with_front : {A : Type 0} → List A → Option (List A) → Option (List A)
with_front front o = option_map (λ xs. front ++ xs) o

pub with_front-more : {A : Type 0} (front : List A) (x : A) (o : Option (List A)) → with_front (front ++ x ∷ []) o ≡ with_front front (option_map (λ xs. x ∷ xs) o)
with_front-more front x None = refl
with_front-more front x (Some xs) = ap Some (append_assoc front (x ∷ []) xs)

two_more : (word : List ℕ) (k : ℕ) → 2 * k + 1 < length word → drop (2 * k) word ≡ get_or word (2 * k) 0 ∷ get_or word (2 * k + 1) 0 ∷ drop (2 * (k + 1)) word
two_more word k h =
    let n : 2 * (k + 1) ≡ 2 * k + 1 + 1 = omega arith in
    rw (drop_more word (2 * k) 0 (omega arith), drop_more word (2 * k + 1) 0 h, n) refl

pair_read : (a b : ℕ) (cs : List ℕ) (x y : ℕ) (o : Option ℕ) → nibble a ≡ Some x → nibble b ≡ o → pairs_from (a ∷ b ∷ cs) ≡ option_and_then (λ y. option_and_then (λ rest. Some ((16 * x + y) ∷ rest)) (pairs_from cs)) o
unfolding pairs_from
pair_read a b cs x y o e f = rw (e, f) refl

pub and_then-Some : {A B : Type 0} (f : A → B) (o : Option A) → option_and_then (λ x. Some (f x)) o ≡ option_map f o
and_then-Some f None = refl
and_then-Some f (Some x) = refl

-- what the byte at this place stands for, if it is a digit
abbrev pub digit_at : List ℕ → ℕ → Option ℕ
digit_at word k = nibble (get_or word k 0)

pub pairs_more : (word : List ℕ) (k : ℕ) (front : List ℕ) (x y : ℕ) → 2 * k + 1 < length word → Some x ≡ digit_at word (2 * k) → Some y ≡ digit_at word (2 * k + 1) → with_front (front ++ (16 * x + y) ∷ []) (pairs_from (drop (2 * (k + 1)) word)) ≡ with_front front (pairs_from (drop (2 * k) word))
pairs_more word k front x y h e f =
    rw (two_more word k h, pair_read _ _ (drop (2 * (k + 1)) word) x y (Some y) (sym e) (sym f), and_then-Some (λ rest. (16 * x + y) ∷ rest) (pairs_from (drop (2 * (k + 1)) word)))
    (with_front-more front (16 * x + y) (pairs_from (drop (2 * (k + 1)) word)))

pub pairs_bad_high : (word : List ℕ) (k : ℕ) (front : List ℕ) → 2 * k + 1 < length word → None ≡ digit_at word (2 * k) → with_front front (pairs_from (drop (2 * k) word)) ≡ None
unfolding pairs_from
pairs_bad_high word k front h e = rw (two_more word k h, ← e) refl

pub pairs_bad_low : (word : List ℕ) (k : ℕ) (front : List ℕ) (x : ℕ) → 2 * k + 1 < length word → Some x ≡ digit_at word (2 * k) → None ≡ digit_at word (2 * k + 1) → with_front front (pairs_from (drop (2 * k) word)) ≡ None
pairs_bad_low word k front x h e f = rw (two_more word k h, pair_read _ _ (drop (2 * (k + 1)) word) x 0 None (sym e) (sym f)) refl

pub pairs_end : (word : List ℕ) (k : ℕ) (front : List ℕ) → length word ≤ 2 * k → with_front front (pairs_from (drop (2 * k) word)) ≡ Some front
unfolding pairs_from
pairs_end word k front h = rw (drop_all (2 * k) word h) (ap Some (append-nil front))

nibble_sound : (c x : ℕ) → nibble c ≡ Some x → (hex_digit x ≡ c) × (x < 16)
nibble_sound c x e = grind (arith, nat_tests)

nibble_complete : (x : ℕ) → x < 16 → nibble (hex_digit x) ≡ Some x
nibble_complete x h = grind (arith, nat_tests)

record ArePairs (word bytes : List ℕ) : Type 0 where
  spelled : hex_pairs bytes ≡ word
  fit : All (λ b. b < 2 ^ 8) bytes
  count : length word ≡ 2 * length bytes

pairs_sound : (word bytes : List ℕ) → pairs_from word ≡ Some bytes → ArePairs word bytes
unfolding pairs_from
pairs_sound [] bytes e = let q : [] ≡ bytes = cc in rw (← q) (record { spelled = refl; fit = All-nil (λ b. b < 2 ^ 8); count = refl })
pairs_sound (a ∷ []) bytes e = cc
pairs_sound (a ∷ b ∷ cs) bytes e =
    option_and_then_some _ (nibble a) bytes e (λ x p q.
    option_and_then_some _ (nibble b) bytes q (λ y r s.
    option_and_then_some _ (pairs_from cs) bytes s (λ rest t u.
    let i : ArePairs cs rest = pairs_sound cs rest t in
    let h : (hex_digit x ≡ a) × (x < 16) = nibble_sound a x p in
    let l : (hex_digit y ≡ b) × (y < 16) = nibble_sound b y r in
    let high : (16 * x + y) / 16 ≡ x = omega (arith, l.1) in
    let low : (16 * x + y) % 16 ≡ y = omega (arith, l.1) in
    let v : (16 * x + y) ∷ rest ≡ bytes = cc in
    rw (← v) (record {
      spelled = rw (high, low, h.0, l.0, i.spelled) refl;
      fit = All-cons (λ b. b < 2 ^ 8) (16 * x + y) rest (omega (arith, h.1, l.1)) i.fit;
      count = omega (arith, i.count);
    }))))

pairs_complete : (bytes : List ℕ) → All (λ b. b < 2 ^ 8) bytes → pairs_from (hex_pairs bytes) ≡ Some bytes
unfolding pairs_from
pairs_complete [] h = refl
pairs_complete (b ∷ bytes) h =
    let here : b < 2 ^ 8 = All-head (λ b. b < 2 ^ 8) b bytes h in
    let high : b / 16 < 16 = omega (arith, here) in
    let low : b % 16 < 16 = omega arith in
    let whole : 16 * (b / 16) + b % 16 ≡ b = omega arith in
    rw (nibble_complete (b / 16) high, nibble_complete (b % 16) low, pairs_complete bytes (All-tail (λ b. b < 2 ^ 8) b bytes h), whole) refl

pub length-hex_pairs : (bytes : List ℕ) → length (hex_pairs bytes) ≡ 2 * length bytes
length-hex_pairs [] = refl
length-hex_pairs (b ∷ bytes) = omega (arith, length-hex_pairs bytes)

sized : (n : ℕ) → (eqb n 0 || ltb 128 n || not (eqb (n % 2) 0)) ≡ false → (0 < n) × (n ≤ 128)
sized n e = grind (arith, nat_tests)

pub hex_sound : (word bytes : List ℕ) → hex word ≡ Some bytes → (hex_pairs bytes ≡ word) × IsLineBytes bytes
unfolding hex
hex_sound word bytes e =
    let a : (eqb (length word) 0 || ltb 128 (length word) || not (eqb (length word % 2) 0) ≡ false) × (pairs_from word ≡ Some bytes) = skipped _ (pairs_from word) bytes e in
    let p : ArePairs word bytes = pairs_sound word bytes a.1 in
    let s : (0 < length word) × (length word ≤ 128) = sized (length word) a.0 in
    (p.spelled, record { some = omega (arith, s.0, p.count); most = omega (arith, s.1, p.count); each = p.fit })

fitted : (n : ℕ) → 0 < n → n ≤ 64 → (eqb (2 * n) 0 || ltb 128 (2 * n) || not (eqb (2 * n % 2) 0)) ≡ false
fitted n a b = grind (arith, nat_tests)

pub hex_complete : (bytes : List ℕ) → IsLineBytes bytes → hex (hex_pairs bytes) ≡ Some bytes
unfolding hex
hex_complete bytes h = rw (length-hex_pairs bytes, fitted (length bytes) h.some h.most) (pairs_complete bytes h.each)
