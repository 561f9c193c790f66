-- What words tell of places, after one bit changes; and the next place that has any, by the words that tell of it.
use Rattle.std.proofs.Common.{◌≡◌, ◌≢◌, ℕ, zero, suc, ◌+◌, ◌-◌, ◌*◌, ◌/◌, ◌%◌, ◌^◌, ◌<◌, ◌≤◌, Bool, true, false, cond, List, [], ◌∷◌, ◌++◌, length, set, refl, sym, ap, ◌∙◌, arith, ⊎_elim, length-set, w64, shr-shr}
use Rattle.std.specs.Prelude.{nat_lt}
use Rattle.std.specs.Int.{bit_at, trailing_zeros}
use Rattle.std.proofs.lemmas.Bool.{cases_eq, cases_lt, false≢true, ltb-false, ltb-true}
use Rattle.std.proofs.lemmas.List.{get_or-set_same, get_or-set_other, get_or_past}
use Rattle.std.proofs.lemmas.Nat.Bits.{bit_at-zero, bit_at_above, bit_at-trailing_zeros}
use Rattle.strm_levels.specs.Counts.{count_at, has_any, IsNext, HasNoneFrom}
use Rattle.strm_levels.specs.Marks.{IsLowestFrom, width, is_marked, HasNoMark, IsNextMark, IsFirstMark, Marks, IsOver}

-- ## Counts

-- a number behind the last has none
pub none_past : (counts : List ℕ) (n : ℕ) → length counts ≤ n → has_any counts n ≡ false
none_past counts n l = ap (nat_lt 0) (get_or_past counts n 0 l)

pub has_none_past : (counts : List ℕ) (from : ℕ) → length counts ≤ from → HasNoneFrom counts from
has_none_past counts from l n behind = none_past counts n (omega (arith, l, behind))

-- one that has any is there
pub any_inside : (counts : List ℕ) (n : ℕ) → has_any counts n ≡ true → n < length counts
any_inside counts n any =
    ⊎_elim (λ l. l) (λ past. absurd (false≢true (sym (none_past counts n past) ∙ any))) (cases_lt n (length counts))

-- a place more that has none
pub count_at-push : (counts : List ℕ) (n : ℕ) → count_at (counts ++ 0 ∷ []) n ≡ count_at counts n
count_at-push [] zero = refl
count_at-push [] (suc n) = refl
count_at-push (x ∷ xs) zero = refl
count_at-push (x ∷ xs) (suc n) = count_at-push xs n

-- ## The bits of one word

bit_at-shr : (word from i : ℕ) → bit_at (word / 2 ^ from) i ≡ bit_at word (from + i)
bit_at-shr word from i = ap (λ x. x % 2) (shr-shr word from i)

one_is_not_zero : (n : ℕ) → n ≡ 1 → n ≡ 0 → ⊥
one_is_not_zero n e f = omega (arith, e, f)

pub lowest-shr : (word from : ℕ) → word < 2 ^ 64 → 0 < word / 2 ^ from → word / 2 ^ from < 2 ^ 64
    → IsLowestFrom word from (from + trailing_zeros w64 (word / 2 ^ from))
lowest-shr word from fits some less =
    let low = bit_at-trailing_zeros w64 (word / 2 ^ from) some less in
    let bit = from + trailing_zeros w64 (word / 2 ^ from) in
    let here : bit_at word bit ≡ 1 = sym (bit_at-shr word from (trailing_zeros w64 (word / 2 ^ from))) ∙ low.1 in
    record {
      behind = omega arith;
      inside = ⊎_elim (λ l. l) (λ past. absurd (one_is_not_zero (bit_at word bit) here (bit_at_above word 64 bit fits past))) (cases_lt bit 64);
      here = here;
      none_before = λ i behind before. unset word from i behind (λ k e. low.2 k (omega (arith, before, e)));
    }
  where
    unset : (word from i : ℕ) → from ≤ i → ((k : ℕ) → from + k ≡ i → bit_at (word / 2 ^ from) k ≡ 0) → bit_at word i ≡ 0
    unset word from i l h =
        let e : from + (i - from) ≡ i = omega (arith, l) in
        sym (bit_at-shr word from (i - from) ∙ ap (bit_at word) e) ∙ h (i - from) e

pub none-shr : (word from : ℕ) → word / 2 ^ from ≡ 0 → (i : ℕ) → from ≤ i → bit_at word i ≡ 0
none-shr word from none i l =
    let e : from + (i - from) ≡ i = omega (arith, l) in
    sym (bit_at-shr word from (i - from) ∙ ap (bit_at word) e) ∙ ap (λ x. bit_at x (i - from)) none ∙ bit_at-zero (i - from)

-- ## Words

tested : (any : Bool) → nat_lt 0 (cond any 1 0) ≡ any
tested true = refl
tested false = refl

-- a bit of one word is another
pub marks-set : (words : List ℕ) (place is : ℕ) (any : Bool) → place < width * length words
    → bit_at is (place % width) ≡ cond any 1 0
    → ((i : ℕ) → i < 64 → i ≢ place % width → bit_at is i ≡ bit_at (count_at words (place / width)) i)
    → Marks words (set words (place / width) is) place any
marks-set words place is any inside bit rest = record {
  all = length-set words (place / width) is;
  here = ap (λ x. nat_lt 0 (bit_at x (place % width))) set_here ∙ ap (nat_lt 0) bit ∙ tested any;
  others = λ other apart. ⊎_elim (same_word other apart) (other_word other) (cases_eq (other / width) (place / width));
  words = λ word apart. ap (nat_lt 0) (get_or-set_other words (place / width) word is 0 apart);
}
  where
    set_here : count_at (set words (place / width) is) (place / width) ≡ is
    set_here = get_or-set_same words (place / width) is 0 (omega (arith, inside))

    same_word : (other : ℕ) → other ≢ place → other / width ≡ place / width
        → is_marked (set words (place / width) is) other ≡ is_marked words other
    same_word other apart e =
        let ne : other % width ≢ place % width = λ f. apart (omega (arith, e, f)) in
        ap (λ x. nat_lt 0 (bit_at x (other % width))) (ap (count_at (set words (place / width) is)) e ∙ set_here)
        ∙ ap (nat_lt 0) (rest (other % width) (omega arith) ne ∙ ap (λ w. bit_at (count_at words w) (other % width)) (sym e))

    other_word : (other : ℕ) → other / width ≢ place / width
        → is_marked (set words (place / width) is) other ≡ is_marked words other
    other_word other apart =
        ap (λ x. nat_lt 0 (bit_at x (other % width))) (get_or-set_other words (place / width) (other / width) is 0 apart)

-- a place by its word and its bit
pub is_marked-at : (words : List ℕ) (word bit : ℕ) → bit < width
    → is_marked words (width * word + bit) ≡ nat_lt 0 (bit_at (count_at words word) bit)
is_marked-at words word bit l =
    let q : (width * word + bit) / width ≡ word = omega (arith, l) in
    let r : (width * word + bit) % width ≡ bit = omega (arith, l) in
    ap (λ w. nat_lt 0 (bit_at (count_at words w) ((width * word + bit) % width))) q
    ∙ ap (λ b. nat_lt 0 (bit_at (count_at words word) b)) r

-- a word that has no bit marks nothing
pub unmarked-word : (words : List ℕ) (place : ℕ) → has_any words (place / width) ≡ false → is_marked words place ≡ false
unmarked-word words place none =
    let e : count_at words (place / width) ≡ 0 = omega (arith, ltb-false 0 (count_at words (place / width)) none) in
    ap (λ x. nat_lt 0 (bit_at x (place % width))) e ∙ ap (nat_lt 0) (bit_at-zero (place % width))

-- the lowest bit of a word, from that of a place on
pub next_mark-at : (words : List ℕ) (from bit : ℕ) → IsLowestFrom (count_at words (from / width)) (from % width) bit
    → IsNextMark words from (width * (from / width) + bit)
next_mark-at words from bit low = record {
  behind = omega (arith, low.behind);
  here = is_marked-at words (from / width) bit low.inside ∙ ap (nat_lt 0) low.here;
  least = λ m l u.
      let e : m / width ≡ from / width = omega (arith, l, u, low.inside) in
      ap (λ w. nat_lt 0 (bit_at (count_at words w) (m % width))) e
      ∙ ap (nat_lt 0) (low.none_before (m % width) (omega (arith, l, e)) (omega (arith, u, e)));
}

pub no_mark-at : (words : List ℕ) (from : ℕ) → ((i : ℕ) → from % width ≤ i → bit_at (count_at words (from / width)) i ≡ 0)
    → HasNoMark words from (width * (from / width + 1))
no_mark-at words from none m l u =
    let e : m / width ≡ from / width = omega (arith, l, u) in
    ap (λ w. nat_lt 0 (bit_at (count_at words w) (m % width))) e ∙ ap (nat_lt 0) (none (m % width) (omega (arith, l, e)))

-- the lowest bit of a word
pub first_mark-at : (words : List ℕ) (word : ℕ) → has_any words word ≡ true → count_at words word < 2 ^ 64
    → IsFirstMark words word (trailing_zeros w64 (count_at words word))
first_mark-at words word any fits =
    let low = bit_at-trailing_zeros w64 (count_at words word) (ltb-true 0 (count_at words word) any) fits in
    record {
      inside = low.0;
      here = is_marked-at words word (trailing_zeros w64 (count_at words word)) low.0 ∙ ap (nat_lt 0) low.1;
      least = λ b l. is_marked-at words word b (omega (arith, l, low.0)) ∙ ap (nat_lt 0) (low.2 b l);
    }

-- ## The next place

-- it is marked by the word that tells of the one from which it is looked for
pub next-in_word : (low high : List ℕ) (from place : ℕ) → IsOver low high → IsNextMark high from place → IsNext low from place
next-in_word low high from place over next =
    let any : has_any low place ≡ true = sym (over.marks place) ∙ next.here in
    record {
      inside = any_inside low place any;
      behind = next.behind;
      any = any;
      least = λ m l u. sym (over.marks m) ∙ next.least m l u;
    }

-- or it is the first of the next word that has a bit
pub next-in_next : (low high : List ℕ) (from word bit : ℕ) → IsOver low high → HasNoMark high from (width * (from / width + 1))
    → IsNext high (from / width + 1) word → IsFirstMark high word bit → IsNext low from (width * word + bit)
next-in_next low high from word bit over none next first =
    let any : has_any low (width * word + bit) ≡ true = sym (over.marks (width * word + bit)) ∙ first.here in
    record {
      inside = any_inside low (width * word + bit) any;
      behind = omega (arith, next.behind);
      any = any;
      least = λ m l u. sym (over.marks m) ∙ least m l u;
    }
  where
    least : (m : ℕ) → from ≤ m → m < width * word + bit → is_marked high m ≡ false
    least m l u =
        ⊎_elim
        (λ same. none m l same)
        (λ behind.
        ⊎_elim
        (λ before. unmarked-word high m (next.least (m / width) (omega (arith, behind)) before))
        (λ here.
        let e : m ≡ width * word + m % width = omega (arith, here, u, first.inside) in
        ap (is_marked high) e ∙ first.least (m % width) (omega (arith, e, u)))
        (cases_lt (m / width) word))
        (cases_lt m (width * (from / width + 1)))

-- or there is none
pub none-from : (low high : List ℕ) (from : ℕ) → IsOver low high → HasNoMark high from (width * (from / width + 1))
    → HasNoneFrom high (from / width + 1) → HasNoneFrom low from
none-from low high from over none above m l =
    sym (over.marks m)
    ∙ ⊎_elim
    (λ same. none m l same)
    (λ behind. unmarked-word high m (above (m / width) (omega (arith, behind))))
    (cases_lt m (width * (from / width + 1)))

-- a place that a word marks is there
pub first-inside : (low high : List ℕ) (word bit : ℕ) → IsOver low high → IsFirstMark high word bit → width * word + bit < length low
first-inside low high word bit over first =
    any_inside low (width * word + bit) (sym (over.marks (width * word + bit)) ∙ first.here)
