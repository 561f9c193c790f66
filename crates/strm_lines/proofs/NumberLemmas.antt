-- Decimal numbers: what is read is what is written, the other way round, and none has a space.
use Rattle.std.proofs.Common.{◌≡◌, ◌≢◌, ℕ, zero, suc, ◌+◌, ◌-◌, ◌*◌, ◌<◌, ◌≤◌, ◌^◌, List, [], ◌∷◌, length, drop, get_or, Option, Some, None, Bool, true, false, cond, eqb, ltb, ◌&&◌, refl, sym, ap, ◌∙◌, arith, rules, inl, inr}
use Rattle.std.specs.Str.{all_ascii_digits}
use Rattle.std.specs.Fmt.{decimal}
use Rattle.std.proofs.lemmas.Bool.{ltb-true, lt-ltb, le-ltb}
use Rattle.std.proofs.lemmas.Bool.Decides.{eqb_tells}
use Rattle.std.proofs.lemmas.Str.Parse.{IsNumeralModel, numerals_by_fold}
use Rattle.std.proofs.lemmas.Fmt.{digits_decimal, digits_value-decimal, decimal-digits_value, decimal_nonempty, first_decimal, decimal_digit}
use Rattle.std.specs.Prelude.{option_and_then}
use Rattle.std.specs.Option.{option_map}
use Rattle.std.proofs.lemmas.Bool.Decides.{nat_tests}
use Rattle.std.proofs.lemmas.Bool.{ne_eqb}
use Rattle.strm_lines.specs.Reading.{cut_at, leading, decimal_number, digits_from, read_to, is_digit}
use Rattle.strm_lines.proofs.CutLemmas.{IsWithout}
use Rattle.strm_lines.proofs.ChoiceLemmas.{chosen, skipped, both_true}

-- the number of which n is the front and the digits are the rest
abbrev pub read_on : ℕ → List ℕ → ℕ
read_on n [] = n
read_on n (c ∷ cs) = read_on (10 * n + (c - 48)) cs

own : IsNumeralModel (λ ds. all_ascii_digits ds ≡ true) (read_on 0)
own = numerals_by_fold _ (search rules) read_on (search rules)

le-read_on : (n : ℕ) (cs : List ℕ) → n ≤ read_on n cs
le-read_on n [] = omega arith
le-read_on n (c ∷ cs) = omega (arith, le-read_on (10 * n + (c - 48)) cs)

record IsRead (n : ℕ) (cs : List ℕ) (m : ℕ) : Type 0 where
  digits : all_ascii_digits cs ≡ true
  value : read_on n cs ≡ m
  small : n < 2 ^ 32 → m < 2 ^ 32

digits_sound : (n : ℕ) (cs : List ℕ) (m : ℕ) → digits_from n cs ≡ Some m → IsRead n cs m
unfolding digits_from
digits_sound n [] m e = let same : n ≡ m = cc in record { digits = refl; value = same; small = λ h. omega arith }
digits_sound n (c ∷ cs) m e =
    let a : (is_digit c && ltb (10 * n + (c - 48)) (2 ^ 32) ≡ true) × (digits_from (10 * n + (c - 48)) cs ≡ Some m) = chosen _ (digits_from (10 * n + (c - 48)) cs) m e in
    let b : (is_digit c ≡ true) × (ltb (10 * n + (c - 48)) (2 ^ 32) ≡ true) = both_true (is_digit c) (ltb (10 * n + (c - 48)) (2 ^ 32)) a.0 in
    let rest = digits_sound (10 * n + (c - 48)) cs m a.1 in
    record { digits = rw (b.0, rest.digits) refl; value = rest.value; small = λ h. rest.small (ltb-true _ _ b.1) }

digits_complete : (n : ℕ) (cs : List ℕ) → all_ascii_digits cs ≡ true → read_on n cs < 2 ^ 32 → digits_from n cs ≡ Some (read_on n cs)
unfolding digits_from
digits_complete n [] e h = refl
digits_complete n (c ∷ cs) e h =
    let b : (is_digit c ≡ true) × (all_ascii_digits cs ≡ true) = both_true (is_digit c) (all_ascii_digits cs) e in
    let small : 10 * n + (c - 48) < 2 ^ 32 = omega (arith, le-read_on (10 * n + (c - 48)) cs) in
    rw (b.0, lt-ltb (10 * n + (c - 48)) (2 ^ 32) small) (digits_complete (10 * n + (c - 48)) cs b.1 h)

one_zero : (c : ℕ) (cs : List ℕ) → eqb c 48 && ltb 0 (length cs) ≡ false → c ≡ 48 → length (c ∷ cs) ≡ 1
one_zero c [] e h = omega arith
one_zero c (d ∷ cs) e h = let s : ltb 0 (length (d ∷ cs)) ≡ true = lt-ltb 0 (length (d ∷ cs)) (omega arith) in let f = rw (h, s) at e in cc

pub number_sound : (word : List ℕ) (n : ℕ) → decimal_number word ≡ Some n → (decimal n ≡ word) × (n < 2 ^ 32)
unfolding decimal_number
number_sound [] n e = cc
number_sound (c ∷ cs) n e =
    let a : (eqb c 48 && ltb 0 (length cs) ≡ false) × (digits_from 0 (c ∷ cs) ≡ Some n) = skipped (eqb c 48 && ltb 0 (length cs)) (digits_from 0 (c ∷ cs)) n e in
    let r : IsRead 0 (c ∷ cs) n = digits_sound 0 (c ∷ cs) n a.1 in
    let small : n < 2 ^ 32 = r.small (omega arith) in
    let v : read_on 0 (c ∷ cs) ≡ n = r.value in
    (rw (← v) (decimal-digits_value own (c ∷ cs) r.digits (omega arith) (one_zero c cs a.0) (omega arith)), small)

no_zero : (c : ℕ) (cs : List ℕ) → (c ≡ 48 → length (c ∷ cs) ≡ 1) → eqb c 48 && ltb 0 (length cs) ≡ false
no_zero c cs h =
    elim (eqb_tells c 48) [
      | inl t ↦ (let e : length (c ∷ cs) ≡ 1 = h t.1 in let z : ltb 0 (length cs) ≡ false = le-ltb 0 (length cs) (omega arith) in rw (t.0, z) refl)
      | inr f ↦ rw f.0 refl
    ]

read_word : (word : List ℕ) → 0 < length word → all_ascii_digits word ≡ true → (get_or word 0 0 ≡ 48 → length word ≡ 1) → read_on 0 word < 2 ^ 32 → decimal_number word ≡ Some (read_on 0 word)
unfolding decimal_number
read_word [] l d z h = absurd (omega arith)
read_word (c ∷ cs) l d z h = rw (no_zero c cs z) (digits_complete 0 (c ∷ cs) d h)

zero_alone : (n : ℕ) → n < 2 ^ 32 → get_or (decimal n) 0 0 ≡ 48 → length (decimal n) ≡ 1
zero_alone zero h e = rw (decimal_digit 0 (omega arith)) refl
zero_alone (suc n) h e = absurd (omega (arith, first_decimal (suc n) (omega arith) (omega arith)))

pub number_complete : (n : ℕ) → n < 2 ^ 32 → decimal_number (decimal n) ≡ Some n
number_complete n h =
    let v : read_on 0 (decimal n) ≡ n = digits_value-decimal own n (omega arith) in
    read_word (decimal n) (decimal_nonempty n (omega arith)) (digits_decimal own n (omega arith)) (zero_alone n h) (omega (arith, v)) ∙ ap Some v

IsWithout-digits : (ds : List ℕ) → all_ascii_digits ds ≡ true → IsWithout 32 ds
IsWithout-digits [] e = tt
IsWithout-digits (d ∷ ds) e =
    let b : (is_digit d ≡ true) × (all_ascii_digits ds ≡ true) = both_true (is_digit d) (all_ascii_digits ds) e in
    ((λ f. let g : is_digit 32 ≡ true = rw f at b.0 in cc), IsWithout-digits ds b.1)

-- a number has digits alone
pub decimal_digits : (n : ℕ) → n < 2 ^ 32 → all_ascii_digits (decimal n) ≡ true
decimal_digits n h = digits_decimal own n (omega arith)

-- and no space
pub IsWithout-decimal : (n : ℕ) → n < 2 ^ 32 → IsWithout 32 (decimal n)
IsWithout-decimal n h = IsWithout-digits (decimal n) (decimal_digits n h)

-- a number, digit by digit, to the first space

pub read_to-space : (n : ℕ) (rest : List ℕ) → read_to n (32 ∷ rest) ≡ Some (n, rest)
unfolding read_to cut_at digits_from
read_to-space n rest = refl

pub read_to-end : (n : ℕ) → read_to n [] ≡ None
unfolding read_to cut_at
read_to-end n = refl

-- the number of a first word, read so, and what follows it
abbrev Numbered : (List ℕ → Option ℕ) → Option (List ℕ × List ℕ) → Option (ℕ × List ℕ)
Numbered f o = option_and_then {U = ℕ × List ℕ} (λ p. option_and_then {U = ℕ × List ℕ} (λ x. Some (x, p.1)) (f p.0)) o

-- what is cut off behind a byte that is not the space
after_digit : (n b : ℕ) (o : Option (List ℕ × List ℕ)) → Numbered (digits_from n) (option_map {U = List ℕ × List ℕ} (λ p. (b ∷ p.0, p.1)) o) ≡ Numbered (λ ds. digits_from n (b ∷ ds)) o
after_digit n b None = refl
after_digit n b (Some p) = refl

-- nothing is read where nothing can be
Numbered-none : (f : List ℕ → Option ℕ) (o : Option (List ℕ × List ℕ)) → ((ds : List ℕ) → f ds ≡ None) → Numbered f o ≡ None
Numbered-none f None h = refl
Numbered-none f (Some p) h = rw (h p.0) refl

Numbered-same : (f g : List ℕ → Option ℕ) (o : Option (List ℕ × List ℕ)) → ((ds : List ℕ) → f ds ≡ g ds) → Numbered f o ≡ Numbered g o
Numbered-same f g None h = refl
Numbered-same f g (Some p) h = rw (h p.0) refl

is_digit_space : (b : ℕ) → is_digit b ≡ true → eqb b 32 ≡ false
is_digit_space b e = grind (arith, nat_tests)

pub read_to-digit : (n b : ℕ) (rest : List ℕ) → is_digit b ≡ true → 10 * n + (b - 48) < 2 ^ 32 → read_to n (b ∷ rest) ≡ read_to (10 * n + (b - 48)) rest
unfolding read_to cut_at digits_from
read_to-digit n b rest d h =
    rw (is_digit_space b d, after_digit n b (cut_at 32 rest), d, lt-ltb (10 * n + (b - 48)) (2 ^ 32) h) refl

pub read_to-large : (n b : ℕ) (rest : List ℕ) → is_digit b ≡ true → 2 ^ 32 ≤ 10 * n + (b - 48) → read_to n (b ∷ rest) ≡ None
unfolding read_to cut_at digits_from
read_to-large n b rest d h =
    rw (is_digit_space b d, after_digit n b (cut_at 32 rest), d, le-ltb (10 * n + (b - 48)) (2 ^ 32) h) (Numbered-none (λ ds. None) (cut_at 32 rest) (λ ds. refl))

pub read_to-other : (n b : ℕ) (rest : List ℕ) → is_digit b ≡ false → b ≢ 32 → read_to n (b ∷ rest) ≡ None
unfolding read_to cut_at digits_from
read_to-other n b rest d h =
    rw (ne_eqb b 32 h, after_digit n b (cut_at 32 rest), d) (Numbered-none (λ ds. None) (cut_at 32 rest) (λ ds. refl))

-- where a number can stand before a first space

before_number : (f : List ℕ → Option ℕ) (c : ℕ) (o : Option (List ℕ × List ℕ)) → Numbered f (option_map {U = List ℕ × List ℕ} (λ p. (c ∷ p.0, p.1)) o) ≡ Numbered (λ ds. f (c ∷ ds)) o
before_number f c None = refl
before_number f c (Some p) = refl

unzeroed : (c : ℕ) (cs : List ℕ) → c ≢ 48 → decimal_number (c ∷ cs) ≡ digits_from 0 (c ∷ cs)
unfolding decimal_number
unzeroed c cs h = rw (no_zero c cs (λ e. absurd (h e))) refl

zero_alone_read : (cs : List ℕ) → leading decimal_number (48 ∷ 32 ∷ cs) ≡ read_to 0 (48 ∷ 32 ∷ cs)
unfolding leading read_to cut_at decimal_number
zero_alone_read cs = refl

zeroed : (ds : List ℕ) → 0 < length ds → decimal_number (48 ∷ ds) ≡ None
unfolding decimal_number
zeroed ds l = rw (lt-ltb 0 (length ds) l) refl

none_either : (b : Bool) (o : Option ℕ) → o ≡ None → cond b None o ≡ None
none_either true o e = refl
none_either false o e = e

undigit : (c : ℕ) (ds : List ℕ) → is_digit c ≡ false → decimal_number (c ∷ ds) ≡ None
unfolding decimal_number digits_from
undigit c ds d = none_either (eqb c 48 && ltb 0 (length ds)) (digits_from 0 (c ∷ ds)) (rw d refl)

pub begins_digit : (line : List ℕ) → 1 < length line → is_digit (get_or line 0 0) ≡ true → (get_or line 0 0 ≡ 48 → get_or line 1 0 ≡ 32) → leading decimal_number line ≡ read_to 0 line
unfolding leading read_to cut_at
begins_digit [] h d z = absurd (omega arith)
begins_digit (c ∷ []) h d z = absurd (omega arith)
begins_digit (c ∷ b ∷ cs) h d z =
    elim (eqb_tells c 48) [
      | inl t ↦ (let space : b ≡ 32 = z t.1 in rw (t.1, space) (zero_alone_read cs))
      | inr t ↦ rw (is_digit_space c d, before_number decimal_number c (cut_at 32 (b ∷ cs)), before_number (digits_from 0) c (cut_at 32 (b ∷ cs)))
          (Numbered-same (λ ds. decimal_number (c ∷ ds)) (λ ds. digits_from 0 (c ∷ ds)) (cut_at 32 (b ∷ cs)) (λ ds. unzeroed c ds t.1))
    ]

pub begins_zero : (line : List ℕ) → 1 < length line → get_or line 0 0 ≡ 48 → get_or line 1 0 ≢ 32 → leading decimal_number line ≡ None
unfolding leading cut_at decimal_number
begins_zero [] h z s = absurd (omega arith)
begins_zero (c ∷ []) h z s = absurd (omega arith)
begins_zero (c ∷ b ∷ cs) h z s =
    rw (z, ne_eqb b 32 s, before_number decimal_number 48 (option_map {U = List ℕ × List ℕ} (λ p. (b ∷ p.0, p.1)) (cut_at 32 cs)), before_number (λ ds. decimal_number (48 ∷ ds)) b (cut_at 32 cs))
    (Numbered-none (λ ds. decimal_number (48 ∷ b ∷ ds)) (cut_at 32 cs) (λ ds. zeroed (b ∷ ds) (omega arith)))

pub begins_other : (line : List ℕ) → 1 < length line → is_digit (get_or line 0 0) ≡ false → leading decimal_number line ≡ None
unfolding leading cut_at decimal_number
begins_other [] h d = absurd (omega arith)
begins_other (c ∷ cs) h d =
    elim (eqb_tells c 32) [
      | inl t ↦ rw t.0 refl
      | inr t ↦ rw (t.0, before_number decimal_number c (cut_at 32 cs)) (Numbered-none (λ ds. decimal_number (c ∷ ds)) (cut_at 32 cs) (λ ds. undigit c ds d))
    ]

pub begins_short : (line : List ℕ) → length line ≤ 1 → leading decimal_number line ≡ None
unfolding leading cut_at decimal_number
begins_short [] h = refl
begins_short (c ∷ []) h = elim (eqb_tells c 32) [ inl t ↦ rw t.0 refl | inr t ↦ rw t.0 refl ]
begins_short (c ∷ b ∷ cs) h = absurd (omega arith)

-- numbers of one digit

digit_small : (c : ℕ) → is_digit c ≡ true → 10 * 0 + (c - 48) < 2 ^ 32
digit_small c d = grind (arith, nat_tests)

-- a word that is one digit
pub one_digit : (word : List ℕ) → length word ≡ 1 → is_digit (get_or word 0 0) ≡ true → Some (get_or word 0 0 - 48) ≡ decimal_number word
one_digit [] l d = absurd (omega (arith, l))
one_digit (c ∷ []) l d =
    let same : 10 * 0 + (c - 48) ≡ c - 48 = omega arith in
    ap Some (sym same) ∙ sym (read_word (c ∷ []) (omega arith) (rw d refl) (λ _. refl) (digit_small c d))
one_digit (c ∷ b ∷ cs) l d = absurd (omega (arith, l))

-- a line that begins with one digit and a space
pub leading_digit : (line : List ℕ) → 1 < length line → is_digit (get_or line 0 0) ≡ true → get_or line 1 0 ≡ 32 → leading decimal_number line ≡ Some (get_or line 0 0 - 48, drop 2 line)
leading_digit [] h d s = absurd (omega arith)
leading_digit (c ∷ []) h d s = absurd (omega arith)
leading_digit (c ∷ b ∷ rest) h d s =
    let same : 10 * 0 + (c - 48) ≡ c - 48 = omega arith in
    begins_digit (c ∷ b ∷ rest) h d (λ _. s) ∙ read_to-digit 0 c (b ∷ rest) d (digit_small c d)
    ∙ ap (λ x. read_to (10 * 0 + (c - 48)) (x ∷ rest)) s ∙ read_to-space (10 * 0 + (c - 48)) rest ∙ ap (λ n. Some (n, rest)) same
