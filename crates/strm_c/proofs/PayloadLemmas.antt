-- Digits of a word, one after the other: those that were found, and those that are still to be. Words are read as they were written.
use Rattle.std.proofs.Common.{◌≡◌, ℕ, suc, zero, ◌+◌, ◌*◌, ◌<◌, ◌≤◌, ◌/◌, ◌%◌, List, [], ◌∷◌, ◌++◌, length, take, drop, set, Option, Some, None, refl, sym, ap, ◌∙◌, true, false, arith}
use Rattle.std.proofs.lemmas.Bool.{eqb-true}
use Rattle.std.proofs.lemmas.List.{append_assoc, append-nil, at_drop_more}
use Rattle.std.proofs.Math.Nat.{pow-succ', mul-suc, mul-le-mul_left, mod-eq_of_lt, div-eq_of_lt, add-mul-mod_self_left, add-mul-div_left}
use Rattle.std.proofs.Math.Seq.{take-suc-set}
use Rattle.std.specs.Prelude.{Bool, ◌==◌, ◌-◌, ◌^◌, if◌then◌else◌}
use Rattle.std.proofs.Math.ListN.{get_or, drop_of_length-le}
use Rattle.strm_codes.specs.NodeBytes.{node_of_byte}
use Rattle.strm_codes.specs.declared.nodes.Node.{Node}
use Rattle.strm_c.specs.Payloads.{with_first, digits_at, digits_word, nodes_of_bytes}

-- these, and then those
abbrev pub joined : {E : Type 0} → List E → Option (List E) → Option (List E)
joined found (Some more) = Some (found ++ more)
joined found None = None

pub joined-none : {E : Type 0} (rest : Option (List E)) → joined [] rest ≡ rest
joined-none None = refl
joined-none (Some more) = refl

pub joined-first : {E : Type 0} (found : List E) (first : E) (rest : Option (List E)) → joined found (with_first (Some first) rest) ≡ joined (found ++ (first ∷ [])) rest
joined-first found first None = refl
joined-first found first (Some more) = ap Some (sym (append_assoc found (first ∷ []) more))

-- no more are there
pub digits_at-end : {E : Type 0} (base : ℕ) (read : ℕ → Option E) (most : ℕ) → digits_at base read most 0 ≡ Some []
unfolding digits_at
digits_at-end base read zero = refl
digits_at-end base read (suc most) = refl

-- one more is there
pub digits_at-first : {E : Type 0} (base : ℕ) (read : ℕ → Option E) (most word : ℕ) (first : E) → (word == 0) ≡ false → read (word % base) ≡ Some first → digits_at base read (suc most) word ≡ with_first (Some first) (digits_at base read most (word / base))
unfolding digits_at
digits_at-first base read most word first e s =
    ap (λ b. if b then Some [] else with_first (read (word % base)) (digits_at base read most (word / base))) e
    ∙ ap (λ f. with_first f (digits_at base read most (word / base))) s

-- what is there stands for nothing
pub digits_at-wrong : {E : Type 0} (base : ℕ) (read : ℕ → Option E) (most word : ℕ) → (word == 0) ≡ false → read (word % base) ≡ None → digits_at base read (suc most) word ≡ None
unfolding digits_at
digits_at-wrong base read most word e s =
    ap (λ b. if b then Some [] else with_first (read (word % base)) (digits_at base read most (word / base))) e
    ∙ ap (λ f. with_first f (digits_at base read most (word / base))) s

-- there are too many
pub digits_at-past : {E : Type 0} (base : ℕ) (read : ℕ → Option E) (word : ℕ) → (word == 0) ≡ false → digits_at base read 0 word ≡ None
unfolding digits_at
digits_at-past base read word e = ap (λ b. if b then Some [] else None) e

is_some_by : (word : ℕ) (b : Bool) → (word == 0) ≡ b → (word ≡ 0 → ⊥) → (word == 0) ≡ false
is_some_by word false e n = e
is_some_by word true e n = absurd (n (eqb-true word 0 e))

pub is_some_word : (word : ℕ) → (word ≡ 0 → ⊥) → (word == 0) ≡ false
is_some_word word n = is_some_by word (word == 0) refl n

-- so many of these were found, and the others are in what is left of the word
module _ {E : Type 0} (base : ℕ) (read : ℕ → Option E) (most : ℕ) (xs : List E) (k rest word : ℕ)
    (found : joined (take k xs) (digits_at base read (most - k) rest) ≡ digits_at base read most word) where
  pub found_all : rest ≡ 0 → digits_at base read most word ≡ Some (take k xs)
  found_all e =
      sym found
      ∙ ap (joined (take k xs)) (ap (digits_at base read (most - k)) e ∙ digits_at-end base read (most - k))
      ∙ ap Some (append-nil (take k xs))

  pub found_wrong : k < most → (rest ≡ 0 → ⊥) → read (rest % base) ≡ None → digits_at base read most word ≡ None
  found_wrong l n s =
      let e : most - k ≡ suc (most - (k + 1)) = omega (arith, l) in
      sym found
      ∙ ap (joined (take k xs)) (ap (λ m. digits_at base read m rest) e ∙ digits_at-wrong base read (most - (k + 1)) rest (is_some_word rest n) s)

  pub found_past : most ≤ k → (rest ≡ 0 → ⊥) → digits_at base read most word ≡ None
  found_past l n =
      let e : most - k ≡ 0 = omega (arith, l) in
      sym found
      ∙ ap (joined (take k xs)) (ap (λ m. digits_at base read m rest) e ∙ digits_at-past base read rest (is_some_word rest n))

  pub found_first : (first : E) → k < length xs → k < most → (rest ≡ 0 → ⊥) → read (rest % base) ≡ Some first → joined (take (k + 1) (set xs k first)) (digits_at base read (most - (k + 1)) (rest / base)) ≡ digits_at base read most word
  found_first first i l n s =
      let e : most - k ≡ suc (most - (k + 1)) = omega (arith, l) in
      let one : k + 1 ≡ suc k = omega arith in
      let more = digits_at base read (most - (k + 1)) (rest / base) in
      ap (λ ys. joined ys more) (ap (λ m. take m (set xs k first)) one ∙ take-suc-set xs k first i)
      ∙ sym (joined-first (take k xs) first more)
      ∙ sym (ap (joined (take k xs)) (ap (λ m. digits_at base read m rest) e ∙ digits_at-first base read (most - (k + 1)) rest first (is_some_word rest n) s))
      ∙ found

-- what a digit stands for is its own
pub record IsDigit {E : Type 0} (base : ℕ) (read : ℕ → Option E) (number : E → ℕ) (x : E) : Type 0 where
  pub some : 1 ≤ number x
  pub small : number x < base
  pub own : read (number x) ≡ Some x

abbrev pub AreDigits : {E : Type 0} → ℕ → (ℕ → Option E) → (E → ℕ) → List E → Type 0
AreDigits base read number [] = Unit {0}
AreDigits base read number (x ∷ xs) = IsDigit base read number x × AreDigits base read number xs

-- digits are read as they were written
pub digits_again : {E : Type 0} (base : ℕ) (read : ℕ → Option E) (number : E → ℕ) (most : ℕ) (xs : List E) → length xs ≤ most → AreDigits base read number xs → digits_at base read most (digits_word base number xs) ≡ Some xs
digits_again base read number most [] l d = digits_at-end base read most
digits_again base read number zero (x ∷ xs) l d = absurd (omega (arith, l))
digits_again base read number (suc most) (x ∷ xs) l d =
    let more = digits_word base number xs in
    let word = number x + base * more in
    let first : word % base ≡ number x = mod_first base (number x) more d.0.small in
    let rest : word / base ≡ more = div_first base (number x) more d.0.small in
    let some : (word == 0) ≡ false = is_some_word word (λ z. absurd (omega (arith, z, d.0.some))) in
    digits_at-first base read most word x some (ap read first ∙ d.0.own)
    ∙ ap (λ m. with_first (Some x) (digits_at base read most m)) rest
    ∙ ap (with_first (Some x)) (digits_again base read number most xs (omega (arith, l)) d.1)
  where
    mod_first : (base first more : ℕ) → first < base → (first + base * more) % base ≡ first
    mod_first base first more h = add-mul-mod_self_left first base more ∙ mod-eq_of_lt h

    div_first : (base first more : ℕ) → first < base → (first + base * more) / base ≡ more
    div_first base first more h =
        let some : 0 < base = omega (arith, h) in
        let none : first / base ≡ 0 = div-eq_of_lt h in
        add-mul-div_left first more some ∙ omega (arith, none)

-- a word of so many digits
pub digits_limit : (base n first more : ℕ) → first < base → more < base ^ n → first + base * more < base ^ suc n
digits_limit base n first more f m =
    let one : base * suc more ≡ base * more + base = mul-suc base more in
    let most : base * suc more ≤ base * base ^ n = mul-le-mul_left base m in
    let by : base ^ suc n ≡ base * base ^ n = pow-succ' base n in
    omega (arith, one, most, by, f)

drop_at : (bytes : List ℕ) (k : ℕ) → k < length bytes → drop k bytes ≡ get_or bytes k 0 ∷ drop (k + 1) bytes
drop_at bytes k l = at_drop_more (λ bs. bs) bytes k 0 l

-- so many of these were found, and the others are those of the bytes that are left
module _ (words : List Node) (k : ℕ) (bytes : List ℕ) (found : joined (take k words) (nodes_of_bytes (drop k bytes)) ≡ nodes_of_bytes bytes) where
  pub bytes_all : length bytes ≤ k → nodes_of_bytes bytes ≡ Some (take k words)
  unfolding nodes_of_bytes
  bytes_all l =
      sym found
      ∙ ap (λ bs. joined (take k words) (nodes_of_bytes bs)) (drop_of_length-le bytes l)
      ∙ ap Some (append-nil (take k words))

  pub bytes_wrong : k < length bytes → node_of_byte (get_or bytes k 0) ≡ None → nodes_of_bytes bytes ≡ None
  unfolding nodes_of_bytes
  bytes_wrong l n =
      sym found
      ∙ ap (λ bs. joined (take k words) (nodes_of_bytes bs)) (drop_at bytes k l)
      ∙ ap (λ w. joined (take k words) (with_first w (nodes_of_bytes (drop (k + 1) bytes)))) n

  pub bytes_first : (word : Node) → k < length words → k < length bytes → node_of_byte (get_or bytes k 0) ≡ Some word → joined (take (k + 1) (set words k word)) (nodes_of_bytes (drop (k + 1) bytes)) ≡ nodes_of_bytes bytes
  unfolding nodes_of_bytes
  bytes_first word i l n =
      let one : k + 1 ≡ suc k = omega arith in
      let more = nodes_of_bytes (drop (k + 1) bytes) in
      ap (λ ws. joined ws more) (ap (λ m. take m (set words k word)) one ∙ take-suc-set words k word i)
      ∙ sym (joined-first (take k words) word more)
      ∙ sym (ap (λ w. joined (take k words) (with_first w more)) n)
      ∙ sym (ap (λ bs. joined (take k words) (nodes_of_bytes bs)) (drop_at bytes k l))
      ∙ found
