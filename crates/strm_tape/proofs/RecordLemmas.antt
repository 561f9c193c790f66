-- Records and tapes: what is read is what is written, and the other way round.
use Rattle.std.proofs.Common.{◌≡◌, ℕ, zero, suc, ◌<◌, ◌≤◌, Bool, true, false, leb, List, [], ◌∷◌, ◌++◌, length, Some, refl, sym, ap, subst, ◌∙◌, arith, append_assoc}
use Rattle.std.specs.Prelude.{All, slice_get}
use Rattle.std.specs.List.{flat_map}
use Rattle.std.proofs.lemmas.Bool.{leb-true, le-leb}
use Rattle.std.proofs.lemmas.List.Elements.{All-nil, All-cons, All-head, All-tail}
use Rattle.std.proofs.lemmas.Option.{option_and_then_some, same_Some}
use Rattle.strm_memory.specs.Bytes.{IsBytes}
use Rattle.strm_buffers.specs.declared.answers.Answer.{Answer}
use Rattle.strm_buffers.specs.declared.answers.Answer.TheVariants.{Pending, Completed, Cancelled, Dropped, Failed}
use Rattle.strm_lines.specs.Grammar.{IsU32}
use Rattle.strm_lines.proofs.ChoiceLemmas.{chosen}
use Rattle.strm_lines.proofs.CutLemmas.{option_map_some}
use Rattle.strm_tape.specs.Spelling.{number_bytes, flag_byte, answer_number, spelled_counted, few_counted}
use Rattle.strm_tape.specs.Reading.{Found, followed_by_part, read_as, byte, read_number, flag, all_answers, answer, many, read_counted, few_listed}
use Rattle.strm_tape.proofs.ReadingLemmas.{IsReading, IsReading-byte, IsReading-number, IsReading-followed_by, found, rest_fits}

-- yes or no

flag_at : (n : ℕ) (b : Bool) → slice_get (false ∷ true ∷ []) n ≡ Some b → flag_byte b ≡ n
flag_at zero b e = sym (ap flag_byte (same_Some false b e))
flag_at (suc zero) b e = sym (ap flag_byte (same_Some true b e))
flag_at (suc (suc n)) b e = cc

flag_sound : (bytes rest : List ℕ) (b : Bool) → IsBytes bytes → flag bytes ≡ Some (b, rest) → (flag_byte b ∷ rest ≡ bytes) × Unit {0}
unfolding flag
flag_sound bytes rest b f e =
    option_and_then_some _ (byte bytes) (b, rest) e (λ p g h.
    option_and_then_some _ (slice_get (false ∷ true ∷ []) p.0) (b, rest) h (λ t i j.
    let same : (t, p.1) ≡ (b, rest) = same_Some (t, p.1) (b, rest) j in
    let one : (p.0 ∷ p.1 ≡ bytes) × (p.0 < 256) = IsReading-byte.sound bytes p.1 p.0 f g in
    found (λ u. flag_byte u ∷ []) (λ u. Unit {0}) bytes (t, p.1) (b, rest) same (ap (λ n. n ∷ p.1) (flag_at p.0 t i) ∙ one.0, tt)))

flag_complete : (b : Bool) (rest : List ℕ) → Unit {0} → flag (flag_byte b ∷ rest) ≡ Some (b, rest)
unfolding flag
flag_complete false rest f = refl
flag_complete true rest f = refl

pub IsReading-flag : IsReading flag (λ b. flag_byte b ∷ []) (λ b. Unit {0})
IsReading-flag = record { sound = flag_sound; complete = flag_complete }

-- answers

answer_at : (n : ℕ) (a : Answer) → slice_get all_answers n ≡ Some a → answer_number a ≡ n
answer_at zero a e = sym (ap answer_number (same_Some Pending a e))
answer_at (suc zero) a e = sym (ap answer_number (same_Some Completed a e))
answer_at (suc (suc zero)) a e = sym (ap answer_number (same_Some Cancelled a e))
answer_at (suc (suc (suc zero))) a e = sym (ap answer_number (same_Some Dropped a e))
answer_at (suc (suc (suc (suc zero)))) a e = sym (ap answer_number (same_Some Failed a e))
answer_at (suc (suc (suc (suc (suc n))))) a e = cc

answer_sound : (bytes rest : List ℕ) (a : Answer) → IsBytes bytes → answer bytes ≡ Some (a, rest) → (answer_number a ∷ rest ≡ bytes) × Unit {0}
unfolding answer
answer_sound bytes rest a f e =
    option_and_then_some _ (byte bytes) (a, rest) e (λ p g h.
    option_and_then_some _ (slice_get all_answers p.0) (a, rest) h (λ t i j.
    let same : (t, p.1) ≡ (a, rest) = same_Some (t, p.1) (a, rest) j in
    let one : (p.0 ∷ p.1 ≡ bytes) × (p.0 < 256) = IsReading-byte.sound bytes p.1 p.0 f g in
    found (λ u. answer_number u ∷ []) (λ u. Unit {0}) bytes (t, p.1) (a, rest) same (ap (λ n. n ∷ p.1) (answer_at p.0 t i) ∙ one.0, tt)))

answer_complete : (a : Answer) (rest : List ℕ) → Unit {0} → answer (answer_number a ∷ rest) ≡ Some (a, rest)
unfolding answer
answer_complete Pending rest f = refl
answer_complete Completed rest f = refl
answer_complete Cancelled rest f = refl
answer_complete Dropped rest f = refl
answer_complete Failed rest f = refl

pub IsReading-answer : IsReading answer (λ a. answer_number a ∷ []) (λ a. Unit {0})
IsReading-answer = record { sound = answer_sound; complete = answer_complete }

-- lists

-- so many that are fit
abbrev AreFit : {A : Type 0} → (A → Type 0) → ℕ → List A → Type 0
AreFit IsFit n xs = (length xs ≡ n) × All IsFit xs

-- as many as can be counted
abbrev pub AreListed : {A : Type 0} → (A → Type 0) → List A → Type 0
AreListed IsFit xs = IsU32 (length xs) × All IsFit xs

-- at most 64
abbrev pub AreFew : {A : Type 0} → (A → Type 0) → List A → Type 0
AreFew IsFit xs = (length xs ≤ 64) × All IsFit xs

module _ {A : Type 0} (read : List ℕ → Found A) (write : A → List ℕ) (IsFit : A → Type 0) where
  many_none : IsReading (many read 0) (flat_map write) (AreFit IsFit 0)
  unfolding many
  many_none = record {
    sound = λ bytes rest xs f e. found (flat_map write) (AreFit IsFit 0) bytes ([], bytes) (xs, rest) (same_Some ([], bytes) (xs, rest) e) (refl, (refl, All-nil IsFit));
    complete = empty;
  }
    where
      empty : (xs : List A) (rest : List ℕ) → AreFit IsFit 0 xs → many read 0 (flat_map write xs ++ rest) ≡ Some (xs, rest)
      empty [] rest f = refl
      empty (x ∷ xs) rest f = absurd (omega (arith, f.0))

  many_more : (n : ℕ) → IsReading (followed_by_part read (many read n)) (λ v. write v.0 ++ flat_map write v.1) (λ v. IsFit v.0 × AreFit IsFit n v.1) → IsReading (many read (suc n)) (flat_map write) (AreFit IsFit (suc n))
  unfolding many
  many_more n both = record {
    sound = λ bytes rest xs f e.
        option_map_some _ (followed_by_part read (many read n) bytes) (xs, rest) e (λ p g h.
        let one : ((write p.0.0 ++ flat_map write p.0.1) ++ p.1 ≡ bytes) × (IsFit p.0.0 × AreFit IsFit n p.0.1) = both.sound bytes p.1 p.0 f g in
        found (flat_map write) (AreFit IsFit (suc n)) bytes (p.0.0 ∷ p.0.1, p.1) (xs, rest) h (one.0, (ap suc one.1.1.0, All-cons IsFit p.0.0 p.0.1 one.1.0 one.1.1.1)));
    complete = more;
  }
    where
      more : (xs : List A) (rest : List ℕ) → AreFit IsFit (suc n) xs → read_as (λ p. p.0 ∷ p.1) (followed_by_part read (many read n)) (flat_map write xs ++ rest) ≡ Some (xs, rest)
      more [] rest f = absurd (omega (arith, f.0))
      more (x ∷ xs) rest f = rw (both.complete (x, xs) rest (All-head IsFit x xs f.1, (omega (arith, f.0), All-tail IsFit x xs f.1))) refl

module _ {A : Type 0} {read : List ℕ → Found A} {write : A → List ℕ} {IsFit : A → Type 0} where
  pub IsReading-many : IsReading read write IsFit → (n : ℕ) → IsReading (many read n) (flat_map write) (AreFit IsFit n)
  IsReading-many r zero = many_none read write IsFit
  IsReading-many r (suc n) = many_more read write IsFit n (IsReading-followed_by r (IsReading-many r n))

  listed_sound : IsReading read write IsFit → (bytes rest : List ℕ) (xs : List A) → IsBytes bytes → read_counted read bytes ≡ Some (xs, rest) → (spelled_counted write xs ++ rest ≡ bytes) × AreListed IsFit xs
  unfolding read_counted
  listed_sound r bytes rest xs f e =
      option_and_then_some _ (read_number bytes) (xs, rest) e (λ p g h.
      let one : (number_bytes p.0 ++ p.1 ≡ bytes) × IsU32 p.0 = IsReading-number.sound bytes p.1 p.0 f g in
      let two : (flat_map write xs ++ rest ≡ p.1) × AreFit IsFit p.0 xs = (IsReading-many r p.0).sound p.1 rest xs (rest_fits (number_bytes p.0) p.1 bytes f one.0) h in
      (append_assoc (number_bytes (length xs)) (flat_map write xs) rest ∙ ap (λ l. number_bytes (length xs) ++ l) two.0 ∙ ap (λ n. number_bytes n ++ p.1) two.1.0 ∙ one.0, (subst IsU32 (sym two.1.0) one.1, two.1.1)))

  listed_complete : IsReading read write IsFit → (xs : List A) (rest : List ℕ) → AreListed IsFit xs → read_counted read (spelled_counted write xs ++ rest) ≡ Some (xs, rest)
  unfolding read_counted
  listed_complete r xs rest f =
      rw (append_assoc (number_bytes (length xs)) (flat_map write xs) rest, IsReading-number.complete (length xs) (flat_map write xs ++ rest) f.0)
      ((IsReading-many r (length xs)).complete xs rest (refl, f.1))

  pub IsReading-listed : IsReading read write IsFit → IsReading (read_counted read) (spelled_counted write) (AreListed IsFit)
  IsReading-listed r = record { sound = listed_sound r; complete = listed_complete r }

  few_sound : IsReading read write IsFit → (bytes rest : List ℕ) (xs : List A) → IsBytes bytes → few_listed read bytes ≡ Some (xs, rest) → (few_counted write xs ++ rest ≡ bytes) × AreFew IsFit xs
  unfolding few_listed
  few_sound r bytes rest xs f e =
      option_and_then_some _ (byte bytes) (xs, rest) e (λ p g h.
      let c : (leb p.0 64 ≡ true) × (many read p.0 p.1 ≡ Some (xs, rest)) = chosen (leb p.0 64) (many read p.0 p.1) (xs, rest) h in
      let one : (p.0 ∷ p.1 ≡ bytes) × (p.0 < 256) = IsReading-byte.sound bytes p.1 p.0 f g in
      let two : (flat_map write xs ++ rest ≡ p.1) × AreFit IsFit p.0 xs = (IsReading-many r p.0).sound p.1 rest xs (rest_fits (p.0 ∷ []) p.1 bytes f one.0) c.1 in
      (ap (λ n. n ∷ flat_map write xs ++ rest) two.1.0 ∙ ap (λ l. p.0 ∷ l) two.0 ∙ one.0, (omega (arith, two.1.0, leb-true p.0 64 c.0), two.1.1)))

  few_complete : IsReading read write IsFit → (xs : List A) (rest : List ℕ) → AreFew IsFit xs → few_listed read (few_counted write xs ++ rest) ≡ Some (xs, rest)
  unfolding few_listed
  few_complete r xs rest f = rw (le-leb (length xs) 64 f.0) ((IsReading-many r (length xs)).complete xs rest (refl, f.1))

  pub IsReading-few : IsReading read write IsFit → IsReading (few_listed read) (few_counted write) (AreFew IsFit)
  IsReading-few r = record { sound = few_sound r; complete = few_complete r }
