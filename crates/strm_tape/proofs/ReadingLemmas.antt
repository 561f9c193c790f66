-- Reading the front of a tape undoes its writing, part by part.
use Rattle.std.proofs.Common.{◌≡◌, ℕ, ◌<◌, ◌≤◌, ◌^◌, true, ◌&&◌, leb, List, [], ◌∷◌, ◌++◌, length, take, drop, Some, refl, sym, ap, subst, ◌∙◌, arith, append_assoc, length-append, length-take-le}
use Rattle.std.proofs.lemmas.Bool.{leb-true, le-leb}
use Rattle.std.proofs.lemmas.List.{take_at, drop_at, take-append-drop}
use Rattle.std.proofs.lemmas.Option.{option_and_then_some, same_Some}
use Rattle.strm_memory.specs.Bytes.{le, to_le, IsBytes}
use Rattle.strm_memory.proofs.ByteLemmas.{length-to_le, le-to_le, to_le-le, le-take-lt, IsBytes-drop, IsBytes-take}
use Rattle.strm_lines.specs.Grammar.{IsU32, IsBetween}
use Rattle.strm_lines.proofs.ChoiceLemmas.{chosen, both_true}
use Rattle.strm_tape.specs.Spelling.{number_bytes, counted_bytes}
use Rattle.strm_tape.specs.Reading.{Found, followed_by_its_part, followed_by_part, read_nothing, byte, read_number, within, chunk}

-- what is read is fit and is written so in front of what follows; what is fit is read where it is written
pub record IsReading {A : Type 0} (read : List ℕ → Found A) (write : A → List ℕ) (IsFit : A → Type 0) : Type 0 where
  pub sound : (bytes rest : List ℕ) (x : A) → IsBytes bytes → read bytes ≡ Some (x, rest) → (write x ++ rest ≡ bytes) × IsFit x
  pub complete : (x : A) (rest : List ℕ) → IsFit x → read (write x ++ rest) ≡ Some (x, rest)

-- so no bytes begin with two
pub one_reading : {A : Type 0} {read : List ℕ → Found A} {write : A → List ℕ} {IsFit : A → Type 0} → IsReading read write IsFit → (x y : A) (a b : List ℕ) → IsFit x → IsFit y → write x ++ a ≡ write y ++ b → (x ≡ y) × (a ≡ b)
one_reading {A} {read} r x y a b f g e =
    let same : (x, a) ≡ (y, b) = same_Some (x, a) (y, b) (sym (r.complete x a f) ∙ ap read e ∙ r.complete y b g) in
    (ap (λ p. p.0) same, ap (λ p. p.1) same)

-- the same of what was found, by another name
pub found : {A : Type 0} (write : A → List ℕ) (IsFit : A → Type 0) (bytes : List ℕ) (p q : A × List ℕ) → p ≡ q → (write p.0 ++ p.1 ≡ bytes) × IsFit p.0 → (write q.0 ++ q.1 ≡ bytes) × IsFit q.0
found write IsFit bytes p q e h = subst (λ r. (write r.0 ++ r.1 ≡ bytes) × IsFit r.0) e h

-- what follows is bytes too
pub rest_fits : (front rest bytes : List ℕ) → IsBytes bytes → front ++ rest ≡ bytes → IsBytes rest
rest_fits front rest bytes f e =
    subst IsBytes (drop_at front rest (length front) refl) (IsBytes-drop (front ++ rest) (length front) (subst IsBytes (sym e) f))

module _ {A B : Type 0} {first : List ℕ → Found A} {write : A → List ℕ} {IsFit : A → Type 0}
    {second : A → List ℕ → Found B} {write_behind : A → B → List ℕ} {IsFitBehind : A → B → Type 0} where
  pub IsReading-followed_by_its : IsReading first write IsFit → ((x : A) → IsReading (second x) (write_behind x) (IsFitBehind x)) → IsReading (followed_by_its_part first second) (λ v. write v.0 ++ write_behind v.0 v.1) (λ v. IsFit v.0 × IsFitBehind v.0 v.1)
  IsReading-followed_by_its r s = record { sound = both; complete = again }
    where
      both : (bytes rest : List ℕ) (v : A × B) → IsBytes bytes → followed_by_its_part first second bytes ≡ Some (v, rest) → ((write v.0 ++ write_behind v.0 v.1) ++ rest ≡ bytes) × (IsFit v.0 × IsFitBehind v.0 v.1)
      both bytes rest v f e =
          option_and_then_some _ (first bytes) (v, rest) e (λ p g h.
          option_and_then_some _ (second p.0 p.1) (v, rest) h (λ q i j.
          let one : (write p.0 ++ p.1 ≡ bytes) × IsFit p.0 = r.sound bytes p.1 p.0 f g in
          let two : (write_behind p.0 q.0 ++ q.1 ≡ p.1) × IsFitBehind p.0 q.0 = (s p.0).sound p.1 q.1 q.0 (rest_fits (write p.0) p.1 bytes f one.0) i in
          let same : ((p.0, q.0), q.1) ≡ (v, rest) = same_Some ((p.0, q.0), q.1) (v, rest) j in
          found (λ u. write u.0 ++ write_behind u.0 u.1) (λ u. IsFit u.0 × IsFitBehind u.0 u.1) bytes ((p.0, q.0), q.1) (v, rest) same
          (append_assoc (write p.0) (write_behind p.0 q.0) q.1 ∙ ap (λ l. write p.0 ++ l) two.0 ∙ one.0, (one.1, two.1))))

      again : (v : A × B) (rest : List ℕ) → IsFit v.0 × IsFitBehind v.0 v.1 → followed_by_its_part first second ((write v.0 ++ write_behind v.0 v.1) ++ rest) ≡ Some (v, rest)
      again v rest f =
          rw (append_assoc (write v.0) (write_behind v.0 v.1) rest, r.complete v.0 (write_behind v.0 v.1 ++ rest) f.0, (s v.0).complete v.1 rest f.1) refl

module _ {A B : Type 0} {first : List ℕ → Found A} {write : A → List ℕ} {IsFit : A → Type 0}
    {second : List ℕ → Found B} {write_behind : B → List ℕ} {IsFitBehind : B → Type 0} where
  pub IsReading-followed_by : IsReading first write IsFit → IsReading second write_behind IsFitBehind → IsReading (followed_by_part first second) (λ v. write v.0 ++ write_behind v.1) (λ v. IsFit v.0 × IsFitBehind v.1)
  IsReading-followed_by r s = IsReading-followed_by_its r (λ x. s)

pub IsReading-nothing : IsReading read_nothing (λ v. []) (λ v. Unit {0})
IsReading-nothing = record {
  sound = λ bytes rest v f e. let same : (tt, bytes) ≡ (v, rest) = same_Some (tt, bytes) (v, rest) e in (sym (ap (λ p. p.1) same), tt);
  complete = λ v rest f. refl;
}

pub IsReading-byte : IsReading byte (λ b. b ∷ []) (λ b. b < 256)
IsReading-byte = record { sound = one; complete = λ b rest f. refl }
  where
    one : (bytes rest : List ℕ) (x : ℕ) → IsBytes bytes → byte bytes ≡ Some (x, rest) → (x ∷ rest ≡ bytes) × (x < 256)
    one [] rest x f e = cc
    one (b ∷ bytes) rest x f e =
        let same : (b, bytes) ≡ (x, rest) = same_Some (b, bytes) (x, rest) e in
        found (λ y. y ∷ []) (λ y. y < 256) (b ∷ bytes) (b, bytes) (x, rest) same (refl, f 0)

-- numbers

number_of : (front rest : List ℕ) → length front ≡ 4 → read_number (front ++ rest) ≡ Some (le front, rest)
unfolding read_number
number_of front rest h =
    rw (le-leb 4 (length (front ++ rest)) (omega (arith, length-append front rest, h)), take_at front rest 4 h, drop_at front rest 4 h) refl

number_sound : (bytes rest : List ℕ) (x : ℕ) → IsBytes bytes → read_number bytes ≡ Some (x, rest) → (number_bytes x ++ rest ≡ bytes) × IsU32 x
unfolding read_number
number_sound bytes rest x f e =
    let c : (leb 4 (length bytes) ≡ true) × (Some (le (take 4 bytes), drop 4 bytes) ≡ Some (x, rest)) = chosen (leb 4 (length bytes)) (Some (le (take 4 bytes), drop 4 bytes)) (x, rest) e in
    let same : (le (take 4 bytes), drop 4 bytes) ≡ (x, rest) = same_Some (le (take 4 bytes), drop 4 bytes) (x, rest) c.1 in
    let size : length (take 4 bytes) ≡ 4 = length-take-le 4 bytes (leb-true 4 (length bytes) c.0) in
    let again : to_le 4 (le (take 4 bytes)) ≡ take 4 bytes = ap (λ w. to_le w (le (take 4 bytes))) (sym size) ∙ to_le-le (take 4 bytes) (IsBytes-take bytes 4 f) in
    found number_bytes IsU32 bytes (le (take 4 bytes), drop 4 bytes) (x, rest) same (ap (λ l. l ++ drop 4 bytes) again ∙ take-append-drop 4 bytes, le-take-lt 4 bytes f)

pub IsReading-number : IsReading read_number number_bytes IsU32
IsReading-number = record {
  sound = number_sound;
  complete = λ n rest f. number_of (to_le 4 n) rest (length-to_le 4 n) ∙ ap (λ m. Some (m, rest)) (le-to_le 4 n f);
}

within_sound : (low high : ℕ) (bytes rest : List ℕ) (x : ℕ) → IsBytes bytes → within low high bytes ≡ Some (x, rest) → (number_bytes x ++ rest ≡ bytes) × IsBetween low high x
unfolding within
within_sound low high bytes rest x f e =
    option_and_then_some _ (read_number bytes) (x, rest) e (λ p g h.
    let c : (leb low p.0 && leb p.0 high ≡ true) × (Some p ≡ Some (x, rest)) = chosen (leb low p.0 && leb p.0 high) (Some p) (x, rest) h in
    let b : (leb low p.0 ≡ true) × (leb p.0 high ≡ true) = both_true (leb low p.0) (leb p.0 high) c.0 in
    let same : p ≡ (x, rest) = same_Some p (x, rest) c.1 in
    found number_bytes (IsBetween low high) bytes p (x, rest) same ((number_sound bytes p.1 p.0 f g).0, (leb-true low p.0 b.0, leb-true p.0 high b.1)))

within_complete : (low high : ℕ) → high < 2 ^ 32 → (x : ℕ) (rest : List ℕ) → IsBetween low high x → within low high (number_bytes x ++ rest) ≡ Some (x, rest)
unfolding within
within_complete low high h x rest f =
    rw (IsReading-number.complete x rest (omega (arith, f.1)), le-leb low x f.0, le-leb x high f.1) refl

pub IsReading-within : (low high : ℕ) → high < 2 ^ 32 → IsReading (within low high) number_bytes (IsBetween low high)
IsReading-within low high h = record { sound = within_sound low high; complete = within_complete low high h }

-- a number that is at most another
upto_sound : (high : ℕ) (bytes rest : List ℕ) (x : ℕ) → IsBytes bytes → within 0 high bytes ≡ Some (x, rest) → (number_bytes x ++ rest ≡ bytes) × (IsU32 x × (x ≤ high))
unfolding within
upto_sound high bytes rest x f e =
    option_and_then_some _ (read_number bytes) (x, rest) e (λ p g h.
    let c : (leb 0 p.0 && leb p.0 high ≡ true) × (Some p ≡ Some (x, rest)) = chosen (leb 0 p.0 && leb p.0 high) (Some p) (x, rest) h in
    let b : (leb 0 p.0 ≡ true) × (leb p.0 high ≡ true) = both_true (leb 0 p.0) (leb p.0 high) c.0 in
    let same : p ≡ (x, rest) = same_Some p (x, rest) c.1 in
    let one : (number_bytes p.0 ++ p.1 ≡ bytes) × IsU32 p.0 = number_sound bytes p.1 p.0 f g in
    found number_bytes (λ y. IsU32 y × (y ≤ high)) bytes p (x, rest) same (one.0, (one.1, leb-true p.0 high b.1)))

upto_complete : (high : ℕ) (x : ℕ) (rest : List ℕ) → IsU32 x × (x ≤ high) → within 0 high (number_bytes x ++ rest) ≡ Some (x, rest)
unfolding within
upto_complete high x rest f =
    rw (IsReading-number.complete x rest f.0, le-leb 0 x (omega arith), le-leb x high f.1) refl

pub IsReading-upto : (high : ℕ) → IsReading (within 0 high) number_bytes (λ x. IsU32 x × (x ≤ high))
IsReading-upto high = record { sound = upto_sound high; complete = upto_complete high }

-- low to 64 bytes
pub record IsChunk (low : ℕ) (bytes : List ℕ) : Type 0 where
  pub some : low ≤ length bytes
  pub most : length bytes ≤ 64
  pub each : IsBytes bytes

chunk_sound : (low : ℕ) (bytes rest xs : List ℕ) → IsBytes bytes → chunk low bytes ≡ Some (xs, rest) → (counted_bytes xs ++ rest ≡ bytes) × IsChunk low xs
unfolding chunk
chunk_sound low bytes rest xs f e =
    option_and_then_some _ (byte bytes) (xs, rest) e (λ p g h.
    let n = p.0 in
    let c : (leb low n && leb n 64 && leb n (length p.1) ≡ true) × (Some (take n p.1, drop n p.1) ≡ Some (xs, rest)) = chosen (leb low n && leb n 64 && leb n (length p.1)) (Some (take n p.1, drop n p.1)) (xs, rest) h in
    let b : (leb low n && leb n 64 ≡ true) × (leb n (length p.1) ≡ true) = both_true (leb low n && leb n 64) (leb n (length p.1)) c.0 in
    let d : (leb low n ≡ true) × (leb n 64 ≡ true) = both_true (leb low n) (leb n 64) b.0 in
    let same : (take n p.1, drop n p.1) ≡ (xs, rest) = same_Some (take n p.1, drop n p.1) (xs, rest) c.1 in
    let one : (n ∷ p.1 ≡ bytes) × (n < 256) = IsReading-byte.sound bytes p.1 n f g in
    let size : length (take n p.1) ≡ n = length-take-le n p.1 (leb-true n (length p.1) b.1) in
    let all : length (take n p.1) ∷ take n p.1 ++ drop n p.1 ≡ bytes = ap (λ k. k ∷ take n p.1 ++ drop n p.1) size ∙ ap (λ l. n ∷ l) (take-append-drop n p.1) ∙ one.0 in
    let chunk : IsChunk low (take n p.1) = record {
      some = omega (arith, size, leb-true low n d.0);
      most = omega (arith, size, leb-true n 64 d.1);
      each = IsBytes-take p.1 n (rest_fits (n ∷ []) p.1 bytes f one.0);
    } in
    found counted_bytes (IsChunk low) bytes (take n p.1, drop n p.1) (xs, rest) same (all, chunk))

chunk_complete : (low : ℕ) (xs rest : List ℕ) → IsChunk low xs → chunk low (counted_bytes xs ++ rest) ≡ Some (xs, rest)
unfolding chunk
chunk_complete low xs rest f =
    let n = length xs in
    rw (le-leb low n f.some, le-leb n 64 f.most, le-leb n (length (xs ++ rest)) (omega (arith, length-append xs rest)), take_at xs rest n refl, drop_at xs rest n refl) refl

pub IsReading-chunk : (low : ℕ) → IsReading (chunk low) counted_bytes (IsChunk low)
IsReading-chunk low = record { sound = chunk_sound low; complete = chunk_complete low }
