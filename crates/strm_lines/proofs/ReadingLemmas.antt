-- A reading undoes a writing, word by word.
use Rattle.std.proofs.lemmas.List.{take_at, drop_at, take-append-drop}
use Rattle.std.proofs.Common.{◌≡◌, length, take, drop, ℕ, ◌*◌, ◌<◌, ◌^◌, Bool, false, cond, codes, List, [], ◌∷◌, ◌++◌, Option, Some, None, true, inl, inr, leb, ◌&&◌, refl, sym, ap, ◌∙◌, arith}
use Rattle.std.specs.Fmt.{decimal}
use Rattle.std.specs.Prelude.{option_and_then}
use Rattle.std.proofs.lemmas.Bool.Decides.{eqb_tells}
use Rattle.std.specs.Str.{bytes_eq}
use Rattle.std.proofs.lemmas.Bool.{leb-true, le-leb}
use Rattle.std.proofs.lemmas.Option.{option_and_then_some, same_Some, cond_some}
use Rattle.std.proofs.lemmas.Slice.Eq.{bytes_eq-Decides}
use Rattle.std.proofs.lemmas.List.Elements.{All-nil}
use Rattle.strm_lines.specs.Words.{hex_pairs}
use Rattle.strm_lines.specs.Grammar.{IsU32, IsBetween, IsLineBytes, fed_word, AreFed}
use Rattle.strm_lines.specs.Reading.{cut_at, behind, leading, followed_by, followed_by_its, decimal_number, number_within, hex, fed_bytes}
use Rattle.strm_lines.proofs.CutLemmas.{IsWithout, cut_sound, cut_complete}
use Rattle.strm_lines.proofs.NumberLemmas.{number_sound, number_complete, IsWithout-decimal}
use Rattle.strm_lines.proofs.HexLemmas.{hex_sound, hex_complete, length-hex_pairs}
use Rattle.strm_lines.proofs.ChoiceLemmas.{chosen, both_true}

-- what is read is fit and is written so, and what is fit and written is read
pub record IsReading {A : Type 0} (read : List ℕ → Option A) (write : A → List ℕ) (IsFit : A → Type 0) : Type 0 where
  pub sound : (word : List ℕ) (x : A) → read word ≡ Some x → (write x ≡ word) × IsFit x
  pub complete : (x : A) → IsFit x → read (write x) ≡ Some x

-- what is fit is written without a space
pub record IsWord {A : Type 0} (write : A → List ℕ) (IsFit : A → Type 0) : Type 0 where
  pub spaceless : (x : A) → IsFit x → IsWithout 32 (write x)

pub IsReading-number : IsReading decimal_number decimal IsU32
IsReading-number = record { sound = number_sound; complete = number_complete }

pub IsWord-number : IsWord decimal IsU32
IsWord-number = record { spaceless = IsWithout-decimal }

pub IsReading-hex : IsReading hex hex_pairs IsLineBytes
IsReading-hex = record { sound = hex_sound; complete = hex_complete }

-- what is fed

fed_sound : (word bytes : List ℕ) → fed_bytes word ≡ Some bytes → (fed_word bytes ≡ word) × AreFed bytes
unfolding fed_bytes
fed_sound word bytes e = by_end (bytes_eq word (codes "end")) refl e
  where
    by_bytes : (xs : List ℕ) → (hex_pairs xs ≡ word) × IsLineBytes xs → (fed_word xs ≡ word) × AreFed xs
    by_bytes [] h = absurd (omega (arith, h.1.some))
    by_bytes (b ∷ xs) h = (h.0, record { most = h.1.most; each = h.1.each })

    by_end : (b : Bool) → bytes_eq word (codes "end") ≡ b → cond b (Some []) (hex word) ≡ Some bytes → (fed_word bytes ≡ word) × AreFed bytes
    by_end true f e =
        let same : [] ≡ bytes = same_Some [] bytes e in
        rw (← same) (sym ((bytes_eq-Decides word (codes "end")).0 f), record { most = omega arith; each = All-nil (λ b. b < 2 ^ 8) })
    by_end false f e = by_bytes bytes (hex_sound word bytes e)

-- bytes are an even number of digits, and are not taken for the end
not_end : (word : List ℕ) (n : ℕ) → length word ≡ 2 * n → bytes_eq word (codes "end") ≡ false
not_end word n e = by (bytes_eq word (codes "end")) refl
  where
    by : (b : Bool) → bytes_eq word (codes "end") ≡ b → b ≡ false
    by false f = refl
    by true f = let three : length word ≡ 3 = ap length ((bytes_eq-Decides word (codes "end")).0 f) in absurd (omega (arith, e, three))

fed_complete : (bytes : List ℕ) → AreFed bytes → fed_bytes (fed_word bytes) ≡ Some bytes
unfolding fed_bytes
fed_complete [] h = refl
fed_complete (b ∷ bytes) h =
    rw (not_end (hex_pairs (b ∷ bytes)) (length (b ∷ bytes)) (length-hex_pairs (b ∷ bytes)))
    (hex_complete (b ∷ bytes) (record { some = omega arith; most = h.most; each = h.each }))

pub IsReading-fed : IsReading fed_bytes fed_word AreFed
IsReading-fed = record { sound = fed_sound; complete = fed_complete }

within_sound : (low high : ℕ) (word : List ℕ) (x : ℕ) → number_within low high word ≡ Some x → (decimal x ≡ word) × IsBetween low high x
unfolding number_within
within_sound low high word x e =
    option_and_then_some _ (decimal_number word) x e (λ n p q.
    let a : (leb low n && leb n high ≡ true) × (Some n ≡ Some x) = chosen (leb low n && leb n high) (Some n) x q in
    let b : (leb low n ≡ true) × (leb n high ≡ true) = both_true (leb low n) (leb n high) a.0 in
    let same : n ≡ x = same_Some n x a.1 in
    rw (← same) ((number_sound word n p).0, (leb-true low n b.0, leb-true n high b.1)))

within_complete : (low high : ℕ) → high < 2 ^ 32 → (x : ℕ) → IsBetween low high x → number_within low high (decimal x) ≡ Some x
unfolding number_within
within_complete low high h x f = rw (number_complete x (omega (arith, f.1)), le-leb low x f.0, le-leb x high f.1) refl

pub IsReading-within : (low high : ℕ) → high < 2 ^ 32 → IsReading (number_within low high) decimal (IsBetween low high)
IsReading-within low high h = record { sound = within_sound low high; complete = within_complete low high h }

module _ {A : Type 0} {read : List ℕ → Option A} {write : A → List ℕ} {IsFit : A → Type 0} (r : IsReading read write IsFit) where
  pub leading_sound : (line : List ℕ) (p : A × List ℕ) → leading read line ≡ Some p → (write p.0 ++ 32 ∷ p.1 ≡ line) × IsFit p.0
  unfolding leading
  leading_sound line p e =
      option_and_then_some _ (cut_at 32 line) p e (λ q f g.
      option_and_then_some _ (read q.0) p g (λ x h k.
      let one = r.sound q.0 x h in
      let same : (x, q.1) ≡ p = same_Some (x, q.1) p k in
      rw (← same, cut_sound 32 line q f) (ap (λ w. w ++ 32 ∷ q.1) one.0, one.1)))

  pub leading_complete : IsWord write IsFit → (x : A) (rest : List ℕ) → IsFit x → leading read (write x ++ 32 ∷ rest) ≡ Some (x, rest)
  unfolding leading
  leading_complete w x rest f = rw (cut_complete 32 (write x) rest (w.spaceless x f), r.complete x f) refl

  -- two words, and the space between them, where the first decides what the second can be
  module _ {B : Type 0} {second : A → List ℕ → Option B} {other : A → B → List ℕ} {IsOther : A → B → Type 0} where
    pub IsReading-followed_by_its : IsWord write IsFit → ((x : A) → IsReading (second x) (other x) (IsOther x)) → IsReading (followed_by_its read second) (λ p. write p.0 ++ 32 ∷ other p.0 p.1) (λ p. IsFit p.0 × IsOther p.0 p.1)
    IsReading-followed_by_its w b = record {
      sound = λ line v e.
          option_and_then_some _ (leading read line) v e (λ p f g.
          option_and_then_some _ (second p.0 p.1) v g (λ y h k.
          let one = leading_sound line p f in
          let two = (b p.0).sound p.1 y h in
          let same : (p.0, y) ≡ v = same_Some (p.0, y) v k in
          rw (← same) (ap (λ o. write p.0 ++ 32 ∷ o) two.0 ∙ one.0, (one.1, two.1))));
      complete = λ v f. rw (leading_complete w v.0 (other v.0 v.1) f.0, (b v.0).complete v.1 f.1) refl;
    }

  -- and where it does not
  module _ {B : Type 0} {second : List ℕ → Option B} {other : B → List ℕ} {IsOther : B → Type 0} where
    pub IsReading-followed_by : IsWord write IsFit → IsReading second other IsOther → IsReading (followed_by read second) (λ p. write p.0 ++ 32 ∷ other p.1) (λ p. IsFit p.0 × IsOther p.1)
    IsReading-followed_by w b = IsReading-followed_by_its w (λ x. b)

-- what stands behind the front of a line

pub behind_sound : (front line rest : List ℕ) → behind front line ≡ Some rest → line ≡ front ++ rest
unfolding behind
behind_sound front line rest e =
    let c = cond_some (bytes_eq (take (length front) line) front) (drop (length front) line) rest e in
    let same = (bytes_eq-Decides (take (length front) line) front).0 c.0 in
    sym (rw (← c.1, ap (λ f. f ++ drop (length front) line) (sym same)) (take-append-drop (length front) line))

pub behind_complete : (front rest : List ℕ) → behind front (front ++ rest) ≡ Some rest
unfolding behind
behind_complete front rest =
    rw (take_at front rest (length front) refl, (bytes_eq-Decides front front).1 refl, drop_at front rest (length front) refl) refl

-- what stands behind two fronts, one behind the other

behind-append : (front back line : List ℕ) → behind (front ++ back) line ≡ option_and_then (behind back) (behind front line)
unfolding behind
behind-append [] back line = refl
behind-append (x ∷ front) back [] = refl
behind-append (x ∷ front) back (y ∷ line) =
    elim (eqb_tells y x) [ inl t ↦ rw t.0 (behind-append front back line) | inr t ↦ rw t.0 refl ]

pub behind_none : (front back line : List ℕ) → behind front line ≡ None → behind (front ++ back) line ≡ None
behind_none front back line e = behind-append front back line ∙ ap (option_and_then (behind back)) e

pub behind_more : (front back line rest : List ℕ) → behind front line ≡ Some rest → behind (front ++ back) line ≡ behind back rest
behind_more front back line rest e = behind-append front back line ∙ ap (option_and_then (behind back)) e
