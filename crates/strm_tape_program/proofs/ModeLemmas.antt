-- The one word of a mode, and the mode of a word.
use Rattle.std.proofs.Common.{◌≡◌, ℕ, Bool, true, false, List, [], ◌∷◌, length, map, get_or, Some, None, refl, sym, ap, ◌∙◌, arith}
use Rattle.std.proofs.lemmas.Slice.Eq.{bytes_eq-Decides}
use Rattle.std.specs.Prelude.{codes}
use Rattle.std.specs.Str.{bytes_eq}
use Rattle.strm_tape_program.specs.declared.modes.Mode.{Mode}
use Rattle.strm_tape_program.specs.declared.modes.Mode.TheVariants.{Take, Play}
use Rattle.strm_tape_program.specs.Modes.{word_of_mode, mode_of_word}

-- of one word, which it is
pub one_word : {X : Type 0} (f : X → List ℕ) (items : List X) (x : X) (word : List ℕ) → length items ≡ 1 → x ≡ get_or items 0 x → (f x ≡ word → map f items ≡ word ∷ []) × (map f items ≡ word ∷ [] → f x ≡ word)
one_word f [] x word l e = absurd (omega (arith, l))
one_word f (y ∷ []) x word l e = (
  (λ q. ap (λ v. v ∷ []) (ap f (sym e) ∙ q)),
  (λ q. let first : f y ≡ word = cc in ap f e ∙ first),
)
one_word f (y ∷ z ∷ more) x word l e = absurd (omega (arith, l))

-- a word that is read as a mode is its word
pub word_read : (word : List ℕ) (mode : Mode) → mode_of_word word ≡ Some mode → word ≡ word_of_mode mode
word_read word mode e = by (bytes_eq word (codes "take")) (bytes_eq word (codes "play")) refl refl
  where
    by : (a b : Bool) → bytes_eq word (codes "take") ≡ a → bytes_eq word (codes "play") ≡ b → word ≡ word_of_mode mode
    by true b p q =
        let is : Take ≡ mode = (let r : mode_of_word word ≡ Some Take = rw p refl in cc) in
        (bytes_eq-Decides word (codes "take")).0 p ∙ ap word_of_mode is
    by false true p q =
        let is : Play ≡ mode = (let r : mode_of_word word ≡ Some Play = rw (p, q) refl in cc) in
        (bytes_eq-Decides word (codes "play")).0 q ∙ ap word_of_mode is
    by false false p q = absurd (let r : mode_of_word word ≡ None = rw (p, q) refl in cc)

-- and the word of a mode is read as it
pub word_is_read : (word : List ℕ) (mode : Mode) → word ≡ word_of_mode mode → mode_of_word word ≡ Some mode
word_is_read word Take e = rw e refl
word_is_read word Play e = rw e refl
