-- Scalars: what is read is what is written, and the other way round.
use Rattle.std.proofs.Common.{◌≡◌, ℕ, ◌≤◌, List, [], ◌∷◌, ◌++◌, Bool, true, false, cond, Some, refl, sym}
use Rattle.std.specs.Str.{bytes_eq}
use Rattle.std.proofs.lemmas.Option.{same_Some, none-some}
use Rattle.std.proofs.lemmas.Slice.Eq.{bytes_eq-Decides}
use Rattle.strm_codes.specs.declared.scalars.Scalar.{Scalar}
use Rattle.strm_codes.specs.declared.scalars.Scalar.TheVariants.{Bool as Flag, S8, U8, S16, U16, S32, U32, S64, U64, Char, F32, F64}
use Rattle.strm_lines.specs.Words.{scalar_word}
use Rattle.strm_lines.specs.Reading.{named_among, early, late, scalar_read}
use Rattle.strm_lines.proofs.CutLemmas.{IsWithout, are_above, without_low}

named_sound : (scalars : List Scalar) (word : List ℕ) (s : Scalar) → named_among scalars word ≡ Some s → scalar_word s ≡ word
named_sound [] word s e = absurd (none-some s e)
named_sound (t ∷ scalars) word s e = by_test (bytes_eq word (scalar_word t)) refl (named_sound scalars word s) e
  where
    by_test : (b : Bool) → bytes_eq word (scalar_word t) ≡ b → (named_among scalars word ≡ Some s → scalar_word s ≡ word) → cond b (Some t) (named_among scalars word) ≡ Some s → scalar_word s ≡ word
    by_test true f others e = let same : t ≡ s = same_Some t s e in rw (← same) (sym ((bytes_eq-Decides word (scalar_word t)).0 f))
    by_test false f others e = others e

pub scalar_sound : (word : List ℕ) (s : Scalar) → scalar_read word ≡ Some s → scalar_word s ≡ word
unfolding scalar_read
scalar_sound word s e = named_sound (early ++ late) word s e

-- a scalar's name is read as it, and has letters and digits alone
pub record IsNamed (s : Scalar) : Type 0 where
  pub read : scalar_read (scalar_word s) ≡ Some s
  pub letters : are_above 44 (scalar_word s) ≡ true

pub named : (s : Scalar) → IsNamed s
unfolding scalar_read
named Flag = record { read = refl; letters = refl }
named S8 = record { read = refl; letters = refl }
named U8 = record { read = refl; letters = refl }
named S16 = record { read = refl; letters = refl }
named U16 = record { read = refl; letters = refl }
named S32 = record { read = refl; letters = refl }
named U32 = record { read = refl; letters = refl }
named S64 = record { read = refl; letters = refl }
named U64 = record { read = refl; letters = refl }
named Char = record { read = refl; letters = refl }
named F32 = record { read = refl; letters = refl }
named F64 = record { read = refl; letters = refl }

pub IsWithout-scalar : (c : ℕ) → c ≤ 44 → (s : Scalar) → IsWithout c (scalar_word s)
IsWithout-scalar c h s = without_low c 44 (scalar_word s) h (named s).letters
