-- The byte of a word stands for that word, and for no other.
use Rattle.std.proofs.Common.{◌≡◌, ℕ, zero, suc, ◌+◌, ◌-◌, ◌<◌, ◌≤◌, ltb, if◌then◌else◌, List, [], ◌∷◌, length, get_or, Option, Some, None, refl, sym, ap, subst, ◌∙◌, inl, inr, arith, length-drop}
use Rattle.std.specs.Prelude.{slice_get}
use Rattle.std.specs.Option.{option_map}
use Rattle.std.proofs.lemmas.Bool.{cases_lt, lt-ltb, le-ltb}
use Rattle.std.proofs.lemmas.Option.{none-some, same_Some}
use Rattle.strm_codes.specs.NodeBytes.{node_byte, node_of_byte, all_scalars}
use Rattle.strm_codes.specs.Sameness.{scalar_number}
use Rattle.strm_codes.specs.Spellings.{arity, spelled, HasCount, AreSpelled}
use Rattle.strm_codes.specs.declared.nodes.Node.{Node}
use Rattle.strm_codes.specs.declared.nodes.Node.TheVariants as node
use Rattle.strm_codes.specs.declared.scalars.Scalar.{Scalar}
use Rattle.strm_codes.specs.declared.scalars.Scalar.TheVariants.{Bool as Flag, S8, U8, S16, U16, S32, U32, S64, U64, Char, F32, F64}

-- a word that has a byte: its count is one that there is, and it has at most 15 parts
pub record HasByte (w : Node) : Type 0 where
  pub counted : HasCount w
  pub few : arity w ≤ 15

-- the word of a byte
pub record IsWordOf (b : ℕ) (w : Node) : Type 0 where
  pub byte : node_byte w ≡ b
  pub has : HasByte w

-- SCALARS

pub number_at : (n : ℕ) (s : Scalar) → slice_get all_scalars n ≡ Some s → scalar_number s ≡ n
number_at zero s e = sym (ap scalar_number (same_Some Flag s e))
number_at (suc zero) s e = sym (ap scalar_number (same_Some S8 s e))
number_at (suc (suc zero)) s e = sym (ap scalar_number (same_Some U8 s e))
number_at (suc (suc (suc zero))) s e = sym (ap scalar_number (same_Some S16 s e))
number_at (suc (suc (suc (suc zero)))) s e = sym (ap scalar_number (same_Some U16 s e))
number_at (suc (suc (suc (suc (suc zero))))) s e = sym (ap scalar_number (same_Some S32 s e))
number_at (suc (suc (suc (suc (suc (suc zero)))))) s e = sym (ap scalar_number (same_Some U32 s e))
number_at (suc (suc (suc (suc (suc (suc (suc zero))))))) s e = sym (ap scalar_number (same_Some S64 s e))
number_at (suc (suc (suc (suc (suc (suc (suc (suc zero)))))))) s e = sym (ap scalar_number (same_Some U64 s e))
number_at (suc (suc (suc (suc (suc (suc (suc (suc (suc zero))))))))) s e = sym (ap scalar_number (same_Some Char s e))
number_at (suc (suc (suc (suc (suc (suc (suc (suc (suc (suc zero)))))))))) s e = sym (ap scalar_number (same_Some F32 s e))
number_at (suc (suc (suc (suc (suc (suc (suc (suc (suc (suc (suc zero))))))))))) s e = sym (ap scalar_number (same_Some F64 s e))
number_at (suc (suc (suc (suc (suc (suc (suc (suc (suc (suc (suc (suc n)))))))))))) s e = cc

-- FROM A WORD TO ITS BYTE AND BACK

module _ (b n : ℕ) where
  tuple_back : b ≡ 16 + n → 1 ≤ n → n ≤ 15 → node_of_byte b ≡ Some (node.Tuple n)
  tuple_back e some most =
      let is : b - 16 ≡ n = omega arith in
      rw (le-ltb b 1 (omega arith), le-ltb b 13 (omega arith), le-ltb b 14 (omega arith), le-ltb b 15 (omega arith), le-ltb b 16 (omega arith), le-ltb b 17 (omega arith), lt-ltb b 32 (omega arith))
      (ap (λ k. Some (node.Tuple k)) is)

  variant_back : b ≡ 32 + n → 1 ≤ n → n ≤ 15 → node_of_byte b ≡ Some (node.Variant n)
  variant_back e some most =
      let is : b - 32 ≡ n = omega arith in
      rw (le-ltb b 1 (omega arith), le-ltb b 13 (omega arith), le-ltb b 14 (omega arith), le-ltb b 15 (omega arith), le-ltb b 16 (omega arith), le-ltb b 17 (omega arith), le-ltb b 32 (omega arith), le-ltb b 33 (omega arith), lt-ltb b 48 (omega arith))
      (ap (λ k. Some (node.Variant k)) is)

  flags_back : b ≡ 47 + n → 1 ≤ n → n ≤ 32 → node_of_byte b ≡ Some (node.Flags n)
  flags_back e some most =
      let is : b - 47 ≡ n = omega arith in
      rw (le-ltb b 1 (omega arith), le-ltb b 13 (omega arith), le-ltb b 14 (omega arith), le-ltb b 15 (omega arith), le-ltb b 16 (omega arith), le-ltb b 17 (omega arith), le-ltb b 32 (omega arith), le-ltb b 33 (omega arith), le-ltb b 48 (omega arith), lt-ltb b 80 (omega arith))
      (ap (λ k. Some (node.Flags k)) is)

  enum_back : b ≡ 127 + n → 1 ≤ n → node_of_byte b ≡ Some (node.Enum n)
  enum_back e some =
      let is : b - 127 ≡ n = omega arith in
      rw (le-ltb b 1 (omega arith), le-ltb b 13 (omega arith), le-ltb b 14 (omega arith), le-ltb b 15 (omega arith), le-ltb b 16 (omega arith), le-ltb b 17 (omega arith), le-ltb b 32 (omega arith), le-ltb b 33 (omega arith), le-ltb b 48 (omega arith), le-ltb b 80 (omega arith), le-ltb b 128 (omega arith))
      (ap (λ k. Some (node.Enum k)) is)

plain_back : (s : Scalar) → node_of_byte (node_byte (node.Plain s)) ≡ Some (node.Plain s)
plain_back Flag = refl
plain_back S8 = refl
plain_back U8 = refl
plain_back S16 = refl
plain_back U16 = refl
plain_back S32 = refl
plain_back U32 = refl
plain_back S64 = refl
plain_back U64 = refl
plain_back Char = refl
plain_back F32 = refl
plain_back F64 = refl

pub node_of_byte-node_byte : (w : Node) → HasByte w → node_of_byte (node_byte w) ≡ Some w
node_of_byte-node_byte node.Nothing h = refl
node_of_byte-node_byte node.Option h = refl
node_of_byte-node_byte node.Result h = refl
node_of_byte-node_byte (node.Plain s) h = plain_back s
node_of_byte-node_byte (node.Tuple n) h = tuple_back (16 + n) n refl h.counted h.few
node_of_byte-node_byte (node.Variant n) h = variant_back (32 + n) n refl h.counted h.few
node_of_byte-node_byte (node.Flags n) h = flags_back (47 + n) n refl h.counted.0 h.counted.1
node_of_byte-node_byte (node.Enum n) h = enum_back (127 + n) n refl h.counted.0

scalar_byte : (s : Scalar) → (1 ≤ node_byte (node.Plain s)) × (node_byte (node.Plain s) < 256)
scalar_byte Flag = (omega arith, omega arith)
scalar_byte S8 = (omega arith, omega arith)
scalar_byte U8 = (omega arith, omega arith)
scalar_byte S16 = (omega arith, omega arith)
scalar_byte U16 = (omega arith, omega arith)
scalar_byte S32 = (omega arith, omega arith)
scalar_byte U32 = (omega arith, omega arith)
scalar_byte S64 = (omega arith, omega arith)
scalar_byte U64 = (omega arith, omega arith)
scalar_byte Char = (omega arith, omega arith)
scalar_byte F32 = (omega arith, omega arith)
scalar_byte F64 = (omega arith, omega arith)

-- it is a byte, and never 0
pub node_byte-within : (w : Node) → HasByte w → (1 ≤ node_byte w) × (node_byte w < 256)
node_byte-within node.Nothing h = (omega arith, omega arith)
node_byte-within node.Option h = (omega arith, omega arith)
node_byte-within node.Result h = (omega arith, omega arith)
node_byte-within (node.Plain s) h = scalar_byte s
node_byte-within (node.Tuple n) h = (omega arith, omega (arith, h.few))
node_byte-within (node.Variant n) h = (omega arith, omega (arith, h.few))
node_byte-within (node.Flags n) h = (omega arith, omega (arith, h.counted.1))
node_byte-within (node.Enum n) h = (omega arith, omega (arith, h.counted.1))

-- FROM A BYTE TO ITS WORD AND BACK

-- what one word is, another is that equals it
word_is : (b : ℕ) (v w : Node) → Some v ≡ Some w → IsWordOf b v → IsWordOf b w
word_is b v w e h = subst (IsWordOf b) (same_Some v w e) h

plain_is : (b : ℕ) (o : Option Scalar) (w : Node) → slice_get all_scalars (b - 1) ≡ o → 1 ≤ b → option_map node.Plain o ≡ Some w → IsWordOf b w
plain_is b None w e some g = absurd (none-some w g)
plain_is b (Some s) w e some g = word_is b (node.Plain s) w g (record { byte = omega (arith, number_at (b - 1) s e, some); has = record { counted = tt; few = omega arith } })

enum_is : (b : ℕ) (w : Node) → 128 ≤ b → b < 256 → Some (node.Enum (b - 127)) ≡ Some w → IsWordOf b w
enum_is b w some most e = word_is b (node.Enum (b - 127)) w e (record { byte = omega (arith, some); has = record { counted = (omega (arith, some), omega (arith, some, most)); few = omega arith } })

flags_is : (b : ℕ) (w : Node) → 48 ≤ b → b < 80 → Some (node.Flags (b - 47)) ≡ Some w → IsWordOf b w
flags_is b w some most e = word_is b (node.Flags (b - 47)) w e (record { byte = omega (arith, some); has = record { counted = (omega (arith, some), omega (arith, some, most)); few = omega arith } })

variant_is : (b : ℕ) (w : Node) → 33 ≤ b → b < 48 → Some (node.Variant (b - 32)) ≡ Some w → IsWordOf b w
variant_is b w some most e = word_is b (node.Variant (b - 32)) w e (record { byte = omega (arith, some); has = record { counted = omega (arith, some); few = omega (arith, some, most) } })

tuple_is : (b : ℕ) (w : Node) → 17 ≤ b → b < 32 → Some (node.Tuple (b - 16)) ≡ Some w → IsWordOf b w
tuple_is b w some most e = word_is b (node.Tuple (b - 16)) w e (record { byte = omega (arith, some); has = record { counted = omega (arith, some); few = omega (arith, some, most) } })

from_33 : (b : ℕ) (w : Node) → 33 ≤ b → b < 256 → node_of_byte b ≡ Some w → IsWordOf b w
from_33 b w some most e =
    let f : node_of_byte b ≡ (if ltb b 48 then Some (node.Variant (b - 32)) else (if ltb b 80 then Some (node.Flags (b - 47)) else (if ltb b 128 then None else Some (node.Enum (b - 127))))) =
    rw (le-ltb b 1 (omega arith), le-ltb b 13 (omega arith), le-ltb b 14 (omega arith), le-ltb b 15 (omega arith), le-ltb b 16 (omega arith), le-ltb b 17 (omega arith), le-ltb b 32 (omega arith), le-ltb b 33 (omega arith)) refl in
    let g = sym f ∙ e in
    elim (cases_lt b 48) [
      | inl h ↦ variant_is b w some h (rw (lt-ltb b 48 h) at g)
      | inr h ↦ elim (cases_lt b 80) [
        | inl i ↦ flags_is b w h i (rw (le-ltb b 48 h, lt-ltb b 80 i) at g)
        | inr i ↦ elim (cases_lt b 128) [
          | inl j ↦ absurd (none-some w (rw (le-ltb b 48 h, le-ltb b 80 i, lt-ltb b 128 j) at g))
          | inr j ↦ enum_is b w j most (rw (le-ltb b 48 h, le-ltb b 80 i, le-ltb b 128 j) at g)
        ]
      ]
    ]

from_16 : (b : ℕ) (w : Node) → 16 ≤ b → b < 33 → node_of_byte b ≡ Some w → IsWordOf b w
from_16 b w some most e =
    let f : node_of_byte b ≡ (if ltb b 17 then None else (if ltb b 32 then Some (node.Tuple (b - 16)) else None)) =
    rw (le-ltb b 1 (omega arith), le-ltb b 13 (omega arith), le-ltb b 14 (omega arith), le-ltb b 15 (omega arith), le-ltb b 16 (omega arith), lt-ltb b 33 (omega arith)) refl in
    let g = sym f ∙ e in
    elim (cases_lt b 17) [
      | inl h ↦ absurd (none-some w (rw (lt-ltb b 17 h) at g))
      | inr h ↦ elim (cases_lt b 32) [
        | inl i ↦ tuple_is b w h i (rw (le-ltb b 17 h, lt-ltb b 32 i) at g)
        | inr i ↦ absurd (none-some w (rw (le-ltb b 17 h, le-ltb b 32 i) at g))
      ]
    ]

from_13 : (b : ℕ) (w : Node) → 13 ≤ b → b < 16 → node_of_byte b ≡ Some w → IsWordOf b w
from_13 b w some most e =
    elim (cases_lt b 14) [
      | inl h ↦ (let is : b ≡ 13 = omega arith in word_is b node.Nothing w (sym (ap node_of_byte is) ∙ e) (record { byte = sym is; has = record { counted = tt; few = omega arith } }))
      | inr h ↦ elim (cases_lt b 15) [
        | inl i ↦ (let is : b ≡ 14 = omega arith in word_is b node.Option w (sym (ap node_of_byte is) ∙ e) (record { byte = sym is; has = record { counted = tt; few = omega arith } }))
        | inr i ↦ (let is : b ≡ 15 = omega arith in word_is b node.Result w (sym (ap node_of_byte is) ∙ e) (record { byte = sym is; has = record { counted = tt; few = omega arith } }))
      ]
    ]

pub node_byte-node_of_byte : (b : ℕ) (w : Node) → b < 256 → node_of_byte b ≡ Some w → IsWordOf b w
node_byte-node_of_byte b w most e =
    elim (cases_lt b 1) [
      | inl h ↦ (let is : b ≡ 0 = omega arith in absurd (none-some w (sym (ap node_of_byte is) ∙ e)))
      | inr h ↦ elim (cases_lt b 13) [
        | inl i ↦ plain_is b (slice_get all_scalars (b - 1)) w refl h (rw (le-ltb b 1 h, lt-ltb b 13 i) at e)
        | inr i ↦ elim (cases_lt b 16) [
          | inl j ↦ from_13 b w i j e
          | inr j ↦ elim (cases_lt b 33) [
            | inl k ↦ from_16 b w j k e
            | inr k ↦ from_33 b w k most e
          ]
        ]
      ]
    ]

-- WORDS THAT SPELL TYPES

-- no more types than words
pub spelled-le : (ns : List Node) → length (spelled ns) ≤ length ns
unfolding spelled
spelled-le [] = omega arith
spelled-le (n ∷ ns) = omega (arith, length-drop (arity n) (spelled ns), spelled-le ns)

-- each of at most sixteen has a byte
pub HasByte-at : (ns : List Node) (k : ℕ) (d : Node) → AreSpelled ns → length ns ≤ 16 → k < length ns → HasByte (get_or ns k d)
unfolding AreSpelled
HasByte-at [] k d s most h = absurd (omega (arith, h))
HasByte-at (n ∷ ns) zero d s most h = record { counted = s.1; few = omega (arith, s.2, spelled-le ns, most) }
HasByte-at (n ∷ ns) (suc k) d s most h = HasByte-at ns k d s.0 (omega (arith, most)) (omega (arith, h))
