-- The words of payloads and types are read as they were written.
use Rattle.std.proofs.Common.{◌≡◌, ℕ, ◌+◌, ◌*◌, ◌<◌, ◌≤◌, ◌/◌, ◌%◌, List, [], ◌∷◌, length, Some, None, refl, ap, ◌∙◌, true, false, arith}
use Rattle.std.proofs.lemmas.Bool.{eq-eqb, le-ltb}
use Rattle.std.specs.Prelude.{Bool, ◌==◌, ◌-◌, if◌then◌else◌}
use Rattle.std.specs.Option.{option_map}
use Rattle.strm_codes.proofs.CompoundTestLemmas.{Decides-spells_compound}
use Rattle.strm_codes.proofs.NodeByteLemmas.{HasByte, node_of_byte-node_byte, node_byte-within, spelled-le}
use Rattle.strm_codes.specs.CompoundTests.{spells_compound}
use Rattle.strm_codes.specs.NodeBytes.{node_byte, node_of_byte}
use Rattle.strm_codes.specs.Spellings.{AreSpelled, IsCompound}
use Rattle.strm_codes.specs.declared.nodes.Node.{Node}
use Rattle.strm_codes.specs.declared.payloads.Payload.{Payload}
use Rattle.strm_codes.specs.declared.payloads.Payload.TheVariants.{Nothing, One, Tuple, Compound}
use Rattle.strm_codes.specs.declared.codes.TransmitIndex.TheVariants.{Stream, Future}
use Rattle.strm_codes.specs.declared.scalars.Scalar.{Scalar}
use Rattle.strm_codes.specs.declared.scalars.Scalar.TheVariants.{Bool as Flag, S8, U8, S16, U16, S32, U32, S64, U64, Char, F32, F64}
use Rattle.strm_c.specs.Payloads.{scalar_of_number, number_of_scalar, fields_at, fields_word, tuple_with, nodes_at, nodes_number, compound_bytes, compound_with, payload_at, type_at, tuple_bit, future_bit}
use Rattle.strm_c.proofs.PayloadLemmas.{IsDigit, AreDigits, digits_again}

-- a scalar's number
scalar_digit : (s : Scalar) → IsDigit 16 scalar_of_number number_of_scalar s
scalar_digit Flag = record { some = omega arith; small = omega arith; own = refl }
scalar_digit S8 = record { some = omega arith; small = omega arith; own = refl }
scalar_digit U8 = record { some = omega arith; small = omega arith; own = refl }
scalar_digit S16 = record { some = omega arith; small = omega arith; own = refl }
scalar_digit U16 = record { some = omega arith; small = omega arith; own = refl }
scalar_digit S32 = record { some = omega arith; small = omega arith; own = refl }
scalar_digit U32 = record { some = omega arith; small = omega arith; own = refl }
scalar_digit S64 = record { some = omega arith; small = omega arith; own = refl }
scalar_digit U64 = record { some = omega arith; small = omega arith; own = refl }
scalar_digit Char = record { some = omega arith; small = omega arith; own = refl }
scalar_digit F32 = record { some = omega arith; small = omega arith; own = refl }
scalar_digit F64 = record { some = omega arith; small = omega arith; own = refl }

scalars_digits : (ss : List Scalar) → AreDigits 16 scalar_of_number number_of_scalar ss
scalars_digits [] = tt
scalars_digits (s ∷ ss) = (scalar_digit s, scalars_digits ss)

-- the first of words that spell types, and those behind it
pub spelled_first : (n : Node) (ns : List Node) → length ns ≤ 15 → AreSpelled (n ∷ ns) → HasByte n × AreSpelled ns
unfolding AreSpelled
spelled_first n ns l s = (record { counted = s.1; few = omega (arith, l, spelled-le ns, s.2) }, s.0)

-- words as bytes
nodes_digits : (ns : List Node) → length ns ≤ 16 → AreSpelled ns → AreDigits 256 node_of_byte node_byte ns
nodes_digits [] l s = tt
nodes_digits (n ∷ ns) l s =
    let first = spelled_first n ns (omega (arith, l)) s in
    let within = node_byte-within n first.0 in
    (record { some = within.0; small = within.1; own = node_of_byte-node_byte n first.0 }, nodes_digits ns (omega (arith, l)) first.1)

-- a scalar's word
pub scalar_again : (s : Scalar) → payload_at (number_of_scalar s) ≡ Some (One s)
scalar_again Flag = refl
scalar_again S8 = refl
scalar_again U8 = refl
scalar_again S16 = refl
scalar_again U16 = refl
scalar_again S32 = refl
scalar_again U32 = refl
scalar_again S64 = refl
scalar_again U64 = refl
scalar_again Char = refl
scalar_again F32 = refl
scalar_again F64 = refl

-- a word from the tuple's bit on
module _ (word : ℕ) (high : tuple_bit ≤ word) where
  pub at_compound : word / tuple_bit % 256 ≡ 4 → payload_at word ≡ compound_with (nodes_at 7 (compound_bytes word))
  at_compound e =
      ap (λ b. if b then (if word == 0 then Some Nothing else option_map One (scalar_of_number word)) else (if word / tuple_bit % 256 == 4 then compound_with (nodes_at 7 (compound_bytes word)) else tuple_with (fields_at 8 (word - tuple_bit)))) (le-ltb word tuple_bit high)
      ∙ ap (λ b. if b then compound_with (nodes_at 7 (compound_bytes word)) else tuple_with (fields_at 8 (word - tuple_bit))) (eq-eqb (word / tuple_bit % 256) 4 e)

  pub at_tuple : (word / tuple_bit % 256 == 4) ≡ false → payload_at word ≡ tuple_with (fields_at 8 (word - tuple_bit))
  at_tuple e =
      ap (λ b. if b then (if word == 0 then Some Nothing else option_map One (scalar_of_number word)) else (if word / tuple_bit % 256 == 4 then compound_with (nodes_at 7 (compound_bytes word)) else tuple_with (fields_at 8 (word - tuple_bit)))) (le-ltb word tuple_bit high)
      ∙ ap (λ b. if b then compound_with (nodes_at 7 (compound_bytes word)) else tuple_with (fields_at 8 (word - tuple_bit))) e

-- a tuple's word
pub tuple_again : (fields : List Scalar) → 1 ≤ length fields → length fields ≤ 8 → fields_word fields < tuple_bit → payload_at (tuple_bit + fields_word fields) ≡ Some (Tuple fields)
tuple_again fields some few small =
    let word = tuple_bit + fields_word fields in
    let one : word / tuple_bit % 256 ≡ 1 = omega (arith, small) in
    let back : word - tuple_bit ≡ fields_word fields = omega arith in
    at_tuple word (omega arith) (ap (λ n. n == 4) one)
    ∙ ap (λ n. tuple_with (fields_at 8 n)) back
    ∙ ap tuple_with (digits_again 16 scalar_of_number number_of_scalar 8 fields few (scalars_digits fields))
    ∙ is_tuple fields some
  where
    is_tuple : (fields : List Scalar) → 1 ≤ length fields → tuple_with (Some fields) ≡ Some (Tuple fields)
    is_tuple [] h = absurd (omega (arith, h))
    is_tuple (field ∷ more) h = refl

-- the word of a type that holds others, by the number of its words
abbrev pub word_of_number : ℕ → ℕ
word_of_number number = 17179869184 + number % 4294967296 + 1099511627776 * (number / 4294967296)

pub compound_again : (ns : List Node) → IsCompound ns → length ns ≤ 7 → nodes_number ns < 72057594037927936 → payload_at (word_of_number (nodes_number ns)) ≡ Some (Compound ns)
compound_again ns c few small =
    let number = nodes_number ns in
    let word = word_of_number number in
    let four : word / tuple_bit % 256 ≡ 4 = omega (arith, small) in
    let same : compound_bytes word ≡ number = omega (arith, small) in
    let digits = nodes_digits ns c.few c.each in
    at_compound word (omega arith) four
    ∙ ap (λ n. compound_with (nodes_at 7 n)) same
    ∙ ap compound_with (digits_again 256 node_of_byte node_byte 7 ns few digits)
    ∙ ap (λ b. if b then Some (Compound ns) else None) ((Decides-spells_compound ns).1 c)

-- words that spell a type, or none
pub is_compound : (words : List Node) → IsCompound words → compound_with (Some words) ≡ Some (Compound words)
is_compound words c = ap (λ b. if b then Some (Compound words) else None) ((Decides-spells_compound words).1 c)

pub no_compound : (words : List Node) → (IsCompound words → ⊥) → compound_with (Some words) ≡ None
no_compound words n = go (spells_compound words) refl
  where
    go : (b : Bool) → spells_compound words ≡ b → (if b then Some (Compound words) else None) ≡ None
    go true e = absurd (n ((Decides-spells_compound words).0 e))
    go false e = refl

-- the types of a payload's word, which leaves the future's bit free
module _ (word : ℕ) (payload : Payload) (free : word / future_bit % 2 ≡ 0) (is : payload_at word ≡ Some payload) where
  pub stream_again : type_at word ≡ Some (Stream payload)
  stream_again =
      ap (λ n. if n == 1 then option_map Future (payload_at (word - future_bit)) else option_map Stream (payload_at word)) free
      ∙ ap (option_map Stream) is

  pub future_again : type_at (future_bit + word) ≡ Some (Future payload)
  future_again =
      let bit : (future_bit + word) / future_bit % 2 ≡ 1 = omega (arith, free) in
      let back : future_bit + word - future_bit ≡ word = omega arith in
      ap (λ n. if n == 1 then option_map Future (payload_at (future_bit + word - future_bit)) else option_map Stream (payload_at (future_bit + word))) bit
      ∙ ap (λ n. option_map Future (payload_at n)) back
      ∙ ap (option_map Future) is
