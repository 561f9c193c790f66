-- Payloads and types: what is read is what is written, and the other way round.
use Rattle.std.proofs.Common.{◌≡◌, ℕ, zero, suc, ◌<◌, ◌≤◌, List, [], ◌∷◌, ◌++◌, length, map, codes, Bool, true, false, cond, eqb, Option, Some, None, refl, sym, ap, ◌∙◌, arith}
use Rattle.std.specs.Prelude.{option_and_then}
use Rattle.std.specs.Str.{bytes_eq}
use Rattle.std.specs.List.{join_with_byte}
use Rattle.std.specs.Option.{option_map, option_map_or}
use Rattle.std.proofs.lemmas.Bool.{eqb-true}
use Rattle.std.proofs.lemmas.Option.{option_and_then_some, same_Some, none-some}
use Rattle.std.proofs.lemmas.Slice.Eq.{bytes_eq-Decides}
use Rattle.strm_codes.specs.declared.scalars.Scalar.{Scalar}
use Rattle.strm_codes.specs.declared.scalars.Scalar.TheVariants.{Bool as Flag, S8, U8, S16, U16, S32, U32, S64, U64, Char, F32, F64}
use Rattle.strm_codes.specs.declared.payloads.Payload.{Payload}
use Rattle.strm_codes.specs.declared.payloads.Payload.TheVariants.{Nothing, One, Tuple, Compound}
use Rattle.strm_codes.specs.declared.codes.TransmitIndex.{TransmitIndex}
use Rattle.strm_codes.specs.declared.codes.TransmitIndex.TheVariants.{Stream, Future}
use Rattle.strm_codes.specs.declared.nodes.Node.{Node}
use Rattle.strm_codes.specs.Spellings.{IsCompound}
use Rattle.strm_lines.specs.Words.{scalar_word, first_text, texts, payload_text, type_text}
use Rattle.strm_lines.specs.Grammar.{IsBetween, IsPayload, IsType}
use Rattle.strm_lines.specs.Reading.{cut_at, behind, scalar_read, fields_read, shape_read, compound_read, named_payload, payload_read, type_read, leading}
use Rattle.strm_lines.proofs.ChoiceLemmas.{chosen}
use Rattle.strm_lines.proofs.CutLemmas.{IsWithout, IsWithout-append, without_low, cut_sound, cut_complete, cut-without, option_map_some}
use Rattle.strm_lines.proofs.HexLemmas.{with_front, with_front-more, and_then-Some}
use Rattle.strm_lines.proofs.ScalarLemmas.{scalar_sound, named, IsWithout-scalar}
use Rattle.strm_lines.proofs.CompoundLemmas.{compound_sound, compound_complete, compound_other, compound_spaceless}
use Rattle.strm_lines.proofs.ReadingLemmas.{IsReading, IsWord, behind_sound, leading_complete}

-- the fields of a tuple

abbrev pub fields_word : List Scalar → List ℕ
fields_word fields = join_with_byte 44 (map scalar_word fields)

fields_word-more : (s : Scalar) (fields : List Scalar) → 0 < length fields → fields_word (s ∷ fields) ≡ scalar_word s ++ 44 ∷ fields_word fields
fields_word-more s [] h = absurd (omega arith)
fields_word-more s (t ∷ fields) h = refl

record AreFields (n : ℕ) (word : List ℕ) (fields : List Scalar) : Type 0 where
  spelled : fields_word fields ≡ word
  some : 1 ≤ length fields
  most : length fields ≤ n

-- a first field, and n others at most behind it
abbrev first_and_others : ℕ → List ℕ × List ℕ → Option (List Scalar)
first_and_others n p =
    option_and_then {U = List Scalar} (λ s. option_and_then {U = List Scalar} (λ rest. Some (s ∷ rest)) (fields_read n p.1)) (scalar_read p.0)

-- what is read as n fields at most spells them
abbrev FieldsAreSound : ℕ → Type 0
FieldsAreSound n = (word : List ℕ) (fields : List Scalar) → fields_read n word ≡ Some fields → AreFields n word fields

fields_sound : (n : ℕ) → FieldsAreSound n
unfolding fields_read
fields_sound zero word fields e = absurd (none-some fields e)
fields_sound (suc n) word fields e = by_comma (cut_at 44 word) refl (fields_sound n) e
  where
    by_comma : (o : Option (List ℕ × List ℕ)) → cut_at 44 word ≡ o → FieldsAreSound n → option_map_or (first_and_others n) o (option_map (λ s. s ∷ []) (scalar_read word)) ≡ Some fields → AreFields (suc n) word fields
    by_comma None f others e = option_map_some _ (scalar_read word) fields e (λ s g h. rw (← h) (record { spelled = scalar_sound word s g; some = omega arith; most = omega arith }))
    by_comma (Some p) f others e =
        option_and_then_some _ (scalar_read p.0) fields e (λ s g h.
        option_and_then_some _ (fields_read n p.1) fields h (λ rest i k.
        let r = others p.1 rest i in
        let same : s ∷ rest ≡ fields = same_Some (s ∷ rest) fields k in
        rw (← same) (record {
          spelled = fields_word-more s rest (omega (arith, r.some)) ∙ rw (scalar_sound p.0 s g, r.spelled) (sym (cut_sound 44 word p f));
          some = omega arith;
          most = omega (arith, r.most);
        })))

fields_complete : (n : ℕ) (fields : List Scalar) → 1 ≤ length fields → length fields ≤ n → fields_read n (fields_word fields) ≡ Some fields
unfolding fields_read
fields_complete n [] l h = absurd (omega arith)
fields_complete zero (s ∷ fields) l h = absurd (omega arith)
fields_complete (suc n) (s ∷ []) l h =
    rw (cut-without 44 (scalar_word s) (IsWithout-scalar 44 (omega arith) s), (named s).read) refl
fields_complete (suc n) (s ∷ t ∷ fields) l h =
    rw (cut_complete 44 (scalar_word s) (fields_word (t ∷ fields)) (IsWithout-scalar 44 (omega arith) s), (named s).read, fields_complete n (t ∷ fields) (omega arith) (omega arith)) refl

IsWithout-fields : (c : ℕ) → c < 44 → (fields : List Scalar) → IsWithout c (fields_word fields)
IsWithout-fields c h [] = tt
IsWithout-fields c h (s ∷ []) = IsWithout-scalar c (omega arith) s
IsWithout-fields c h (s ∷ t ∷ fields) =
    IsWithout-append c (scalar_word s) (44 ∷ fields_word (t ∷ fields)) (IsWithout-scalar c (omega arith) s) ((λ e. absurd (omega arith)), IsWithout-fields c h (t ∷ fields))

-- one field more is read

pub fields-none : (n : ℕ) (word : List ℕ) (front : List Scalar) → n ≡ 0 → with_front front (fields_read n word) ≡ None
unfolding fields_read
fields-none n word front h = rw h refl

pub fields-last : (n : ℕ) (word : List ℕ) (front : List Scalar) (o : Option Scalar) → 0 < n → None ≡ cut_at 44 word → o ≡ scalar_read word → with_front front (fields_read n word) ≡ option_map (λ s. front ++ s ∷ []) o
unfolding fields_read
fields-last zero word front o h e f = absurd (omega arith)
fields-last (suc n) word front None h e f = rw (← e, ← f) refl
fields-last (suc n) word front (Some s) h e f = rw (← e, ← f) refl

pub fields-bad : (n : ℕ) (word : List ℕ) (front : List Scalar) (p : List ℕ × List ℕ) → Some p ≡ cut_at 44 word → None ≡ scalar_read p.0 → with_front front (fields_read n word) ≡ None
unfolding fields_read
fields-bad zero word front p e f = refl
fields-bad (suc n) word front p e f = rw (← e, ← f) refl

pub fields-more : (n m : ℕ) (word : List ℕ) (front : List Scalar) (p : List ℕ × List ℕ) (s : Scalar) → n ≡ suc m → Some p ≡ cut_at 44 word → Some s ≡ scalar_read p.0 → with_front (front ++ s ∷ []) (fields_read m p.1) ≡ with_front front (fields_read n word)
unfolding fields_read
fields-more n m word front p s h e f =
    with_front-more front s (fields_read m p.1) ∙ sym (rw (h, ← e, ← f, and_then-Some (λ fields. s ∷ fields) (fields_read m p.1)) refl)

-- tuples

empty : (xs : List ℕ) → eqb (length xs) 0 ≡ true → xs ≡ []
empty [] e = refl
empty (x ∷ xs) e = absurd (omega (arith, eqb-true (length (x ∷ xs)) 0 e))

shape_sound : (rest : List ℕ) (shape : List Scalar) → shape_read rest ≡ Some shape → (fields_word shape ++ codes ")" ≡ rest) × IsBetween 1 8 (length shape)
unfolding shape_read
shape_sound rest shape e =
    option_and_then_some _ (cut_at 41 rest) shape e (λ p f g.
    let a : (eqb (length p.1) 0 ≡ true) × (fields_read 8 p.0 ≡ Some shape) = chosen (eqb (length p.1) 0) (fields_read 8 p.0) shape g in
    let r = fields_sound 8 p.0 shape a.1 in
    (rw (r.spelled) (sym (cut_sound 41 rest p f ∙ ap (λ xs. p.0 ++ 41 ∷ xs) (empty p.1 a.0))), (r.some, r.most)))

shape_complete : (shape : List Scalar) → IsBetween 1 8 (length shape) → shape_read (fields_word shape ++ codes ")") ≡ Some shape
unfolding shape_read
shape_complete shape h = rw (cut_complete 41 (fields_word shape) [] (IsWithout-fields 41 (omega arith) shape)) (fields_complete 8 shape h.0 h.1)

-- payloads

-- a scalar's name is read as it alone
scalar_alone : (s : Scalar) → payload_read (scalar_word s) ≡ Some (One s)
unfolding scalar_read named_payload payload_read behind
scalar_alone Flag = refl
scalar_alone S8 = refl
scalar_alone U8 = refl
scalar_alone S16 = refl
scalar_alone U16 = refl
scalar_alone S32 = refl
scalar_alone U32 = refl
scalar_alone S64 = refl
scalar_alone U64 = refl
scalar_alone Char = refl
scalar_alone F32 = refl
scalar_alone F64 = refl

named_sound : (word : List ℕ) (p : Payload) → named_payload word ≡ Some p → (payload_text p ≡ word) × IsPayload p
unfolding named_payload
named_sound word p e = by_scalar (scalar_read word) refl e
  where
    by_scalar : (o : Option Scalar) → scalar_read word ≡ o → option_map_or {U = Option Payload} (λ s. Some (One s)) o (option_map Compound (compound_read word)) ≡ Some p → (payload_text p ≡ word) × IsPayload p
    by_scalar (Some s) f e =
        let same : One s ≡ p = same_Some (One s) p e in
        rw (← same) (scalar_sound word s f, tt)
    by_scalar None f e = option_map_some Compound (compound_read word) p e (λ ns g h. rw (← h) (compound_sound word ns g))

payload_sound : (word : List ℕ) (p : Payload) → payload_read word ≡ Some p → (payload_text p ≡ word) × IsPayload p
unfolding payload_read
payload_sound word p e = by_none (bytes_eq word (codes "none")) refl e
  where
    by_front : (o : Option (List ℕ)) → behind (codes "(") word ≡ o → option_map_or (λ rest. option_map Tuple (shape_read rest)) o (named_payload word) ≡ Some p → (payload_text p ≡ word) × IsPayload p
    by_front None f e = named_sound word p e
    by_front (Some rest) f e =
        option_map_some Tuple (shape_read rest) p e (λ shape g h.
        let r = shape_sound rest shape g in
        rw (← h) (ap (λ w. codes "(" ++ w) r.0 ∙ sym (behind_sound (codes "(") word rest f), r.1))

    by_none : (b : Bool) → bytes_eq word (codes "none") ≡ b → cond b (Some Nothing) (option_map_or (λ rest. option_map Tuple (shape_read rest)) (behind (codes "(") word) (named_payload word)) ≡ Some p → (payload_text p ≡ word) × IsPayload p
    by_none true f e = let same : Nothing ≡ p = same_Some Nothing p e in rw (← same) (sym ((bytes_eq-Decides word (codes "none")).0 f), tt)
    by_none false f e = by_front (behind (codes "(") word) refl e

compound_named : (ns : List Node) → IsCompound ns → named_payload (first_text (texts ns)) ≡ Some (Compound ns)
unfolding named_payload
compound_named ns h = rw ((compound_other ns h).unnamed, compound_complete ns h) refl

read_compound : (ns : List Node) → IsCompound ns → payload_read (first_text (texts ns)) ≡ Some (Compound ns)
unfolding payload_read
read_compound ns h = rw ((compound_other ns h).word, (compound_other ns h).unopened) (compound_named ns h)

payload_complete : (p : Payload) → IsPayload p → payload_read (payload_text p) ≡ Some p
unfolding payload_read behind
payload_complete Nothing h = refl
payload_complete (One s) h = scalar_alone s
payload_complete (Tuple shape) h = ap (option_map Tuple) (shape_complete shape h)
payload_complete (Compound ns) h = read_compound ns h

IsWithout-payload : (p : Payload) → IsPayload p → IsWithout 32 (payload_text p)
IsWithout-payload Nothing h = without_low 32 44 (codes "none") (omega arith) refl
IsWithout-payload (One s) h = IsWithout-scalar 32 (omega arith) s
IsWithout-payload (Compound ns) h = compound_spaceless ns h
IsWithout-payload (Tuple shape) h =
    ((λ e. absurd (omega arith)), IsWithout-append 32 (fields_word shape) (codes ")") (IsWithout-fields 32 (omega arith) shape) (without_low 32 40 (codes ")") (omega arith) refl))

-- types

type_sound : (word : List ℕ) (ty : TransmitIndex) → type_read word ≡ Some ty → (type_text ty ≡ word) × IsType ty
unfolding type_read
type_sound word ty e = by_stream (behind (codes "stream:") word) refl e
  where
    by_future : (o : Option (List ℕ)) → behind (codes "future:") word ≡ o → option_map_or (λ rest. option_map Future (payload_read rest)) o None ≡ Some ty → (type_text ty ≡ word) × IsType ty
    by_future None f e = absurd (none-some ty e)
    by_future (Some rest) f e =
        option_map_some Future (payload_read rest) ty e (λ p g h.
        let r = payload_sound rest p g in
        rw (← h) (ap (λ w. codes "future:" ++ w) r.0 ∙ sym (behind_sound (codes "future:") word rest f), r.1))

    by_stream : (o : Option (List ℕ)) → behind (codes "stream:") word ≡ o → option_map_or (λ rest. option_map Stream (payload_read rest)) o (option_map_or (λ rest. option_map Future (payload_read rest)) (behind (codes "future:") word) None) ≡ Some ty → (type_text ty ≡ word) × IsType ty
    by_stream None f e = by_future (behind (codes "future:") word) refl e
    by_stream (Some rest) f e =
        option_map_some Stream (payload_read rest) ty e (λ p g h.
        let r = payload_sound rest p g in
        rw (← h) (ap (λ w. codes "stream:" ++ w) r.0 ∙ sym (behind_sound (codes "stream:") word rest f), r.1))

type_complete : (ty : TransmitIndex) → IsType ty → type_read (type_text ty) ≡ Some ty
unfolding type_read behind
type_complete (Stream p) h = ap (option_map Stream) (payload_complete p h)
type_complete (Future p) h = ap (option_map Future) (payload_complete p h)

pub IsReading-type : IsReading type_read type_text IsType
IsReading-type = record { sound = type_sound; complete = type_complete }

type_spaceless : (ty : TransmitIndex) → IsType ty → IsWithout 32 (type_text ty)
type_spaceless (Stream p) h = IsWithout-append 32 (codes "stream:") (payload_text p) (without_low 32 44 (codes "stream:") (omega arith) refl) (IsWithout-payload p h)
type_spaceless (Future p) h = IsWithout-append 32 (codes "future:") (payload_text p) (without_low 32 44 (codes "future:") (omega arith) refl) (IsWithout-payload p h)

pub IsWord-type : IsWord type_text IsType
IsWord-type = record { spaceless = type_spaceless }

-- a line on which this type stands first
pub leading_bytes : (line rest : List ℕ) → behind (codes "stream:u8 ") line ≡ Some rest → leading type_read line ≡ Some (Stream (One U8), rest)
leading_bytes line rest e = ap (leading type_read) (behind_sound (codes "stream:u8 ") line rest e) ∙ leading_complete IsReading-type IsWord-type (Stream (One U8)) rest tt

-- a word that is this type
pub whole_bytes : (word rest : List ℕ) → behind (codes "stream:u8") word ≡ Some rest → length rest ≡ 0 → type_read word ≡ Some (Stream (One U8))
whole_bytes word [] e h = ap type_read (behind_sound (codes "stream:u8") word [] e) ∙ type_complete (Stream (One U8)) tt
whole_bytes word (x ∷ rest) e h = absurd (omega (arith, h))

-- a line on which a type stands first
leading_spelled : (ty : TransmitIndex) → IsType ty → (line rest : List ℕ) → line ≡ type_text ty ++ 32 ∷ rest → leading type_read line ≡ Some (ty, rest)
leading_spelled ty h line rest e = ap (leading type_read) e ∙ leading_complete IsReading-type IsWord-type ty rest h

-- one of a scalar, whose name begins with a letter that is read before the rest of it
pub leading_stream : (letter line behind_it rest : List ℕ) (s : Scalar) → Some behind_it ≡ behind (codes "stream:" ++ letter) line → letter ++ behind_it ≡ scalar_word s ++ 32 ∷ rest → leading type_read line ≡ Some (Stream (One s), rest)
leading_stream letter line behind_it rest s e f =
    leading_spelled (Stream (One s)) tt line rest (behind_sound (codes "stream:" ++ letter) line behind_it (sym e) ∙ ap (λ xs. codes "stream:" ++ xs) f)

pub leading_future : (letter line behind_it rest : List ℕ) (s : Scalar) → Some behind_it ≡ behind (codes "future:" ++ letter) line → letter ++ behind_it ≡ scalar_word s ++ 32 ∷ rest → leading type_read line ≡ Some (Future (One s), rest)
leading_future letter line behind_it rest s e f =
    leading_spelled (Future (One s)) tt line rest (behind_sound (codes "future:" ++ letter) line behind_it (sym e) ∙ ap (λ xs. codes "future:" ++ xs) f)
