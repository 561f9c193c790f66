-- Scalars, payloads and types: what is read is what is written, and the other way round.
use Rattle.std.proofs.Common.{◌≡◌, ℕ, zero, suc, ◌<◌, Bool, true, false, true≢false, cond, ◌&&◌, leb, List, [], ◌∷◌, ◌++◌, length, map, Option, Some, None, refl, sym, ap, ◌∙◌, arith, append_assoc, append-nil}
use Rattle.std.specs.Prelude.{All, slice_get, option_and_then}
use Rattle.std.specs.List.{flat_map}
use Rattle.std.specs.Option.{option_map}
use Rattle.std.proofs.lemmas.Bool.{leb-true, le-leb, ne_eqb}
use Rattle.std.proofs.lemmas.Option.{option_and_then_some, same_Some, none-some}
use Rattle.strm_codes.specs.CompoundTests.{spells_compound}
use Rattle.strm_codes.specs.NodeBytes.{node_byte, node_of_byte}
use Rattle.strm_codes.specs.Sameness.{scalar_number}
use Rattle.strm_codes.specs.Spellings.{IsCompound}
use Rattle.strm_codes.specs.declared.nodes.Node.{Node}
use Rattle.strm_codes.specs.declared.scalars.Scalar.{Scalar}
use Rattle.strm_codes.specs.declared.scalars.Scalar.TheVariants.{Bool as Flag, S8, U8, S16, U16, S32, U32, S64, U64, Char, F32, F64}
use Rattle.strm_codes.specs.declared.payloads.Payload.{Payload}
use Rattle.strm_codes.specs.declared.payloads.Payload.TheVariants.{Nothing, One, Tuple, Compound}
use Rattle.strm_codes.specs.declared.codes.TransmitIndex.{TransmitIndex}
use Rattle.strm_codes.specs.declared.codes.TransmitIndex.TheVariants.{Stream, Future}
use Rattle.strm_codes.proofs.CompoundTestLemmas.{Decides-spells_compound}
use Rattle.strm_codes.proofs.NodeByteLemmas.{HasByte, IsWordOf, node_of_byte-node_byte, node_byte-node_of_byte, HasByte-at}
use Rattle.strm_memory.specs.Bytes.{IsBytes}
use Rattle.strm_lines.specs.Grammar.{IsBetween, IsPayload, IsType, IsCount}
use Rattle.strm_lines.proofs.ChoiceLemmas.{chosen, both_true}
use Rattle.strm_lines.proofs.CutLemmas.{option_map_some}
use Rattle.strm_tape.specs.Spelling.{number_bytes, payload_bytes, type_bytes}
use Rattle.strm_tape.specs.Reading.{Found, followed_by_part, read_as, byte, scalars, scalar, fields, shape, many, type_word, spelled_type, words_of_type, compound, payload_by, payload, type_by, transmit_type, read_count}
use Rattle.strm_tape.proofs.ReadingLemmas.{IsReading, IsReading-byte, IsReading-number, IsReading-within, IsReading-followed_by, found, rest_fits}
use Rattle.strm_tape.proofs.RecordLemmas.{IsReading-many}

-- scalars

at_place : (n : ℕ) (s : Scalar) → slice_get scalars n ≡ Some s → scalar_number s ≡ n
at_place zero s e = sym (ap scalar_number (same_Some Flag s e))
at_place (suc zero) s e = sym (ap scalar_number (same_Some S8 s e))
at_place (suc (suc zero)) s e = sym (ap scalar_number (same_Some U8 s e))
at_place (suc (suc (suc zero))) s e = sym (ap scalar_number (same_Some S16 s e))
at_place (suc (suc (suc (suc zero)))) s e = sym (ap scalar_number (same_Some U16 s e))
at_place (suc (suc (suc (suc (suc zero))))) s e = sym (ap scalar_number (same_Some S32 s e))
at_place (suc (suc (suc (suc (suc (suc zero)))))) s e = sym (ap scalar_number (same_Some U32 s e))
at_place (suc (suc (suc (suc (suc (suc (suc zero))))))) s e = sym (ap scalar_number (same_Some S64 s e))
at_place (suc (suc (suc (suc (suc (suc (suc (suc zero)))))))) s e = sym (ap scalar_number (same_Some U64 s e))
at_place (suc (suc (suc (suc (suc (suc (suc (suc (suc zero))))))))) s e = sym (ap scalar_number (same_Some Char s e))
at_place (suc (suc (suc (suc (suc (suc (suc (suc (suc (suc zero)))))))))) s e = sym (ap scalar_number (same_Some F32 s e))
at_place (suc (suc (suc (suc (suc (suc (suc (suc (suc (suc (suc zero))))))))))) s e = sym (ap scalar_number (same_Some F64 s e))
at_place (suc (suc (suc (suc (suc (suc (suc (suc (suc (suc (suc (suc n)))))))))))) s e = cc

scalar_sound : (bytes rest : List ℕ) (s : Scalar) → IsBytes bytes → scalar bytes ≡ Some (s, rest) → (scalar_number s ∷ rest ≡ bytes) × Unit {0}
unfolding scalar
scalar_sound bytes rest s f e =
    option_and_then_some _ (byte bytes) (s, rest) e (λ p g h.
    option_and_then_some _ (slice_get scalars p.0) (s, rest) h (λ t i j.
    let same : (t, p.1) ≡ (s, rest) = same_Some (t, p.1) (s, rest) j in
    let one : (p.0 ∷ p.1 ≡ bytes) × (p.0 < 256) = IsReading-byte.sound bytes p.1 p.0 f g in
    found (λ u. scalar_number u ∷ []) (λ u. Unit {0}) bytes (t, p.1) (s, rest) same (ap (λ n. n ∷ p.1) (at_place p.0 t i) ∙ one.0, tt)))

scalar_complete : (s : Scalar) (rest : List ℕ) → Unit {0} → scalar (scalar_number s ∷ rest) ≡ Some (s, rest)
unfolding scalar
scalar_complete Flag rest f = refl
scalar_complete S8 rest f = refl
scalar_complete U8 rest f = refl
scalar_complete S16 rest f = refl
scalar_complete U16 rest f = refl
scalar_complete S32 rest f = refl
scalar_complete U32 rest f = refl
scalar_complete S64 rest f = refl
scalar_complete U64 rest f = refl
scalar_complete Char rest f = refl
scalar_complete F32 rest f = refl
scalar_complete F64 rest f = refl

IsReading-scalar : IsReading scalar (λ s. scalar_number s ∷ []) (λ s. Unit {0})
IsReading-scalar = record { sound = scalar_sound; complete = scalar_complete }

-- so many scalars
abbrev fields_bytes : List Scalar → List ℕ
fields_bytes ss = map scalar_number ss

fields_none : IsReading (fields 0) fields_bytes (λ ss. length ss ≡ 0)
unfolding fields
fields_none = record {
  sound = λ bytes rest ss f e. found fields_bytes (λ l. length l ≡ 0) bytes ([], bytes) (ss, rest) (same_Some ([], bytes) (ss, rest) e) (refl, refl);
  complete = empty;
}
  where
    empty : (ss : List Scalar) (rest : List ℕ) → length ss ≡ 0 → fields 0 (fields_bytes ss ++ rest) ≡ Some (ss, rest)
    empty [] rest f = refl
    empty (s ∷ ss) rest f = absurd (omega (arith, f))

-- a scalar in front of so many
fields_more : (n : ℕ) → IsReading (followed_by_part scalar (fields n)) (λ v. scalar_number v.0 ∷ fields_bytes v.1) (λ v. Unit {0} × (length v.1 ≡ n)) → IsReading (fields (suc n)) fields_bytes (λ ss. length ss ≡ suc n)
unfolding fields
fields_more n both = record {
  sound = λ bytes rest ss f e.
      option_map_some _ (followed_by_part scalar (fields n) bytes) (ss, rest) e (λ p g h.
      let one : ((scalar_number p.0.0 ∷ fields_bytes p.0.1) ++ p.1 ≡ bytes) × (Unit {0} × (length p.0.1 ≡ n)) = both.sound bytes p.1 p.0 f g in
      found fields_bytes (λ l. length l ≡ suc n) bytes (p.0.0 ∷ p.0.1, p.1) (ss, rest) h (one.0, ap suc one.1.1));
  complete = more;
}
  where
    more : (ss : List Scalar) (rest : List ℕ) → length ss ≡ suc n → read_as (λ p. p.0 ∷ p.1) (followed_by_part scalar (fields n)) (fields_bytes ss ++ rest) ≡ Some (ss, rest)
    more [] rest f = absurd (omega (arith, f))
    more (s ∷ ss) rest f = rw (both.complete (s, ss) rest (tt, omega (arith, f))) refl

IsReading-fields : (n : ℕ) → IsReading (fields n) fields_bytes (λ ss. length ss ≡ n)
IsReading-fields zero = fields_none
IsReading-fields (suc n) = fields_more n (IsReading-followed_by IsReading-scalar (IsReading-fields n))

-- the fields of a tuple behind their number
abbrev shape_bytes : List Scalar → List ℕ
shape_bytes ss = length ss ∷ fields_bytes ss

abbrev IsShape : List Scalar → Type 0
IsShape ss = IsBetween 1 8 (length ss)

shape_sound : (bytes rest : List ℕ) (ss : List Scalar) → IsBytes bytes → shape bytes ≡ Some (ss, rest) → (shape_bytes ss ++ rest ≡ bytes) × IsShape ss
unfolding shape
shape_sound bytes rest ss f e =
    option_and_then_some _ (byte bytes) (ss, rest) e (λ p g h.
    let n = p.0 in
    let c : (leb 1 n && leb n 8 ≡ true) × (fields n p.1 ≡ Some (ss, rest)) = chosen (leb 1 n && leb n 8) (fields n p.1) (ss, rest) h in
    let b : (leb 1 n ≡ true) × (leb n 8 ≡ true) = both_true (leb 1 n) (leb n 8) c.0 in
    let one : (n ∷ p.1 ≡ bytes) × (n < 256) = IsReading-byte.sound bytes p.1 n f g in
    let two : (fields_bytes ss ++ rest ≡ p.1) × (length ss ≡ n) = (IsReading-fields n).sound p.1 rest ss (rest_fits (n ∷ []) p.1 bytes f one.0) c.1 in
    (ap (λ k. k ∷ fields_bytes ss ++ rest) two.1 ∙ ap (λ l. n ∷ l) two.0 ∙ one.0, (omega (arith, two.1, leb-true 1 n b.0), omega (arith, two.1, leb-true n 8 b.1))))

shape_complete : (ss : List Scalar) (rest : List ℕ) → IsShape ss → shape (shape_bytes ss ++ rest) ≡ Some (ss, rest)
unfolding shape
shape_complete ss rest f = rw (le-leb 1 (length ss) f.0, le-leb (length ss) 8 f.1) ((IsReading-fields (length ss)).complete ss rest refl)

IsReading-shape : IsReading shape shape_bytes IsShape
IsReading-shape = record { sound = shape_sound; complete = shape_complete }

-- words of types

abbrev word_bytes : Node → List ℕ
word_bytes w = node_byte w ∷ []

word_sound : (bytes rest : List ℕ) (w : Node) → IsBytes bytes → type_word bytes ≡ Some (w, rest) → (word_bytes w ++ rest ≡ bytes) × HasByte w
unfolding type_word
word_sound bytes rest w f e =
    option_and_then_some _ (byte bytes) (w, rest) e (λ p g h.
    option_and_then_some _ (node_of_byte p.0) (w, rest) h (λ v i j.
    let same : (v, p.1) ≡ (w, rest) = same_Some (v, p.1) (w, rest) j in
    let one : (p.0 ∷ p.1 ≡ bytes) × (p.0 < 256) = IsReading-byte.sound bytes p.1 p.0 f g in
    let is : IsWordOf p.0 v = node_byte-node_of_byte p.0 v one.1 i in
    found word_bytes HasByte bytes (v, p.1) (w, rest) same (ap (λ n. n ∷ p.1) is.byte ∙ one.0, is.has)))

word_complete : (w : Node) (rest : List ℕ) → HasByte w → type_word (word_bytes w ++ rest) ≡ Some (w, rest)
unfolding type_word
word_complete w rest f = ap (λ o. option_and_then {U = Node × List ℕ} (λ (v : Node). Some (v, rest)) o) (node_of_byte-node_byte w f)

IsReading-word : IsReading type_word word_bytes HasByte
IsReading-word = record { sound = word_sound; complete = word_complete }

words_bytes : (ws : List Node) → flat_map word_bytes ws ≡ map node_byte ws
words_bytes [] = refl
words_bytes (w ∷ ws) = ap (λ l. node_byte w ∷ l) (words_bytes ws)

-- the words of a type are read where they are spelled
words_sound : (n : ℕ) (bytes rest : List ℕ) (ws : List Node) → IsBytes bytes → words_of_type n bytes ≡ Some (ws, rest) → (map node_byte ws ++ rest ≡ bytes) × ((length ws ≡ n) × IsCompound ws)
unfolding words_of_type
words_sound n bytes rest ws f e =
    option_and_then_some _ (many type_word n bytes) (ws, rest) e (λ p g h.
    let c : (spells_compound p.0 ≡ true) × (Some (p.0, p.1) ≡ Some (ws, rest)) = chosen (spells_compound p.0) (Some (p.0, p.1)) (ws, rest) h in
    let same : (p.0, p.1) ≡ (ws, rest) = same_Some (p.0, p.1) (ws, rest) c.1 in
    let one : (flat_map word_bytes p.0 ++ p.1 ≡ bytes) × ((length p.0 ≡ n) × All HasByte p.0) = (IsReading-many IsReading-word n).sound bytes p.1 p.0 f g in
    found (map node_byte) (λ ns. (length ns ≡ n) × IsCompound ns) bytes (p.0, p.1) (ws, rest) same
    (ap (λ l. l ++ p.1) (sym (words_bytes p.0)) ∙ one.0, (one.1.0, (Decides-spells_compound p.0).0 c.0)))

-- words that spell a type, and others
pub spelled_so : (ws : List Node) (rest : List ℕ) → IsCompound ws → spelled_type ws rest ≡ Some (ws, rest)
spelled_so ws rest f = let spells : spells_compound ws ≡ true = (Decides-spells_compound ws).1 f in ap (λ b. cond b (Some (ws, rest)) None) spells

pub not_spelled : (ws : List Node) (rest : List ℕ) → (IsCompound ws → false ≡ true) → spelled_type ws rest ≡ None
not_spelled ws rest h = by (spells_compound ws) refl
  where
    by : (b : Bool) → spells_compound ws ≡ b → cond {A = Found (List Node)} b (Some (ws, rest)) None ≡ None
    by true e = absurd (true≢false (sym (h ((Decides-spells_compound ws).0 e))))
    by false e = refl

-- words that were read, and none
pub words_over : (n : ℕ) (bytes : List ℕ) (ws : List Node) (rest : List ℕ) → many type_word n bytes ≡ Some (ws, rest) → spelled_type ws rest ≡ words_of_type n bytes
unfolding words_of_type
words_over n bytes ws rest e = sym (ap (λ o. option_and_then {U = List Node × List ℕ} (λ (p : List Node × List ℕ). spelled_type p.0 p.1) o) e)

pub words_stopped : (n : ℕ) (bytes : List ℕ) → many type_word n bytes ≡ None → words_of_type n bytes ≡ None
unfolding words_of_type
words_stopped n bytes e = ap (λ o. option_and_then {U = List Node × List ℕ} (λ (p : List Node × List ℕ). spelled_type p.0 p.1) o) e

words_complete : (ws : List Node) (rest : List ℕ) → IsCompound ws → words_of_type (length ws) (map node_byte ws ++ rest) ≡ Some (ws, rest)
words_complete ws rest f =
    let bytes = map node_byte ws ++ rest in
    let each : All HasByte ws = λ k d h. HasByte-at ws k d f.each f.few h in
    let read : many type_word (length ws) bytes ≡ Some (ws, rest) = ap (λ l. many type_word (length ws) (l ++ rest)) (sym (words_bytes ws)) ∙ (IsReading-many IsReading-word (length ws)).complete ws rest (refl, each) in
    sym (words_over (length ws) bytes ws rest read) ∙ spelled_so ws rest f

-- behind their number
abbrev compound_bytes : List Node → List ℕ
compound_bytes ws = length ws ∷ map node_byte ws

compound_sound : (bytes rest : List ℕ) (ws : List Node) → IsBytes bytes → compound bytes ≡ Some (ws, rest) → (compound_bytes ws ++ rest ≡ bytes) × IsCompound ws
unfolding compound
compound_sound bytes rest ws f e =
    option_and_then_some _ (byte bytes) (ws, rest) e (λ p g h.
    let c : (leb p.0 16 ≡ true) × (words_of_type p.0 p.1 ≡ Some (ws, rest)) = chosen (leb p.0 16) (words_of_type p.0 p.1) (ws, rest) h in
    let one : (p.0 ∷ p.1 ≡ bytes) × (p.0 < 256) = IsReading-byte.sound bytes p.1 p.0 f g in
    let two : (map node_byte ws ++ rest ≡ p.1) × ((length ws ≡ p.0) × IsCompound ws) = words_sound p.0 p.1 rest ws (rest_fits (p.0 ∷ []) p.1 bytes f one.0) c.1 in
    (ap (λ n. n ∷ map node_byte ws ++ rest) two.1.0 ∙ ap (λ l. p.0 ∷ l) two.0 ∙ one.0, two.1.1))

compound_complete : (ws : List Node) (rest : List ℕ) → IsCompound ws → compound (compound_bytes ws ++ rest) ≡ Some (ws, rest)
unfolding compound
compound_complete ws rest f = ap (λ b. cond b (words_of_type (length ws) (map node_byte ws ++ rest)) None) (le-leb (length ws) 16 f.few) ∙ words_complete ws rest f

IsReading-compound : IsReading compound compound_bytes IsCompound
IsReading-compound = record { sound = compound_sound; complete = compound_complete }

-- what is made of a part in one way is written as that part, behind what else stands there
module _ {A B : Type 0} {read : List ℕ → Found A} {write : A → List ℕ} {IsFit : A → Type 0}
    (write_made : B → List ℕ) (IsFitMade : B → Type 0) (make : A → B) where
  pub made_sound : IsReading read write IsFit → ((x : A) → write_made (make x) ≡ write x) → ((x : A) → IsFit x → IsFitMade (make x)) → (bytes rest : List ℕ) (y : B) → IsBytes bytes → read_as make read bytes ≡ Some (y, rest) → (write_made y ++ rest ≡ bytes) × IsFitMade y
  made_sound r same fit bytes rest y f e =
      option_map_some (λ p. (make p.0, p.1)) (read bytes) (y, rest) e (λ p g h.
      let one : (write p.0 ++ p.1 ≡ bytes) × IsFit p.0 = r.sound bytes p.1 p.0 f g in
      found write_made IsFitMade bytes (make p.0, p.1) (y, rest) h (ap (λ l. l ++ p.1) (same p.0) ∙ one.0, fit p.0 one.1))

-- a payload behind its form
abbrev form_of : Payload → ℕ
form_of Nothing = 0
form_of (One s) = 1
form_of (Tuple ss) = 2
form_of (Compound ws) = 3

abbrev behind_form : Payload → List ℕ
behind_form Nothing = []
behind_form (One s) = scalar_number s ∷ []
behind_form (Tuple ss) = shape_bytes ss
behind_form (Compound ws) = compound_bytes ws

record IsOfForm (n : ℕ) (p : Payload) : Type 0 where
  is : form_of p ≡ n
  fits : IsPayload p

other_form : (n : ℕ) (bytes : List ℕ) → payload_by (suc (suc (suc (suc n)))) bytes ≡ None
other_form n bytes =
    let form = suc (suc (suc (suc n))) in
    rw (ne_eqb form 0 (λ e. omega (arith, e)), ne_eqb form 1 (λ e. omega (arith, e)), ne_eqb form 2 (λ e. omega (arith, e)), ne_eqb form 3 (λ e. omega (arith, e))) refl

form_sound : (n : ℕ) (bytes rest : List ℕ) (p : Payload) → IsBytes bytes → payload_by n bytes ≡ Some (p, rest) → (behind_form p ++ rest ≡ bytes) × IsOfForm n p
form_sound zero bytes rest p f e = found behind_form (IsOfForm 0) bytes (Nothing, bytes) (p, rest) (same_Some (Nothing, bytes) (p, rest) e) (refl, record { is = refl; fits = tt })
form_sound (suc zero) bytes rest p f e = made_sound behind_form (IsOfForm 1) One IsReading-scalar (λ s. refl) (λ s h. record { is = refl; fits = tt }) bytes rest p f e
form_sound (suc (suc zero)) bytes rest p f e = made_sound behind_form (IsOfForm 2) Tuple IsReading-shape (λ ss. refl) (λ ss h. record { is = refl; fits = h }) bytes rest p f e
form_sound (suc (suc (suc zero))) bytes rest p f e = made_sound behind_form (IsOfForm 3) Compound IsReading-compound (λ ws. refl) (λ ws h. record { is = refl; fits = h }) bytes rest p f e
form_sound (suc (suc (suc (suc n)))) bytes rest p f e = absurd (none-some (p, rest) (sym (other_form n bytes) ∙ e))

payload_of_form : (p : Payload) → payload_bytes p ≡ form_of p ∷ behind_form p
payload_of_form Nothing = refl
payload_of_form (One s) = refl
payload_of_form (Tuple ss) = refl
payload_of_form (Compound ws) = refl

payload_sound : (bytes rest : List ℕ) (p : Payload) → IsBytes bytes → payload bytes ≡ Some (p, rest) → (payload_bytes p ++ rest ≡ bytes) × IsPayload p
unfolding payload
payload_sound bytes rest p f e =
    option_and_then_some _ (byte bytes) (p, rest) e (λ q g h.
    let one : (q.0 ∷ q.1 ≡ bytes) × (q.0 < 256) = IsReading-byte.sound bytes q.1 q.0 f g in
    let two : (behind_form p ++ rest ≡ q.1) × IsOfForm q.0 p = form_sound q.0 q.1 rest p (rest_fits (q.0 ∷ []) q.1 bytes f one.0) h in
    (ap (λ l. l ++ rest) (payload_of_form p) ∙ ap (λ n. n ∷ behind_form p ++ rest) two.1.is ∙ ap (λ l. q.0 ∷ l) two.0 ∙ one.0, two.1.fits))

payload_complete : (p : Payload) (rest : List ℕ) → IsPayload p → payload (payload_bytes p ++ rest) ≡ Some (p, rest)
unfolding payload
payload_complete Nothing rest f = refl
payload_complete (One s) rest f = rw (scalar_complete s rest tt) refl
payload_complete (Tuple ss) rest f = rw (shape_complete ss rest f) refl
payload_complete (Compound ws) rest f = rw (compound_complete ws rest f) refl

pub IsReading-payload : IsReading payload payload_bytes IsPayload
IsReading-payload = record { sound = payload_sound; complete = payload_complete }

-- a type behind its kind
abbrev kind_of : TransmitIndex → ℕ
kind_of (Stream p) = 0
kind_of (Future p) = 1

abbrev behind_kind : TransmitIndex → List ℕ
behind_kind (Stream p) = payload_bytes p
behind_kind (Future p) = payload_bytes p

record IsOfKind (n : ℕ) (ty : TransmitIndex) : Type 0 where
  is : kind_of ty ≡ n
  fits : IsType ty

other_kind : (n : ℕ) (bytes : List ℕ) → type_by (suc (suc n)) bytes ≡ None
other_kind n bytes = rw (ne_eqb (suc (suc n)) 0 (λ e. omega (arith, e)), ne_eqb (suc (suc n)) 1 (λ e. omega (arith, e))) refl

kind_sound : (n : ℕ) (bytes rest : List ℕ) (ty : TransmitIndex) → IsBytes bytes → type_by n bytes ≡ Some (ty, rest) → (behind_kind ty ++ rest ≡ bytes) × IsOfKind n ty
kind_sound zero bytes rest ty f e = made_sound behind_kind (IsOfKind 0) Stream IsReading-payload (λ p. refl) (λ p h. record { is = refl; fits = h }) bytes rest ty f e
kind_sound (suc zero) bytes rest ty f e = made_sound behind_kind (IsOfKind 1) Future IsReading-payload (λ p. refl) (λ p h. record { is = refl; fits = h }) bytes rest ty f e
kind_sound (suc (suc n)) bytes rest ty f e = absurd (none-some (ty, rest) (sym (other_kind n bytes) ∙ e))

type_of_kind : (ty : TransmitIndex) → type_bytes ty ≡ kind_of ty ∷ behind_kind ty
type_of_kind (Stream p) = refl
type_of_kind (Future p) = refl

type_sound : (bytes rest : List ℕ) (ty : TransmitIndex) → IsBytes bytes → transmit_type bytes ≡ Some (ty, rest) → (type_bytes ty ++ rest ≡ bytes) × IsType ty
unfolding transmit_type
type_sound bytes rest ty f e =
    option_and_then_some _ (byte bytes) (ty, rest) e (λ q g h.
    let one : (q.0 ∷ q.1 ≡ bytes) × (q.0 < 256) = IsReading-byte.sound bytes q.1 q.0 f g in
    let two : (behind_kind ty ++ rest ≡ q.1) × IsOfKind q.0 ty = kind_sound q.0 q.1 rest ty (rest_fits (q.0 ∷ []) q.1 bytes f one.0) h in
    (ap (λ l. l ++ rest) (type_of_kind ty) ∙ ap (λ n. n ∷ behind_kind ty ++ rest) two.1.is ∙ ap (λ l. q.0 ∷ l) two.0 ∙ one.0, two.1.fits))

type_complete : (ty : TransmitIndex) (rest : List ℕ) → IsType ty → transmit_type (type_bytes ty ++ rest) ≡ Some (ty, rest)
unfolding transmit_type
type_complete (Stream p) rest f = rw (payload_complete p rest f) refl
type_complete (Future p) rest f = rw (payload_complete p rest f) refl

pub IsReading-type : IsReading transmit_type type_bytes IsType
IsReading-type = record { sound = type_sound; complete = type_complete }

-- the count of a read or write of this type
pub IsReading-count : (ty : TransmitIndex) → IsReading (read_count ty) number_bytes (IsCount ty)
unfolding read_count
IsReading-count (Stream p) = record { sound = IsReading-number.sound; complete = IsReading-number.complete }
IsReading-count (Future p) = record {
  sound = λ bytes rest n f e. let one : (number_bytes n ++ rest ≡ bytes) × IsBetween 1 1 n = (IsReading-within 1 1 (omega arith)).sound bytes rest n f e in (one.0, omega (arith, one.1.0, one.1.1));
  complete = λ n rest f. (IsReading-within 1 1 (omega arith)).complete n rest (omega (arith, f), omega (arith, f));
}

-- scalars found before, in front of those that are found next
abbrev pub fronted : List Scalar → Found (List Scalar) → Found (List Scalar)
fronted front o = option_map (λ p. (front ++ p.0, p.1)) o

pub fronted_more : (front : List Scalar) (n : ℕ) (bytes : List ℕ) (p : Scalar × List ℕ) → scalar bytes ≡ Some p → fronted (front ++ p.0 ∷ []) (fields n p.1) ≡ fronted front (fields (suc n) bytes)
unfolding fields
fronted_more front n bytes p e = rw e (by (fields n p.1))
  where
    by : (o : Found (List Scalar)) → fronted (front ++ p.0 ∷ []) o ≡ fronted front (option_map (λ (v : (Scalar × List Scalar) × List ℕ). (v.0.0 ∷ v.0.1, v.1)) (option_and_then {U = (Scalar × List Scalar) × List ℕ} (λ (q : List Scalar × List ℕ). Some ((p.0, q.0), q.1)) o))
    by None = refl
    by (Some q) = ap (λ l. Some (l, q.1)) (append_assoc front (p.0 ∷ []) q.0)

pub fronted_none : (front : List Scalar) (n : ℕ) (bytes : List ℕ) → scalar bytes ≡ None → fronted front (fields (suc n) bytes) ≡ None
unfolding fields
fronted_none front n bytes e = rw e refl

pub fronted_end : (front : List Scalar) (bytes : List ℕ) → fronted front (fields 0 bytes) ≡ Some (front, bytes)
unfolding fields
fronted_end front bytes = ap (λ l. Some (l, bytes)) (append-nil front)

-- the same by how many are still to be read
pub fields_stopped : (front : List Scalar) (m : ℕ) (bytes : List ℕ) → 0 < m → scalar bytes ≡ None → fronted front (fields m bytes) ≡ None
fields_stopped front zero bytes h e = absurd (omega (arith, h))
fields_stopped front (suc n) bytes h e = fronted_none front n bytes e

pub fields_on : (front : List Scalar) (m n : ℕ) (bytes : List ℕ) (p : Scalar × List ℕ) → m ≡ suc n → scalar bytes ≡ Some p → fronted (front ++ p.0 ∷ []) (fields n p.1) ≡ fronted front (fields m bytes)
fields_on front m n bytes p h e = fronted_more front n bytes p e ∙ ap (λ j. fronted front (fields j bytes)) (sym h)

pub fields_over : (front : List Scalar) (m : ℕ) (bytes : List ℕ) → m ≡ 0 → fronted front (fields m bytes) ≡ Some (front, bytes)
fields_over front m bytes h = ap (λ j. fronted front (fields j bytes)) h ∙ fronted_end front bytes
