-- Host ends that follow a tape, boxed one by one: they are of its types, and hold nothing.
use Rattle.std.proofs.Common.{◌≡◌, ◌⊎◌, inl, inr, ℕ, zero, suc, ◌+◌, ◌<◌, ◌≤◌, List, [], ◌∷◌, ◌++◌, get_or, slice_get, length, map, take, Some, None, refl, sym, ap, ◌∙◌, arith}
use Rattle.std.specs.Prelude.{All}
use Rattle.std.proofs.lemmas.List.{take_all}
use Rattle.std.proofs.lemmas.List.Elements.{All-nil, All-cons}
use Rattle.std.proofs.lemmas.Option.{slice_get_cases, none-some}
use Rattle.strm_codes.specs.declared.codes.TransmitIndex.{TransmitIndex}
use Rattle.strm_codes.specs.declared.codes.TransmitIndex.TheVariants as index
use Rattle.strm_codes.specs.Types.{kind_of, payload_of}
use Rattle.strm_buffers.specs.Tells.{Tells}
use Rattle.strm_program_ends.specs.Scripts.{unpolled_writer}
use Rattle.strm_program_ends.specs.Takings.{unpolled_discarding}
use Rattle.strm_tape.specs.Spelling.{WriterTape, ReaderTape, TapeOf}
use Rattle.strm_tape_runs.specs.Taking.{writer_type, reader_type, HoldsNone}
use Rattle.strm_tape_runs.specs.Playing.{AreEndsOf}
use Rattle.tape.specs.HostEnds.{following, following_reader}

take_next : {W : Type 0} (n : ℕ) (xs : List W) (t : W) → slice_get xs n ≡ Some t → take (n + 1) xs ≡ take n xs ++ t ∷ []
take_next n [] t e = absurd (none-some t e)
take_next zero (x ∷ xs) t e = let q : x ≡ t = cc in ap (λ y. y ∷ []) q
take_next (suc n) (x ∷ xs) t e = let s : suc n + 1 ≡ suc (n + 1) = omega arith in rw s (ap (λ l. x ∷ l) (take_next n xs t e))

map_append : {A B : Type 0} (f : A → B) (xs ys : List A) → map f (xs ++ ys) ≡ map f xs ++ map f ys
map_append f [] ys = refl
map_append f (x ∷ xs) ys = ap (λ l. f x ∷ l) (map_append f xs ys)

-- a box behind others, which follow the first of some tapes, follows the next
pub follows_next : {A W T : Type 0} (f : A → T) (h : W → T) (boxes new : List A) (b : A) (tapes : List W) (n : ℕ) → n < length tapes → map f boxes ≡ map h (take n tapes) → new ≡ boxes ++ b ∷ [] → ((t : W) → slice_get tapes n ≡ Some t → f b ≡ h t) → map f new ≡ map h (take (n + 1) tapes)
follows_next {A} {W} {T} f h boxes new b tapes n less before is there = by (slice_get_cases tapes n).1
  where
    by : ((t : W) × (n < length tapes) × (slice_get tapes n ≡ Some t) × (get_or tapes n t ≡ t)) ⊎ ((length tapes ≤ n) × (slice_get tapes n ≡ None)) → map f new ≡ map h (take (n + 1) tapes)
    by (inl (t, _, e, _)) =
        ap (map f) is ∙ map_append f boxes (b ∷ []) ∙ ap (λ l. l ++ f b ∷ []) before ∙ ap (λ y. map h (take n tapes) ++ y ∷ []) (there t e)
        ∙ sym (ap (map h) (take_next n tapes t e) ∙ map_append h (take n tapes) (t ∷ []))
    by (inr q) = absurd (omega (arith, q.0, less))

-- those that follow all of them
pub follow_all : {A W T : Type 0} (f : A → T) (h : W → T) (boxes : List A) (tapes : List W) (n : ℕ) → length tapes ≤ n → map f boxes ≡ map h (take n tapes) → map f boxes ≡ map h tapes
follow_all f h boxes tapes n all e = e ∙ ap (map h) (take_all n tapes all)

type_again : (ty : TransmitIndex) → writer_type (unpolled_writer (kind_of ty) (payload_of ty)) ≡ ty
type_again (index.Stream payload) = refl
type_again (index.Future payload) = refl

reader_type_again : (ty : TransmitIndex) → reader_type (unpolled_discarding (kind_of ty) (payload_of ty)) ≡ ty
reader_type_again (index.Stream payload) = refl
reader_type_again (index.Future payload) = refl

writers_typed : (tapes : List WriterTape) → map writer_type (map following tapes) ≡ map (λ (w : WriterTape). w.ty) tapes
writers_typed [] = refl
writers_typed (t ∷ tapes) = ap (λ x. x ∷ map writer_type (map following tapes)) (type_again t.ty) ∙ ap (λ l. t.ty ∷ l) (writers_typed tapes)

readers_typed : (tapes : List ReaderTape) → map reader_type (map following_reader tapes) ≡ map (λ (r : ReaderTape). r.ty) tapes
readers_typed [] = refl
readers_typed (t ∷ tapes) = ap (λ x. x ∷ map reader_type (map following_reader tapes)) (reader_type_again t.ty) ∙ ap (λ l. t.ty ∷ l) (readers_typed tapes)

writers_hold_none : (tapes : List WriterTape) → All HoldsNone (map following tapes)
writers_hold_none [] = All-nil HoldsNone
writers_hold_none (t ∷ tapes) = All-cons HoldsNone (following t) (map following tapes) refl (writers_hold_none tapes)

-- they are ends of the tape
pub ends_of : (tape : TapeOf) (tells : Tells) → tells.writers ≡ map following tape.writers → tells.readers ≡ map following_reader tape.readers → AreEndsOf tape tells
ends_of tape tells ws rs = record {
  writers = ap (map writer_type) ws ∙ writers_typed tape.writers;
  readers = ap (map reader_type) rs ∙ readers_typed tape.readers;
  held = rw ws (writers_hold_none tape.writers);
}
