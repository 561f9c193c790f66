-- One field of an item more, in a loop over its fields. A field begins at `start`, and the ones before it
-- end at `at`.
use Rattle.std.proofs.Common.{◌≡◌, ℕ, zero, suc, ◌+◌, ◌<◌, ◌≤◌, ℤ, pos, false, cond, List, [], ◌∷◌, ◌++◌, length, take, drop, get_or, Option, Some, None, refl, ap, ◌∙◌, append_assoc, arith, length-append, append-nil, ◌^◌, negsuc, lit≤, sym}
use Rattle.std.proofs.lemmas.List.{length-take-le, drop-drop, take_at, drop_at, take-append-drop, drop_more, drop_all}
use Rattle.std.proofs.Math.Seq.{take-add}
use Rattle.std.specs.Option.{option_map}
use Rattle.std.specs.Prelude.{option_and_then, is_some, All}
use Rattle.std.specs.Int.{w128}
use Rattle.std.proofs.lemmas.Int.{ints}
use mir.Val.{SFits}
use Rattle.strm_codes.specs.Scalars.{size_of, FitsScalar, IsBelow, IsSignedBelow}
use Rattle.strm_codes.specs.Items.{IsNumber}
use Rattle.strm_codes.specs.Fields.{end_offset, FitsFields}
use Rattle.strm_codes.specs.Offsets.{gap_before}
use Rattle.strm_codes.proofs.LayoutLemmas.{le-end_offset}
use Rattle.strm_codes.specs.declared.scalars.Scalar.{Scalar}
use Rattle.strm_codes.specs.declared.scalars.Scalar.TheVariants.{Bool as Flag, S8, U8, S16, U16, S32, U32, S64, U64, Char, F32, F64}
use Rattle.strm_memory.specs.Bytes.{le, to_le, put_at}
use Rattle.strm_memory.specs.Numbers.{lifted, lowered}
use Rattle.strm_memory.specs.FieldItems.{decode_from, encode_from}
use Rattle.strm_memory.specs.Copies.{bytes_settled}
use Rattle.strm_memory.proofs.ByteLemmas.{length-to_le}

-- what is known of a field in a loop
pub record IsField (ss : List Scalar) (k at start size : ℕ) (s : Scalar) : Type 0 where
  pub inside : k < length ss
  pub scalar : get_or ss k Flag ≡ s
  pub begins : start ≡ at + gap_before at (size_of s)
  pub takes : size ≡ size_of s

-- the fields from this one on
pub drop_field : (ss : List Scalar) (k at start size : ℕ) (s : Scalar) → IsField ss k at start size s → drop k ss ≡ s ∷ drop (k + 1) ss
drop_field ss k at start size s f = drop_more ss k Flag f.inside ∙ ap (λ t. t ∷ drop (k + 1) ss) f.scalar

pub end_step : (ss : List Scalar) (k at start size : ℕ) (s : Scalar) → IsField ss k at start size s → end_offset (start + size) (drop (k + 1) ss) ≡ end_offset at (drop k ss)
end_step ss k at start size s f = rw (drop_field ss k at start size s f, f.begins, f.takes) refl

pub field_within : (ss : List Scalar) (k at start size : ℕ) (s : Scalar) → IsField ss k at start size s → start + size ≤ end_offset at (drop k ss)
field_within ss k at start size s f = rw (← end_step ss k at start size s f) (le-end_offset (start + size) (drop (k + 1) ss))

-- the same before its place is known
pub next_within : (ss : List Scalar) (k at : ℕ) → k < length ss → at + gap_before at (size_of (get_or ss k Flag)) + size_of (get_or ss k Flag) ≤ end_offset at (drop k ss)
next_within ss k at h =
    let s = get_or ss k Flag in
    field_within ss k at (at + gap_before at (size_of s)) (size_of s) s (record { inside = h; scalar = refl; begins = refl; takes = refl })

-- the bytes with what F makes of those from an address on
abbrev pub from_on : (List ℕ → List ℕ) → ℕ → List ℕ → List ℕ
from_on F address m = take address m ++ F (drop address m)

-- after one field, whatever F does with the bytes behind it
pub put_field : (m : List ℕ) (at gap size : ℕ) (new : List ℕ) (F : List ℕ → List ℕ) → length new ≡ size → at + gap + size ≤ length m → from_on F (at + gap + size) (put_at m (at + gap) new) ≡ take at m ++ (take gap (drop at m) ++ new ++ F (drop (gap + size) (drop at m)))
put_field m at gap size new F e h =
    let front : length (take (at + gap) m ++ new) ≡ at + gap + size = rw (length-append, length-take-le (at + gap) m (omega arith), e) refl in
    let behind : drop (gap + size) (drop at m) ≡ drop (at + gap + length new) m = rw (drop-drop, e) (ap (λ n. drop n m) (omega arith)) in
    rw (take_at (take (at + gap) m ++ new) _ (at + gap + size) front, drop_at (take (at + gap) m ++ new) _ (at + gap + size) front, behind, take-add at gap m) (simp append_assoc)

pub length-settled : (s : Scalar) (bytes : List ℕ) → length bytes ≡ size_of s → length (bytes_settled s bytes) ≡ size_of s
length-settled Flag bytes e = refl
length-settled S8 bytes e = e
length-settled U8 bytes e = e
length-settled S16 bytes e = e
length-settled U16 bytes e = e
length-settled S32 bytes e = e
length-settled U32 bytes e = e
length-settled S64 bytes e = e
length-settled U64 bytes e = e
length-settled Char bytes e = e
length-settled F32 bytes e = e
length-settled F64 bytes e = e

pub is_some-both : {A B C : Type 0} (o : Option A) (p : Option B) (f : A → B → C) → is_some (option_and_then (λ x. option_map (f x) p) o) ≡ cond (is_some o) (is_some p) false
is_some-both None p f = refl
is_some-both (Some x) None f = refl
is_some-both (Some x) (Some y) f = refl

-- the number that a field's bytes at an address stand for
abbrev number_at : Scalar → List ℕ → ℕ → Option ℤ
number_at s source address = lifted s (le (take (size_of s) (drop address source)))

-- the numbers of the fields from an offset on, of an item that lies from an address on
abbrev decoded_at : List ℕ → ℕ → ℕ → List Scalar → Option (List ℤ)
decoded_at source from at ss = decode_from at ss (drop (from + at) source)

-- one number before others, where they are there
abbrev before : Option ℤ → Option (List ℤ) → Option (List ℤ)
before o rest = option_and_then (λ x. option_map (λ xs. x ∷ xs) rest) o

decode_cons : (s : Scalar) (ss : List Scalar) (source : List ℕ) (from at gap : ℕ) (o : Option ℤ) → gap ≡ gap_before at (size_of s) → number_at s source (from + (at + gap)) ≡ o → decoded_at source from at (s ∷ ss) ≡ before o (decoded_at source from (at + gap + size_of s) ss)
unfolding decode_from
decode_cons s ss source from at gap o f e =
    let b : from + (at + gap + size_of s) ≡ from + at + (gap + size_of s) = omega arith in
    let q : from + (at + gap) ≡ from + at + gap = omega arith in
    rw (← e, b, q, ← f, drop-drop gap (from + at) source, drop-drop (gap + size_of s) (from + at) source) refl

-- these numbers, and then the others where there are any
abbrev pub with_front : {A : Type 0} → List A → Option (List A) → Option (List A)
with_front front o = option_map (λ xs. front ++ xs) o

pub with_front-more : {A : Type 0} (front : List A) (x : A) (o : Option (List A)) → with_front (front ++ x ∷ []) o ≡ with_front front (option_map (λ xs. x ∷ xs) o)
with_front-more front x None = refl
with_front-more front x (Some xs) = ap Some (append_assoc front (x ∷ []) xs)

-- these numbers, and then those of the fields from the k-th on
abbrev lifts : List ℕ → ℕ → List Scalar → List ℤ → ℕ → ℕ → Option (List ℤ)
lifts source from ss front k at = with_front front (decoded_at source from at (drop k ss))

-- one field lifted
pub decode_step : (ss : List Scalar) (k at start size : ℕ) (s : Scalar) (source : List ℕ) (from : ℕ) (front : List ℤ) (x : ℤ) → IsField ss k at start size s → Some x ≡ number_at s source (from + start) → lifts source from ss (front ++ x ∷ []) (k + 1) (start + size) ≡ lifts source from ss front k at
decode_step ss k at start size s source from front x f e =
    let e' = rw f.begins at (sym e) in
    rw (drop_field ss k at start size s f, f.begins, f.takes, decode_cons s (drop (k + 1) ss) source from at (gap_before at (size_of s)) (Some x) refl e')
    (with_front-more front x _)

pub decode_stop : (ss : List Scalar) (k at start size : ℕ) (s : Scalar) (source : List ℕ) (from : ℕ) (front : List ℤ) → IsField ss k at start size s → None ≡ number_at s source (from + start) → lifts source from ss front k at ≡ None
decode_stop ss k at start size s source from front f e =
    let e' = rw f.begins at (sym e) in
    rw (drop_field ss k at start size s f, decode_cons s (drop (k + 1) ss) source from at (gap_before at (size_of s)) None refl e') refl

pub decode_end : (ss : List Scalar) (k at : ℕ) (source : List ℕ) (front : List ℤ) → length ss ≤ k → with_front front (decode_from at (drop k ss) source) ≡ Some front
unfolding decode_from
decode_end ss k at source front h = rw (drop_all k ss h) (ap Some (append-nil front))

-- the bytes of a number in a field
abbrev field_bytes : Scalar → ℤ → List ℕ
field_bytes s x = to_le (size_of s) (lowered s x)

-- what becomes of the bytes from an offset on where these numbers are stored in those fields
abbrev encoded : ℕ → List Scalar → List ℤ → List ℕ → List ℕ
encoded at ss xs bytes = encode_from at ss bytes xs

-- the same of the fields from the k-th on
abbrev lowers : ℕ → List Scalar → List ℤ → ℕ → ℕ → List ℕ → List ℕ
lowers to ss xs k at m = from_on (encoded at (drop k ss) (drop k xs)) (to + at) m

-- a number put in a field at an address
abbrev with_field : Scalar → ℤ → ℕ → List ℕ → List ℕ
with_field s x address m = put_at m address (field_bytes s x)

-- a number put in a field at an address, and these numbers in the fields behind it, which begin from an offset on
abbrev put_first : Scalar → ℤ → ℕ → ℕ → List Scalar → List ℤ → List ℕ → List ℕ
put_first s x address on ss xs m =
    from_on (encoded on ss xs) (address + size_of s) (put_at m address (field_bytes s x))

encode_cons : (s : Scalar) (ss : List Scalar) (m : List ℕ) (x : ℤ) (xs : List ℤ) (at from gap : ℕ) → gap ≡ gap_before at (size_of s) → from + gap + size_of s ≤ length m → put_first s x (from + gap) (at + gap + size_of s) ss xs m ≡ from_on (encoded at (s ∷ ss) (x ∷ xs)) from m
unfolding encode_from
encode_cons s ss m x xs at from gap f h =
    rw (← f) (put_field m from gap (size_of s) (to_le (size_of s) (lowered s x)) (λ b. encode_from (at + gap + size_of s) ss b xs) (length-to_le (size_of s) (lowered s x)) h)

-- the number of a field
pub record IsNumberAt (xs : List ℤ) (k : ℕ) (x : ℤ) : Type 0 where
  pub inside : k < length xs
  pub is : get_or xs k (pos 0) ≡ x

-- one field lowered
pub encode_step : (ss : List Scalar) (k at start size : ℕ) (s : Scalar) (m : List ℕ) (to : ℕ) (xs : List ℤ) (x : ℤ) → IsField ss k at start size s → IsNumberAt xs k x → to + start + size ≤ length m → lowers to ss xs (k + 1) (start + size) (with_field s x (to + start) m) ≡ lowers to ss xs k at m
encode_step ss k at start size s m to xs x f n h =
    let gap = gap_before at (size_of s) in
    let here : drop k xs ≡ x ∷ drop (k + 1) xs = drop_more xs k (pos 0) n.inside ∙ ap (λ y. y ∷ drop (k + 1) xs) n.is in
    let a : to + (at + gap + size_of s) ≡ to + at + gap + size_of s = omega arith in
    let p : to + (at + gap) ≡ to + at + gap = omega arith in
    let room : to + at + gap + size_of s ≤ length m = omega (arith, h, f.begins, f.takes) in
    rw (drop_field ss k at start size s f, here, f.begins, f.takes, a, p)
    (encode_cons s (drop (k + 1) ss) m x (drop (k + 1) xs) at (to + at) gap refl room)

pub encode_end : (ss : List Scalar) (k at n : ℕ) (m : List ℕ) (xs : List ℤ) → length ss ≤ k → take n m ++ encode_from at (drop k ss) (drop n m) xs ≡ m
unfolding encode_from
encode_end ss k at n m xs h = rw (drop_all k ss h) (take-append-drop n m)

-- the numbers behind one that fits do too
pub fits_step : (ss : List Scalar) (k : ℕ) (xs : List ℤ) → k < length ss → k < length xs → FitsFields (drop k ss) (drop k xs) → FitsScalar (get_or ss k Flag) (get_or xs k (pos 0)) × FitsFields (drop (k + 1) ss) (drop (k + 1) xs)
fits_step ss k xs h l f = rw (drop_more ss k Flag h, drop_more xs k (pos 0) l) at f

pub length-FitsFields : (ss : List Scalar) (xs : List ℤ) → FitsFields ss xs → length xs ≡ length ss
length-FitsFields [] [] f = refl
length-FitsFields [] (x ∷ xs) f = absurd f
length-FitsFields (s ∷ ss) [] f = absurd f
length-FitsFields (s ∷ ss) (x ∷ xs) f = omega (arith, length-FitsFields ss xs f.1)

-- what fits a scalar fits 128 bits
below_fits : (limit : ℕ) (x : ℤ) → limit ≤ 2 ^ 64 → IsBelow limit x → SFits w128 x
below_fits limit (pos n) h (a, b) = record { sfits = omega (arith, ints) }
below_fits limit (negsuc n) h (a, b) = record { sfits = omega (arith, ints) }

within_fits : (half : ℕ) (x : ℤ) → half ≤ 2 ^ 64 → IsSignedBelow half x → SFits w128 x
within_fits half (pos n) h (a, b) = record { sfits = omega (arith, ints) }
within_fits half (negsuc n) h (a, b) = record { sfits = omega (arith, ints) }

pub SFits-fits : (s : Scalar) (x : ℤ) → FitsScalar s x → SFits w128 x
SFits-fits Flag x f = below_fits 2 x (lit≤ tt) f
SFits-fits U8 x f = below_fits (2 ^ 8) x (lit≤ tt) f
SFits-fits S8 x f = within_fits (2 ^ 7) x (lit≤ tt) f
SFits-fits U16 x f = below_fits (2 ^ 16) x (lit≤ tt) f
SFits-fits S16 x f = within_fits (2 ^ 15) x (lit≤ tt) f
SFits-fits U32 x f = below_fits (2 ^ 32) x (lit≤ tt) f
SFits-fits S32 x f = within_fits (2 ^ 31) x (lit≤ tt) f
SFits-fits U64 x f = below_fits (2 ^ 64) x (lit≤ tt) f
SFits-fits S64 x f = within_fits (2 ^ 63) x (lit≤ tt) f
SFits-fits Char x f = below_fits (2 ^ 32) x (lit≤ tt) f.0
SFits-fits F32 x f = below_fits (2 ^ 32) x (lit≤ tt) f
SFits-fits F64 x f = below_fits (2 ^ 64) x (lit≤ tt) f

below_number : (limit : ℕ) (x : ℤ) → limit ≤ 2 ^ 64 → IsBelow limit x → IsNumber x
below_number limit (pos n) h (a, b) = (omega (arith, ints), omega (arith, ints))
below_number limit (negsuc n) h (a, b) = absurd (omega (arith, ints))

within_number : (half : ℕ) (x : ℤ) → half ≤ 2 ^ 63 → IsSignedBelow half x → IsNumber x
within_number half (pos n) h (a, b) = (omega (arith, ints), omega (arith, ints))
within_number half (negsuc n) h (a, b) = (omega (arith, ints), omega (arith, ints))

IsNumber-fits : (s : Scalar) (x : ℤ) → FitsScalar s x → IsNumber x
IsNumber-fits Flag x f = below_number 2 x (lit≤ tt) f
IsNumber-fits U8 x f = below_number (2 ^ 8) x (lit≤ tt) f
IsNumber-fits S8 x f = within_number (2 ^ 7) x (lit≤ tt) f
IsNumber-fits U16 x f = below_number (2 ^ 16) x (lit≤ tt) f
IsNumber-fits S16 x f = within_number (2 ^ 15) x (lit≤ tt) f
IsNumber-fits U32 x f = below_number (2 ^ 32) x (lit≤ tt) f
IsNumber-fits S32 x f = within_number (2 ^ 31) x (lit≤ tt) f
IsNumber-fits U64 x f = below_number (2 ^ 64) x (lit≤ tt) f
IsNumber-fits S64 x f = within_number (2 ^ 63) x (lit≤ tt) f
IsNumber-fits Char x f = below_number (2 ^ 32) x (lit≤ tt) f.0
IsNumber-fits F32 x f = below_number (2 ^ 32) x (lit≤ tt) f
IsNumber-fits F64 x f = below_number (2 ^ 64) x (lit≤ tt) f

-- an item's numbers are numbers
pub IsNumber-FitsFields : (ss : List Scalar) (xs : List ℤ) → FitsFields ss xs → All IsNumber xs
IsNumber-FitsFields [] [] f k d h = absurd (omega arith)
IsNumber-FitsFields [] (x ∷ xs) f k d h = absurd f
IsNumber-FitsFields (s ∷ ss) [] f k d h = absurd f
IsNumber-FitsFields (s ∷ ss) (x ∷ xs) f zero d h = IsNumber-fits s x f.0
IsNumber-FitsFields (s ∷ ss) (x ∷ xs) f (suc k) d h = IsNumber-FitsFields ss xs f.1 k d (omega arith)
