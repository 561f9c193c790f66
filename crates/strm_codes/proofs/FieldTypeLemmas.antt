-- The type of an item of scalars: its size, its alignment, and the numbers that it has, by its fields.
use Rattle.std.proofs.Common.{◌≡◌, ℕ, ◌+◌, ℤ, List, [], ◌∷◌, refl}
use Rattle.strm_codes.specs.Scalars.{size_of}
use Rattle.strm_codes.specs.Offsets.{gap_before}
use Rattle.strm_codes.specs.Fields.{end_offset, fields_align, fields_size, FitsFields}
use Rattle.strm_codes.specs.ItemTypes.{Plain, align_of, item_size, end_of, fields, fields_type}
use Rattle.strm_codes.specs.Begins.{left_fields, BeginFields, FitsItem}
use Rattle.strm_codes.specs.Layout.{item_type, scalars_of}
use Rattle.strm_codes.specs.declared.scalars.Scalar.{Scalar}
use Rattle.strm_codes.specs.declared.nodes.Node.{Node}
use Rattle.strm_codes.specs.declared.payloads.Payload.{Payload}
use Rattle.strm_codes.specs.declared.payloads.Payload.TheVariants.{Nothing, One, Tuple, Compound}

pub align_of-fields : (ss : List Scalar) → align_of (fields_type ss) ≡ fields_align ss
align_of-fields [] = refl
align_of-fields (s ∷ ss) = rw (align_of-fields ss) refl

pub end_of-fields : (at : ℕ) (ss : List Scalar) → end_of at (fields ss) ≡ end_offset at ss
end_of-fields at [] = refl
end_of-fields at (s ∷ ss) = end_of-fields (at + gap_before at (size_of s) + size_of s) ss

pub item_size-fields : (ss : List Scalar) → item_size (fields_type ss) ≡ fields_size ss
item_size-fields ss = rw (align_of-fields ss, end_of-fields 0 ss) refl

begins_fields : (ss : List Scalar) (xs : List ℤ) → FitsFields ss xs → BeginFields (fields ss) xs × (left_fields (fields ss) xs ≡ [])
begins_fields [] [] f = (tt, refl)
begins_fields [] (x ∷ xs) f = absurd f
begins_fields (s ∷ ss) [] f = absurd f
begins_fields (s ∷ ss) (x ∷ xs) f = let r = begins_fields ss xs f.1 in ((f.0, r.0), r.1)

pub FitsItem-fields : (ss : List Scalar) (xs : List ℤ) → FitsFields ss xs → FitsItem (fields_type ss) xs
FitsItem-fields ss xs f = let r = begins_fields ss xs f in record { begins = r.0; all = r.1 }

fields_begin : (ss : List Scalar) (xs : List ℤ) → BeginFields (fields ss) xs → left_fields (fields ss) xs ≡ [] → FitsFields ss xs
fields_begin [] [] b e = tt
fields_begin [] (x ∷ xs) b e = cc
fields_begin (s ∷ ss) [] b e = absurd b.0
fields_begin (s ∷ ss) (x ∷ xs) b e = (b.0, fields_begin ss xs b.1 e)

pub FitsFields-item : (ss : List Scalar) (xs : List ℤ) → FitsItem (fields_type ss) xs → FitsFields ss xs
FitsFields-item ss xs i = fields_begin ss xs i.begins i.all

pub FitsItem-plain : (s : Scalar) (xs : List ℤ) → FitsFields (s ∷ []) xs → FitsItem (Plain s) xs
FitsItem-plain s [] f = absurd f
FitsItem-plain s (x ∷ []) f = record { begins = f.0; all = refl }
FitsItem-plain s (x ∷ y ∷ xs) f = absurd f.1

pub FitsFields-plain : (s : Scalar) (xs : List ℤ) → FitsItem (Plain s) xs → FitsFields (s ∷ []) xs
FitsFields-plain s [] i = absurd i.begins
FitsFields-plain s (x ∷ []) i = (i.begins, tt)
FitsFields-plain s (x ∷ y ∷ xs) i = let e = i.all in cc

-- a payload that is no compound has the items that fit its scalars
pub fits_by_scalars : (p : Payload) (xs : List ℤ) → ((ns : List Node) → p ≡ Compound ns → ⊥) → (FitsFields (scalars_of p) xs → FitsItem (item_type p) xs) × (FitsItem (item_type p) xs → FitsFields (scalars_of p) xs)
fits_by_scalars Nothing xs n = (FitsItem-fields [] xs, FitsFields-item [] xs)
fits_by_scalars (One s) xs n = (FitsItem-plain s xs, FitsFields-plain s xs)
fits_by_scalars (Tuple ss) xs n = (FitsItem-fields ss xs, FitsFields-item ss xs)
fits_by_scalars (Compound ns) xs n = absurd (n ns refl)
