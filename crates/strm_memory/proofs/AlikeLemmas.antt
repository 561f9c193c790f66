-- Types whose items lie alike: a scalar, and the record of that one field.
use Rattle.std.proofs.Common.{◌≡◌, ℕ, zero, suc, ◌+◌, ◌≤◌, ℤ, List, [], ◌∷◌, ◌++◌, take, drop, Option, Some, None, refl, sym, subst, ap, ◌∙◌, arith}
use Rattle.std.specs.Option.{option_map}
use Rattle.std.specs.Prelude.{option_and_then}
use Rattle.strm_codes.specs.Scalars.{size_of}
use Rattle.strm_codes.specs.Fields.{end_offset, fields_size}
use Rattle.strm_codes.specs.ItemTypes.{ItemType, Plain, item_size, fields_type}
use Rattle.strm_codes.specs.Layout.{item_type, scalars_of}
use Rattle.strm_codes.specs.declared.scalars.Scalar.{Scalar}
use Rattle.strm_codes.specs.declared.nodes.Node.{Node}
use Rattle.strm_codes.specs.declared.scalars.Scalar.TheVariants.{Bool as Flag, S8, U8, S16, U16, S32, U32, S64, U64, Char, F32, F64}
use Rattle.strm_codes.specs.declared.payloads.Payload.{Payload}
use Rattle.strm_codes.specs.declared.payloads.Payload.TheVariants.{Nothing, One, Tuple, Compound}
use Rattle.strm_codes.proofs.FieldTypeLemmas.{item_size-fields}
use Rattle.strm_memory.specs.Bytes.{le}
use Rattle.strm_memory.specs.Numbers.{lifted}
use Rattle.strm_memory.specs.FieldItems.{decode_from, encode_from}
use Rattle.strm_memory.specs.Items.{items, stored, good_then, good_items}
use Rattle.strm_memory.specs.Loads.{decode, encode}
use Rattle.strm_memory.proofs.FlatLemmas.{decode-flat, encode-flat}
use Rattle.strm_memory.proofs.WalkLemmas.{no_gap}
use Rattle.strm_memory.proofs.ItemLemmas.{items-cons, stored-cons}

pub record LieAlike (t u : ItemType) : Type 0 where
  pub size : item_size t ≡ item_size u
  pub decoded : (bytes : List ℕ) → decode t bytes ≡ decode u bytes
  pub encoded : (bytes : List ℕ) (x : List ℤ) → encode t bytes x ≡ encode u bytes x

pub items-alike : (t u : ItemType) (bytes : List ℕ) (n : ℕ) → LieAlike t u → items t bytes n ≡ items u bytes n
items-alike t u bytes zero l = unfold items in refl
items-alike t u bytes (suc n) l =
    let w = item_size u in
    items-cons t bytes n w (decode u bytes) l.size (l.decoded bytes)
    ∙ ap (λ rest. option_and_then (λ x. option_map (λ xs. x ∷ xs) rest) (decode u bytes)) (items-alike t u (drop w bytes) n l)
    ∙ sym (items-cons u bytes n w (decode u bytes) refl refl)

pub stored-alike : (t u : ItemType) (bytes : List ℕ) (xs : List (List ℤ)) → LieAlike t u → stored t bytes xs ≡ stored u bytes xs
stored-alike t u bytes [] l = unfold stored in refl
stored-alike t u bytes (x ∷ xs) l =
    let w = item_size u in
    let item = encode u bytes x in
    stored-cons t bytes x xs w item l.size (l.encoded bytes x)
    ∙ ap (λ rest. take w item ++ rest) (stored-alike t u (drop w item) xs l)
    ∙ sym (stored-cons u bytes x xs w item refl refl)

pub good_items-alike : (t u : ItemType) (bytes : List ℕ) (n : ℕ) → LieAlike t u → good_items t bytes n ≡ good_items u bytes n
unfolding good_items
good_items-alike t u bytes zero l = refl
good_items-alike t u bytes (suc n) l =
    let w = item_size u in
    ap (λ d. good_then d (good_items t (drop (item_size t) bytes) n)) (l.decoded bytes)
    ∙ ap (λ k. good_then (decode u bytes) (good_items t (drop k bytes) n)) l.size
    ∙ ap (good_then (decode u bytes)) (good_items-alike t u (drop w bytes) n l)

-- ## A scalar, and the record of it

pub fields_size-one : (s : Scalar) → fields_size (s ∷ []) ≡ size_of s
fields_size-one Flag = refl
fields_size-one S8 = refl
fields_size-one U8 = refl
fields_size-one S16 = refl
fields_size-one U16 = refl
fields_size-one S32 = refl
fields_size-one U32 = refl
fields_size-one S64 = refl
fields_size-one U64 = refl
fields_size-one Char = refl
fields_size-one F32 = refl
fields_size-one F64 = refl

one_alone : (o : Option ℤ) → option_map (λ x. x ∷ []) o ≡ option_and_then (λ x. option_map (λ xs. x ∷ xs) (Some [])) o
one_alone None = refl
one_alone (Some x) = refl

plain_decoded : (s : Scalar) (bytes : List ℕ) → decode (Plain s) bytes ≡ decode_from 0 (s ∷ []) bytes
unfolding decode decode_from
plain_decoded s bytes = rw (no_gap (size_of s)) (one_alone (lifted s (le (take (size_of s) bytes))))

plain_encoded : (s : Scalar) (bytes : List ℕ) (x : List ℤ) → encode (Plain s) bytes x ≡ encode_from 0 (s ∷ []) bytes x
unfolding encode encode_from
plain_encoded s bytes [] = refl
plain_encoded s bytes (x ∷ xs) = let z : 0 + size_of s ≡ size_of s = omega arith in rw (no_gap (size_of s), z) refl

pub plain_alike : (s : Scalar) → LieAlike (Plain s) (fields_type (s ∷ []))
plain_alike s = record {
  size = sym (fields_size-one s) ∙ sym (item_size-fields (s ∷ []));
  decoded = λ bytes. plain_decoded s bytes ∙ sym (decode-flat (s ∷ []) bytes);
  encoded = λ bytes x. plain_encoded s bytes x ∙ sym (encode-flat (s ∷ []) bytes x);
}

same_alike : (t : ItemType) → LieAlike t t
same_alike t = record { size = refl; decoded = λ bytes. refl; encoded = λ bytes x. refl }

-- a payload that is no compound lies as the record of its scalars
pub payload_alike : (p : Payload) → ((ns : List Node) → p ≡ Compound ns → ⊥) → LieAlike (item_type p) (fields_type (scalars_of p))
payload_alike Nothing n = same_alike (fields_type [])
payload_alike (One s) n = plain_alike s
payload_alike (Tuple ss) n = same_alike (fields_type ss)
payload_alike (Compound ns) n = absurd (n ns refl)

-- the fields end within an item
pub fields_end : (ss : List Scalar) → end_offset 0 ss ≤ item_size (fields_type ss)
fields_end ss = subst (λ w. end_offset 0 ss ≤ w) (sym (item_size-fields ss)) (omega arith)

pub payload_ends : (p : Payload) → ((ns : List Node) → p ≡ Compound ns → ⊥) → end_offset 0 (scalars_of p) ≤ item_size (item_type p)
payload_ends p n = subst (λ w. end_offset 0 (scalars_of p) ≤ w) (sym (payload_alike p n).size) (fields_end (scalars_of p))
