-- Items looked at one field after the other instead of one item after the other.
use Rattle.std.proofs.Common.{◌≡◌, ℕ, zero, suc, ◌+◌, ◌<◌, ◌≤◌, ◌-◌, Bool, true, false, cond, ◌&&◌, List, [], ◌∷◌, length, drop, refl, sym, ap, ◌∙◌, add_assoc, arith, Some, None, pos}
use Rattle.std.proofs.lemmas.List.{drop-drop, drop_all}
use Rattle.std.specs.Prelude.{is_some}
use Rattle.strm_codes.specs.Scalars.{size_of, is_scalar_value}
use Rattle.strm_codes.specs.Offsets.{gap_before}
use Rattle.strm_codes.specs.Fields.{fields_size}
use Rattle.strm_codes.specs.ItemTypes.{fields_type}
use Rattle.strm_codes.proofs.FieldTypeLemmas.{item_size-fields}
use Rattle.strm_codes.specs.declared.scalars.Scalar.{Scalar}
use Rattle.strm_codes.specs.declared.scalars.Scalar.TheVariants.{Char}
use Rattle.strm_memory.specs.Bytes.{le, bytes_at}
use Rattle.strm_memory.specs.Numbers.{lifted}
use Rattle.strm_memory.specs.FieldItems.{decode_from}
use Rattle.strm_memory.specs.Items.{items}
use Rattle.strm_memory.proofs.ItemLemmas.{items-cons}
use Rattle.strm_memory.proofs.FlatLemmas.{decode-flat}
use Rattle.strm_memory.specs.Copies.{is_good_column, are_good_columns}
use Rattle.strm_memory.proofs.FieldLemmas.{IsField, drop_field, is_some-both}
use Rattle.strm_memory.proofs.CopyLemmas.{lifted_no_char}

-- a scalar's bytes at an address stand for a number
abbrev is_good_at : Scalar → List ℕ → ℕ → Bool
is_good_at s source address = is_some (lifted s (le (bytes_at source address (size_of s))))

-- ## One item more, in a loop over the items of a column

pub good_column_more : (s : Scalar) (start size : ℕ) (source : List ℕ) (from k n : ℕ) (b : Bool) → k < n → b ≡ is_good_at s source (from + start) → is_good_column s start size (drop from source) (n - k) ≡ b && is_good_column s start size (drop (from + size) source) (n - (k + 1))
unfolding is_good_column
good_column_more s start size source from k n b h e =
    let c : n - k ≡ suc (n - (k + 1)) = omega arith in
    rw (c, e, drop-drop start from source, drop-drop size from source) refl

pub good_column_none : (s : Scalar) (start size : ℕ) (source : List ℕ) (n : ℕ) → is_good_column s start size source (n - n) ≡ true
unfolding is_good_column
good_column_none s start size source n = let z : n - n ≡ 0 = omega arith in rw z refl

-- ## One field more, in a loop over the fields

-- the fields from the k-th on are good
abbrev good_from : List Scalar → ℕ → List ℕ → ℕ → ℕ → ℕ → Bool
good_from ss size source n k at = are_good_columns at (drop k ss) size source n

pub good_columns_step : (ss : List Scalar) (k at start width : ℕ) (s : Scalar) (size : ℕ) (source : List ℕ) (n : ℕ) (b : Bool) → IsField ss k at start width s → b ≡ is_good_column s start size source n → good_from ss size source n k at ≡ b && good_from ss size source n (k + 1) (start + width)
unfolding are_good_columns
good_columns_step ss k at start width s size source n b f e = rw (e, drop_field ss k at start width s f, f.begins, f.takes) refl

pub good_columns_end : (ss : List Scalar) (k at size : ℕ) (source : List ℕ) (n : ℕ) → length ss ≤ k → are_good_columns at (drop k ss) size source n ≡ true
unfolding are_good_columns
good_columns_end ss k at size source n h = rw (drop_all k ss h) refl

-- ## Field by field looked at is item by item

both_more : (a b c d : Bool) → ((a && b) && (c && d)) ≡ ((a && c) && (b && d))
both_more true true c d = refl
both_more true false true d = refl
both_more true false false d = refl
both_more false b c d = refl

cond_both : (a b : Bool) → cond a b false ≡ (a && b)
cond_both true b = refl
cond_both false b = refl

-- one of a column's fields looked at, and what was known of all before it
pub both_step : (a b c d x : Bool) → d ≡ (b && c) → (a && d) ≡ x → ((a && b) && c) ≡ x
both_step true b c d x e f = sym e ∙ f
both_step false b c d x e f = f

-- the fields from an offset on stand for numbers
abbrev are_decoded : ℕ → List Scalar → List ℕ → Bool
are_decoded at ss source = is_some (decode_from at ss (drop at source))

decoded-cons : (at : ℕ) (s : Scalar) (ss : List Scalar) (source : List ℕ) → are_decoded at (s ∷ ss) source ≡ (is_good_at s source (at + gap_before at (size_of s)) && are_decoded (at + gap_before at (size_of s) + size_of s) ss source)
unfolding decode_from
decoded-cons at s ss source =
    let gap = gap_before at (size_of s) in
    rw (drop-drop gap at source, drop-drop (gap + size_of s) at source, ← add_assoc at gap (size_of s))
    (is_some-both (lifted s (le (bytes_at source (at + gap) (size_of s)))) (decode_from (at + gap + size_of s) ss (drop (at + gap + size_of s) source)) (λ x xs. x ∷ xs)
    ∙ cond_both (is_some (lifted s (le (bytes_at source (at + gap) (size_of s))))) (is_some (decode_from (at + gap + size_of s) ss (drop (at + gap + size_of s) source))))

good_columns-suc : (at : ℕ) (ss : List Scalar) (size : ℕ) (source : List ℕ) (n : ℕ) → are_good_columns at ss size source (suc n) ≡ (is_some (decode_from at ss (drop at source)) && are_good_columns at ss size (drop size source) n)
unfolding are_good_columns is_good_column
good_columns-suc at [] size source n = unfold decode_from in refl
good_columns-suc at (s ∷ ss) size source n =
    let start = at + gap_before at (size_of s) in
    let here = is_some (lifted s (le (bytes_at source start (size_of s)))) in
    let others = is_good_column s start size (drop size source) n in
    rw (good_columns-suc (start + size_of s) ss size source n, decoded-cons at s ss source)
    (both_more here others (is_some (decode_from (start + size_of s) ss (drop (start + size_of s) source))) (are_good_columns (start + size_of s) ss size (drop size source) n))

good_columns-zero : (at : ℕ) (ss : List Scalar) (size : ℕ) (source : List ℕ) → are_good_columns at ss size source zero ≡ true
unfolding are_good_columns is_good_column
good_columns-zero at [] size source = refl
good_columns-zero at (s ∷ ss) size source = good_columns-zero (at + gap_before at (size_of s) + size_of s) ss size source

pub good_columns-items : (ss : List Scalar) (source : List ℕ) (n : ℕ) → are_good_columns 0 ss (fields_size ss) source n ≡ is_some (items (fields_type ss) source n)
good_columns-items ss source zero = unfold items in good_columns-zero 0 ss (fields_size ss) source
good_columns-items ss source (suc n) =
    let w = fields_size ss in
    let here = decode_from 0 ss source in
    let others = items (fields_type ss) (drop w source) n in
    good_columns-suc 0 ss w source n
    ∙ ap (λ b. is_some here && b) (good_columns-items ss (drop w source) n)
    ∙ sym (is_some-both here others (λ x xs. x ∷ xs) ∙ cond_both (is_some here) (is_some others))
    ∙ sym (ap is_some (items-cons (fields_type ss) source n w here (item_size-fields ss) (decode-flat ss source)))

-- a column of any other scalar than a character is good
pub good_column-no_char : (s : Scalar) (start size : ℕ) (source : List ℕ) (n : ℕ) → (s ≡ Char → ⊥) → is_good_column s start size source n ≡ true
unfolding is_good_column
good_column-no_char s start size source zero h = refl
good_column-no_char s start size source (suc n) h =
    rw (lifted_no_char s (le (bytes_at source start (size_of s))) h) (good_column-no_char s start size (drop size source) n h)

-- a character is a number where it is a scalar value
pub lifted_char : (n : ℕ) → is_some (lifted Char n) ≡ is_scalar_value n
lifted_char n = either (is_scalar_value n)
  where
    either : (b : Bool) → is_some (cond b (Some (pos n)) None) ≡ b
    either true = refl
    either false = refl
