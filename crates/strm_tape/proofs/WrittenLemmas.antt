-- Items written again over zeros: that they lie so in the bytes, and are kept in the new ones.
use Rattle.std.proofs.Common.{◌≡◌, ℕ, ◌+◌, ◌*◌, ◌<◌, Bool, true, cond, List, [], ◌++◌, length, take, drop, replicate, Option, Some, None, IsSomeAnd, refl, sym, ap, subst, ◌∙◌, arith}
use Rattle.std.specs.Str.{bytes_eq}
use Rattle.std.proofs.lemmas.List.{length-replicate, drop_all, take_all, append-nil}
use Rattle.std.proofs.lemmas.Slice.Eq.{bytes_eq-Decides}
use Rattle.strm_codes.specs.Layout.{item_type, is_number_payload}
use Rattle.strm_codes.specs.ItemTypes.{item_size, ItemType}
use Rattle.strm_codes.specs.declared.payloads.Payload.{Payload}
use Rattle.strm_codes.specs.declared.payloads.Payload.TheVariants.{Nothing, One, Tuple, Compound}
use Rattle.strm_memory.specs.Bytes.{put_at, IsBytes}
use Rattle.strm_memory.specs.Items.{items, stored}
use Rattle.strm_memory.proofs.CopyLemmas.{moved_items}
use Rattle.strm_memory.proofs.RegionLemmas.{length-items, AreItems-items, length-stored_at}
use Rattle.strm_buffers.specs.Listing.{Item, items_in, AreItemsKept}
use Rattle.strm_buffers.proofs.ListingLemmas.{kept_stored, are_stored}
use Rattle.strm_tape.specs.Spelling.{region_bytes}
use Rattle.strm_tape.specs.Reading.{items_as_written}

-- what the new bytes are, where the comparison with the old ones gave this
pub record Again (payload : Payload) (bytes written : List ℕ) (n : ℕ) (same : Bool) : Type 0 where
  pub kept : AreItemsKept payload written 0 n
  pub exact : items_as_written (item_type payload) bytes n ≡ cond same (Some (items_in (item_type payload) written 0 n)) None

module _ (payload : Payload) (bytes zeros new : List ℕ) (len n : ℕ) where
  -- the fields of an item
  abbrev ss : ItemType
  ss = item_type payload

  -- the new bytes in their place
  abbrev written : List ℕ
  written = take len (new ++ drop (length new) zeros)

  again_by : (xs : List Item) → IsBytes bytes → length bytes ≡ item_size ss * n → n < 4294967295 → zeros ≡ replicate (length bytes) 0 → len ≡ length zeros → items ss bytes n ≡ Some xs → new ≡ stored ss zeros xs → Again payload bytes written n (bytes_eq written bytes)
  again_by xs f size few z all e is =
      let count : length xs ≡ n = length-items ss bytes n xs e in
      let zero : length zeros ≡ item_size ss * n = ap length z ∙ length-replicate (length bytes) 0 ∙ size in
      let sized : length zeros ≡ item_size ss * length xs = zero ∙ ap (λ k. item_size ss * k) (sym count) in
      let kept = kept_stored payload written xs n (are_stored ss zeros new len xs sized all (AreItems-items ss bytes n xs f e) is) (sym count) few in
      let long : length new ≡ length zeros = ap length is ∙ length-stored_at ss zeros 0 xs (omega (arith, sized)) in
      let whole : written ≡ new = ap (λ l. take len (new ++ l)) (drop_all (length new) zeros (omega (arith, long))) ∙ ap (take len) (append-nil new) ∙ take_all len new (omega (arith, long, all)) in
      let region : written ≡ region_bytes ss xs = whole ∙ is ∙ ap (λ b. stored ss b xs) (z ∙ ap (λ k. replicate k 0) (size ∙ ap (λ k. item_size ss * k) (sym count))) in
      record {
        kept = kept.0;
        exact = rw (e, kept.1, region) refl;
      }

  -- the same of what a copy says
  pub again : IsBytes bytes → length bytes ≡ item_size ss * n → n < 4294967295 → zeros ≡ replicate (length bytes) 0 → len ≡ length zeros → IsSomeAnd (items ss bytes n) (λ xs. new ≡ stored ss zeros xs) → Again payload bytes written n (bytes_eq written bytes)
  again f size few z all copied = by (items ss bytes n) refl copied
    where
      by : (o : Option (List Item)) → items ss bytes n ≡ o → IsSomeAnd o (λ xs. new ≡ stored ss zeros xs) → Again payload bytes written n (bytes_eq written bytes)
      by None e is = elim is [ ]
      by (Some xs) e is = again_by xs f size few z all e is

-- bytes that are whole numbers, and the same bytes anew: these are kept, and lie as they are written
pub record Plain (payload : Payload) (bytes written : List ℕ) (n : ℕ) : Type 0 where
  pub kept : AreItemsKept payload written 0 n
  pub exact : items_as_written (item_type payload) bytes n ≡ Some (items_in (item_type payload) written 0 n)

-- numbers copied over as many zeros
copied_plain : (payload : Payload) (bytes : List ℕ) (n : ℕ) → is_number_payload payload ≡ true → IsBytes bytes → length bytes ≡ item_size (item_type payload) * n → IsSomeAnd (items (item_type payload) bytes n) (λ xs. bytes ≡ stored (item_type payload) (replicate (length bytes) 0) xs)
copied_plain Nothing bytes n t f size = cc
copied_plain (Tuple shape) bytes n t f size = cc
copied_plain (Compound words) bytes n t f size = cc
copied_plain (One s) bytes n t f size =
    let zeros : List ℕ = replicate (length bytes) 0 in
    let front : List ℕ = take (length bytes) bytes in
    let all : front ≡ bytes = take_all (length bytes) bytes (omega arith) in
    let none : drop (0 + length front) zeros ≡ [] = drop_all (0 + length front) zeros (omega (arith, ap length all, length-replicate {A = ℕ} (length bytes) 0)) in
    let same : bytes ≡ put_at zeros 0 front = sym (ap (λ l. front ++ l) none ∙ append-nil front ∙ all) in
    moved_items (One s) n bytes zeros bytes 0 0 (length bytes) t f (omega (arith, size)) size same

module _ (payload : Payload) (bytes : List ℕ) (n : ℕ) where
  plain_by : (xs : List Item) → IsBytes bytes → length bytes ≡ item_size (item_type payload) * n → n < 4294967295 → items (item_type payload) bytes n ≡ Some xs → bytes ≡ stored (item_type payload) (replicate (length bytes) 0) xs → Plain payload bytes bytes n
  plain_by xs f size few e is =
      let count : length xs ≡ n = length-items (item_type payload) bytes n xs e in
      let sized : length bytes ≡ item_size (item_type payload) * length xs = size ∙ ap (λ k. item_size (item_type payload) * k) (sym count) in
      let kept = kept_stored payload bytes xs n
      (record { all = sized; are = ap (items (item_type payload) bytes) count ∙ e; fit = AreItems-items (item_type payload) bytes n xs f e })
      (sym count) few in
      let region : region_bytes (item_type payload) xs ≡ bytes = ap (λ k. stored (item_type payload) (replicate k 0) xs) (sym sized) ∙ sym is in
      let equal : bytes_eq bytes bytes ≡ true = (bytes_eq-Decides bytes bytes).1 refl in
      record {
        kept = kept.0;
        exact = rw (e, region, equal) refl;
      }

  plain : IsBytes bytes → length bytes ≡ item_size (item_type payload) * n → n < 4294967295 → IsSomeAnd (items (item_type payload) bytes n) (λ xs. bytes ≡ stored (item_type payload) (replicate (length bytes) 0) xs) → Plain payload bytes bytes n
  plain f size few copied = by (items (item_type payload) bytes n) refl copied
    where
      by : (o : Option (List Item)) → items (item_type payload) bytes n ≡ o → IsSomeAnd o (λ xs. bytes ≡ stored (item_type payload) (replicate (length bytes) 0) xs) → Plain payload bytes bytes n
      by None e is = elim is [ ]
      by (Some xs) e is = plain_by xs f size few e is

pub plain_at : (payload : Payload) (bytes new : List ℕ) (n : ℕ) → new ≡ bytes → is_number_payload payload ≡ true → IsBytes bytes → length bytes ≡ item_size (item_type payload) * n → n < 4294967295 → Plain payload bytes new n
plain_at payload bytes new n e t f size few =
    subst (λ w. Plain payload bytes w n) (sym e) (plain payload bytes n f size few (copied_plain payload bytes n t f size))
