-- Items moved from an offer into a buffer, one by one, and bytes copied out of it.
use Rattle.std.proofs.Common.{◌≡◌, ℕ, zero, suc, ◌+◌, ◌-◌, ◌<◌, ◌≤◌, List, [], ◌∷◌, ◌++◌, length, take, drop, min, map, Bool, true, false, Some, None, refl, sym, ap, ◌∙◌, arith, append_assoc, length-drop}
use Rattle.std.proofs.lemmas.Bool.Decides.{nat_tests}
use Rattle.std.proofs.lemmas.List.{take_at, drop_at, take_min, length-take, length-map, map-append, take-map}
use Rattle.std.specs.Prelude.{slice_get, nat_lt, ◌&&◌}
use Rattle.strm_codes.specs.Layout.{item_type}
use Rattle.strm_memory.specs.Items.{byte_items}
use Rattle.strm_buffers.specs.Listing.{Item}
use Rattle.strm_buffers.specs.Offers.{Offered, items_lent, item_behind, good_lent, left_of, is_cut, asks_bad}
use Rattle.strm_buffers.proofs.OfferLemmas.{good_most, behind_lent, all_good}
use Rattle.strm_buffers.proofs.PollingLemmas.{take_next}

-- BYTES

module _ (left : List Item) (bytes old new : List ℕ) (n : ℕ) (e : byte_items bytes ≡ left) (c : n ≡ min (length old) (length bytes)) (is : new ≡ take n bytes ++ drop n old) where
  as_many_bytes : length left ≡ length bytes
  as_many_bytes = ap length (sym e) ∙ length-map bytes _

  counted : min (length old) (length left) ≡ n
  counted = omega (arith, c, as_many_bytes)

  front : length (take n bytes) ≡ n
  front = omega (arith, length-take n bytes, c)

  -- bytes copied to the front are the first of those that are left
  pub copied_front : byte_items (take (min (length old) (length left)) new) ≡ take (min (length old) (length left)) left
  copied_front =
      let first : take n new ≡ take n bytes = ap (take n) is ∙ take_at (take n bytes) (drop n old) n front in
      rw counted (ap byte_items first ∙ sym (take-map _ n bytes) ∙ ap (take n) e)

  -- and behind them all is as it was
  pub behind_front : drop (min (length old) (length left)) new ≡ drop (min (length old) (length left)) old
  behind_front = rw counted (ap (drop n) is ∙ drop_at (take n bytes) (drop n old) n front)

-- ITEMS

slice_get-drop : {A : Type 0} (n i : ℕ) (xs : List A) → slice_get (drop n xs) i ≡ slice_get xs (n + i)
slice_get-drop zero i xs = let e : 0 + i ≡ i = omega arith in rw e refl
slice_get-drop (suc n) i [] = refl
slice_get-drop (suc n) i (x ∷ xs) = let e : suc n + i ≡ suc (n + i) = omega arith in rw e (slice_get-drop n i xs)

module _ (old : Offered) (i : ℕ) (within : i ≤ length (left_of old)) (most : old.taken ≤ length (good_lent (item_type old.payload) old.source)) where
  there : old.taken + i ≤ length (good_lent (item_type old.payload) old.source)
  there = omega (arith, within, most, length-drop old.taken (good_lent (item_type old.payload) old.source))

  -- the items of a buffer are those of before, and behind them the first so many that are left
  abbrev AreMoved : {T : Type 0} → (T → Item) → List T → ℕ → List T → Type 0
  AreMoved item before n now = map item now ≡ map item before ++ take n (left_of old)

  -- the next item, moved behind those that were
  pub moved_next : {T : Type 0} (item : T → Item) (before now new : List T) (x : T) → item_behind (item_type old.payload) old.source (old.taken + i) ≡ Some (item x)
      → AreMoved item before i now → new ≡ now ++ x ∷ [] → AreMoved item before (i + 1) new
  moved_next item before now new x e m p =
      let g = good_lent (item_type old.payload) old.source in
      let get : slice_get (left_of old) i ≡ Some (item x) = slice_get-drop old.taken i g ∙ sym (behind_lent (item_type old.payload) old.source (old.taken + i) there) ∙ e in
      ap (map item) p ∙ map-append item now (x ∷ []) ∙ ap (λ l. l ++ item x ∷ []) m
      ∙ append_assoc (map item before) (take i (left_of old)) (item x ∷ []) ∙ ap (λ l. map item before ++ l) (take_next (left_of old) i (item x) get)

  -- where the next is bad, all that are left were moved
  pub stopped : (wanted : ℕ) → item_behind (item_type old.payload) old.source (old.taken + i) ≡ None → i < min wanted (items_lent old.source - old.taken) → (asks_bad wanted old ≡ true) × (take i (left_of old) ≡ take wanted (left_of old))
  stopped wanted e l =
      let ss = item_type old.payload in
      let g = good_lent ss old.source in
      let all = all_good ss old.source (old.taken + i) there e in
      let size = length-drop old.taken g in
      let cut : length g < items_lent old.source = omega (arith, all, l) in
      let few : length (left_of old) < wanted = omega (arith, all, size, l) in
      let is_cut' : is_cut ss old.source ≡ true = grind (arith, nat_tests) in
      let is_few : nat_lt (length (left_of old)) wanted ≡ true = grind (arith, nat_tests) in
      let count : i ≡ min wanted (length (left_of old)) = omega (arith, all, size, few) in
      (rw (is_cut', is_few) refl, ap (λ k. take k (left_of old)) count ∙ take_min wanted (left_of old))

  -- where none was, as many as were wanted
  pub ended : (wanted : ℕ) → i ≡ min wanted (items_lent old.source - old.taken) → (asks_bad wanted old ≡ false) × (take i (left_of old) ≡ take wanted (left_of old))
  ended wanted e =
      let ss = item_type old.payload in
      let g = good_lent ss old.source in
      let size = length-drop old.taken g in
      let count : i ≡ min wanted (length (left_of old)) = omega (arith, e, within, size, most, good_most ss old.source) in
      (unasked (is_cut ss old.source) refl (nat_lt (length (left_of old)) wanted) refl, ap (λ k. take k (left_of old)) count ∙ take_min wanted (left_of old))
    where
      unasked : (cut : Bool) → is_cut (item_type old.payload) old.source ≡ cut → (few : Bool) → nat_lt (length (left_of old)) wanted ≡ few → (cut && few) ≡ false
      unasked false p few q = refl
      unasked true p false q = refl
      unasked true p true q =
          let cut : length (good_lent (item_type old.payload) old.source) < items_lent old.source = grind (arith, nat_tests) in
          let few : length (left_of old) < wanted = grind (arith, nat_tests) in
          absurd (omega (arith, cut, few, e, within, most, length-drop old.taken (good_lent (item_type old.payload) old.source)))

-- where fewer were taken than are wanted and left, a bad one was asked for, and else none
pub asked : (old : Offered) (wanted taken : ℕ) → taken ≡ old.taken + min wanted (length (left_of old)) → old.taken ≤ length (good_lent (item_type old.payload) old.source) → taken - old.taken < min wanted (items_lent old.source - old.taken) → asks_bad wanted old ≡ true
asked old wanted taken e most l =
    let g = good_lent (item_type old.payload) old.source in
    let size = length-drop old.taken g in
    let few : length (left_of old) < wanted = omega (arith, e, l, size) in
    let cut : length g < items_lent old.source = omega (arith, e, l, size, most) in
    let is_cut' : is_cut (item_type old.payload) old.source ≡ true = grind (arith, nat_tests) in
    let is_few : nat_lt (length (left_of old)) wanted ≡ true = grind (arith, nat_tests) in
    rw (is_cut', is_few) refl
