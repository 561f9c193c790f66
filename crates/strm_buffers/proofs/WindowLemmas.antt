-- Items put into a window.
use Rattle.std.proofs.Common.{◌≡◌, ℕ, zero, suc, ◌+◌, ◌-◌, ◌*◌, ◌<◌, ◌≤◌, inl, inr, Bool, pos, List, [], ◌∷◌, ◌++◌, length, take, drop, Option, Some, None, refl, sym, ap, subst, ◌∙◌, arith, length-append, get_or}
use Rattle.std.proofs.lemmas.List.{drop-drop, drop-take, drop_all, length-take-le, length-replicate}
use Rattle.std.specs.Prelude.{replicate}
use Rattle.std.proofs.Math.Nat.{mul-le-mul_left}
use Rattle.strm_codes.specs.Layout.{item_type, byte_type}
use Rattle.strm_codes.specs.ItemTypes.{item_size, ItemType}
use Rattle.strm_codes.specs.Begins.{FitsItem}
use Rattle.strm_codes.specs.declared.payloads.Payload.{Payload}
use Rattle.strm_memory.proofs.AppendLemmas.{byte_item}
use Rattle.strm_memory.specs.Bytes.{put_at, bytes_at}
use Rattle.strm_memory.specs.Items.{stored_at, AreItems, byte_items}
use Rattle.strm_memory.proofs.RegionLemmas.{length-stored_at, drop-stored_at}
use Rattle.strm_buffers.specs.Keeping.{with_space}
use Rattle.strm_buffers.specs.Listing.{Item, LieIn, items_in}
use Rattle.strm_memory.specs.Linear.{Base}
use Rattle.strm_buffers.specs.Windows.{lying, Lent, Between, HasRoom, with_items, last_bytes, place_kept, window_kept, KeepsRest, IsRoom, IsWindow}
use Rattle.strm_buffers.proofs.ListingLemmas.{length-items_in, lie_put, stored_past, pushed}
use Rattle.strm_buffers.proofs.PutLemmas.{put_at-nil, put_at-kept, last_nil, stored_at-bytes, length-put_at, length-last}

-- a window that is kept so, and is this
pub record Kept (payload : Payload) (bytes kept : List ℕ) (space address : ℕ) (room : Option ℕ) (marked : ℕ) (prepared : Bool) (w : Lent) : Type 0 where
  pub is_window : IsWindow payload bytes kept space address room marked prepared
  pub is : window_kept payload bytes kept address room marked prepared ≡ w

-- ## Where its memory lies

-- the window but for where its memory lies
abbrev pub lying_nowhere : Lent → Lent
lying_nowhere w = lying None w

-- a window that is this but for where its memory lies, which is there
pub lies_there : (w v : Lent) (base : Option Base) → w ≡ lying_nowhere v → base ≡ v.base → lying base w ≡ v
lies_there w v base e b = ap (lying base) e ∙ ap (λ o. lying o v) b

-- ## Its items

-- an item of payload u8 is a byte
pub record IsByte (x : Item) : Type 0 where
  pub byte : ℕ
  pub is : x ≡ pos byte ∷ []
  pub below : byte < 256

pub byte_is : (x : Item) → FitsItem byte_type x → IsByte x
byte_is x f = let b = byte_item x f in record { byte = b.0; is = b.1; below = b.2 }

-- items of payload u8 are bytes
record AreBytes (xs : List Item) : Type 0 where
  bytes : List ℕ
  is : xs ≡ byte_items bytes
  below : (k d : ℕ) → k < length bytes → get_or bytes k d < 256
  size : length bytes ≡ length xs

bytes_are : (xs : List Item) → AreItems byte_type xs → AreBytes xs
bytes_are [] f = record { bytes = []; is = refl; below = λ k d h. absurd (omega (arith, h)); size = refl }
bytes_are (x ∷ xs) f =
    let first = byte_is x f.0 in
    let rest = bytes_are xs f.1 in
    record {
      bytes = first.byte ∷ rest.bytes;
      is = ap (λ y. y ∷ xs) first.is ∙ ap (λ ys. (pos first.byte ∷ []) ∷ ys) rest.is;
      below = below first.byte rest.bytes first.below rest.below;
      size = ap suc rest.size;
    }
  where
    below : (b : ℕ) (bs : List ℕ) → b < 256 → ((k d : ℕ) → k < length bs → get_or bs k d < 256) → (k d : ℕ) → k < length (b ∷ bs) → get_or (b ∷ bs) k d < 256
    below b bs h f zero d l = h
    below b bs h f (suc k) d l = f k d (omega (arith, l))

-- items of payload u8 stored
abbrev stored_bytes : List ℕ → ℕ → List Item → List ℕ
stored_bytes m at xs = stored_at byte_type m at xs

-- the memory as it will be given back, with more items
placed_bytes : (m kept : List ℕ) (at left : ℕ) (xs : List Item) → left ≤ length kept → length xs ≤ left → AreItems byte_type xs → at + left ≤ length m
    → put_at (stored_bytes m at xs) (at + length xs) (last_bytes (left - length xs) kept) ≡ stored_bytes (put_at m at (last_bytes left kept)) at xs
placed_bytes m kept at left xs k h f i =
    let b = bytes_are xs f in
    let n = b.size in
    let e : (l : List ℕ) → at + length xs ≤ length l → stored_at byte_type l at xs ≡ put_at l at b.bytes = λ l j. ap (stored_at byte_type l at) b.is ∙ stored_at-bytes l b.bytes at b.below (omega (arith, n, j)) in
    let size = length-last kept left k in
    let all = length-put_at m (last_bytes left kept) at (omega (arith, size, i)) in
    ap (λ l. put_at l (at + length xs) (last_bytes (left - length xs) kept)) (e m (omega (arith, h, i)))
    ∙ ap (λ j. put_at (put_at m at b.bytes) (at + j) (last_bytes (left - j) kept)) (sym n)
    ∙ put_at-kept m kept b.bytes at left (inr k) (omega (arith, n, h)) i
    ∙ sym (e (put_at m at (last_bytes left kept)) (omega (arith, all, h, i)))

-- items stored, and then what is kept put back behind them, is all put back and then the items stored
abbrev IsPlaced : Payload → (m kept : List ℕ) (at left : ℕ) → List Item → Type 0
IsPlaced payload m kept at left xs =
    let ss = item_type payload in let w = item_size ss in
    put_at (stored_at ss m at xs) (at + w * length xs) (last_bytes (w * (left - length xs)) kept) ≡ stored_at ss (put_at m at (last_bytes (w * left) kept)) at xs

pub placed : (payload : Payload) (m kept : List ℕ) (at left : ℕ) (xs : List Item) → KeepsRest payload kept left → length xs ≤ left → AreItems (item_type payload) xs → at + item_size (item_type payload) * left ≤ length m → IsPlaced payload m kept at left xs
placed payload m kept at left xs (inl e) h f i =
    let ss = item_type payload in let w = item_size ss in
    let none : (n : ℕ) → last_bytes n kept ≡ [] = λ n. ap (last_bytes n) e ∙ last_nil n in
    let behind = at + w * length xs in
    ap (put_at (stored_at ss m at xs) behind) (none (w * (left - length xs))) ∙ put_at-nil (stored_at ss m at xs) behind
    ∙ sym (ap (λ l. stored_at ss l at xs) (ap (put_at m at) (none (w * left)) ∙ put_at-nil m at))
placed payload m kept at left xs (inr (u, k)) h f i =
    subst (λ (p : Payload). AreItems (item_type p) xs → at + item_size (item_type p) * left ≤ length m → IsPlaced p m kept at left xs) (sym u)
    (λ g j. let a : 1 * (left - length xs) ≡ left - length xs = omega arith in let b : 1 * left ≡ left = omega arith in let c : 1 * length xs ≡ length xs = omega arith in
    ap (λ n. put_at (stored_at byte_type m at xs) (at + 1 * length xs) (last_bytes n kept)) a
    ∙ ap (λ n. put_at (stored_at byte_type m at xs) (at + n) (last_bytes (left - length xs) kept)) c
    ∙ placed_bytes m kept at left xs k h g (omega (arith, b, j)) ∙ ap (λ n. stored_at byte_type (put_at m at (last_bytes n kept)) at xs) (sym b)) f i

-- the bytes behind more items
behind_more : (ss : ItemType) (m : List ℕ) (at rest : ℕ) (xs : List Item) → let k = item_size ss * length xs in
    at + k ≤ length m → take rest (drop (at + k) (stored_at ss m at xs)) ≡ drop k (take (k + rest) (drop at m))
behind_more ss m at rest xs h =
    let k = item_size ss * length xs in
    ap (take rest) (drop-stored_at ss m at xs h ∙ sym (drop-drop k at m)) ∙ sym (drop-take k rest (drop at m))

-- fewer bytes than those that are left are kept too
pub rest_less : (payload : Payload) (kept : List ℕ) (left less : ℕ) → less ≤ left → KeepsRest payload kept left → KeepsRest payload kept less
rest_less payload kept left less h (inl e) = inl e
rest_less payload kept left less h (inr (u, k)) = inr (u, omega (arith, h, k))

-- between host ends no room is stated
pub none_between : (ss : ItemType) (bytes kept : List ℕ) (address marked : ℕ) (room : Option ℕ) → place_kept ss bytes kept address room marked ≡ Between → room ≡ None
none_between ss bytes kept address marked None e = refl
none_between ss bytes kept address marked (Some r) e = cc

module _ (payload : Payload) (bytes kept : List ℕ) (space address marked : ℕ) (prepared : Bool) where
  -- where the next item goes
  abbrev next_place : ℕ
  next_place = address + item_size (item_type payload) * marked

  -- items behind the marked ones are inside the memory
  pub put_inside : (r at k : ℕ) → IsWindow payload bytes kept space address (Some r) marked prepared → marked + k ≤ r → at ≡ next_place → at + item_size (item_type payload) * k ≤ length bytes
  put_inside r at k w h e =
      let n = item_size (item_type payload) in
      let sizes : n * (marked + k) ≡ n * marked + n * k = grind arith in
      omega (arith, e, sizes, mul-le-mul_left n h, w.inside.1)

  -- these items more are marked, of a window of this room
  abbrev MarksMore : Option ℕ → List ℕ → List Item → Type 0
  MarksMore room new xs = Kept payload new kept space address room (marked + length xs) prepared (with_items (window_kept payload bytes kept address room marked prepared) xs)

  pub put_memory : (r at : ℕ) (new : List ℕ) (xs : List Item) → IsWindow payload bytes kept space address (Some r) marked prepared → AreItems (item_type payload) xs → marked + length xs ≤ r → at ≡ next_place
      → new ≡ stored_at (item_type payload) bytes at xs → MarksMore (Some r) new xs
  put_memory r given new xs win f h e s =
      let ss = item_type payload in
      let w = item_size ss in
      let k = length xs in
      let at = address + w * marked in
      let left = r - marked in
      let inside : at + w * k ≤ length bytes = put_inside r at k win h refl in
      let put = lie_put ss bytes address marked xs win.lie f inside in
      let is : new ≡ stored_at ss bytes at xs = s ∙ ap (λ j. stored_at ss bytes j xs) e in
      let size : length new ≡ length bytes = ap length is ∙ length-stored_at ss bytes at xs inside in
      let lie : LieIn ss new address (marked + k) = subst (λ b. LieIn ss b address (marked + k)) (sym is) put.lie in
      let items : items_in ss new address (marked + k) ≡ items_in ss bytes address marked ++ xs = ap (λ b. items_in ss b address (marked + k)) is ∙ put.is in
      let n = length-items_in ss bytes address marked win.lie in
      let more : address + w * (marked + k) ≡ at + w * k = grind arith in
      let fewer : r - (marked + k) ≡ left - k = omega (arith, h) in
      let some : left ≡ k + (left - k) = omega (arith, h) in
      let sizes : w * left ≡ w * k + w * (left - k) = ap (λ j. w * j) some ∙ grind arith in
      let all : at + w * left ≤ length bytes = (let r' : r ≡ marked + left = omega (arith, h) in let q : w * r ≡ w * marked + w * left = ap (λ j. w * j) r' ∙ grind arith in omega (arith, q, win.inside.1)) in
      let place : put_at new (address + w * (marked + k)) (last_bytes (w * (r - (marked + k))) kept) ≡ stored_at ss (put_at bytes at (last_bytes (w * left) kept)) (address + w * length (items_in ss bytes address marked)) xs =
      ap (λ j. put_at new j (last_bytes (w * (r - (marked + k))) kept)) more ∙ ap (λ j. put_at new (at + w * k) (last_bytes (w * j) kept)) fewer
      ∙ ap (λ l. put_at l (at + w * k) (last_bytes (w * (left - k)) kept)) is
      ∙ placed payload bytes kept at left xs win.inside.3 (omega (arith, h)) f all
      ∙ ap (λ j. stored_at ss (put_at bytes at (last_bytes (w * left) kept)) (address + w * j) xs) (sym n) in
      let behind : bytes_at new (address + w * (marked + k)) (w * (r - (marked + k))) ≡ drop (w * k) (bytes_at bytes at (w * left)) =
      ap (λ j. bytes_at new j (w * (r - (marked + k)))) more ∙ ap (λ j. bytes_at new (at + w * k) (w * j)) fewer
      ∙ ap (λ l. bytes_at l (at + w * k) (w * (left - k))) is
      ∙ behind_more ss bytes at (w * (left - k)) xs inside
      ∙ ap (λ j. drop (w * k) (take j (drop at bytes))) (sym sizes) in
      record {
        is_window = record { lie = lie; inside = (h, omega (arith, size, win.inside.1), win.inside.2, rest_less payload kept left (r - (marked + k)) (omega arith) win.inside.3); enough = win.enough };
        is = cc (items, place, behind);
      }

  -- the bytes cut off at a place, with so many behind it that were 0, and these items there
  abbrev put_past : ℕ → ℕ → List Item → List ℕ
  put_past at zeros xs = stored_past (item_type payload) bytes at zeros xs

  pub put_between : (at zeros : ℕ) (xs : List Item) → IsWindow payload bytes kept space address None marked prepared → AreItems (item_type payload) xs → marked + length xs < 4294967295 → at ≡ next_place → zeros ≡ item_size (item_type payload) * length xs
      → MarksMore None (put_past at zeros xs) xs
  put_between at zeros xs w f h e z =
      let new = put_past at zeros xs in
      let ss = item_type payload in
      let k = length xs in
      let p = pushed ss bytes new address marked at zeros xs w.lie f e (omega (arith, e, w.lie.within)) z refl in
      let none : drop (item_size ss * (marked + k)) new ≡ [] = drop_all (item_size ss * (marked + k)) new (omega (arith, p.all, w.inside.0)) in
      let items = p.lie.is in
      record {
        is_window = record { lie = p.lie.lie; inside = (w.inside.0, omega (arith, p.all, w.inside.0, h), w.inside.2, w.inside.3); enough = w.enough };
        is = cc (items, none);
      }

  -- room for more, of the window that is kept so
  room_memory : (r k : ℕ) (v : Lent) → IsWindow payload bytes kept space address (Some r) marked prepared → window_kept payload bytes kept address (Some r) marked prepared ≡ v → HasRoom v.place (length v.marked) k → marked + k ≤ r
  room_memory r k v w e h = rw (← e, length-items_in (item_type payload) bytes address marked w.lie) at h

  room_between : (k : ℕ) (v : Lent) → IsWindow payload bytes kept space address None marked prepared → window_kept payload bytes kept address None marked prepared ≡ v → HasRoom v.place (length v.marked) k → marked + k < 4294967295
  room_between k v w e h = rw (← e, length-items_in (item_type payload) bytes address marked w.lie) at h

  -- room for what is marked
  pub room_kept : (room : Option ℕ) → IsRoom payload bytes kept address room marked prepared → HasRoom (place_kept (item_type payload) bytes kept address room marked) marked 0
  room_kept None i = omega (arith, i.1)
  room_kept (Some r) i = omega (arith, i.0)

  -- more items of a window, whichever its room
  module _ (room : Option ℕ) (v : Lent) (w : IsWindow payload bytes kept space address room marked prepared) (e : window_kept payload bytes kept address room marked prepared ≡ v) (xs : List Item) (h : HasRoom v.place (length v.marked) (length xs)) (at : ℕ) (n : at ≡ next_place) where
    abbrev AreMarked : List ℕ → Type 0
    AreMarked new = Kept payload new kept space address room (marked + length xs) prepared (with_items v xs)

    put_some : (r : ℕ) (new : List ℕ) → room ≡ Some r → AreItems (item_type v.payload) xs
        → new ≡ stored_at (item_type payload) bytes at xs → AreMarked new
    put_some r new o f s =
        let w' = subst (λ (q : Option ℕ). IsWindow payload bytes kept space address q marked prepared) o w in
        let e' = subst (λ (q : Option ℕ). window_kept payload bytes kept address q marked prepared ≡ v) o e in
        let f' = subst (λ (u : Lent). AreItems (item_type u.payload) xs) (sym e) f in
        let k = put_memory r at new xs w' f' (room_memory r (length xs) v w' e' h) n s in
        subst (λ (q : Option ℕ). Kept payload new kept space address q (marked + length xs) prepared (with_items v xs)) (sym o)
        (record { is_window = k.is_window; is = k.is ∙ ap (λ (u : Lent). with_items u xs) e' })

    put_none : (zeros : ℕ) (new : List ℕ) → room ≡ None → AreItems (item_type v.payload) xs → zeros ≡ item_size (item_type payload) * length xs
        → new ≡ put_past at zeros xs → AreMarked new
    put_none zeros new o f z s =
        let w' = subst (λ (q : Option ℕ). IsWindow payload bytes kept space address q marked prepared) o w in
        let e' = subst (λ (q : Option ℕ). window_kept payload bytes kept address q marked prepared ≡ v) o e in
        let f' = subst (λ (u : Lent). AreItems (item_type u.payload) xs) (sym e) f in
        let k = subst (λ b. MarksMore None b xs) (sym s) (put_between at zeros xs w' f' (room_between (length xs) v w' e' h) n z) in
        subst (λ (q : Option ℕ). Kept payload new kept space address q (marked + length xs) prepared (with_items v xs)) (sym o)
        (record { is_window = k.is_window; is = k.is ∙ ap (λ (u : Lent). with_items u xs) e' })

    -- whichever its room, with space for them
    pub put_any : (q : Option ℕ) (zeros : ℕ) (new : List ℕ) → room ≡ q → AreItems (item_type v.payload) xs → zeros ≡ item_size (item_type payload) * length xs
        → new ≡ stored_at (item_type payload) (with_space q bytes at zeros) at xs → AreMarked new
    put_any None made new o f z s = put_none made new o f z s
    put_any (Some r) made new o f z s = put_some r new o f s

  -- so many more, of a window of any room
  module _ (room : Option ℕ) (v : Lent) (w : IsWindow payload bytes kept space address room marked prepared) (e : window_kept payload bytes kept address room marked prepared ≡ v) (k : ℕ) (h : HasRoom v.place (length v.marked) k) where
    window_of : (q : Option ℕ) → room ≡ q → IsWindow payload bytes kept space address q marked prepared
    window_of q o = subst (λ (q : Option ℕ). IsWindow payload bytes kept space address q marked prepared) o w

    kept_of : (q : Option ℕ) → room ≡ q → window_kept payload bytes kept address q marked prepared ≡ v
    kept_of q o = subst (λ (q : Option ℕ). window_kept payload bytes kept address q marked prepared ≡ v) o e

    -- where they go, and that the marked ones can be counted
    some_inside : (at : ℕ) → at ≡ next_place → (r : ℕ) → room ≡ Some r → (marked + k < 4294967296) × (at + item_size (item_type payload) * k ≤ length bytes)
    some_inside at n r o =
        let r' = room_memory r k v (window_of (Some r) o) (kept_of (Some r) o) h in
        (omega (arith, r', (window_of (Some r) o).inside.2), put_inside r at k (window_of (Some r) o) r' n)

    none_counted : room ≡ None → marked + k < 4294967295
    none_counted o = room_between k v (window_of None o) (kept_of None o) h

    -- and the same with space for them
    pub any_inside : (at zeros : ℕ) (q : Option ℕ) → at ≡ next_place → zeros ≡ item_size (item_type payload) * k → room ≡ q → (marked + k < 4294967296) × (at + zeros ≤ length (with_space q bytes at zeros))
    any_inside at made None n z o =
        let before = length-take-le at bytes (omega (arith, n, w.lie.within)) in
        (omega (arith, none_counted o), omega (arith, before, length-append (take at bytes) (replicate made 0), length-replicate {A = ℕ} made 0))
    any_inside at made (Some r) n z o = let inside = some_inside at n r o in (inside.0, omega (arith, z, inside.1))

  -- the items with which a source begins, all at once
  module _ (room : Option ℕ) (w : IsWindow payload bytes kept space address room marked prepared) (source : List ℕ) (count at : ℕ) (n : at ≡ next_place) where
    abbrev MarksAll : List ℕ → Lent → Type 0
    MarksAll new v = Kept payload new kept space address room (marked + count) prepared (with_items v (items_in (item_type v.payload) source 0 count))

    -- the items with which the source begins, and that a window is of their payload and has room for them
    abbrev first : List Item
    first = items_in (item_type payload) source 0 count

    abbrev MayMark : Lent → Type 0
    MayMark v = LieIn (item_type v.payload) source 0 count × HasRoom v.place (length v.marked) count

    counted : (v : Lent) → LieIn (item_type v.payload) source 0 count → HasRoom v.place (length v.marked) count → HasRoom v.place (length v.marked) (length (items_in (item_type v.payload) source 0 count))
    counted v l h = subst (HasRoom v.place (length v.marked)) (sym (length-items_in (item_type v.payload) source 0 count l)) h

    all_some : (v : Lent) → window_kept payload bytes kept address room marked prepared ≡ v → MayMark v → (r : ℕ) (new : List ℕ) → room ≡ Some r → new ≡ stored_at (item_type payload) bytes at first → MarksAll new v
    all_some v e m r new o s =
        let u = window_kept payload bytes kept address room marked prepared in
        let m' = subst MayMark (sym e) m in
        let l' = m'.0 in
        let h' = m'.1 in
        let k = put_some room u w refl (items_in (item_type payload) source 0 count) (counted u l' h') at n r new o l'.fit s in
        subst (MarksAll new) e (subst (λ j. Kept payload new kept space address room (marked + j) prepared (with_items u (items_in (item_type payload) source 0 count))) (length-items_in (item_type payload) source 0 count l') k)

    all_none : (v : Lent) → window_kept payload bytes kept address room marked prepared ≡ v → MayMark v → (new : List ℕ) → room ≡ None → new ≡ put_past at (item_size (item_type payload) * count) first → MarksAll new v
    all_none v e m new o s =
        let u = window_kept payload bytes kept address room marked prepared in
        let m' = subst MayMark (sym e) m in
        let l' = m'.0 in
        let h' = m'.1 in
        let size = length-items_in (item_type payload) source 0 count l' in
        let k = put_none room u w refl (items_in (item_type payload) source 0 count) (counted u l' h') at n (item_size (item_type payload) * count) new o l'.fit (ap (λ j. item_size (item_type payload) * j) (sym size)) s in
        subst (MarksAll new) e (subst (λ j. Kept payload new kept space address room (marked + j) prepared (with_items u (items_in (item_type payload) source 0 count))) size k)

    pub all_any : (v : Lent) → window_kept payload bytes kept address room marked prepared ≡ v → MayMark v → (q : Option ℕ) (new : List ℕ) → room ≡ q → new ≡ stored_at (item_type payload) (with_space q bytes at (item_size (item_type payload) * count)) at first → MarksAll new v
    all_any v e m None new o s = all_none v e m new o s
    all_any v e m (Some r) new o s = all_some v e m r new o s
