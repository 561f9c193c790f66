-- A new window, its bytes of payload u8 marked as they stand, made and given back.
use Rattle.std.proofs.Common.{◌≡◌, ◌≢◌, ℕ, ◌+◌, ◌-◌, ◌*◌, ◌<◌, ◌≤◌, ◌⊎◌, inl, inr, Bool, true, false, List, [], ◌++◌, length, take, drop, replicate, Option, Some, None, refl, sym, ap, subst, ◌∙◌, arith, get_or, length-append, length-drop}
use Rattle.std.proofs.lemmas.List.{drop-drop, drop-take, take-take, drop_all, take_at, drop_at, length-take-le, map-append, length-replicate}
use Rattle.std.proofs.lemmas.Grind.{get_or_default_zero}
use Rattle.std.proofs.Math.Seq.{take-add}
use Rattle.strm_codes.specs.Layout.{item_type, byte_type}
use Rattle.strm_codes.specs.ItemTypes.{item_size}
use Rattle.strm_codes.specs.declared.scalars.Scalar.TheVariants.{U8}
use Rattle.strm_codes.specs.declared.payloads.Payload.{Payload}
use Rattle.strm_codes.specs.declared.payloads.Payload.TheVariants.{One}
use Rattle.strm_memory.specs.Bytes.{put_at, bytes_at, IsBytes}
use Rattle.strm_memory.specs.Items.{items_at, stored_at, AreItems, byte_items}
use Rattle.strm_memory.proofs.ByteLemmas.{IsBytes-drop, IsBytes-take}
use Rattle.strm_memory.proofs.RegionLemmas.{AreItems-items}
use Rattle.strm_memory.proofs.AppendLemmas.{items-bytes}
use Rattle.strm_buffers.specs.Listing.{listed, AreItemsKept, items_in}
use Rattle.strm_buffers.specs.Windows.{Lent, Between, CanCount, lent_memory, lent_between, with_marked, with_direct, last_bytes, unmarked_kept, window_kept, KeepsRest, IsWindow, standing}
use Rattle.strm_memory.specs.Linear.{untold}
use Rattle.strm_buffers.proofs.ListingLemmas.{Lie, lie_none, lie_made, lie_same, length-items_in}
use Rattle.strm_buffers.proofs.PutLemmas.{put_at-nil, put_at-same, put_at-kept, put_at-over, last_nil, length-last, stored_at-bytes, length-put_at}
use Rattle.strm_buffers.proofs.WindowLemmas.{Kept, none_between, rest_less}

module _ (payload : Payload) (memory bytes kept : List ℕ) (space address room : ℕ) where
  -- a new window over a memory
  pub over_memory : bytes ≡ memory → kept ≡ [] → address + item_size (item_type payload) * room ≤ length memory → room < 4294967296 → Kept payload bytes kept space address (Some room) 0 false (lent_memory payload (untold memory) address room)
  over_memory e k h f =
      let ss = item_type payload in
      let w = item_size ss in
      let n : length bytes ≡ length memory = ap length e in
      let none = lie_none ss bytes address (omega (arith, n, h)) in
      let at : address + w * 0 ≡ address = omega arith in
      let last : last_bytes (w * (room - 0)) kept ≡ [] = ap (last_bytes (w * (room - 0))) k ∙ last_nil (w * (room - 0)) in
      let place : put_at bytes (address + w * 0) (last_bytes (w * (room - 0)) kept) ≡ memory = ap (put_at bytes (address + w * 0)) last ∙ put_at-nil bytes (address + w * 0) ∙ e in
      let whole : room - 0 ≡ room = omega arith in
      let behind : bytes_at bytes (address + w * 0) (w * (room - 0)) ≡ bytes_at memory address (w * room) = ap (λ j. bytes_at bytes j (w * (room - 0))) at ∙ ap (λ j. bytes_at bytes address (w * j)) whole ∙ ap (λ l. bytes_at l address (w * room)) e in
      let items = none.is in
      record {
        is_window = record { lie = none.lie; inside = (omega arith, omega (arith, n, h), f, inl k); enough = λ p. cc };
        is = cc (place, behind, items);
      }

-- a new window between host ends
pub over_nothing : (payload : Payload) (bytes kept : List ℕ) (space : ℕ) → bytes ≡ [] → kept ≡ [] → Kept payload bytes kept space 0 None 0 true (lent_between payload)
over_nothing payload bytes kept space e k =
    let ss = item_type payload in
    let n : length bytes ≡ 0 = ap length e in
    let none = lie_none ss bytes 0 (omega arith) in
    let behind : drop (item_size ss * 0) bytes ≡ [] = drop_all (item_size ss * 0) bytes (omega (arith, n)) in
    let items = none.is in
    record {
      is_window = record { lie = none.lie; inside = (refl, omega (arith, n), refl, k); enough = λ p u. omega arith };
      is = cc (behind, items);
    }

-- bytes behind items of payload u8 are items as they stand
bytes_below : (bytes : List ℕ) → IsBytes bytes → (k d : ℕ) → k < length bytes → get_or bytes k d < 256
bytes_below bytes f k d h = rw (get_or_default_zero bytes k d h) (f k)

pub lie_bytes : (bytes : List ℕ) (address marked count : ℕ) → IsBytes bytes → address + marked + count ≤ length bytes → Lie byte_type bytes address (marked + count) (items_in byte_type bytes address marked ++ byte_items (take count (drop (address + marked) bytes)))
lie_bytes bytes address marked count f h =
    let there : List ℕ = drop address bytes in
    let n = length-drop address bytes in
    let one : 1 * (marked + count) ≡ marked + count = omega arith in
    let all : items_at byte_type bytes address (marked + count) ≡ Some (byte_items (take (marked + count) there)) = items-bytes there (marked + count) (omega (arith, n, h)) in
    let first : items_in byte_type bytes address marked ≡ byte_items (take marked there) = ap listed (items-bytes there marked (omega (arith, n, h))) in
    let split : byte_items (take (marked + count) there) ≡ items_in byte_type bytes address marked ++ byte_items (take count (drop (address + marked) bytes)) =
    ap byte_items (take-add marked count there) ∙ map-append _ (take marked there) (take count (drop marked there))
    ∙ ap (λ l. byte_items (take marked there) ++ byte_items (take count l)) (drop-drop marked address bytes) ∙ ap (λ l. l ++ byte_items (take count (drop (address + marked) bytes))) (sym first) in
    lie_made byte_type bytes address (marked + count) _ (omega (arith, one, h)) (all ∙ ap Some split)
    (subst (AreItems byte_type) split (AreItems-items byte_type there (marked + count) _ (IsBytes-drop bytes address f) all))

-- the memory as it will be given back, with so many of its bytes marked as they stand
marked_memory : (m kept : List ℕ) (at left count : ℕ) → IsBytes m → (kept ≡ []) ⊎ (left ≤ length kept) → count ≤ left → at + left ≤ length m
    → put_at m (at + count) (last_bytes (left - count) kept) ≡ stored_at byte_type (put_at m at (last_bytes left kept)) at (byte_items (take count (drop at m)))
marked_memory m kept at left count f k h i =
    let t : List ℕ = bytes_at m at count in
    let n : length t ≡ count = length-take-le count (drop at m) (omega (arith, length-drop at m, h, i)) in
    let same : put_at m at t ≡ m = put_at-same m at count (omega (arith, h, i)) in
    let small = bytes_below t (IsBytes-take (drop at m) count (IsBytes-drop m at f)) in
    let all : at + length t ≤ length (put_at m at (last_bytes left kept)) = omega (arith, n, h, i, kept_size m kept at left k i) in
    ap (λ l. put_at l (at + count) (last_bytes (left - count) kept)) (sym same)
    ∙ ap (λ j. put_at (put_at m at t) (at + j) (last_bytes (left - j) kept)) (sym n)
    ∙ put_at-kept m kept t at left k (omega (arith, n, h)) i
    ∙ sym (stored_at-bytes (put_at m at (last_bytes left kept)) t at small all)
  where
    kept_size : (m kept : List ℕ) (at left : ℕ) → (kept ≡ []) ⊎ (left ≤ length kept) → at + left ≤ length m → length (put_at m at (last_bytes left kept)) ≡ length m
    kept_size m kept at left (inl e) i = ap length (ap (put_at m at) (ap (last_bytes left) e ∙ last_nil left) ∙ put_at-nil m at)
    kept_size m kept at left (inr k) i = length-put_at m (last_bytes left kept) at (omega (arith, length-last kept left k, i))

-- bytes are kept or not
kept_or_not : (payload : Payload) (kept : List ℕ) (left : ℕ) → KeepsRest payload kept left → (kept ≡ []) ⊎ (left ≤ length kept)
kept_or_not payload kept left (inl e) = inl e
kept_or_not payload kept left (inr (u, k)) = inr k

module _ (bytes kept : List ℕ) (space address marked count : ℕ) where
  -- so many bytes more are marked, of a window of this room
  abbrev MarksMore : Option ℕ → Bool → Type 0
  MarksMore room prepared = Kept (One U8) bytes kept space address room (marked + count) prepared (with_marked (window_kept (One U8) bytes kept address room marked prepared) count)

  mark_memory : (r : ℕ) (prepared : Bool) → IsWindow (One U8) bytes kept space address (Some r) marked prepared → IsBytes bytes → marked + count ≤ r → MarksMore (Some r) prepared
  mark_memory r prepared w f h =
      let left = r - marked in
      let at = address + 1 * marked in
      let here : at ≡ address + marked = omega arith in
      let past : address + 1 * (marked + count) ≡ at + count = omega arith in
      let more = lie_bytes bytes address marked count f (omega (arith, h, w.inside.1)) in
      let n : length (items_in byte_type bytes address marked) ≡ marked = length-items_in byte_type bytes address marked w.lie in
      let fewer : 1 * (r - (marked + count)) ≡ left - count = omega arith in
      let ones : 1 * left ≡ left = omega arith in
      let split : left ≡ count + (left - count) = omega (arith, h) in
      let first : take count (take (1 * left) (drop at bytes)) ≡ take count (drop at bytes) = take-take count (1 * left) (drop at bytes) (omega (arith, h)) in
      let items : items_in byte_type bytes address (marked + count) ≡ items_in byte_type bytes address marked ++ byte_items (take count (take (1 * left) (drop at bytes))) =
      more.is ∙ ap (λ j. items_in byte_type bytes address marked ++ byte_items (take count (drop j bytes))) (sym here) ∙ ap (λ l. items_in byte_type bytes address marked ++ byte_items l) (sym first) in
      let behind : bytes_at bytes (address + 1 * (marked + count)) (1 * (r - (marked + count))) ≡ drop count (take (1 * left) (drop at bytes)) =
      ap (λ j. bytes_at bytes j (1 * (r - (marked + count)))) past ∙ ap (λ j. take j (drop (at + count) bytes)) fewer
      ∙ ap (take (left - count)) (sym (drop-drop count at bytes)) ∙ sym (drop-take count (left - count) (drop at bytes))
      ∙ ap (λ j. drop count (take j (drop at bytes))) (sym split ∙ sym ones) in
      let place : put_at bytes (address + 1 * (marked + count)) (last_bytes (1 * (r - (marked + count))) kept) ≡ stored_at byte_type (put_at bytes at (last_bytes (1 * left) kept)) (address + 1 * length (items_in byte_type bytes address marked)) (byte_items (take count (take (1 * left) (drop at bytes)))) =
      ap (λ j. put_at bytes j (last_bytes (1 * (r - (marked + count))) kept)) past ∙ ap (λ j. put_at bytes (at + count) (last_bytes j kept)) fewer
      ∙ marked_memory bytes kept at left count f (kept_or_not (One U8) kept left w.inside.3) (omega (arith, h)) (omega (arith, h, w.inside.1))
      ∙ ap (λ j. stored_at byte_type (put_at bytes at (last_bytes j kept)) at (byte_items (take count (drop at bytes)))) (sym ones)
      ∙ ap (λ l. stored_at byte_type (put_at bytes at (last_bytes (1 * left) kept)) at (byte_items l)) (sym first)
      ∙ ap (λ j. stored_at byte_type (put_at bytes at (last_bytes (1 * left) kept)) (address + 1 * j) (byte_items (take count (take (1 * left) (drop at bytes))))) (sym n) in
      record {
        is_window = record { lie = more.lie; inside = (h, w.inside.1, w.inside.2, rest_less (One U8) kept left (r - (marked + count)) (omega arith) w.inside.3); enough = w.enough };
        is = cc (items, place, behind);
      }

  mark_between : (prepared : Bool) → IsWindow (One U8) bytes kept space address None marked prepared → IsBytes bytes → marked + count ≤ length bytes → MarksMore None prepared
  mark_between prepared w f h =
      let more = lie_bytes bytes address marked count f (omega (arith, h, w.inside.0)) in
      let here : address + marked ≡ 1 * marked = omega (arith, w.inside.0) in
      let past : 1 * marked + count ≡ 1 * (marked + count) = omega arith in
      let items : items_in byte_type bytes address (marked + count) ≡ items_in byte_type bytes address marked ++ byte_items (take count (drop (1 * marked) bytes)) =
      more.is ∙ ap (λ j. items_in byte_type bytes address marked ++ byte_items (take count (drop j bytes))) here in
      let behind : drop (1 * (marked + count)) bytes ≡ drop count (drop (1 * marked) bytes) = sym (drop-drop count (1 * marked) bytes ∙ ap (λ j. drop j bytes) past) in
      record {
        is_window = record { lie = more.lie; inside = (w.inside.0, omega (arith, h, w.inside.1), w.inside.2, w.inside.3); enough = w.enough };
        is = cc (items, behind);
      }

  mark_room : (room : Option ℕ) (prepared : Bool) → IsWindow (One U8) bytes kept space address room marked prepared → IsBytes bytes → count ≤ length (unmarked_kept byte_type bytes address room marked) → MarksMore room prepared
  mark_room None prepared w f h = mark_between prepared w f (omega (arith, h, length-drop (1 * marked) bytes, w.lie.within))
  mark_room (Some r) prepared w f h =
      let there : List ℕ = drop (address + 1 * marked) bytes in
      let size : length (take (1 * (r - marked)) there) ≡ 1 * (r - marked) = length-take-le (1 * (r - marked)) there (omega (arith, length-drop (address + 1 * marked) bytes, w.inside.0, w.inside.1)) in
      mark_memory r prepared w f (omega (arith, h, size, w.inside.0))

module _ (payload : Payload) (bytes kept : List ℕ) (space address marked count : ℕ) (room : Option ℕ) (prepared : Bool) (v : Lent) (w : IsWindow payload bytes kept space address room marked prepared) (e : window_kept payload bytes kept address room marked prepared ≡ v) where
  -- the same of a window, whichever its room
  pub marked_on : v.payload ≡ One U8 → IsBytes bytes → count ≤ length v.unmarked
      → Kept payload bytes kept space address room (marked + count) prepared (with_marked v count)
  marked_on u f h =
      let p : payload ≡ One U8 = ap (λ (x : Lent). x.payload) e ∙ u in
      let h' : count ≤ length (unmarked_kept (item_type payload) bytes address room marked) = rw (← e) at h in
      let k = subst (λ (q : Payload). IsWindow q bytes kept space address room marked prepared → count ≤ length (unmarked_kept (item_type q) bytes address room marked) → Kept q bytes kept space address room (marked + count) prepared (with_marked (window_kept q bytes kept address room marked prepared) count)) (sym p)
      (λ w' i. mark_room bytes kept space address marked count room prepared w' f i) w h' in
      record { is_window = k.is_window; is = k.is ∙ ap (λ (x : Lent). with_marked x count) e }

module _ (payload : Payload) (bytes kept new : List ℕ) (space address marked capacity : ℕ) (room : Option ℕ) (prepared : Bool) (v : Lent) (o : room ≡ None) (w : IsWindow payload bytes kept space address room marked prepared) (e : window_kept payload bytes kept address room marked prepared ≡ v) where
  -- bytes that were asked for between host ends
  pub direct_none : v.payload ≡ One U8 → CanCount v.place (length v.marked) capacity
      → new ≡ take marked bytes ++ replicate capacity 0 → Kept payload new kept space address room marked prepared (with_direct v capacity)
  direct_none u h is =
      let p : payload ≡ One U8 = ap (λ (x : Lent). x.payload) e ∙ u in
      let ss = item_type payload in
      let one : item_size ss ≡ 1 = ap (λ (q : Payload). item_size (item_type q)) p in
      let w' = subst (λ (q : Option ℕ). IsWindow payload bytes kept space address q marked prepared) o w in
      let e' = subst (λ (q : Option ℕ). window_kept payload bytes kept address q marked prepared ≡ v) o e in
      let n = length-items_in ss bytes address marked w'.lie in
      let few : marked + capacity < 4294967295 = rw (← e', n) at h in
      let at : item_size ss * marked ≡ marked = ap (λ j. j * marked) one ∙ omega arith in
      let front : length (take marked bytes) ≡ marked = length-take-le marked bytes (omega (arith, at, w'.lie.within)) in
      let zeros : length (replicate capacity 0) ≡ capacity = length-replicate {A = ℕ} capacity 0 in
      let size : length new ≡ marked + capacity = ap length is ∙ length-append (take marked bytes) (replicate capacity 0) ∙ omega (arith, front, zeros) in
      let zero' : drop address new ≡ new = ap (λ j. drop j new) w'.inside.0 in
      let zero'' : drop address bytes ≡ bytes = ap (λ j. drop j bytes) w'.inside.0 in
      let same : take (item_size ss * marked) (drop address new) ≡ take (item_size ss * marked) (drop address bytes) =
      ap (λ j. take j (drop address new)) at ∙ ap (take marked) (zero' ∙ is) ∙ take_at (take marked bytes) (replicate capacity 0) marked front ∙ sym (ap (λ j. take j (drop address bytes)) at ∙ ap (take marked) zero'') in
      let there = lie_same ss bytes new address address marked w'.lie same (omega (arith, size, at, w'.inside.0)) in
      let items = there.is in
      let behind : drop (item_size ss * marked) new ≡ replicate capacity 0 = ap (λ j. drop j new) at ∙ ap (drop marked) is ∙ drop_at (take marked bytes) (replicate capacity 0) marked front in
      let k : Kept payload new kept space address None marked prepared (with_direct (window_kept payload bytes kept address None marked prepared) capacity) = record {
        is_window = record { lie = there.lie; inside = (w'.inside.0, omega (arith, size, at, few), w'.inside.2, w'.inside.3); enough = w'.enough };
        is = cc (items, behind);
      } in
      subst (λ (q : Option ℕ). Kept payload new kept space address q marked prepared (with_direct v capacity)) (sym o)
      (record { is_window = k.is_window; is = k.is ∙ ap (λ (x : Lent). with_direct x capacity) e' })

-- the items of a window between host ends, without the bytes behind them
pub record Cut (payload : Payload) (new : List ℕ) (marked : ℕ) (v : Lent) : Type 0 where
  pub kept : AreItemsKept payload new 0 marked
  pub items : items_in (item_type payload) new 0 marked ≡ v.marked

module _ (payload : Payload) (bytes kept new : List ℕ) (space address marked size : ℕ) (room : Option ℕ) (prepared : Bool) where
  pub cut_items : (v : Lent) → IsWindow payload bytes kept space address room marked prepared → window_kept payload bytes kept address room marked prepared ≡ v → v.place ≡ Between → size ≡ item_size (item_type payload) → new ≡ take (size * marked) bytes → Cut payload new marked v
  cut_items v w e b s is =
      let ss = item_type payload in
      let o : room ≡ None = none_between ss bytes kept address marked room (ap (λ (x : Lent). x.place) e ∙ b) in
      let w' = subst (λ (q : Option ℕ). IsWindow payload bytes kept space address q marked prepared) o w in
      let n : length new ≡ item_size ss * marked = ap length is ∙ ap (λ j. length (take (j * marked) bytes)) s ∙ length-take-le (item_size ss * marked) bytes (omega (arith, w'.lie.within)) in
      let there : drop address bytes ≡ bytes = ap (λ j. drop j bytes) w'.inside.0 in
      let same : take (item_size ss * marked) new ≡ take (item_size ss * marked) (drop address bytes) =
      ap (take (item_size ss * marked)) (is ∙ ap (λ j. take (j * marked) bytes) s) ∙ take-take (item_size ss * marked) (item_size ss * marked) bytes (omega arith) ∙ ap (take (item_size ss * marked)) (sym there) in
      let l = lie_same ss bytes new address 0 marked w.lie same (omega (arith, n)) in
      record {
        kept = record { all = omega (arith, n); lie = l.lie; few = omega (arith, w'.inside.1) };
        items = l.is ∙ ap (λ (x : Lent). x.marked) e;
      }

-- the last bytes of the room that are kept: none, or as many as are left
pub last_kept : (payload : Payload) (kept : List ℕ) (left : ℕ) → KeepsRest payload kept left → (last_bytes (item_size (item_type payload) * left) kept ≡ []) ⊎ (length (last_bytes (item_size (item_type payload) * left) kept) ≡ item_size (item_type payload) * left)
last_kept payload kept left (inl e) = inl (ap (last_bytes (item_size (item_type payload) * left)) e ∙ last_nil (item_size (item_type payload) * left))
last_kept payload kept left (inr (u, k)) =
    let one : item_size (item_type payload) ≡ 1 = ap (λ (q : Payload). item_size (item_type q)) u in
    let size : item_size (item_type payload) * left ≡ left = ap (λ j. j * left) one ∙ omega arith in
    inr (length-last kept (item_size (item_type payload) * left) (omega (arith, size, k)))

-- bytes put over what was put in their place, and back
put_back_same : (m s : List ℕ) (at n : ℕ) → (s ≡ []) ⊎ (length s ≡ n) → at + n ≤ length m → put_at (put_at m at s) at (bytes_at m at n) ≡ m
put_back_same m s at n (inl e) h = ap (λ l. put_at l at (bytes_at m at n)) (ap (put_at m at) e ∙ put_at-nil m at) ∙ put_at-same m at n h
put_back_same m s at n (inr e) h =
    let size : length (bytes_at m at n) ≡ n = length-take-le n (drop at m) (omega (arith, length-drop at m, h)) in
    put_at-over m s (bytes_at m at n) at (omega (arith, e, h)) (size ∙ sym e) ∙ put_at-same m at n h

module _ (payload : Payload) (bytes kept : List ℕ) (space address marked : ℕ) where
  -- the memory as it stands is this one, of a window over one
  abbrev Stands : Lent → Type 0
  Stands v = v.place ≢ Between → bytes ≡ standing (item_type v.payload) v.place (length v.marked) v.unmarked

  -- the memory as it stands is what is kept
  pub standing_kept : (room : Option ℕ) (prepared : Bool) (v : Lent) → IsWindow payload bytes kept space address room marked prepared → window_kept payload bytes kept address room marked prepared ≡ v → Stands v
  standing_kept room prepared v w e n =
      subst Stands e (go room w) n
    where
      go : (room : Option ℕ) → IsWindow payload bytes kept space address room marked prepared → Stands (window_kept payload bytes kept address room marked prepared)
      go None w n = absurd (n refl)
      go (Some r) w n =
          let ss = item_type payload in
          let s = last_bytes (item_size ss * (r - marked)) kept in
          let at = address + item_size ss * marked in
          let size = length-items_in ss bytes address marked w.lie in
          let more : r ≡ marked + (r - marked) = omega (arith, w.inside.0) in
          let all : item_size ss * r ≡ item_size ss * marked + item_size ss * (r - marked) = ap (λ j. item_size ss * j) more ∙ grind arith in
          sym (ap (λ j. put_at (put_at bytes at s) (address + item_size ss * j) (bytes_at bytes at (item_size ss * (r - marked)))) size
          ∙ put_back_same bytes s at (item_size ss * (r - marked)) (last_kept payload kept (r - marked) w.inside.3) (omega (arith, all, w.inside.1)))
