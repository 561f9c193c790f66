-- What a window is after a write through what `unmarked` lent.
use Rattle.std.proofs.Common.{◌≡◌, ℕ, ◌+◌, ◌-◌, ◌*◌, ◌≤◌, ◌⊎◌, inl, inr, Bool, List, [], ◌∷◌, ◌++◌, length, take, drop, Option, Some, None, refl, sym, ap, subst, ◌∙◌, append_assoc, arith, length-append, length-drop}
use Rattle.std.proofs.lemmas.List.{drop-drop, drop-take, take_all, take_at, drop_at, length-take-le, take-append-drop, append-nil}
use Rattle.std.proofs.Math.Seq.{take-add}
use Rattle.std.specs.List.{refill, slice_range, length_refill}
use Rattle.strm_codes.specs.Layout.{byte_type}
use Rattle.strm_codes.specs.declared.scalars.Scalar.TheVariants.{U8}
use Rattle.strm_codes.specs.declared.payloads.Payload.{Payload}
use Rattle.strm_codes.specs.declared.payloads.Payload.TheVariants.{One}
use Rattle.strm_memory.specs.Bytes.{put_at, bytes_at}
use Rattle.strm_memory.specs.Lending.{written_from}
use Rattle.strm_buffers.specs.Listing.{items_in}
use Rattle.strm_buffers.specs.Windows.{Lent, IsBehind, last_bytes, window_kept, KeepsRest, IsWindow}
use Rattle.strm_buffers.specs.Keeping.{end_kept, kept_after}
use Rattle.strm_buffers.specs.Lending.{written_over, with_unmarked}
use Rattle.strm_buffers.proofs.ListingLemmas.{lie_same, length-items_in}
use Rattle.strm_buffers.proofs.PutLemmas.{put_flat, put_at-nil, last_nil, length-last, drop-put_at}
use Rattle.strm_buffers.proofs.WindowLemmas.{Kept}

-- what is kept once bytes were lent: all that is left, or it was already
pub kept_then : (kept there : List ℕ) (r left : ℕ) → (kept ≡ []) ⊎ (left ≤ length kept) → length there ≡ left → left ≤ length (kept_after (Some r) kept there)
kept_then [] there r left k n = omega (arith, n)
kept_then (x ∷ kept) there r left (inl e) n = cc
kept_then (x ∷ kept) there r left (inr k) n = k

-- the memory as it will be given back, up to the end of the room, is the same as before
front_kept : (m kept : List ℕ) (at left r : ℕ) → (kept ≡ []) ⊎ (left ≤ length kept) → at + left ≤ length m
    → take at m ++ last_bytes left (kept_after (Some r) kept (bytes_at m at left)) ≡ take (at + left) (put_at m at (last_bytes left kept))
front_kept m [] at left r k h =
    let n : length (bytes_at m at left) ≡ left = length-take-le left (drop at m) (omega (arith, length-drop at m, h)) in
    let none : length (bytes_at m at left) - left ≡ 0 = omega (arith, n) in
    ap (λ j. take at m ++ drop j (bytes_at m at left)) none ∙ sym (take-add at left m)
    ∙ ap (take (at + left)) (sym (ap (put_at m at) (last_nil left) ∙ put_at-nil m at))
front_kept m (x ∷ kept) at left r (inl e) h = cc
front_kept m (x ∷ kept) at left r (inr k) h =
    let s : List ℕ = last_bytes left (x ∷ kept) in
    let n : length s ≡ left = length-last (x ∷ kept) left k in
    let front : length (take at m) ≡ at = length-take-le at m (omega (arith, h)) in
    let both : length (take at m ++ s) ≡ at + left = length-append (take at m) s ∙ omega (arith, front, n) in
    sym (ap (take (at + left)) (put_flat m at s ∙ sym (append_assoc (take at m) s (drop (at + length s) m))) ∙ take_at (take at m ++ s) (drop (at + length s) m) (at + left) both)

behind_kept : (m kept : List ℕ) (at left : ℕ) → (kept ≡ []) ⊎ (left ≤ length kept) → at ≤ length m → drop (at + left) (put_at m at (last_bytes left kept)) ≡ drop (at + left) m
behind_kept m kept at left (inl e) h = ap (drop (at + left)) (ap (put_at m at) (ap (last_bytes left) e ∙ last_nil left) ∙ put_at-nil m at)
behind_kept m kept at left (inr k) h = let n = length-last kept left k in ap (λ j. drop (at + j) (put_at m at (last_bytes left kept))) (sym n) ∙ drop-put_at m (last_bytes left kept) at h ∙ ap (λ j. drop (at + j) m) n

-- what lies before and behind the place where bytes were written
record Written (m new w : List ℕ) (at : ℕ) : Type 0 where
  pub front : take at new ≡ take at m
  pub behind : drop at new ≡ refill (length (drop at m)) (drop at m) w
  pub size : length new ≡ length m

written_parts : (m new w : List ℕ) (at : ℕ) → at ≤ length m → new ≡ written_from m at w → Written m new w at
written_parts m new w at h e =
    let front : length (take at m) ≡ at = length-take-le at m h in
    let back : length (drop at m) ≡ length (refill (length (drop at m)) (drop at m) w) = length_refill (length (drop at m)) (drop at m) w refl in
    let all = length-append (take at m) (refill (length (drop at m)) (drop at m) w) in
    record {
      front = ap (take at) e ∙ take_at (take at m) (refill (length (drop at m)) (drop at m) w) at front;
      behind = ap (drop at) e ∙ drop_at (take at m) (refill (length (drop at m)) (drop at m) w) at front;
      size = ap length e ∙ omega (arith, all, back, front, length-drop at m, h);
    }

-- what is kept of a window once its unmarked bytes were lent
abbrev kept_with : (bytes kept : List ℕ) (address marked len : ℕ) → Option ℕ → List ℕ
kept_with bytes kept address marked len room = kept_after room kept (slice_range bytes (address + marked) (end_kept address room len))

-- a window of payload u8 after other bytes were written over its unmarked ones
abbrev window_over : (bytes kept : List ℕ) (address marked : ℕ) → Option ℕ → Bool → List ℕ → Lent
window_over bytes kept address marked room prepared w = with_unmarked (window_kept (One U8) bytes kept address room marked prepared) w

module _ (bytes kept there new w : List ℕ) (space more address r marked : ℕ) (prepared : Bool) (win : IsWindow (One U8) bytes kept space address (Some r) marked prepared) where
  lend_memory : there ≡ bytes_at bytes (address + marked) (r - marked) → space ≤ more
      → new ≡ written_from bytes (address + marked) w → Kept (One U8) new (kept_after (Some r) kept there) more address (Some r) marked prepared (window_over bytes kept address marked (Some r) prepared w)
  lend_memory t h e =
      let left = r - marked in
      let at = address + marked in
      let kept' : List ℕ = kept_after (Some r) kept there in
      let k = kept_cases kept left win.inside.3 in
      let inside : at + left ≤ length bytes = omega (arith, win.inside.0, win.inside.1) in
      let p = written_parts bytes new w at (omega (arith, inside)) e in
      let rest : List ℕ = drop at bytes in
      let over : List ℕ = refill (length rest) rest w in
      let n : length (take left rest) ≡ left = length-take-le left rest (omega (arith, length-drop at bytes, inside)) in
      let n' : length there ≡ left = ap length t ∙ n in
      let m1 : 1 * marked ≡ marked = omega arith in
      let l1 : 1 * left ≡ left = omega arith in
      let size : length (items_in byte_type bytes address marked) ≡ marked = length-items_in byte_type bytes address marked win.lie in
      let same : take (1 * marked) (drop address new) ≡ take (1 * marked) (drop address bytes) =
      ap (λ j. take j (drop address new)) m1 ∙ sym (drop-take address marked new) ∙ ap (drop address) p.front ∙ drop-take address marked bytes ∙ ap (λ j. take j (drop address bytes)) (sym m1) in
      let lie = lie_same byte_type bytes new address address marked win.lie same (omega (arith, m1, p.size, inside)) in
      let items = lie.is in
      let enough : left ≤ length kept' = kept_then kept there r left k n' in
      let last : length (last_bytes left kept') ≡ left = length-last kept' left enough in
      let unmarked : take (1 * left) (drop (address + 1 * marked) bytes) ≡ take left rest = ap (λ j. take j (drop (address + 1 * marked) bytes)) l1 ∙ ap (λ j. take left (drop (address + j) bytes)) m1 in
      let lent : List ℕ = take (1 * left) (drop (address + 1 * marked) bytes) in
      let n1 : length lent ≡ left = ap length unmarked ∙ n in
      let ends : address + (1 * length (items_in byte_type bytes address marked) + length lent) ≡ at + left = omega (arith, size, n1) in
      let old : List ℕ = put_at bytes (address + 1 * marked) (last_bytes (1 * left) kept) in
      let old_is : old ≡ put_at bytes at (last_bytes left kept) = ap (λ j. put_at bytes (address + j) (last_bytes (1 * left) kept)) m1 ∙ ap (λ j. put_at bytes at (last_bytes j kept)) l1 in
      let past_is : drop (address + (1 * length (items_in byte_type bytes address marked) + length lent)) old ≡ drop left rest = ap (λ j. drop j old) ends ∙ ap (drop (at + left)) old_is ∙ behind_kept bytes kept at left k (omega (arith, inside)) ∙ sym (drop-drop left at bytes) in
      let all : lent ++ drop (address + (1 * length (items_in byte_type bytes address marked) + length lent)) old ≡ rest = ap (λ l. l ++ drop (address + (1 * length (items_in byte_type bytes address marked) + length lent)) old) unmarked ∙ ap (λ l. take left rest ++ l) past_is ∙ take-append-drop left rest in
      let over_is : written_over (window_kept (One U8) bytes kept address (Some r) marked prepared) w ≡ over = ap (λ l. refill (length l) l w) all in
      let behind : take (1 * left) (drop (address + 1 * marked) new) ≡ take (length lent) (written_over (window_kept (One U8) bytes kept address (Some r) marked prepared) w) =
      ap (λ j. take j (drop (address + 1 * marked) new)) l1 ∙ ap (λ j. take left (drop (address + j) new)) m1 ∙ ap (take left) p.behind ∙ ap (λ j. take j over) (sym n1) ∙ ap (take (length lent)) (sym over_is) in
      let place : put_at new (address + 1 * marked) (last_bytes (1 * left) kept') ≡ take (address + (1 * length (items_in byte_type bytes address marked) + length lent)) old ++ drop (length lent) (written_over (window_kept (One U8) bytes kept address (Some r) marked prepared) w) =
      ap (λ j. put_at new (address + j) (last_bytes (1 * left) kept')) m1 ∙ ap (λ j. put_at new at (last_bytes j kept')) l1
      ∙ put_flat new at (last_bytes left kept') ∙ ap (λ j. take at new ++ (last_bytes left kept' ++ drop (at + j) new)) last
      ∙ ap (λ l. l ++ (last_bytes left kept' ++ drop (at + left) new)) p.front
      ∙ ap (λ l. take at bytes ++ (last_bytes left kept' ++ l)) (sym (drop-drop left at new) ∙ ap (drop left) p.behind)
      ∙ sym (append_assoc (take at bytes) (last_bytes left kept') (drop left over))
      ∙ ap (λ l. l ++ drop left over) (ap (λ l. take at bytes ++ last_bytes left (kept_after (Some r) kept l)) t ∙ front_kept bytes kept at left r k inside)
      ∙ sym (ap (λ j. take j old ++ drop (length lent) (written_over (window_kept (One U8) bytes kept address (Some r) marked prepared) w)) ends ∙ ap (λ l. take (at + left) l ++ drop (length lent) (written_over (window_kept (One U8) bytes kept address (Some r) marked prepared) w)) old_is
      ∙ ap (λ l. take (at + left) (put_at bytes at (last_bytes left kept)) ++ drop (length lent) l) over_is ∙ ap (λ j. take (at + left) (put_at bytes at (last_bytes left kept)) ++ drop j over) n1) in
      record {
        is_window = record { lie = lie.lie; inside = (win.inside.0, omega (arith, p.size, win.inside.1), win.inside.2, inr (refl, enough)); enough = λ a b. omega (arith, h, win.enough a b) };
        is = cc (items, place, behind);
      }
    where
      kept_cases : (kept : List ℕ) (left : ℕ) → KeepsRest (One U8) kept left → (kept ≡ []) ⊎ (left ≤ length kept)
      kept_cases kept left (inl e) = inl e
      kept_cases kept left (inr (u, k)) = inr k

module _ (bytes kept there new w : List ℕ) (space more address marked : ℕ) (prepared : Bool) where
  lend_between : IsWindow (One U8) bytes kept space address None marked prepared → space ≤ more
      → new ≡ written_from bytes (address + marked) w → Kept (One U8) new (kept_after None kept there) more address None marked prepared (window_over bytes kept address marked None prepared w)
  lend_between win h e =
      let at = address + marked in
      let rest : List ℕ = drop at bytes in
      let m1 : 1 * marked ≡ marked = omega arith in
      let here : 1 * marked ≡ at = omega (arith, win.inside.0) in
      let p = written_parts bytes new w at (omega (arith, m1, win.lie.within)) e in
      let same : take (1 * marked) (drop address new) ≡ take (1 * marked) (drop address bytes) =
      ap (λ j. take j (drop address new)) m1 ∙ sym (drop-take address marked new) ∙ ap (drop address) p.front ∙ drop-take address marked bytes ∙ ap (λ j. take j (drop address bytes)) (sym m1) in
      let lie = lie_same byte_type bytes new address address marked win.lie same (omega (arith, p.size, win.lie.within)) in
      let items = lie.is in
      let lent : List ℕ = drop (1 * marked) bytes in
      let lent_is : lent ≡ rest = ap (λ j. drop j bytes) here in
      let over : List ℕ = refill (length rest) rest w in
      let over_is : written_over (window_kept (One U8) bytes kept address None marked prepared) w ≡ over = ap (λ l. refill (length l) l w) (append-nil lent ∙ lent_is) in
      let size : length over ≡ length rest = sym (length_refill (length rest) rest w refl) in
      let behind : drop (1 * marked) new ≡ take (length lent) (written_over (window_kept (One U8) bytes kept address None marked prepared) w) =
      ap (λ j. drop j new) here ∙ p.behind ∙ sym (take_all (length rest) over (omega (arith, size))) ∙ ap (λ l. take (length l) over) (sym lent_is) ∙ ap (take (length lent)) (sym over_is) in
      record {
        is_window = record { lie = lie.lie; inside = (win.inside.0, omega (arith, p.size, win.inside.1), win.inside.2, win.inside.3); enough = λ a b. omega (arith, h, win.enough a b) };
        is = cc (items, behind);
      }

-- the bytes of the room that are left, of the window that is kept so
pub there_is : (bytes : List ℕ) (address r marked : ℕ) → marked ≤ r → slice_range bytes (address + marked) (address + r) ≡ bytes_at bytes (address + marked) (r - marked)
there_is bytes address r marked h = let e : address + r - (address + marked) ≡ r - marked = omega (arith, h) in ap (λ j. take j (drop (address + marked) bytes)) e

module _ (bytes kept new w : List ℕ) (space more address marked len : ℕ) (h : space ≤ more) (e : new ≡ written_from bytes (address + marked) w) where
  lend_room : (room : Option ℕ) (prepared : Bool) → IsWindow (One U8) bytes kept space address room marked prepared
      → Kept (One U8) new (kept_with bytes kept address marked len room) more address room marked prepared (window_over bytes kept address marked room prepared w)
  lend_room None prepared win = lend_between bytes kept (slice_range bytes (address + marked) len) new w space more address marked prepared win h e
  lend_room (Some r) prepared win = lend_memory bytes kept (slice_range bytes (address + marked) (address + r)) new w space more address r marked prepared win (there_is bytes address r marked win.inside.0) h e

module _ (payload : Payload) (bytes kept kept' w : List ℕ) (len space more address marked : ℕ) (room : Option ℕ) (prepared : Bool) (v : Lent) (win : IsWindow payload bytes kept space address room marked prepared) (e : window_kept payload bytes kept address room marked prepared ≡ v) where
  -- the same of a window, whichever its room, and of the vector that was lent
  pub lend_on : v.payload ≡ One U8 → space ≤ more
      → kept' ≡ kept_with bytes kept address marked len room
      → Kept payload (written_from bytes (address + marked) w) kept' more address room marked prepared (with_unmarked v w)
  lend_on u h k =
      let p : payload ≡ One U8 = ap (λ (x : Lent). x.payload) e ∙ u in
      let new : List ℕ = written_from bytes (address + marked) w in
      let l = subst (λ (q : Payload). IsWindow q bytes kept space address room marked prepared → Kept q new (kept_with bytes kept address marked len room) more address room marked prepared (with_unmarked (window_kept q bytes kept address room marked prepared) w)) (sym p)
      (λ w'. lend_room bytes kept new w space more address marked len h refl room prepared w') win in
      subst (λ (l : List ℕ). Kept payload new l more address room marked prepared (with_unmarked v w)) (sym k)
      (record { is_window = l.is_window; is = l.is ∙ ap (λ (x : Lent). with_unmarked x w) e })

-- the bytes that are lent are the unmarked ones, and their number
pub record AreLent (v : Lent) (bytes : List ℕ) : Type 0 where
  pub value : bytes ≡ v.unmarked
  pub all : IsBehind v.place (length v.marked) (length bytes)

module _ (bytes kept : List ℕ) (len space address marked : ℕ) where
  lent_room : (room : Option ℕ) (prepared : Bool) → IsWindow (One U8) bytes kept space address room marked prepared → len ≡ length bytes → AreLent (window_kept (One U8) bytes kept address room marked prepared) (slice_range bytes (address + marked) (end_kept address room len))
  lent_room None prepared win n =
      let m1 : address + marked ≡ 1 * marked = omega (arith, win.inside.0) in
      let size = length-items_in byte_type bytes address marked win.lie in
      let value : slice_range bytes (address + marked) len ≡ drop (1 * marked) bytes =
      take_all (len - (address + marked)) (drop (address + marked) bytes) (omega (arith, n, length-drop (address + marked) bytes)) ∙ ap (λ j. drop j bytes) m1 in
      record { value = value; all = rw (value, size) (omega (arith, length-drop (1 * marked) bytes, win.inside.1)) }
  lent_room (Some r) prepared win n =
      let m1 : 1 * marked ≡ marked = omega arith in
      let l1 : 1 * (r - marked) ≡ r - marked = omega arith in
      let size = length-items_in byte_type bytes address marked win.lie in
      let there = there_is bytes address r marked win.inside.0 in
      let long : length (bytes_at bytes (address + marked) (r - marked)) ≡ r - marked = length-take-le (r - marked) (drop (address + marked) bytes) (omega (arith, length-drop (address + marked) bytes, win.inside.0, win.inside.1)) in
      record {
        value = there ∙ ap (λ j. bytes_at bytes (address + j) (r - marked)) (sym m1) ∙ ap (λ j. bytes_at bytes (address + 1 * marked) j) (sym l1);
        all = rw (there, long, size) (omega (arith, win.inside.0));
      }

module _ (payload : Payload) (bytes kept given : List ℕ) (len space address marked : ℕ) (room : Option ℕ) (prepared : Bool) where
  pub lent_on : (v : Lent) → IsWindow payload bytes kept space address room marked prepared → window_kept payload bytes kept address room marked prepared ≡ v → v.payload ≡ One U8 → len ≡ length bytes → given ≡ slice_range bytes (address + marked) (end_kept address room len) → AreLent v given
  lent_on v win e u n g =
      let p : payload ≡ One U8 = ap (λ (x : Lent). x.payload) e ∙ u in
      let l = subst (λ (q : Payload). IsWindow q bytes kept space address room marked prepared → AreLent (window_kept q bytes kept address room marked prepared) (slice_range bytes (address + marked) (end_kept address room len))) (sym p) (λ w'. lent_room bytes kept len space address marked room prepared w' n) win in
      subst (λ (l : List ℕ). AreLent v l) (sym g) (subst (λ (x : Lent). AreLent x (slice_range bytes (address + marked) (end_kept address room len))) e l)
