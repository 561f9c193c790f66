-- What holds of every window that is kept.
use Rattle.std.proofs.Common.{◌≡◌, ℕ, ◌+◌, ◌-◌, ◌*◌, ◌<◌, ◌≤◌, Bool, List, length, take, drop, Option, Some, None, ap, subst, ◌∙◌, arith, length-drop}
use Rattle.std.proofs.lemmas.List.{take-take, length-take-le}
use Rattle.strm_codes.specs.Layout.{item_type}
use Rattle.strm_codes.specs.ItemTypes.{item_size}
use Rattle.strm_codes.specs.declared.payloads.Payload.{Payload}
use Rattle.strm_buffers.specs.Windows.{Lent, last_bytes, place_kept, window_kept, IsRoom, IsWindow, IsSoundPlace}
use Rattle.strm_buffers.proofs.ListingLemmas.{cut, length-items_in, lie_same}
use Rattle.strm_buffers.proofs.MarkLemmas.{Cut}
use Rattle.strm_buffers.proofs.PutLemmas.{length-put_at}

module _ (payload : Payload) (bytes kept : List ℕ) (space address marked : ℕ) where
  -- where items go, in a window that is kept so
  pub place_sound : (room : Option ℕ) (prepared : Bool) (v : Lent) → IsWindow payload bytes kept space address room marked prepared → window_kept payload bytes kept address room marked prepared ≡ v → IsSoundPlace v.payload v.place v.prepared
  place_sound room prepared v w e =
      subst (λ (u : Lent). IsSoundPlace u.payload u.place u.prepared) e (sound room w.inside)
    where
      sound : (room : Option ℕ) → IsRoom payload bytes kept address room marked prepared → IsSoundPlace payload (place_kept (item_type payload) bytes kept address room marked) prepared
      sound None i = i.2
      sound (Some r) i =
          let w = item_size (item_type payload) in
          let n = w * (r - marked) in
          let parts : w * marked + n ≡ w * r = cut w marked r i.0 in
          let most : length (last_bytes n kept) ≤ n = omega (arith, length-drop (length kept - n) kept) in
          let size = length-put_at bytes (last_bytes n kept) (address + w * marked) (omega (arith, most, parts, i.1)) in
          (omega (arith, size, i.1), i.2)

  -- a copy of the marked items, kept from its first byte on
  module _ (room : Option ℕ) (prepared : Bool) (v : Lent) (w : IsWindow payload bytes kept space address room marked prepared) (e : window_kept payload bytes kept address room marked prepared ≡ v) where
    pub marked_again : (new : List ℕ) (end : ℕ) → length v.marked < 4294967295 → end ≡ address + item_size (item_type payload) * marked → new ≡ take (end - address) (drop address bytes) → Cut payload new marked v
    marked_again new end few at is =
        let ss = item_type payload in
        let all = ap (λ (x : Lent). length x.marked) e in
        let count = length-items_in ss bytes address marked w.lie in
        let n = item_size ss * marked in
        let part : new ≡ take n (drop address bytes) = is ∙ ap (λ j. take j (drop address bytes)) (omega (arith, at)) in
        let same : take n new ≡ take n (drop address bytes) = ap (take n) part ∙ take-take n n (drop address bytes) (omega arith) in
        let size : length new ≡ n = ap length part ∙ length-take-le n (drop address bytes) (omega (arith, length-drop address bytes, w.lie.within)) in
        let l = lie_same ss bytes new address 0 marked w.lie same (omega (arith, size)) in
        record {
          kept = record { all = omega (arith, size); lie = l.lie; few = omega (arith, all, count, few) };
          items = l.is ∙ ap (λ (x : Lent). x.marked) e;
        }
