-- Items that wait, kept as their bytes: more behind them, some off their front, and some of them.
use Rattle.std.proofs.Common.{◌≡◌, ℕ, ◌+◌, ◌*◌, ◌-◌, ◌<◌, ◌≤◌, List, ◌++◌, length, take, drop, sym, ap, subst, ◌∙◌, arith, length-append, length-drop}
use Rattle.std.proofs.lemmas.List.{take_all}
use Rattle.strm_codes.specs.Layout.{item_type}
use Rattle.strm_codes.specs.ItemTypes.{item_size}
use Rattle.strm_codes.specs.declared.payloads.Payload.{Payload}
use Rattle.strm_buffers.specs.Listing.{Item, LieIn, AreItemsKept, items_in}
use Rattle.strm_buffers.proofs.ListingLemmas.{Lie, lie_is, lie_skip, lie_same, lie_part, lie_more, cut, part_inside}

-- bytes that are kept, and the items that they are
pub record Kept (payload : Payload) (bytes : List ℕ) (len : ℕ) (items : List Item) : Type 0 where
  pub kept : AreItemsKept payload bytes 0 len
  pub is : items_in (item_type payload) bytes 0 len ≡ items

module _ (payload : Payload) (bytes : List ℕ) (len : ℕ) (k : AreItemsKept payload bytes 0 len) where
  -- so many items behind them
  pub kept_more : (given : List ℕ) (n : ℕ) → length given ≡ item_size (item_type payload) * n → LieIn (item_type payload) given 0 n → len + n < 4294967295
      → Kept payload (bytes ++ given) (len + n) (items_in (item_type payload) bytes 0 len ++ items_in (item_type payload) given 0 n)
  kept_more given n size lie few =
      let ss = item_type payload in
      let w = item_size ss in
      let more = lie_more ss bytes given 0 len n (items_in ss given 0 n) (record { lie = k.lie; all = k.all }) (lie_is ss given 0 n lie) lie.fit (omega (arith, size)) in
      let all : Lie ss (bytes ++ given) 0 (len + n) (items_in ss bytes 0 len ++ items_in ss given 0 n) =
      subst (λ l. Lie ss (bytes ++ l) 0 (len + n) (items_in ss bytes 0 len ++ items_in ss given 0 n)) (take_all (w * n) given (omega (arith, size))) more in
      let sizes : w * (len + n) ≡ w * len + w * n = grind arith in
      record {
        kept = record { all = length-append bytes given ∙ omega (arith, k.all, size, sizes); lie = all.lie; few = few };
        is = all.is;
      }

  -- some off their front
  pub kept_fewer : (new : List ℕ) (n : ℕ) → n ≤ len → new ≡ drop (item_size (item_type payload) * n) bytes
      → Kept payload new (len - n) (drop n (items_in (item_type payload) bytes 0 len))
  kept_fewer new n h e =
      let ss = item_type payload in
      let w = item_size ss in
      let at : 0 + w * n ≡ w * n = omega arith in
      let rest = lie_skip ss bytes 0 len n k.lie h in
      let sizes : w * n + w * (len - n) ≡ w * len = cut w n len h in
      let size : length new ≡ w * (len - n) = ap length e ∙ length-drop (w * n) bytes ∙ omega (arith, k.all, sizes) in
      let same : take (w * (len - n)) (drop 0 new) ≡ take (w * (len - n)) (drop (0 + w * n) bytes) =
      ap (take (w * (len - n))) (e ∙ ap (λ j. drop j bytes) (sym at)) in
      let there = lie_same ss bytes new (0 + w * n) 0 (len - n) rest.lie same (omega (arith, size)) in
      record {
        kept = record { all = omega (arith, size); lie = there.lie; few = omega (arith, k.few) };
        is = there.is ∙ rest.is;
      }

  -- the first of them, in bytes of their own
  pub kept_first : (front : List ℕ) (n : ℕ) → n ≤ len → front ≡ take (item_size (item_type payload) * n) bytes
      → length front ≡ item_size (item_type payload) * n → Lie (item_type payload) front 0 n (take n (items_in (item_type payload) bytes 0 len))
  kept_first front n h e size =
      let ss = item_type payload in
      let none : item_size ss * 0 ≡ 0 = omega arith in
      let part : front ≡ take (item_size ss * n) (drop (item_size ss * 0) bytes) = e ∙ ap (λ j. take (item_size ss * n) (drop j bytes)) (sym none) in
      lie_part ss bytes front len 0 n k.lie (omega (arith, h)) part size

  -- they lie inside
  pub first_inside : (n w : ℕ) → n ≤ len → w ≡ item_size (item_type payload) → w * n ≤ length bytes
  first_inside n w h e =
      let both = part_inside (item_size (item_type payload)) 0 n len (length bytes) (omega (arith, h)) (omega (arith, k.all)) in
      subst (λ j. j * n ≤ length bytes) (sym e) (omega (arith, both))
