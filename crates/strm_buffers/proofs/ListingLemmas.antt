-- Items that lie in bytes: one more, some off the front, one by its number, and the same in other
-- bytes.
use Rattle.std.proofs.Common.{◌≡◌, ℕ, zero, suc, ◌+◌, ◌*◌, ◌-◌, ◌<◌, ◌≤◌, pos, List, [], ◌∷◌, ◌++◌, length, take, drop, Option, Some, None, refl, sym, ap, subst, ◌∙◌, arith, length-append, length-drop, replicate}
use Rattle.std.proofs.lemmas.List.{drop_at, take_at, drop-drop, drop-take, take-take, take_all, take-append-le, drop-append-le, length-take-le, length-replicate, length-map, drop_all, append-nil}
use Rattle.std.proofs.Math.Nat.{mul-le-mul_left}
use Rattle.std.proofs.lemmas.Option.{option_and_then_some}
use Rattle.std.specs.Prelude.{IsSome, slice_get, option_and_then}
use Rattle.std.specs.Option.{option_map}
use Rattle.strm_codes.specs.Layout.{item_type, byte_type}
use Rattle.strm_codes.specs.ItemTypes.{item_size, ItemType}
use Rattle.strm_codes.specs.Begins.{FitsItem}
use Rattle.strm_memory.specs.Bytes.{IsBytes}
use Rattle.strm_memory.specs.Items.{items, stored, items_at, stored_at, AreItems, byte_items}
use Rattle.strm_memory.specs.Loads.{decode}
use Rattle.strm_memory.proofs.LoadLemmas.{option_map_some}
use Rattle.strm_memory.proofs.ItemLemmas.{items-add, item_fits}
use Rattle.strm_memory.proofs.RegionLemmas.{length-items, length-stored_at, items_at-stored_at, AreItems-items}
use Rattle.strm_memory.proofs.AppendLemmas.{items-same, items-bytes, items_at-more, items_at-put, AreItems-append, AreItems-drop}
use Rattle.strm_codes.specs.declared.payloads.Payload.{Payload}
use Rattle.strm_buffers.specs.Listing.{Item, TypedItems, listed, items_in, LieIn, AreItemsKept, AreStored, kept_items}

some_listed : {A : Type 0} (o : Option (List A)) → IsSome o → o ≡ Some (listed o)
some_listed None i = cc
some_listed (Some xs) i = refl

-- that these items lie there, as one record
pub record Lie (ss : ItemType) (bytes : List ℕ) (from n : ℕ) (xs : List Item) : Type 0 where
  pub lie : LieIn ss bytes from n
  pub is : items_in ss bytes from n ≡ xs

pub lie_is : (ss : ItemType) (m : List ℕ) (a n : ℕ) → LieIn ss m a n → items_at ss m a n ≡ Some (items_in ss m a n)
lie_is ss m a n l = some_listed (items_at ss m a n) l.good

pub length-items_in : (ss : ItemType) (m : List ℕ) (a n : ℕ) → LieIn ss m a n → length (items_in ss m a n) ≡ n
length-items_in ss m a n l = length-items ss (drop a m) n (items_in ss m a n) (lie_is ss m a n l)

pub lie_made : (ss : ItemType) (m : List ℕ) (a n : ℕ) (xs : List Item) → a + item_size ss * n ≤ length m → items_at ss m a n ≡ Some xs → AreItems ss xs → Lie ss m a n xs
lie_made ss m a n xs h e f =
    let i : items_in ss m a n ≡ xs = ap listed e in
    record { lie = record { within = h; good = rw e refl; fit = rw i f }; is = i }

-- none lie anywhere
pub lie_none : (ss : ItemType) (m : List ℕ) (a : ℕ) → a ≤ length m → Lie ss m a 0 []
unfolding items
lie_none ss m a h = lie_made ss m a 0 [] (omega (arith, h)) refl tt

-- items stored behind others
pub lie_put : (ss : ItemType) (m : List ℕ) (a n : ℕ) (ys : List Item) → LieIn ss m a n → AreItems ss ys → a + item_size ss * n + item_size ss * length ys ≤ length m → Lie ss (stored_at ss m (a + item_size ss * n) ys) a (n + length ys) (items_in ss m a n ++ ys)
lie_put ss m a n ys l f h =
    let w = item_size ss in
    let new = stored_at ss m (a + w * n) ys in
    let size : length new ≡ length m = length-stored_at ss m (a + w * n) ys h in
    let more : w * (n + length ys) ≡ w * n + w * length ys = grind arith in
    lie_made ss new a (n + length ys) (items_in ss m a n ++ ys) (omega (arith, size, more, h)) (items_at-put ss m a n (items_in ss m a n) ys (lie_is ss m a n l) f h) (AreItems-append ss (items_in ss m a n) ys l.fit f)

-- the same bytes are the same items
pub lie_same : (ss : ItemType) (m new : List ℕ) (a b n : ℕ) → LieIn ss m a n → take (item_size ss * n) (drop b new) ≡ take (item_size ss * n) (drop a m) → b + item_size ss * n ≤ length new → Lie ss new b n (items_in ss m a n)
lie_same ss m new a b n l e h = lie_made ss new b n (items_in ss m a n) h (items-same ss (drop a m) (drop b new) n e ∙ lie_is ss m a n l) l.fit

tail_is : {A : Type 0} (us vs xs : List A) (k : ℕ) → us ++ vs ≡ xs → length us ≡ k → vs ≡ drop k xs
tail_is us vs xs k e h = sym (drop_at us vs k h) ∙ ap (drop k) e

-- some off the front
pub lie_skip : (ss : ItemType) (m : List ℕ) (a n k : ℕ) → LieIn ss m a n → k ≤ n → Lie ss m (a + item_size ss * k) (n - k) (drop k (items_in ss m a n))
lie_skip ss m a n k l h =
    let w = item_size ss in
    let xs = items_in ss m a n in
    let split : n ≡ k + (n - k) = omega arith in
    let sizes : w * n ≡ w * k + w * (n - k) = ap (λ j. w * j) split ∙ grind arith in
    let whole : option_and_then (λ us. option_map (λ vs. us ++ vs) (items ss (drop (w * k) (drop a m)) (n - k))) (items ss (drop a m) k) ≡ Some xs =
    sym (items-add ss (drop a m) k (n - k)) ∙ ap (items ss (drop a m)) (sym split) ∙ lie_is ss m a n l in
    let rest : items ss (drop (w * k) (drop a m)) (n - k) ≡ Some (drop k xs) =
    option_and_then_some _ (items ss (drop a m) k) xs whole
    (λ us p q. option_map_some _ (items ss (drop (w * k) (drop a m)) (n - k)) xs q
    (λ vs u v. u ∙ ap Some (tail_is us vs xs k v (length-items ss (drop a m) k us p)))) in
    lie_made ss m (a + w * k) (n - k) (drop k xs) (omega (arith, l.within, sizes)) (ap (λ b. items ss b (n - k)) (sym (drop-drop (w * k) a m)) ∙ rest) (AreItems-drop ss k xs l.fit)

-- so many items and the rest of them are all
pub cut : (w k n : ℕ) → k ≤ n → w * k + w * (n - k) ≡ w * n
cut w k n h =
    let split : n ≡ k + (n - k) = omega arith in
    sym (ap (λ j. w * j) split ∙ grind arith)

pub AreItems-take : (ss : ItemType) (k : ℕ) (xs : List Item) → AreItems ss xs → AreItems ss (take k xs)
AreItems-take ss zero xs f = tt
AreItems-take ss (suc k) [] f = tt
AreItems-take ss (suc k) (x ∷ xs) f = (f.0, AreItems-take ss k xs f.1)

front_is : {A : Type 0} (us vs xs : List A) (k : ℕ) → us ++ vs ≡ xs → length us ≡ k → us ≡ take k xs
front_is us vs xs k e h = sym (take_at us vs k h) ∙ ap (take k) e

-- the first of them
lie_front : (ss : ItemType) (m : List ℕ) (a n k : ℕ) → LieIn ss m a n → k ≤ n → Lie ss m a k (take k (items_in ss m a n))
lie_front ss m a n k l h =
    let w = item_size ss in
    let xs = items_in ss m a n in
    let split : n ≡ k + (n - k) = omega arith in
    let whole : option_and_then (λ us. option_map (λ vs. us ++ vs) (items ss (drop (w * k) (drop a m)) (n - k))) (items ss (drop a m) k) ≡ Some xs =
    sym (items-add ss (drop a m) k (n - k)) ∙ ap (items ss (drop a m)) (sym split) ∙ lie_is ss m a n l in
    let first : items ss (drop a m) k ≡ Some (take k xs) =
    option_and_then_some _ (items ss (drop a m) k) xs whole
    (λ us p q. option_map_some _ (items ss (drop (w * k) (drop a m)) (n - k)) xs q
    (λ vs u v. p ∙ ap Some (front_is us vs xs k v (length-items ss (drop a m) k us p)))) in
    lie_made ss m a k (take k xs) (omega (arith, l.within, cut w k n h)) first (AreItems-take ss k xs l.fit)

-- where they are
pub part_inside : (w start count n all : ℕ) → start + count ≤ n → all ≡ w * n → w * start + w * count ≤ all
part_inside w start count n all h e =
    let both : w * (start + count) ≡ w * start + w * count = grind arith in
    omega (arith, both, e, mul-le-mul_left w h)

-- some of them, in bytes of their own
pub lie_part : (ss : ItemType) (m new : List ℕ) (n start count : ℕ) → LieIn ss m 0 n → start + count ≤ n → new ≡ take (item_size ss * count) (drop (item_size ss * start) m) → length new ≡ item_size ss * count → Lie ss new 0 count (take count (drop start (items_in ss m 0 n)))
lie_part ss m new n start count l h e s =
    let w = item_size ss in
    let at : 0 + w * start ≡ w * start = omega arith in
    let r = lie_skip ss m 0 n start l (omega (arith, h)) in
    let f = lie_front ss m (0 + w * start) (n - start) count r.lie (omega (arith, h)) in
    let same : take (w * count) new ≡ take (w * count) (drop (0 + w * start) m) =
    ap (take (w * count)) (e ∙ ap (λ j. take (w * count) (drop j m)) (sym at)) ∙ take-take (w * count) (w * count) (drop (0 + w * start) m) (omega arith) in
    let t = lie_same ss m new (0 + w * start) 0 count f.lie same (omega (arith, s)) in
    record { lie = t.lie; is = t.is ∙ f.is ∙ ap (take count) r.is }

first_is : (ss : ItemType) (bytes : List ℕ) (j : ℕ) (ys : List Item) → items ss bytes (suc j) ≡ Some ys → decode ss bytes ≡ slice_get ys 0
unfolding items
first_is ss bytes j ys e =
    option_and_then_some _ (decode ss bytes) ys e
    (λ x p q. option_map_some _ (items ss (drop (item_size ss) bytes) j) ys q
    (λ zs u v. p ∙ ap (λ l. slice_get l 0) v))

get-drop : {A : Type 0} (xs : List A) (k : ℕ) → slice_get (drop k xs) 0 ≡ slice_get xs k
get-drop xs zero = refl
get-drop [] (suc k) = refl
get-drop (x ∷ xs) (suc k) = get-drop xs k

-- one by its number
pub lie_get : (ss : ItemType) (m : List ℕ) (a n k : ℕ) → LieIn ss m a n → k < n → decode ss (drop (a + item_size ss * k) m) ≡ slice_get (items_in ss m a n) k
lie_get ss m a n k l h =
    let some : n - k ≡ suc (n - k - 1) = omega arith in
    let r = lie_skip ss m a n k l (omega arith) in
    let e : items ss (drop (a + item_size ss * k) m) (suc (n - k - 1)) ≡ Some (drop k (items_in ss m a n)) = ap (items ss (drop (a + item_size ss * k) m)) (sym some) ∙ lie_is ss m (a + item_size ss * k) (n - k) r.lie ∙ ap Some r.is in
    first_is ss (drop (a + item_size ss * k) m) (n - k - 1) (drop k (items_in ss m a n)) e ∙ get-drop (items_in ss m a n) k

pub fits_get : (ss : ItemType) (k : ℕ) (xs : List Item) (x : Item) → AreItems ss xs → slice_get xs k ≡ Some x → FitsItem ss x
fits_get ss k [] x f e = cc
fits_get ss zero (y ∷ xs) x f e = let q : y ≡ x = cc in subst (FitsItem ss) q f.0
fits_get ss (suc k) (y ∷ xs) x f e = fits_get ss k xs x f.1 e

pub some_get : {A : Type 0} (k : ℕ) (xs : List A) → k < length xs → slice_get xs k ≡ None → ⊥
some_get k [] h e = absurd (omega (arith, h))
some_get zero (x ∷ xs) h e = cc
some_get (suc k) (x ∷ xs) h e = some_get k xs (omega (arith, h)) e

-- an item by its number is inside
pub spot : (w k n start all size : ℕ) → k < n → all ≡ start + w * n → size ≡ w → start + size * k + w ≤ all
spot w k n start all size h e s = rw s (omega (arith, item_fits k n w h, e))

-- items behind all others
pub record Pushed (ss : ItemType) (old new : List ℕ) (start n : ℕ) (xs : List Item) : Type 0 where
  pub lie : Lie ss new start (n + length xs) (items_in ss old start n ++ xs)
  pub all : length new ≡ start + item_size ss * (n + length xs)

-- bytes cut off at a place, with so many behind it that are 0, and items stored there
abbrev pub stored_past : ItemType → List ℕ → ℕ → ℕ → List Item → List ℕ
stored_past ss bytes at zeros xs = stored_at ss (take at bytes ++ replicate zeros 0) at xs

pub pushed : (ss : ItemType) (old new : List ℕ) (start n end zeros : ℕ) (xs : List Item) → LieIn ss old start n → AreItems ss xs → end ≡ start + item_size ss * n → end ≤ length old → zeros ≡ item_size ss * length xs
    → new ≡ stored_past ss old end zeros xs → Pushed ss old new start n xs
pushed ss old new start n end zeros xs l f e h z s =
    let w = item_size ss in
    let front = take (start + w * n) old in
    let m : List ℕ = front ++ replicate zeros 0 in
    let fl : length front ≡ start + w * n = length-take-le (start + w * n) old (omega (arith, e, h)) in
    let behind : length (replicate zeros 0) ≡ zeros = length-replicate {A = ℕ} zeros 0 in
    let ml : length m ≡ start + w * n + zeros = length-append front (replicate zeros 0) ∙ omega (arith, fl, behind) in
    let room : start + w * n + w * length xs ≤ length m = omega (arith, ml, z) in
    let same : take (w * n) (drop start m) ≡ take (w * n) (drop start old) =
    sym (drop-take start (w * n) m) ∙ ap (drop start) (take_at front (replicate zeros 0) (start + w * n) fl) ∙ drop-take start (w * n) old in
    let there = lie_same ss old m start start n l same (omega (arith, ml)) in
    let put = lie_put ss m start n xs there.lie f room in
    let is : new ≡ stored_at ss m (start + w * n) xs = s ∙ ap (λ k. stored_at ss (take k old ++ replicate zeros 0) k xs) e in
    let more : w * (n + length xs) ≡ w * n + w * length xs = grind arith in
    let size : length new ≡ length m = ap length is ∙ length-stored_at ss m (start + w * n) xs room in
    record {
      lie = subst (λ b. Lie ss b start (n + length xs) (items_in ss old start n ++ xs)) (sym is)
          (record { lie = put.lie; is = put.is ∙ ap (λ l. l ++ xs) there.is });
      all = omega (arith, size, ml, more, z);
    }

-- so many items lie in the bytes from a place on, and nothing behind them
pub record LieLast (ss : ItemType) (bytes : List ℕ) (from n : ℕ) : Type 0 where
  pub lie : LieIn ss bytes from n
  pub all : length bytes ≡ from + item_size ss * n

-- the bytes of items behind those of others
pub lie_more : (ss : ItemType) (bytes given : List ℕ) (a len n : ℕ) (ys : List Item) → LieLast ss bytes a len → items ss given n ≡ Some ys → AreItems ss ys → item_size ss * n ≤ length given
    → Lie ss (bytes ++ take (item_size ss * n) given) a (len + n) (items_in ss bytes a len ++ ys)
lie_more ss bytes given a len n ys last e f h =
    let l = last.lie in
    let all = last.all in
    let w = item_size ss in
    let k = w * n in
    let new : List ℕ = take k given in
    let m : List ℕ = bytes ++ new in
    let size : length new ≡ k = length-take-le k given h in
    let both = length-append bytes new in
    let sizes : w * (len + n) ≡ w * len + k = grind arith in
    let inside : w * len ≤ length (drop a bytes) = omega (arith, all, length-drop a bytes) in
    let old : take (w * len) (drop a m) ≡ take (w * len) (drop a bytes) = ap (take (w * len)) (drop-append-le a bytes new (omega (arith, all))) ∙ take-append-le (w * len) (drop a bytes) new inside in
    let there = lie_same ss bytes m a a len l old (omega (arith, all, both)) in
    let first : items_at ss m a len ≡ Some (items_in ss bytes a len) = lie_is ss m a len there.lie ∙ ap Some there.is in
    let behind : drop (a + w * len) m ≡ new = drop_at bytes new (a + w * len) all in
    let last : items_at ss m (a + w * len) n ≡ Some ys = ap (λ b. items ss b n) behind ∙ items-same ss given new n (take-take k k given (omega arith)) ∙ e in
    lie_made ss m a (len + n) (items_in ss bytes a len ++ ys) (omega (arith, all, both, size, sizes)) (items_at-more ss m a len n (items_in ss bytes a len) ys first last) (AreItems-append ss (items_in ss bytes a len) ys l.fit f)

-- the bytes of items that are kept, from their first on
pub kept_behind : (payload : Payload) (bytes new : List ℕ) (start len : ℕ) (v : TypedItems) → AreItemsKept payload bytes start len → kept_items payload bytes start len ≡ v → new ≡ drop start bytes → Lie (item_type v.payload) new 0 (length v.items) v.items
kept_behind payload bytes new start len v k e n =
    let ss = item_type payload in
    let size : length new ≡ length bytes - start = ap length n ∙ length-drop start bytes in
    let there = lie_same ss bytes new start 0 len k.lie (ap (take (item_size ss * len)) n) (omega (arith, size, k.all)) in
    subst (λ (u : TypedItems). Lie (item_type u.payload) new 0 (length u.items) u.items) e
    (subst (λ j. Lie ss new 0 j (items_in ss bytes start len)) (sym (length-items_in ss bytes start len k.lie)) there)

pub kept_length : (payload : Payload) (bytes new : List ℕ) (start len : ℕ) (v : TypedItems) → AreItemsKept payload bytes start len → kept_items payload bytes start len ≡ v → new ≡ drop start bytes → length new ≡ item_size (item_type v.payload) * length v.items
kept_length payload bytes new start len v k e n =
    let size : length new ≡ length bytes - start = ap length n ∙ length-drop start bytes in
    let count = length-items_in (item_type payload) bytes start len k.lie in
    rw (← e, count) (omega (arith, size, k.all))

-- the same items, kept from their first byte on
pub kept_again : (payload : Payload) (bytes new : List ℕ) (start len : ℕ) (v : TypedItems) → AreItemsKept payload bytes start len → kept_items payload bytes start len ≡ v → new ≡ drop start bytes → AreItemsKept payload new 0 len × (kept_items payload new 0 len ≡ v)
kept_again payload bytes new start len v k e n =
    let ss = item_type payload in
    let size : length new ≡ length bytes - start = ap length n ∙ length-drop start bytes in
    let there = lie_same ss bytes new start 0 len k.lie (ap (take (item_size ss * len)) n) (omega (arith, size, k.all)) in
    let items = there.is in
    (record { all = omega (arith, size, k.all); lie = there.lie; few = k.few }, cc (items, e))

-- what is kept with items behind those that were
pub record KeptMore (payload : Payload) (bytes : List ℕ) (start len : ℕ) (v u : TypedItems) : Type 0 where
  pub kept : AreItemsKept payload bytes start (len + length u.items)
  pub items : items_in (item_type payload) bytes start (len + length u.items) ≡ v.items ++ u.items

module _ (payload : Payload) (bytes : List ℕ) (start len : ℕ) (v : TypedItems) (k : AreItemsKept payload bytes start len) (e : kept_items payload bytes start len ≡ v) where
  -- items kept behind those that are kept
  pub kept_append : (given : List ℕ) (u : TypedItems) → let n = length u.items in u.payload ≡ v.payload → Lie (item_type u.payload) given 0 n u.items → length given ≡ item_size (item_type u.payload) * n → length v.items + n < 4294967295 → KeptMore payload (bytes ++ given) start len v u
  kept_append given u p l s few =
      let ss = item_type payload in
      let w = item_size ss in
      let n = length u.items in
      let same : u.payload ≡ payload = p ∙ sym (ap (λ (x : TypedItems). x.payload) e) in
      let there : Lie ss given 0 n u.items = subst (λ (q : Payload). Lie (item_type q) given 0 n u.items) same l in
      let size : length given ≡ w * n = subst (λ (q : Payload). length given ≡ item_size (item_type q) * n) same s in
      let more = lie_more ss bytes given start len n u.items (record { lie = k.lie; all = k.all }) (lie_is ss given 0 n there.lie ∙ ap Some there.is) (subst (AreItems ss) there.is there.lie.fit) (omega (arith, size)) in
      let all : Lie ss (bytes ++ given) start (len + n) (items_in ss bytes start len ++ u.items) =
      subst (λ l. Lie ss (bytes ++ l) start (len + n) (items_in ss bytes start len ++ u.items)) (take_all (w * n) given (omega (arith, size))) more in
      let sizes : w * (len + n) ≡ w * len + w * n = grind arith in
      let count = length-items_in ss bytes start len k.lie in
      let counted = ap (λ (x : TypedItems). length x.items) e in
      record {
        kept = record { all = length-append bytes given ∙ omega (arith, k.all, size, sizes); lie = all.lie; few = omega (arith, few, count, counted) };
        items = all.is ∙ ap (λ (x : TypedItems). x.items ++ u.items) e;
      }

-- the bytes of items are kept as they are
pub kept_stored : (payload : Payload) (bytes : List ℕ) (xs : List Item) (n : ℕ) → AreStored (item_type payload) bytes xs → n ≡ length xs → n < 4294967295 → AreItemsKept payload bytes 0 n × (items_in (item_type payload) bytes 0 n ≡ xs)
kept_stored payload bytes xs n s e few =
    let ss = item_type payload in
    let there = lie_made ss bytes 0 (length xs) xs (omega (arith, s.all)) s.are s.fit in
    let lie : Lie ss bytes 0 n xs = subst (λ j. Lie ss bytes 0 j xs) (sym e) there in
    (record { all = omega (arith, s.all, ap (λ j. item_size ss * j) e); lie = lie.lie; few = few }, lie.is)

-- items stored in as many bytes as they take, which are then all bytes
pub are_stored : (ss : ItemType) (zeros new : List ℕ) (len : ℕ) (xs : List Item) → length zeros ≡ item_size ss * length xs → len ≡ length zeros → AreItems ss xs → new ≡ stored ss zeros xs → AreStored ss (take len (new ++ drop (length new) zeros)) xs
are_stored ss zeros new len xs size all f e =
    let room : 0 + item_size ss * length xs ≤ length zeros = omega (arith, size) in
    let same : length new ≡ length zeros = ap length e ∙ length-stored_at ss zeros 0 xs room in
    let none : drop (length new) zeros ≡ [] = drop_all (length new) zeros (omega (arith, same)) in
    let is : take len (new ++ drop (length new) zeros) ≡ new = ap (λ l. take len (new ++ l)) none ∙ ap (take len) (append-nil new) ∙ take_all len new (omega (arith, same, all)) in
    subst (λ b. AreStored ss b xs) (sym is) (record {
      all = same ∙ size;
      are = ap (λ b. items_at ss b 0 (length xs)) e ∙ items_at-stored_at ss zeros 0 xs f room;
      fit = f;
    })

-- bytes are items of payload u8
pub bytes_stored : (bytes : List ℕ) → IsBytes bytes → AreStored byte_type bytes (byte_items bytes)
bytes_stored bytes f =
    let n = length bytes in
    let count : length (byte_items bytes) ≡ n = length-map bytes (λ b. pos b ∷ []) in
    let are : items byte_type bytes n ≡ Some (byte_items bytes) = items-bytes bytes n (omega arith) ∙ ap (λ l. Some (byte_items l)) (take_all n bytes (omega arith)) in
    record {
      all = omega (arith, count);
      are = ap (items byte_type bytes) count ∙ are;
      fit = AreItems-items byte_type bytes n (byte_items bytes) f are;
    }

-- they lie where they are, all of them
pub bytes_lie : (bytes : List ℕ) → IsBytes bytes → Lie byte_type bytes 0 (length bytes) (byte_items bytes)
bytes_lie bytes f =
    let s = bytes_stored bytes f in
    let count : length (byte_items bytes) ≡ length bytes = length-map bytes (λ b. pos b ∷ []) in
    subst (λ j. Lie byte_type bytes 0 j (byte_items bytes)) count
    (lie_made byte_type bytes 0 (length (byte_items bytes)) (byte_items bytes) (omega (arith, s.all)) s.are s.fit)
