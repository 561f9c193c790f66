-- One item more, in a loop over the items of a region.
use Rattle.std.proofs.Common.{◌≡◌, ℕ, zero, suc, ◌+◌, ◌*◌, ◌<◌, ◌≤◌, ◌-◌, List, [], ◌∷◌, ◌++◌, length, take, drop, Bool, true, false, cond, refl, ap, arith, append_assoc, append-nil, add-one, sym, ◌∙◌, get_or, ℤ, Option, Some, None, ◌&&◌}
use Rattle.std.proofs.lemmas.List.{length-take-le, drop-drop, take-append-drop, drop_more, drop_all}
use Rattle.std.proofs.Math.Nat.{mul-le-mul_left}
use Rattle.std.proofs.Math.Seq.{take-append-add, drop-append-add}
use Rattle.std.specs.Prelude.{is_some, IsSomeAnd, option_and_then}
use Rattle.std.specs.Option.{option_map}
use Rattle.strm_codes.specs.ItemTypes.{item_size, ItemType}
use Rattle.strm_codes.specs.Begins.{FitsItem}
use Rattle.strm_memory.specs.Items.{items, stored, AreItems, stored_at}
use Rattle.strm_memory.specs.Loads.{decode, encode}
use Rattle.strm_memory.proofs.FieldLemmas.{is_some-both, from_on, with_front, with_front-more}

-- an item at the front, and those behind it
pub items-cons : (t : ItemType) (bytes : List ℕ) (n w : ℕ) (o : Option (List ℤ)) → item_size t ≡ w → decode t bytes ≡ o → items t bytes (suc n) ≡ option_and_then (λ x. option_map (λ xs. x ∷ xs) (items t (drop w bytes) n)) o
unfolding items
items-cons t bytes n w o e d = rw (← e, ← d) refl

pub stored-cons : (t : ItemType) (bytes : List ℕ) (x : List ℤ) (xs : List (List ℤ)) (w : ℕ) (item : List ℕ) → item_size t ≡ w → encode t bytes x ≡ item → stored t bytes (x ∷ xs) ≡ take w item ++ stored t (drop w item) xs
unfolding stored
stored-cons t bytes x xs w item e f = rw (← e, ← f) refl

pub item_fits : (k n size : ℕ) → k < n → size * k + size ≤ size * n
item_fits k n size h = grind arith

-- after one item, whatever F does with the bytes behind it
pub sweep_more : (m : List ℕ) (at size : ℕ) (e : List ℕ) (F : List ℕ → List ℕ) → at ≤ length m → take (at + size) (take at m ++ e) ++ F (drop (at + size) (take at m ++ e)) ≡ take at m ++ (take size e ++ F (drop size e))
sweep_more m at size e F h =
    let n : length (take at m) ≡ at = length-take-le at m h in
    let s : at + size ≡ length (take at m) + size = omega (arith, n) in
    let t : take (at + size) (take at m ++ e) ≡ take at m ++ take size e = rw s (take-append-add (take at m) e size) in
    let u : drop (at + size) (take at m ++ e) ≡ drop size e = rw s (drop-append-add (take at m) e size) in
    rw (t, u) (append_assoc (take at m) (take size e) (F (drop size e)))

-- these items, and then so many that lie from an address on
abbrev with_items : List (List ℤ) → ItemType → List ℕ → ℕ → ℕ → Option (List (List ℤ))
with_items front t source at n = with_front front (items t (drop at source) n)

-- one item lifted
pub items_step : (t : ItemType) (source : List ℕ) (at k n size : ℕ) (front : List (List ℤ)) (x : List ℤ) → k < n → size ≡ item_size t → Some x ≡ decode t (drop at source) → with_items (front ++ x ∷ []) t source (at + size) (n - (k + 1)) ≡ with_items front t source at (n - k)
unfolding items
items_step t source at k n size front x h e d =
    let s : n - k ≡ suc (n - (k + 1)) = omega arith in
    rw (s, ← d, e, ← drop-drop (item_size t) at source) (with_front-more front x _)

cond_same : (b : Bool) → cond b true false ≡ b
cond_same true = refl
cond_same false = refl

cond_nested : (a b c : Bool) → cond a (cond b c false) false ≡ cond (cond a b false) c false
cond_nested true b c = refl
cond_nested false b c = refl

-- the last of the items is read behind the ones before it
items_last : (t : ItemType) (source : List ℕ) (k : ℕ) → is_some (items t source (suc k)) ≡ cond (is_some (items t source k)) (is_some (decode t (drop (item_size t * k) source))) false
unfolding items
items_last t source zero =
    let z : item_size t * zero ≡ 0 = omega arith in
    rw (is_some-both (decode t source) (Some []) (λ x xs. x ∷ xs), z) (cond_same (is_some (decode t source)))
items_last t source (suc k) =
    let e : item_size t + item_size t * k ≡ item_size t * suc k = omega arith in
    let rest : is_some (items t (drop (item_size t) source) (suc k)) ≡ cond (is_some (items t (drop (item_size t) source) k)) (is_some (decode t (drop (item_size t * suc k) source))) false =
    items_last t (drop (item_size t) source) k ∙ rw (drop-drop, e) refl in
    is_some-both (decode t source) (items t (drop (item_size t) source) (suc k)) (λ x xs. x ∷ xs)
    ∙ ap (λ b. cond (is_some (decode t source)) b false) rest
    ∙ cond_nested (is_some (decode t source)) _ _
    ∙ ap (λ b. cond b (is_some (decode t (drop (item_size t * suc k) source))) false) (sym (is_some-both (decode t source) (items t (drop (item_size t) source) k) (λ x xs. x ∷ xs)))

-- one item more that is one
pub some_more : (t : ItemType) (source : List ℕ) (from at k size : ℕ) (x : List ℤ) → size ≡ item_size t → at ≡ from + size * k → is_some (items t (drop from source) k) ≡ true → Some x ≡ decode t (drop at source) → is_some (items t (drop from source) (k + 1)) ≡ true
some_more t source from at k size x e p good d =
    rw (add-one, items_last t (drop from source) k, good, drop-drop (item_size t * k) from source, ← e, ← p, ← d) refl

pub all_lifted : (t : ItemType) (source : List ℕ) (n : ℕ) (old new : List (List ℤ)) (o : Option (List (List ℤ))) → with_front new (items t source (n - n)) ≡ with_front old o → IsSomeAnd o (λ xs. new ≡ old ++ xs)
unfolding items
all_lifted t source n old new o h =
    let z : n - n ≡ 0 = omega arith in
    both o (sym (ap Some (append-nil new)) ∙ rw z at h)
  where
    both : (o : Option (List (List ℤ))) → Some new ≡ with_front old o → IsSomeAnd o (λ xs. new ≡ old ++ xs)
    both None e = cc
    both (Some xs) e = cc

-- what becomes of bytes where these items are stored from their front on
abbrev stores : ItemType → List (List ℤ) → List ℕ → List ℕ
stores t xs bytes = stored t bytes xs

-- one item lowered
pub stored_step : (t : ItemType) (m : List ℕ) (at k size : ℕ) (xs : List (List ℤ)) (x : List ℤ) → k < length xs → x ≡ get_or xs k x → size ≡ item_size t → at ≤ length m → from_on (stores t (drop (k + 1) xs)) (at + size) (from_on (λ b. encode t b x) at m) ≡ from_on (stores t (drop k xs)) at m
unfolding stored
stored_step t m at k size xs x h e s less =
    let here : drop k xs ≡ x ∷ drop (k + 1) xs = drop_more xs k x h ∙ ap (λ y. y ∷ drop (k + 1) xs) (sym e) in
    rw (here, ← s) (sweep_more m at size (encode t (drop at m) x) (λ b. stored t b (drop (k + 1) xs)) less)

module _ (t : ItemType) (size : ℕ) (xs : List (List ℤ)) where
  -- what becomes of bytes where the items from one on are stored in their places
  abbrev pub stores_from : ℕ → List ℕ → List ℕ
  stores_from k bytes = take (size * k) bytes ++ stored t (drop (size * k) bytes) (drop k xs)

  -- one of them is stored, and then the others behind it
  pub stored_next : (m new : List ℕ) (k : ℕ) (x : List ℤ) → k < length xs → x ≡ get_or xs k x → size ≡ item_size t → size * length xs ≤ length m → new ≡ stored_at t m (size * k) (x ∷ []) → stores_from (k + 1) new ≡ stores_from k m
  unfolding stored
  stored_next m new k x h e s room n =
      let at = size * k in
      let more : size * (k + 1) ≡ at + size = grind arith in
      let less : at ≤ length m = omega (arith, item_fits k (length xs) size h, room) in
      let is : new ≡ from_on (λ b. encode t b x) at m = n ∙ ap (λ l. take at m ++ l) (take-append-drop (item_size t) (encode t (drop at m) x)) in
      ap (λ j. from_on (stores t (drop (k + 1) xs)) j new) more ∙ ap (from_on (stores t (drop (k + 1) xs)) (at + size)) is ∙ stored_step t m at k size xs x h e s less

pub stored_end : (t : ItemType) (m : List ℕ) (at k : ℕ) (xs : List (List ℤ)) → length xs ≤ k → take at m ++ stored t (drop at m) (drop k xs) ≡ m
unfolding stored
stored_end t m at k xs h = rw (drop_all k xs h) (take-append-drop at m)

pub AreItems_step : (t : ItemType) (k : ℕ) (xs : List (List ℤ)) (x : List ℤ) → k < length xs → x ≡ get_or xs k x → AreItems t (drop k xs) → FitsItem t x × AreItems t (drop (k + 1) xs)
AreItems_step t k xs x h e f =
    let here : drop k xs ≡ x ∷ drop (k + 1) xs = drop_more xs k x h ∙ ap (λ y. y ∷ drop (k + 1) xs) (sym e) in
    rw here at f

regroup : {A : Type 0} (o : Option A) (p q : Option (List A)) → option_and_then (λ x. option_map (λ xs. x ∷ xs) (option_and_then (λ xs. option_map (λ ys. xs ++ ys) q) p)) o ≡ option_and_then (λ xs. option_map (λ ys. xs ++ ys) q) (option_and_then (λ x. option_map (λ xs. x ∷ xs) p) o)
regroup None p q = refl
regroup (Some x) None q = refl
regroup (Some x) (Some xs) None = refl
regroup (Some x) (Some xs) (Some ys) = refl

map_nil : {A : Type 0} (o : Option (List A)) → o ≡ option_map (λ ys. [] ++ ys) o
map_nil None = refl
map_nil (Some xs) = refl

-- n + m items are n items and then m
pub items-add : (t : ItemType) (bytes : List ℕ) (n m : ℕ) → items t bytes (n + m) ≡ option_and_then (λ xs. option_map (λ ys. xs ++ ys) (items t (drop (item_size t * n) bytes) m)) (items t bytes n)
unfolding items
items-add t bytes zero m =
    let e : zero + m ≡ m = omega arith in
    let z : item_size t * zero ≡ 0 = omega arith in
    rw (e, z) (map_nil (items t bytes m))
items-add t bytes (suc n) m =
    let w = item_size t in
    let e : suc n + m ≡ suc (n + m) = omega arith in
    let f : w * suc n ≡ w + w * n = omega arith in
    rw (e, f, items-add t (drop w bytes) n m, drop-drop (w * n) w bytes)
    (regroup (decode t bytes) (items t (drop w bytes) n) (items t (drop (w + w * n) bytes) m))

pub both-is_some : {A : Type 0} (o p : Option (List A)) → is_some (option_and_then (λ xs. option_map (λ ys. xs ++ ys) p) o) ≡ is_some o && is_some p
both-is_some None p = refl
both-is_some (Some xs) None = refl
both-is_some (Some xs) (Some ys) = refl

-- n + m items are items where the n are and the m are
pub good_add : (t : ItemType) (source : List ℕ) (from n m : ℕ) → is_some (items t (drop from source) (n + m)) ≡ is_some (items t (drop from source) n) && is_some (items t (drop (from + item_size t * n) source) m)
good_add t source from n m =
    rw (items-add t (drop from source) n m, drop-drop (item_size t * n) from source)
    (both-is_some (items t (drop from source) n) (items t (drop (from + item_size t * n) source) m))

pub block_fits : (size done block n : ℕ) → done + block ≤ n → size * done + size * block ≤ size * n
block_fits size done block n h = omega (arith, mul-le-mul_left size h)

pub no_items : (t : ItemType) (source : List ℕ) → is_some (items t source 0) ≡ true
unfolding items
no_items t source = refl
