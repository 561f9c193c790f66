-- The items at the front of bytes, up to the first that is none: each is the one that is found behind
-- so many, and so many of them are items; how many they are, and what lies behind some of them.
use Rattle.std.proofs.Common.{◌≡◌, ℕ, zero, suc, ◌+◌, ◌*◌, ◌-◌, ◌<◌, ◌≤◌, min, ℤ, Bool, true, false, List, [], ◌∷◌, length, take, drop, Option, Some, None, refl, sym, ap, subst, ◌∙◌, arith, ⊎_elim}
use Rattle.std.proofs.lemmas.Bool.{cases_lt}
use Rattle.std.proofs.lemmas.List.{drop-drop, take_all, length-take}
use Rattle.std.specs.Prelude.{slice_get, option_and_then, is_some, nat_eq, ◌||◌, ◌&&◌}
use Rattle.std.specs.List.{list_any}
use Rattle.std.proofs.lemmas.Bool.Decides.{nat_tests}
use Rattle.std.specs.Option.{option_map}
use Rattle.strm_codes.specs.ItemTypes.{item_size, ItemType, fields_type}
use Rattle.strm_codes.specs.Sameness.{same_scalar}
use Rattle.strm_codes.specs.declared.scalars.Scalar.{Scalar}
use Rattle.strm_codes.specs.declared.scalars.Scalar.TheVariants.{Char}
use Rattle.strm_memory.specs.Items.{items, items_at, good_then, good_items}
use Rattle.strm_memory.specs.Loads.{decode}
use Rattle.strm_memory.proofs.CopyLemmas.{HasNoChar, items-no_char}
use Rattle.strm_memory.proofs.ItemLemmas.{good_add}

-- an item: the numbers of its fields
abbrev Item : Type 0
Item = List ℤ

-- one item lies where it is decoded
pub one_there : (t : ItemType) (bytes : List ℕ) (x : Item) → decode t bytes ≡ Some x → items t bytes 1 ≡ Some (x ∷ [])
unfolding items
one_there t bytes x e = ap (option_and_then (λ y. option_map (λ ys. y ∷ ys) (Some []))) e

-- what is found at the front, and what stands behind it
length-then : (d : Option Item) (rest : List Item) (n : ℕ) → length rest ≤ n → length (good_then d rest) ≤ suc n
length-then None rest n h = omega arith
length-then (Some x) rest n h = omega (arith, h)

first_then : (d : Option Item) (rest : List Item) → d ≡ slice_get (good_then d rest) 0
first_then None rest = refl
first_then (Some x) rest = refl

next_then : (d next : Option Item) (rest : List Item) (k : ℕ) → suc k ≤ length (good_then d rest) → (k ≤ length rest → next ≡ slice_get rest k) → next ≡ slice_get (good_then d rest) (suc k)
next_then None next rest k h e = absurd (omega (arith, h))
next_then (Some x) next rest k h e = e (omega (arith, h))

take_then : (d : Option Item) (rest : List Item) (k : ℕ) (o : Option (List Item)) → suc k ≤ length (good_then d rest) → (k ≤ length rest → o ≡ Some (take k rest)) → option_and_then (λ x. option_map (λ xs. x ∷ xs) o) d ≡ Some (take (suc k) (good_then d rest))
take_then None rest k o h e = absurd (omega (arith, h))
take_then (Some x) rest k o h e = ap (option_map (λ xs. x ∷ xs)) (e (omega (arith, h)))

counted_then : (d : Option Item) (rest : List Item) (k : ℕ) (o : Option (List Item)) (xs : List Item) → option_and_then (λ x. option_map (λ ys. x ∷ ys) o) d ≡ Some xs → ((ys : List Item) → o ≡ Some ys → k ≤ length rest) → suc k ≤ length (good_then d rest)
counted_then None rest k o xs e f = cc
counted_then (Some x) rest k None xs e f = cc
counted_then (Some x) rest k (Some ys) xs e f = omega (arith, f ys refl)

-- no more than were looked at
pub length-good_items : (t : ItemType) (bytes : List ℕ) (n : ℕ) → length (good_items t bytes n) ≤ n
unfolding good_items
length-good_items t bytes zero = omega arith
length-good_items t bytes (suc n) =
    length-then (decode t bytes) (good_items t (drop (item_size t) bytes) n) n (length-good_items t (drop (item_size t) bytes) n)

-- what is found behind so many of them
pub behind_good : (t : ItemType) (bytes : List ℕ) (n k : ℕ) → k < n → k ≤ length (good_items t bytes n) → decode t (drop (item_size t * k) bytes) ≡ slice_get (good_items t bytes n) k
unfolding good_items
behind_good t bytes zero k l h = absurd (omega (arith, l))
behind_good t bytes (suc n) zero l h =
    let none : item_size t * 0 ≡ 0 = omega arith in
    ap (λ j. decode t (drop j bytes)) none ∙ first_then (decode t bytes) (good_items t (drop (item_size t) bytes) n)
behind_good t bytes (suc n) (suc k) l h =
    let w = item_size t in
    let more : w * suc k ≡ w + w * k = grind arith in
    next_then (decode t bytes) (decode t (drop (w * suc k) bytes)) (good_items t (drop w bytes) n) k h
    (λ m. ap (λ j. decode t (drop j bytes)) more ∙ ap (decode t) (sym (drop-drop (w * k) w bytes))
    ∙ behind_good t (drop w bytes) n k (omega (arith, l)) m)

-- the first so many of them are items
pub good_take : (t : ItemType) (bytes : List ℕ) (n k : ℕ) → k ≤ length (good_items t bytes n) → items t bytes k ≡ Some (take k (good_items t bytes n))
unfolding items good_items
good_take t bytes n zero h = refl
good_take t bytes zero (suc k) h = absurd (omega (arith, h))
good_take t bytes (suc n) (suc k) h =
    take_then (decode t bytes) (good_items t (drop (item_size t) bytes) n) k (items t (drop (item_size t) bytes) k) h
    (λ m. good_take t (drop (item_size t) bytes) n k m)

-- where so many of them are items, there are as many
pub good_counted : (t : ItemType) (bytes : List ℕ) (n k : ℕ) (xs : List Item) → k ≤ n → items t bytes k ≡ Some xs → k ≤ length (good_items t bytes n)
unfolding items good_items
good_counted t bytes n zero xs l e = omega arith
good_counted t bytes zero (suc k) xs l e = absurd (omega (arith, l))
good_counted t bytes (suc n) (suc k) xs l e =
    counted_then (decode t bytes) (good_items t (drop (item_size t) bytes) n) k (items t (drop (item_size t) bytes) k) xs e
    (λ ys p. good_counted t (drop (item_size t) bytes) n k ys (omega (arith, l)) p)

-- they are items themselves
pub good_are : (t : ItemType) (bytes : List ℕ) (n : ℕ) → items t bytes (length (good_items t bytes n)) ≡ Some (good_items t bytes n)
good_are t bytes n =
    let g = good_items t bytes n in
    good_take t bytes n (length g) (omega arith) ∙ ap Some (take_all (length g) g (omega arith))

-- HOW MANY THEY ARE

-- at least as many as are items
good_least : (t : ItemType) (bytes : List ℕ) (n k : ℕ) → k ≤ n → is_some (items t bytes k) ≡ true → k ≤ length (good_items t bytes n)
good_least t bytes n k l e = go (items t bytes k) refl e
  where
    go : (o : Option (List Item)) → items t bytes k ≡ o → is_some o ≡ true → k ≤ length (good_items t bytes n)
    go None p q = cc
    go (Some xs) p q = good_counted t bytes n k xs l p

-- where all are items, all
pub good_all : (t : ItemType) (bytes : List ℕ) (n : ℕ) → is_some (items t bytes n) ≡ true → length (good_items t bytes n) ≡ n
good_all t bytes n e = omega (arith, good_least t bytes n n (omega arith) e, length-good_items t bytes n)

-- none stands past the end only
pub past_none : {A : Type 0} (k : ℕ) (xs : List A) → slice_get xs k ≡ None → length xs ≤ k
past_none k [] e = omega arith
past_none zero (x ∷ xs) e = cc
past_none (suc k) (x ∷ xs) e = omega (arith, past_none k xs e)

one_none : (t : ItemType) (bytes : List ℕ) → is_some (items t bytes 1) ≡ false → decode t bytes ≡ None
unfolding items
one_none t bytes e = go (decode t bytes) refl e
  where
    go : (o : Option Item) → decode t bytes ≡ o → is_some (option_and_then (λ x. option_map (λ xs. x ∷ xs) (Some [])) o) ≡ false → decode t bytes ≡ None
    go None p q = p
    go (Some x) p q = cc

-- where the item behind some is none, those
pub good_up_to : (t : ItemType) (bytes : List ℕ) (n k : ℕ) → k < n → is_some (items t bytes k) ≡ true → is_some (items t (drop (item_size t * k) bytes) 1) ≡ false → length (good_items t bytes n) ≡ k
good_up_to t bytes n k l e b =
    let least = good_least t bytes n k (omega (arith, l)) e in
    let none = sym (behind_good t bytes n k l least) ∙ one_none t (drop (item_size t * k) bytes) b in
    omega (arith, least, past_none k (good_items t bytes n) none)

-- so many items are found in blocks of `most`: all, or the next block has a bad one
pub record InBlocks (t : ItemType) (bytes : List ℕ) (from count most found : ℕ) : Type 0 where
  pub within : found ≤ count
  pub good : is_some (items_at t bytes from found) ≡ true
  pub bad : found < count → is_some (items_at t bytes (from + item_size t * found) (min most (count - found))) ≡ false

module _ (t : ItemType) (bytes : List ℕ) (from count most : ℕ) where
  -- all are items where all are found
  pub good_blocks : (found : ℕ) → InBlocks t bytes from count most found → nat_eq found count ≡ is_some (items_at t bytes from count)
  good_blocks found f =
      let w = item_size t in
      ⊎_elim
      (λ few.
      let block = min most (count - found) in
      let rest = count - (found + block) in
      let parts : count ≡ found + (block + rest) = omega (arith, few) in
      let other : nat_eq found count ≡ false = grind (arith, nat_tests) in
      let none = good_add t bytes (from + w * found) block rest ∙ ap (λ b. b && is_some (items t (drop (from + w * found + w * block) bytes) rest)) (f.bad few) in
      other ∙ sym (ap (λ k. is_some (items t (drop from bytes) k)) parts ∙ good_add t bytes from found (block + rest) ∙ rw (f.good, none) refl))
      (λ whole.
      let same : found ≡ count = omega (arith, f.within, whole) in
      let is : nat_eq found count ≡ true = grind (arith, nat_tests) in
      is ∙ sym (subst (λ k. is_some (items t (drop from bytes) k) ≡ true) same f.good))
      (cases_lt found count)

  -- where the next block is looked at one by one
  module _ (done block more : ℕ) (is : block ≡ min most (count - done)) (f : InBlocks t bytes from count most done) (g : InBlocks t bytes (from + item_size t * done) block 1 more) where
    both_good : is_some (items t (drop from bytes) (done + more)) ≡ true
    both_good = good_add t bytes from done more ∙ rw (f.good, g.good) refl

    then_bad : more < block → done + more ≡ length (good_items t (drop from bytes) count)
    then_bad few =
        let w = item_size t in
        let one : min 1 (block - more) ≡ 1 = omega (arith, few) in
        let place : from + w * done + w * more ≡ from + w * (done + more) = grind arith in
        let here : is_some (items t (drop (w * (done + more)) (drop from bytes)) 1) ≡ false = rw (drop-drop (w * (done + more)) from bytes, ← place, ← one) (g.bad few) in
        sym (good_up_to t (drop from bytes) count (done + more) (omega (arith, is, few, f.within)) both_good here)

    then_all : block ≤ more → done + more ≡ length (good_items t (drop from bytes) count)
    then_all whole =
        ⊎_elim
        (λ left.
        let same : more ≡ block = omega (arith, whole, g.within) in
        let here : is_some (items t (drop (from + item_size t * done) bytes) block) ≡ true = subst (λ k. is_some (items t (drop (from + item_size t * done) bytes) k) ≡ true) same g.good in
        let no : is_some (items t (drop (from + item_size t * done) bytes) block) ≡ false = ap (λ k. is_some (items t (drop (from + item_size t * done) bytes) k)) is ∙ f.bad left in
        absurd (never (sym here ∙ no)))
        (λ end.
        let same : done + more ≡ count = omega (arith, end, f.within, is, g.within) in
        same ∙ sym (good_all t (drop from bytes) count (subst (λ k. is_some (items t (drop from bytes) k) ≡ true) same both_good)))
        (cases_lt done count)
      where
        never : true ≡ false → ⊥
        never e = cc

    -- both are the good ones
    pub good_tested : done + more ≡ length (good_items t (drop from bytes) count)
    good_tested = ⊎_elim then_bad then_all (cases_lt more block)

-- where no field is a character, all
no_char : (ss : List Scalar) → list_any (λ s. same_scalar s Char) ss ≡ false → HasNoChar ss
no_char [] e = tt
no_char (s ∷ ss) e =
    let both = neither (same_scalar s Char) (list_any (λ s. same_scalar s Char) ss) e in
    ((λ c. differ (sym (subst (λ t. same_scalar t Char ≡ false) c both.0))), no_char ss both.1)
  where
    neither : (a b : Bool) → (a || b) ≡ false → (a ≡ false) × (b ≡ false)
    neither true b e = cc
    neither false b e = (refl, e)

    differ : false ≡ true → ⊥
    differ e = cc

pub good_no_char : (ss : List Scalar) (bytes : List ℕ) (n : ℕ) → list_any (λ s. same_scalar s Char) ss ≡ false → n ≡ length (good_items (fields_type ss) bytes n)
good_no_char ss bytes n e = sym (good_all (fields_type ss) bytes n (items-no_char ss n bytes (no_char ss e)))

-- BEHIND SOME OF THEM

drop_then : (d : Option Item) (rest : List Item) (k : ℕ) (xs : List Item) → suc k ≤ length (good_then d rest) → (k ≤ length rest → drop k rest ≡ xs) → drop (suc k) (good_then d rest) ≡ xs
drop_then None rest k xs h e = absurd (omega (arith, h))
drop_then (Some x) rest k xs h e = e (omega (arith, h))

-- the others are those behind the bytes of some
pub good_behind : (t : ItemType) (bytes : List ℕ) (n k : ℕ) → k ≤ length (good_items t bytes n) → drop k (good_items t bytes n) ≡ good_items t (drop (item_size t * k) bytes) (n - k)
unfolding good_items
good_behind t bytes n zero h =
    let none : item_size t * 0 ≡ 0 = omega arith in
    let whole : n - 0 ≡ n = omega arith in
    rw (none, whole) refl
good_behind t bytes zero (suc k) h = absurd (omega (arith, h))
good_behind t bytes (suc n) (suc k) h =
    let w = item_size t in
    let more : w * suc k ≡ w + w * k = grind arith in
    let left : suc n - suc k ≡ n - k = omega arith in
    drop_then (decode t bytes) (good_items t (drop w bytes) n) k (good_items t (drop (w * suc k) bytes) (suc n - suc k)) h
    (λ m. good_behind t (drop w bytes) n k m ∙ rw (drop-drop (w * k) w bytes, ← more, ← left) refl)

then_first : (d : Option Item) (rest : List Item) (k : ℕ) → good_then d (take k rest) ≡ take (suc k) (good_then d rest)
then_first None rest k = refl
then_first (Some x) rest k = refl

-- of fewer the first
good_first : (t : ItemType) (bytes : List ℕ) (n k : ℕ) → k ≤ n → good_items t bytes k ≡ take k (good_items t bytes n)
unfolding good_items
good_first t bytes n zero h = refl
good_first t bytes zero (suc k) h = absurd (omega (arith, h))
good_first t bytes (suc n) (suc k) h =
    ap (good_then (decode t bytes)) (good_first t (drop (item_size t) bytes) n k (omega (arith, h)))
    ∙ then_first (decode t bytes) (good_items t (drop (item_size t) bytes) n) k

-- of so many behind some, as many as are left
pub length-good_behind : (t : ItemType) (bytes : List ℕ) (n k count : ℕ) → k ≤ length (good_items t bytes n) → k + count ≤ n → length (good_items t (drop (item_size t * k) bytes) count) ≡ min count (length (drop k (good_items t bytes n)))
length-good_behind t bytes n k count h l =
    let behind = drop (item_size t * k) bytes in
    ap length (good_first t behind (n - k) count (omega (arith, l)))
    ∙ length-take count (good_items t behind (n - k))
    ∙ ap (λ xs. min count (length xs)) (sym (good_behind t bytes n k h))
