-- The items that an offer lends.
use Rattle.std.proofs.Common.{◌≡◌, ℕ, zero, suc, ◌+◌, ◌*◌, ◌-◌, ◌<◌, ◌≤◌, List, [], ◌∷◌, length, take, drop, min, Bool, true, false, Some, None, refl, sym, ap, subst, ◌∙◌, arith, length-drop}
use Rattle.std.proofs.lemmas.Bool.Decides.{nat_tests}
use Rattle.std.proofs.lemmas.List.{drop-map, drop-drop, drop-take, take-take, take_all, length-take-le}
use Rattle.std.proofs.lemmas.Option.{slice_get_within, slice_get_past}
use Rattle.std.specs.Bool.{then_some}
use Rattle.std.specs.Prelude.{slice_get, nat_lt, ◌||◌, ◌&&◌, if◌then◌else◌, IsTrue}
use Rattle.strm_codes.specs.Layout.{item_type, byte_type}
use Rattle.strm_codes.specs.ItemTypes.{item_size, ItemType}
use Rattle.strm_codes.specs.declared.payloads.Payload.{Payload}
use Rattle.strm_codes.specs.declared.payloads.Payload.TheVariants.{One}
use Rattle.strm_codes.specs.declared.scalars.Scalar.TheVariants.{U8}
use Rattle.strm_codes.specs.Begins.{FitsItem}
use Rattle.strm_memory.specs.Bytes.{IsBytes, bytes_at}
use Rattle.strm_memory.specs.Items.{items, byte_items, good_items}
use Rattle.strm_memory.specs.Loads.{decode}
use Rattle.strm_memory.proofs.ItemLemmas.{item_fits, block_fits}
use Rattle.strm_memory.proofs.AppendLemmas.{items-bytes, items-same}
use Rattle.strm_memory.proofs.ByteLemmas.{IsBytes-drop}
use Rattle.strm_memory.proofs.RegionLemmas.{AreItems-items}
use Rattle.strm_memory.specs.Linear.{LinearMemory}
use Rattle.strm_buffers.specs.Listing.{Item, TypedItems, listed, items_in}
use Rattle.strm_buffers.specs.Offers.{Offered, items_lent, item_behind, good_lent, left_of, is_cut, asks_bad, after_taking, IsSource, IsBadNext, IsOffer, Shows}
use Rattle.strm_buffers.specs.Tells.{first_lent}
use Rattle.strm_buffers.proofs.ListingLemmas.{Lie, lie_made}
use Rattle.strm_memory.proofs.GoodLemmas.{length-good_items, behind_good, good_take, good_counted, one_there, past_none, length-good_behind}
use Rattle.strm_buffers.specs.declared.sources.Source.{Source}
use Rattle.strm_buffers.specs.declared.sources.Source.TheVariants.{Region, Listed}

-- no more than 32 bits count them
pub lent_few : (payload : Payload) (source : Source) → IsSource payload source → items_lent source < 4294967296
lent_few payload (Region memory address count) h = h.1
lent_few payload (Listed items) h = omega (arith, h.1)

pub get_past : {A : Type 0} (k : ℕ) (xs : List A) → length xs ≤ k → None ≡ slice_get xs k
get_past k [] h = refl
get_past zero (x ∷ xs) h = absurd (omega arith)
get_past (suc k) (x ∷ xs) h = get_past k xs (omega (arith, h))

-- UP TO THE FIRST BAD ONE

-- what was lent up to the first bad one is no more than was lent
pub good_most : (ss : ItemType) (source : Source) → length (good_lent ss source) ≤ items_lent source
good_most ss (Region memory address count) = length-good_items ss (drop address memory.bytes) count
good_most ss (Listed items) = omega arith

-- the item behind so many of it
pub behind_lent : (ss : ItemType) (source : Source) (n : ℕ) → n ≤ length (good_lent ss source) → item_behind ss source n ≡ slice_get (good_lent ss source) n
behind_lent ss (Region memory address count) n h = found (nat_lt n count) refl
  where
    found : (b : Bool) → nat_lt n count ≡ b → (if b then decode ss (drop (address + item_size ss * n) memory.bytes) else None) ≡ slice_get (good_items ss (drop address memory.bytes) count) n
    found true e =
        let less : n < count = grind (arith, nat_tests) in
        ap (decode ss) (sym (drop-drop (item_size ss * n) address memory.bytes)) ∙ behind_good ss (drop address memory.bytes) count n less h
    found false e =
        let past : count ≤ n = grind (arith, nat_tests) in
        get_past n (good_items ss (drop address memory.bytes) count) (omega (arith, past, length-good_items ss (drop address memory.bytes) count))
behind_lent ss (Listed items) n h = refl

-- the first so many of it
pub first_good : (ss : ItemType) (source : Source) (n : ℕ) → n ≤ length (good_lent ss source) → first_lent ss source n ≡ take n (good_lent ss source)
first_good ss (Region memory address count) n h = ap listed (good_take ss (drop address memory.bytes) count n h)
first_good ss (Listed items) n h = refl

pub length-first_lent : (ss : ItemType) (source : Source) (n : ℕ) → n ≤ length (good_lent ss source) → length (first_lent ss source n) ≡ n
length-first_lent ss source n h = ap length (first_good ss source n h) ∙ length-take-le n (good_lent ss source) h

-- one more is good
pub one_more_good : (ss : ItemType) (source : Source) (n : ℕ) (x : Item) → n ≤ length (good_lent ss source) → item_behind ss source n ≡ Some x → n < length (good_lent ss source)
one_more_good ss source n x h e = slice_get_within (good_lent ss source) n x (sym (behind_lent ss source n h) ∙ e)

-- or so many are all
pub all_good : (ss : ItemType) (source : Source) (n : ℕ) → n ≤ length (good_lent ss source) → item_behind ss source n ≡ None → n ≡ length (good_lent ss source)
all_good ss source n h e = omega (arith, h, past_none n (good_lent ss source) (sym (behind_lent ss source n h) ∙ e))

-- what was lifted from bytes is an item
pub lifted_fits : (ss : ItemType) (bytes : List ℕ) (from : ℕ) (there : Bool) (x : Item) → IsBytes bytes → then_some there x ≡ decode ss (drop from bytes) → IsTrue there → FitsItem ss x
lifted_fits ss bytes from true x b e t =
    (AreItems-items ss (drop from bytes) 1 (x ∷ []) (IsBytes-drop bytes from b) (one_there ss (drop from bytes) x (sym e))).0
lifted_fits ss bytes from false x b e t = cc

-- no byte is bad
pub all_bytes : (source : Source) → IsSource (One U8) source → length (good_lent byte_type source) ≡ items_lent source
all_bytes (Region memory address count) h =
    let room : count ≤ length (drop address memory.bytes) = omega (arith, h.0, length-drop address memory.bytes) in
    let least = good_counted byte_type (drop address memory.bytes) count count _ (omega arith) (items-bytes (drop address memory.bytes) count room) in
    omega (arith, least, length-good_items byte_type (drop address memory.bytes) count)
all_bytes (Listed items) h = refl

module _ (payload : Payload) (source : Source) (taken count : ℕ) (memory : LinearMemory) (address all : ℕ) (e : source ≡ Region memory address all) (l : taken + count ≤ items_lent source) where
  abbrev behind_taken : ℕ
  behind_taken = address + item_size (item_type payload) * taken

  -- so many are left behind those that are taken
  pub count_left : taken ≤ length (good_lent (item_type payload) source) → length (good_items (item_type payload) (drop behind_taken memory.bytes) count) ≡ min count (length (drop taken (good_lent (item_type payload) source)))
  count_left h =
      let ss = item_type payload in
      let h' = subst (λ (s : Source). taken ≤ length (good_lent ss s)) e h in
      let l' = subst (λ (s : Source). taken + count ≤ items_lent s) e l in
      ap (λ b. length (good_items ss b count)) (sym (drop-drop (item_size ss * taken) address memory.bytes))
      ∙ length-good_behind ss (drop address memory.bytes) all taken count h' l'
      ∙ ap (λ (s : Source). min count (length (drop taken (good_lent ss s)))) (sym e)

  -- where they lie
  pub left_fits : IsSource payload source → behind_taken + item_size (item_type payload) * count ≤ length memory.bytes
  left_fits h =
      let h' = subst (λ (s : Source). IsSource payload s) e h in
      let l' = subst (λ (s : Source). taken + count ≤ items_lent s) e l in
      omega (arith, block_fits (item_size (item_type payload)) taken count all l', h'.0)

-- an offer of which more good items are taken is one
pub passed : (payload : Payload) (source : Source) (taken n : ℕ) (bad : Bool) → IsOffer payload source taken bad → taken + n ≤ length (good_lent (item_type payload) source) → IsOffer payload source (taken + n) bad
passed payload source taken n bad o h = record {
  holds = o.holds;
  most = omega (arith, h, good_most (item_type payload) source);
  good = h;
  next = λ b.
      let at = o.next b in
      let all = all_good (item_type payload) source taken o.good at.1 in
      let same : taken ≡ taken + n = omega (arith, all, h) in
      subst (IsBadNext (item_type payload) source) same at;
}

pub none_bad : (payload : Payload) (source : Source) (n : ℕ) → payload ≡ One U8 → IsSource payload source → n ≤ length (good_lent (item_type payload) source) → IsBadNext (item_type payload) source n → ⊥
none_bad payload source n p h g b =
    let P : Payload → Type 0 = λ q. IsSource q source → n ≤ length (good_lent (item_type q) source) → IsBadNext (item_type q) source n → ⊥ in
    subst P (sym p) (λ h g b. absurd (omega (arith, all_bytes source h, all_good byte_type source n g b.1, b.0))) h g b

pub good_bytes : (payload : Payload) (source : Source) (n : ℕ) → payload ≡ One U8 → IsSource payload source → n ≤ items_lent source → n ≤ length (good_lent (item_type payload) source)
good_bytes payload source n p h l =
    let P : Payload → Type 0 = λ q. IsSource q source → n ≤ length (good_lent (item_type q) source) in
    subst P (sym p) (λ h. omega (arith, all_bytes source h, l)) h

-- what a memory lends as bytes is what is left, up to the first bad one: none is bad
region_left : (memory : LinearMemory) (address count taken : ℕ) → IsSource (One U8) (Region memory address count) → taken ≤ count → byte_items (bytes_at memory.bytes (address + taken) (count - taken)) ≡ drop taken (good_items byte_type (drop address memory.bytes) count)
region_left memory address count taken h m =
    let g = good_items byte_type (drop address memory.bytes) count in
    let room : count ≤ length (drop address memory.bytes) = omega (arith, h.0, length-drop address memory.bytes) in
    let size : length g ≡ count = all_bytes (Region memory address count) h in
    let all : Some (take count g) ≡ Some (byte_items (take count (drop address memory.bytes))) = sym (good_take byte_type (drop address memory.bytes) count count (omega (arith, size))) ∙ items-bytes (drop address memory.bytes) count room in
    let is : take count g ≡ byte_items (take count (drop address memory.bytes)) = ap listed all in
    let whole : g ≡ byte_items (take count (drop address memory.bytes)) = sym (take_all count g (omega (arith, size))) ∙ is in
    let parts : count ≡ taken + (count - taken) = omega (arith, m) in
    let behind : drop taken (take count (drop address memory.bytes)) ≡ bytes_at memory.bytes (address + taken) (count - taken) = ap (λ k. drop taken (take k (drop address memory.bytes))) parts ∙ drop-take taken (count - taken) (drop address memory.bytes) ∙ ap (take (count - taken)) (drop-drop taken address memory.bytes) in
    sym (ap byte_items behind) ∙ sym (drop-map _ taken (take count (drop address memory.bytes))) ∙ ap (drop taken) (sym whole)

pub shows_left : (payload : Payload) (source : Source) (taken : ℕ) (bytes : List ℕ) → payload ≡ One U8 → IsSource payload source → taken ≤ items_lent source → Shows source taken bytes → byte_items bytes ≡ drop taken (good_lent (item_type payload) source)
shows_left payload (Region memory address count) taken bytes p h m s =
    let h' = subst (λ q. IsSource q (Region memory address count)) p h in
    ap byte_items s ∙ region_left memory address count taken h' m ∙ ap (λ q. drop taken (good_items (item_type q) (drop address memory.bytes) count)) (sym p)
shows_left payload (Listed items) taken bytes p h m s = s

-- an offer of which one more item is taken is one
pub offer_next : (payload : Payload) (source : Source) (n : ℕ) (bad : Bool) (x : Item) → IsOffer payload source n bad → item_behind (item_type payload) source n ≡ Some x → IsOffer payload source (n + 1) bad
offer_next payload source n bad x o e =
    let ss = item_type payload in
    let more = one_more_good ss source n x o.good e in
    record {
      holds = o.holds;
      most = omega (arith, more, good_most ss source);
      good = omega (arith, more);
      next = λ b. let q : None ≡ Some x = sym (o.next b).1 ∙ e in cc;
    }

-- and one of which none could be
pub offer_stop : (payload : Payload) (source : Source) (n : ℕ) (bad : Bool) → IsOffer payload source n bad → item_behind (item_type payload) source n ≡ None → IsOffer payload source n (bad || nat_lt n (items_lent source))
offer_stop payload source n bad o e = record {
  holds = o.holds;
  most = o.most;
  good = o.good;
  next = λ b. (asked bad b o.next, e);
}
  where
    asked : (old : Bool) → (old || nat_lt n (items_lent source)) ≡ true → (old ≡ true → IsBadNext (item_type payload) source n) → n < items_lent source
    asked true b f = (f refl).0
    asked false b f = grind (arith, nat_tests)

both_true : (a b : Bool) → (a && b) ≡ true → (a ≡ true) × (b ≡ true)
both_true true true e = (refl, refl)
both_true true false e = cc
both_true false b e = cc

-- and one of which so many were wanted
module _ (o : Offered) (wanted : ℕ) (s : IsOffer o.payload o.source o.taken o.bad) where
  abbrev ends : ℕ
  ends = o.taken + min wanted (length (left_of o))

  stops : (was : Bool) → o.bad ≡ was → (was || asks_bad wanted o) ≡ true → IsBadNext (item_type o.payload) o.source ends
  stops true p q =
      let ss = item_type o.payload in
      let b = s.next p in
      let all = all_good ss o.source o.taken s.good b.1 in
      let here : ends ≡ o.taken = omega (arith, all, length-drop o.taken (good_lent ss o.source)) in
      subst (λ n. IsBadNext ss o.source n) (sym here) b
  stops false p q =
      let ss = item_type o.payload in
      let g = good_lent ss o.source in
      let both = both_true (is_cut ss o.source) (nat_lt (length (left_of o)) wanted) q in
      let cut : length g < items_lent o.source = grind (arith, nat_tests) in
      let few : length (left_of o) < wanted = grind (arith, nat_tests) in
      let here : ends ≡ length g = omega (arith, few, s.good, length-drop o.taken g) in
      let past : item_behind ss o.source (length g) ≡ None = behind_lent ss o.source (length g) (omega arith) ∙ slice_get_past g (length g) (omega arith) in
      subst (λ n. IsBadNext ss o.source n) (sym here) (cut, past)

  pub offer_taken : IsOffer o.payload o.source (after_taking wanted o).taken (after_taking wanted o).bad
  offer_taken =
      let ss = item_type o.payload in
      let good : ends ≤ length (good_lent ss o.source) = omega (arith, s.good, length-drop o.taken (good_lent ss o.source)) in
      record {
        holds = s.holds;
        most = omega (arith, good, good_most ss o.source);
        good = good;
        next = λ b. stops o.bad refl b;
      }

-- the bytes of those that are taken of a memory
module _ (payload : Payload) (source : Source) (memory : LinearMemory) (address count taken : ℕ) (bad : Bool) (o : IsOffer payload source taken bad) (e : source ≡ Region memory address count) (b : IsBytes memory.bytes) where
  pub taken_lie : (new : List ℕ) → let w = item_size (item_type payload) * taken in new ≡ take w (drop address memory.bytes) → length new ≡ w → Lie (item_type payload) new 0 taken (first_lent (item_type payload) source taken)
  taken_lie new is size =
      let ss = item_type payload in
      let lent = drop address memory.bytes in
      let w = item_size ss * taken in
      let good = subst (λ (s : Source). taken ≤ length (good_lent ss s)) e o.good in
      let are = good_take ss lent count taken good in
      let same : take w new ≡ take w lent = ap (take w) is ∙ take-take w w lent (omega arith) in
      let lie = lie_made ss new 0 taken (take taken (good_items ss lent count)) (omega (arith, size)) (items-same ss lent new taken same ∙ are) (AreItems-items ss lent taken _ (IsBytes-drop memory.bytes address b) are) in
      record { lie = lie.lie; is = lie.is ∙ sym (ap (λ (s : Source). first_lent ss s taken) e ∙ ap listed are) }

-- where the item behind so many of a memory lies
pub behind_fits : (payload : Payload) (memory : LinearMemory) (address count taken : ℕ) (source : Source) → IsSource payload source → source ≡ Region memory address count → taken < count → address + item_size (item_type payload) * taken + item_size (item_type payload) ≤ length memory.bytes
behind_fits payload memory address count taken source h e k =
    let h' = subst (λ (s : Source). IsSource payload s) e h in
    omega (arith, item_fits taken count (item_size (item_type payload)) k, h'.0)

-- the bytes of listed items
pub listed_bytes : (bytes rest : List ℕ) (xs : List Item) (taken : ℕ) → items_in byte_type bytes 0 (length xs) ≡ xs → length bytes ≡ length xs → rest ≡ drop taken bytes → byte_items rest ≡ drop taken xs
listed_bytes bytes rest xs taken e n r =
    let all : items_in byte_type bytes 0 (length xs) ≡ byte_items bytes =
    ap listed (items-bytes bytes (length xs) (omega (arith, n))) ∙ ap byte_items (take_all (length xs) bytes (omega (arith, n))) in
    ap byte_items r ∙ sym (drop-map _ taken bytes) ∙ ap (drop taken) (sym all ∙ e)

module _ (payload : Payload) (source : Source) (listing : TypedItems) (bytes rest : List ℕ) (taken : ℕ) (h : IsSource payload source) (p : payload ≡ One U8) (o : source ≡ Listed listing) where
  pub direct_list : items_in (item_type listing.payload) bytes 0 (length listing.items) ≡ listing.items → length bytes ≡ item_size (item_type listing.payload) * length listing.items → rest ≡ drop taken bytes → Shows source taken rest
  direct_list e n r =
      let h' = subst (λ (s : Source). IsSource payload s) o h in
      let q : listing.payload ≡ One U8 = h'.0 ∙ p in
      let e' = subst (λ (u : Payload). items_in (item_type u) bytes 0 (length listing.items) ≡ listing.items) q e in
      let n' : length bytes ≡ 1 * length listing.items = subst (λ (u : Payload). length bytes ≡ item_size (item_type u) * length listing.items) q n in
      subst (λ (s : Source). Shows s taken rest) (sym o) (listed_bytes bytes rest listing.items taken e' (omega (arith, n')) r)
