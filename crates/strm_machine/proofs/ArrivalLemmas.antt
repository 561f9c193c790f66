-- Items carried from one memory to another lie there as they lay here, and memories stay bytes.
use Rattle.std.proofs.Common.{◌≡◌, ℕ, zero, suc, ◌+◌, ◌*◌, ◌<◌, ◌≤◌, ℤ, List, [], ◌∷◌, ◌++◌, length, map, take, drop, Some, refl, sym, ap, ◌∙◌, subst, inl, inr, arith}
use Rattle.std.specs.Prelude.{All, IsSome, replicate}
use Rattle.std.proofs.lemmas.Bool.{cases_lt}
use Rattle.std.proofs.lemmas.List.{get_or_past, get_or-replicate, length-replicate}
use Rattle.std.proofs.lemmas.List.Elements.{All-nil, All-cons, All-set, All-get_or}
use Rattle.std.proofs.lemmas.Option.{option_and_then_some}
use Rattle.strm_machine.specs.Words.{Guest, item_type, item_size, Payload, put_at, items_at, stored_at, no_guest, guest_in, memory_in, with_memory, carried, sizes_of, IsPlaced, Operation, items_in_memory}
use Rattle.strm_codes.specs.ItemTypes.{ItemType}
use Rattle.strm_memory.specs.Bytes.{IsBytes}
use Rattle.strm_memory.specs.Items.{items}
use Rattle.strm_memory.specs.Loads.{decode}
use Rattle.strm_memory.proofs.ByteLemmas.{IsBytes-drop, IsBytes-take}
use Rattle.strm_memory.proofs.KeptBytes.{IsBytes-nil, IsBytes-append, IsBytes-stored_at}
use Rattle.strm_memory.proofs.NoByteLemmas.{decode-no_bytes}
use Rattle.strm_memory.proofs.LoadLemmas.{option_map_some}
use Rattle.strm_memory.proofs.RegionLemmas.{items_at-copied}
use Rattle.strm_machine.proofs.BoundLemmas.{within}
use Rattle.strm_machine.proofs.StateLemmas.{memory_in-with_memory}
use Rattle.strm_machine.proofs.TurnLemmas.{front_inside}
use Rattle.strm_machine.specs.Moments.{decoded}

-- ## Bytes

pub IsBytes-put_at : (memory : List ℕ) (address : ℕ) (new : List ℕ) → IsBytes memory → IsBytes new → IsBytes (put_at memory address new)
IsBytes-put_at memory address new h g =
    IsBytes-append (take address memory ++ new) (drop (address + length new) memory)
    (IsBytes-append (take address memory) new (IsBytes-take memory address h) g) (IsBytes-drop memory (address + length new) h)

pub IsBytes-zeros : (size : ℕ) → IsBytes (replicate size 0)
IsBytes-zeros size k = elim (cases_lt k size) [
  | inl l ↦ rw (get_or-replicate {A = ℕ} size k 0 0 l) (omega arith)
  | inr l ↦ (let past : length (replicate {A = ℕ} size 0) ≤ k = omega (arith, l, length-replicate {A = ℕ} size 0) in rw (get_or_past {X = ℕ} (replicate size 0) k 0 past) (omega arith))
]

-- each guest's memory is bytes
abbrev pub AreBytes : List Guest → Type 0
AreBytes guests = All (λ g. IsBytes g.memory) guests

pub memory_bytes : (guests : List Guest) (g : ℕ) → AreBytes guests → IsBytes (memory_in guests g)
memory_bytes guests g h = elim (cases_lt g (length guests)) [
  | inl l ↦ All-get_or (λ (k : Guest). IsBytes k.memory) guests g no_guest l h
  | inr l ↦ subst (λ (k : Guest). IsBytes k.memory) (sym (get_or_past guests g no_guest l)) IsBytes-nil
]

pub AreBytes-with_memory : (guests : List Guest) (g : ℕ) (memory : List ℕ) → IsBytes memory → AreBytes guests → AreBytes (with_memory guests g memory)
AreBytes-with_memory guests g memory m h = All-set (λ (k : Guest). IsBytes k.memory) guests g (record (guest_in guests g) { memory = memory }) m h

-- ## Items

pub decoded-zero : (ss : ItemType) (bytes : List ℕ) (n : ℕ) → n ≡ 0 → decoded ss bytes n ≡ []
unfolding decoded
decoded-zero ss bytes zero e = refl
decoded-zero ss bytes (suc n) e = absurd (omega arith)

pub decoded-items : (ss : ItemType) (bytes : List ℕ) (n : ℕ) (xs : List (List ℤ)) → items ss bytes n ≡ Some xs → decoded ss bytes n ≡ map Some xs
unfolding items decoded
decoded-items ss bytes zero xs e = let q : [] ≡ xs = cc in rw (← q) refl
decoded-items ss bytes (suc n) xs e =
    option_and_then_some _ (decode ss bytes) xs e
    (λ x p q. option_map_some _ (items ss (drop (item_size ss) bytes) n) xs q
    (λ ys u v. rw (← v, p) (ap (λ l. Some x ∷ l) (decoded-items ss (drop (item_size ss) bytes) n ys u))))

all_some : (xs : List (List ℤ)) → All IsSome (map Some xs)
all_some [] = All-nil IsSome
all_some (x ∷ xs) = All-cons IsSome (Some x) (map Some xs) refl (all_some xs)

-- items of no bytes are the same everywhere
decoded-no_bytes : (ss : ItemType) (one other : List ℕ) (n : ℕ) → item_size ss ≡ 0 → decoded ss one n ≡ decoded ss other n
unfolding decoded
decoded-no_bytes ss one other zero e = refl
decoded-no_bytes ss one other (suc n) e =
    rw (decode-no_bytes ss one e, decode-no_bytes ss other e) (ap (λ l. Some [] ∷ l) (decoded-no_bytes ss (drop (item_size ss) one) (drop (item_size ss) other) n e))

all_no_bytes : (ss : ItemType) (bytes : List ℕ) (n : ℕ) → item_size ss ≡ 0 → All IsSome (decoded ss bytes n)
unfolding decoded
all_no_bytes ss bytes zero e = All-nil IsSome
all_no_bytes ss bytes (suc n) e =
    let rest = decoded ss (drop (item_size ss) bytes) n in
    subst (λ first. All IsSome (first ∷ rest)) (sym (decode-no_bytes ss bytes e)) (All-cons IsSome (Some []) rest refl (all_no_bytes ss (drop (item_size ss) bytes) n e))

-- what was received of a write lies at the read's place, as it lay at the write's
pub record Arrives (guests after : List Guest) (payload : Payload) (write read : Operation) (n : ℕ) : Type 0 where
  pub brings : items_in_memory payload after read.guest read.address n ≡ items_in_memory payload guests write.guest write.address n
  pub whole : All IsSome (items_in_memory payload after read.guest read.address n)

-- the items of two places
abbrev Same : ItemType → List ℕ → List ℕ → ℕ → Type 0
Same ss one other n = (decoded ss one n ≡ decoded ss other n) × All IsSome (decoded ss one n)

same_none : (ss : ItemType) (one other : List ℕ) (n : ℕ) → n ≡ 0 → Same ss one other n
same_none ss one other n e =
    let a = decoded-zero ss one n e in
    let b = decoded-zero ss other n e in
    (a ∙ sym b, subst (All IsSome) (sym a) (All-nil IsSome))

same_no_bytes : (ss : ItemType) (one other : List ℕ) (n : ℕ) → item_size ss ≡ 0 → Same ss one other n
same_no_bytes ss one other n e = (decoded-no_bytes ss one other n e, all_no_bytes ss one n e)

same_items : (ss : ItemType) (one other : List ℕ) (n : ℕ) (xs : List (List ℤ)) → items ss one n ≡ Some xs → items ss other n ≡ Some xs → Same ss one other n
same_items ss one other n xs e f =
    let a = decoded-items ss one n xs e in
    let b = decoded-items ss other n xs f in
    (a ∙ sym b, subst (All IsSome) (sym a) (all_some xs))

-- items stored where they fit, as far as they take bytes
same_stored : (ss : ItemType) (source memory : List ℕ) (from to n : ℕ) (xs : List (List ℤ)) → IsBytes source → (0 < n → 0 < item_size ss → to + item_size ss * n ≤ length memory) → items_at ss source from n ≡ Some xs → Same ss (drop to (stored_at ss memory to xs)) (drop from source) n
same_stored ss source memory from to n xs h l e =
    elim (cases_lt 0 n) [
      | inr none ↦ same_none ss (drop to (stored_at ss memory to xs)) (drop from source) n (omega (arith, none))
      | inl some ↦ elim (cases_lt 0 (item_size ss)) [
        | inr none ↦ same_no_bytes ss (drop to (stored_at ss memory to xs)) (drop from source) n (omega (arith, none))
        | inl size ↦ same_items ss (drop to (stored_at ss memory to xs)) (drop from source) n xs (items_at-copied ss source memory from to n xs h (l some size) e) e
      ]
    ]

module _ (guests after : List Guest) (payload : Payload) (write read : Operation) (n : ℕ) where
  pub carried_arrives : AreBytes guests → read.guest < length guests → n ≤ read.left → IsPlaced (sizes_of guests) payload read → carried guests payload write read n ≡ Some after → Arrives guests after payload write read n
  carried_arrives h there fit placed e =
      let ss = item_type payload in
      let source = memory_in guests write.guest in
      let memory = memory_in guests read.guest in
      option_map_some _ (items_at ss source write.address n) after e
      (λ xs p q.
      let new = stored_at ss memory read.address xs in
      let room = within (length memory) ss read.address n (front_inside guests payload read n fit placed) in
      let same = same_stored ss source memory write.address read.address n xs (memory_bytes guests write.guest h) room p in
      let here : memory_in after read.guest ≡ new = ap (λ gs. memory_in gs read.guest) (sym q) ∙ memory_in-with_memory guests read.guest new there in
      record {
        brings = ap (λ m. decoded ss (drop read.address m) n) here ∙ same.0;
        whole = subst (λ m. All IsSome (decoded ss (drop read.address m) n)) (sym here) same.1;
      })

  pub carried_bytes : AreBytes guests → carried guests payload write read n ≡ Some after → AreBytes after
  carried_bytes h e =
      let ss = item_type payload in
      let memory = memory_in guests read.guest in
      option_map_some _ (items_at ss (memory_in guests write.guest) write.address n) after e
      (λ xs p q. subst AreBytes q (AreBytes-with_memory guests read.guest (stored_at ss memory read.address xs) (IsBytes-stored_at ss memory read.address xs (memory_bytes guests read.guest h)) h))
