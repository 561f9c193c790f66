-- Items that were lowered where a read's next ones are to lie do lie there.
use Rattle.std.proofs.Common.{◌≡◌, ℕ, ◌+◌, ◌*◌, ◌<◌, ◌≤◌, ℤ, List, [], ◌∷◌, length, map, drop, Some, refl, ap, ◌∙◌, inl, inr, arith}
use Rattle.std.proofs.lemmas.Bool.{cases_lt}
use Rattle.strm_codes.specs.Layout.{item_type}
use Rattle.strm_codes.specs.ItemTypes.{item_size, ItemType}
use Rattle.strm_codes.specs.declared.payloads.Payload.{Payload}
use Rattle.strm_memory.specs.Items.{stored_at, AreItems}
use Rattle.strm_memory.proofs.NoByteLemmas.{decode-no_bytes, no_numbers}
use Rattle.strm_memory.proofs.RegionLemmas.{items_at-stored_at}
use Rattle.strm_buffers.specs.Listing.{Item}
use Rattle.strm_machine.specs.Moments.{decoded, items_in_memory}
use Rattle.strm_machine.specs.Soundness.{sizes_of, IsPlaced}
use Rattle.strm_machine.specs.State.{Guest, memory_in}
use Rattle.strm_machine.specs.declared.streams.Operation.{Operation}
use Rattle.strm_machine.proofs.ArrivalLemmas.{decoded-items}
use Rattle.strm_machine.proofs.BoundLemmas.{within}
use Rattle.strm_machine.proofs.StateLemmas.{memory_in-with_memory}
use Rattle.strm_machine.proofs.TurnLemmas.{front_inside}
use Rattle.strm_machine.proofs.TurnChangeLemmas.{there}
use Rattle.strm_host_machine.specs.WriterTurn.{lowered_items}

-- items of no bytes are all alike, and lie everywhere
nothing_decoded : (ss : ItemType) (bytes : List ℕ) (xs : List (List ℤ)) → item_size ss ≡ 0 → AreItems ss xs → decoded ss bytes (length xs) ≡ map Some xs
unfolding decoded
nothing_decoded ss bytes [] e h = refl
nothing_decoded ss bytes (x ∷ xs) e h =
    rw (decode-no_bytes ss bytes e, no_numbers ss x e h.0) (ap (λ l. Some [] ∷ l) (nothing_decoded ss (drop (item_size ss) bytes) xs e h.1))

none_decoded : (ss : ItemType) (bytes : List ℕ) (xs : List (List ℤ)) → length xs ≡ 0 → decoded ss bytes (length xs) ≡ map Some xs
unfolding decoded
none_decoded ss bytes [] e = refl
none_decoded ss bytes (x ∷ xs) e = absurd (omega (arith, e))

stored_decoded : (ss : ItemType) (memory : List ℕ) (to : ℕ) (xs : List (List ℤ)) → AreItems ss xs → (0 < length xs → 0 < item_size ss → to + item_size ss * length xs ≤ length memory)
    → decoded ss (drop to (stored_at ss memory to xs)) (length xs) ≡ map Some xs
stored_decoded ss memory to xs h room =
    elim (cases_lt 0 (length xs)) [
      | inr none ↦ none_decoded ss (drop to (stored_at ss memory to xs)) xs (omega (arith, none))
      | inl some ↦ elim (cases_lt 0 (item_size ss)) [
        | inr none ↦
            nothing_decoded ss (drop to (stored_at ss memory to xs)) xs (omega (arith, none)) h
        | inl size ↦ decoded-items ss (drop to (stored_at ss memory to xs)) (length xs) xs (items_at-stored_at ss memory to xs h (room some size))
      ]
    ]

-- the items of a turn
pub lowered_lie : (guests : List Guest) (ty : Payload) (read : Operation) (xs : List Item) → IsPlaced (sizes_of guests) ty read → length xs ≤ read.left → AreItems (item_type ty) xs
    → items_in_memory ty (lowered_items guests ty read xs) read.guest read.address (length xs) ≡ map Some xs
lowered_lie guests payload read xs placed fit h =
    let ss = item_type payload in
    let memory = memory_in guests read.guest in
    let new = stored_at ss memory read.address xs in
    ap (λ m. decoded ss (drop read.address m) (length xs)) (memory_in-with_memory guests read.guest new (there guests payload read placed))
    ∙ stored_decoded ss memory read.address xs h (within (length memory) ss read.address (length xs) (front_inside guests payload read (length xs) fit placed))
