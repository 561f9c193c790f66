-- Items carried from one memory to another, by what was lifted and lowered.
use Rattle.std.proofs.Common.{◌≡◌, ℕ, ℤ, List, drop, Option, Some, None, refl, sym, ap}
use Rattle.strm_memory.proofs.NoByteLemmas.{some_items-no_bytes, stored_at-no_bytes}
use Rattle.std.specs.Prelude.{IsSomeAnd, IsSome}
use Rattle.std.specs.Option.{option_map}
use Rattle.strm_machine.specs.Words.{Guest, Payload, item_type, item_size, items_at, stored_at, memory_in, with_memory, carried, Operation}
use Rattle.strm_machine.proofs.StateLemmas.{with_memory-same}

module _ (guests : List Guest) (payload : Payload) (write read : Operation) (n : ℕ) where
  -- the items that are lifted
  abbrev lifted : Option (List (List ℤ))
  lifted = items_at (item_type payload) (memory_in guests write.guest) write.address n

  -- the reader's memory with them
  abbrev filled : List (List ℤ) → List ℕ
  filled xs = stored_at (item_type payload) (memory_in guests read.guest) read.address xs

  some_filled : (memory : List ℕ) (o : Option (List (List ℤ))) → IsSomeAnd o (λ xs. memory ≡ filled xs) → option_map (λ xs. with_memory guests read.guest (filled xs)) o ≡ Some (with_memory guests read.guest memory)
  some_filled memory None k = absurd k
  some_filled memory (Some xs) k = ap (λ m. Some (with_memory guests read.guest m)) (sym k)

  pub carried_some : (memory : List ℕ) → IsSomeAnd lifted (λ xs. memory ≡ filled xs) → carried guests payload write read n ≡ Some (with_memory guests read.guest memory)
  carried_some memory h = some_filled memory lifted h

pub carried_none : (guests : List Guest) (payload : Payload) (write read : Operation) (n : ℕ) → items_at (item_type payload) (memory_in guests write.guest) write.address n ≡ None → carried guests payload write read n ≡ None
carried_none guests payload write read n e = rw e refl

-- items that take no bytes leave all memories as they are
pub carried-nothing : (guests : List Guest) (payload : Payload) (write read : Operation) (n : ℕ) → item_size (item_type payload) ≡ 0 → carried guests payload write read n ≡ Some guests
carried-nothing guests payload write read n e =
    both (items_at (item_type payload) (memory_in guests write.guest) write.address n) (some_items-no_bytes (item_type payload) (drop write.address (memory_in guests write.guest)) n e)
  where
    both : (o : Option (List (List ℤ))) → IsSome o → option_map (λ xs. with_memory guests read.guest (stored_at (item_type payload) (memory_in guests read.guest) read.address xs)) o ≡ Some guests
    both None k = cc
    both (Some xs) k = ap Some (rw (stored_at-no_bytes (item_type payload) (memory_in guests read.guest) read.address xs e) (with_memory-same guests read.guest))
