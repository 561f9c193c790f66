-- Items received between two guests, of which one stands in the first part of a list and one in the second.
use Rattle.std.proofs.Common.{◌≡◌, ℕ, ◌+◌, ◌<◌, List, ◌++◌, length, get_or, set, Option, Some, None, Result, Ok, Err, sym, ap, subst, ◌∙◌, arith, OnOk, OnErr, IsErr, IsNone}
use Rattle.std.specs.Prelude.{IsSomeAnd, ◌↔◌}
use Rattle.std.proofs.lemmas.Result.{on_ok_weaker}
use Rattle.std.proofs.lemmas.List.{get_or_append_left, get_or-append_right, set-append_left, set-append_right, length-append}
use Rattle.strm_codes.specs.declared.payloads.Payload.{Payload}
use Rattle.strm_codes.specs.Layout.{item_type}
use Rattle.strm_memory.specs.Items.{items_at, stored_at}
use Rattle.strm_memory.specs.declared.copies.BadItem.{BadItem}
use Rattle.strm_machine.specs.State.{memory_in, with_memory}
use Rattle.strm_machine.proofs.StateLemmas.{with_memory-same}
use Rattle.strm_memory.specs.Linear.{LinearMemory, with_contents}
use Rattle.strm_channels.specs.Guests.{guests_of, linear_in, with_linear, Receives}
use Rattle.strm_channels.specs.declared.guests.Guest.{Guest}
use Rattle.strm_channels.proofs.GuestLemmas.{guests_of-with_linear, linear_in-seen, memory_in-seen}

module _ (payload : Payload) (count source target : ℕ) (w x : Guest) (filled : LinearMemory) (result : Result (Unit {0}) BadItem) where
  -- the memory of x has the items of that of w
  pub record Fills : Type 0 where
    pub ok : OnOk result (IsSomeAnd (items_at (item_type payload) w.memory.bytes source count)
        (λ xs. filled ≡ with_contents x.memory (stored_at (item_type payload) x.memory.bytes target xs)))
    pub bad : IsErr result ↔ IsNone (items_at (item_type payload) w.memory.bytes source count)
    pub err : OnErr result (filled ≡ x.memory)

-- guest x is the one of this number
pub record Stands (guests : List Guest) (g : ℕ) (x : Guest) : Type 0 where
  pub there : g < length guests
  pub is : x ≡ get_or guests g x

some_map : {A : Type 0} {P Q : A → Type 0} (o : Option A) → ((x : A) → P x → Q x) → IsSomeAnd o P → IsSomeAnd o Q
some_map None f h = h
some_map (Some x) f h = f x h

module _ (payload : Payload) (count source target : ℕ) (guests : List Guest) (from to : ℕ) (w x : Guest) (filled : LinearMemory) (writer : Stands guests from w) (reader : Stands guests to x) where
  pub receives : (result : Result (Unit {0}) BadItem) → Fills payload count source target w x filled result → Receives payload count (guests_of guests) (guests_of (set guests to (record x { memory = filled }))) from source to target result
  receives result k = record {
    ok = on_ok_weaker result
        (λ h. subst (λ m. IsSomeAnd (items_at (item_type payload) m source count) (λ xs. guests_of (set guests to (record x { memory = filled })) ≡ with_memory (guests_of guests) to (stored_at (item_type payload) (memory_in (guests_of guests) to) target xs))) (sym read)
        (some_map (items_at (item_type payload) w.memory.bytes source count)
        (λ xs e. now ∙ ap (with_linear (guests_of guests) to) (e ∙ ap (λ (m : LinearMemory). with_contents m (stored_at (item_type payload) m.bytes target xs)) (sym was))) h))
        k.ok;
    bad = rw read k.bad;
    err = err_of result k.err;
  }
    where
      read : memory_in (guests_of guests) from ≡ w.memory.bytes
      read = memory_in-seen guests from w writer.there writer.is

      was : linear_in (guests_of guests) to ≡ x.memory
      was = linear_in-seen guests to x reader.there reader.is

      now : guests_of (set guests to (record x { memory = filled })) ≡ with_linear (guests_of guests) to filled
      now = guests_of-with_linear guests to x filled reader.there reader.is

      err_of : (r : Result (Unit {0}) BadItem) → OnErr r (filled ≡ x.memory) → OnErr r (guests_of (set guests to (record x { memory = filled })) ≡ guests_of guests)
      err_of (Ok v) h = tt
      err_of (Err e) h = now ∙ ap (with_linear (guests_of guests) to) (h ∙ sym was) ∙ with_memory-same (guests_of guests) to

module _ (payload : Payload) (count source target : ℕ) (guests low high : List Guest) (from to : ℕ) (w x : Guest) (filled : LinearMemory) (parts : guests ≡ low ++ high) (result : Result (Unit {0}) BadItem) (fills : Fills payload count source target w x filled result) where
  abbrev Received : List Guest → Type 0
  Received after = Receives payload count (guests_of guests) (guests_of after) from source to target result

  -- the reader is the first of the second part
  pub behind : length low ≡ to → 0 < length high → from < to → w ≡ get_or low from w → x ≡ get_or high 0 x → Received (low ++ set high 0 (record x { memory = filled }))
  behind len some lower is_w is_x =
      let many : length guests ≡ length low + length high = ap length parts ∙ length-append low high in
      subst Received
      (ap (λ l. set l to (record x { memory = filled })) parts
      ∙ set-append_right low high to to (record x { memory = filled }) len (omega arith)
      ∙ ap (λ k. low ++ set high k (record x { memory = filled })) (omega arith))
      (receives payload count source target guests from to w x filled
      (record {
        there = omega (arith, many, len, lower);
        is = is_w ∙ sym (ap (λ l. get_or l from w) parts ∙ get_or_append_left low high w from (omega (arith, len, lower)));
      })
      (record {
        there = omega (arith, many, len, some);
        is = is_x ∙ sym (ap (λ l. get_or l to x) parts ∙ get_or-append_right low high to to x len (omega arith) ∙ ap (λ k. get_or high k x) (omega arith));
      }) result fills)

  -- the writer is
  pub before : length low ≡ from → 0 < length high → to < from → w ≡ get_or high 0 w → x ≡ get_or low to x → Received (set low to (record x { memory = filled }) ++ high)
  before len some lower is_w is_x =
      let many : length guests ≡ length low + length high = ap length parts ∙ length-append low high in
      subst Received
      (ap (λ l. set l to (record x { memory = filled })) parts
      ∙ set-append_left low high to (record x { memory = filled }) (omega (arith, len, lower)))
      (receives payload count source target guests from to w x filled
      (record {
        there = omega (arith, many, len, some);
        is = is_w ∙ sym (ap (λ l. get_or l from w) parts ∙ get_or-append_right low high from from w len (omega arith) ∙ ap (λ k. get_or high k w) (omega arith));
      })
      (record {
        there = omega (arith, many, len, lower);
        is = is_x ∙ sym (ap (λ l. get_or l to x) parts ∙ get_or_append_left low high x to (omega (arith, len, lower)));
      }) result fills)
