-- A read's region, lent to a window and taken back: the items that were marked are lowered.
use Rattle.std.proofs.Common.{◌≡◌, ℕ, zero, suc, ◌+◌, ◌*◌, ◌≤◌, Bool, false, List, [], ◌∷◌, length, refl, sym, ap, subst, ◌∙◌, arith}
use Rattle.std.specs.Prelude.{◌==◌, ◌||◌, if◌then◌else◌}
use Rattle.std.proofs.lemmas.Bool.Decides.{nat_tests}
use Rattle.strm_codes.specs.Layout.{item_type}
use Rattle.strm_codes.specs.ItemTypes.{item_size}
use Rattle.strm_codes.specs.declared.payloads.Payload.{Payload}
use Rattle.strm_memory.specs.Items.{stored_at}
use Rattle.strm_memory.proofs.RegionLemmas.{stored_at-nil}
use Rattle.strm_memory.proofs.NoByteLemmas.{stored_at-no_bytes}
use Rattle.strm_buffers.specs.Listing.{Item}
use Rattle.strm_buffers.specs.Windows.{Lent, Place, Memory, HasRoom, lent_memory, memory_of, given_back}
use Rattle.strm_buffers.specs.Tells.{Fills}
use Rattle.strm_machine.specs.State.{Guest, memory_in, with_memory}
use Rattle.strm_machine.specs.declared.streams.Operation.{Operation}
use Rattle.strm_machine.proofs.StateLemmas.{with_memory-same}
use Rattle.strm_memory.specs.Linear.{untold}
use Rattle.strm_channels.specs.Guests.{linear_in, with_linear}
use Rattle.strm_channels.proofs.GuestLemmas.{with_linear-twice}
use Rattle.strm_host_machine.specs.WriterTurn.{lowered_items}
use Rattle.strm_host_turns.specs.Regions.{region_address}
use Rattle.strm_host_turns.specs.WriterPolls.{LowersForRead}

-- ## Its address

-- a successor is not 0
pub not_zero : (n : ℕ) → (suc n == 0) ≡ false
not_zero n = grind (arith, nat_tests)

module _ (payload : Payload) (read : Operation) (memory : List ℕ) (items : List Item) where
  -- items stored at an address for a read of so many whose items take so many bytes
  abbrev stored_for : ℕ → ℕ → List ℕ
  stored_for w n = stored_at (item_type payload) memory (if (w == 0) || (n == 0) then 0 else read.address) items

  stored_by_size : (w n : ℕ) → item_size (item_type payload) ≡ w → length items ≤ n → stored_for w n ≡ stored_at (item_type payload) memory read.address items
  stored_by_size zero n e l =
      stored_at-no_bytes (item_type payload) memory 0 items e ∙ sym (stored_at-no_bytes (item_type payload) memory read.address items e)
  stored_by_size (suc w) zero e l = rw (not_zero w) (none items (omega (arith, l)))
    where
      none : (xs : List Item) → length xs ≡ 0 → stored_at (item_type payload) memory 0 xs ≡ stored_at (item_type payload) memory read.address xs
      none [] e = stored_at-nil (item_type payload) memory 0 ∙ sym (stored_at-nil (item_type payload) memory read.address)
      none (x ∷ xs) e = cc
  stored_by_size (suc w) (suc n) e l = rw (not_zero w, not_zero n) refl

  -- items that the read has left are stored there as at the read's own address
  pub stored_region : length items ≤ read.left → stored_at (item_type payload) memory (region_address payload read) items ≡ stored_at (item_type payload) memory read.address items
  stored_region l = stored_by_size (item_size (item_type payload)) read.left refl l

-- ## Lent and returned

module _ (guests : List Guest) (payload : Payload) (read : Operation) where
  -- the window that the region is lent to
  abbrev region_window : Bool → Lent
  region_window prepared =
      record (lent_memory payload (linear_in guests read.guest) (region_address payload read) read.left) { prepared = prepared }

  -- a region lent, with the guest left without bytes, and returned as it is after a call
  pub record Returns (between after : List Guest) (window filled : Lent) : Type 0 where
    pub prepared : Bool
    pub lent : window ≡ region_window prepared
    pub out : between ≡ with_linear guests read.guest (untold [])
    pub fills : Fills window filled
    pub room : HasRoom filled.place (length filled.marked) 0
    pub back : after ≡ with_linear between read.guest (given_back filled)

  module _ (between after : List Guest) (window filled : Lent) (h : Returns between after window filled) where
    place_is : filled.place ≡ Memory (stored_at (item_type payload) (memory_in guests read.guest) (region_address payload read + item_size (item_type payload) * 0) filled.marked) (region_address payload read) read.left
    place_is = h.fills.place ∙ rw h.lent refl

    pub marked_few : length filled.marked ≤ read.left
    marked_few = omega (arith, subst (λ (p : Place). HasRoom p (length filled.marked) 0) place_is h.room)

    pub marked_lowered : after ≡ lowered_items guests payload read filled.marked
    marked_lowered =
        let at : region_address payload read + item_size (item_type payload) * 0 ≡ region_address payload read = omega arith in
        let memory = ap memory_of place_is ∙ ap (λ k. stored_at (item_type payload) (memory_in guests read.guest) k filled.marked) at ∙ stored_region payload read (memory_in guests read.guest) filled.marked marked_few in
        let lies : filled.base ≡ (linear_in guests read.guest).base = h.fills.base ∙ ap (λ (w : Lent). w.base) h.lent in
        h.back ∙ ap (λ g. with_linear g read.guest (given_back filled)) h.out ∙ with_linear-twice guests read.guest (untold []) (given_back filled)
        ∙ ap (λ b. with_linear guests read.guest (record { bytes = memory_of filled.place; base = b })) lies
        ∙ ap (with_memory guests read.guest) memory

    pub marked_lowers : LowersForRead guests after payload read
    marked_lowers = record { items = filled.marked; few = marked_few; lowered = marked_lowered }

  -- no items leave all as it is
  pub lowered_items-none : lowered_items guests payload read [] ≡ guests
  lowered_items-none = rw (stored_at-nil (item_type payload) (memory_in guests read.guest) read.address) (with_memory-same guests read.guest)

  -- a region lent, and returned without a call
  pub unpolled : (between after : List Guest) (window : Lent) → window ≡ region_window false → between ≡ with_linear guests read.guest (untold []) → after ≡ with_linear between read.guest (given_back window) → LowersForRead guests after payload read
  unpolled between after window l o b =
      let whole : given_back window ≡ linear_in guests read.guest = rw l refl in
      let same : after ≡ guests =
      b ∙ ap (with_linear between read.guest) whole
      ∙ rw o (with_linear-twice guests read.guest (untold []) (linear_in guests read.guest) ∙ with_memory-same guests read.guest) in
      record { items = []; few = omega arith; lowered = same ∙ sym lowered_items-none }
