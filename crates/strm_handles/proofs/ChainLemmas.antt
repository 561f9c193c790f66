-- Chains of free slots: what a write beside them, a write over their first slot, and a push leave.
use Rattle.std.proofs.Common.{◌≡◌, ◌≢◌, ℕ, zero, suc, ◌+◌, ◌-◌, ◌%◌, ◌^◌, ◌<◌, ◌≤◌, List, [], ◌∷◌, ◌++◌, length, get_or, set, map, Option, Some, None, refl, sym, ap, ◌∙◌, subst, arith}
use Rattle.std.proofs.lemmas.List.{get_or-set_other, get_or-set_same, get_or_append_left, get_or_read_under, get_or-map, map-set, map_push, length-map}
use Rattle.std.proofs.lemmas.List.Elements.{All-head, All-tail}
use Rattle.std.specs.Prelude.{All, IsSome}
use Rattle.std.proofs.Common.{add-one}
use Rattle.strm_handles.specs.Handles.{handle_limit, HandlesOf, next_index, entry_in, IsFreed, IsTable, inserted, removed, with_entry}
use Rattle.strm_handles.specs.Chain.{entry_of, before, slot_at, chain, handles_in}
use Rattle.strm_handles.specs.declared.slots.Slot.{Slot}
use Rattle.strm_handles.specs.declared.slots.Slot.TheVariants.{Free, Full}
use Rattle.strm_handles.proofs.HandleLemmas.{given, apart-freed, IsTable-inserted, IsTable-removed, IsTable-with_entry}

module _ {E : Type 0} where
  pub length-chain : (slots : List (Slot E)) (n i : ℕ) → length (chain slots n i) ≡ n
  length-chain slots zero i = refl
  length-chain slots (suc n) i = omega (arith, length-chain slots n (before (slot_at slots i)))

  -- a write to a slot that isn't in the chain
  pub chain-set : (slots : List (Slot E)) (n i at : ℕ) (s : Slot E) → All (λ k. suc at ≢ k) (chain slots n i) → chain (set slots at s) n i ≡ chain slots n i
  chain-set slots zero i at s a = refl
  chain-set slots (suc n) i at s a =
      let rest = chain slots n (before (slot_at slots i)) in
      let ne : i ≢ at = λ e. All-head (λ k. suc at ≢ k) (suc i) rest a (ap suc (sym e)) in
      let same : slot_at (set slots at s) i ≡ slot_at slots i = get_or-set_other slots at i s (Free 0) ne in
      rw (same, chain-set slots n (before (slot_at slots i)) at s (All-tail (λ k. suc at ≢ k) (suc i) rest a)) refl

  -- a slot more
  pub chain-push : (slots : List (Slot E)) (n i : ℕ) (s : Slot E) → All (λ k. k ≤ length slots) (chain slots n i) → chain (slots ++ s ∷ []) n i ≡ chain slots n i
  chain-push slots zero i s a = refl
  chain-push slots (suc n) i s a =
      let rest = chain slots n (before (slot_at slots i)) in
      let inside : suc i ≤ length slots = All-head (λ k. k ≤ length slots) (suc i) rest a in
      let same : slot_at (slots ++ s ∷ []) i ≡ slot_at slots i = get_or_append_left slots (s ∷ []) (Free 0) i (omega arith) in
      rw (same, chain-push slots n (before (slot_at slots i)) s (All-tail (λ k. k ≤ length slots) (suc i) rest a)) refl

  -- what a slot's number stands for
  pub entry_in-map : (slots : List (Slot E)) (i : ℕ) (s : Slot E) → i < length slots → slot_at slots i ≡ s → entry_in (map entry_of slots) (suc i) ≡ entry_of s
  entry_in-map slots i s h e = get_or-map entry_of slots i (Free 0) None h ∙ ap entry_of e

  pub slot_read : (slots : List (Slot E)) (i : ℕ) (x s : Slot E) → x ≡ get_or slots i x → x ≡ s → i < length slots → slot_at slots i ≡ s
  slot_read slots i x s e f h = sym (get_or_read_under slots i (length slots) x (Free 0) e h refl) ∙ f

  -- what a number stands for, by the slot that was read below it
  pub number_read : (slots : List (Slot E)) (n at : ℕ) (x s : Slot E) → n ≡ suc at → at < length slots → x ≡ get_or slots at x → x ≡ s → entry_of s ≡ entry_in (map entry_of slots) n
  number_read slots n at x s same inside read is =
      rw same (sym (entry_in-map slots at s inside (slot_read slots at x s read is inside)))

  -- the index below a number, which is within the slots only where there is one
  pub number_above : (slots : List (Slot E)) (free first n : ℕ) → n < 2 ^ 32 → (n + 4294967295) % 4294967296 < length slots → IsTable (handles_in slots free first) → n ≡ suc ((n + 4294967295) % 4294967296)
  number_above slots free first n small inside s = omega (arith, s.small, length-map slots entry_of)

  pub entry_from_some : (o : Option E) → IsSome o → (e : E) × (o ≡ Some e)
  entry_from_some None h = absurd (cc)
  entry_from_some (Some e) h = (e, refl)

  above_index : (es : List (Option E)) (n : ℕ) (e : E) → entry_in es n ≡ Some e → n ≡ suc (n - 1)
  above_index es n e is = omega (arith, (given es n e is).0)

  -- no slot is free
  abbrev pub AreFull : List (Slot E) → ℕ → ℕ → Type 0
  AreFull slots free first = length (chain slots free first) ≡ 0

  -- the slots are such a table
  abbrev pub AreTable : List (Slot E) → ℕ → ℕ → HandlesOf E → Type 0
  AreTable slots free first h = IsTable (handles_in slots free first) × (handles_in slots free first ≡ h)

  changed_at : (slots : List (Slot E)) (free first n at : ℕ) (old e : E) → n ≡ suc at → entry_in (map entry_of slots) n ≡ Some old → IsTable (handles_in slots free first) → handles_in (set slots at (Full e)) free first ≡ with_entry (handles_in slots free first) n e
  changed_at slots free first n at old e same is s =
      let apart = rw same at (apart-freed (map entry_of slots) (chain slots free first) n old is s.free) in
      rw (same, map-set entry_of slots at (Full e), chain-set slots free first at (Full e) apart) refl

  freed_at : (slots : List (Slot E)) (free first n at : ℕ) (old : E) → n ≡ suc at → entry_in (map entry_of slots) n ≡ Some old → IsTable (handles_in slots free first) → handles_in (set slots at (Free first)) (free + 1) at ≡ removed (handles_in slots free first) n
  freed_at slots free first n at old same is s =
      let apart = rw same at (apart-freed (map entry_of slots) (chain slots free first) n old is s.free) in
      let inside : at < length slots = omega (arith, (given (map entry_of slots) n old is).1, length-map slots entry_of) in
      let here : slot_at (set slots at (Free first)) at ≡ Free first = get_or-set_same slots at (Free first) (Free 0) inside in
      rw (same, add-one, here, map-set entry_of slots at (Free first), chain-set slots free first at (Free first) apart) refl

  -- a number's slot, with another entry
  pub slot_changed : (slots : List (Slot E)) (free first n : ℕ) (e : E) → IsSome (entry_in (map entry_of slots) n) → IsTable (handles_in slots free first) → AreTable (set slots (n - 1) (Full e)) free first (with_entry (handles_in slots free first) n e)
  slot_changed slots free first n e here s =
      let old = entry_from_some (entry_in (map entry_of slots) n) here in
      let change = changed_at slots free first n (n - 1) old.0 e (above_index (map entry_of slots) n old.0 old.1) old.1 s in
      (subst IsTable (sym change) (IsTable-with_entry (handles_in slots free first) n old.0 e old.1 s), change)

  -- a number's slot, freed
  pub slot_freed : (slots : List (Slot E)) (free first n : ℕ) → IsSome (entry_in (map entry_of slots) n) → IsTable (handles_in slots free first) → AreTable (set slots (n - 1) (Free first)) (free + 1) (n - 1) (removed (handles_in slots free first) n)
  slot_freed slots free first n here s =
      let old = entry_from_some (entry_in (map entry_of slots) n) here in
      let change = freed_at slots free first n (n - 1) old.0 (above_index (map entry_of slots) n old.0 old.1) old.1 s in
      (subst IsTable (sym change) (IsTable-removed (handles_in slots free first) n old.0 old.1 s), change)

  taken_at : (slots : List (Slot E)) (free first next : ℕ) (e : E) → 0 < free → slot_at slots first ≡ Free next → IsTable (handles_in slots free first) → handles_in (set slots first (Full e)) (free - 1) next ≡ inserted (handles_in slots free first) e
  taken_at slots zero first next e some is s = absurd (omega arith)
  taken_at slots (suc m) first next e some is s =
      let less : suc m - 1 ≡ m = omega arith in
      let then : before (slot_at slots first) ≡ next = ap before is in
      let apart = rw then at s.apart.0 in
      rw (less, then, map-set entry_of slots first (Full e), chain-set slots m next first (Full e) apart) refl

  first_freed : (slots : List (Slot E)) (free first : ℕ) → 0 < free → IsTable (handles_in slots free first) → IsFreed (map entry_of slots) (suc first)
  first_freed slots zero first some s = absurd (omega arith)
  first_freed slots (suc m) first some s =
      All-head (IsFreed (map entry_of slots)) (suc first) (chain slots m (before (slot_at slots first))) s.free

  pub first_inside : (slots : List (Slot E)) (free first : ℕ) → 0 < free → IsTable (handles_in slots free first) → first < length slots
  first_inside slots free first some s =
      omega (arith, (first_freed slots free first some s).given, length-map slots entry_of)

  -- the slot freed last holds no entry
  pub first_is_free : (slots : List (Slot E)) (free first : ℕ) (x : Slot E) (e : E) → 0 < free → IsTable (handles_in slots free first) → x ≡ get_or slots first x → x ≡ Full e → ⊥
  first_is_free slots free first x e some s read is =
      let inside = first_inside slots free first some s in
      let full = entry_in-map slots first (Full e) inside (slot_read slots first x (Full e) read is inside) in
      cc ((first_freed slots free first some s).free, full)

  -- the number freed last is given next, and is below the limit
  pub first_is_next : (slots : List (Slot E)) (free first : ℕ) → 0 < free → first + 1 ≡ next_index (handles_in slots free first)
  first_is_next slots zero first some = absurd (omega arith)
  first_is_next slots (suc m) first some = add-one first

  pub first_is_small : (slots : List (Slot E)) (free first : ℕ) → 0 < free → IsTable (handles_in slots free first) → first + 1 < handle_limit
  first_is_small slots free first some s =
      omega (arith, first_inside slots free first some s, s.small, length-map slots entry_of)

  -- the slot freed last, taken by an entry
  pub slot_taken : (slots : List (Slot E)) (free first next : ℕ) (x : Slot E) (e : E) → 0 < free → x ≡ get_or slots first x → x ≡ Free next → IsTable (handles_in slots free first) → AreTable (set slots first (Full e)) (free - 1) next (inserted (handles_in slots free first) e)
  slot_taken slots free first next x e some read is s =
      let small : next_index (handles_in slots free first) < handle_limit = omega (arith, first_is_next slots free first some, first_is_small slots free first some s) in
      let inside = first_inside slots free first some s in
      let change = taken_at slots free first next e some (slot_read slots first x (Free next) read is inside) s in
      (subst IsTable (sym change) (IsTable-inserted (handles_in slots free first) e s small), change)

  appended_at : (slots : List (Slot E)) (free first : ℕ) (e : E) → AreFull slots free first → handles_in (slots ++ Full e ∷ []) free first ≡ inserted (handles_in slots free first) e
  appended_at slots zero first e none = rw (map_push entry_of slots (Full e)) refl
  appended_at slots (suc m) first e none = absurd (omega arith)

  -- a slot more, where none is free
  pub slot_appended : (slots : List (Slot E)) (free first : ℕ) (e : E) → AreFull slots free first → next_index (handles_in slots free first) < handle_limit → IsTable (handles_in slots free first) → AreTable (slots ++ Full e ∷ []) free first (inserted (handles_in slots free first) e)
  slot_appended slots free first e none small s =
      let change = appended_at slots free first e none in
      (subst IsTable (sym change) (IsTable-inserted (handles_in slots free first) e s small), change)

  pub few_free : (slots : List (Slot E)) (free first : ℕ) → IsTable (handles_in slots free first) → free < handle_limit
  few_free slots free first s = omega (arith, s.all, s.small, length-chain slots free first)

  second_freed : (slots : List (Slot E)) (free first next : ℕ) → 1 < free → slot_at slots first ≡ Free next → IsTable (handles_in slots free first) → IsFreed (map entry_of slots) (suc next)
  second_freed slots zero first next some is s = absurd (omega arith)
  second_freed slots (suc zero) first next some is s = absurd (omega arith)
  second_freed slots (suc (suc m)) first next some is s =
      let second = before (slot_at slots first) in
      let rest = All-tail (IsFreed (map entry_of slots)) (suc first) (suc second ∷ chain slots m (before (slot_at slots second))) s.free in
      subst (λ i. IsFreed (map entry_of slots) (suc i)) (ap before is) (All-head (IsFreed (map entry_of slots)) (suc second) (chain slots m (before (slot_at slots second))) rest)

  second_next : (slots : List (Slot E)) (free first next : ℕ) (e : E) → 1 < free → slot_at slots first ≡ Free next → next + 1 ≡ next_index (inserted (handles_in slots free first) e)
  second_next slots zero first next e some is = absurd (omega arith)
  second_next slots (suc zero) first next e some is = absurd (omega arith)
  second_next slots (suc (suc m)) first next e some is = rw is (add-one next)

  -- the slot that was freed before the one freed last
  pub second_is : (slots : List (Slot E)) (free first next : ℕ) (x : Slot E) → 1 < free → x ≡ get_or slots first x → x ≡ Free next → IsTable (handles_in slots free first) → ((e : E) → next + 1 ≡ next_index (inserted (handles_in slots free first) e)) × (next + 1 < handle_limit)
  second_is slots free first next x some read is s =
      let inside = first_inside slots free first (omega arith) s in
      let at = slot_read slots first x (Free next) read is inside in
      (λ e. second_next slots free first next e some at, omega (arith, (second_freed slots free first next some at s).given, s.small))
