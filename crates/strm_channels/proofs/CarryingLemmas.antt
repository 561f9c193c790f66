-- Items carried from one guest's memory to another's, or within one that is taken out and put back.
use Rattle.std.proofs.Common.{◌≡◌, ℕ, ℤ, List, [], Option, Some, None, Result, Ok, Err, refl, sym, ap, subst, ◌∙◌, IsNone, OnOk, OnErr}
use Rattle.std.specs.Prelude.{IsSomeAnd}
use Rattle.strm_codes.specs.declared.payloads.Payload.{Payload}
use Rattle.strm_codes.specs.Layout.{item_type}
use Rattle.strm_memory.specs.Items.{items_at, stored_at}
use Rattle.strm_memory.specs.declared.copies.BadItem.{BadItem}
use Rattle.strm_machine.specs.State.{Guest, memory_in}
use Rattle.strm_machine.specs.Meetings.{carried}
use Rattle.strm_machine.specs.Sides.{write_of, read_of}
use Rattle.strm_machine.specs.declared.streams.Operation.{Operation}
use Rattle.strm_machine.specs.declared.streams.Side.{Side}
use Rattle.strm_machine.specs.declared.streams.Side.TheVariants.{Writing, Reading}
use Rattle.strm_machine.proofs.CarryLemmas.{carried_some, carried_none}
use Rattle.strm_memory.specs.Linear.{LinearMemory, untold, with_contents}
use Rattle.strm_channels.specs.Guests.{linear_in, with_linear, Receives}
use Rattle.strm_channels.proofs.GuestLemmas.{with_linear-twice}

none_is : {A : Type 0} (o : Option A) → IsNone o → o ≡ None
none_is None h = refl
none_is (Some x) h = cc

-- a guest's memory taken out of the guests, and another put in its place
pub record Swaps (before between after : List Guest) (g : ℕ) (taken put : LinearMemory) : Type 0 where
  pub was : taken ≡ linear_in before g
  pub out : between ≡ with_linear before g (untold [])
  pub back : after ≡ with_linear between g put

swapped : (before between after : List Guest) (g : ℕ) (taken put : LinearMemory) → Swaps before between after g taken put → with_linear before g put ≡ after
swapped before between after g taken put k =
    sym (with_linear-twice before g (untold []) put) ∙ ap (λ guests. with_linear guests g put) (sym k.out) ∙ sym k.back

-- the memory with so many items of itself
abbrev pub Copies : Payload → Operation → Operation → ℕ → LinearMemory → LinearMemory → Type 0
Copies payload write read n target filled =
    IsSomeAnd (items_at (item_type payload) target.bytes write.address n)
    (λ xs. filled ≡ with_contents target (stored_at (item_type payload) target.bytes read.address xs))

some_case : {A C : Type 0} {P : A → Type 0} (o : Option A) → ((x : A) → o ≡ Some x → P x → C) → IsSomeAnd o P → C
some_case None f h = absurd h
some_case (Some x) f h = f x refl h

module _ (before after : List Guest) (payload : Payload) (write read : Operation) (n : ℕ) where
  -- the memory of the read's guest received items of that of the write's
  abbrev Received : Result (Unit {0}) BadItem → Type 0
  Received result = Receives payload n before after write.guest write.address read.guest read.address result

  pub received_ok : (result : Result (Unit {0}) BadItem) → Received result → OnOk result (carried before payload write read n ≡ Some after)
  received_ok (Err e) k = tt
  received_ok (Ok v) k =
      let filled = stored_at (item_type payload) (memory_in before read.guest) read.address in
      some_case (items_at (item_type payload) (memory_in before write.guest) write.address n)
      (λ xs e h.
      carried_some before payload write read n (filled xs) (subst (λ o. IsSomeAnd o (λ ys. filled xs ≡ filled ys)) (sym e) refl)
      ∙ ap Some (sym h))
      k.ok

  pub received_bad : (result : Result (Unit {0}) BadItem) → Received result → OnErr result (carried before payload write read n ≡ None)
  received_bad (Ok v) k = tt
  received_bad (Err e) k = carried_none before payload write read n (none_is _ (k.bad.0 refl))

module _ (before between after : List Guest) (payload : Payload) (write read : Operation) (n : ℕ) (target filled : LinearMemory) where
  -- the same within one memory
  pub within_ok : write.guest ≡ read.guest → Swaps before between after read.guest target filled → Copies payload write read n target filled → carried before payload write read n ≡ Some after
  within_ok same k ok =
      let stored : List (List ℤ) → List ℕ = stored_at (item_type payload) (memory_in before read.guest) read.address in
      let here : Copies payload write read n (linear_in before read.guest) filled = subst (λ m. Copies payload write read n m filled) k.was ok in
      let whole : IsSomeAnd (items_at (item_type payload) (memory_in before write.guest) write.address n) (λ xs. filled ≡ with_contents (linear_in before read.guest) (stored xs)) = rw same here in
      some_case (items_at (item_type payload) (memory_in before write.guest) write.address n)
      (λ xs e h.
      carried_some before payload write read n (stored xs) (subst (λ o. IsSomeAnd o (λ ys. stored xs ≡ stored ys)) (sym e) refl)
      ∙ ap Some (ap (with_linear before read.guest) (sym h) ∙ swapped before between after read.guest target filled k))
      whole

-- what holds of a caller's operation and of the other side's holds of the write, and of the read
pub of_write : (P : Operation → Type 0) (side : Side) (mine theirs : Operation) → P mine → P theirs → P (write_of side mine theirs)
of_write P Writing mine theirs a b = a
of_write P Reading mine theirs a b = b

pub of_read : (P : Operation → Type 0) (side : Side) (mine theirs : Operation) → P mine → P theirs → P (read_of side mine theirs)
of_read P Writing mine theirs a b = b
of_read P Reading mine theirs a b = a
