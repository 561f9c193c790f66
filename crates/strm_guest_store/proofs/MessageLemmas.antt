-- Messages have no more bytes than are counted for them.
use Rattle.std.proofs.Common.{◌≡◌, ℕ, ◌*◌, ◌≤◌, List, [], ◌∷◌, sum_by, Option, Some, None, refl, arith}
use Rattle.std.proofs.lemmas.List.Sums.{sum_by-cons, sum_by-le-sum_by}
use Rattle.strm_handles.specs.declared.entries.Entry.{Entry}
use Rattle.strm_handles.specs.declared.entries.Entry.TheVariants as entries
use Rattle.strm_handles.specs.Kinds.{context_in}
use Rattle.strm_machine.specs.ErrorContexts.{message_limit}
use Rattle.strm_machine.specs.State.{State, guest_in}
use Rattle.strm_guest_store.specs.Among.{IsAmongGuests}
use Rattle.strm_guest_store.specs.Limits.{bytes_for, counts_in, message_size, messages_held}

-- so many times what each counts
sum_by-times : {A : Type 0} (f : A → ℕ) (xs : List A) → sum_by (λ x. message_limit * f x) xs ≡ message_limit * sum_by f xs
sum_by-times f [] = refl
sum_by-times f (x ∷ xs) = omega (arith, sum_by-cons (λ y. message_limit * f y) x xs, sum_by-cons f x xs, sum_by-times f xs)

pub messages_within : (state : State) (g : ℕ) → IsAmongGuests state → messages_held state g ≤ bytes_for (counts_in state g).contexts
messages_within state g among =
    let es = (guest_in state.guests g).handles.entries in
    omega (arith, sum_by-le-sum_by (message_size state.contexts) (λ o. message_limit * context_in o) es each, sum_by-times context_in es)
  where
    each : (o : Option Entry) → message_size state.contexts o ≤ message_limit * context_in o
    each (Some (entries.ErrorContext number)) = omega (arith, (among.unhosted.sound.contexts.messages number).short)
    each None = omega arith
    each (Some _) = omega arith
