-- What each number has after a change of error contexts, how many there are then, and that they stay
-- kept.
use Rattle.std.proofs.Common.{◌≡◌, ◌≢◌, ℕ, ◌+◌, ◌-◌, ◌<◌, ◌≤◌, Bool, true, false, cond, not, ◌&&◌, List, [], ◌∷◌, length, get_or, drop, Option, Some, None, is_some, refl, sym, ap, subst, ◌∙◌, ⊎_elim, arith}
use Rattle.std.proofs.lemmas.Bool.{true≢false, cases_lt, ltb-true}
use Rattle.std.proofs.lemmas.List.{length-set, length_push, get_or_past}
use Rattle.std.proofs.lemmas.List.Sums.{sum_by-set, sum_by_push}
use Rattle.std.specs.List.{count_by}
use Rattle.std.specs.Prelude.{nat_eq, nat_lt, option_map}
use Rattle.strm_resources.specs.Nodes.{node_at, next_node, filled}
use Rattle.strm_resources.specs.Links as links
use Rattle.strm_resources.proofs.LinkLemmas as nodes
use Rattle.strm_resources.proofs.SlotLemmas.{by_eq, slot-set, slot-filled}
use Rattle.strm_error_contexts.specs.Contexts.{Context, Contexts, no_contexts, context_at, is_context_there, handles_of_context, context_count_at, len, next_number, new_context, inserted, context_with_handles, context_counted, context_lowered, removed, context_dropped, AreContextsKept}
use Rattle.strm_error_contexts.specs.Inside.{lone_nodes}
use Rattle.strm_error_contexts.proofs.LoneLemmas.{is_some-lone, childless-lone, length-lone, lone-filled, lone-emptied, links-kept, vacant-from_links}

-- a number with a context is below the length
pub there_inside : (contexts : Contexts) (number : ℕ) → is_context_there contexts number ≡ true → number < length contexts.slots
there_inside contexts number there =
    ⊎_elim (λ below. below) (λ above. absurd (true≢false (sym there ∙ ap is_some (get_or_past contexts.slots number None above)))) (cases_lt number (length contexts.slots))

-- ---- no contexts

pub kept-none : AreContextsKept no_contexts
kept-none = record {
  handled = λ number there. absurd (true≢false (sym there));
  vacant = vacant-from_links [] [] nodes.IsLinked-none;
  apart = nodes.IsLinked-none.apart;
}

-- ---- a context more

module _ (contexts : Contexts) (kept : AreContextsKept contexts) where
  inside : contexts.freed ≢ [] → next_number contexts < length contexts.slots
  inside some = subst (λ n. next_node contexts.freed n < n) (length-lone contexts.slots) (nodes.next_inside (lone_nodes contexts.slots) contexts.freed (links-kept contexts kept) some)

  -- the number that is given next has no context
  pub next_is_free : is_context_there contexts (next_number contexts) ≡ false
  next_is_free =
      sym (is_some-lone contexts.slots (next_number contexts))
      ∙ ap (λ n. is_some (node_at (lone_nodes contexts.slots) (next_node contexts.freed n))) (sym (length-lone contexts.slots))
      ∙ ap is_some (nodes.next_vacant (lone_nodes contexts.slots) contexts.freed (links-kept contexts kept))

  module _ (message : List ℕ) where
    pub context_at-inserted : (number : ℕ) → context_at (inserted contexts message) number ≡ cond (nat_eq number (next_number contexts)) (Some (new_context message)) (context_at contexts number)
    context_at-inserted number = slot-filled contexts.freed contexts.slots number (new_context message) inside

    links_more : links.IsLinked (lone_nodes (inserted contexts message).slots) (drop 1 contexts.freed)
    links_more =
        subst (λ ns. links.IsLinked ns (drop 1 contexts.freed)) (sym (lone-filled contexts.freed contexts.slots (new_context message)))
        (nodes.IsLinked-filled (lone_nodes contexts.slots) contexts.freed (links-kept contexts kept))

    pub kept-inserted : AreContextsKept (inserted contexts message)
    kept-inserted = record {
      handled = λ number.
          subst (λ o. is_some o ≡ true → 0 < handles_of_context o) (sym (context_at-inserted number))
          (by_eq number (next_number contexts) (λ t. is_some (cond t (Some (new_context message)) (context_at contexts number)) ≡ true → 0 < handles_of_context (cond t (Some (new_context message)) (context_at contexts number)))
          (λ same there. omega arith)
          (λ apart. kept.handled number));
      vacant = vacant-from_links _ _ links_more;
      apart = links_more.apart;
    }

abbrev one_if : Bool → ℕ
one_if b = cond b 1 0

len-filled : (freed : List ℕ) (slots : List (Option Context)) (c : Context) → (freed ≢ [] → next_node freed (length slots) < length slots) → is_some (get_or slots (next_node freed (length slots)) None) ≡ false → count_by is_some (filled freed slots c) ≡ count_by is_some slots + 1
len-filled [] slots c inside free = sum_by_push (λ o. one_if (is_some o)) slots (Some c)
len-filled (number ∷ freed) slots c inside free =
    let none : one_if (is_some (get_or slots number None)) ≡ 0 = ap one_if free in
    omega (arith, none, sum_by-set (λ o. one_if (is_some o)) slots number (Some c) None (inside (λ e. cc)))

pub len-inserted : (contexts : Contexts) → AreContextsKept contexts → (message : List ℕ) → len (inserted contexts message) ≡ len contexts + 1
len-inserted contexts kept message = len-filled contexts.freed contexts.slots (new_context message) (inside contexts kept) (next_is_free contexts kept)

pub length-filled : (freed : List ℕ) (slots : List (Option Context)) (c : Context) → next_node freed (length slots) ≤ 4294967295 → length slots ≤ 4294967296 → length (filled freed slots c) ≤ 4294967296
length-filled [] slots c next small = rw (length_push slots (Some c)) (omega arith)
length-filled (number ∷ freed) slots c next small = rw (length-set slots number (Some c)) small

-- ---- another count

is_some-with_handles : (handles : ℕ) (o : Option Context) → is_some (option_map (context_with_handles handles) o) ≡ is_some o
is_some-with_handles handles None = refl
is_some-with_handles handles (Some c) = refl

handles_of_context-with_handles : (handles : ℕ) (o : Option Context) → is_some o ≡ true → handles_of_context (option_map (context_with_handles handles) o) ≡ handles
handles_of_context-with_handles handles None there = absurd (true≢false (sym there))
handles_of_context-with_handles handles (Some c) there = refl

module _ (contexts : Contexts) (number : ℕ) (there : is_context_there contexts number ≡ true) where
  pub context_at-counted : (handles other : ℕ) → context_at (context_counted contexts number handles) other ≡ cond (nat_eq other number) (option_map (context_with_handles handles) (context_at contexts number)) (context_at contexts other)
  context_at-counted handles other = slot-set contexts.slots number other (option_map (context_with_handles handles) (context_at contexts number)) (there_inside contexts number there)

  pub is_context_there-counted : (handles other : ℕ) → is_context_there (context_counted contexts number handles) other ≡ is_context_there contexts other
  is_context_there-counted handles other =
      ap is_some (context_at-counted handles other)
      ∙ by_eq other number (λ t. is_some (cond t (option_map (context_with_handles handles) (context_at contexts number)) (context_at contexts other)) ≡ is_context_there contexts other)
      (λ same. is_some-with_handles handles (context_at contexts number) ∙ ap (is_context_there contexts) (sym same))
      (λ apart. refl)

  pub kept-counted : AreContextsKept contexts → (handles : ℕ) → 0 < handles → AreContextsKept (context_counted contexts number handles)
  kept-counted kept handles some = record {
    handled = λ other.
        subst (λ o. is_some o ≡ true → 0 < handles_of_context o) (sym (context_at-counted handles other))
        (by_eq other number (λ t. is_some (cond t (option_map (context_with_handles handles) (context_at contexts number)) (context_at contexts other)) ≡ true → 0 < handles_of_context (cond t (option_map (context_with_handles handles) (context_at contexts number)) (context_at contexts other)))
        (λ same _. subst (λ n. 0 < n) (sym (handles_of_context-with_handles handles (context_at contexts number) there)) some)
        (λ apart. kept.handled other));
    vacant = λ other.
        kept.vacant other
        ∙ ap (λ b. nat_lt other (length contexts.slots) && not b) (sym (is_context_there-counted handles other))
        ∙ ap (λ n. nat_lt other n && not (is_context_there (context_counted contexts number handles) other)) (sym (length-set contexts.slots number (option_map (context_with_handles handles) (context_at contexts number))));
    apart = kept.apart;
  }

  pub len-counted : (handles : ℕ) → len (context_counted contexts number handles) ≡ len contexts
  len-counted handles =
      let same : one_if (is_some (option_map (context_with_handles handles) (context_at contexts number))) ≡ one_if (is_some (context_at contexts number)) = ap one_if (is_some-with_handles handles (context_at contexts number)) in
      omega (arith, same, sum_by-set (λ o. one_if (is_some o)) contexts.slots number (option_map (context_with_handles handles) (context_at contexts number)) None (there_inside contexts number there))

  -- ---- a context less

  pub context_at-removed : (other : ℕ) → context_at (removed contexts number) other ≡ cond (nat_eq other number) None (context_at contexts other)
  context_at-removed other = slot-set contexts.slots number other None (there_inside contexts number there)

  links_less : AreContextsKept contexts → links.IsLinked (lone_nodes (removed contexts number).slots) (number ∷ contexts.freed)
  links_less kept =
      subst (λ ns. links.IsLinked ns (number ∷ contexts.freed)) (sym (lone-emptied contexts.slots number))
      (nodes.IsLinked-freed (lone_nodes contexts.slots) contexts.freed number (links-kept contexts kept) (is_some-lone contexts.slots number ∙ there) (childless-lone contexts.slots number))

  pub kept-removed : AreContextsKept contexts → AreContextsKept (removed contexts number)
  kept-removed kept = record {
    handled = λ other.
        subst (λ o. is_some o ≡ true → 0 < handles_of_context o) (sym (context_at-removed other))
        (by_eq other number (λ t. is_some (cond t None (context_at contexts other)) ≡ true → 0 < handles_of_context (cond t None (context_at contexts other)))
        (λ same gone. absurd (true≢false (sym gone)))
        (λ apart. kept.handled other));
    vacant = vacant-from_links _ _ (links_less kept);
    apart = (links_less kept).apart;
  }

  pub len-removed : len (removed contexts number) + 1 ≡ len contexts
  len-removed =
      let one : one_if (is_some (context_at contexts number)) ≡ 1 = ap one_if there in
      omega (arith, one, sum_by-set (λ o. one_if (is_some o)) contexts.slots number None None (there_inside contexts number there))

  -- ---- a handle less

  pub kept-dropped : AreContextsKept contexts → AreContextsKept (context_dropped contexts number)
  kept-dropped kept = by (nat_lt 1 (context_count_at contexts number)) refl
    where
      by : (t : Bool) → nat_lt 1 (context_count_at contexts number) ≡ t → AreContextsKept (cond t (context_lowered contexts number) (removed contexts number))
      by true several = let more = ltb-true 1 (context_count_at contexts number) several in kept-counted kept (context_count_at contexts number - 1) (omega arith)
      by false last = kept-removed kept
