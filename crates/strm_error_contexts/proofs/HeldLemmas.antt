-- The resource table behind error contexts holds no links: after every change of it.
use Rattle.std.proofs.Common.{◌≡◌, ℕ, ◌+◌, ◌-◌, ◌<◌, ◌≤◌, true, cond, List, length, None, Some, is_some, sym, ap, subst, ◌∙◌, arith}
use Rattle.std.proofs.lemmas.List.{length-set}
use Rattle.std.specs.Cmp.{nat_eq_equiv}
use Rattle.std.specs.Prelude.{nat_eq}
use Rattle.strm_resources.specs.Nodes.{is_childless, next_node}
use Rattle.strm_resources.specs.Entries.{Entries, children_of, next_number, pushed, deleted}
use Rattle.strm_error_contexts.specs.Contexts.{Context, context_at, is_context_there, len, new_context}
use Rattle.strm_error_contexts.specs.Inside.{contexts_of, with_handles_at, AreContextsHeld}
use Rattle.strm_error_contexts.proofs.LoneLemmas.{childless-lone, length-lone, lone-filled, lone-emptied, lone-counted}
use Rattle.strm_error_contexts.proofs.KeptLemmas.{context_at-inserted, kept-inserted, kept-counted, kept-removed, len-inserted, len-counted, len-removed, length-filled}

module _ (entries : Entries Context) (count : ℕ) (held : AreContextsHeld entries count) where
  pub held_is_childless : (number : ℕ) → is_childless (children_of entries number) ≡ true
  held_is_childless number = rw held.lone (childless-lone entries.values number)

  -- both have the same number next
  pub same_next : next_number entries ≡ Rattle.strm_error_contexts.specs.Contexts.next_number (contexts_of entries)
  same_next = ap (next_node entries.freed) (ap length held.lone ∙ length-lone entries.values)

  module _ (message : List ℕ) (context : Context) (is_new : context ≡ new_context message) where
    pub held-pushed : next_number entries ≤ 4294967295 → AreContextsHeld (pushed entries context) (count + 1)
    held-pushed next = subst (λ c. AreContextsHeld (pushed entries c) (count + 1)) (sym is_new) (record {
      lone = rw held.lone (sym (lone-filled entries.freed entries.values (new_context message)));
      kept = kept-inserted (contexts_of entries) held.kept message;
      same = rw held.same (sym (len-inserted (contexts_of entries) held.kept message));
      small = length-filled entries.freed entries.values (new_context message) (rw (← same_next) next) held.small;
    })

    -- what a push answers is there from then on
    pub there-pushed : is_context_there (contexts_of (pushed entries context)) (next_number entries) ≡ true
    there-pushed =
        ap (λ c. is_context_there (contexts_of (pushed entries c)) (next_number entries)) is_new
        ∙ ap is_some (context_at-inserted (contexts_of entries) held.kept message (next_number entries))
        ∙ ap (λ n. is_some (cond (nat_eq (next_number entries) n) (Some (new_context message)) (context_at (contexts_of entries) (next_number entries)))) (sym same_next)
        ∙ ap (λ t. is_some (cond t (Some (new_context message)) (context_at (contexts_of entries) (next_number entries)))) (nat_eq_equiv.refl (next_number entries))

  module _ (number : ℕ) (there : is_context_there (contexts_of entries) number ≡ true) where
    pub held-counted : (handles : ℕ) → 0 < handles → AreContextsHeld (with_handles_at entries number handles) count
    held-counted handles some = record {
      lone = held.lone ∙ sym (lone-counted entries.values number handles);
      kept = kept-counted (contexts_of entries) number there held.kept handles some;
      same = held.same ∙ sym (len-counted (contexts_of entries) number there handles);
      small = rw (length-set entries.values number _) held.small;
    }

    pub held-deleted : AreContextsHeld (deleted entries number) (count - 1)
    held-deleted = record {
      lone = rw held.lone (sym (lone-emptied entries.values number));
      kept = kept-removed (contexts_of entries) number there held.kept;
      same = omega (arith, held.same, len-removed (contexts_of entries) number there);
      small = rw (length-set entries.values number None) held.small;
    }
