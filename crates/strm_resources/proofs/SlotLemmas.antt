-- The node of each number after one slot was changed, filled or emptied.
use Rattle.std.proofs.Common.{◌≡◌, ◌≢◌, ℕ, ◌<◌, Bool, true, false, cond, List, [], ◌∷◌, ◌++◌, length, set, get_or, Option, Some, None, refl, sym, ap, ◌∙◌, arith, ⊎_elim}
use Rattle.std.proofs.lemmas.List.{get_or-set_same, get_or-set_other, get_or_past, get_or_append_left, get_or_push, set_past, length-set, length_push}
use Rattle.std.proofs.lemmas.Bool.{cases_lt, true≢false}
use Rattle.std.specs.Prelude.{nat_eq, option_map}
use Rattle.std.specs.Cmp.{unsigned_Decides}
use Rattle.strm_resources.specs.Nodes.{Node, node_at, with_node, next_node, filled}

-- a test of two numbers, by cases
pub by_eq : (a b : ℕ) (P : Bool → Type 0) → (a ≡ b → P true) → (a ≢ b → P false) → P (nat_eq a b)
by_eq a b P same apart = by _ refl
  where
    by : (t : Bool) → nat_eq a b ≡ t → P t
    by true e = same ((unsigned_Decides a b).0 e)
    by false e = apart (λ is. true≢false (sym ((unsigned_Decides a b).1 is) ∙ e))

pub eq-other : (a b : ℕ) → a ≢ b → nat_eq a b ≡ false
eq-other a b other = by_eq a b (λ t. t ≡ false) (λ same. absurd (other same)) (λ _. refl)

module _ {X : Type 0} where
  -- a number's slot after a write
  pub slot-set : (slots : List (Option X)) (at number : ℕ) (x : Option X) → at < length slots → get_or (set slots at x) number None ≡ cond (nat_eq number at) x (get_or slots number None)
  slot-set slots at number x inside =
      by_eq number at (λ t. get_or (set slots at x) number None ≡ cond t x (get_or slots number None))
      (λ same. rw same (get_or-set_same slots at x None inside))
      (λ apart. get_or-set_other slots at number x None apart)

  -- a number's slot after one more stands at the end
  pub slot-push : (slots : List (Option X)) (number : ℕ) (x : X) → get_or (slots ++ Some x ∷ []) number None ≡ cond (nat_eq number (length slots)) (Some x) (get_or slots number None)
  slot-push slots number x =
      by_eq number (length slots) (λ t. get_or (slots ++ Some x ∷ []) number None ≡ cond t (Some x) (get_or slots number None))
      (λ same. rw same (get_or_push slots (Some x) None (length slots) refl))
      (λ apart. ⊎_elim
      (λ below. get_or_append_left slots (Some x ∷ []) None number below)
      (λ above. get_or_past (slots ++ Some x ∷ []) number None (omega (arith, length_push slots (Some x))) ∙ sym (get_or_past slots number None above))
      (cases_lt number (length slots)))

  -- a number's slot after the next one was filled
  pub slot-filled : (freed : List ℕ) (slots : List (Option X)) (number : ℕ) (x : X) → (freed ≢ [] → next_node freed (length slots) < length slots) → get_or (filled freed slots x) number None ≡ cond (nat_eq number (next_node freed (length slots))) (Some x) (get_or slots number None)
  slot-filled [] slots number x inside = slot-push slots number x
  slot-filled (at ∷ freed) slots number x inside = slot-set slots at number (Some x) (inside (λ e. cc))

-- a number's node after one was changed
pub node_at-changed : (change : Node → Node) (nodes : List (Option Node)) (at number : ℕ) → node_at (with_node change nodes at) number ≡ cond (nat_eq number at) (option_map change (node_at nodes number)) (node_at nodes number)
node_at-changed change nodes at number =
    ⊎_elim
    (λ inside. slot-set nodes at number (option_map change (node_at nodes at)) inside ∙ by_eq number at
    (λ t. cond t (option_map change (node_at nodes at)) (node_at nodes number) ≡ cond t (option_map change (node_at nodes number)) (node_at nodes number))
    (λ same. rw same refl)
    (λ apart. refl))
    (λ past. ap (λ xs. node_at xs number) (set_past nodes at (option_map change (node_at nodes at)) past) ∙ by_eq number at
    (λ t. node_at nodes number ≡ cond t (option_map change (node_at nodes number)) (node_at nodes number))
    (λ same. rw (same, get_or_past nodes at None past) refl)
    (λ apart. refl))
    (cases_lt at (length nodes))

pub length-changed : (change : Node → Node) (nodes : List (Option Node)) (at : ℕ) → length (with_node change nodes at) ≡ length nodes
length-changed change nodes at = length-set nodes at _
