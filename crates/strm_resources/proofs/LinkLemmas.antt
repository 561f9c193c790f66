-- Freed numbers are exactly the vacant ones, and each child link has its parent link and back: after
-- every change of a table's nodes.
use Rattle.std.proofs.Common.{◌≡◌, ◌≢◌, ℕ, ◌+◌, ◌-◌, ◌<◌, ◌≤◌, Bool, true, false, cond, not, ◌&&◌, ◌||◌, List, [], ◌∷◌, ◌++◌, length, set, drop, reverse, Option, Some, None, is_some, refl, sym, ap, ◌∙◌, ⊎_elim, arith}
use borrow.Author.Tests.{ltb-true, lt-ltb, le-ltb}
use Rattle.std.proofs.lemmas.Bool.{true≢false, cases_lt}
use Rattle.std.proofs.lemmas.List.{length-set, length_push, get_or_past, reverse-reverse}
use Rattle.std.proofs.lemmas.Map.Keys.{IsDistinct-head, IsDistinct-tail, IsDistinct-cons}
use Rattle.std.proofs.lemmas.Map.Steps.{length-le_from_distinct_below}
use Rattle.std.specs.Cmp.{nat_eq_equiv}
use Rattle.std.specs.FinSet as set
use Rattle.std.specs.FinSet.{contains-empty}
use Rattle.std.specs.List.{IsDistinct, AllByRecursion}
use Rattle.std.specs.Ordering.{nat_cmp}
use Rattle.std.specs.Prelude.{nat_eq, nat_lt, is_none, option_map, option_and_then}
use Rattle.strm_resources.specs.Nodes.{Node, node_at, children_of, parent_at, children_at, is_childless, new_node, with_parent, with_child, without_child, with_node, linked, unlinked, cut_from, cut, next_node, filled}
use Rattle.strm_resources.specs.Links.{is_among, is_vacant, IsLinked}
use Rattle.strm_codes.specs.OptionalNumbers.{is_number}
use Rattle.strm_resources.proofs.NodeLemmas.{contains-inserted, contains-removed, lacks-childless}
use Rattle.strm_resources.proofs.SlotLemmas.{by_eq, eq-other, slot-set, slot-filled, node_at-changed, length-changed}

-- ---- tests

and-left : (a b : Bool) → (a && b) ≡ true → a ≡ true
and-left true b e = refl
and-left false b e = e

and-right : (a b : Bool) → (a && b) ≡ true → b ≡ true
and-right true b e = e
and-right false b e = absurd (true≢false (sym e))

pub and-false : (a : Bool) → (a && false) ≡ false
and-false true = refl
and-false false = refl

and-none : (a x : Bool) → ((a && false) || x) ≡ x
and-none true x = refl
and-none false x = refl

and-alone : (a : Bool) → ((a && true) || false) ≡ a
and-alone true = refl
and-alone false = refl

not_and-none : (a x : Bool) → (not (a && false) && x) ≡ x
not_and-none true x = refl
not_and-none false x = refl

not_and-all : (a : Bool) → (not (a && true) && a) ≡ false
not_and-all true = refl
not_and-all false = refl

none-some : {X : Type 0} (o : Option X) → is_none o ≡ true → o ≡ None
none-some None e = refl
none-some (Some x) e = absurd (true≢false (sym e))

-- ---- one node

same_parent : (change : Node → Node) → ((node : Node) → (change node).parent ≡ node.parent) → (t : Bool) (o : Option Node) → option_and_then (λ node. node.parent) (cond t (option_map change o) o) ≡ option_and_then (λ (node : Node). node.parent) o
same_parent change keeps true None = refl
same_parent change keeps true (Some node) = keeps node
same_parent change keeps false o = refl

same_children : (change : Node → Node) → ((node : Node) → (change node).children ≡ node.children) → (t : Bool) (o : Option Node) → children_of (cond t (option_map change o) o) ≡ children_of o
same_children change keeps true None = refl
same_children change keeps true (Some node) = keeps node
same_children change keeps false o = refl

has-more : (child number : ℕ) (t : Bool) (o : Option Node) → (t ≡ true → is_some o ≡ true) → set.contains (children_of (cond t (option_map (with_child child) o) o)) number ≡ ((t && nat_eq number child) || set.contains (children_of o) number)
has-more child number true None there = absurd (true≢false (sym (there refl)))
has-more child number true (Some node) there = contains-inserted node.children child number
has-more child number false o there = refl

has-less : (child number : ℕ) (t : Bool) (o : Option Node) → set.contains (children_of (cond t (option_map (without_child child) o) o)) number ≡ (not (t && nat_eq number child) && set.contains (children_of o) number)
has-less child number true None = contains-empty nat_cmp number ∙ sym (ap (λ b. not (nat_eq number child) && b) (contains-empty nat_cmp number) ∙ and-false (not (nat_eq number child)))
has-less child number true (Some node) = contains-removed node.children child number
has-less child number false o = refl

new_parent : (parent : Option ℕ) (t : Bool) (o : Option Node) → (t ≡ true → is_some o ≡ true) → option_and_then (λ node. node.parent) (cond t (option_map (with_parent parent) o) o) ≡ cond t parent (option_and_then (λ (node : Node). node.parent) o)
new_parent parent true None there = absurd (true≢false (sym (there refl)))
new_parent parent true (Some node) there = refl
new_parent parent false o there = refl

same_presence : (change : Node → Node) (t : Bool) (o : Option Node) → is_some (cond t (option_map change o) o) ≡ is_some o
same_presence change true None = refl
same_presence change true (Some node) = refl
same_presence change false o = refl

-- ---- all nodes

pub is_some-changed : (change : Node → Node) (nodes : List (Option Node)) (at number : ℕ) → is_some (node_at (with_node change nodes at) number) ≡ is_some (node_at nodes number)
is_some-changed change nodes at number =
    ap is_some (node_at-changed change nodes at number) ∙ same_presence change (nat_eq number at) (node_at nodes number)

is_vacant-changed : (change : Node → Node) (nodes : List (Option Node)) (at number : ℕ) → is_vacant (with_node change nodes at) number ≡ is_vacant nodes number
is_vacant-changed change nodes at number =
    ap (λ n. nat_lt number n && is_none (node_at (with_node change nodes at) number)) (length-changed change nodes at)
    ∙ ap (λ b. nat_lt number (length nodes) && not b) (is_some-changed change nodes at number)

-- a change that keeps a node's parent
abbrev KeepsParent : (Node → Node) → Type 0
KeepsParent change = (node : Node) → (change node).parent ≡ node.parent

-- a number that has a node
abbrev IsPresent : List (Option Node) → ℕ → Type 0
IsPresent nodes number = is_some (node_at nodes number) ≡ true

-- the parents after a link
parent_at-relinked : (change : Node → Node) → KeepsParent change → (parent : Option ℕ) (nodes : List (Option Node)) (child other at : ℕ) → IsPresent nodes child → parent_at (with_node (with_parent parent) (with_node change nodes other) child) at ≡ cond (nat_eq at child) parent (parent_at nodes at)
parent_at-relinked change keeps parent nodes child other number there =
    let inner = with_node change nodes other in
    let kept : parent_at inner number ≡ parent_at nodes number =
    ap (option_and_then (λ node. node.parent)) (node_at-changed change nodes other number) ∙ same_parent change keeps (nat_eq number other) (node_at nodes number) in
    ap (option_and_then (λ node. node.parent)) (node_at-changed (with_parent parent) inner child number)
    ∙ by_eq number child
    (λ t. option_and_then (λ node. node.parent) (cond t (option_map (with_parent parent) (node_at inner number)) (node_at inner number)) ≡ cond t parent (parent_at inner number))
    (λ same. new_parent parent true (node_at inner number) (λ _. is_some-changed change nodes other number ∙ ap (λ n. is_some (node_at nodes n)) same ∙ there))
    (λ apart. refl)
    ∙ ap (cond (nat_eq number child) parent) kept

-- the children after a link
has-outer : (parent : Option ℕ) (nodes : List (Option Node)) (child at number : ℕ) → set.contains (children_at (with_node (with_parent parent) nodes child) at) number ≡ set.contains (children_at nodes at) number
has-outer parent nodes child at number =
    ap (λ o. set.contains (children_of o) number) (node_at-changed (with_parent parent) nodes child at)
    ∙ ap (λ s. set.contains s number) (same_children (with_parent parent) (λ node. refl) (nat_eq at child) (node_at nodes at))

has-with_child : (nodes : List (Option Node)) (child parent at number : ℕ) → is_some (node_at nodes parent) ≡ true → set.contains (children_at (with_node (with_child child) nodes parent) at) number ≡ ((nat_eq at parent && nat_eq number child) || set.contains (children_at nodes at) number)
has-with_child nodes child parent at number there =
    ap (λ o. set.contains (children_of o) number) (node_at-changed (with_child child) nodes parent at)
    ∙ by_eq at parent
    (λ t. set.contains (children_of (cond t (option_map (with_child child) (node_at nodes at)) (node_at nodes at))) number ≡ ((t && nat_eq number child) || set.contains (children_at nodes at) number))
    (λ same. has-more child number true (node_at nodes at) (λ _. ap (λ n. is_some (node_at nodes n)) same ∙ there))
    (λ apart. refl)

has-without_child : (nodes : List (Option Node)) (child parent at number : ℕ) → set.contains (children_at (with_node (without_child child) nodes parent) at) number ≡ (not (nat_eq at parent && nat_eq number child) && set.contains (children_at nodes at) number)
has-without_child nodes child parent at number =
    ap (λ o. set.contains (children_of o) number) (node_at-changed (without_child child) nodes parent at)
    ∙ has-less child number (nat_eq at parent) (node_at nodes at)

-- the number is a child of the other one
abbrev has_child : List (Option Node) → ℕ → ℕ → Bool
has_child nodes at number = set.contains (children_at nodes at) number

-- the child link and the parent link are both there, or neither
abbrev IsTied : List (Option Node) → ℕ → ℕ → Type 0
IsTied nodes at number = has_child nodes at number ≡ is_number (parent_at nodes number) at

-- a link more, in both directions
link_both_ways : (nodes : List (Option Node)) (child parent at number : ℕ) → parent_at nodes child ≡ None → IsTied nodes at number → ((nat_eq at parent && nat_eq number child) || has_child nodes at number) ≡ is_number (cond (nat_eq number child) (Some parent) (parent_at nodes number)) at
link_both_ways nodes child parent at number loose old =
    by_eq number child (λ t. ((nat_eq at parent && t) || set.contains (children_at nodes at) number) ≡ is_number (cond t (Some parent) (parent_at nodes number)) at)
    (λ same.
    let none : set.contains (children_at nodes at) number ≡ false = old ∙ ap (λ o. is_number o at) (ap (parent_at nodes) same ∙ loose) in
    ap (λ b. (nat_eq at parent && true) || b) none ∙ and-alone (nat_eq at parent) ∙ nat_eq_equiv.symm at parent)
    (λ apart. and-none (nat_eq at parent) _ ∙ old)

-- a link less, in both directions
unlink_both_ways : (nodes : List (Option Node)) (child parent at number : ℕ) → parent_at nodes child ≡ Some parent → IsTied nodes at number → (not (nat_eq at parent && nat_eq number child) && has_child nodes at number) ≡ is_number (cond (nat_eq number child) None (parent_at nodes number)) at
unlink_both_ways nodes child parent at number tied old =
    by_eq number child (λ t. (not (nat_eq at parent && t) && set.contains (children_at nodes at) number) ≡ is_number (cond t None (parent_at nodes number)) at)
    (λ same.
    let here : set.contains (children_at nodes at) number ≡ nat_eq at parent =
    old ∙ ap (λ o. is_number o at) (ap (parent_at nodes) same ∙ tied) ∙ nat_eq_equiv.symm parent at in
    ap (λ b. not (nat_eq at parent && true) && b) here ∙ not_and-all (nat_eq at parent))
    (λ apart. not_and-none (nat_eq at parent) _ ∙ old)

-- a number with a child has a node
present-from_child : (nodes : List (Option Node)) (at number : ℕ) → set.contains (children_at nodes at) number ≡ true → is_some (node_at nodes at) ≡ true
present-from_child nodes at number has = by (node_at nodes at) has
  where
    by : (o : Option Node) → set.contains (children_of o) number ≡ true → is_some o ≡ true
    by None e = absurd (true≢false (sym e ∙ contains-empty nat_cmp number))
    by (Some node) e = refl

-- a number with a parent has a node
present-from_parent : (nodes : List (Option Node)) (child parent : ℕ) → parent_at nodes child ≡ Some parent → is_some (node_at nodes child) ≡ true
present-from_parent nodes child parent tied = by (node_at nodes child) tied
  where
    by : (o : Option Node) → option_and_then (λ node. node.parent) o ≡ Some parent → is_some o ≡ true
    by None e = absurd (cc)
    by (Some node) e = refl

module _ (nodes : List (Option Node)) (freed : List ℕ) (kept : IsLinked nodes freed) where
  -- a parent has a node
  pub parent_present : (child parent : ℕ) → parent_at nodes child ≡ Some parent → is_some (node_at nodes parent) ≡ true
  parent_present child parent tied =
      present-from_child nodes parent child (kept.linked child parent ∙ ap (λ o. is_number o parent) tied ∙ nat_eq_equiv.refl parent)

  pub IsLinked-linked : (child parent : ℕ) → is_some (node_at nodes child) ≡ true → is_some (node_at nodes parent) ≡ true → parent_at nodes child ≡ None → IsLinked (linked nodes child parent) freed
  IsLinked-linked child parent there there' loose = record {
    vacant = λ number. kept.vacant number ∙ sym (is_vacant-changed (with_parent (Some parent)) _ child number ∙ is_vacant-changed (with_child child) nodes parent number);
    apart = kept.apart;
    linked = λ number at.
        has-outer (Some parent) _ child at number
        ∙ has-with_child nodes child parent at number there'
        ∙ link_both_ways nodes child parent at number loose (kept.linked number at)
        ∙ ap (λ o. is_number o at) (sym (parent_at-relinked (with_child child) (λ node. refl) (Some parent) nodes child parent number there));
  }

  pub IsLinked-unlinked : (child parent : ℕ) → parent_at nodes child ≡ Some parent → IsLinked (unlinked nodes child parent) freed
  IsLinked-unlinked child parent tied = record {
    vacant = λ number. kept.vacant number ∙ sym (is_vacant-changed (with_parent None) _ child number ∙ is_vacant-changed (without_child child) nodes parent number);
    apart = kept.apart;
    linked = λ number at.
        has-outer None _ child at number
        ∙ has-without_child nodes child parent at number
        ∙ unlink_both_ways nodes child parent at number tied (kept.linked number at)
        ∙ ap (λ o. is_number o at) (sym (parent_at-relinked (without_child child) (λ node. refl) None nodes child parent number (present-from_parent nodes child parent tied)));
  }

-- ---- a number freed

all_apart : (number : ℕ) (freed : List ℕ) → is_among freed number ≡ false → AllByRecursion (λ y. nat_eq number y ≡ false) freed
all_apart number [] none = tt
all_apart number (first ∷ freed) none = by (nat_eq number first) refl none (all_apart number freed)
  where
    by : (t : Bool) → nat_eq number first ≡ t → (t || is_among freed number) ≡ false → (is_among freed number ≡ false → AllByRecursion (λ y. nat_eq number y ≡ false) freed) → AllByRecursion (λ y. nat_eq number y ≡ false) (first ∷ freed)
    by true e f rest = absurd (true≢false f)
    by false e f rest = (e, rest f)

not_among : (number : ℕ) (freed : List ℕ) → AllByRecursion (λ y. nat_eq number y ≡ false) freed → is_among freed number ≡ false
not_among number [] all = refl
not_among number (first ∷ freed) all = ap (λ b. b || is_among freed number) all.0 ∙ not_among number freed all.1

some-present : (o : Option Node) → is_some o ≡ true → is_none o ≡ false
some-present None e = absurd (true≢false (sym e))
some-present (Some node) e = refl

-- a number with a node is below the length
pub present_inside : (nodes : List (Option Node)) (number : ℕ) → is_some (node_at nodes number) ≡ true → number < length nodes
present_inside nodes number there =
    ⊎_elim (λ below. below) (λ above. absurd (true≢false (sym there ∙ ap is_some (get_or_past nodes number None above)))) (cases_lt number (length nodes))

pub is_some-cut : (nodes : List (Option Node)) (child number : ℕ) → is_some (node_at (cut nodes child) number) ≡ is_some (node_at nodes number)
is_some-cut nodes child number = by (parent_at nodes child)
  where
    by : (o : Option ℕ) → is_some (node_at (cut_from nodes child o) number) ≡ is_some (node_at nodes number)
    by None = refl
    by (Some parent) = is_some-changed (with_parent None) _ child number ∙ is_some-changed (without_child child) nodes parent number

pub cut_is_loose : (nodes : List (Option Node)) (child : ℕ) → parent_at (cut nodes child) child ≡ None
cut_is_loose nodes child = by (parent_at nodes child) refl
  where
    by : (o : Option ℕ) → parent_at nodes child ≡ o → parent_at (cut_from nodes child o) child ≡ None
    by None e = e
    by (Some parent) e =
        parent_at-relinked (without_child child) (λ node. refl) None nodes child parent child (present-from_parent nodes child parent e)
        ∙ ap (λ t. cond t None (parent_at nodes child)) (nat_eq_equiv.refl child)

pub cut_is_childless : (nodes : List (Option Node)) (child number : ℕ) → is_childless (children_at nodes child) ≡ true → set.contains (children_at (cut nodes child) child) number ≡ false
cut_is_childless nodes child number none = by (parent_at nodes child)
  where
    lacks : set.contains (children_at nodes child) number ≡ false
    lacks = lacks-childless (children_at nodes child) number none

    by : (o : Option ℕ) → set.contains (children_at (cut_from nodes child o) child) number ≡ false
    by None = lacks
    by (Some parent) =
        has-outer None _ child child number
        ∙ has-without_child nodes child parent child number
        ∙ ap (λ b. not (nat_eq child parent && nat_eq number child) && b) lacks
        ∙ and-false (not (nat_eq child parent && nat_eq number child))

module _ (nodes : List (Option Node)) (freed : List ℕ) (kept : IsLinked nodes freed) where
  pub IsLinked-cut : (child : ℕ) → IsLinked (cut nodes child) freed
  IsLinked-cut child = by (parent_at nodes child) refl
    where
      by : (o : Option ℕ) → parent_at nodes child ≡ o → IsLinked (cut_from nodes child o) freed
      by None e = kept
      by (Some parent) e = IsLinked-unlinked nodes freed kept child parent e

  -- a number with a node is not freed
  pub present_not_freed : (number : ℕ) → is_some (node_at nodes number) ≡ true → is_among freed number ≡ false
  present_not_freed number there =
      kept.vacant number ∙ ap (λ b. nat_lt number (length nodes) && b) (some-present (node_at nodes number) there) ∙ and-false (nat_lt number (length nodes))

-- a node without links, taken away
pub IsLinked-emptied : (nodes : List (Option Node)) (freed : List ℕ) (number : ℕ) → IsLinked nodes freed → is_some (node_at nodes number) ≡ true → parent_at nodes number ≡ None → ((child : ℕ) → set.contains (children_at nodes number) child ≡ false) → IsLinked (set nodes number None) (number ∷ freed)
IsLinked-emptied nodes freed number kept there loose childless =
    let inside = present_inside nodes number there in
    record {
      vacant = λ other.
          by_eq other number (λ t. (t || is_among freed other) ≡ (nat_lt other (length nodes) && is_none (cond t None (node_at nodes other))))
          (λ same. sym (ap (λ b. b && true) (lt-ltb other (length nodes) (rw same inside))))
          (λ apart. kept.vacant other)
          ∙ sym (ap (λ n. nat_lt other n && is_none (node_at (set nodes number None) other)) (length-set nodes number None)
          ∙ ap (λ o. nat_lt other (length nodes) && is_none o) (slot-set nodes number other None inside));
      apart = IsDistinct-cons nat_eq number freed (all_apart number freed (present_not_freed nodes freed kept number there)) kept.apart;
      linked = λ child at.
          ap (λ o. set.contains (children_of o) child) (slot-set nodes number at None inside)
          ∙ by_eq at number (λ t. set.contains (children_of (cond t None (node_at nodes at))) child ≡ is_number (option_and_then (λ node. node.parent) (cond (nat_eq child number) None (node_at nodes child))) at)
          (λ same. contains-empty nat_cmp child ∙ by_eq child number (λ t. false ≡ is_number (option_and_then (λ node. node.parent) (cond t None (node_at nodes child))) at)
          (λ _. refl)
          (λ _. sym (sym (kept.linked child at) ∙ ap (λ n. set.contains (children_at nodes n) child) same ∙ childless child)))
          (λ apart. by_eq child number (λ t. set.contains (children_at nodes at) child ≡ is_number (option_and_then (λ node. node.parent) (cond t None (node_at nodes child))) at)
          (λ same. kept.linked child at ∙ ap (λ o. is_number o at) (ap (parent_at nodes) same ∙ loose))
          (λ _. kept.linked child at))
          ∙ sym (ap (λ o. is_number (option_and_then (λ node. node.parent) o) at) (slot-set nodes number child None inside));
    }

-- a childless number, freed
pub IsLinked-freed : (nodes : List (Option Node)) (freed : List ℕ) (number : ℕ) → IsLinked nodes freed → is_some (node_at nodes number) ≡ true → is_childless (children_at nodes number) ≡ true → IsLinked (set (cut nodes number) number None) (number ∷ freed)
IsLinked-freed nodes freed number kept there childless =
    IsLinked-emptied (cut nodes number) freed number (IsLinked-cut nodes freed kept number) (is_some-cut nodes number number ∙ there) (cut_is_loose nodes number) (λ child. cut_is_childless nodes number child childless)

-- ---- a number given

-- the next number has no node, and if it was freed it is below the length
pub next_vacant : (nodes : List (Option Node)) (freed : List ℕ) → IsLinked nodes freed → node_at nodes (next_node freed (length nodes)) ≡ None
next_vacant nodes [] kept = get_or_past nodes (length nodes) None (omega arith)
next_vacant nodes (number ∷ freed) kept =
    none-some (node_at nodes number) (and-right (nat_lt number (length nodes)) _ (sym (kept.vacant number) ∙ ap (λ b. b || is_among freed number) (nat_eq_equiv.refl number)))

pub next_inside : (nodes : List (Option Node)) (freed : List ℕ) → IsLinked nodes freed → freed ≢ [] → next_node freed (length nodes) < length nodes
next_inside nodes [] kept some = absurd (some refl)
next_inside nodes (number ∷ freed) kept some =
    ltb-true number (length nodes) (and-left (nat_lt number (length nodes)) _ (sym (kept.vacant number) ∙ ap (λ b. b || is_among freed number) (nat_eq_equiv.refl number)))

-- as many numbers are freed as there are at most
pub freed_fit : (nodes : List (Option Node)) (freed : List ℕ) → IsLinked nodes freed → length freed ≤ length nodes
freed_fit nodes freed kept =
    length-le_from_distinct_below freed (length nodes) kept.apart (λ number among. ltb-true number (length nodes) (and-left (nat_lt number (length nodes)) _ (sym (kept.vacant number) ∙ among)))

lt_more : (a b : ℕ) → a ≢ b → nat_lt a (b + 1) ≡ nat_lt a b
lt_more a b other = ⊎_elim
    (λ below. lt-ltb a (b + 1) (omega arith) ∙ sym (lt-ltb a b below))
    (λ above. le-ltb a (b + 1) (omega arith) ∙ sym (le-ltb a b above))
    (cases_lt a b)

-- the freed numbers are those without a node
abbrev AreVacant : List (Option Node) → List ℕ → Type 0
AreVacant nodes freed = (number : ℕ) → is_among freed number ≡ is_vacant nodes number

-- the next number, where it was freed, is below the length
abbrev NextIsInside : List (Option Node) → List ℕ → Type 0
NextIsInside nodes freed = freed ≢ [] → next_node freed (length nodes) < length nodes

-- the next number has no node
abbrev NextIsVacant : List (Option Node) → List ℕ → Type 0
NextIsVacant nodes freed = node_at nodes (next_node freed (length nodes)) ≡ None

-- the links are tied as they are once the next number has this parent
abbrev KnowsNext : List (Option Node) → List ℕ → Option ℕ → Type 0
KnowsNext nodes freed parent =
    (child at : ℕ) → has_child nodes at child ≡ is_number (cond (nat_eq child (next_node freed (length nodes))) parent (parent_at nodes child)) at

vacant-filled : (nodes : List (Option Node)) (freed : List ℕ) (node : Node) → AreVacant nodes freed → IsDistinct nat_eq freed → NextIsInside nodes freed → (number : ℕ) → is_among (drop 1 freed) number ≡ is_vacant (filled freed nodes node) number
vacant-filled nodes [] node vacant apart inside number =
    by_eq number (length nodes) (λ t. false ≡ (nat_lt number (length nodes + 1) && is_none (cond t (Some node) (node_at nodes number))))
    (λ same. sym (and-false _))
    (λ other. vacant number ∙ ap (λ b. b && is_none (node_at nodes number)) (sym (lt_more number (length nodes) other)))
    ∙ sym (ap (λ n. nat_lt number n && is_none (node_at (nodes ++ Some node ∷ []) number)) (length_push nodes (Some node))
    ∙ ap (λ o. nat_lt number (length nodes + 1) && is_none o) (slot-filled [] nodes number node inside))
vacant-filled nodes (first ∷ freed) node vacant apart inside number =
    by_eq number first (λ t. is_among freed number ≡ (nat_lt number (length nodes) && is_none (cond t (Some node) (node_at nodes number))))
    (λ same. ap (is_among freed) same ∙ not_among first freed (IsDistinct-head nat_eq first freed apart) ∙ sym (and-false _))
    (λ other. ap (λ b. b || is_among freed number) (sym (eq-other number first other)) ∙ vacant number)
    ∙ sym (ap (λ n. nat_lt number n && is_none (node_at (set nodes first (Some node)) number)) (length-set nodes first (Some node))
    ∙ ap (λ o. nat_lt number (length nodes) && is_none o) (slot-filled (first ∷ freed) nodes number node inside))

distinct-drop : (freed : List ℕ) → IsDistinct nat_eq freed → IsDistinct nat_eq (drop 1 freed)
distinct-drop [] apart = apart
distinct-drop (first ∷ freed) apart = IsDistinct-tail nat_eq first freed apart

-- a number given with a parent, or none, where the children know of it already
IsLinked-given : (nodes : List (Option Node)) (freed : List ℕ) (parent : Option ℕ) → AreVacant nodes freed → IsDistinct nat_eq freed → NextIsInside nodes freed → NextIsVacant nodes freed → KnowsNext nodes freed parent → IsLinked (filled freed nodes (new_node parent)) (drop 1 freed)
IsLinked-given nodes freed parent vacant apart inside lacks links =
    let next = next_node freed (length nodes) in
    record {
      vacant = vacant-filled nodes freed (new_node parent) vacant apart inside;
      apart = distinct-drop freed apart;
      linked = λ child at.
          ap (λ o. set.contains (children_of o) child) (slot-filled freed nodes at (new_node parent) inside)
          ∙ by_eq at next (λ t. set.contains (children_of (cond t (Some (new_node parent)) (node_at nodes at))) child ≡ set.contains (children_at nodes at) child)
          (λ same. sym (ap (λ o. set.contains (children_of o) child) (ap (node_at nodes) same ∙ lacks)))
          (λ _. refl)
          ∙ links child at
          ∙ by_eq child next (λ t. is_number (cond t parent (parent_at nodes child)) at ≡ is_number (option_and_then (λ node. node.parent) (cond t (Some (new_node parent)) (node_at nodes child))) at)
          (λ _. refl)
          (λ _. refl)
          ∙ sym (ap (λ o. is_number (option_and_then (λ node. node.parent) o) at) (slot-filled freed nodes child (new_node parent) inside));
    }

module _ (nodes : List (Option Node)) (freed : List ℕ) (kept : IsLinked nodes freed) where
  -- a number given with no links
  pub IsLinked-filled : IsLinked (filled freed nodes (new_node None)) (drop 1 freed)
  IsLinked-filled =
      let next = next_node freed (length nodes) in
      let lacks = next_vacant nodes freed kept in
      IsLinked-given nodes freed None kept.vacant kept.apart (next_inside nodes freed kept) lacks (λ child at.
      kept.linked child at
      ∙ by_eq child next (λ t. is_number (parent_at nodes child) at ≡ is_number (cond t None (parent_at nodes child)) at)
      (λ same. ap (λ o. is_number (option_and_then (λ node. node.parent) o) at) (ap (node_at nodes) same ∙ lacks))
      (λ _. refl))

  -- a number given as a child
  pub IsLinked-filled_child : (parent : ℕ) → is_some (node_at nodes parent) ≡ true → IsLinked (filled freed (with_node (with_child (next_node freed (length nodes))) nodes parent) (new_node (Some parent))) (drop 1 freed)
  IsLinked-filled_child parent there =
      let next = next_node freed (length nodes) in
      let more = with_node (with_child next) nodes parent in
      let long : length more ≡ length nodes = length-changed (with_child next) nodes parent in
      let same_next : next_node freed (length more) ≡ next = ap (next_node freed) long in
      let lacks = next_vacant nodes freed kept in
      IsLinked-given more freed (Some parent)
      (λ number. kept.vacant number ∙ sym (is_vacant-changed (with_child next) nodes parent number))
      kept.apart
      (λ some. rw (same_next, long) (next_inside nodes freed kept some))
      (ap (node_at more) same_next ∙ none-some (node_at more next) (ap not (is_some-changed (with_child next) nodes parent next) ∙ ap is_none lacks))
      (λ child at.
      has-with_child nodes next parent at child there
      ∙ link_both_ways nodes next parent at child (ap (option_and_then (λ node. node.parent)) lacks) (kept.linked child at)
      ∙ ap (λ o. is_number (cond (nat_eq child next) (Some parent) o) at) (sym (ap (option_and_then (λ node. node.parent)) (node_at-changed (with_child next) nodes parent child) ∙ same_parent (with_child next) (λ node. refl) (nat_eq child parent) (node_at nodes child)))
      ∙ ap (λ n. is_number (cond (nat_eq child n) (Some parent) (parent_at more child)) at) (sym same_next))

-- no numbers at all
pub IsLinked-none : IsLinked [] []
unfolding IsDistinct
IsLinked-none = record {
  vacant = λ number. sym (ap (λ b. b && true) (le-ltb number 0 (omega arith)));
  apart = tt;
  linked = λ child parent. contains-empty nat_cmp child;
}

pub length-linked : (nodes : List (Option Node)) (child parent : ℕ) → length (linked nodes child parent) ≡ length nodes
length-linked nodes child parent = length-changed (with_parent (Some parent)) _ child ∙ length-changed (with_child child) nodes parent

pub length-unlinked : (nodes : List (Option Node)) (child parent : ℕ) → length (unlinked nodes child parent) ≡ length nodes
length-unlinked nodes child parent = length-changed (with_parent None) _ child ∙ length-changed (without_child child) nodes parent

-- where there is room, one slot more fits
pub length-filled : (freed : List ℕ) (nodes : List (Option Node)) (node : Node) (capacity : ℕ) → 0 < capacity - length nodes + length freed → length nodes ≤ capacity → length (filled freed nodes node) ≤ capacity
length-filled [] nodes node capacity room reserved = omega (arith, length_push nodes (Some node))
length-filled (first ∷ freed) nodes node capacity room reserved = omega (arith, length-set nodes first (Some node))

-- where the next number is a u32, so is each number
pub length-filled_small : (freed : List ℕ) (nodes : List (Option Node)) (node : Node) → next_node freed (length nodes) ≤ 4294967295 → length nodes ≤ 4294967296 → length (filled freed nodes node) ≤ 4294967296
length-filled_small [] nodes node next small = omega (arith, length_push nodes (Some node))
length-filled_small (first ∷ freed) nodes node next small = omega (arith, length-set nodes first (Some node))

pub some_reversed : (xs : List ℕ) → xs ≢ [] → reverse xs ≢ []
some_reversed xs some none = some (sym (reverse-reverse xs) ∙ ap reverse none)

-- where a number is freed, the next number is a u32
pub next_small : (nodes : List (Option Node)) (stack : List ℕ) → IsLinked nodes (reverse stack) → length nodes ≤ 4294967296 → nat_eq (length stack) 0 ≡ false → next_node (reverse stack) (length nodes) ≤ 4294967295
next_small nodes stack kept small some =
    omega (arith, next_inside nodes (reverse stack) kept (some_reversed stack (λ none. true≢false (ap (λ xs. nat_eq (length xs) 0) (sym none) ∙ some))))
