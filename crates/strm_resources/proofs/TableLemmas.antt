-- A number has a node exactly where it has a value: after every change of a table.
use Rattle.std.proofs.Common.{◌≡◌, ◌≢◌, ℕ, zero, suc, ◌+◌, ◌-◌, ◌<◌, ◌≤◌, true, false, cond, List, [], ◌∷◌, ◌++◌, length, get_or, set, drop, map, Option, Some, None, is_some, refl, sym, ap, ◌∙◌, arith}
use Rattle.std.proofs.lemmas.List.{length-map, map-set, map_push, set-get_or}
use Rattle.std.specs.Prelude.{nat_eq, option_map}
use Rattle.std.specs.Cmp.{nat_eq_equiv}
use Rattle.strm_resources.specs.Nodes.{Node, node_at, parent_at, new_node, with_node, with_parent, with_child, without_child, linked, unlinked, cut_from, cut, next_node, filled, with_new_child}
use Rattle.strm_resources.proofs.SlotLemmas.{eq-other}

module _ {X : Type 0} where
  is_some-get_or : (xs : List (Option X)) (number : ℕ) → is_some (get_or xs number None) ≡ get_or (map is_some xs) number false
  is_some-get_or [] number = refl
  is_some-get_or (x ∷ xs) zero = refl
  is_some-get_or (x ∷ xs) (suc number) = is_some-get_or xs number

  -- the slot that is written holds something where the old one did
  pub alike-rewritten : (xs : List (Option X)) (number : ℕ) (x : Option X) → is_some x ≡ is_some (get_or xs number None) → map is_some (set xs number x) ≡ map is_some xs
  alike-rewritten xs number x same =
      map-set is_some xs number x ∙ ap (set (map is_some xs) number) (same ∙ is_some-get_or xs number) ∙ set-get_or (map is_some xs) number false

  -- the next slot, as a table fills it
  pub put-filled : (freed : List ℕ) (xs : List (Option X)) (number : ℕ) (x : X) → number ≡ next_node freed (length xs) → (freed ≢ [] → number < length xs) → cond (nat_eq number (length xs)) (xs ++ Some x ∷ []) (set xs number (Some x)) ≡ filled freed xs x
  put-filled [] xs number x is inside =
      ap (λ n. cond (nat_eq n (length xs)) (xs ++ Some x ∷ []) (set xs n (Some x))) is ∙ ap (λ t. cond t (xs ++ Some x ∷ []) (set xs (length xs) (Some x))) (nat_eq_equiv.refl (length xs))
  put-filled (first ∷ freed) xs number x is inside =
      let below = inside (λ e. cc) in
      ap (λ t. cond t (xs ++ Some x ∷ []) (set xs number (Some x))) (eq-other number (length xs) (λ e. omega arith)) ∙ ap (λ n. set xs n (Some x)) is

module _ {X Y : Type 0} (xs : List (Option X)) (ys : List (Option Y)) (alike : map is_some xs ≡ map is_some ys) where
  pub alike_at : (number : ℕ) → is_some (get_or xs number None) ≡ is_some (get_or ys number None)
  alike_at number = is_some-get_or xs number ∙ ap (λ bs. get_or bs number false) alike ∙ sym (is_some-get_or ys number)

  pub alike_length : length xs ≡ length ys
  alike_length = sym (length-map xs is_some) ∙ ap length alike ∙ length-map ys is_some

  pub alike-emptied : (number : ℕ) → map is_some (set xs number None) ≡ map is_some (set ys number None)
  alike-emptied number = map-set is_some xs number None ∙ ap (λ bs. set bs number false) alike ∙ sym (map-set is_some ys number None)

  pub alike-filled : (freed : List ℕ) (x : X) (y : Y) → map is_some (filled freed xs x) ≡ map is_some (filled freed ys y)
  alike-filled [] x y = map_push is_some xs (Some x) ∙ ap (λ bs. bs ++ true ∷ []) alike ∙ sym (map_push is_some ys (Some y))
  alike-filled (number ∷ freed) x y = map-set is_some xs number (Some x) ∙ ap (λ bs. set bs number true) alike ∙ sym (map-set is_some ys number (Some y))

is_some-mapped : (change : Node → Node) (o : Option Node) → is_some (option_map change o) ≡ is_some o
is_some-mapped change None = refl
is_some-mapped change (Some node) = refl

alike-changed : (change : Node → Node) (nodes : List (Option Node)) (number : ℕ) → map is_some (with_node change nodes number) ≡ map is_some nodes
alike-changed change nodes number = alike-rewritten nodes number _ (is_some-mapped change (node_at nodes number))

pub alike-linked : (nodes : List (Option Node)) (child parent : ℕ) → map is_some (linked nodes child parent) ≡ map is_some nodes
alike-linked nodes child parent = alike-changed (with_parent (Some parent)) _ child ∙ alike-changed (with_child child) nodes parent

pub alike-unlinked : (nodes : List (Option Node)) (child parent : ℕ) → map is_some (unlinked nodes child parent) ≡ map is_some nodes
alike-unlinked nodes child parent = alike-changed (with_parent None) _ child ∙ alike-changed (without_child child) nodes parent

pub alike-cut : (nodes : List (Option Node)) (child : ℕ) → map is_some (cut nodes child) ≡ map is_some nodes
alike-cut nodes child = by (parent_at nodes child)
  where
    by : (o : Option ℕ) → map is_some (cut_from nodes child o) ≡ map is_some nodes
    by None = refl
    by (Some parent) = alike-unlinked nodes child parent

pub alike-new_child : {X : Type 0} (xs : List (Option X)) (nodes : List (Option Node)) → map is_some xs ≡ map is_some nodes → (freed : List ℕ) (x : X) (parent : ℕ) → map is_some (filled freed xs x) ≡ map is_some (with_new_child freed nodes parent)
alike-new_child xs nodes alike freed x parent =
    alike-filled xs _ (alike ∙ sym (alike-changed (with_child (next_node freed (length nodes))) nodes parent)) freed x (new_node (Some parent))

pub alike-deleted : {X : Type 0} (xs : List (Option X)) (nodes : List (Option Node)) → map is_some xs ≡ map is_some nodes → (number : ℕ) → map is_some (set xs number None) ≡ map is_some (set (cut nodes number) number None)
alike-deleted xs nodes alike number = alike-emptied xs (cut nodes number) (alike ∙ sym (alike-cut nodes number)) number

-- one push takes one place of the room at most
pub room-filled : (freed : List ℕ) (number len capacity : ℕ) → number ≡ next_node freed len → (freed ≢ [] → number < len) → capacity - len + length freed ≤ capacity - cond (nat_eq number len) (len + 1) len + length (drop 1 freed) + 1
room-filled [] number len capacity is inside =
    let new : nat_eq number len ≡ true = ap (λ n. nat_eq n len) is ∙ nat_eq_equiv.refl len in
    rw new (omega arith)
room-filled (first ∷ freed) number len capacity is inside =
    let below = inside (λ e. cc) in
    rw (eq-other number len (λ e. omega arith)) (omega arith)

-- the next place is one of those that there are, or the one behind them where there is room for it
pub next_fits : (freed : List ℕ) (number len capacity : ℕ) → number ≡ next_node freed len → (freed ≢ [] → number < len) → 0 < capacity - len + length freed → (number ≤ len) × (number ≡ len → len < capacity)
next_fits [] number len capacity is inside room = (omega arith, λ last. omega arith)
next_fits (first ∷ freed) number len capacity is inside room =
    let below = inside (λ e. cc) in
    (omega arith, λ last. absurd (omega arith))
