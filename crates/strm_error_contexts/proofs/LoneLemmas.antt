-- Each error context has a node of its own in the resource table, without parent and children: what a
-- change of the contexts makes of the nodes.
use Rattle.std.proofs.Common.{◌≡◌, ℕ, true, not, ◌&&◌, List, [], ◌∷◌, length, get_or, set, Option, Some, None, is_some, refl, sym, ap, ◌∙◌}
use Rattle.std.proofs.Math.ListN.{get_or-map}
use Rattle.std.proofs.Math.Seq.{map-set_same}
use Rattle.std.proofs.lemmas.List.{length-map, map-set, map_push}
use Rattle.std.specs.Prelude.{nat_lt, option_map, option_and_then}
use Rattle.strm_codes.specs.OptionalNumbers.{is_number}
use Rattle.strm_resources.specs.Nodes.{node_at, parent_at, children_at, children_of, is_childless, new_node, cut_from, cut, filled}
use Rattle.strm_resources.specs.Links as links
use Rattle.strm_resources.proofs.NodeLemmas.{lacks-childless, empty_is_childless}
use Rattle.strm_error_contexts.specs.Contexts.{Context, Contexts, context_with_handles, AreContextsKept}
use Rattle.strm_error_contexts.specs.Inside.{lone_node, lone_nodes}

is_some-lone_node : (o : Option Context) → is_some (lone_node o) ≡ is_some o
is_some-lone_node None = refl
is_some-lone_node (Some c) = refl

parent-lone_node : (o : Option Context) → option_and_then (λ node. node.parent) (lone_node o) ≡ None
parent-lone_node None = refl
parent-lone_node (Some c) = refl

childless-lone_node : (o : Option Context) → is_childless (children_of (lone_node o)) ≡ true
childless-lone_node None = empty_is_childless
childless-lone_node (Some c) = empty_is_childless

-- ---- one number

pub node-lone : (slots : List (Option Context)) (number : ℕ) → node_at (lone_nodes slots) number ≡ lone_node (get_or slots number None)
node-lone slots number = get_or-map lone_node slots number None

pub is_some-lone : (slots : List (Option Context)) (number : ℕ) → is_some (node_at (lone_nodes slots) number) ≡ is_some (get_or slots number None)
is_some-lone slots number = ap is_some (node-lone slots number) ∙ is_some-lone_node (get_or slots number None)

pub parent-lone : (slots : List (Option Context)) (number : ℕ) → parent_at (lone_nodes slots) number ≡ None
parent-lone slots number = ap (option_and_then (λ node. node.parent)) (node-lone slots number) ∙ parent-lone_node (get_or slots number None)

pub childless-lone : (slots : List (Option Context)) (number : ℕ) → is_childless (children_at (lone_nodes slots) number) ≡ true
childless-lone slots number = ap (λ o. is_childless (children_of o)) (node-lone slots number) ∙ childless-lone_node (get_or slots number None)

pub length-lone : (slots : List (Option Context)) → length (lone_nodes slots) ≡ length slots
length-lone slots = length-map slots lone_node

-- ---- a change

pub lone-filled : (freed : List ℕ) (slots : List (Option Context)) (c : Context) → lone_nodes (filled freed slots c) ≡ filled freed (lone_nodes slots) (new_node None)
lone-filled [] slots c = map_push lone_node slots (Some c)
lone-filled (number ∷ freed) slots c = map-set lone_node slots number (Some c)

pub lone-emptied : (slots : List (Option Context)) (number : ℕ) → lone_nodes (set slots number None) ≡ set (cut (lone_nodes slots) number) number None
lone-emptied slots number =
    map-set lone_node slots number None ∙ ap (λ nodes. set nodes number None) (sym (ap (cut_from (lone_nodes slots) number) (parent-lone slots number)))

lone-with_handles : (handles : ℕ) (o : Option Context) → lone_node (option_map (context_with_handles handles) o) ≡ lone_node o
lone-with_handles handles None = refl
lone-with_handles handles (Some c) = refl

pub lone-counted : (slots : List (Option Context)) (number handles : ℕ) → lone_nodes (set slots number (option_map (context_with_handles handles) (get_or slots number None))) ≡ lone_nodes slots
lone-counted slots number handles = map-set_same lone_node slots number _ None (lone-with_handles handles (get_or slots number None))

-- ---- what is kept

-- of contexts that are kept, their nodes are
pub links-kept : (contexts : Contexts) → AreContextsKept contexts → links.IsLinked (lone_nodes contexts.slots) contexts.freed
links-kept contexts kept = record {
  vacant = λ number.
      kept.vacant number
      ∙ ap (λ b. nat_lt number (length contexts.slots) && not b) (sym (is_some-lone contexts.slots number))
      ∙ ap (λ n. nat_lt number n && not (is_some (node_at (lone_nodes contexts.slots) number))) (sym (length-lone contexts.slots));
  apart = kept.apart;
  linked = λ child parent.
      lacks-childless _ child (childless-lone contexts.slots parent)
      ∙ sym (ap (λ o. is_number o parent) (parent-lone contexts.slots child));
}

-- and back
pub vacant-from_links : (slots : List (Option Context)) (freed : List ℕ) → links.IsLinked (lone_nodes slots) freed → (number : ℕ) → links.is_among freed number ≡ (nat_lt number (length slots) && not (is_some (get_or slots number None)))
vacant-from_links slots freed kept number =
    kept.vacant number
    ∙ ap (λ n. nat_lt number n && not (is_some (node_at (lone_nodes slots) number))) (length-lone slots)
    ∙ ap (λ b. nat_lt number (length slots) && not b) (is_some-lone slots number)
