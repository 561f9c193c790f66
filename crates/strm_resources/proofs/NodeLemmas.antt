-- The set of a `BTreeSet`'s keys after a change: what the set of children becomes.
use Rattle.std.proofs.Common.{◌≡◌, ℕ, Bool, true, false, cond, not, ◌&&◌, ◌||◌, List, [], ◌∷◌, length, refl, sym, ap, ◌∙◌}
use Rattle.std.proofs.lemmas.Bool.{true≢false}
use Rattle.std.proofs.Math.Dec.{eqb-suc-zero}
use Rattle.std.specs.Prelude.{nat_eq}
use Rattle.std.specs.BTreeSet.{BTreeSet, Updates}
use Rattle.std.specs.Cmp.{nat_cmp_total, nat_eq_equiv, unsigned_tied, unsigned_Decides}
use Rattle.std.specs.FinSet as set
use Rattle.std.specs.FinSet.{from_list, contains-empty, contains-insert, contains-remove, contains-from_list, len-empty, empty_of_len, same_set, nat_cmp-IsAntisymmetric}
use Rattle.std.specs.List.{list_any}
use Rattle.std.specs.Ordering.{eq_by_cmp, nat_cmp}
use Rattle.strm_resources.specs.Links.{is_among}
use Rattle.strm_resources.specs.Nodes.{Numbers, is_childless}

or-by_cond : (a b : Bool) → cond a true b ≡ (a || b)
or-by_cond true b = refl
or-by_cond false b = refl

and-by_cond : (a b : Bool) → cond a false b ≡ (not a && b)
and-by_cond true b = refl
and-by_cond false b = refl

turned : (a b : ℕ) → eq_by_cmp nat_cmp a b ≡ eq_by_cmp nat_cmp b a
turned a b = unsigned_tied a b ∙ nat_eq_equiv.symm a b ∙ sym (unsigned_tied b a)

-- membership after an insert and a removal, by `==`
pub contains-inserted : (s : Numbers) (child number : ℕ) → set.contains (set.insert s child) number ≡ (nat_eq number child || set.contains s number)
contains-inserted s child number = contains-insert nat_cmp_total s child number ∙ ap (λ b. b || set.contains s number) (unsigned_tied number child)

pub contains-removed : (s : Numbers) (child number : ℕ) → set.contains (set.remove s child) number ≡ (not (nat_eq number child) && set.contains s number)
contains-removed s child number = contains-remove nat_cmp_total s child number ∙ ap (λ b. not b && set.contains s number) (unsigned_tied number child)

pub from_list-added : (s n : BTreeSet ℕ) (child : ℕ) → Updates nat_cmp s n child true → from_list {R = nat_cmp} n.keys ≡ set.insert (from_list s.keys) child
from_list-added s n child updates =
    same_set nat_cmp_total nat_cmp-IsAntisymmetric _ _ (λ q.
    contains-from_list nat_cmp_total n.keys q
    ∙ updates.0 q
    ∙ or-by_cond (eq_by_cmp nat_cmp child q) _
    ∙ ap (λ b. b || list_any (eq_by_cmp nat_cmp q) s.keys) (turned child q)
    ∙ ap (λ b. eq_by_cmp nat_cmp q child || b) (sym (contains-from_list nat_cmp_total s.keys q))
    ∙ sym (contains-insert nat_cmp_total _ child q))

pub from_list-taken : (s n : BTreeSet ℕ) (child : ℕ) → Updates nat_cmp s n child false → from_list {R = nat_cmp} n.keys ≡ set.remove (from_list s.keys) child
from_list-taken s n child updates =
    same_set nat_cmp_total nat_cmp-IsAntisymmetric _ _ (λ q.
    contains-from_list nat_cmp_total n.keys q
    ∙ updates.0 q
    ∙ and-by_cond (eq_by_cmp nat_cmp child q) _
    ∙ ap (λ b. not b && list_any (eq_by_cmp nat_cmp q) s.keys) (turned child q)
    ∙ ap (λ b. not (eq_by_cmp nat_cmp q child) && b) (sym (contains-from_list nat_cmp_total s.keys q))
    ∙ sym (contains-remove nat_cmp_total _ child q))

-- a set is childless where it has no member
pub lacks-childless : (s : Numbers) (number : ℕ) → is_childless s ≡ true → set.contains s number ≡ false
lacks-childless s number none =
    ap (λ t. set.contains t number) (empty_of_len s ((unsigned_Decides (set.len s) 0).0 none)) ∙ contains-empty nat_cmp number

pub empty_is_childless : is_childless set.empty ≡ true
empty_is_childless = ap (λ n. nat_eq n 0) (len-empty nat_cmp)

-- the set of these keys is childless where there is no key
pub childless-from_list : (keys : List ℕ) → is_childless (from_list keys) ≡ nat_eq (length keys) 0
childless-from_list [] = empty_is_childless
childless-from_list (key ∷ keys) = by _ refl ∙ sym (eqb-suc-zero (length keys))
  where
    by : (b : Bool) → is_childless (from_list (key ∷ keys)) ≡ b → is_childless (from_list (key ∷ keys)) ≡ false
    by true e =
        let there : set.contains (from_list {R = nat_cmp} (key ∷ keys)) key ≡ true =
        contains-inserted (from_list keys) key key ∙ ap (λ b. b || set.contains (from_list {R = nat_cmp} keys) key) (nat_eq_equiv.refl key) in
        absurd (true≢false (sym there ∙ lacks-childless (from_list (key ∷ keys)) key e))
    by false e = e

-- the members of the set of a list
pub is_among-from_list : (keys : List ℕ) (number : ℕ) → is_among keys number ≡ set.contains (from_list {R = nat_cmp} keys) number
is_among-from_list [] number = sym (contains-empty nat_cmp number)
is_among-from_list (key ∷ keys) number =
    ap (λ b. nat_eq number key || b) (is_among-from_list keys number) ∙ sym (contains-inserted (from_list keys) key number)
