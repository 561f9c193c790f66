-- So many items of one type, counted and copied one by one.
use Rattle.std.proofs.Common.{◌≡◌, ℕ, zero, suc, ◌+◌, ◌*◌, ◌<◌, ◌≤◌, ℤ, Bool, true, false, List, [], ◌∷◌, ◌++◌, length, take, drop, get_or, Some, None, refl, sym, subst, ap, ◌∙◌, arith}
use Rattle.std.proofs.lemmas.List.{drop-drop}
use Rattle.std.specs.Prelude.{is_some, IsTrue, IsSomeAnd, slice_get, Ok, Err}
use Rattle.strm_codes.specs.ItemTypes.{ItemType, item_size}
use Rattle.strm_memory.specs.Copying.{CopiesItems}
use Rattle.strm_memory.specs.Items.{items, stored, stored_at, good_items}
use Rattle.strm_memory.specs.Loads.{decode}
use Rattle.strm_memory.specs.Walks.{item_on}
use Rattle.strm_memory.specs.declared.copies.BadItem.{BadItem}
use Rattle.strm_memory.proofs.CopyLemmas.{never_none}
use Rattle.strm_memory.proofs.ItemLemmas.{item_fits, stored_step}
use Rattle.strm_memory.proofs.NoByteLemmas.{some_items-no_bytes, stored_at-no_bytes}
use Rattle.strm_memory.proofs.GoodLemmas.{behind_good, good_up_to, good_are, good_all}

one_bad : (t : ItemType) (bytes : List ℕ) → None ≡ decode t bytes → is_some (items t bytes 1) ≡ false
unfolding items
one_bad t bytes e = rw (← e) refl

-- where the item behind some is none, there are those
pub good_ends : (t : ItemType) (source : List ℕ) (from k n size : ℕ) → k < n → size ≡ item_size t → is_some (items t (drop from source) k) ≡ true → None ≡ decode t (drop (from + size * k) source) → k ≡ length (good_items t (drop from source) n)
good_ends t source from k n size l e good none =
    let here : None ≡ decode t (drop (item_size t * k) (drop from source)) = none ∙ ap (λ w. decode t (drop (from + w * k) source)) e ∙ ap (decode t) (sym (drop-drop (item_size t * k) from source)) in
    sym (good_up_to t (drop from source) n k l good (one_bad t (drop (item_size t * k) (drop from source)) here))

-- so many are all
pub good_whole : (t : ItemType) (source : List ℕ) (from n : ℕ) → n ≡ length (good_items t (drop from source) n) → items t (drop from source) n ≡ Some (good_items t (drop from source) n)
good_whole t source from n e =
    ap (items t (drop from source)) e ∙ good_are t (drop from source) n

found : {A : Type 0} (xs : List A) (k : ℕ) (d : A) → k < length xs → slice_get xs k ≡ Some (get_or xs k d)
found [] k d h = absurd (omega (arith, h))
found (x ∷ xs) zero d h = refl
found (x ∷ xs) (suc k) d h = found xs k d (omega (arith, h))

any_default : {A : Type 0} (xs : List A) (k : ℕ) (d e : A) → k < length xs → get_or xs k d ≡ get_or xs k e
any_default [] k d e h = absurd (omega (arith, h))
any_default (x ∷ xs) zero d e h = refl
any_default (x ∷ xs) (suc k) d e h = any_default xs k d e (omega (arith, h))

-- as many good items of a source from an address on as there are among so many
abbrev pub good_at : ItemType → List ℕ → ℕ → ℕ → List (List ℤ)
good_at t source from n = good_items t (drop from source) n

-- bytes with these items but the first so many stored from an address on
abbrev pub stored_from : ItemType → List (List ℤ) → ℕ → ℕ → List ℕ → List ℕ
stored_from t xs k at bytes = take at bytes ++ stored t (drop at bytes) (drop k xs)

-- one item copied
module _ (t : ItemType) (source m new : List ℕ) (from to k n size : ℕ) (good : Bool)
    (all : n ≡ length (good_items t (drop from source) n)) (l : k < n) (e : size ≡ item_size t) (room : to + size * n ≤ length m) (g : good ≡ is_some (decode t (drop (from + size * k) source)))
    (moved : IsTrue good → IsSomeAnd (decode t (drop (from + size * k) source)) (λ x. new ≡ item_on t x (to + size * k) m)) where
  pub copied_more : stored_from t (good_at t source from n) (k + 1) (to + size * (k + 1)) new ≡ stored_from t (good_at t source from n) k (to + size * k) m
  copied_more =
      let xs = good_items t (drop from source) n in
      let at = to + size * k in
      let inside : k < length xs = omega (arith, l, all) in
      let x = get_or xs k [] in
      let lies : decode t (drop (from + size * k) source) ≡ Some x =
      ap (λ w. decode t (drop (from + w * k) source)) e
      ∙ ap (decode t) (sym (drop-drop (item_size t * k) from source))
      ∙ behind_good t (drop from source) n k l (omega (arith, inside))
      ∙ found xs k [] inside in
      let is : new ≡ item_on t x at m = subst (λ o. IsSomeAnd o (λ y. new ≡ item_on t y at m)) lies (moved (g ∙ ap is_some lies)) in
      let next : to + size * (k + 1) ≡ at + size = grind arith in
      let less : at ≤ length m = omega (arith, item_fits k n size l, room) in
      rw (next, is) (stored_step t m at k size xs x inside (any_default xs k [] x inside) e less)

fewer_good : (t : ItemType) (bytes : List ℕ) (n : ℕ) → length (good_items t bytes n) < n → is_some (items t bytes n) ≡ false
fewer_good t bytes n l = go (is_some (items t bytes n)) refl
  where
    go : (b : Bool) → is_some (items t bytes n) ≡ b → is_some (items t bytes n) ≡ false
    go true e = absurd (omega (arith, l, good_all t bytes n e))
    go false e = e

-- where fewer are good than there are to be, nothing is copied
pub none_copied : (t : ItemType) (source m : List ℕ) (from to n : ℕ) (bad : BadItem) → length (good_items t (drop from source) n) < n → CopiesItems t source from m m to n (Err bad)
none_copied t source m from to n bad l = record {
  ok = tt;
  bad = ((λ _. fewer_good t (drop from source) n l), (λ _. refl));
  err = refl;
}

-- else all are
pub all_copied : (t : ItemType) (source old new : List ℕ) (from to n : ℕ) → n ≡ length (good_items t (drop from source) n) → new ≡ stored_at t old to (good_items t (drop from source) n) → CopiesItems t source from old new to n (Ok tt)
all_copied t source old new from to n all is =
    let whole = good_whole t source from n all in
    record {
      ok = subst (λ o. IsSomeAnd o (λ xs. new ≡ stored_at t old to xs)) (sym whole) is;
      bad = never_none (items t (drop from source) n) (ap is_some whole);
      err = tt;
    }

-- items of no bytes are all good
pub good_no_bytes : (t : ItemType) (bytes : List ℕ) (n : ℕ) → item_size t ≡ 0 → n ≡ length (good_items t bytes n)
good_no_bytes t bytes n e = sym (good_all t bytes n (some_items-no_bytes t bytes n e))

-- and a copy of them leaves all as it is
pub copied_no_bytes : (t : ItemType) (source m : List ℕ) (from to n : ℕ) → item_size t ≡ 0 → CopiesItems t source from m m to n (Ok tt)
copied_no_bytes t source m from to n e =
    all_copied t source m m from to n (good_no_bytes t (drop from source) n e) (sym (stored_at-no_bytes t m to (good_items t (drop from source) n) e))
