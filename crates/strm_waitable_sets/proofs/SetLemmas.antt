-- The sets of a guest after each change, as contracts see them: who is a member, which sets are there,
-- and which member is the first that passes a test.
use Rattle.std.proofs.Common.{Ordering, Less, Equal, Greater, T, ◌≡◌, ◌≢◌, ℕ, ◌+◌, ◌-◌, ◌<◌, ◌≤◌, Bool, true, false, cond, not, ◌&&◌, ◌||◌, List, [], ◌∷◌, ◌++◌, length, set, get_or, map as map_list, Option, Some, None, is_some, refl, sym, ap, ◌∙◌, arith, inl, inr, length-append, length-set}
use Rattle.std.proofs.lemmas.Bool.{cases_lt, lt-ltb, le-ltb}
use Rattle.std.proofs.lemmas.List.{get_or-set_same, get_or-set_other, get_or_past, get_or_append_left}
use Rattle.std.proofs.lemmas.List.Sums.{sum_by-set, sum_by_push}
use Rattle.std.proofs.lemmas.Map.Keys.{IsStrictlyIncreasing-from_sorted, sorted_head}
use Rattle.std.specs.Cmp.{nat_cmp_total, nat_eq_equiv, unsigned_tied, ranked}
use Rattle.std.specs.FinMap as map
use Rattle.std.specs.FinMap.Entries.{below_all, is_sorted}
use Rattle.std.specs.List.{count_by, find, list_any, position_or_len, AllByRecursion}
use Rattle.std.specs.List.Sorted.{IsStrictlySortedBy}
use Rattle.std.specs.Ordering.{eq_by_cmp, is_lt, nat_cmp}
use Rattle.std.specs.Prelude.{nat_eq, ◌⊎◌}
use Rattle.std.proofs.lemmas.Grind.{get_or_tail}
use Rattle.strm_waitable_sets.specs.Sets.{Sets, is_set_there, set_of, is_member, members, least_free, set_placed, with_new_set, handle_joined, handle_left, without_set, IsLeastReady, NoneReady, ListsHandles}
use Rattle.strm_codes.specs.OptionalNumbers.{is_number}
use Rattle.strm_waitable_sets.proofs.HomeLemmas.{by_eq}
use Rattle.strm_waitable_sets.proofs.TieLemmas.{eq-other, set_placed-at}

-- ## Members after a change

pub is_member-left_same : (sets : Sets) (handle number : ℕ) → is_member (handle_left sets handle) number handle ≡ false
is_member-left_same sets handle number =
    ap (λ o. is_number o number) (map.get-remove nat_cmp_total sets.homes handle handle ∙ ap (λ b. cond b None (set_of sets handle)) (unsigned_tied handle handle ∙ nat_eq_equiv.refl handle))

pub is_member-left_other : (sets : Sets) (handle number other : ℕ) → other ≢ handle → is_member (handle_left sets handle) number other ≡ is_member sets number other
is_member-left_other sets handle number other ne =
    ap (λ o. is_number o number) (map.get-remove nat_cmp_total sets.homes handle other ∙ ap (λ b. cond b None (set_of sets other)) (unsigned_tied other handle ∙ eq-other other handle ne))

pub is_member-joined_same : (sets : Sets) (handle number other : ℕ) → is_member (handle_joined sets handle number) other handle ≡ nat_eq number other
is_member-joined_same sets handle number other =
    ap (λ o. is_number o other) (map.get-insert nat_cmp_total sets.homes handle number handle ∙ ap (λ b. cond b (Some number) (set_of sets handle)) (unsigned_tied handle handle ∙ nat_eq_equiv.refl handle))

pub is_member-joined_other : (sets : Sets) (handle number home other : ℕ) → other ≢ handle → is_member (handle_joined sets handle number) home other ≡ is_member sets home other
is_member-joined_other sets handle number home other ne =
    ap (λ o. is_number o home) (map.get-insert nat_cmp_total sets.homes handle number other ∙ ap (λ b. cond b (Some number) (set_of sets other)) (unsigned_tied other handle ∙ eq-other other handle ne))

-- ## Which sets are there after a change

free_none : (flags : List Bool) → get_or flags (position_or_len not flags) false ≡ false
free_none [] = refl
free_none (false ∷ flags) = refl
free_none (true ∷ flags) =
    get_or_tail true flags (position_or_len not (true ∷ flags)) false (omega arith)
    ∙ ap (λ n. get_or flags n false) (let one : position_or_len not (true ∷ flags) - 1 ≡ position_or_len not flags = omega arith in one)
    ∙ free_none flags

free_most : (flags : List Bool) → position_or_len not flags ≤ length flags
free_most [] = omega arith
free_most (false ∷ flags) = omega arith
free_most (true ∷ flags) = let more = free_most flags in omega (arith, more)

-- the least number that no set has, has none
pub is_set_there-free : (sets : Sets) → is_set_there sets (least_free sets) ≡ false
is_set_there-free sets = free_none sets.there

pub is_set_there-new : (sets : Sets) → is_set_there (with_new_set sets) (least_free sets) ≡ true
is_set_there-new sets =
    let n = least_free sets in set_placed-at sets.there n n (free_most sets.there) (λ below. absurd (omega arith)) (omega arith)

strictly : (a b : ℕ) → a ≤ b → b ≢ a → a < b
strictly a b l ne = elim (cases_lt a b) [
  | inl h ↦ h
  | inr h ↦ absurd (ne (omega arith))
]

placed_other : (flags : List Bool) (number other : ℕ) → number ≤ length flags → other ≢ number → get_or (set_placed flags number) other false ≡ get_or flags other false
placed_other flags number other inside ne =
    elim (cases_lt number (length flags)) [
      | inl lower ↦ rw (lt-ltb number (length flags) lower) (get_or-set_other flags number other true false ne)
      | inr above ↦ rw (le-ltb number (length flags) above) (pushed above (cases_lt other (length flags)))
    ]
  where
    pushed : length flags ≤ number → (other < length flags) ⊎ (length flags ≤ other) → get_or (flags ++ true ∷ []) other false ≡ get_or flags other false
    pushed above (inl below) = get_or_append_left flags (true ∷ []) false other below
    pushed above (inr past) =
        let last : number ≡ length flags = omega (arith, above, inside) in
        let longer : length (flags ++ true ∷ []) ≤ other = let more = strictly (length flags) other past (λ e. ne (e ∙ sym last)) in omega (arith, length-append flags (true ∷ []), more) in
        get_or_past (flags ++ true ∷ []) other false longer ∙ sym (get_or_past flags other false past)

pub is_set_there-new_other : (sets : Sets) (number : ℕ) → number ≢ least_free sets → is_set_there (with_new_set sets) number ≡ is_set_there sets number
is_set_there-new_other sets number ne = placed_other sets.there (least_free sets) number (free_most sets.there) ne

pub is_set_there-without_same : (sets : Sets) (number : ℕ) → is_set_there (without_set sets number) number ≡ false
is_set_there-without_same sets number =
    elim (cases_lt number (length sets.there)) [
      | inl l ↦ get_or-set_same sets.there number false false l
      | inr l ↦ get_or_past (set sets.there number false) number false (omega (arith, l, length-set sets.there number false))
    ]

pub is_set_there-without_other : (sets : Sets) (number other : ℕ) → other ≢ number → is_set_there (without_set sets number) other ≡ is_set_there sets other
is_set_there-without_other sets number other ne = get_or-set_other sets.there number other false false ne

-- ## Members, listed

in_it : (o : Option ℕ) (number : ℕ) → is_some (cond (is_number o number) o None) ≡ is_number o number
in_it None number = refl
in_it (Some other) number = by (nat_eq other number)
  where
    by : (b : Bool) → is_some (cond b (Some other) None) ≡ b
    by true = refl
    by false = refl

among : (q : ℕ) (ks : List ℕ) → list_any (nat_eq q) ks ≡ list_any (eq_by_cmp nat_cmp q) ks
among q [] = refl
among q (k ∷ ks) = ap (λ b. b || list_any (nat_eq q) ks) (sym (unsigned_tied q k)) ∙ ap (λ b. eq_by_cmp nat_cmp q k || b) (among q ks)

less : (o : Ordering) → T (is_lt o) → o ≡ Less
less Less t = refl
less Equal t = absurd t
less Greater t = absurd t

both : (a b : Bool) → T (a && b) → T a × T b
both true b t = (tt, t)
both false b t = absurd t

above : (k : ℕ) (es : List (ℕ × ℕ)) → T (below_all nat_cmp k es) → AllByRecursion (λ y. nat_cmp k y ≡ Less) (map_list (λ e. e.0) es)
above k [] t = tt
above k (e ∷ es) t = let two = both (is_lt (nat_cmp k e.0)) (below_all nat_cmp k es) t in (less _ two.0, above k es two.1)

sorted_keys : (es : List (ℕ × ℕ)) → T (is_sorted nat_cmp es) → IsStrictlySortedBy nat_cmp (map_list (λ e. e.0) es)
unfolding IsStrictlySortedBy
sorted_keys [] t = tt
sorted_keys (e ∷ es) t = let two = both (below_all nat_cmp e.0 es) (is_sorted nat_cmp es) t in (above e.0 es two.0, sorted_keys es two.1)

is_it : (q x : ℕ) → nat_cmp q x ≡ Equal → x ≡ q
is_it q x e = sym (ranked q x Equal (sym e))

module _ (sets : Sets) (number : ℕ) where
  members_sorted : IsStrictlySortedBy nat_cmp (members sets number)
  members_sorted = let its = map.retain_keys sets.homes (is_member sets number) in sorted_keys (map.entries its) (map.entries_sorted its)

  pub among_members : (handle : ℕ) → list_any (nat_eq handle) (members sets number) ≡ is_member sets number handle
  among_members handle =
      let its = map.retain_keys sets.homes (is_member sets number) in
      among handle (map.keys its) ∙ sym (map.contains_key-keys its handle) ∙ ap is_some (map.get-retain_keys sets.homes (is_member sets number) handle (λ x e. ap (is_member sets number) (is_it handle x e))) ∙ in_it (set_of sets handle) number

  pub lists_members : ListsHandles sets number (members sets number)
  lists_members = record { ascending = IsStrictlyIncreasing-from_sorted (members sets number) members_sorted; same = among_members }

-- ## The first that passes a test

or_true : (b : Bool) → (b || true) ≡ true
or_true true = refl
or_true false = refl

or_more : (a b : Bool) → b ≡ true → (a || b) ≡ true
or_more a b e = ap (λ t. a || t) e ∙ or_true a

-- what is found passes, and is one of the list
pub find-passes : (p : ℕ → Bool) (xs : List ℕ) (x : ℕ) → find p xs ≡ Some x → (p x ≡ true) × (list_any (nat_eq x) xs ≡ true)
find-passes p [] x e = cc
find-passes p (y ∷ ys) x e = by (p y) refl (find-passes p ys x) e
  where
    by : (b : Bool) → p y ≡ b → (find p ys ≡ Some x → (p x ≡ true) × (list_any (nat_eq x) ys ≡ true)) → cond b (Some y) (find p ys) ≡ Some x → (p x ≡ true) × ((nat_eq x y || list_any (nat_eq x) ys) ≡ true)
    by true t rest e = let same : y ≡ x = cc in (ap p (sym same) ∙ t, ap (λ b. b || list_any (nat_eq x) ys) (ap (λ n. nat_eq n y) (sym same) ∙ nat_eq_equiv.refl y))
    by false t rest e = let more = rest e in (more.0, or_more (nat_eq x y) _ more.1)

-- where none passes, none is found
pub find-none : (p : ℕ → Bool) (xs : List ℕ) → ((x : ℕ) → list_any (nat_eq x) xs ≡ true → p x ≡ false) → find p xs ≡ None
find-none p [] none = refl
find-none p (y ∷ ys) none =
    ap (λ b. cond b (Some y) (find p ys)) (none y (ap (λ b. b || list_any (nat_eq y) ys) (nat_eq_equiv.refl y)))
    ∙ find-none p ys (λ x l. none x (or_more (nat_eq x y) (list_any (nat_eq x) ys) l))

in_above : (k : ℕ) (ks : List ℕ) (x : ℕ) → AllByRecursion (λ y. nat_cmp k y ≡ Less) ks → list_any (nat_eq x) ks ≡ true → k < x
in_above k [] x all is = cc
in_above k (y ∷ ys) x all is = by_eq x y (λ t. (t || list_any (nat_eq x) ys) ≡ true → k < x) (λ same e. let l = ranked k y Less (sym all.0) in omega (arith, same, l)) (λ ne e. in_above k ys x all.1 e) is

sorted_tail : (k : ℕ) (ks : List ℕ) → IsStrictlySortedBy nat_cmp (k ∷ ks) → IsStrictlySortedBy nat_cmp ks
unfolding IsStrictlySortedBy
sorted_tail k ks s = s.1

-- of rising numbers, one that passes where no lower one does is found
pub find-least : (p : ℕ → Bool) (xs : List ℕ) (x : ℕ) → IsStrictlySortedBy nat_cmp xs → list_any (nat_eq x) xs ≡ true → p x ≡ true → ((y : ℕ) → y < x → list_any (nat_eq y) xs ≡ true → p y ≡ false) → find p xs ≡ Some x
find-least p [] x sorted is passes least = cc
find-least p (y ∷ ys) x sorted is passes least =
    by_eq x y (λ t. (t || list_any (nat_eq x) ys) ≡ true → cond (p y) (Some y) (find p ys) ≡ Some x)
    (λ same e. ap (λ b. cond b (Some y) (find p ys)) (ap p (sym same) ∙ passes) ∙ ap Some (sym same))
    (λ ne e.
    let below = in_above y ys x (sorted_head nat_cmp y ys sorted) e in
    ap (λ b. cond b (Some y) (find p ys)) (least y below (ap (λ b. b || list_any (nat_eq y) ys) (nat_eq_equiv.refl y)))
    ∙ find-least p ys x (sorted_tail y ys sorted) e passes (λ z l i. least z l (or_more (nat_eq z y) (list_any (nat_eq z) ys) i)))
    is

module _ (p : ℕ → Bool) (sets : Sets) (number : ℕ) where
  -- a member that is found passes
  pub found_member : (handle : ℕ) → find p (members sets number) ≡ Some handle → (p handle ≡ true) × (is_member sets number handle ≡ true)
  found_member handle e = let f = find-passes p (members sets number) handle e in (f.0, sym (among_members sets number handle) ∙ f.1)

  -- the least member that passes is found
  pub least_found : (handle : ℕ) → IsLeastReady (λ n b. p n ≡ b) sets number handle → find p (members sets number) ≡ Some handle
  least_found handle h =
      find-least p (members sets number) handle (members_sorted sets number) (among_members sets number handle ∙ h.member) h.ready
      (λ other l i. h.least other l (sym (among_members sets number other) ∙ i))

  -- where no member passes, none is found
  pub none_found : NoneReady (λ n b. p n ≡ b) sets number → find p (members sets number) ≡ None
  none_found h = find-none p (members sets number) (λ handle i. h handle (sym (among_members sets number handle) ∙ i))

-- ## How many sets are there

flag_inside : (flags : List Bool) (number : ℕ) → get_or flags number false ≡ true → number < length flags
flag_inside flags number there =
    elim (cases_lt number (length flags)) [
      | inl l ↦ l
      | inr l ↦ absurd (let past = get_or_past flags number false l in cc)
    ]

abbrev counted : Bool → ℕ
counted there = cond there 1 0

-- one more than there were
pub count-new : (sets : Sets) → count_by (λ there. there) (with_new_set sets).there ≡ count_by (λ there. there) sets.there + 1
count-new sets =
    let flags = sets.there in
    let number = least_free sets in
    elim (cases_lt number (length flags)) [
      | inl lower ↦ rw (lt-ltb number (length flags) lower) (let sum = sum_by-set counted flags number true false lower in let was : counted (get_or flags number false) ≡ 0 = ap counted (is_set_there-free sets) in omega (arith, sum, was))
      | inr above ↦ rw (le-ltb number (length flags) above) (sum_by_push counted flags true)
    ]

-- and one less
pub count-without : (sets : Sets) (number : ℕ) → is_set_there sets number ≡ true → count_by (λ there. there) (without_set sets number).there + 1 ≡ count_by (λ there. there) sets.there
count-without sets number there =
    let flags = sets.there in
    let sum = sum_by-set counted flags number false false (flag_inside flags number there) in
    let was : counted (get_or flags number false) ≡ 1 = ap counted there in
    omega (arith, sum, was)
