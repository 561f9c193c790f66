-- The sets of handles, seen as a finite map, and how many handles are in a set: what is there after a change.
use Rattle.std.proofs.Common.{◌≡◌, ◌≢◌, ℕ, zero, suc, ◌+◌, ◌<◌, ◌≤◌, Bool, true, false, cond, List, [], ◌∷◌, length, set, Option, Some, None, refl, sym, ap, ◌∙◌, arith, inl, inr}
use Rattle.std.proofs.lemmas.Bool.{true≢false, cases_lt}
use Rattle.std.proofs.lemmas.List.{get_or-set_same, get_or-set_other, get_or_past, length-set}
use Rattle.std.proofs.lemmas.List.Sums.{sum_by-cons, sum_by-set, get_or-le-sum_by}
use Rattle.std.specs.Cmp.{nat_cmp_total, unsigned_tied, unsigned_Decides}
use Rattle.std.specs.FinMap as map
use Rattle.std.specs.FinMap.{same_map, nat_cmp-IsAntisymmetric}
use Rattle.std.specs.Ordering.{nat_cmp}
use Rattle.std.specs.Prelude.{nat_eq}
use Rattle.strm_codes.specs.OptionalNumbers.{is_number}
use Rattle.strm_waitable_sets.specs.Homes.{home_at, homes_from, member_count, AreSameHomes}

-- a test of two numbers, by cases
pub by_eq : (a b : ℕ) (P : Bool → Type 0) → (a ≡ b → P true) → (a ≢ b → P false) → P (nat_eq a b)
by_eq a b P same apart = by _ refl
  where
    by : (t : Bool) → nat_eq a b ≡ t → P t
    by true e = same ((unsigned_Decides a b).0 e)
    by false e = apart (λ is. true≢false (sym ((unsigned_Decides a b).1 is) ∙ e))

-- ## Seen as a map

get_cons : (handle number : ℕ) (homes : List (Option ℕ)) (q : ℕ) → map.get (homes_from handle (Some number ∷ homes)) q ≡ cond (nat_eq q handle) (Some number) (map.get (homes_from (handle + 1) homes) q)
unfolding homes_from
get_cons handle number homes q =
    map.get-insert nat_cmp_total (homes_from (handle + 1) homes) handle number q
    ∙ ap (λ b. cond b (Some number) (map.get (homes_from (handle + 1) homes) q)) (unsigned_tied q handle)

-- a handle is not found under another number, and is under its own
get_other : (handle number : ℕ) (homes : List (Option ℕ)) (q : ℕ) → q ≢ handle → map.get (homes_from handle (Some number ∷ homes)) q ≡ map.get (homes_from (handle + 1) homes) q
get_other handle number homes q apart =
    get_cons handle number homes q
    ∙ by_eq q handle (λ t. cond t (Some number) (map.get (homes_from (handle + 1) homes) q) ≡ map.get (homes_from (handle + 1) homes) q) (λ same. absurd (apart same)) (λ _. refl)

get_same : (handle number : ℕ) (homes : List (Option ℕ)) (q : ℕ) → q ≡ handle → map.get (homes_from handle (Some number ∷ homes)) q ≡ Some number
get_same handle number homes q same =
    get_cons handle number homes q
    ∙ by_eq q handle (λ t. cond t (Some number) (map.get (homes_from (handle + 1) homes) q) ≡ Some number) (λ _. refl) (λ apart. absurd (apart same))

get_below : (handle : ℕ) (homes : List (Option ℕ)) (q : ℕ) → q < handle → map.get (homes_from handle homes) q ≡ None
unfolding homes_from
get_below handle [] q below = map.get-empty nat_cmp q
get_below handle (None ∷ homes) q below = get_below (handle + 1) homes q (omega arith)
get_below handle (Some number ∷ homes) q below =
    get_other handle number homes q (λ e. omega (arith, below, e)) ∙ get_below (handle + 1) homes q (omega arith)

get_at : (handle : ℕ) (homes : List (Option ℕ)) (k : ℕ) → map.get (homes_from handle homes) (handle + k) ≡ home_at homes k
unfolding homes_from
get_at handle [] k = map.get-empty nat_cmp (handle + k)
get_at handle (None ∷ homes) zero = get_below (handle + 1) homes (handle + 0) (omega arith)
get_at handle (None ∷ homes) (suc k) =
    let next : handle + suc k ≡ handle + 1 + k = omega arith in
    ap (map.get (homes_from (handle + 1) homes)) next ∙ get_at (handle + 1) homes k
get_at handle (Some number ∷ homes) zero = get_same handle number homes (handle + 0) (omega arith)
get_at handle (Some number ∷ homes) (suc k) =
    let next : handle + suc k ≡ handle + 1 + k = omega arith in
    get_other handle number homes (handle + suc k) (λ e. omega (arith, e))
    ∙ ap (map.get (homes_from (handle + 1) homes)) next ∙ get_at (handle + 1) homes k

-- the map answers as the list does
pub get-seen : (homes : List (Option ℕ)) (q : ℕ) → map.get (homes_from 0 homes) q ≡ home_at homes q
get-seen homes q = let same : q ≡ 0 + q = omega arith in ap (map.get (homes_from 0 homes)) same ∙ get_at 0 homes q

seen_as : (homes : List (Option ℕ)) (to : map.FinMap nat_cmp ℕ) → ((q : ℕ) → home_at homes q ≡ map.get to q) → homes_from 0 homes ≡ to
seen_as homes to is = same_map nat_cmp_total nat_cmp-IsAntisymmetric _ _ (λ q. get-seen homes q ∙ is q)

-- ## The set of a handle, after a change

home_past : (homes : List (Option ℕ)) (handle : ℕ) → length homes ≤ handle → home_at (set homes handle None) handle ≡ None
home_past homes handle past = get_or_past (set homes handle None) handle None (omega (arith, length-set {A = Option ℕ} homes handle None, past))

-- a handle that has a place is in another set
home-set : (homes : List (Option ℕ)) (handle q : ℕ) (home : Option ℕ) → home_at (set homes handle home) handle ≡ home → home_at (set homes handle home) q ≡ cond (nat_eq q handle) home (home_at homes q)
home-set homes handle q home is =
    by_eq q handle (λ t. home_at (set homes handle home) q ≡ cond t home (home_at homes q))
    (λ same. ap (home_at (set homes handle home)) same ∙ is)
    (λ apart. get_or-set_other homes handle q home None apart)

-- a handle that has a place joined a set
pub seen-joined : (homes : List (Option ℕ)) (handle number : ℕ) → handle < length homes → homes_from 0 (set homes handle (Some number)) ≡ map.insert (homes_from 0 homes) handle number
seen-joined homes handle number inside =
    seen_as _ _ (λ q.
    home-set homes handle q (Some number) (get_or-set_same homes handle (Some number) None inside)
    ∙ ap (λ b. cond b (Some number) (home_at homes q)) (sym (unsigned_tied q handle))
    ∙ sym (map.get-insert nat_cmp_total (homes_from 0 homes) handle number q ∙ ap (cond _ (Some number)) (get-seen homes q)))

-- a handle is in no set, whether or not it has a place
pub home-none : (homes : List (Option ℕ)) (handle : ℕ) → home_at (set homes handle None) handle ≡ None
home-none homes handle =
    elim (cases_lt handle (length homes)) [
      | inl inside ↦ get_or-set_same homes handle None None inside
      | inr past ↦ home_past homes handle past
    ]

pub seen-left : (homes : List (Option ℕ)) (handle : ℕ) → homes_from 0 (set homes handle None) ≡ map.remove (homes_from 0 homes) handle
seen-left homes handle =
    seen_as _ _ (λ q.
    home-set homes handle q None (home-none homes handle)
    ∙ ap (λ b. cond b None (home_at homes q)) (sym (unsigned_tied q handle))
    ∙ sym (map.get-remove nat_cmp_total (homes_from 0 homes) handle q ∙ ap (cond _ None) (get-seen homes q)))

-- the same sets of the same handles
pub seen-same : (old new : List (Option ℕ)) → AreSameHomes old new → homes_from 0 new ≡ homes_from 0 old
seen-same old new same = seen_as _ _ (λ q. same.homes q ∙ sym (get-seen old q))

-- ## How many handles are in a set

-- whether a handle counts
abbrev pub counts_as : Option ℕ → ℕ → ℕ
counts_as home number = cond (is_number home number) 1 0

-- one that has a place leaves its set for another, or for none
pub count-set : (homes : List (Option ℕ)) (handle number : ℕ) (home : Option ℕ) → handle < length homes → member_count (set homes handle home) number + counts_as (home_at homes handle) number ≡ member_count homes number + counts_as home number
count-set homes handle number home inside = sum_by-set (λ h. counts_as h number) homes handle home None inside

pub count-left : (homes : List (Option ℕ)) (handle number : ℕ) → member_count (set homes handle None) number + counts_as (home_at homes handle) number ≡ member_count homes number
count-left homes handle number =
    elim (cases_lt handle (length homes)) [
      | inl inside ↦ omega (arith, count-set homes handle number None inside)
      | inr past ↦ absent past
    ]
  where
    same : (hs : List (Option ℕ)) (k : ℕ) → length hs ≤ k → set hs k None ≡ hs
    same [] k past = refl
    same (h ∷ hs) zero past = absurd (omega arith)
    same (h ∷ hs) (suc k) past = ap (λ t. h ∷ t) (same hs k (omega arith))

    absent : length homes ≤ handle → member_count (set homes handle None) number + counts_as (home_at homes handle) number ≡ member_count homes number
    absent past =
        let none : counts_as (home_at homes handle) number ≡ 0 = ap (λ h. counts_as h number) (get_or_past homes handle None past) in
        let all : member_count (set homes handle None) number ≡ member_count homes number = ap (λ hs. member_count hs number) (same homes handle past) in
        omega (arith, none, all)

-- where one is in a set, the set has some
pub count_some : (homes : List (Option ℕ)) (handle number : ℕ) → is_number (home_at homes handle) number ≡ true → 0 < member_count homes number
count_some homes handle number in_it =
    elim (cases_lt handle (length homes)) [
      | inl inside ↦
          let one : counts_as (home_at homes handle) number ≡ 1 = ap (λ b. cond b 1 0) in_it in
          let most : counts_as (home_at homes handle) number ≤ member_count homes number = get_or-le-sum_by (λ h. counts_as h number) homes handle None inside in
          omega (arith, one, most)
      | inr past ↦ absurd (true≢false (sym in_it ∙ ap (λ h. is_number h number) (get_or_past homes handle None past)))
    ]

-- where none is in it, it has none
pub count_none : (homes : List (Option ℕ)) (number : ℕ) → ((handle : ℕ) → is_number (home_at homes handle) number ≡ false) → member_count homes number ≡ 0
count_none [] number none = refl
count_none (home ∷ homes) number none =
    let first : counts_as home number ≡ 0 = ap (λ b. cond b 1 0) (none 0) in
    let rest : member_count homes number ≡ 0 = count_none homes number (λ handle. none (suc handle)) in
    let all : member_count (home ∷ homes) number ≡ counts_as home number + member_count homes number = sum_by-cons (λ h. counts_as h number) home homes in
    omega (arith, first, rest, all)

-- where it has some, one is in it
pub some_counted : (homes : List (Option ℕ)) (number : ℕ) → 0 < member_count homes number → (handle : ℕ) × (is_number (home_at homes handle) number ≡ true)
some_counted [] number some = absurd (omega (arith, some))
some_counted (home ∷ homes) number some = by (is_number home number) refl (some_counted homes number)
  where
    by : (t : Bool) → is_number home number ≡ t → (0 < member_count homes number → (handle : ℕ) × (is_number (home_at homes handle) number ≡ true)) → (handle : ℕ) × (is_number (home_at (home ∷ homes) handle) number ≡ true)
    by true e more = (0, e)
    by false e more =
        let first : counts_as home number ≡ 0 = ap (λ b. cond b 1 0) e in
        let all : member_count (home ∷ homes) number ≡ counts_as home number + member_count homes number = sum_by-cons (λ h. counts_as h number) home homes in
        let rest = more (omega (arith, first, all, some)) in
        (suc rest.0, rest.1)
