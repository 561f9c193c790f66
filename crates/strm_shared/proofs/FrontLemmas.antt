-- Fronts of one history, of which one is a front of the other, and the calls of a number in them.
use Rattle.std.proofs.Common.{◌≡◌, ℕ, ◌+◌, ◌≤◌, List, [], ◌∷◌, ◌++◌, length, nat_lt, cond, refl, sym, ap, ◌∙◌, arith, Bool, true, false, Some, append_assoc}
use Rattle.std.proofs.lemmas.Bool.Decides.{nat_tests}
use Rattle.std.proofs.lemmas.List.{append-nil}
use mathlib.Core.List.{IsPrefix}
use Rattle.strm_shared.specs.declared.entry.Entry.{Entry}
use Rattle.strm_shared.specs.Histories.{calls_by, numbers_of_seats, NoneIs, Differ}
use Rattle.strm_shared.specs.Plays.{longer, shorter}
use Rattle.strm_shared.specs.Rules.{total_by, is}
use Rattle.strm_shared.proofs.HistoryLemmas.{calls_by-append}
use Rattle.strm_shared.proofs.TotalLemmas.{is-yes}

pub front_self : (xs : List Entry) → IsPrefix xs xs
front_self xs = ([], append-nil xs)

pub front_trans : (xs ys zs : List Entry) → IsPrefix xs ys → IsPrefix ys zs → IsPrefix xs zs
front_trans xs ys zs p q = (p.0 ++ q.0, sym (append_assoc xs p.0 q.0) ∙ (ap (λ w. w ++ q.0) p.1 ∙ q.1))

tails : (x y : Entry) (xs ys : List Entry) → x ∷ xs ≡ y ∷ ys → xs ≡ ys
tails x y xs ys e = cc

heads : (x y : Entry) (xs ys : List Entry) → x ∷ xs ≡ y ∷ ys → x ≡ y
heads x y xs ys e = cc

-- of two fronts of one history the one that is no longer is a front of the other
pub front_of : (xs ys log : List Entry) → IsPrefix xs log → IsPrefix ys log → length xs ≤ length ys → IsPrefix xs ys
front_of [] ys log p q le = (ys, refl)
front_of (x ∷ xs) [] log p q le = absurd (omega arith)
front_of (x ∷ xs) (y ∷ ys) log p q le =
    let same : x ∷ (xs ++ p.0) ≡ y ∷ (ys ++ q.0) = p.1 ∙ sym q.1 in
    let rest = front_of xs ys (ys ++ q.0) (p.0, tails x y (xs ++ p.0) (ys ++ q.0) same) (q.0, refl) (omega arith) in
    let first : x ≡ y = heads x y (xs ++ p.0) (ys ++ q.0) same in
    (rest.0, ap (λ l. x ∷ l) rest.1 ∙ ap (λ z. z ∷ ys) first)

-- a number of which a history has no call has none in a front of it
pub none_before : (n : ℕ) (xs log : List Entry) → IsPrefix xs log → calls_by n log ≡ [] → calls_by n xs ≡ []
none_before n xs log p none = by (calls_by n xs) (calls_by n p.0) (sym (calls_by-append n xs p.0) ∙ (ap (calls_by n) p.1 ∙ none))
  where
    by : (a b : List Entry) → a ++ b ≡ [] → a ≡ []
    by [] b e = refl
    by (x ∷ a) b e = cc

nothing_more : (a b : List Entry) → a ++ b ≡ a → b ≡ []
nothing_more [] b e = e
nothing_more (x ∷ a) b e = nothing_more a b (tails x x (a ++ b) a e)

none_of_both : (a b : List Entry) → a ++ b ≡ [] → a ≡ []
none_of_both [] b e = refl
none_of_both (x ∷ a) b e = cc

-- what stands in a front and in the whole stands in what lies between
pub calls_between : (n : ℕ) (xs ys log mine : List Entry) → IsPrefix xs ys → IsPrefix ys log → calls_by n xs ≡ mine → calls_by n log ≡ mine → calls_by n ys ≡ mine
calls_between n xs ys log mine p q front whole =
    let here : calls_by n ys ≡ mine ++ calls_by n p.0 = ap (calls_by n) (sym p.1) ∙ (calls_by-append n xs p.0 ∙ ap (λ l. l ++ calls_by n p.0) front) in
    let all : mine ++ (calls_by n p.0 ++ calls_by n q.0) ≡ mine =
    sym (append_assoc mine (calls_by n p.0) (calls_by n q.0))
    ∙ (ap (λ l. l ++ calls_by n q.0) (sym here) ∙ (sym (calls_by-append n ys q.0) ∙ (ap (calls_by n) q.1 ∙ whole))) in
    let none = none_of_both (calls_by n p.0) (calls_by n q.0) (nothing_more mine (calls_by n p.0 ++ calls_by n q.0) all) in
    here ∙ (ap (λ l. mine ++ l) none ∙ append-nil mine)

-- two fronts of one history, the longer and the shorter
module _ (xs ys : List Entry) where
  abbrev pub Fronts : List Entry → List Entry → Type 0
  Fronts short long = IsPrefix short long × IsPrefix xs long × IsPrefix ys long

  pub fronts : (log : List Entry) → IsPrefix xs log → IsPrefix ys log → Fronts (shorter xs ys) (longer xs ys)
  fronts log p q = by (nat_lt (length xs) (length ys)) refl
    where
      by : (b : Bool) → nat_lt (length xs) (length ys) ≡ b → Fronts (cond b xs ys) (cond b ys xs)
      by true e =
          let le : length xs ≤ length ys = grind (arith, nat_tests) in
          let f = front_of xs ys log p q le in
          (f, f, front_self ys)
      by false e =
          let le : length ys ≤ length xs = grind (arith, nat_tests) in
          let f = front_of ys xs log q p le in
          (f, front_self xs, f)

  -- where the shorter is a front of the longer, both are
  pub fronts_by : IsPrefix (shorter xs ys) (longer xs ys) → IsPrefix xs (longer xs ys) × IsPrefix ys (longer xs ys)
  fronts_by = by (nat_lt (length xs) (length ys))
    where
      by : (b : Bool) → IsPrefix (cond b xs ys) (cond b ys xs) → IsPrefix xs (cond b ys xs) × IsPrefix ys (cond b ys xs)
      by true p = (p, front_self ys)
      by false p = (front_self xs, p)

-- ## Numbers that differ

-- how often seats that ended have a number
abbrev pub had : ℕ → List (ℕ × List Entry) → ℕ
had x ended = total_by (λ (one : ℕ × List Entry). is x (Some one.0)) ended

none_is : (x : ℕ) (ended : List (ℕ × List Entry)) → had x ended ≤ 0 → NoneIs x (numbers_of_seats ended)
none_is x [] h = tt
none_is x (one ∷ more) h =
    ((λ (e : one.0 ≡ x). omega (arith, h, is-yes x (Some one.0) (ap Some e))), none_is x more (omega (arith, h)))

differ : (ended : List (ℕ × List Entry)) → ((x : ℕ) → had x ended ≤ 1) → Differ (numbers_of_seats ended)
differ [] once = tt
differ (one ∷ more) once =
    (none_is one.0 more (omega (arith, once one.0, is-yes one.0 (Some one.0) refl)), differ more (λ x. omega (arith, once x)))

pub differ_with : (n : ℕ) (ended : List (ℕ × List Entry)) → ((x : ℕ) → is x (Some n) + had x ended ≤ 1) → Differ (n ∷ numbers_of_seats ended)
differ_with n ended once =
    (none_is n ended (omega (arith, once n, is-yes n (Some n) refl)), differ ended (λ x. omega (arith, once x)))
