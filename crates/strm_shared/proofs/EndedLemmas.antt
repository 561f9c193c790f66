-- Seats that ended in another: their calls, and one history of both.
use Rattle.std.proofs.Common.{◌≡◌, ◌≢◌, ℕ, zero, suc, List, [], ◌∷◌, ◌++◌, length, nat_lt, cond, refl, sym, ap, subst, ◌∙◌, ◌⊎◌, inl, inr, ⊎_elim, arith, Bool, true, false, Option, Some, None, append_assoc}
use mathlib.Core.Option.{some, some-injective, some-ne-none}
use mathlib.Core.List.{IsPrefix}
use lib.ListN.{get_elem?}
use Rattle.strm_shared.specs.declared.entry.Entry.{Entry}
use Rattle.strm_shared.specs.declared.view.View.{View}
use Rattle.strm_shared.specs.Histories.{calls_by, numbers_of_seats, NoneIs, Differ, AreCallsIn}
use Rattle.strm_shared.specs.Plays.{own_ended, longer, seats_joined, RecallsAll}
use Rattle.strm_shared.specs.Rules.{total_by, is}
use Rattle.strm_shared.proofs.FrontLemmas.{calls_between, fronts}

-- no seat has ended in a new one
pub nothing_over : (log : List Entry) (k : ℕ) (p : ℕ × List Entry) → get_elem? [] k ≡ some p → calls_by p.0 log ≡ p.1
nothing_over log k p e = absurd (some-ne-none p (sym e))

pub in_append : (l m : List (ℕ × List Entry)) (k : ℕ) (p : ℕ × List Entry) → get_elem? (l ++ m) k ≡ some p → ((i : ℕ) × (get_elem? l i ≡ some p)) ⊎ ((i : ℕ) × (get_elem? m i ≡ some p))
in_append [] m k p e = inr (k, e)
in_append (x ∷ xs) m zero p e = inl (0, e)
in_append (x ∷ xs) m (suc k) p e = ⊎_elim (λ (q : (i : ℕ) × (get_elem? xs i ≡ some p)). inl (suc q.0, q.1)) (λ (q : (i : ℕ) × (get_elem? m i ≡ some p)). inr q) (in_append xs m k p e)

pub own_total : (x : ℕ) (o : Option ℕ) (calls : List Entry) → total_by (λ (p : ℕ × List Entry). is x (Some p.0)) (own_ended o calls) ≡ is x o
own_total x None calls = refl
own_total x (Some n) calls = omega arith

pub own_over : (log : List Entry) (o : Option ℕ) (calls : List Entry) → ((n : ℕ) → o ≡ Some n → calls_by n log ≡ calls) → (k : ℕ) (p : ℕ × List Entry) → get_elem? (own_ended o calls) k ≡ some p → calls_by p.0 log ≡ p.1
own_over log None calls made k p e = absurd (some-ne-none p (sym e))
own_over log (Some n) calls made zero p e = let same : (n, calls) ≡ p = some-injective (n, calls) p e in ap (λ (q : ℕ × List Entry). calls_by q.0 log) (sym same) ∙ (made n refl ∙ ap (λ (q : ℕ × List Entry). q.1) same)
own_over log (Some n) calls made (suc k) p e = absurd (some-ne-none p (sym e))

cond_has : {A : Type 0} (P : A → Type 0) (b : Bool) (x y : A) → P x → P y → P (cond b x y)
cond_has P true x y p q = p
cond_has P false x y p q = q

-- what holds of both lists holds of the longer
pub longer_has : (P : List Entry → Type 0) (xs ys : List Entry) → P xs → P ys → P (longer xs ys)
longer_has P xs ys p q = cond_has P (nat_lt (length xs) (length ys)) ys xs q p

-- the calls of the seat's number in a history are its own
abbrev Owns : View → List Entry → Type 0
Owns v log = (n : ℕ) → v.number ≡ Some n → calls_by n log ≡ v.mine

-- a seat that recalls one history, and one that ended in it, which saw another front of the same: it recalls the longer
pub join_recalls : (v w : View) (log : List Entry) → IsPrefix v.seen log → IsPrefix w.seen log → RecallsAll v → RecallsAll w → Owns v log → Owns w log → AreCallsIn v.ended log → AreCallsIn w.ended log → RecallsAll (seats_joined v w)
join_recalls v w log p q f g own own' over over' =
    let fs = fronts v.seen w.seen log p q in
    let both = longer_has (λ l. IsPrefix l log) v.seen w.seen p q in
    let here = λ (n : ℕ) (mine : List Entry). calls_between n v.seen (longer v.seen w.seen) log mine fs.1 both in
    let there = λ (n : ℕ) (mine : List Entry). calls_between n w.seen (longer v.seen w.seen) log mine fs.2 both in record {
      own = λ n e. here n v.mine (f.own n e) (own n e);
      over = λ k p e. ⊎_elim (λ (r : (i : ℕ) × (get_elem? v.ended i ≡ some p)). here p.0 p.1 (f.over r.0 p r.1) (over r.0 p r.1))
          (λ (r : (i : ℕ) × (get_elem? (w.ended ++ own_ended w.number w.mine) i ≡ some p)). ⊎_elim (λ (t : (i : ℕ) × (get_elem? w.ended i ≡ some p)). there p.0 p.1 (g.over t.0 p t.1) (over' t.0 p t.1))
          (λ (t : (i : ℕ) × (get_elem? (own_ended w.number w.mine) i ≡ some p)). there p.0 p.1 (own_over w.seen w.number w.mine g.own t.0 p t.1) (own_over log w.number w.mine own' t.0 p t.1))
          (in_append w.ended (own_ended w.number w.mine) r.0 p r.1))
          (in_append v.ended (w.ended ++ own_ended w.number w.mine) k p e);
      front = fs.0;
    }

-- ## The seat that ended last

last_there : (l : List (ℕ × List Entry)) (p : ℕ × List Entry) → get_elem? (l ++ p ∷ []) (length l) ≡ some p
last_there [] p = refl
last_there (x ∷ xs) p = last_there xs p

-- its calls
pub calls_of_last : (l m : List (ℕ × List Entry)) (p : ℕ × List Entry) (log : List Entry) → AreCallsIn (l ++ (m ++ p ∷ [])) log → calls_by p.0 log ≡ p.1
calls_of_last l m p log over = (subst (λ e. AreCallsIn e log) (sym (append_assoc l m (p ∷ []))) over) (length (l ++ m)) p (last_there (l ++ m) p)

last_apart : (n : ℕ) (l : List (ℕ × List Entry)) (p : ℕ × List Entry) → NoneIs n (numbers_of_seats (l ++ p ∷ [])) → p.0 ≢ n
last_apart n [] p h = h.0
last_apart n (x ∷ xs) p h = last_apart n xs p h.1

-- its number
pub last_differs : (n : ℕ) (l m : List (ℕ × List Entry)) (p : ℕ × List Entry) → Differ (n ∷ numbers_of_seats (l ++ (m ++ p ∷ []))) → p.0 ≢ n
last_differs n l m p h = last_apart n (l ++ m) p (subst (λ e. NoneIs n (numbers_of_seats e)) (sym (append_assoc l m (p ∷ []))) h.0)
