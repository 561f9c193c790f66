-- Histories that grow by one call.
use Rattle.std.proofs.Common.{◌≡◌, ◌≢◌, ℕ, List, [], ◌∷◌, ◌++◌, cond, eqb, eq-eqb, ne_eqb, refl, ap, sym, ◌∙◌, subst, Bool, true, false}
use Rattle.std.proofs.lemmas.List.{append-nil}
use Rattle.strm_machine.specs.State.{State, empty}
use Rattle.strm_machine.specs.Reactions.{Reaction, goes, react}
use Rattle.strm_machine.specs.declared.limits.Limits.{Limits}
use Rattle.strm_shared.specs.declared.entry.Entry.{Entry}
use Rattle.strm_shared.specs.Histories.{after, Replies, IsLegal, state_after, calls_by}

pub after-snoc : (s : State) (log : List Entry) (e : Entry) → after s (log ++ e ∷ []) ≡ (react (after s log) e.step).state
after-snoc s [] e = refl
after-snoc s (x ∷ xs) e = after-snoc (react s x.step).state xs e

pub Replies-snoc : (s : State) (log : List Entry) (e : Entry) → Replies s log → (react (after s log) e.step).reply ≡ e.reply → Replies s (log ++ e ∷ [])
Replies-snoc s [] e h r = (r, tt)
Replies-snoc s (x ∷ xs) e h r = (h.0, Replies-snoc (react s x.step).state xs e h.1 r)

cond-append : (b : Bool) (x : Entry) (xs ys zs : List Entry) → zs ≡ xs ++ ys → cond b (x ∷ zs) zs ≡ cond b (x ∷ xs) xs ++ ys
cond-append true x xs ys zs e = ap (λ l. x ∷ l) e
cond-append false x xs ys zs e = e

pub calls_by-append : (n : ℕ) (xs ys : List Entry) → calls_by n (xs ++ ys) ≡ calls_by n xs ++ calls_by n ys
calls_by-append n [] ys = refl
calls_by-append n (x ∷ xs) ys = cond-append (eqb x.seat n) x (calls_by n xs) (calls_by n ys) (calls_by n (xs ++ ys)) (calls_by-append n xs ys)

pub calls_by-own : (n : ℕ) (log : List Entry) (e : Entry) → e.seat ≡ n → calls_by n (log ++ e ∷ []) ≡ calls_by n log ++ e ∷ []
calls_by-own n log e is = calls_by-append n log (e ∷ []) ∙ ap (λ b. calls_by n log ++ cond b (e ∷ []) []) (eq-eqb e.seat n is)

pub calls_by-other : (n : ℕ) (log : List Entry) (e : Entry) → e.seat ≢ n → calls_by n (log ++ e ∷ []) ≡ calls_by n log
calls_by-other n log e is = calls_by-append n log (e ∷ []) ∙ (ap (λ b. calls_by n log ++ cond b (e ∷ []) []) (ne_eqb e.seat n is) ∙ append-nil (calls_by n log))

-- a history stays legal, and its state the store's, where a step is made and entered
pub grows : (limit : Limits) (store store' : State) (log items log' : List Entry) (e : Entry) → IsLegal limit log → store ≡ state_after limit log
    → react store e.step ≡ goes e.reply store' → items ≡ log → log' ≡ items ++ e ∷ [] → IsLegal limit log' × (store' ≡ state_after limit log')
grows limit store store' log items log' e legal is made same more =
    let s : State = empty 0 limit in
    let all : log' ≡ log ++ e ∷ [] = more ∙ ap (λ l. l ++ e ∷ []) same in
    let told : (react (after s log) e.step).reply ≡ e.reply = ap (λ w. (react w e.step).reply) (sym is) ∙ ap (λ (r : Reaction). r.reply) made in
    let next : store' ≡ (react (after s log) e.step).state = sym (ap (λ (r : Reaction). r.state) made) ∙ ap (λ w. (react w e.step).state) is in
    (subst (Replies s) (sym all) (Replies-snoc s log e legal told), next ∙ (sym (after-snoc s log e) ∙ ap (after s) (sym all)))
