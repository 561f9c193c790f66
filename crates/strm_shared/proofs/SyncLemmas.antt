-- What a read and its delivery do to the waits, and what they tell.
use Rattle.std.proofs.Common.{◌≡◌, ◌≢◌, ℕ, List, [], ◌∷◌, ◌++◌, cond, eqb, eq-eqb, ne_eqb, eqb-true, ◌==◌, Bool, true, false, Some, refl, sym, ap, ◌∙◌, ⊎_elim, arith, append_assoc}
use mathlib.Core.List.{IsPrefix}
use Rattle.strm_machine.specs.declared.replies.Reply.{Reply}
use Rattle.strm_machine.specs.declared.replies.Reply.TheVariants as replies
use Rattle.strm_shared.specs.Waits.{AnswersWait}
use Rattle.strm_shared.specs.declared.entry.Entry.{Entry}
use Rattle.strm_shared.specs.declared.entry.Place.{Place}
use Rattle.strm_shared.specs.declared.entry.Wait.{Wait}
use Rattle.strm_shared.specs.declared.errors.SharedError.{SharedError}
use Rattle.strm_shared.specs.declared.errors.SharedError.TheVariants.{HostStep, Worn, NoSeat, OutOfMemory, Waiting, InSet}
use Rattle.strm_codes.specs.declared.codes.ReturnCode.{ReturnCode}
use Rattle.strm_codes.specs.declared.codes.ReturnCode.TheVariants as codes
use Rattle.strm_machine.specs.Moments.{is_blocked}
use Rattle.strm_shared.specs.Waits.{wait, waits_by, without, waits_begun, waits_for, DeliversReport}
use Rattle.strm_shared.specs.Tokens.{Token, Idles, Delivered}
use Rattle.strm_shared.specs.Causes.{GivesUp}
use Rattle.strm_shared.specs.Tokens.{Later}

cond-append : (b : Bool) (h : Place) (xs ys zs : List Place) → zs ≡ xs ++ ys → cond b (h ∷ zs) zs ≡ cond b (h ∷ xs) xs ++ ys
cond-append true h xs ys zs e = ap (λ l. h ∷ l) e
cond-append false h xs ys zs e = e

pub waits_by-append : (n : ℕ) (xs ys : List Wait) → waits_by n (xs ++ ys) ≡ waits_by n xs ++ waits_by n ys
waits_by-append n [] ys = refl
waits_by-append n (x ∷ xs) ys = cond-append (eqb x.seat n) x.place (waits_by n xs) (waits_by n ys) (waits_by n (xs ++ ys)) (waits_by-append n xs ys)

begun_by : (P : List Wait → Type 0) (b : Bool) (ws : List Wait) (w : Wait) → P (ws ++ w ∷ []) → P ws → P (cond b (ws ++ w ∷ []) ws)
begun_by P true ws w p q = p
begun_by P false ws w p q = q

append_none : (xs : List Place) → xs ++ [] ≡ xs
append_none [] = refl
append_none (x ∷ xs) = ap (λ l. x ∷ l) (append_none xs)

pub begun_others : (k n : ℕ) (h : Place) (r : Reply) (ws : List Wait) → n ≢ k → waits_by k (waits_begun r ws (wait n h)) ≡ waits_by k ws
begun_others k n h r ws ne = begun_by (λ l. waits_by k l ≡ waits_by k ws) (is_blocked r) ws (wait n h)
    (waits_by-append k ws (wait n h ∷ []) ∙ (ap (λ b. waits_by k ws ++ cond b (h ∷ []) []) (ne_eqb n k ne) ∙ append_none (waits_by k ws))) refl

own_by : (b : Bool) (n : ℕ) (h : Place) (ws : List Wait) → waits_by n ws ≡ [] → waits_by n (cond b (ws ++ wait n h ∷ []) ws) ≡ cond b (h ∷ []) []
own_by true n h ws e = waits_by-append n ws (wait n h ∷ []) ∙ (ap (λ b. waits_by n ws ++ cond b (h ∷ []) []) (eq-eqb n n refl) ∙ ap (λ l. l ++ h ∷ []) e)
own_by false n h ws e = e

pub begun_own : (n : ℕ) (h : Place) (r : Reply) (ws : List Wait) → waits_by n ws ≡ [] → waits_by n (waits_begun r ws (wait n h)) ≡ waits_for r h
begun_own n h r ws e = own_by (is_blocked r) n h ws e

-- b says that the first wait is n's, and c that it is k's
others_by : (b c : Bool) (k : ℕ) (w : Wait) (ws vs : List Wait) → (b ≡ true → c ≡ false) → (w.seat == k) ≡ c → waits_by k vs ≡ waits_by k ws → waits_by k (cond (cond b false true) (w ∷ vs) vs) ≡ cond c (w.place ∷ waits_by k ws) (waits_by k ws)
others_by true true k w ws vs apart is e = absurd (cc (apart refl))
others_by true false k w ws vs apart is e = e
others_by false c k w ws vs apart is e = ap (λ d. cond d (w.place ∷ waits_by k vs) (waits_by k vs)) is ∙ ap (λ l. cond c (w.place ∷ l) l) e

eqb_true : (x y : ℕ) → eqb x y ≡ true → x ≡ y
eqb_true x y e = omega (arith, eqb-true x y e)

pub without_others : (k n : ℕ) (ws : List Wait) → n ≢ k → waits_by k (without n ws) ≡ waits_by k ws
without_others k n [] ne = refl
without_others k n (w ∷ ws) ne = others_by (eqb w.seat n) (eqb w.seat k) k w ws (without n ws) (λ e. ne_eqb w.seat k (λ s. ne (sym (eqb_true w.seat n e) ∙ s))) refl (without_others k n ws ne)

none_by : (b : Bool) (n : ℕ) (w : Wait) (vs : List Wait) → (w.seat == n) ≡ b → waits_by n vs ≡ [] → waits_by n (cond (cond b false true) (w ∷ vs) vs) ≡ []
none_by true n w vs is e = e
none_by false n w vs is e = ap (λ d. cond d (w.place ∷ waits_by n vs) (waits_by n vs)) is ∙ e

pub without_own : (n : ℕ) (ws : List Wait) → waits_by n (without n ws) ≡ []
without_own n [] = refl
without_own n (w ∷ ws) = none_by (eqb w.seat n) n w (without n ws) refl (without_own n ws)

pub prefix_trans : {A : Type 0} (xs ys zs : List A) → IsPrefix xs ys → IsPrefix ys zs → IsPrefix xs zs
prefix_trans xs ys zs p q = (p.0 ++ q.0, sym (append_assoc xs p.0 q.0) ∙ (ap (λ w. w ++ q.0) p.1 ∙ q.1))

pub later_idles : (old mid new : Token) → Later old mid → Idles mid new → Later old new
later_idles old mid new l i = record { grew = prefix_trans old.seen mid.seen new.seen l.grew i.grew; mine = i.mine ∙ l.mine; turns = omega (arith, l.turns, i.turns); ended = i.over.0 ∙ l.ended; waiting = i.waits.1 ∙ l.waiting; rises = (omega (arith, l.rises.0, i.rises.0), i.rises.1 ∙ l.rises.1) }

pub later_delivered : (old mid new : Token) (e : Entry) → Later old mid → Delivered mid e new → Delivered old e new
later_delivered old mid new e l d = let a = d.0.1 in (
  (d.0.0, record { grew = prefix_trans old.seen mid.seen d.0.0 l.grew a.grew; ends = a.ends; legal = a.legal; mine = a.mine ∙ ap (λ x. x ++ e ∷ []) l.mine; own = a.own; over = (a.over.0 ∙ l.ended, a.over.1); finds = record { waits = a.finds.waits; own = a.finds.own ∙ l.waiting }; rises = (omega (arith, l.rises.0, a.rises.0), a.rises.1 ∙ l.rises.1); top = a.top }),
  omega (arith, l.turns, d.1),
  d.2,
  d.3,
)

pub later_gives_up : (old mid new : Token) (e : SharedError) → Later old mid → GivesUp mid e new → GivesUp old e new
later_gives_up old mid new (Worn t) l g = (g.0, g.1, prefix_trans old.seen mid.seen new.seen l.grew g.2, g.3 ∙ l.mine, g.4 ∙ l.waiting, g.5 ∙ l.ended, (omega (arith, l.rises.0, g.6.0), g.6.1 ∙ l.rises.1), g.7)
later_gives_up old mid new HostStep l g = g
later_gives_up old mid new (NoSeat n) l g = g
later_gives_up old mid new OutOfMemory l g = g
later_gives_up old mid new (Waiting n) l g = g
later_gives_up old mid new InSet l g = g

pub blocked_is : (r : Reply) → is_blocked r ≡ true → r ≡ replies.Code codes.Blocked
blocked_is (replies.Code codes.Blocked) e = refl
blocked_is _ e = cc

same_event : (c d : ReturnCode) → replies.Event (Some c) ≡ replies.Event (Some d) → c ≡ d
same_event c d e = cc

pub unblocked : (r answer : Reply) → DeliversReport r → AnswersWait r answer → is_blocked answer ≡ false
unblocked r answer d is =
    ⊎_elim (λ (p : (r ≡ replies.StoreTrapped) × (answer ≡ replies.StoreTrapped)). ap is_blocked p.1)
    (λ (p : (c : ReturnCode) × (r ≡ replies.Event (Some c)) × (answer ≡ replies.Code c)).
    ⊎_elim (λ (t : r ≡ replies.StoreTrapped). let wrong = sym t ∙ p.1 in cc)
    (λ (t : (c : ReturnCode) × (r ≡ replies.Event (Some c)) × (is_blocked (replies.Code c) ≡ false)).
    ap is_blocked p.2 ∙ (ap (λ c. is_blocked (replies.Code c)) (same_event p.0 t.0 (sym p.1 ∙ t.1)) ∙ t.2)) d)
    is
