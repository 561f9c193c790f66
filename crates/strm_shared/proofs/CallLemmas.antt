-- What a turn tells.
use Rattle.std.proofs.Common.{◌≡◌, ◌≢◌, ℕ, ◌<◌, ◌≤◌, zero, suc, List, length, ◌++◌, ◌∷◌, [], cond, eqb, eq-eqb, Some, sym, ap, subst, ◌∙◌, refl, arith, Bool, true, false}
use mathlib.Core.List.{IsPrefix}
use Rattle.std.specs.List.{slice_index_or}
use Rattle.atomic_table.specs.Seated.{TableId}
use Rattle.strm_shared.specs.declared.entry.Entry.{Entry}
use Rattle.strm_shared.specs.declared.entry.Place.{Place}
use Rattle.strm_shared.specs.declared.entry.Wait.{Wait}
use Rattle.strm_shared.specs.declared.view.View.{View}
use Rattle.strm_shared.specs.Accounts.{Account, idled}
use Rattle.strm_shared.specs.Histories.{IsLegal, calls_by}
use Rattle.strm_shared.specs.Waits.{wait, waits_by, Has, AreWaits}
use Rattle.strm_shared.specs.Plays.{looked, queued, own, own_waits, Enters}
use Rattle.strm_shared.specs.Turns.{turned}
use Rattle.strm_shared.specs.Tokens.{Token, token, Rests, IsOneHistory, Finds, HistoryStays, AddsEntry, Idles, last_number}
use Rattle.strm_shared.proofs.HistoryLemmas.{calls_by-own, calls_by-other}

-- ## No turn

pub rests_one : (z : TableId) (number : ℕ) (v : View) → Rests number v → IsOneHistory (token z number v)
rests_one z number v rests = record {
  legal = rests.legal;
  own = rests.recalls.own number rests.numbered;
  over = rests.recalls.over;
  apart = rests.apart number rests.numbered;
}

-- a look at the ticket word changes nothing of it
pub rests_looked : (number t : ℕ) (v : View) → Rests number v → Rests number (looked v t)
rests_looked number t v rests = record {
  numbered = rests.numbered;
  ticketless = rests.ticketless;
  free = rests.free;
  bare = rests.bare;
  legal = rests.legal;
  recalls = rests.recalls;
  apart = rests.apart;
  below = rests.below;
}

stays_at : (z z' : TableId) (number : ℕ) (v : View) → Rests number v → v.top_ticket ≤ last_number → HistoryStays (token z number v) (token z' number (looked v last_number))
stays_at z z' number v rests top =
    (refl, refl, refl, refl, refl, refl, refl, refl, (top, refl), rests_one z' number (looked v last_number) (rests_looked number last_number v rests))

-- a seat that found no ticket left
pub stays : (old : Token) (z z' : TableId) (number : ℕ) (v w : View) → token z number v ≡ old → Rests number v → w ≡ looked v last_number → v.top_ticket ≤ last_number → HistoryStays old (token z' number w)
stays old z z' number v w is rests after top =
    subst (λ o. HistoryStays o (token z' number w)) is
    (subst (λ x. HistoryStays (token z number v) (token z' number x)) (sym after) (stays_at z z' number v rests top))

-- ## A turn

-- what the waits are that a turn finds
pub record Took (v : View) (t : ℕ) (a : Account) : Type 0 where
  pub top : v.top_ticket ≤ t
  pub few : t < last_number
  pub waits : AreWaits a.limits a.log a.waits

finds_at : (z z' : TableId) (number t : ℕ) (v : View) (a b : Account) (log : List Entry) → Rests number v → Enters v a → AreWaits a.limits a.log a.waits → log ≡ a.log → Finds log (token z number v) (token z' number (turned v t a b))
finds_at z z' number t v a b log rests enters waits same = record {
  waits = subst (λ x. AreWaits v.limits x a.waits) (sym same) (subst (λ l. AreWaits l a.log a.waits) enters.of_limits waits);
  own = (enters.made number rests.numbered).1;
}

adds_at : (z z' : TableId) (number t : ℕ) (v : View) (a b : Account) (e : Entry) → Rests number v → Enters v a → e.seat ≡ number → b.limits ≡ a.limits → b.log ≡ a.log ++ e ∷ [] → IsLegal b.limits b.log → Took v t a
    → AddsEntry a.log (token z number v) e (token z' number (turned v t a b))
adds_at z z' number t v a b e rests enters by lim more legal took = record {
  grew = enters.grew;
  ends = more;
  legal = subst (λ l. IsLegal l b.log) (lim ∙ enters.of_limits) legal;
  mine = ap (λ n. own n b.log) rests.numbered ∙ (ap (calls_by number) more ∙ (calls_by-own number a.log e by ∙ ap (λ l. l ++ e ∷ []) (enters.made number rests.numbered).0));
  own = ap (λ n. own n b.log) (sym rests.numbered);
  over = (refl, λ k p i. let t = enters.over k p i in ap (calls_by p.0) more ∙ (calls_by-other p.0 a.log e (λ q. t.1 (rests.numbered ∙ ap Some (sym by ∙ q))) ∙ t.0));
  finds = finds_at z z' number t v a b a.log rests enters took.waits refl;
  rises = (took.top, refl);
  top = took.few;
}

-- a turn of a seat: what the seat knew, found and left, and what it knows after it
pub record OneTurn (number t : ℕ) (v w : View) (a b : Account) : Type 0 where
  pub rests : Rests number v
  pub enters : Enters v a
  pub limits : b.limits ≡ a.limits
  pub legal : IsLegal b.limits b.log
  pub took : Took v t a
  pub after : w ≡ turned v t a b

-- a turn that made an entry
pub adds : (old : Token) (z z' : TableId) (number t : ℕ) (v w : View) (a b : Account) (e : Entry) → token z number v ≡ old → OneTurn number t v w a b → e.seat ≡ number → b.log ≡ a.log ++ e ∷ []
    → AddsEntry a.log old e (token z' number w)
adds old z z' number t v w a b e is turn by more =
    subst (λ o. AddsEntry a.log o e (token z' number w)) is
    (subst (λ x. AddsEntry a.log (token z number v) e (token z' number x)) (sym turn.after)
    (adds_at z z' number t v a b e turn.rests turn.enters by turn.limits more turn.legal turn.took))

-- where a seat waits for nothing, a wait is another's
head_not_own : (b : Bool) (w : Wait) (hs : List Place) → cond b (w.place ∷ hs) hs ≡ [] → b ≡ false
head_not_own true w hs e = absurd cc
head_not_own false w hs e = refl

tail_none : (b : Bool) (w : Wait) (hs : List Place) → cond b (w.place ∷ hs) hs ≡ [] → hs ≡ []
tail_none true w hs e = absurd cc
tail_none false w hs e = e

not_own_at : (n m : ℕ) (h : Place) (k : ℕ) (ws : List Wait) → waits_by n ws ≡ [] → k < length ws → slice_index_or ws k (wait m h) ≡ wait m h → m ≢ n
not_own_at n m h k [] none in-range is same = absurd (omega arith)
not_own_at n m h zero (w ∷ ws) none in-range is same =
    let theirs : w.seat ≡ n = ap (λ (x : Wait). x.seat) is ∙ same in absurd (cc (head_not_own (eqb w.seat n) w (waits_by n ws) none, eq-eqb w.seat n theirs))
not_own_at n m h (suc k) (w ∷ ws) none in-range is same = not_own_at n m h k ws (tail_none (eqb w.seat n) w (waits_by n ws) none) (omega arith) is same

pub not_own : (n m : ℕ) (h : Place) (ws : List Wait) → waits_by n ws ≡ [] → Has (wait m h) ws → m ≢ n
not_own n m h ws none has = not_own_at n m h has.0 ws none has.1 has.2

idles_at : (z z' : TableId) (number t : ℕ) (v : View) (a b : Account) → Rests number v → Enters v a → b.limits ≡ a.limits → b.log ≡ a.log → b.waits ≡ a.waits → IsLegal b.limits b.log → Took v t a → Idles (token z number v) (token z' number (turned v t a b))
idles_at z z' number t v a b rests enters lim same waits legal took = let made = enters.made number rests.numbered in record {
  grew = subst (IsPrefix v.seen) (sym same) enters.grew;
  legal = subst (λ l. IsLegal l b.log) (lim ∙ enters.of_limits) legal;
  mine = ap (λ n. own n b.log) rests.numbered ∙ (ap (calls_by number) same ∙ made.0);
  own = ap (λ n. own n b.log) (sym rests.numbered);
  over = (refl, λ k p i. ap (calls_by p.0) same ∙ (enters.over k p i).0);
  turns = refl;
  waits = (waits, ap (λ n. own_waits n b.waits) rests.numbered ∙ (ap (waits_by number) waits ∙ made.1));
  finds = finds_at z z' number t v a b b.log rests enters took.waits same;
  rises = (took.top, refl);
  top = took.few;
}

-- a turn that made none
pub idles : (old : Token) (z z' : TableId) (number t : ℕ) (v w : View) (a b : Account) → token z number v ≡ old → OneTurn number t v w a b → b ≡ idled a → Idles old (token z' number w)
idles old z z' number t v w a b is turn same =
    subst (λ o. Idles o (token z' number w)) is
    (subst (λ x. Idles (token z number v) (token z' number x)) (sym turn.after)
    (idles_at z z' number t v a b turn.rests turn.enters turn.limits (ap (λ x. x.log) same) (ap (λ x. x.waits) same) turn.legal turn.took))

-- the look and the draw change nothing of it
pub enters_queued : (v : View) (t : ℕ) (a : Account) → Enters (queued (looked v t) t) a → Enters v a
enters_queued v t a e = record { of_limits = e.of_limits; grew = e.grew; made = e.made; room = e.room; over = e.over }

-- a turn that leaves the waits leaves the seat's own
pub waiting_kept : (number t : ℕ) (v w : View) (a b : Account) → OneTurn number t v w a b → b.waits ≡ a.waits → w.waiting ≡ v.waiting
waiting_kept number t v w a b turn same =
    ap (λ (x : View). x.waiting) turn.after
    ∙ (ap (λ n. own_waits n b.waits) turn.rests.numbered ∙ (ap (waits_by number) same ∙ (turn.enters.made number turn.rests.numbered).1))
