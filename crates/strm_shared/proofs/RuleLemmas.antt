-- Each step keeps the rule.
use Rattle.std.proofs.Common.{◌≡◌, ℕ, ◌+◌, ◌%◌, ◌<◌, ◌≤◌, ◌≢◌, ◌⊎◌, List, [], ◌∷◌, ◌++◌, length, get_or, set, eqb, sym, refl, ap, ◌∙◌, subst, inl, inr, ⊎_elim, arith, true, false, Option, Some, None, append_assoc, length-append}
use Rattle.std.proofs.lemmas.List.{append-nil}
use mathlib.Core.Logic.{dite}
use mathlib.Core.List.{IsPrefix}
use mathlib.Core.Option.{Option as Home, some, none, some-injective, some-ne-none}
use native.Mathlib.Decide.{ℕ_discrete, dec_le}
use lib.ListN.{get_elem?}
use prog.Atomic.{either}
use Rattle.atomic_table.specs.Table.{State, step, Act, keeps, takes, gives, Valid, carried_after, stepped, opening, Allows, Splits, Joins}
use Rattle.atomic_table.proofs.Lists.{at_set, set_here, set_else, at_longer, at_snoc, exchanged}
use Rattle.strm_machine.specs.declared.limits.Limits.{Limits}
use Rattle.strm_shared.specs.declared.entry.Entry.{Entry}
use Rattle.strm_shared.specs.declared.entry.Wait.{Wait}
use Rattle.strm_shared.specs.declared.view.View.{View}
use Rattle.strm_shared.specs.Histories.{calls_by}
use Rattle.strm_shared.specs.Waits.{waits_by}
use Rattle.strm_shared.specs.Accounts.{Account, account, opened}
use Rattle.strm_shared.specs.Rules.{total_by, is, has_ticket, has_number, SeatFits, IsSlotOut, Orderly}
use Rattle.strm_shared.specs.Plays.{Seated, first_view, looked, queued, holding, turn_passed, own, own_waits, own_ended, looked_seats, seat_numbered, old_half, new_half, seats_joined, seat_spent, RecallsAll, looks, draws, seat_waits, passes_turn, recalls, looks_seats, numbers, IsTurn}
use Rattle.strm_shared.proofs.HistoryLemmas.{calls_by-other}
use Rattle.strm_shared.proofs.FrontLemmas.{front_self, front_trans, none_before, differ_with}
use Rattle.strm_shared.proofs.EndedLemmas.{nothing_over, in_append, own_total, own_over, longer_has, join_recalls}
use Rattle.strm_shared.proofs.TotalLemmas.{set_at, total_by-append, total_by-set, term_le, terms_le, is-le, is-yes, is-no}

abbrev TableState : Type 0
TableState = State (Option Account) View

abbrev table : List ℕ → List (Home (Option Account)) → List View → TableState
table ws hs vs = record { words = ws; homes = hs; views = vs }

-- the words grow, the history stays
fits_more : (idle ticket serving seats ticket' seats' : ℕ) (log : List Entry) (seat_waits : List Wait) (v : View) → ticket ≤ ticket' → seats ≤ seats' → SeatFits idle ticket serving seats log seat_waits v → SeatFits idle ticket' serving seats' log seat_waits v
fits_more idle ticket serving seats ticket' seats' log seat_waits v t n f =
    record { saw = f.saw; made = f.made; unused = f.unused; over = f.over; recalls = f.recalls; at_turn = f.at_turn; looked = (omega (arith, f.looked.0), omega (arith, f.looked.1)) }

-- what a step of the seat id owes, after which its view v is w, and the words and homes are these, where the history
-- and the turn stay
record Moved (limit : Limits) (s : TableState) (o : Orderly limit s) (id : ℕ) (v w : View) (ws : List ℕ) (hs : List (Home (Option Account))) (ticket seats : ℕ) : Type 0 where
  me : get_elem? s.views id ≡ some v
  shape : ws ≡ ticket ∷ o.serving ∷ seats ∷ []
  drawn : o.ticket ≤ ticket
  few : ticket < 18446744073709551616
  more : o.seats ≤ seats
  tick : (x : ℕ) → (has_ticket x w ≤ has_ticket x v) ⊎ ((o.ticket ≤ x) × (x < ticket) × (has_ticket x w ≤ 1))
  num : (x : ℕ) → (has_number x w ≤ has_number x v) ⊎ ((o.seats ≤ x) × (x < seats) × (has_number x w ≤ 1))
  fits : SeatFits o.idle ticket o.serving seats o.log o.waits w
  slot : (get_elem? hs 0 ≡ some (some (Some (account limit o.log o.idle o.waits)))) ⊎ IsSlotOut (table ws hs (set s.views id w))

moves : (limit : Limits) (s : TableState) (o : Orderly limit s) (id : ℕ) (v w : View) (ws : List ℕ) (hs : List (Home (Option Account))) (ticket seats : ℕ) → Moved limit s o id v w ws hs ticket seats
    → Orderly limit (table ws hs (set s.views id w))
moves limit s o id v w ws hs ticket seats m = let me = m.me in let t = m.drawn in let n = m.more in let few = m.few in record {
  ticket = ticket;
  serving = o.serving;
  seats = seats;
  idle = o.idle;
  log = o.log;
  waits = o.waits;
  words = m.shape;
  order = omega (arith, o.order);
  few = few;
  count = o.count;
  slot = m.slot;
  passed = λ x h. let c = total_by-set (has_ticket x) s.views id v w me in let z = o.passed x h in let b = term_le (has_ticket x) s.views id v me in
      ⊎_elim (λ (q : has_ticket x w ≤ has_ticket x v). omega arith) (λ (q : (o.ticket ≤ x) × (x < ticket) × (has_ticket x w ≤ 1)). absurd (omega (arith, o.order, q.0))) (m.tick x);
  undrawn = λ x h. let c = total_by-set (has_ticket x) s.views id v w me in let z = o.undrawn x (omega arith) in let b = term_le (has_ticket x) s.views id v me in
      ⊎_elim (λ (q : has_ticket x w ≤ has_ticket x v). omega arith) (λ (q : (o.ticket ≤ x) × (x < ticket) × (has_ticket x w ≤ 1)). absurd (omega (arith, q.1))) (m.tick x);
  tickets = λ x. let c = total_by-set (has_ticket x) s.views id v w me in let z = o.tickets x in let b = term_le (has_ticket x) s.views id v me in
      ⊎_elim (λ (q : has_ticket x w ≤ has_ticket x v). omega arith) (λ (q : (o.ticket ≤ x) × (x < ticket) × (has_ticket x w ≤ 1)). omega (arith, q.2, o.undrawn x q.0)) (m.tick x);
  numbers = λ x. let c = total_by-set (has_number x) s.views id v w me in let z = o.numbers x in let b = term_le (has_number x) s.views id v me in
      ⊎_elim (λ (q : has_number x w ≤ has_number x v). omega arith) (λ (q : (o.seats ≤ x) × (x < seats) × (has_number x w ≤ 1)). omega (arith, q.2, o.unnumbered x q.0)) (m.num x);
  unnumbered = λ x h. let c = total_by-set (has_number x) s.views id v w me in let z = o.unnumbered x (omega arith) in let b = term_le (has_number x) s.views id v me in
      ⊎_elim (λ (q : has_number x w ≤ has_number x v). omega arith) (λ (q : (o.seats ≤ x) × (x < seats) × (has_number x w ≤ 1)). absurd (omega (arith, q.1))) (m.num x);
  strangers = λ x h. o.strangers x (omega arith);
  fits = λ j u e. ⊎_elim (λ (q : (j ≡ id) × (w ≡ u)). subst (SeatFits o.idle ticket o.serving seats o.log o.waits) q.1 m.fits)
      (λ (q : (j ≢ id) × (get_elem? s.views j ≡ some u)). fits_more o.idle o.ticket o.serving o.seats ticket seats o.log o.waits u t n (o.fits j u q.1)) (at_set s.views id j w u e);
}

-- the slot stays as it is, where the seat holds it as before
same_slot : (limit : Limits) (s : TableState) (o : Orderly limit s) (id : ℕ) (v w : View) (ws : List ℕ) → get_elem? s.views id ≡ some v → w.holds ≡ v.holds
    → (get_elem? s.homes 0 ≡ some (some (Some (account limit o.log o.idle o.waits)))) ⊎ IsSlotOut (table ws s.homes (set s.views id w))
same_slot limit s o id v w ws me held = ⊎_elim (λ q. inl q)
    (λ (q : IsSlotOut s). dite (ℕ_discrete q.1.0 id)
    (λ here. let same : v ≡ q.1.1 = some-injective v q.1.1 (sym me ∙ (ap (λ k. get_elem? s.views k) (sym here) ∙ q.1.2)) in
    inr (q.0, (id, w, set_at s.views id v w me, held ∙ (ap (λ (x : View). x.holds) same ∙ q.1.3))))
    (λ else. inr (q.0, (q.1.0, q.1.1, set_else s.views id q.1.0 w else ∙ q.1.2, q.1.3))))
    o.slot

abbrev Goes : Limits → TableState → ℕ → ℕ → Seated → (ℕ → Seated → Type 0) → ℕ → Type 0
Goes limit s i id m then k = (w : View) × (a : Act (Option Account)) × Valid s.homes m.1 a × Orderly limit (stepped s i k id m.1 w a) × then (get_or s.words i 0) (w, carried_after m.1 a)

-- a load after which nothing is known
unmoved : (limit : Limits) (s : TableState) (o : Orderly limit s) (i id : ℕ) (m : Seated) → get_elem? s.views id ≡ some m.0 → set s.words i (get_or s.words i 0) ≡ s.words → Orderly limit (stepped s i (get_or s.words i 0) id m.1 m.0 keeps)
unmoved limit s o i id m me same =
    moves limit s o id m.0 m.0 (set s.words i (get_or s.words i 0)) s.homes o.ticket o.seats (record {
      me = me;
      shape = same ∙ o.words;
      drawn = omega arith;
      few = o.few;
      more = omega arith;
      tick = λ x. inl (omega arith);
      num = λ x. inl (omega arith);
      fits = o.fits id m.0 me;
      slot = same_slot limit s o id m.0 m.0 (set s.words i (get_or s.words i 0)) me refl;
    })

-- whose turn it is has drawn
turn_drawn : (limit : Limits) (s : TableState) (o : Orderly limit s) (id : ℕ) (v : View) → get_elem? s.views id ≡ some v → v.ticket ≡ Some o.serving → o.serving < o.ticket
turn_drawn limit s o id v me has = dite (dec_le o.ticket o.serving) (λ h. absurd (omega (arith, o.undrawn o.serving h, term_le (has_ticket o.serving) s.views id v me, is-yes o.serving v.ticket has))) (λ h. omega arith)

-- no two seats have the turn
one_turn : (limit : Limits) (s : TableState) (o : Orderly limit s) (id j : ℕ) (v u : View) → get_elem? s.views id ≡ some v → get_elem? s.views j ≡ some u → j ≢ id → v.ticket ≡ Some o.serving → u.ticket ≡ Some o.serving → ⊥
one_turn limit s o id j v u me them else has h =
    omega (arith, terms_le (has_ticket o.serving) s.views id j v u else me them, o.tickets o.serving, is-yes o.serving v.ticket has, is-yes o.serving u.ticket h)

-- a seat's number is none of those that ended in it
apart_over : (limit : Limits) (s : TableState) (o : Orderly limit s) (id : ℕ) (v : View) → get_elem? s.views id ≡ some v → (k : ℕ) (p : ℕ × List Entry) → get_elem? v.ended k ≡ some p → v.number ≢ Some p.0
apart_over limit s o id v me k p e n =
    omega (arith, term_le (has_number p.0) s.views id v me, o.numbers p.0, is-yes p.0 v.number n, term_le (λ (r : ℕ × List Entry). is p.0 (Some r.0)) v.ended k p e, is-yes p.0 (Some p.0) refl)

pub look_keeps : (limit : Limits) (n id : ℕ) (m : Seated) → Allows (Orderly limit) n id m 0 (λ y. y) (looks (step n 0 0 0 none) m)
look_keeps limit n id m s o wide me _ =
    let x : ℕ = get_or s.words 0 0 in let found : x ≡ o.ticket = ap (λ l. get_or l 0 0) o.words in let w : View = looked m.0 x in let f = o.fits id m.0 me in
    let ws : set s.words 0 x ≡ o.ticket ∷ o.serving ∷ o.seats ∷ [] = ap (λ l. set l 0 x) o.words ∙ ap (λ k. k ∷ o.serving ∷ o.seats ∷ []) found in (
      w,
      keeps,
      tt,
      moves limit s o id m.0 w (set s.words 0 x) s.homes o.ticket o.seats (record {
        me = me;
        shape = ws;
        drawn = omega arith;
        few = o.few;
        more = omega arith;
        tick = λ y. inl (omega arith);
        num = λ y. inl (omega arith);
        fits = record { saw = f.saw; made = f.made; unused = f.unused; over = f.over; recalls = f.recalls; at_turn = f.at_turn; looked = (omega arith, f.looked.1) };
        slot = same_slot limit s o id m.0 w (set s.words 0 x) me refl;
      }),
      (refl, omega (arith, f.looked.0)),
    )

pub draw_keeps : (limit : Limits) (n id : ℕ) (m : Seated) (old new : ℕ) → new ≡ old + 1 → old < 18446744073709551615 → m.0.ticket ≡ None
    → Allows (Orderly limit) n id m 0 (λ y. either (eqb y old) new y) (draws (step n 0 old new none) m)
draw_keeps limit n id m old new next room rests s o wide me _ = let x : ℕ = get_or s.words 0 0 in let found : x ≡ o.ticket = ap (λ l. get_or l 0 0) o.words in
    let f = o.fits id m.0 me in let v : View = m.0 in
    exchanged x old new (Goes limit s 0 id m (draws (step n 0 old new none) m))
    (λ hit. let w : View = queued v x in
    let ws : set s.words 0 new ≡ new ∷ o.serving ∷ o.seats ∷ [] = ap (λ l. set l 0 new) o.words in (
      w,
      keeps,
      tt,
      moves limit s o id v w (set s.words 0 new) s.homes new o.seats (record {
        me = me;
        shape = ws;
        drawn = omega arith;
        few = omega arith;
        more = omega arith;
        tick = λ y. dite (ℕ_discrete x y) (λ e. inr (omega arith, omega arith, is-le y (Some x))) (λ ne. inl (omega (arith, is-no y x ne)));
        num = λ y. inl (omega arith);
        fits = record { saw = f.saw; made = f.made; unused = f.unused; over = f.over; recalls = f.recalls; at_turn = λ h. absurd (cc (rests, (f.at_turn h).0)); looked = (omega (arith, f.looked.0), f.looked.1) };
        slot = same_slot limit s o id v w (set s.words 0 new) me refl;
      }),
      ((λ _. refl), λ miss. absurd (miss hit)),
    ))
    (λ miss. (v, keeps, tt, unmoved limit s o 0 id m me (ap (λ l. set l 0 x) o.words ∙ (ap (λ k. k ∷ o.serving ∷ o.seats ∷ []) found ∙ sym o.words)), ((λ hit. absurd (miss hit)), λ _. refl)))

pub wait_keeps : (limit : Limits) (n id : ℕ) (m : Seated) (t : ℕ) → n ≡ 1 → m.0.ticket ≡ Some t → m.0.holds ≡ false → m.1 ≡ [] → m.0.limits ≡ limit
    → Allows (Orderly limit) n id m 1 (λ y. y) (seat_waits (step n 1 0 0 none) m)
wait_keeps limit n id m t one queues free none-held lim s o wide me _ = let x : ℕ = get_or s.words 1 0 in let found : x ≡ o.serving = ap (λ l. get_or l 1 0) o.words in
    let f = o.fits id m.0 me in let v : View = m.0 in
    let same : set s.words 1 x ≡ s.words = ap (λ l. set l 1 x) o.words ∙ (ap (λ k. o.ticket ∷ k ∷ o.seats ∷ []) found ∙ sym o.words) in
    dite (ℕ_discrete t x)
    (λ mine. let mine' : v.ticket ≡ Some o.serving = queues ∙ ap Some (mine ∙ found) in
    let a : Account = account limit o.log o.idle o.waits in let w : View = holding v a in
    ⊎_elim
    (λ (home : get_elem? s.homes 0 ≡ some (some (Some a))). (
      w,
      takes 0 (Some a),
      home,
      moves limit s o id v w (set s.words 1 x) (set s.homes 0 none) o.ticket o.seats (record {
        me = me;
        shape = same ∙ o.words;
        drawn = omega arith;
        few = o.few;
        more = omega arith;
        tick = λ y. inl (omega arith);
        num = λ y. inl (omega arith);
        fits = record { saw = front_self o.log; made = f.made; unused = f.unused; over = f.over; recalls = record { own = λ k e. (f.made k e).0; over = f.over; front = front_trans v.behind v.seen o.log f.recalls.front f.saw }; at_turn = λ _. (mine', refl, refl, refl); looked = f.looked };
        slot = inr (set_here s.homes 0 none (omega arith), (id, w, set_at s.views id v w me, refl));
      }),
      (
        (λ _. (a, ap (λ c. (w, (0, Some a) ∷ c)) none-held, record { of_limits = sym lim; grew = f.saw; made = f.made; room = omega (arith, o.count, o.few, turn_drawn limit s o id v me mine'); over = λ k p e. (f.over k p e, apart_over limit s o id v me k p e) })),
        λ not. absurd (not (queues ∙ ap Some mine)),
      ),
    ))
    (λ (out : IsSlotOut s). absurd (dite (ℕ_discrete out.1.0 id)
    (λ here. let u : v ≡ out.1.1 = some-injective v out.1.1 (sym me ∙ (ap (λ k. get_elem? s.views k) (sym here) ∙ out.1.2)) in cc (free, ap (λ (z : View). z.holds) u, out.1.3))
    (λ else. one_turn limit s o id out.1.0 v out.1.1 me out.1.2 else mine' ((o.fits out.1.0 out.1.1 out.1.2).at_turn out.1.3).0)))
    o.slot)
    (λ other. (v, keeps, tt, unmoved limit s o 1 id m me same, ((λ is. absurd (other (cc (queues, is)))), λ _. refl)))

-- a look that changes nothing
pub recall_keeps : (limit : Limits) (n id : ℕ) (m : Seated) → Allows (Orderly limit) n id m 2 (λ y. y) (recalls (step n 2 0 0 none) m)
recall_keeps limit n id m s o wide me _ =
    let x : ℕ = get_or s.words 2 0 in let found : x ≡ o.seats = ap (λ l. get_or l 2 0) o.words in let v : View = m.0 in
    let same : set s.words 2 x ≡ s.words = ap (λ l. set l 2 x) o.words ∙ (ap (λ k. o.ticket ∷ o.serving ∷ k ∷ []) found ∙ sym o.words) in (
      v,
      keeps,
      tt,
      unmoved limit s o 2 id m me same,
      (
        refl,
        (o.fits id v me).recalls,
        λ k e. differ_with k v.ended (λ y. omega (arith, o.numbers y, term_le (has_number y) s.views id v me, ap (is y) e)),
      ),
    )

some_same : (x k : ℕ) → (let o : Option ℕ = Some x in o ≡ Some k) → x ≡ k
some_same x k e = cc

pub look_seats_keeps : (limit : Limits) (n id : ℕ) (m : Seated) → Allows (Orderly limit) n id m 2 (λ y. y) (looks_seats (step n 2 0 0 none) m)
look_seats_keeps limit n id m s o wide me _ =
    let x : ℕ = get_or s.words 2 0 in let found : x ≡ o.seats = ap (λ l. get_or l 2 0) o.words in let w : View = looked_seats m.0 x in let f = o.fits id m.0 me in
    let ws : set s.words 2 x ≡ o.ticket ∷ o.serving ∷ o.seats ∷ [] = ap (λ l. set l 2 x) o.words ∙ ap (λ k. o.ticket ∷ o.serving ∷ k ∷ []) found in (
      w,
      keeps,
      tt,
      moves limit s o id m.0 w (set s.words 2 x) s.homes o.ticket o.seats (record {
        me = me;
        shape = ws;
        drawn = omega arith;
        few = o.few;
        more = omega arith;
        tick = λ y. inl (omega arith);
        num = λ y. inl (omega arith);
        fits = record { saw = f.saw; made = f.made; unused = f.unused; over = f.over; recalls = f.recalls; at_turn = f.at_turn; looked = (f.looked.0, omega arith) };
        slot = same_slot limit s o id m.0 w (set s.words 2 x) me refl;
      }),
      (refl, omega (arith, f.looked.1)),
    )

pub number_keeps : (limit : Limits) (n id : ℕ) (m : Seated) (old new : ℕ) → new ≡ old + 1 → m.0.fresh ≡ None
    → Allows (Orderly limit) n id m 2 (λ y. either (eqb y old) new y) (numbers (step n 2 old new none) m)
number_keeps limit n id m old new next bare s o wide me _ = let x : ℕ = get_or s.words 2 0 in let found : x ≡ o.seats = ap (λ l. get_or l 2 0) o.words in
    let f = o.fits id m.0 me in let v : View = m.0 in
    exchanged x old new (Goes limit s 2 id m (numbers (step n 2 old new none) m))
    (λ hit. let w : View = seat_numbered v x in
    let ws : set s.words 2 new ≡ o.ticket ∷ o.serving ∷ new ∷ [] = ap (λ l. set l 2 new) o.words in (
      w,
      keeps,
      tt,
      moves limit s o id v w (set s.words 2 new) s.homes o.ticket new (record {
        me = me;
        shape = ws;
        drawn = omega arith;
        few = o.few;
        more = omega arith;
        tick = λ y. inl (omega arith);
        num = λ y. dite (ℕ_discrete x y)
            (λ e. inr (omega arith, omega arith, omega (arith, is-le y (Some x), o.unnumbered y (omega arith), term_le (has_number y) s.views id v me)))
            (λ ne. inl (omega (arith, is-no y x ne)));
        fits = record { saw = f.saw; made = f.made; unused = λ k e. o.strangers k (omega (arith, some_same x k e)); over = f.over; recalls = f.recalls; at_turn = f.at_turn; looked = (f.looked.0, omega (arith, f.looked.1)) };
        slot = same_slot limit s o id v w (set s.words 2 new) me refl;
      }),
      ((λ _. (refl, none_before x v.seen o.log f.saw (o.strangers x (omega arith)).0)), λ miss. absurd (miss hit)),
    ))
    (λ miss. (v, keeps, tt, unmoved limit s o 2 id m me (ap (λ l. set l 2 x) o.words ∙ (ap (λ k. o.ticket ∷ o.serving ∷ k ∷ []) found ∙ sym o.words)), ((λ hit. absurd (miss hit)), λ _. refl)))

pub split_keeps : (limit : Limits) (id : ℕ) (v : View) → Splits (Orderly limit) id v (old_half v) (new_half v)
split_keeps limit id v s o me = let a : View = old_half v in let b : View = new_half v in let vs : List View = set s.views id a in let f = o.fits id v me in
    let sum : (g : View → ℕ) → total_by g (vs ++ b ∷ []) + g v ≡ total_by g s.views + g a + g b = λ g. omega (arith, total_by-append g vs (b ∷ []), total_by-set g s.views id v a me) in
    record {
      ticket = o.ticket;
      serving = o.serving;
      seats = o.seats;
      idle = o.idle;
      log = o.log;
      waits = o.waits;
      words = o.words;
      order = o.order;
      few = o.few;
      count = o.count;
      slot = ⊎_elim (λ q. inl q) (λ (q : IsSlotOut (table s.words s.homes vs)). inr (q.0, (q.1.0, q.1.1, at_longer vs (b ∷ []) q.1.0 q.1.1 q.1.2, q.1.3))) (same_slot limit s o id v a s.words me refl);
      passed = λ x h. omega (arith, sum (has_ticket x), o.passed x h);
      undrawn = λ x h. omega (arith, sum (has_ticket x), o.undrawn x h);
      tickets = λ x. omega (arith, sum (has_ticket x), o.tickets x);
      numbers = λ x. omega (arith, sum (has_number x), o.numbers x);
      unnumbered = λ x h. omega (arith, sum (has_number x), o.unnumbered x h);
      strangers = o.strangers;
      fits = λ j u e. ⊎_elim
          (λ (q : get_elem? vs j ≡ some u). ⊎_elim
          (λ (r : (j ≡ id) × (a ≡ u)). subst (SeatFits o.idle o.ticket o.serving o.seats o.log o.waits) r.1 (record { saw = f.saw; made = f.made; unused = λ n is. absurd cc; over = f.over; recalls = f.recalls; at_turn = f.at_turn; looked = f.looked }))
          (λ (r : (j ≢ id) × (get_elem? s.views j ≡ some u)). o.fits j u r.1)
          (at_set s.views id j a u q))
          (λ (q : b ≡ u). subst (SeatFits o.idle o.ticket o.serving o.seats o.log o.waits) q (record { saw = f.saw; made = f.unused; unused = λ n is. absurd cc; over = nothing_over o.log; recalls = record { own = λ n is. none_before n v.seen o.log f.saw (f.unused n is).0; over = nothing_over v.seen; front = (v.seen, refl) }; at_turn = λ h. absurd cc; looked = f.looked }))
          (at_snoc vs b u j e);
    }

pub join_keeps : (limit : Limits) (id : ℕ) (v : View) (other : ℕ) (w : View) → v.holds ≡ false → w.holds ≡ false → Joins (Orderly limit) id v other w (seats_joined v w) seat_spent
join_keeps limit id v other w rests free s o me apart them = let b : View = seats_joined v w in let vs : List View = set s.views id b in let f = o.fits id v me in
    let there : get_elem? s.views other ≡ some w = sym (set_else s.views id other b apart) ∙ them in let g = o.fits other w there in
    let sum : (g : View → ℕ) → total_by g (set vs other seat_spent) + g w + g v ≡ total_by g s.views + g b + g seat_spent = λ g. omega (arith, total_by-set g s.views id v b me, total_by-set g vs other w seat_spent them) in
    let both : (x : ℕ) → has_number x b + has_number x seat_spent ≤ has_number x v + has_number x w = λ x. let f = λ (p : ℕ × List Entry). is x (Some p.0) in
    omega (arith, total_by-append f v.ended (w.ended ++ own_ended w.number w.mine), total_by-append f w.ended (own_ended w.number w.mine), own_total x w.number w.mine) in
    record {
      ticket = o.ticket;
      serving = o.serving;
      seats = o.seats;
      idle = o.idle;
      log = o.log;
      waits = o.waits;
      words = o.words;
      order = o.order;
      few = o.few;
      count = o.count;
      slot = ⊎_elim (λ q. inl q)
          (λ (q : IsSlotOut (table s.words s.homes vs)). dite (ℕ_discrete q.1.0 other)
          (λ here. let u : w ≡ q.1.1 = some-injective w q.1.1 (sym them ∙ (ap (λ k. get_elem? vs k) (sym here) ∙ q.1.2)) in absurd (cc (free, ap (λ (z : View). z.holds) u, q.1.3)))
          (λ else. inr (q.0, (q.1.0, q.1.1, set_else vs other q.1.0 seat_spent else ∙ q.1.2, q.1.3))))
          (same_slot limit s o id v b s.words me refl);
      passed = λ x h. omega (arith, sum (has_ticket x), o.passed x h);
      undrawn = λ x h. omega (arith, sum (has_ticket x), o.undrawn x h);
      tickets = λ x. omega (arith, sum (has_ticket x), o.tickets x);
      numbers = λ x. omega (arith, sum (has_number x), o.numbers x, both x);
      unnumbered = λ x h. omega (arith, sum (has_number x), o.unnumbered x h, both x);
      strangers = o.strangers;
      fits = λ j u e. ⊎_elim
          (λ (r : (j ≡ other) × (seat_spent ≡ u)). subst (SeatFits o.idle o.ticket o.serving o.seats o.log o.waits) r.1 (record { saw = (o.log, refl); made = λ n is. absurd cc; unused = λ n is. absurd cc; over = nothing_over o.log; recalls = record { own = λ n is. absurd cc; over = nothing_over []; front = ([], refl) }; at_turn = λ h. absurd cc; looked = (omega arith, omega arith) }))
          (λ (r : (j ≢ other) × (get_elem? vs j ≡ some u)). ⊎_elim
          (λ (q : (j ≡ id) × (b ≡ u)). subst (SeatFits o.idle o.ticket o.serving o.seats o.log o.waits) q.1 (record {
            saw = longer_has (λ l. IsPrefix l o.log) v.seen w.seen f.saw g.saw;
            made = f.made;
            unused = f.unused;
            over = λ k p e. ⊎_elim (λ (q : (i : ℕ) × (get_elem? v.ended i ≡ some p)). f.over q.0 p q.1)
                (λ (q : (i : ℕ) × (get_elem? (w.ended ++ own_ended w.number w.mine) i ≡ some p)). ⊎_elim (λ (r : (i : ℕ) × (get_elem? w.ended i ≡ some p)). g.over r.0 p r.1)
                (λ (r : (i : ℕ) × (get_elem? (own_ended w.number w.mine) i ≡ some p)). own_over o.log w.number w.mine (λ n is. (g.made n is).0) r.0 p r.1) (in_append w.ended (own_ended w.number w.mine) q.0 p q.1))
                (in_append v.ended (w.ended ++ own_ended w.number w.mine) k p e);
            recalls = join_recalls v w o.log f.saw g.saw f.recalls g.recalls (λ n is. (f.made n is).0) (λ n is. (g.made n is).0) f.over g.over;
            at_turn = λ h. absurd (cc (rests, h));
            looked = (omega (arith, f.looked.0, g.looked.0), omega (arith, f.looked.1, g.looked.1));
          }))
          (λ (q : (j ≢ id) × (get_elem? s.views j ≡ some u)). o.fits j u q.1)
          (at_set s.views id j b u r.1))
          (at_set vs other j seat_spent u e);
    }

-- the history after a turn: one entry of the seat, or none
abbrev GrowsBy : View → List Entry → Type 0
GrowsBy v more = (more ≡ []) ⊎ ((e : Entry) × (v.number ≡ Some e.seat) × (more ≡ e ∷ []))

-- another number's calls are as they were
others : (n : ℕ) (v : View) (log more : List Entry) → GrowsBy v more → v.number ≢ Some n → calls_by n (log ++ more) ≡ calls_by n log
others n v log more how else = ⊎_elim (λ (q : more ≡ []). ap (λ l. calls_by n (log ++ l)) q ∙ ap (calls_by n) (append-nil log))
    (λ (q : (e : Entry) × (v.number ≡ Some e.seat) × (more ≡ e ∷ [])). ap (λ l. calls_by n (log ++ l)) q.2 ∙ calls_by-other n log q.0 (λ e. else (q.1 ∙ ap Some e))) how

abbrev had : Account → Option Account → Account
had d None = d
had d (Some a) = a

abbrev held : Account → List (ℕ × Option Account)
held a = (0, Some a) ∷ []

pub same_held : (a b : Account) → held a ≡ held b → a ≡ b
same_held a b e = ap (λ (l : List (ℕ × Option Account)). had a (get_or l 0 (0, Some a)).1) e

-- a turn of the seat with this view, after which this value lies in the slot, and these entries are more
record HasTurned (limit : Limits) (v : View) (a : Account) (more : List Entry) : Type 0 where
  of_limits : v.limits ≡ limit
  holds : v.holds ≡ true
  lim : a.limits ≡ v.limits
  grew : a.log ≡ v.seen ++ more
  how : GrowsBy v more
  idled : a.idle + length more ≡ v.idle + 1
  apart : (k : ℕ) → v.number ≢ Some k → waits_by k a.waits ≡ waits_by k v.found

passes_at : (limit : Limits) (n id : ℕ) (v : View) (a : Account) (more : List Entry) → n ≡ 1 → HasTurned limit v a more
    → Allows (Orderly limit) n id (v, (0, Some a) ∷ []) 1 (λ y. (y + 1) % 18446744073709551616) (passes_turn (step n 1 1 0 none) (v, (0, Some a) ∷ []))
passes_at limit n id v a more one turned s o wide me _ =
    let of_limits = turned.of_limits in let holds = turned.holds in let lim = turned.lim in let grew = turned.grew in let how = turned.how in let idled = turned.idled in let apart = turned.apart in
    let x : ℕ = get_or s.words 1 0 in let found : x ≡ o.serving = ap (λ l. get_or l 1 0) o.words in
    let f = o.fits id v me in let turn = f.at_turn holds in let drawn = turn_drawn limit s o id v me turn.0 in let few = o.few in
    let next : (x + 1) % 18446744073709551616 ≡ o.serving + 1 = omega arith in let y : ℕ = (x + 1) % 18446744073709551616 in
    let log : a.log ≡ o.log ++ more = grew ∙ ap (λ l. l ++ more) turn.1 in let w : View = turn_passed v a in
    let idle = turn.2 in
    let kept : (k : ℕ) → v.number ≢ Some k → waits_by k a.waits ≡ waits_by k o.waits = λ k ne. apart k ne ∙ ap (waits_by k) turn.3 in
    let other : (j : ℕ) (u : View) → get_elem? s.views j ≡ some u → j ≢ id → (k : ℕ) → 0 < has_number k u → (calls_by k (o.log ++ more) ≡ calls_by k o.log) × (waits_by k a.waits ≡ waits_by k o.waits) = λ j u at else k has.
    let ne : v.number ≢ Some k = λ e. omega (arith, terms_le (has_number k) s.views id j v u else me at, o.numbers k, is-yes k v.number e) in
    (others k v o.log more how ne, kept k ne) in
    let kept_recalls : RecallsAll w = record {
      own = λ k is. ap (λ z. own z a.log) (sym is);
      over = λ k p e. ap (calls_by p.0) log ∙ (others p.0 v o.log more how (apart_over limit s o id v me k p e) ∙ f.over k p e);
      front = front_trans v.behind v.seen a.log f.recalls.front (more, sym grew);
    } in (
      w,
      gives,
      tt,
      record {
        ticket = o.ticket;
        serving = o.serving + 1;
        seats = o.seats;
        idle = a.idle;
        log = o.log ++ more;
        waits = a.waits;
        words = ap (λ l. set l 1 y) o.words ∙ ap (λ k. o.ticket ∷ k ∷ o.seats ∷ []) next;
        order = omega arith;
        few = few;
        count = omega (arith, o.count, length-append o.log more);
        slot = inl (set_here s.homes 0 (some (Some a)) (omega arith) ∙ ap (λ k. some (some (Some k))) (λ i. account ((lim ∙ of_limits) i) (log i) a.idle a.waits));
        passed = λ k h. let c = total_by-set (has_ticket k) s.views id v w me in let b = term_le (has_ticket k) s.views id v me in
            dite (ℕ_discrete k o.serving) (λ e. omega (arith, o.tickets k, is-yes k v.ticket (turn.0 ∙ ap Some (sym e)))) (λ ne. omega (arith, o.passed k (omega arith)));
        undrawn = λ k h. omega (arith, total_by-set (has_ticket k) s.views id v w me, o.undrawn k h);
        tickets = λ k. omega (arith, total_by-set (has_ticket k) s.views id v w me, o.tickets k);
        numbers = λ k. omega (arith, total_by-set (has_number k) s.views id v w me, o.numbers k);
        unnumbered = λ k h. omega (arith, total_by-set (has_number k) s.views id v w me, o.unnumbered k h);
        strangers = λ k h. let ne : v.number ≢ Some k = λ e. omega (arith, o.unnumbered k h, term_le (has_number k) s.views id v me, is-yes k v.number e) in let z = o.strangers k h in (others k v o.log more how ne ∙ z.0, kept k ne ∙ z.1);
        fits = λ j u e. ⊎_elim
            (λ (q : (j ≡ id) × (w ≡ u)). subst (SeatFits a.idle o.ticket (o.serving + 1) o.seats (o.log ++ more) a.waits) q.1 (record {
              saw = ([], append-nil a.log ∙ log);
              made = λ k is. (ap (calls_by k) (sym log) ∙ ap (λ z. own z a.log) (sym is), ap (λ z. own_waits z a.waits) (sym is));
              unused = λ k is. let ne : v.number ≢ Some k = λ e. omega (arith, o.numbers k, term_le (has_number k) s.views id v me, is-yes k v.number e, is-yes k v.fresh is) in let z = f.unused k is in (others k v o.log more how ne ∙ z.0, kept k ne ∙ z.1);
              over = λ k p e. ap (calls_by p.0) (refl) ∙ (others p.0 v o.log more how (apart_over limit s o id v me k p e) ∙ f.over k p e);
              recalls = kept_recalls;
              at_turn = λ h. absurd cc;
              looked = f.looked;
            }))
            (λ (q : (j ≢ id) × (get_elem? s.views j ≡ some u)). let g = o.fits j u q.1 in record {
              saw = (g.saw.0 ++ more, sym (append_assoc u.seen g.saw.0 more) ∙ ap (λ l. l ++ more) g.saw.1);
              made = λ k is. let t = other j u q.1 q.0 k (omega (arith, is-yes k u.number is)) in let z = g.made k is in (t.0 ∙ z.0, t.1 ∙ z.1);
              unused = λ k is. let t = other j u q.1 q.0 k (omega (arith, is-yes k u.fresh is)) in let z = g.unused k is in (t.0 ∙ z.0, t.1 ∙ z.1);
              over = λ k p e. (other j u q.1 q.0 p.0 (omega (arith, term_le (λ (r : ℕ × List Entry). is p.0 (Some r.0)) u.ended k p e, is-yes p.0 (Some p.0) refl))).0 ∙ g.over k p e;
              recalls = g.recalls;
              at_turn = λ h. absurd (one_turn limit s o id j v u me q.1 q.0 turn.0 (g.at_turn h).0);
              looked = g.looked;
            })
            (at_set s.views id j w u e);
      },
      λ b e. let same = same_held a b e in (ap (λ z. (turn_passed v z, [])) same, kept_recalls),
    )

pub pass_keeps : (limit : Limits) (n id : ℕ) (m : Seated) (a : Account) → n ≡ 1 → m.0.limits ≡ limit → m.0.holds ≡ true → m.1 ≡ (0, Some a) ∷ [] → IsTurn m.0 a
    → Allows (Orderly limit) n id m 1 (λ y. (y + 1) % 18446744073709551616) (passes_turn (step n 1 1 0 none) m)
pass_keeps limit n id m a one of_limits holds has turn =
    let v : View = m.0 in
    let P : List (ℕ × Option Account) → Type 0 = λ c. Allows (Orderly limit) n id (v, c) 1 (λ y. (y + 1) % 18446744073709551616) (passes_turn (step n 1 1 0 none) (v, c)) in
    subst P (sym has) (⊎_elim
    (λ (q : (e : Entry) × (v.number ≡ Some e.seat) × (a.log ≡ v.seen ++ e ∷ []) × (a.idle ≡ v.idle)).
    passes_at limit n id v a (q.0 ∷ []) one (record { of_limits = of_limits; holds = holds; lim = turn.0; grew = q.2; how = inr (q.0, q.1, refl); idled = omega (arith, q.3); apart = turn.2 }))
    (λ (q : (a.log ≡ v.seen) × (a.idle ≡ v.idle + 1)).
    passes_at limit n id v a [] one (record { of_limits = of_limits; holds = holds; lim = turn.0; grew = q.0 ∙ sym (append-nil v.seen); how = inl refl; idled = omega (arith, q.1); apart = turn.2 }))
    turn.1)

pub opens : (limit : Limits) → Orderly limit (opening (0 ∷ 0 ∷ 1 ∷ []) (Some (opened limit) ∷ []) (first_view limit))
opens limit = let v : View = first_view limit in record {
  ticket = 0;
  serving = 0;
  seats = 1;
  idle = 0;
  log = [];
  waits = [];
  words = refl;
  order = omega arith;
  few = omega arith;
  count = refl;
  slot = inl refl;
  passed = λ x h. absurd (omega arith);
  undrawn = λ x h. refl;
  tickets = λ x. omega arith;
  numbers = λ x. omega (arith, is-le x (Some 0));
  unnumbered = λ x h. omega (arith, is-no x 0 (λ e. omega arith));
  strangers = λ x h. (refl, refl);
  fits = λ j u e. ⊎_elim (λ (q : get_elem? [] j ≡ some u). absurd (some-ne-none u (sym q)))
      (λ (q : v ≡ u). subst (SeatFits 0 0 0 1 [] []) q (record { saw = ([], refl); made = λ n is. (refl, refl); unused = λ n is. absurd cc; over = nothing_over []; recalls = record { own = λ n is. refl; over = nothing_over []; front = ([], refl) }; at_turn = λ h. absurd cc; looked = (omega arith, omega arith) })) (at_snoc [] v u j e);
}
