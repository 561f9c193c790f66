-- What a turn does to the waits.
use Rattle.std.proofs.Common.{◌≡◌, ◌≢◌, ℕ, ◌+◌, ◌≤◌, List, [], ◌∷◌, ◌++◌, length, cond, ◌==◌, eqb, eq-eqb, ◌&&◌, Bool, true, false, Some, refl, sym, ap, subst, ◌∙◌, arith, length-append}
use Rattle.std.specs.List.{filter}
use Rattle.strm_machine.specs.declared.steps.Step.TheVariants as steps
use Rattle.strm_machine.specs.declared.replies.Reply.{Reply}
use Rattle.std.specs.Prelude.{Option, None}
use Rattle.std.proofs.lemmas.Bool.{and_parts, eqb-true, and_from}
use Rattle.strm_waitable_sets.specs.Sets.{set_of}
use Rattle.strm_codes.specs.OptionalNumbers.{is_number}
use Rattle.strm_machine.specs.Acts.{act_of}
use Rattle.strm_machine.specs.State.{State, empty, sets_in}
use Rattle.strm_machine.specs.Reactions.{Reaction, goes, react}
use Rattle.strm_machine.specs.WaitableSets.{is_in_set}
use Rattle.std.specs.Prelude.{is_some}
use Rattle.strm_machine.specs.declared.steps.Step.{Step}
use Rattle.strm_shared.specs.declared.entry.Place.{Place}
use Rattle.strm_machine.specs.declared.acts.Act.{Act}
use Rattle.strm_machine.specs.declared.acts.Act.TheVariants.{OnEnd}
use Rattle.strm_machine.specs.declared.acts.EndAct.TheVariants.{Operate, Cancel, Drop}
use Rattle.strm_shared.specs.Places.{place, named_in, operated_in, place_named, operated, told_in, IsBusy, IsInNoSet}
use Rattle.strm_shared.specs.Reaching.{IsStateReached}
use Rattle.strm_shared.specs.Histories.{state_after, after}
use Rattle.strm_shared.proofs.ReachedLemmas.{reached-empty, reached-after, Waits, waits_on, Begins, begins}
use Rattle.strm_machine.specs.declared.limits.Limits.{Limits}
use Rattle.strm_shared.specs.declared.entry.Entry.{Entry}
use Rattle.strm_shared.specs.declared.entry.Wait.{Wait}
use Rattle.strm_shared.specs.Histories.{entry}
use Rattle.strm_machine.specs.Moments.{is_blocked}
use Rattle.strm_shared.specs.Waits.{is_at, wait, Each, waits_by, is_others, without, Apart, operates_on, awaits_next, awaits, awaited, reports, waits_begun, IsClear, IsGood, AreWaits, IsSlotKept}
use Rattle.strm_shared.proofs.HistoryLemmas.{grows}

pub each_map : (P Q : Wait → Type 0) (ws : List Wait) → ((w : Wait) → P w → Q w) → Each P ws → Each Q ws
each_map P Q [] f h = tt
each_map P Q (w ∷ ws) f h = (f w h.0, each_map P Q ws f h.1)

pub each_zip : (P Q R : Wait → Type 0) (ws : List Wait) → ((w : Wait) → P w → Q w → R w) → Each P ws → Each Q ws → Each R ws
each_zip P Q R [] f h k = tt
each_zip P Q R (w ∷ ws) f h k = (f w h.0 k.0, each_zip P Q R ws f h.1 k.1)

pub each_all : (P : Wait → Type 0) (ws : List Wait) → ((w : Wait) → P w) → Each P ws
each_all P [] f = tt
each_all P (w ∷ ws) f = (f w, each_all P ws f)

pub each_snoc : (P : Wait → Type 0) (ws : List Wait) (w : Wait) → Each P ws → P w → Each P (ws ++ w ∷ [])
each_snoc P [] w h p = (p, tt)
each_snoc P (x ∷ xs) w h p = (h.0, each_snoc P xs w h.1 p)

each_cond : (P : Wait → Type 0) (b : Bool) (w : Wait) (ws : List Wait) → P w → Each P ws → Each P (cond b (w ∷ ws) ws)
each_cond P true w ws p h = (p, h)
each_cond P false w ws p h = h

pub each_filter : (P : Wait → Type 0) (t : Wait → Bool) (ws : List Wait) → Each P ws → Each P (filter t ws)
each_filter P t [] h = tt
each_filter P t (w ∷ ws) h = each_cond P (t w) w (filter t ws) h.0 (each_filter P t ws h.1)

pub apart_snoc : (ws : List Wait) (w : Wait) → Apart ws → Each (λ u. w.place ≢ u.place) ws → Apart (ws ++ w ∷ [])
apart_snoc [] w a h = (tt, tt)
apart_snoc (x ∷ xs) w a h = (each_snoc (λ u. u.place ≢ x.place) xs w a.0 h.0, apart_snoc xs w a.1 h.1)

apart_cond : (b : Bool) (w : Wait) (ws : List Wait) → Each (λ u. u.place ≢ w.place) ws → Apart ws → Apart (cond b (w ∷ ws) ws)
apart_cond true w ws h a = (h, a)
apart_cond false w ws h a = a

pub apart_filter : (t : Wait → Bool) (ws : List Wait) → Apart ws → Apart (filter t ws)
apart_filter t [] a = tt
apart_filter t (w ∷ ws) a = apart_cond (t w) w (filter t ws) (each_filter (λ u. u.place ≢ w.place) t ws a.0) (apart_filter t ws a.1)

-- where a seat waits for a handle, some wait has it
found_by : (P : Wait → Type 0) (b : Bool) (w : Wait) (hs : List Place) (h : Place) → P w → (hs ≡ h ∷ [] → (u : Wait) × P u × (u.place ≡ h)) → cond b (w.place ∷ hs) hs ≡ h ∷ [] → (u : Wait) × P u × (u.place ≡ h)
found_by P true w hs h p rec e = (w, p, cc e)
found_by P false w hs h p rec e = rec e

pub found : (P : Wait → Type 0) (n : ℕ) (h : Place) (ws : List Wait) → Each P ws → waits_by n ws ≡ h ∷ [] → (u : Wait) × P u × (u.place ≡ h)
found P n h [] p e = absurd cc
found P n h (w ∷ ws) p e = found_by P (eqb w.seat n) w (waits_by n ws) h p.0 (found P n h ws p.1) e

-- none of them waits for this handle
abbrev AwayFrom : Place → List Wait → Type 0
AwayFrom h ws = Each (λ u. u.place ≢ h) ws

-- the other seats wait for other handles
others_by : (b : Bool) (n : ℕ) (h : Place) (w : Wait) (ws : List Wait) → AwayFrom w.place ws → (waits_by n ws ≡ h ∷ [] → AwayFrom h (without n ws)) → cond b (w.place ∷ waits_by n ws) (waits_by n ws) ≡ h ∷ []
    → AwayFrom h (cond (cond b false true) (w ∷ without n ws) (without n ws))
others_by true n h w ws a rec e = let same : w.place ≡ h = cc e in
    each_map (λ u. u.place ≢ w.place) (λ u. u.place ≢ h) (without n ws) (λ u q r. q (r ∙ sym same)) (each_filter (λ u. u.place ≢ w.place) (is_others n) ws a)
others_by false n h w ws a rec e = let f = found (λ u. u.place ≢ w.place) n h ws a e in ((λ q. f.1 (f.2 ∙ sym q)), rec e)

pub others_apart : (n : ℕ) (h : Place) (ws : List Wait) → Apart ws → waits_by n ws ≡ h ∷ [] → Each (λ u. u.place ≢ h) (without n ws)
others_apart n h [] a e = absurd cc
others_apart n h (w ∷ ws) a e = others_by (eqb w.seat n) n h w ws a.0 (others_apart n h ws a.1) e

filter_le : (t : Wait → Bool) (ws : List Wait) → length (filter t ws) ≤ length ws
filter_le t [] = omega arith
filter_le t (w ∷ ws) = le_by (t w) w (filter t ws) ws (filter_le t ws)
  where
    le_by : (b : Bool) (w : Wait) (fs ws : List Wait) → length fs ≤ length ws → length (cond b (w ∷ fs) fs) ≤ length (w ∷ ws)
    le_by true w fs ws h = omega arith
    le_by false w fs ws h = omega arith

fewer_by : (b : Bool) (w : Wait) (hs : List Place) (h : Place) (fs ws : List Wait) → length fs ≤ length ws → (hs ≡ h ∷ [] → length fs + 1 ≤ length ws) → cond b (w.place ∷ hs) hs ≡ h ∷ []
    → length (cond (cond b false true) (w ∷ fs) fs) + 1 ≤ length (w ∷ ws)
fewer_by true w hs h fs ws le rec e = omega arith
fewer_by false w hs h fs ws le rec e = omega (arith, rec e)

pub fewer : (n : ℕ) (h : Place) (ws : List Wait) → waits_by n ws ≡ h ∷ [] → length (without n ws) + 1 ≤ length ws
fewer n h [] e = absurd cc
fewer n h (w ∷ ws) e = fewer_by (eqb w.seat n) w (waits_by n ws) h (without n ws) ws (filter_le (is_others n) ws) (fewer n h ws) e

-- the history so far, and one entry
awaits-snoc : (n : ℕ) (h : Place) (b : Bool) (log : List Entry) (e : Entry) → awaits n h b (log ++ e ∷ []) ≡ awaits_next n h (awaits n h b log) e
awaits-snoc n h b [] e = refl
awaits-snoc n h b (x ∷ xs) e = awaits-snoc n h (awaits_next n h b x) xs e

cond_same : (b : Bool) → cond b true true ≡ true
cond_same true = refl
cond_same false = refl

same_place : (p q : Place) → q.guest ≡ p.guest → q.handle ≡ p.handle → Some q ≡ Some p
same_place p q e f = rw (e, f) refl

-- an optional handle that isn't this one
is_at-not : (p : Place) (o : Option Place) → o ≢ Some p → is_at p o ≡ false
is_at-not p None ne = refl
is_at-not p (Some q) ne = by ((q.guest == p.guest) && (q.handle == p.handle)) refl
  where
    by : (b : Bool) → (q.guest == p.guest) && (q.handle == p.handle) ≡ b → b ≡ false
    by false e = refl
    by true e = let both = and_parts (q.guest == p.guest) (q.handle == p.handle) e in absurd (ne (same_place p q (eqb-true q.guest p.guest both.0) (eqb-true q.handle p.handle both.1)))

is_at-itself : (p : Place) (o : Option Place) → o ≡ Some p → is_at p o ≡ true
is_at-itself p o e = ap (is_at p) e ∙ and_from (p.guest == p.guest) (p.handle == p.handle) (eq-eqb p.guest p.guest refl) (eq-eqb p.handle p.handle refl)

goes_on : (w : Wait) (log : List Entry) (e : Entry) → awaited w log ≡ true → reports w.place e.step e.reply ≡ false → awaited w (log ++ e ∷ []) ≡ true
goes_on w log e is quiet = let t : Bool = (e.seat == w.seat) && (operates_on w.place e.step && is_blocked e.reply) in
    awaits-snoc w.seat w.place false log e ∙ (ap (λ b. cond t true (cond b false (awaited w log))) quiet ∙ (ap (λ b. cond t true b) is ∙ cond_same t))

cond_true : (b x : Bool) → b ≡ true → cond b true x ≡ true
cond_true b x e = ap (λ c. cond c true x) e

starts : (n : ℕ) (p : Place) (log : List Entry) (st : Step) (r : Reply) → operated st ≡ Some p → is_blocked r ≡ true → awaited (wait n p) (log ++ entry n st r ∷ []) ≡ true
starts n p log st r reads_it is = let e : Entry = entry n st r in
    awaits-snoc n p false log e
    ∙ cond_true ((n == n) && (operates_on p st && is_blocked r)) (cond (reports p st r) false (awaits n p false log))
    (and_from (n == n) (operates_on p st && is_blocked r) (eq-eqb n n refl) (and_from (operates_on p st) (is_blocked r) (is_at-itself p (operated st) reads_it) is))

-- every state of a history is reached
reached_from : (s : State) (log : List Entry) → IsStateReached s → IsStateReached (after s log)
reached_from s [] h = h
reached_from s (e ∷ es) h = reached_from (react s e.step).state es (reached-after s (act_of e.step) h)

pub reached_kept : (limit : Limits) (store : State) (log : List Entry) → store ≡ state_after limit log → IsStateReached store
reached_kept limit store log is = subst IsStateReached (sym is) (reached_from (empty 0 limit) log (reached-empty 0 limit))

-- the waits that stand go on, after an entry that names none of them
stand : (store store' : State) (log : List Entry) (ws : List Wait) (e : Entry) → IsStateReached store → react store e.step ≡ goes e.reply store' → IsClear e.step ws → Each (IsGood store log) ws → Each (IsGood store' (log ++ e ∷ [])) ws
stand store store' log ws e reached made clear good = each_zip (λ w. place_named e.step ≢ Some w.place) (IsGood store log) (IsGood store' (log ++ e ∷ [])) ws
    (λ w n g. let p : Waits w.place (act_of e.step) (goes e.reply store') = subst (Waits w.place (act_of e.step)) made (waits_on store w.place (act_of e.step) reached g.1 g.2 n) in
    (goes_on w log e g.0 (is_at-not w.place (told_in (act_of e.step) e.reply) p.untold), p.busy, p.out)) clear good

-- a step is made, and entered
pub record Made (store store' : State) (log items log' : List Entry) (e : Entry) : Type 0 where
  pub made : react store e.step ≡ goes e.reply store'
  pub same : items ≡ log
  pub more : log' ≡ items ++ e ∷ []

pub kept_enter : (l : Limits) (store store' : State) (log items log' : List Entry) (ws : List Wait) (cap cap' : ℕ) (e : Entry) → IsSlotKept l store log ws cap → Made store store' log items log' e → IsClear e.step ws
    → length items + (length ws + 1) ≤ cap' → IsSlotKept l store' log' ws cap'
kept_enter limit store store' log items log' ws cap cap' e k m clear enough =
    let g = grows limit store store' log items log' e k.legal k.store_is m.made m.same m.more in
    let all : log ++ e ∷ [] ≡ log' = ap (λ l. l ++ e ∷ []) (sym m.same) ∙ sym m.more in record {
      legal = g.0;
      store_is = g.1;
      waiting = subst (λ l. Each (IsGood store' l) ws) all (stand store store' log ws e (reached_kept limit store log k.store_is) m.made clear k.waiting);
      apart = k.apart;
      enough = omega (arith, enough, ap length m.more, length-append items (e ∷ []));
    }

place_is : (h : Place) → place h.guest h.handle ≡ h
place_is h = refl

-- the entry of the event for which a seat waits
abbrev pub told : ℕ → Place → Reply → Entry
told n h r = entry n (steps.Event h.guest h.handle) r

some_place : (p q : Place) → Some p ≡ Some q → q ≡ p
some_place p q e = cc

pub kept_deliver : (l : Limits) (store store' : State) (log log' : List Entry) (ws ws' : List Wait) (cap n : ℕ) (h : Place) (r : Reply) → IsSlotKept l store log ws cap → Made store store' log log log' (told n h r)
    → waits_by n ws ≡ h ∷ [] → ws' ≡ without n ws → IsSlotKept l store' log' ws' cap
kept_deliver limit store store' log log' ws ws' cap n h r k m own less =
    let e : Entry = told n h r in
    let g = grows limit store store' log log log' e k.legal k.store_is m.made refl m.more in
    let clear : Each (λ w. place_named e.step ≢ Some w.place) (without n ws) =
    each_map (λ u. u.place ≢ h) (λ w. place_named e.step ≢ Some w.place) (without n ws) (λ w q s. q (some_place (place h.guest h.handle) w.place s)) (others_apart n h ws k.apart own) in
    let others = stand store store' log (without n ws) e (reached_kept limit store log k.store_is) m.made clear (each_filter (IsGood store log) (is_others n) ws k.waiting) in record {
      legal = g.0;
      store_is = g.1;
      waiting = subst (λ l. Each (IsGood store' l) ws') (sym m.more) (subst (Each (IsGood store' (log ++ e ∷ []))) (sym less) others);
      apart = subst Apart (sym less) (apart_filter (is_others n) ws k.apart);
      enough = omega (arith, k.enough, ap length m.more, length-append log (e ∷ []), ap length less, fewer n h ws own);
    }

-- what a read or write names
unnamed : (st : Step) (p : Place) → operated st ≡ Some p → (q : Place) → place_named st ≢ Some q
unnamed st p = by (act_of st)
  where
    by : (a : Act) → operated_in a ≡ Some p → (q : Place) → named_in a ≢ Some q
    by (OnEnd side end (Operate address count)) e q f = cc
    by (OnEnd side end Drop) e q f = cc
    by (OnEnd side end Cancel) e q f = cc
    by _ e q f = cc

pub clear_operated : (st : Step) (p : Place) (ws : List Wait) → operated st ≡ Some p → IsClear st ws
clear_operated st p ws e = each_all (λ w. place_named st ≢ Some w.place) ws (λ w. unnamed st p e w.place)

pub out_free : (s : State) (p : Place) → is_in_set s p.guest p.handle ≡ false → IsInNoSet s p
out_free s p e number = by (set_of (sets_in s.guests p.guest) p.handle) e
  where
    by : (o : Option ℕ) → is_some o ≡ false → is_number o number ≡ false
    by None e = refl
    by (Some k) e = cc

-- a read or write of seat n, of a handle that is in no set, for which there is room
pub record MayBegin (store : State) (items : List Entry) (p : Place) (st : Step) (ws : List Wait) (cap : ℕ) : Type 0 where
  pub operates : operated st ≡ Some p
  pub free : is_in_set store p.guest p.handle ≡ false
  pub enough : length items + (length ws + 2) ≤ cap

module _ (limit : Limits) (store store' : State) (log items log' : List Entry) (n : ℕ) (p : Place) (st : Step) (r : Reply) where
  -- it is answered Blocked
  kept_begin : (ws ws' : List Wait) (cap cap' : ℕ) → IsSlotKept limit store log ws cap → Made store store' log items log' (entry n st r) → MayBegin store items p st ws cap' → is_blocked r ≡ true → ws' ≡ ws ++ wait n p ∷ []
      → IsSlotKept limit store' log' ws' cap'
  kept_begin ws ws' cap cap' k m b blocked longer =
      let e : Entry = entry n st r in
      let g = grows limit store store' log items log' e k.legal k.store_is m.made m.same m.more in
      let all : log ++ e ∷ [] ≡ log' = ap (λ l. l ++ e ∷ []) (sym m.same) ∙ sym m.more in
      let reached = reached_kept limit store log k.store_is in
      let begun_so : Begins store p store' = subst (λ (x : Reaction). is_blocked x.reply ≡ true → Begins store p x.state) m.made (begins store p (act_of st) reached b.operates) blocked in
      let new : IsGood store' (log ++ e ∷ []) (wait n p) = (starts n p log st r b.operates blocked, begun_so.busy, begun_so.out (out_free store p b.free)) in
      let old = stand store store' log ws e reached m.made (clear_operated st p ws b.operates) k.waiting in
      let apart = each_map (IsGood store log) (λ u. p ≢ u.place) ws (λ u q s. begun_so.idle (subst (IsBusy store) (sym s) q.1)) k.waiting in record {
        legal = g.0;
        store_is = g.1;
        waiting = subst (λ l. Each (IsGood store' l) ws') all (subst (Each (IsGood store' (log ++ e ∷ []))) (sym longer) (each_snoc (IsGood store' (log ++ e ∷ [])) ws (wait n p) old new));
        apart = subst Apart (sym longer) (apart_snoc ws (wait n p) k.apart apart);
        enough = omega (arith, b.enough, ap length m.more, length-append items (e ∷ []), ap length longer, length-append ws (wait n p ∷ []));
      }

  -- whether it is answered Blocked or not
  pub kept_begun : (ws ws' : List Wait) (cap cap' : ℕ) → IsSlotKept limit store log ws cap → Made store store' log items log' (entry n st r) → MayBegin store items p st ws cap' → ws' ≡ waits_begun r ws (wait n p)
      → IsSlotKept limit store' log' ws' cap'
  kept_begun ws ws' cap cap' k m b after = by (is_blocked r) refl
    where
      by : (t : Bool) → is_blocked r ≡ t → IsSlotKept limit store' log' ws' cap'
      by true e = kept_begin ws ws' cap cap' k m b e (after ∙ ap (λ t. cond t (ws ++ wait n p ∷ []) ws) e)
      by false e =
          subst (λ l. IsSlotKept limit store' log' l cap') (sym (after ∙ ap (λ t. cond t (ws ++ wait n p ∷ []) ws) e))
          (kept_enter limit store store' log items log' ws cap cap' (entry n st r) k m (clear_operated st p ws b.operates) (omega (arith, b.enough)))

-- more room
pub kept_room : (limit : Limits) (store : State) (log items : List Entry) (ws : List Wait) (cap cap' : ℕ) → items ≡ log → cap ≤ cap' → IsSlotKept limit store log ws cap → IsSlotKept limit store items ws cap'
kept_room limit store log items ws cap cap' same more k =
    subst (λ l. IsSlotKept limit store l ws cap') (sym same)
    (record { legal = k.legal; store_is = k.store_is; waiting = k.waiting; apart = k.apart; enough = omega (arith, k.enough, more) })

-- a handle for which a seat waits is busy
pub busy_kept : (limit : Limits) (store : State) (log : List Entry) (ws : List Wait) (cap n : ℕ) (p : Place) → IsSlotKept limit store log ws cap → waits_by n ws ≡ p ∷ [] → IsBusy store p
busy_kept limit store log ws cap n p k own =
    let f = found (λ w. IsBusy store w.place) n p ws (each_map (IsGood store log) (λ w. IsBusy store w.place) ws (λ w g. g.1) k.waiting) own in
    subst (IsBusy store) f.2 f.1

-- what is kept of the waits, by the history alone
pub kept_waits : (limit : Limits) (store : State) (log : List Entry) (ws : List Wait) (cap : ℕ) → IsSlotKept limit store log ws cap → AreWaits limit log ws
kept_waits limit store log ws cap k = record { good = subst (λ s. Each (IsGood s log) ws) k.store_is k.waiting; apart = k.apart }
