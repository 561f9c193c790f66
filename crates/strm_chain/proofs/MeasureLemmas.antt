-- What a turn leaves to do.
use Rattle.std.proofs.Common.{◌≡◌, ◌≢◌, ℕ, zero, suc, ◌+◌, ◌-◌, ◌*◌, ◌<◌, ◌≤◌, Bool, true, false, List, length, Option, Some, None, refl, sym, ap, ◌∙◌, subst, inl, inr, arith}
use Rattle.std.proofs.lemmas.Bool.{cases_eq}
use Rattle.strm_codes.specs.Codes.{count_of_code}
use Rattle.strm_codes.specs.declared.codes.ReturnCode.{ReturnCode}
use Rattle.strm_codes.specs.declared.codes.ReturnCode.TheVariants as codes
use Rattle.strm_events.specs.Reports.{is_dropped}
use Rattle.strm_machine.specs.State.{State}
use Rattle.strm_machine.specs.Acts.{act_of}
use Rattle.strm_machine.specs.Moments.{Moment, moved_of}
use Rattle.strm_machine.specs.declared.streams.Side.TheVariants.{Writing as AWrite, Reading as ARead}
use Rattle.strm_machine.specs.declared.steps.Step.{Step}
use Rattle.strm_machine.specs.declared.steps.Step.TheVariants as steps
use Rattle.strm_machine.specs.declared.replies.Reply.{Reply}
use Rattle.strm_machine.specs.declared.replies.Reply.TheVariants as replies
use Rattle.strm_machine.proofs.Changes.{scene, Change, ByRest, ByGoing, BySettling, ByOpening, ByServing}
use Rattle.strm_laws.specs.Laws.{AreSteps}
use Rattle.strm_chain.specs.declared.workers.Worker.{Worker}
use Rattle.strm_chain.specs.declared.workers.Doing.{Doing}
use Rattle.strm_chain.specs.declared.workers.Doing.TheVariants.{Nothing, Reading, Writing, Ended}
use Rattle.strm_chain.specs.declared.workers.ChainTurn.{ChainTurn}
use Rattle.strm_chain.specs.declared.workers.ChainTurn.TheVariants.{Moved, Idle}
use Rattle.strm_chain.specs.Playing.{ChainPlay, Adds}
use Rattle.strm_chain.specs.Turned.{IsAt, after_read, EndsRead, WithMore, WithLast, TakesIn, HandsOver, Turned, Rests, Waits, ReadOpens, ReadServes, ReadSettles, WriteOpens, WriteServes, WriteSettles, Ends}
use Rattle.strm_chain.specs.Keeping.{worker_at, IsJoined}
use Rattle.strm_chain.specs.Measuring.{taken_in_bytes, rank, unclosed, to_do_of, to_do_to, IsStuck, AtEnd, InRead, InWrite}
use Rattle.strm_chain.proofs.MomentLemmas.{IsRunOf, moment_at, run_before, are_before, seen}
use Rattle.strm_chain.proofs.NamingLemmas.{performed}
use Rattle.strm_chain.proofs.AfterLemmas.{told_some, event_none}
use Rattle.strm_chain.proofs.StayLemmas.{kind_is}
use Rattle.strm_chain.proofs.TurnedLemmas.{unblocked}
use Rattle.strm_chain.proofs.ReadTurnLemmas.{before_it, behind_it, ReadIsOver, read_serves, read_settles, hears_read}
use Rattle.strm_chain.proofs.TurnLemmas.{write_some, hears_write}

-- ## What is taken from a stream

-- nothing that was taken is given back
taken_grows : (s : ℕ) (m : Moment) → Change ARead (scene s ARead m) → taken_in_bytes m.before s ≤ taken_in_bytes m.after s
taken_grows s m (ByRest x) = omega (arith, x.same, ap moved_of x.was, ap moved_of x.is)
taken_grows s m (ByGoing o p n x) = omega (arith, x.more, x.moved, ap moved_of x.was, ap moved_of x.is)
taken_grows s m (BySettling o code x) = omega (arith, x.same, ap moved_of x.was, ap moved_of x.is)
taken_grows s m (ByOpening g address asked p n x) = omega (arith, x.more, x.moved, ap moved_of x.was, ap moved_of x.is)
taken_grows s m (ByServing g address asked code x) = omega (arith, x.more, ap moved_of x.was, ap moved_of x.is)

adds_take : (p q : ChainPlay) (step : Step) (reply : Reply) → IsRunOf p → AreSteps q.steps → Adds p q step reply → (k : ℕ) → taken_in_bytes p.state k ≤ taken_in_bytes q.state k
adds_take p q step reply run are a k = taken_grows k (moment_at p q step reply) ((seen p q step reply run are a).change k ARead)

two_take : (p mid q : ChainPlay) (step other : Step) (reply answer : Reply) → IsRunOf p → AreSteps q.steps → Adds p mid step reply → Adds mid q other answer → (k : ℕ) → taken_in_bytes p.state k ≤ taken_in_bytes q.state k
two_take p mid q step other reply answer run are a b k =
    let before = are_before mid q other answer b are in
    let first : taken_in_bytes p.state k ≤ taken_in_bytes mid.state k = adds_take p mid step reply run before a k in
    let second : taken_in_bytes mid.state k ≤ taken_in_bytes q.state k = adds_take mid q other answer (run_before p mid step reply a run before) are b k in
    omega (arith, first, second)

pub turned_take : (g chunk : ℕ) (w w' : Worker) (p q : ChainPlay) (turn : ChainTurn) → IsRunOf p → AreSteps q.steps → Turned g chunk w p turn w' q → (k : ℕ) → taken_in_bytes p.state k ≤ taken_in_bytes q.state k
turned_take g chunk w w' p q turn run are (Rests t e is same) k = omega (arith, ap (λ (x : ChainPlay). taken_in_bytes x.state k) same)
turned_take g chunk w w' p q turn run are (Waits t is x) k = adds_take p q _ _ run are x.hears k
turned_take g chunk w w' p q turn run are (ReadOpens t x is) k = adds_take p q _ _ run are x.adds k
turned_take g chunk w w' p q turn run are (ReadServes mid code t x y) k = two_take p mid q _ _ _ _ run are x.adds y.dumps k
turned_take g chunk w w' p q turn run are (ReadSettles mid code t x y) k = two_take p mid q _ _ _ _ run are x.adds y.dumps k
turned_take g chunk w w' p q turn run are (WriteOpens t x is) k = two_take p x.mid q _ _ _ _ run are x.pokes.adds x.adds k
turned_take g chunk w w' p q turn run are (WriteServes code t x h) k = two_take p x.mid q _ _ _ _ run are x.pokes.adds x.adds k
turned_take g chunk w w' p q turn run are (WriteSettles code t x h) k = adds_take p q _ _ run are x.adds k
turned_take g chunk w w' p q turn run are (Ends t x) k = adds_take p q _ _ run are x.adds k

-- ## Numbers

-- what one guest has to do falls: by what it is at; by what it has handed over; by what it has taken; by
-- being told that there is no more
module _ (most t t' s s' u u' r r' : ℕ) where
  abbrev Falls : Type 0
  Falls = 2 * (most - t') + 2 * (most - s') + u' + r' < 2 * (most - t) + 2 * (most - s) + u + r

  by_rank : t ≤ t' → s' ≡ s → u' ≡ u → r' < r → Falls
  by_rank a b c d = omega arith

  by_sent : (n : ℕ) → t ≤ t' → s' ≡ s + n → 1 ≤ n → s' ≤ most → u' ≡ u → r' ≤ r + 1 → Falls
  by_sent n a b c d e f = omega arith

  by_taken : (n : ℕ) → t + n ≤ t' → 1 ≤ n → t' ≤ most → s' ≡ s → u' ≡ u → r' ≤ r + 1 → Falls
  by_taken n a b c d e f = omega arith

  by_end : t ≤ t' → s' ≡ s → u' + 2 ≡ u → r' ≤ r + 1 → Falls
  by_end a b c d = omega arith

rank_after : (write : Option ℕ) (dropped : Bool) → rank (after_read write dropped) ≤ 2
rank_after None true = omega arith
rank_after None false = omega arith
rank_after (Some h) dropped = omega arith

-- ## The guest of the turn

module _ (p : ChainPlay) (ws : List Worker) (g chunk : ℕ) (j : IsJoined p ws) (l : g < length ws) (run : IsRunOf p) (most : chunk ≤ 64)
    (q : ChainPlay) (w' : Worker) (turn : ChainTurn) (are : AreSteps q.steps) (bound : ℕ)
    (takes_within : taken_in_bytes q.state (g - 1) ≤ bound) (sends_within : g + 1 < length ws → w'.sent ≤ bound)
    (takes : taken_in_bytes p.state (g - 1) ≤ taken_in_bytes q.state (g - 1)) where
  abbrev w : Worker
  w = worker_at ws g

  abbrev Falls_here : Type 0
  Falls_here = to_do_of bound q.state g w' < to_do_of bound p.state g w

  -- what is at an end of a worker that was changed
  abbrev t : ℕ
  t = taken_in_bytes p.state (g - 1)

  abbrev t' : ℕ
  t' = taken_in_bytes q.state (g - 1)

  changed : (d : Doing) → w' ≡ record w { doing = d } → rank d < rank w.doing → Falls_here
  changed d is r =
      by_rank bound t t' w.sent w'.sent (unclosed w.closed) (unclosed w'.closed) (rank w.doing) (rank w'.doing)
      takes (ap (λ (v : Worker). v.sent) is) (ap (λ (v : Worker). unclosed v.closed) is)
      (omega (arith, ap (λ (v : Worker). rank v.doing) is, r))

  handed : (code : ReturnCode) → ((n : ℕ) → code ≡ codes.Completed n → 1 ≤ n) → HandsOver w code w' → 1 ≤ rank w.doing → g + 1 < length ws → Falls_here
  handed code some h r more =
      by_sent bound t t' w.sent w'.sent (unclosed w.closed) (unclosed w'.closed) (rank w.doing) (rank w'.doing) h.count
      takes (ap (λ (v : Worker). v.sent) h.is) (some h.count h.ends) (sends_within more) (ap (λ (v : Worker). unclosed v.closed) h.is)
      (omega (arith, ap (λ (v : Worker). rank v.doing) h.is, r))

  -- a read is over, of some items or the last ones
  module _ (mid : ChainPlay) (code : ReturnCode) (x : TakesIn g w code mid w' q) (goes : w.closed ≡ false) (r : 1 ≤ rank w.doing)
      (some : (n : ℕ) → code ≡ codes.Completed n → 1 ≤ n) (more : taken_in_bytes p.state (g - 1) + count_of_code code ≤ taken_in_bytes q.state (g - 1)) where
    sent_is : w'.sent ≡ w.sent
    sent_is = ap (λ (v : Worker). v.sent) x.is

    closed_is : unclosed w'.closed ≡ unclosed (is_dropped code)
    closed_is = ap (λ (v : Worker). unclosed v.closed) x.is

    rank_is : rank w'.doing ≤ rank w.doing + 1
    rank_is = omega (arith, ap (λ (v : Worker). rank v.doing) x.is, rank_after w.write (is_dropped code), r)

    taken_in : EndsRead code → Falls_here
    taken_in (WithMore e) =
        by_taken bound t t' w.sent w'.sent (unclosed w.closed) (unclosed w'.closed) (rank w.doing) (rank w'.doing) (count_of_code code)
        more (some (count_of_code code) e) takes_within sent_is (closed_is ∙ ap (λ c. unclosed (is_dropped c)) e ∙ sym (ap unclosed goes)) rank_is
    taken_in (WithLast e) =
        by_end bound t t' w.sent w'.sent (unclosed w.closed) (unclosed w'.closed) (rank w.doing) (rank w'.doing)
        takes sent_is (omega (arith, closed_is, ap (λ c. unclosed (is_dropped c)) e, ap unclosed goes)) rank_is

  rank_of : (d : Doing) (n : ℕ) → w.doing ≡ d → rank d ≡ n → rank w.doing ≡ n
  rank_of d n e r = ap rank e ∙ r

  -- a guest that reads was not told that there is no more
  reading_open : (handle : ℕ) → w.doing ≡ Reading → w.read ≡ Some handle → w.closed ≡ false
  reading_open handle waits has =
      let b = before_it p ws g handle j l has in
      ap (λ n. (worker_at ws n).closed) b.is ∙ (j.joins (g - 1) b.there).reads.unclosed (ap (λ n. (worker_at ws n).doing) (sym b.is) ∙ waits)

  pub own_falls : turn ≡ Moved → Turned g chunk w p turn w' q → Falls_here
  own_falls m (Rests t e is same) = absurd (let wrong : Idle ≡ Moved = sym t ∙ m in cc)
  own_falls m (Waits t is x) = absurd (let wrong : Idle ≡ Moved = sym t ∙ m in cc)
  own_falls m (ReadOpens t x is) = changed Reading is (omega (arith, rank_of Nothing 2 x.rests refl))
  own_falls m (ReadServes mid code t x y) =
      let before = are_before mid q _ _ y.dumps are in
      let b = before_it p ws g x.handle j l x.has in
      let over : ReadIsOver p ws g chunk j l run most mid (g - 1) code = read_serves p ws g chunk j l run most mid (g - 1) before b code (unblocked code y.ends) x in
      let dump : taken_in_bytes mid.state (g - 1) ≤ taken_in_bytes q.state (g - 1) = adds_take mid q _ _ (run_before p mid _ _ x.adds run before) are y.dumps (g - 1) in
      taken_in mid code y x.unclosed (omega (arith, rank_of Nothing 2 x.rests refl)) over.some (omega (arith, over.taken, dump)) y.ends
  own_falls m (ReadSettles mid code t x y) =
      let before = are_before mid q _ _ y.dumps are in
      let b = before_it p ws g x.handle j l x.has in
      let over : ReadIsOver p ws g chunk j l run most mid (g - 1) code = read_settles p ws g chunk j l run most mid (g - 1) before b code (unblocked code y.ends) x in
      let dump : taken_in_bytes mid.state (g - 1) ≤ taken_in_bytes q.state (g - 1) = adds_take mid q _ _ (run_before p mid _ _ x.adds run before) are y.dumps (g - 1) in
      taken_in mid code y (reading_open x.handle x.waits x.has) (omega (arith, rank_of Reading 1 x.waits refl)) over.some (omega (arith, over.taken, dump)) y.ends
  own_falls m (WriteOpens t x is) = changed Writing is (omega (arith, rank_of Nothing 2 x.pokes.rests refl))
  own_falls m (WriteServes code t x h) =
      handed code (write_some p ws g chunk j l run most q code are x) h (omega (arith, rank_of Nothing 2 x.pokes.rests refl)) (behind_it p ws g x.handle j l x.has)
  own_falls m (WriteSettles code t x h) =
      let at = (j.joins g (behind_it p ws g x.handle j l x.has)) in
      handed code (told_some p.state q.state g AWrite code (hears_write p ws g chunk j l run most q x.handle (Some code) are x.waits x.has x.adds) (kind_is p.state g at.typed) at.reads.plain) h
      (omega (arith, rank_of Writing 1 x.waits refl)) (behind_it p ws g x.handle j l x.has)
  own_falls m (Ends t x) = changed Ended x.is (omega (arith, rank_of Nothing 2 x.rests refl))

  -- a turn that was idle changed no state, and its guest is stuck
  pub idle_same : turn ≡ Idle → Turned g chunk w p turn w' q → (q.state ≡ p.state) × (w' ≡ w) × IsStuck g w p.state
  idle_same m (Rests t e is same) = (ap (λ (x : ChainPlay). x.state) same, is, AtEnd e)
  idle_same m (Waits t is x) =
      (event_none p.state q.state g x.handle (performed p.state (act_of (steps.Event g x.handle)) (replies.Event None) q.state x.hears.reacts refl), is, stuck x.has)
    where
      stuck : IsAt w x.handle → IsStuck g w p.state
      stuck (inl y) = InRead x.handle y.0 y.1 (hears_read p ws g chunk j l run most q (g - 1) x.handle None are (before_it p ws g x.handle j l y.1) y.1 x.hears).reports
      stuck (inr y) = InWrite x.handle y.0 y.1 (hears_write p ws g chunk j l run most q x.handle None are y.0 y.1 x.hears).reports
  idle_same m (ReadOpens t x is) = absurd (let wrong : Moved ≡ Idle = sym t ∙ m in cc)
  idle_same m (ReadServes mid code t x y) = absurd (let wrong : Moved ≡ Idle = sym t ∙ m in cc)
  idle_same m (ReadSettles mid code t x y) = absurd (let wrong : Moved ≡ Idle = sym t ∙ m in cc)
  idle_same m (WriteOpens t x is) = absurd (let wrong : Moved ≡ Idle = sym t ∙ m in cc)
  idle_same m (WriteServes code t x h) = absurd (let wrong : Moved ≡ Idle = sym t ∙ m in cc)
  idle_same m (WriteSettles code t x h) = absurd (let wrong : Moved ≡ Idle = sym t ∙ m in cc)
  idle_same m (Ends t x) = absurd (let wrong : Moved ≡ Idle = sym t ∙ m in cc)

-- ## All guests together

module _ (bound : ℕ) (old new : State) (ws ws' : List Worker) where
  abbrev before : ℕ → ℕ
  before k = to_do_of bound old k (worker_at ws k)

  abbrev behind : ℕ → ℕ
  behind k = to_do_of bound new k (worker_at ws' k)

  sum_le : (n : ℕ) → ((k : ℕ) → k < n → behind k ≤ before k) → to_do_to bound new ws' n ≤ to_do_to bound old ws n
  unfolding to_do_to
  sum_le zero h = omega arith
  sum_le (suc n) h = omega (arith, sum_le n (λ k l. h k (omega (arith, l))), h n (omega arith))

  pub sum_less : (g n : ℕ) → g < n → ((k : ℕ) → k ≢ g → behind k ≤ before k) → behind g < before g → to_do_to bound new ws' n < to_do_to bound old ws n
  unfolding to_do_to
  sum_less g zero l h here = absurd (omega (arith, l))
  sum_less g (suc n) l h here = elim (cases_eq n g) [
    | inl e ↦ omega (arith, sum_le n (λ k b. h k (λ f. omega (arith, f, e, b))), subst (λ k. behind k < before k) (sym e) here)
    | inr ne ↦ omega (arith, sum_less g n (omega (arith, l, ne)) h here, h n ne)
  ]

  pub sum_same : (n : ℕ) → ((k : ℕ) → behind k ≡ before k) → to_do_to bound new ws' n ≡ to_do_to bound old ws n
  unfolding to_do_to
  sum_same zero h = refl
  sum_same (suc n) h = ap (λ x. x + behind n) (sum_same n h) ∙ ap (λ x. to_do_to bound old ws n + x) (h n)
