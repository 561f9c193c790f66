-- Conservation and what stands with it, over every run: the account of each end of each stream is kept by each
-- step.
use Rattle.std.proofs.Common.{◌≡◌, ℕ, ◌+◌, ◌≤◌, List, [], ◌∷◌, ◌++◌, length, refl, sym, subst, ap, ◌∙◌, arith, inl, inr}
use Rattle.std.specs.Prelude.{All, IsSome}
use Rattle.std.proofs.lemmas.List.{append-nil, append_assoc}
use Rattle.std.proofs.lemmas.List.Elements.{All-nil, All-append}
use Rattle.std.proofs.lemmas.Bool.{le-ltb, cases_lt}
use Rattle.strm_machine.specs.Words.{TransmitKind, Future, act_of, State, empty, stream_at, IsSound, react, Moment, received, got_in}
use Rattle.strm_machine.specs.declared.limits.Limits.{Limits}
use Rattle.strm_machine.specs.declared.streams.Side.{Side}
use Rattle.strm_machine.specs.declared.streams.Side.TheVariants.{Writing, Reading}
use Rattle.strm_machine.specs.declared.steps.Step.{Step}
use Rattle.strm_machine.specs.Moments.{moment_of}
use Rattle.strm_machine.proofs.TallyLemmas.{received_one}
use Rattle.strm_machine.proofs.Lawful.{Reacts}
use Rattle.strm_machine.proofs.MomentLemmas.{unnamed}
use Rattle.strm_machine.proofs.NamedEndLemmas.{names-unmade}
use Rattle.strm_laws.specs.Conservation.{moments, state_after_steps, calls, writes, all_reported, got, all_handed}
use Rattle.strm_laws.specs.Laws.{AreSteps, total_of_calls, waiting, moved_at, IsWithinAsked, Conserves, Stands}
use Rattle.strm_laws.proofs.Calls.{calls-push, all_reported-push, got-push}
use Rattle.strm_laws.proofs.Handed.{length-all_handed}
use Rattle.strm_laws.proofs.Kept.{kind_at, Kept}
use Rattle.strm_laws.proofs.KeptChanges.{keeps}
use Rattle.strm_laws.proofs.LawfulRuns.{IsReady, IsReady-empty, IsReady-next, first_reacts, lawful}

pub Kept-empty : (s : ℕ) (side : Side) (tag : ℕ) (limits : Limits) → Kept (kind_at s (empty tag limits)) s side [] [] 0 (empty tag limits)
unfolding all_handed
Kept-empty s Writing tag limits = record { stands = tt; items = λ e. refl; alone = λ e. refl; count = refl; within = All-nil _; told = refl; reached = λ n. sym (le-ltb n 0 (omega arith)) }
Kept-empty s Reading tag limits = record { stands = tt; items = λ e. refl; alone = λ e. refl; count = refl; within = All-nil _; told = refl; reached = λ n. sym (le-ltb n 0 (omega arith)) }

-- no call was accepted on this end of stream s, and nothing was told to it
pub record IsQuiet (s : ℕ) (side : Side) (all : List Moment) : Type 0 where
  pub none : calls s side all ≡ []
  pub silent : (kind : TransmitKind) → all_reported kind s side all ≡ 0

-- the account of an end of a stream that was made, of its kind, and of one that was not
pub record Account (s : ℕ) (side : Side) (all : List Moment) (state : State) : Type 0 where
  pub kept : Kept (kind_at s state) s side all (got s all) 0 state
  pub unmade : length state.streams ≤ s → IsQuiet s side all

Account-empty : (s : ℕ) (side : Side) (tag : ℕ) (limits : Limits) → Account s side [] (empty tag limits)
Account-empty s side tag limits = record { kept = Kept-empty s side tag limits; unmade = λ l. record { none = refl; silent = λ kind. refl } }

-- where nothing happened yet, whichever kind
rekind : (one other : TransmitKind) (s : ℕ) (side : Side) (all : List Moment) (state : State) → IsQuiet s side all → Kept one s side all (got s all) 0 state → Kept other s side all (got s all) 0 state
unfolding all_handed
rekind one other s side all state q k =
    let moved = moved_at s side state in
    record {
      stands = k.stands;
      items = λ e. k.items e ∙ ap (all_handed one s all moved 0) q.none ∙ sym (ap (all_handed other s all moved 0) q.none);
      alone = k.alone;
      count = k.count ∙ ap (λ cs. total_of_calls one moved cs + 0) q.none ∙ sym (ap (λ cs. total_of_calls other moved cs + 0) q.none);
      within = subst (All (IsWithinAsked other moved)) (sym q.none) (All-nil (IsWithinAsked other moved));
      told = ap (λ n. n + moved + 0) (q.silent other ∙ sym (q.silent one)) ∙ k.told;
      reached = k.reached;
    }

-- nothing happens to a stream that was not made
quiet_next : (s : ℕ) (side : Side) (all : List Moment) (state : State) (step : Step) → IsSound state → length state.streams ≤ s → IsQuiet s side all → IsQuiet s side (all ++ moment_of state step ∷ [])
quiet_next s side all state step h l q =
    let m = moment_of state step in
    let u = unnamed s side m (names-unmade state (act_of step) m.reply s side h l) in
    record {
      none = rw (calls-push s side all m, q.none) u.takes;
      silent = λ kind. rw (all_reported-push kind s side all m, q.silent kind, u.reports) refl;
    }

account_next : (s : ℕ) (side : Side) (all : List Moment) (state : State) (step : Step) → IsSound state → Reacts state (act_of step) (react state step) → Account s side all state → Account s side (all ++ moment_of state step ∷ []) (react state step).state
account_next s side all state step h r a =
    let m = moment_of state step in
    let after = (react state step).state in
    let next : Kept (kind_at s state) s side (all ++ m ∷ []) (got s (all ++ m ∷ [])) 0 after =
    subst (λ l. Kept (kind_at s state) s side (all ++ m ∷ []) l 0 after) (sym (got-push s all m)) (keeps s side all m (got s all) 0 (got_in s m) a.kept (r.change s side)) in
    let quiet : length state.streams ≤ s → IsQuiet s side (all ++ m ∷ []) = λ l. quiet_next s side all state step h l (a.unmade l) in
    record {
      kept = elim (cases_lt s (length state.streams)) [
        | inl l ↦ subst (λ kind. Kept kind s side (all ++ m ∷ []) (got s (all ++ m ∷ [])) 0 after) (sym (r.made s l).kind) next
        | inr l ↦ rekind (kind_at s state) (kind_at s after) s side (all ++ m ∷ []) after (quiet l) next
      ];
      unmade = λ g. elim (cases_lt s (length state.streams)) [
        | inl l ↦ absurd (omega (arith, g, (r.made s l).there))
        | inr l ↦ quiet l
      ];
    }

-- what was received are items
whole_from : (s : ℕ) (state : State) (steps : List Step) → IsReady state steps → All IsSome (got s (moments state steps))
whole_from s state [] h = All-nil IsSome
whole_from s state (step ∷ more) h =
    let r = first_reacts state step more h in
    All-append IsSome (got_in s (moment_of state step)) (got s (moments (react state step).state more)) (r.whole s) (whole_from s (react state step).state more (IsReady-next state step more h))

-- the account of an end of a stream is kept
account_from : (s : ℕ) (side : Side) (all : List Moment) (state : State) (steps : List Step) → IsReady state steps → Account s side all state → Account s side (all ++ moments state steps) (state_after_steps state steps)
account_from s side all state [] h a = rw (append-nil all) a
account_from s side all state (step ∷ more) h a =
    let m = moment_of state step in
    let after = (react state step).state in
    let here = account_next s side all state step h.lawful.sound (first_reacts state step more h) a in
    let next = account_from s side (all ++ m ∷ []) after more (IsReady-next state step more h) here in
    subst (λ l. Account s side l (state_after_steps after more)) (append_assoc all (m ∷ []) (moments after more)) next

module _ (tag : ℕ) (limits : Limits) (run : List Step) (s : ℕ) (a : AreSteps run) where
  kept : (side : Side) → Kept (kind_at s (state_after_steps (empty tag limits) run)) s side (moments (empty tag limits) run) (got s (moments (empty tag limits) run)) 0 (state_after_steps (empty tag limits) run)
  kept side = (account_from s side [] (empty tag limits) run (IsReady-empty tag limits run a) (Account-empty s side tag limits)).kept

  pub conserves : Conserves s (moments (empty tag limits) run) (state_after_steps (empty tag limits) run)
  conserves =
      let all = moments (empty tag limits) run in
      let end = state_after_steps (empty tag limits) run in
      let w = kept Writing in
      let long : length (got s all) ≡ total_of_calls (kind_at s end) (moved_at s Writing end) (writes s all) = ap length (w.items refl) ∙ length-all_handed (kind_at s end) s all (moved_at s Writing end) 0 (writes s all) in
      let count : length (got s all) ≡ received s end = omega (arith, long, w.count) in
      record {
        items = w.items refl;
        written = long;
        read = omega (arith, count, (kept Reading).count);
        asked = λ side. (kept side).within;
        told = λ side. omega (arith, (kept side).told, count);
        count = count;
        whole = whole_from s (empty tag limits) run (IsReady-empty tag limits run a);
      }

  pub stands : (side : Side) → Stands (stream_at (state_after_steps (empty tag limits) run) s).payload (waiting s side (state_after_steps (empty tag limits) run)) (calls s side (moments (empty tag limits) run))
  stands side = (kept side).stands

  -- a future passes at most one item
  pub one : (stream_at (state_after_steps (empty tag limits) run) s).kind ≡ Future → length (got s (moments (empty tag limits) run)) ≤ 1
  one k = omega (arith, conserves.count, received_one (stream_at (state_after_steps (empty tag limits) run) s) (((lawful tag limits run a).tallies s).one k))
