-- The account of each stream's ends since it was made, over every run in which numbers are given again.
use Rattle.std.proofs.Common.{◌≡◌, ℕ, ◌+◌, ◌*◌, ◌^◌, ◌<◌, ◌≤◌, Bool, true, false, List, [], ◌∷◌, ◌++◌, length, None, refl, sym, ap, ◌∙◌, subst, arith}
use Rattle.std.specs.Prelude.{All, IsSome, if◌then◌else◌}
use Rattle.std.proofs.lemmas.Bool.{le-ltb}
use Rattle.std.proofs.lemmas.List.{append-nil}
use Rattle.std.proofs.lemmas.List.Elements.{All-nil, All-append, All-head, All-tail}
use Rattle.strm_machine.specs.Words.{State, Future, act_of, empty, stream_at, end_of, Moment, received, got_in}
use Rattle.strm_machine.specs.declared.streams.Side.{Side}
use Rattle.strm_machine.specs.declared.streams.Side.TheVariants.{Writing, Reading}
use Rattle.strm_machine.specs.Moments.{moved_of}
use Rattle.strm_machine.specs.Soundness.{AreUnmoved}
use Rattle.strm_machine.specs.declared.limits.Limits.{Limits}
use Rattle.strm_machine.specs.Untouched.{LieThere, StaysAside}
use Rattle.strm_machine.proofs.EmptyLemmas.{StateIsHeld-empty}
use Rattle.strm_machine.proofs.HeldLemmas.{StateIsHeld}
use Rattle.strm_machine.proofs.Lawful.{IsLawful}
use Rattle.strm_machine.proofs.TallyLemmas.{received_one}
use Rattle.strm_laws.specs.Conservation.{calls, writes, got, all_handed}
use Rattle.strm_laws.specs.Laws.{total_of_calls, waiting, moved_at, Conserves, Stands, AreCounted}
use Rattle.strm_laws.proofs.Calls.{got-push}
use Rattle.strm_laws.proofs.Handed.{length-all_handed}
use Rattle.strm_laws.proofs.Kept.{kind_at, payload_at, Kept, from_none}
use Rattle.strm_laws.proofs.KeptChanges.{keeps}
use Rattle.strm_laws.proofs.LawfulRuns.{IsLawful-empty, stream_counted}
use Rattle.strm_places.proofs.AgainLemmas.{reaction_at-held}
use Rattle.strm_place_laws.specs.Runs.{Choice, takes, moment_at, moments_at, state_after_choices, AreFree}
use Rattle.strm_place_laws.specs.Lives.{is_made_in, life_behind, life, run_of, end_of_run, ChoiceHasBytes, CanBeRun}
use Rattle.strm_place_laws.specs.Shares.{HasNoHost}
use Rattle.strm_place_laws.proofs.AmongGuests.{IsAmong, IsAmong-empty, goes_among}
use Rattle.strm_place_laws.proofs.LifeSteps.{IsFresh, GoesLawfully, goes_lawfully, goes_aside, goes_there}

-- ## The account of a stream

-- of both its ends, and that what was received are items
pub record Account (s : ℕ) (lived : List Moment) (state : State) : Type 0 where
  pub kept : (side : Side) → Kept (kind_at s state) s side lived (got s lived) 0 state
  pub whole : All IsSome (got s lived)

-- of one that is fresh nothing is to be accounted for
fresh_account : (s : ℕ) (state : State) → IsFresh s state → Account s [] state
unfolding all_handed
fresh_account s state f = record {
  kept = λ side. record {
    stands = from_none (payload_at s state) (waiting s side state) [] (f.idle side) tt;
    items = λ e. refl;
    alone = λ e. refl;
    count = f.count;
    within = All-nil _;
    told = ap (λ o. 0 + moved_of o + 0) (f.idle side) ∙ sym f.count;
    reached = λ k. rw f.count (sym (le-ltb k 0 (omega arith)));
  };
  whole = All-nil IsSome;
}

-- a stream that no number has yet is as fresh
fresh_empty : (s : ℕ) (tag : ℕ) (limits : Limits) → IsFresh s (empty tag limits)
fresh_empty s tag limits = record { count = refl; idle = none }
  where
    none : (side : Side) → (end_of side (stream_at (empty tag limits) s)).operation ≡ None
    none Writing = refl
    none Reading = refl

module _ (s : ℕ) (lived : List Moment) (state : State) (choice : Choice) (a : Account s lived state) (g : GoesLawfully state (act_of choice.step) (takes state choice)) where
  abbrev m : Moment
  m = moment_at state choice

  abbrev after : State
  after = (takes state choice).state

  goes_on : is_made_in s m ≡ false → Account s (lived ++ m ∷ []) after
  goes_on u = record {
    kept = λ side.
        let next : Kept (kind_at s state) s side (lived ++ m ∷ []) (got s lived ++ got_in s m) 0 after = keeps s side lived m (got s lived) 0 (got_in s m) (a.kept side) (g.change s side u) in
        subst (λ kind. Kept kind s side (lived ++ m ∷ []) (got s (lived ++ m ∷ [])) 0 after) (sym (g.kind s u))
        (subst (λ l. Kept (kind_at s state) s side (lived ++ m ∷ []) l 0 after) (sym (got-push s lived m)) next);
    whole = subst (All IsSome) (sym (got-push s lived m)) (All-append IsSome (got s lived) (got_in s m) a.whole (g.whole s u));
  }

  account_next : Account s (if is_made_in s m then [] else lived ++ m ∷ []) after
  account_next = by (is_made_in s m) refl
    where
      by : (b : Bool) → is_made_in s m ≡ b → Account s (if b then [] else lived ++ m ∷ []) after
      by true e = fresh_account s after (g.fresh s e)
      by false e = goes_on e

-- ## Runs

-- these choices can be made from this state: it is lawful, its handles and ends agree, no host end has one, the
-- places are free, and its counts have room for their items
pub record IsReady (state : State) (choices : List Choice) : Type 0 where
  pub lawful : IsLawful state
  pub held : StateIsHeld state
  pub among : IsAmong state
  pub free : AreFree state choices
  pub bytes : All ChoiceHasBytes choices
  pub room : (s : ℕ) → received s state + 2 ^ 28 * length choices < 2 ^ 128

module _ (state : State) (choice : Choice) (more : List Choice) (h : IsReady state (choice ∷ more)) where
  pub first_goes : GoesLawfully state (act_of choice.step) (takes state choice)
  first_goes = goes_lawfully choice.place state (act_of choice.step) h.lawful h.held h.free.0 (All-head ChoiceHasBytes choice more h.bytes) (λ s. omega (arith, h.room s))

  pub IsReady-next : IsReady (takes state choice).state more
  IsReady-next = record {
    lawful = first_goes.lawful;
    held = reaction_at-held choice.place state (act_of choice.step) h.free.0 h.lawful.sound h.held;
    among = goes_among choice.place state (act_of choice.step) h.lawful h.held h.free.0 h.among;
    free = h.free.1;
    bytes = All-tail ChoiceHasBytes choice more h.bytes;
    room = λ s. omega (arith, h.room s, first_goes.most s);
  }

account_from : (s : ℕ) (lived : List Moment) (state : State) (choices : List Choice) → IsReady state choices → Account s lived state → Account s (life_behind s lived (moments_at state choices)) (state_after_choices state choices)
account_from s lived state [] h a = a
account_from s lived state (choice ∷ more) h a =
    account_from s (if is_made_in s (moment_at state choice) then [] else lived ++ moment_at state choice ∷ []) (takes state choice).state more (IsReady-next state choice more h) (account_next s lived state choice a (first_goes state choice more h))

ready_after : (state : State) (choices more : List Choice) → IsReady state (choices ++ more) → IsReady (state_after_choices state choices) more
ready_after state [] more h = h
ready_after state (choice ∷ choices) more h = ready_after (takes state choice).state choices more (IsReady-next state choice (choices ++ more) h)

pub IsReady-empty : (tag : ℕ) (limits : Limits) (choices : List Choice) → CanBeRun tag limits choices → IsReady (empty tag limits) choices
IsReady-empty tag limits choices c = record {
  lawful = IsLawful-empty tag limits;
  held = StateIsHeld-empty tag limits;
  among = IsAmong-empty tag limits;
  free = c.free;
  bytes = c.bytes;
  room = λ s. omega (arith, c.few);
}

-- ## The laws

module _ (tag : ℕ) (limits : Limits) (choices : List Choice) (c : CanBeRun tag limits choices) where
  abbrev end : State
  end = end_of_run tag limits choices

  -- where the run ends nothing is left to do
  done : IsReady end []
  done = ready_after (empty tag limits) choices [] (subst (IsReady (empty tag limits)) (sym (append-nil choices)) (IsReady-empty tag limits choices c))

  pub lawful_end : IsLawful end
  lawful_end = done.lawful

  pub held_end : StateIsHeld end
  held_end = done.held

  pub unhosted_end : HasNoHost end
  unhosted_end = done.among.none

  module _ (s : ℕ) where
    abbrev lived : List Moment
    lived = life s (run_of tag limits choices)

    account : Account s lived end
    account = account_from s [] (empty tag limits) choices (IsReady-empty tag limits choices c) (fresh_account s (empty tag limits) (fresh_empty s tag limits))

    pub conserves : Conserves s lived end
    conserves =
        let w = account.kept Writing in
        let long : length (got s lived) ≡ total_of_calls (kind_at s end) (moved_at s Writing end) (writes s lived) = ap length (w.items refl) ∙ length-all_handed (kind_at s end) s lived (moved_at s Writing end) 0 (writes s lived) in
        let count : length (got s lived) ≡ received s end = omega (arith, long, w.count) in
        record {
          items = w.items refl;
          written = long;
          read = omega (arith, count, (account.kept Reading).count);
          asked = λ side. (account.kept side).within;
          told = λ side. omega (arith, (account.kept side).told, count);
          count = count;
          whole = account.whole;
        }

    pub stands : (side : Side) → Stands (stream_at end s).payload (waiting s side end) (calls s side lived)
    stands side = (account.kept side).stands

    pub one : (stream_at end s).kind ≡ Future → length (got s lived) ≤ 1
    one k = omega (arith, conserves.count, received_one (stream_at end s) ((lawful_end.tallies s).one k))

    pub unmoved : AreUnmoved (stream_at end s)
    unmoved = let tallies = lawful_end.tallies s in (tallies.writing, tallies.reading)

    pub counted : AreCounted (stream_at end s)
    counted = stream_counted end s lawful_end.sound

-- one step more of a run
module _ (tag : ℕ) (limits : Limits) (choices : List Choice) (choice : Choice) (c : CanBeRun tag limits (choices ++ choice ∷ [])) where
  abbrev before : State
  before = end_of_run tag limits choices

  ready : IsReady before (choice ∷ [])
  ready = ready_after (empty tag limits) choices (choice ∷ []) (IsReady-empty tag limits (choices ++ choice ∷ []) c)

  pub there : LieThere (moment_at before choice)
  there = goes_there choice.place before (act_of choice.step) ready.lawful ready.held ready.free.0

  pub aside : StaysAside (moment_at before choice)
  aside = goes_aside choice.place before (act_of choice.step) ready.lawful ready.held ready.free.0 (λ s. omega (arith, ready.room s))
