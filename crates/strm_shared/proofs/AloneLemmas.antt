-- A store without host ends, by what its calls say.
use Rattle.std.proofs.Common.{◌≡◌, ◌≢◌, ℕ, false, List, Option, Some, None, refl, sym, ap, ◌∙◌, subst}
use Rattle.std.specs.Prelude.{MatchOption}
use Rattle.strm_codes.specs.declared.codes.ReturnCode.{ReturnCode}
use Rattle.strm_codes.specs.declared.refusals.Refusal.{Refusal}
use Rattle.strm_machine.specs.State.{State}
use Rattle.strm_machine.specs.Sides.{opposite}
use Rattle.strm_machine.specs.Tests.{named, stream_named}
use Rattle.strm_machine.specs.Reactions.{Reaction, goes}
use Rattle.strm_machine.specs.declared.acts.Act.{Act}
use Rattle.strm_machine.specs.declared.acts.Act.TheVariants.{OnEnd, OnLoose, OnHost, Drive}
use Rattle.strm_machine.specs.declared.acts.EndAct.TheVariants.{Operate, Drop, Lift}
use Rattle.strm_machine.specs.declared.replies.Reply.TheVariants as replies
use Rattle.strm_machine.specs.declared.steps.Step.{Step}
use Rattle.strm_host_machine.specs.Steps.{touches}
use Rattle.std.specs.Prelude.{Err}
use Rattle.strm_machine.specs.declared.streams.HostEnd.{HostEnd}
use Rattle.strm_transmit.specs.Hosted.{lone}
use Rattle.strm_transmit.specs.Meets.{Meets}
use Rattle.strm_transmit.specs.declared.errors.StoreError.{StoreError}
use Rattle.strm_transmit.specs.declared.errors.StoreError.TheVariants as errors
use Rattle.strm_shared.specs.declared.entry.Place.{Place}
use Rattle.strm_shared.specs.declared.entry.Wait.{Wait}
use Rattle.strm_shared.specs.Places.{is_host_act, place_named as names}
use Rattle.strm_machine.specs.Moments.{is_blocked}
use Rattle.strm_shared.specs.Reaching.{IsStateReached}
use Rattle.strm_shared.specs.Waits.{wait, Each, Has, IsClear}
use Rattle.strm_shared.proofs.ReachedLemmas.{reached-alone, Looks, Trapped, Told, Untold}
use Rattle.strm_shared.proofs.WaitLemmas.{each_map}

-- no step that names no host end touches one
pub untouched : (state : State) (act : Act) → IsStateReached state → is_host_act act ≡ false → touches (lone state) act ≡ false
untouched state (OnEnd side end (Operate address count)) h e = reached-alone state (stream_named (named state end)) (opposite side) h
untouched state (OnEnd side end Drop) h e = reached-alone state (stream_named (named state end)) (opposite side) h
untouched state (OnEnd side end Lift) h e = cc
untouched state (OnLoose reader act) h e = cc
untouched state (OnHost host act) h e = cc
untouched state Drive h e = cc
untouched state _ h e = refl

-- what an event of one that waits doesn't answer
pub looks_refused : (state new : State) (r : Reaction) (q : Refusal) → Looks state r → r ≡ goes (replies.Refused q) new → ⊥
looks_refused state new r q (Trapped e) f = let g = ap (λ (x : Reaction). x.reply) f in cc
looks_refused state new r q (Told code e u) f = let g = ap (λ (x : Reaction). x.reply) f in cc
looks_refused state new r q (Untold e s) f = let g = ap (λ (x : Reaction). x.reply) f in cc

pub looks_bad : (state new : State) (r : Reaction) (stream : ℕ) → Looks state r → r ≡ goes (replies.BadItem stream) new → ⊥
looks_bad state new r stream (Trapped e) f = let g = ap (λ (x : Reaction). x.reply) f in cc
looks_bad state new r stream (Told code e u) f = let g = ap (λ (x : Reaction). x.reply) f in cc
looks_bad state new r stream (Untold e s) f = let g = ap (λ (x : Reaction). x.reply) f in cc

-- where there is no report nothing has changed
pub looks_same : (state new : State) (r : Reaction) → Looks state r → r ≡ goes (replies.Event None) new → new ≡ state
looks_same state new r (Trapped e) f = let g = ap (λ (x : Reaction). x.reply) f in cc
looks_same state new r (Told code e u) f = let g = ap (λ (x : Reaction). x.reply) f in cc
looks_same state new r (Untold e s) f = sym (ap (λ (x : Reaction). x.state) f) ∙ s

some_same : (p q : Place) (o : Option Place) → o ≡ Some p → o ≡ Some q → p ≡ q
some_same p q o e f = cc

-- the seat that waits for the handle that a step names
pub waiter_says : (st : Step) (p : Place) (ws : List Wait) (o : Option ℕ) → names st ≡ Some p → MatchOption o (Each (λ w. p ≢ w.place) ws) (λ seat. Has (wait seat p) ws)
    → MatchOption o (IsClear st ws) (λ seat. (x : Place) × (names st ≡ Some x) × Has (wait seat x) ws)
waiter_says st p ws None e m = each_map (λ w. p ≢ w.place) (λ w. names st ≢ Some w.place) ws (λ w ne f. ne (some_same p w.place (names st) e f)) m
waiter_says st p ws (Some seat) e m = (p, e, m)

event_code : (c d : ReturnCode) → replies.Event (Some c) ≡ replies.Event (Some d) → c ≡ d
event_code c d e = cc

-- a report is not Blocked
pub looks_told : (state new : State) (r : Reaction) (code : ReturnCode) → Looks state r → r ≡ goes (replies.Event (Some code)) new → is_blocked (replies.Code code) ≡ false
looks_told state new r code (Trapped e) f = let g = ap (λ (x : Reaction). x.reply) f in cc
looks_told state new r code (Told c e u) f =
    ap (λ x. is_blocked (replies.Code x)) (sym (event_code c code (sym e ∙ ap (λ (x : Reaction). x.reply) f))) ∙ u
looks_told state new r code (Untold e s) f = let g = ap (λ (x : Reaction). x.reply) f in cc

-- ## What an error of a call says, by which it is

meets_at : (old new : State) (e f : StoreError) (r : Reaction) → e ≡ f → Meets old new (Err e) r → Meets old new (Err f) r
meets_at old new e f r is m = subst (λ x. Meets old new (Err x) r) is m

pub meets_bad : (old new : State) (e : StoreError) (s : ℕ) (r : Reaction) → e ≡ errors.BadItem s → Meets old new (Err e) r → r ≡ goes (replies.BadItem s) new
meets_bad old new e s r is m = (meets_at old new e (errors.BadItem s) r is m).0

pub meets_trapped : (old new : State) (e : StoreError) (r : Reaction) → e ≡ errors.StoreTrapped → Meets old new (Err e) r → r ≡ goes replies.StoreTrapped new
meets_trapped old new e r is m = (meets_at old new e errors.StoreTrapped r is m).0

pub meets_out_of_memory : (old new : State) (e : StoreError) (r : Reaction) → e ≡ errors.OutOfMemory → Meets old new (Err e) r → new ≡ old
meets_out_of_memory old new e r is m = (meets_at old new e errors.OutOfMemory r is m).1

pub meets_refused : (old new : State) (e : StoreError) (q : Refusal) (r : Reaction) → e ≡ errors.Refused q → Meets old new (Err e) r → r ≡ goes (replies.Refused q) new
meets_refused old new e q r is m = (meets_at old new e (errors.Refused q) r is m).0

pub meets_failed : (old new : State) (e : StoreError) (end : HostEnd) (r : Reaction) → e ≡ errors.HostFailed end → Meets old new (Err e) r → ⊥
meets_failed old new e end r is m = meets_at old new e (errors.HostFailed end) r is m

pub meets_broke : (old new : State) (e : StoreError) (end : HostEnd) (r : Reaction) → e ≡ errors.HostBroke end → Meets old new (Err e) r → ⊥
meets_broke old new e end r is m = meets_at old new e (errors.HostBroke end) r is m

pub meets_event : (new : State) (o p : Option ReturnCode) (r : Reaction) → o ≡ p → r ≡ goes (replies.Event o) new → r ≡ goes (replies.Event p) new
meets_event new o p r is m = subst (λ x. r ≡ goes (replies.Event x) new) is m
