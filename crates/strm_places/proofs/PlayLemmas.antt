-- What a guest gives up as it ends is a play, where it owes no future's value: an end is cancelled, if it has an
-- operation, and dropped; then a set is dropped, and so is an error context. None of that is refused.
use Rattle.std.proofs.Common.{◌≡◌, ◌≢◌, ℕ, zero, suc, ◌+◌, ◌<◌, Bool, true, false, List, [], ◌∷◌, ◌++◌, length, get_or, Option, Some, None, Result, Ok, Err, refl, sym, ap, subst, ◌∙◌, inl, inr, arith, length-set}
use Rattle.std.specs.Prelude.{not, is_ok}
use Rattle.std.proofs.Math.ListN.{get_or-map}
use Rattle.std.proofs.lemmas.Bool.{cases_eq, cond_both, false_from_ne_true, lt-leb}
use Rattle.std.proofs.lemmas.List.{get_or-set_same}
use Rattle.std.proofs.lemmas.List.Elements.{All-nil, All-push}
use Rattle.strm_codes.specs.Types.{kind_of}
use Rattle.strm_codes.specs.declared.codes.TransmitIndex.{TransmitIndex}
use Rattle.strm_codes.specs.declared.codes.TransmitIndex.TheVariants as index
use Rattle.strm_codes.specs.declared.codes.TransmitKind.{TransmitKind}
use Rattle.strm_codes.specs.declared.codes.TransmitKind.TheVariants.{Stream as AStream, Future}
use Rattle.strm_codes.specs.declared.payloads.Payload.{Payload}
use Rattle.strm_codes.specs.declared.payloads.Payload.TheVariants.{Nothing}
use Rattle.strm_codes.specs.declared.refusals.Refusal.{Refusal}
use Rattle.strm_codes.specs.declared.refusals.Refusal.TheVariants as refusals
use Rattle.strm_codes.proofs.SamenessLemmas.{Decides-same_payload}
use Rattle.strm_handles.specs.Handles.{Handles, entry_at, removed}
use Rattle.strm_handles.specs.Lookups.{◌>>=◌, future_end_of, end_rep_in, end_rep_of, waitable_set_rep_in, error_context_rep_in}
use Rattle.strm_handles.specs.declared.entries.Entry.{Entry}
use Rattle.strm_handles.specs.declared.entries.Entry.TheVariants as entries
use Rattle.strm_handles.specs.declared.entries.TransmitEnd.{TransmitEnd}
use Rattle.strm_handles.specs.declared.entries.TransmitLocalState.{TransmitLocalState}
use Rattle.strm_handles.specs.declared.errors.HandleError.{HandleError}
use Rattle.strm_handles.proofs.HandleLemmas.{entry_at-removed-same, entry_at-removed-other}
use Rattle.strm_handles.proofs.LookupLemmas.{stream_end_of-entry}
use Rattle.strm_waitable_sets.specs.Sets.{Sets, is_member, handle_left, without_set}
use Rattle.strm_machine.specs.Acts.{act_of, end_named_by}
use Rattle.strm_machine.specs.Endings.{code_of_cancel, cancelled}
use Rattle.strm_machine.specs.ErrorContexts.{context_named, without_context_handle}
use Rattle.strm_machine.specs.Plays.{Played, Ends, is_settled, after_step, play}
use Rattle.strm_machine.specs.Reactions.{Reaction, goes, cancels, drops, performs, reaction, react}
use Rattle.strm_machine.specs.Refusals.{Reason, where_, first_of, handle_reasons, slot_reasons, refusal}
use Rattle.strm_machine.specs.Sides.{opposite, same_side}
use Rattle.strm_machine.specs.Soundness.{IsSound, type_with, type_of, types_of, EntryIsNamed}
use Rattle.strm_machine.specs.State.{State, Guest, no_stream, guest_in, sets_in, stream_at, with_table}
use Rattle.strm_machine.specs.Tests.{Name, named, named_by, end_named, stream_named, side_named, side_of, is_unknown_guest, is_busy, owes_value, is_cancel_under_way}
use Rattle.strm_machine.specs.WaitableSets.{set_named, number_named, has_member, without_set_named}
use Rattle.strm_machine.specs.declared.acts.Act.TheVariants.{OnEnd, OnSet, OnContext}
use Rattle.strm_machine.specs.declared.acts.ContextAct.TheVariants as context_acts
use Rattle.strm_machine.specs.declared.acts.EndAct.TheVariants.{Drop, Cancel}
use Rattle.strm_machine.specs.declared.acts.NamedEnd.{NamedEnd}
use Rattle.strm_machine.specs.declared.acts.SetAct.TheVariants as set_acts
use Rattle.strm_machine.specs.declared.replies.Reply.{Reply}
use Rattle.strm_machine.specs.declared.replies.Reply.TheVariants as replies
use Rattle.strm_machine.specs.declared.steps.Step.{Step}
use Rattle.strm_machine.specs.declared.steps.Step.TheVariants as steps
use Rattle.strm_machine.specs.declared.streams.Side.{Side}
use Rattle.strm_machine.specs.declared.streams.Side.TheVariants.{Writing, Reading}
use Rattle.strm_machine.specs.declared.streams.Stream.{Stream}
use Rattle.strm_machine.proofs.NameLemmas.{entry_named}
use Rattle.strm_machine.proofs.NamedEndLemmas.{end_there}
use Rattle.strm_machine.proofs.ReactionLemmas.{reaction-performs, refusal-on_end, performs-on_end}
use Rattle.strm_machine.proofs.SetStepLemmas.{has_member-none}
use Rattle.strm_machine.proofs.SideLemmas.{same_side-itself}
use Rattle.strm_machine.proofs.SoundLemmas.{AreNamed-at}
use Rattle.strm_machine.proofs.SoundStepLemmas.{reaction-sound}
use Rattle.strm_machine.proofs.TableLemmas.{handles-with_same}
use Rattle.strm_places.specs.Lives.{with_none_pending, end_given_up, ends_given_up, rest_given_up, all_given_up, numbers_given, handles_given_up, HasNoEnd, OwesNone, GivesUp, IsGivenUp}
use Rattle.strm_places.proofs.CalmLemmas.{AreCalm, cancelled-idle, cancel-calms, drop-calms}
use Rattle.strm_places.proofs.FoldLemmas.{ends-none, rest-none}

-- ## Plays

-- after one step a play goes on as it is shown to
module _ (told : List Reply) (next on : List Reply → State → Played) (all : List Reply) (end : State) (result : Played) where
  abbrev GoesOn : List Reply → State → Type 0
  GoesOn replies state = next replies state ≡ Ends all end → on replies state ≡ result

  after_step-on : (reply : Reply) (state : State) → GoesOn (told ++ reply ∷ []) state → after_step told reply state next ≡ Ends all end → after_step told reply state on ≡ result
  after_step-on (replies.BadItem stream) state f h = cc
  after_step-on replies.StoreTrapped state f h = cc
  after_step-on _ state f h = f h

-- a play that ends goes on from its end
play-on : (told : List Reply) (state : State) (first more : List Step) (all : List Reply) (end : State) → play told state first ≡ Ends all end → play told state (first ++ more) ≡ play all end more
play-on told state [] more all end h =
    let told_is : told ≡ all = cc in
    let state_is : state ≡ end = cc in
    ap (λ (t : List Reply). play t state more) told_is ∙ ap (λ (s : State). play all s more) state_is
play-on told state (step ∷ first) more all end h =
    let r = react state step in
    after_step-on told (λ told' state'. play told' state' first) (λ told' state'. play told' state' (first ++ more)) all end (play all end more) r.reply r.state
    (play-on (told ++ r.reply ∷ []) r.state first more all end) h

after_step-settled : (told : List Reply) (reply : Reply) (state : State) (next : List Reply → State → Played) → is_settled reply ≡ true → after_step told reply state next ≡ next (told ++ reply ∷ []) state
after_step-settled told (replies.BadItem stream) state next settled = cc
after_step-settled told replies.StoreTrapped state next settled = cc
after_step-settled told _ state next settled = refl

-- one step, which is answered
play-one : (told : List Reply) (state new : State) (step : Step) (reply : Reply) → is_settled reply ≡ true → react state step ≡ goes reply new → play told state (step ∷ []) ≡ Ends (told ++ reply ∷ []) new
play-one told state new step reply settled e =
    ap (λ (r : Reaction). after_step told r.reply r.state (λ told' state'. play told' state' [])) e
    ∙ after_step-settled told reply new (λ told' state'. play told' state' []) settled

-- a step that gives up what a handle of a guest is of, and is answered
record GivesUpOne (g : ℕ) (old new : State) : Type 0 where
  step : Step
  reply : Reply
  gives : GivesUp g step
  settled : is_settled reply ≡ true
  reacts : react old step ≡ goes reply new

given_none : (g : ℕ) (state : State) → IsGivenUp g state state
given_none g state = record { steps = []; replies = []; each = All-nil (GivesUp g); played = refl }

given_more : (g : ℕ) (first old new : State) → IsGivenUp g first old → GivesUpOne g old new → IsGivenUp g first new
given_more g first old new so one = record {
  steps = so.steps ++ one.step ∷ [];
  replies = so.replies ++ one.reply ∷ [];
  each = All-push (GivesUp g) so.steps one.step so.each one.gives;
  played =
      play-on [] first so.steps (one.step ∷ []) so.replies old so.played
      ∙ play-one so.replies old new one.step one.reply one.settled one.reacts;
}

sound_then : (g : ℕ) (old new : State) → GivesUpOne g old new → IsSound old → IsSound new
sound_then g old new one sound = subst (λ (r : Reaction). IsSound r.state) one.reacts (reaction-sound old (act_of one.step) sound)

-- ## What a number names, by the type of its stream

abbrev answer_of : TransmitEnd → Name
answer_of end = Ok (end.rep, end.state)

module _ (state : State) (g handle : ℕ) (sound : IsSound state) where
  abbrev table : Handles
  table = (guest_in state.guests g).handles

  type_at : (s : ℕ) (ty : TransmitIndex) → get_or (types_of state.streams) s (index.Stream Nothing) ≡ ty → type_of (stream_at state s) ≡ ty
  type_at s ty e = sym (get_or-map type_of state.streams s no_stream) ∙ e

  future_end_of-entry : (end : TransmitEnd) → entry_at table handle ≡ Some (entries.Future end) → future_end_of table end.ty handle ≡ Ok end
  future_end_of-entry end is = rw (is, (Decides-same_payload end.ty end.ty).1 refl) refl

  entry_typed : (o : Option Entry) (answer : ℕ × TransmitLocalState) → entry_at table handle ≡ o → EntryIsNamed (types_of state.streams) o → end_rep_in o ≡ Ok answer
      → named_by (type_of (stream_at state answer.0)) table handle ≡ Ok answer
  entry_typed None answer e h f = cc
  entry_typed (Some (entries.Stream end)) answer e h f =
      let same : type_of (stream_at state answer.0) ≡ index.Stream end.ty = ap (λ (name : Name). type_of (stream_at state (stream_named name))) (sym f) ∙ type_at end.rep (index.Stream end.ty) h.typed in
      ap (λ (ty : TransmitIndex). named_by ty table handle) same
      ∙ ap (λ (r : Result TransmitEnd HandleError). r >>= answer_of) (stream_end_of-entry table handle end e)
      ∙ f
  entry_typed (Some (entries.Future end)) answer e h f =
      let same : type_of (stream_at state answer.0) ≡ index.Future end.ty = ap (λ (name : Name). type_of (stream_at state (stream_named name))) (sym f) ∙ type_at end.rep (index.Future end.ty) h.typed in
      ap (λ (ty : TransmitIndex). named_by ty table handle) same
      ∙ ap (λ (r : Result TransmitEnd HandleError). r >>= answer_of) (future_end_of-entry end e)
      ∙ f
  entry_typed (Some (entries.ResourceOwn resource lends)) answer e h f = cc
  entry_typed (Some (entries.ResourceBorrow resource scope)) answer e h f = cc
  entry_typed (Some (entries.ErrorContext rep)) answer e h f = cc
  entry_typed (Some (entries.Subtask rep is_host)) answer e h f = cc
  entry_typed (Some (entries.WaitableSet rep)) answer e h f = cc

  -- an end is named by a look-up of its stream's type
  pub named_typed : (answer : ℕ × TransmitLocalState) → end_named state g handle ≡ Ok answer → named state (end_named_by g (type_of (stream_at state answer.0)) handle) ≡ Ok answer
  named_typed answer e =
      entry_typed (entry_at table handle) answer refl
      (entry_named (types_of state.streams) table.entries handle (AreNamed-at (types_of state.streams) state.guests g sound.named)) e

-- ## A handle less

-- what the others name stays
module _ (guests : List Guest) (g handle : ℕ) (sets : Sets) (l : g < length guests) where
  abbrev less : List Guest
  less = with_table guests g (removed (guest_in guests g).handles handle) sets

  freed_here : is_ok (end_rep_of (guest_in less g).handles handle) ≡ false
  freed_here =
      ap (λ (h : Handles). is_ok (end_rep_of h handle)) (handles-with_same guests g (removed (guest_in guests g).handles handle) sets l)
      ∙ ap (λ o. is_ok (end_rep_in o)) (entry_at-removed-same (guest_in guests g).handles handle)

  pub freed_other : (n : ℕ) → n ≢ handle → end_rep_of (guest_in less g).handles n ≡ end_rep_of (guest_in guests g).handles n
  freed_other n ne =
      ap (λ (h : Handles). end_rep_of h n) (handles-with_same guests g (removed (guest_in guests g).handles handle) sets l)
      ∙ ap end_rep_in (entry_at-removed-other (guest_in guests g).handles handle n ne)

  -- so what is named was
  freed_was : (n : ℕ) (answer : ℕ × TransmitLocalState) → end_rep_of (guest_in less g).handles n ≡ Ok answer → end_rep_of (guest_in guests g).handles n ≡ Ok answer
  freed_was n answer e =
      elim (cases_eq n handle) [
        | inl is ↦ absurd (let none : is_ok (end_rep_of (guest_in less g).handles n) ≡ false = ap (λ i. is_ok (end_rep_of (guest_in less g).handles i)) is ∙ freed_here in
            let wrong : true ≡ false = sym (ap is_ok e) ∙ none in cc)
        | inr ne ↦ sym (freed_other n ne) ∙ e
      ]

  freed_many : length less ≡ length guests
  freed_many = length-set guests g (record (guest_in guests g) { handles = removed (guest_in guests g).handles handle; sets = sets })

-- ## An end

-- a sound state among guests that is not trapped, and in which a guest is there that owes no value
pub record MayEnd (state : State) (g : ℕ) : Type 0 where
  pub sound : IsSound state
  pub calm : AreCalm state
  pub untrapped : state.trapped ≡ false
  pub there : g < length state.guests
  pub owes : OwesNone state g

-- the reasons against a cancel or a drop of an end, by what is tested
abbrev reasons_by : Bool → Name → Bool → Bool → Bool → Refusal → Refusal → List Reason
reasons_by unknown name apart first second p q =
    where_ unknown refusals.UnknownGuest ∷ ((handle_reasons name ++ (where_ apart refusals.WrongEnd ∷ where_ first p ∷ where_ second q ∷ [])) ++ [])

-- none of them holds
record NoneHolds (unknown : Bool) (name : Name) (answer : ℕ × TransmitLocalState) (apart first second : Bool) : Type 0 where
  known : unknown ≡ false
  named : name ≡ Ok answer
  same : apart ≡ false
  first_not : first ≡ false
  second_not : second ≡ false

none_holds : (unknown : Bool) (name : Name) (answer : ℕ × TransmitLocalState) (apart first second : Bool) (p q : Refusal) → NoneHolds unknown name answer apart first second → first_of (reasons_by unknown name apart first second p q) ≡ None
none_holds unknown name answer apart first second p q h = rw (h.known, h.named, h.same, h.first_not, h.second_not) refl

kind_with : (kind : TransmitKind) (payload : Payload) → kind_of (type_with kind payload) ≡ kind
kind_with AStream payload = refl
kind_with Future payload = refl

-- the steps, by the side of the end
abbrev cancel_of : Side → ℕ → TransmitIndex → ℕ → Step
cancel_of Writing g ty handle = steps.CancelWrite g ty handle
cancel_of Reading g ty handle = steps.CancelRead g ty handle

abbrev drop_of : Side → ℕ → TransmitIndex → ℕ → Step
drop_of Writing g ty handle = steps.DropWrite g ty handle
drop_of Reading g ty handle = steps.DropRead g ty handle

module _ (g : ℕ) (ty : TransmitIndex) (handle : ℕ) where
  act_of-cancel : (side : Side) → act_of (cancel_of side g ty handle) ≡ OnEnd side (end_named_by g ty handle) Cancel
  act_of-cancel Writing = refl
  act_of-cancel Reading = refl

  act_of-drop : (side : Side) → act_of (drop_of side g ty handle) ≡ OnEnd side (end_named_by g ty handle) Drop
  act_of-drop Writing = refl
  act_of-drop Reading = refl

  cancel_gives : (side : Side) → GivesUp g (cancel_of side g ty handle)
  cancel_gives Writing = refl
  cancel_gives Reading = refl

  drop_gives : (side : Side) → GivesUp g (drop_of side g ty handle)
  drop_gives Writing = refl
  drop_gives Reading = refl

module _ (state : State) (g handle : ℕ) (answer : ℕ × TransmitLocalState) (may : MayEnd state g) (is : end_named state g handle ≡ Ok answer) where
  abbrev its_side : Side
  its_side = side_of answer.1

  abbrev its_stream : Stream
  its_stream = stream_at state answer.0

  abbrev its_end : NamedEnd
  its_end = end_named_by g (type_of its_stream) handle

  named_is : named state its_end ≡ Ok answer
  named_is = named_typed state g handle may.sound answer is

  guest_known : is_unknown_guest state g ≡ false
  guest_known = lt-leb (length state.guests) g may.there

  side_same : not (same_side its_side (side_named (named state its_end))) ≡ false
  side_same = ap (λ (name : Name). not (same_side its_side (side_named name))) named_is ∙ ap not (same_side-itself its_side)

  -- what holds of its stream holds of the one that is named
  of_named : (f : Stream → Bool) → f its_stream ≡ false → f (stream_at state (stream_named (named state its_end))) ≡ false
  of_named f e = ap (λ (name : Name). f (stream_at state (stream_named name))) named_is ∙ e

  cancel_free : is_busy its_side its_stream ≡ true → refusal state (OnEnd its_side its_end Cancel) ≡ None
  cancel_free busy =
      let on = stream_at state (stream_named (named state its_end)) in
      refusal-on_end state its_side its_end Cancel
      ∙ none_holds (is_unknown_guest state g) (named state its_end) answer (not (same_side its_side (side_named (named state its_end))))
      (not (is_busy its_side on)) (is_cancel_under_way its_side on) refusals.NoPending refusals.CancelUnderWay
      (record {
        known = guest_known;
        named = named_is;
        same = side_same;
        first_not = of_named (λ stream. not (is_busy its_side stream)) (ap not busy);
        second_not = of_named (is_cancel_under_way its_side) ((may.calm answer.0).uncancelled its_side);
      })

  drop_free : is_busy its_side its_stream ≡ false → refusal state (OnEnd its_side its_end Drop) ≡ None
  drop_free idle =
      let on = stream_at state (stream_named (named state its_end)) in
      let kind = kind_of (type_of its_stream) in
      let owes : owes_value its_side kind its_stream ≡ false = ap (λ k. owes_value its_side k its_stream) (kind_with its_stream.kind its_stream.payload) ∙ may.owes handle answer is in
      refusal-on_end state its_side its_end Drop
      ∙ none_holds (is_unknown_guest state g) (named state its_end) answer (not (same_side its_side (side_named (named state its_end))))
      (is_busy its_side on) (owes_value its_side kind on) refusals.Busy refusals.FutureWithoutValue
      (record {
        known = guest_known;
        named = named_is;
        same = side_same;
        first_not = of_named (is_busy its_side) idle;
        second_not = of_named (owes_value its_side kind) owes;
      })

  -- a cancel of it, where it has an operation
  cancel_one : is_busy its_side its_stream ≡ true → GivesUpOne g state (cancels state answer.0 its_side).state
  cancel_one busy = record {
    step = cancel_of its_side g (type_of its_stream) handle;
    reply = replies.Code (code_of_cancel its_side its_stream);
    gives = cancel_gives g (type_of its_stream) handle its_side;
    settled = refl;
    reacts =
        ap (reaction state) (act_of-cancel g (type_of its_stream) handle its_side)
        ∙ reaction-performs state (OnEnd its_side its_end Cancel) may.untrapped (cancel_free busy)
        ∙ performs-on_end state its_side its_end Cancel
        ∙ ap (λ (name : Name). cancels state (stream_named name) its_side) named_is;
  }

  -- a drop, where it has none
  drop_one : is_busy its_side its_stream ≡ false → GivesUpOne g state (drops state answer.0 its_side its_end).state
  drop_one idle = record {
    step = drop_of its_side g (type_of its_stream) handle;
    reply = replies.Done;
    gives = drop_gives g (type_of its_stream) handle its_side;
    settled = refl;
    reacts =
        ap (reaction state) (act_of-drop g (type_of its_stream) handle its_side)
        ∙ reaction-performs state (OnEnd its_side its_end Drop) may.untrapped (drop_free idle)
        ∙ performs-on_end state its_side its_end Drop
        ∙ ap (λ (name : Name). drops state (stream_named name) its_side its_end) named_is;
  }

  cancelled_may : is_busy its_side its_stream ≡ true → MayEnd (cancels state answer.0 its_side).state g
  cancelled_may busy = record {
    sound = sound_then g state _ (cancel_one busy) may.sound;
    calm = λ k. (cancel-calms state answer.0 its_side k).calm (may.calm k);
    untrapped = may.untrapped;
    there = may.there;
    owes = λ n other e. (cancel-calms state answer.0 its_side other.0).owes (side_of other.1) (may.owes n other e);
  }

  cancelled_idle : is_busy its_side (stream_at (cancels state answer.0 its_side).state answer.0) ≡ false
  cancelled_idle =
      let made : answer.0 < length state.streams = subst (λ (name : Name). stream_named name < length state.streams) is (end_there state g handle may.sound (ap is_ok is)) in
      ap (is_busy its_side) (get_or-set_same state.streams answer.0 (cancelled its_side its_stream) no_stream made)
      ∙ cancelled-idle its_side its_stream ((may.calm answer.0).none (opposite its_side))

  dropped_may : is_busy its_side its_stream ≡ false → MayEnd (drops state answer.0 its_side its_end).state g
  dropped_may idle = record {
    sound = sound_then g state _ (drop_one idle) may.sound;
    calm = λ k. (drop-calms state g handle answer.0 its_side k).calm (may.calm k);
    untrapped = may.untrapped;
    there = omega (arith, may.there, freed_many state.guests g handle (handle_left (sets_in state.guests g) handle) may.there);
    owes = λ n other e.
        (drop-calms state g handle answer.0 its_side other.0).owes (side_of other.1)
        (may.owes n other (freed_was state.guests g handle (handle_left (sets_in state.guests g) handle) may.there n other e));
  }

-- after a cancel, if it had an operation, it is idle
record IsIdle (state idle : State) (g handle : ℕ) (answer : ℕ × TransmitLocalState) : Type 0 where
  may : MayEnd idle g
  is : end_named idle g handle ≡ Ok answer
  free : is_busy (side_of answer.1) (stream_at idle answer.0) ≡ false
  given : (first : State) → IsGivenUp g first state → IsGivenUp g first idle

pending_idle : (state : State) (g handle : ℕ) (answer : ℕ × TransmitLocalState) → MayEnd state g → end_named state g handle ≡ Ok answer → IsIdle state (with_none_pending state answer.0 (side_of answer.1)) g handle answer
pending_idle state g handle answer may is =
    let side = side_of answer.1 in
    cond_both (is_busy side (stream_at state answer.0)) _ _ (λ idle. IsIdle state idle g handle answer)
    (λ busy. record {
      may = cancelled_may state g handle answer may is busy;
      is = is;
      free = cancelled_idle state g handle answer may is;
      given = λ first so. given_more g first state _ so (cancel_one state g handle answer may is busy);
    })
    (λ free. record { may = may; is = is; free = free; given = λ first so. so })

-- ## All ends

-- what was given up so far is a play, and more may be
record GaveUp (first state : State) (g : ℕ) : Type 0 where
  may : MayEnd state g
  given : IsGivenUp g first state

gave_up_one : (first state : State) (g handle : ℕ) → GaveUp first state g → (name : Name) → end_named state g handle ≡ name → GaveUp first (end_given_up state g handle name) g
gave_up_one first state g handle so (Err error) e = so
gave_up_one first state g handle so (Ok answer) e =
    let idle = with_none_pending state answer.0 (side_of answer.1) in
    let i : IsIdle state idle g handle answer = pending_idle state g handle answer so.may e in
    record {
      may = dropped_may idle g handle answer i.may i.is i.free;
      given = given_more g first idle _ (i.given first so.given) (drop_one idle g handle answer i.may i.is i.free);
    }

gave_up_ends : (state : State) (g n : ℕ) → MayEnd state g → GaveUp state (ends_given_up state g n) g
unfolding ends_given_up
gave_up_ends state g zero may = record { may = may; given = given_none g state }
gave_up_ends state g (suc n) may =
    let before = ends_given_up state g n in
    gave_up_one state before g (n + 1) (gave_up_ends state g n may) (end_named before g (n + 1)) refl

-- ## Sets and error contexts

-- a sound state that is not trapped, and in which a guest is there
record IsAfter (first state : State) (g : ℕ) : Type 0 where
  sound : IsSound state
  untrapped : state.trapped ≡ false
  there : g < length state.guests
  given : IsGivenUp g first state

-- the reasons against a drop of a set or an error context, none of which holds
slot_free : (unknown : Bool) (name : Result ℕ HandleError) (number : ℕ) (more : List Reason) → unknown ≡ false → name ≡ Ok number → first_of more ≡ None → first_of (where_ unknown refusals.UnknownGuest ∷ (slot_reasons name ++ more)) ≡ None
slot_free unknown name number more u n m = rw (u, n) m

-- a guest without ends has no set with members
memberless : (state : State) (g number : ℕ) → IsSound state → HasNoEnd state g → has_member state g number ≡ false
memberless state g number sound none =
    has_member-none state g number
    (λ handle. false_from_ne_true (is_member (sets_in state.guests g) number handle)
    (λ member. let wrong : true ≡ false = sym ((sound.sets g).members handle number member) ∙ none handle in cc))

set_free : (state : State) (g handle number : ℕ) → g < length state.guests → IsSound state → HasNoEnd state g → set_named state g handle ≡ Ok number → refusal state (OnSet g handle set_acts.Drop) ≡ None
unfolding refusal
set_free state g handle number there sound none e =
    let full = has_member state g (number_named (set_named state g handle)) in
    let empty : full ≡ false = memberless state g (number_named (set_named state g handle)) sound none in
    slot_free (is_unknown_guest state g) (set_named state g handle) number (where_ full refusals.SetNotEmpty ∷ []) (lt-leb (length state.guests) g there) e
    (ap (λ b. first_of (where_ b refusals.SetNotEmpty ∷ [])) empty)

context_free : (state : State) (g handle number : ℕ) → g < length state.guests → context_named state g handle ≡ Ok number → refusal state (OnContext g handle context_acts.Drop) ≡ None
unfolding refusal
context_free state g handle number there e =
    slot_free (is_unknown_guest state g) (context_named state g handle) number [] (lt-leb (length state.guests) g there) e refl

set_performs : (state : State) (g handle : ℕ) → performs state (OnSet g handle set_acts.Drop) ≡ goes replies.Done (without_set_named state g handle)
unfolding performs
set_performs state g handle = refl

context_performs : (state : State) (g handle : ℕ) → performs state (OnContext g handle context_acts.Drop) ≡ goes replies.Done (without_context_handle state g handle)
unfolding performs
context_performs state g handle = refl

module _ (first state : State) (g handle : ℕ) (so : IsAfter first state g) (none : HasNoEnd state g) where
  set_one : (number : ℕ) → set_named state g handle ≡ Ok number → GivesUpOne g state (without_set_named state g handle)
  set_one number e = record {
    step = steps.SetDrop g handle;
    reply = replies.Done;
    gives = refl;
    settled = refl;
    reacts = reaction-performs state (OnSet g handle set_acts.Drop) so.untrapped (set_free state g handle number so.there so.sound none e) ∙ set_performs state g handle;
  }

  context_one : (number : ℕ) → context_named state g handle ≡ Ok number → GivesUpOne g state (without_context_handle state g handle)
  context_one number e = record {
    step = steps.ErrDrop g handle;
    reply = replies.Done;
    gives = refl;
    settled = refl;
    reacts = reaction-performs state (OnContext g handle context_acts.Drop) so.untrapped (context_free state g handle number so.there e) ∙ context_performs state g handle;
  }

  rest_one : (o : Option Entry) → entry_at (guest_in state.guests g).handles handle ≡ o → IsAfter first (rest_given_up state g handle o) g
  rest_one None e = so
  rest_one (Some (entries.WaitableSet rep)) e =
      let one = set_one rep (ap waitable_set_rep_in e) in
      record {
        sound = sound_then g state _ one so.sound;
        untrapped = so.untrapped;
        there = omega (arith, so.there, freed_many state.guests g handle (without_set (sets_in state.guests g) (number_named (set_named state g handle))) so.there);
        given = given_more g first state _ so.given one;
      }
  rest_one (Some (entries.ErrorContext rep)) e =
      let one = context_one rep (ap error_context_rep_in e) in
      record {
        sound = sound_then g state _ one so.sound;
        untrapped = so.untrapped;
        there = omega (arith, so.there, freed_many state.guests g handle (sets_in state.guests g) so.there);
        given = given_more g first state _ so.given one;
      }
  rest_one (Some (entries.Stream end)) e = so
  rest_one (Some (entries.Future end)) e = so
  rest_one (Some (entries.ResourceOwn resource lends)) e = so
  rest_one (Some (entries.ResourceBorrow resource scope)) e = so
  rest_one (Some (entries.Subtask rep is_host)) e = so

gave_up_rest : (first state : State) (g n : ℕ) → IsAfter first state g → HasNoEnd state g → IsAfter first (all_given_up state g n) g
unfolding all_given_up
gave_up_rest first state g zero so none = so
gave_up_rest first state g (suc n) so none =
    let before = all_given_up state g n in
    rest_one first before g (n + 1) (gave_up_rest first state g n so none) (rest-none state g n so.there none) (entry_at (guest_in before.guests g).handles (n + 1)) refl

-- ## All of it

pub ends_are_played : (state : State) (g : ℕ) → MayEnd state g → IsGivenUp g state (handles_given_up state g)
ends_are_played state g may =
    let count = numbers_given state g in
    let before = ends_given_up state g count in
    let ends : GaveUp state before g = gave_up_ends state g count may in
    let after : IsAfter state before g = record { sound = ends.may.sound; untrapped = ends.may.untrapped; there = ends.may.there; given = ends.given } in
    (gave_up_rest state before g count after (ends-none state g count may.there refl)).given
