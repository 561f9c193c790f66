-- Runs computed by what sets answer, and whether bytes are a text: what a map holds and what UTF-8 is do
-- not compute, so each answer is given beside its step, and proved.
use Rattle.std.proofs.Common.{◌≡◌, ℕ, Bool, cond, List, [], ◌∷◌, Option, Some, None, refl, ap, ◌∙◌}
use Rattle.std.specs.Prelude.{◌||◌, ◌++◌, map, not}
use Rattle.std.specs.Str.{is_utf8}
use Rattle.strm_codes.specs.declared.refusals.Refusal.{Refusal}
use Rattle.strm_codes.specs.declared.refusals.Refusal.TheVariants as refusals
use Rattle.strm_machine.specs.Words.{act_of, State, Reaction, goes, Moment, first_of, next_in, without_handle, named}
use Rattle.strm_machine.specs.Tests.{is_unknown_guest, is_no_handle, are_bytes_out_of_bounds, are_places_full}
use Rattle.strm_machine.specs.WaitableSets.{set_named, number_named, is_in_set, has_member, ready_in}
use Rattle.strm_machine.specs.ErrorContexts.{is_message_too_long, message_in}
use Rattle.strm_machine.specs.Refusals.{Reason, where_, slot_reasons, handle_more_reasons, handle_reasons, front_reasons, leave_reasons, own_reasons, last_reasons, reasons, refusal}
use Rattle.strm_machine.specs.Reactions.{polls, performs, unless_refused, reaction}
use Rattle.strm_machine.specs.declared.acts.Making.TheVariants.{Context}
use Rattle.strm_machine.specs.declared.acts.EndAct.{EndAct}
use Rattle.strm_machine.specs.declared.acts.EndAct.TheVariants.{Lift}
use Rattle.strm_machine.specs.declared.acts.SetAct.TheVariants as set_acts
use Rattle.strm_machine.specs.declared.acts.NamedEnd.{NamedEnd}
use Rattle.strm_machine.specs.declared.acts.Act.{Act}
use Rattle.strm_machine.specs.declared.acts.Act.TheVariants.{Make, OnEnd, Transfer, OnSet}
use Rattle.strm_machine.specs.declared.streams.Side.{Side}
use Rattle.strm_machine.specs.declared.steps.Step.{Step}
use Rattle.strm_machine.specs.declared.replies.Reply.TheVariants as replies
use Rattle.strm_laws.specs.Conservation.{moments, state_after_steps}

-- whether the end that is to leave its guest is in a set, whether a set that is to go has a member, which
-- member of a set is ready, and whether what is to be a message is a text
pub record Answer : Type 0 where
  pub in_set : Bool
  pub has_member : Bool
  pub ready : Option ℕ
  pub text : Bool

-- what an act asks of the sets and bytes of a state, if it asks anything
pub data Question : Type 0 where
  InSet : ℕ → ℕ → Question
  HasMember : ℕ → ℕ → Question
  Ready : ℕ → ℕ → Question
  IsText : ℕ → ℕ → ℕ → Question
  AsksNothing : Question

abbrev pub question_of : Act → Question
question_of (OnEnd side end Lift) = InSet end.guest end.handle
question_of (Transfer end to) = InSet end.guest end.handle
question_of (OnSet g set set_acts.Drop) = HasMember g set
question_of (OnSet g set set_acts.Poll) = Ready g set
question_of (Make (Context g address len)) = IsText g address len
question_of act = AsksNothing

-- they answer it so
abbrev pub Answers : State → Question → Answer → Type 0
Answers state (InSet g handle) a = is_in_set state g handle ≡ a.in_set
Answers state (HasMember g set) a = has_member state g (number_named (set_named state g set)) ≡ a.has_member
Answers state (Ready g set) a = ready_in state g set ≡ a.ready
Answers state (IsText g address len) a = is_utf8 (message_in state g address len) ≡ a.text
Answers state AsksNothing a = Unit {0}

abbrev pub Gives : State → Act → Answer → Type 0
Gives state act a = Answers state (question_of act) a

-- they do, where they are asked; and then this
abbrev pub AnswersThen : State → Question → Answer → Type 0 → Type 0
AnswersThen state AsksNothing a more = more
AnswersThen state question a more = Answers state question a × more

answers_then : (state : State) (question : Question) (a : Answer) (more : Type 0) → AnswersThen state question a more → Answers state question a × more
answers_then state AsksNothing a more h = (tt, h)
answers_then state _ a more h = h

-- ## A step by its answer

abbrev pub last_by : Answer → State → NamedEnd → EndAct → List Reason
last_by a state end Lift = where_ a.in_set refusals.LiftInSet ∷ []
last_by a state end act = last_reasons state end act

abbrev pub given_by : Answer → State → NamedEnd → ℕ → List Reason
given_by a state end to =
    where_ a.in_set refusals.LiftInSet
    ∷ where_ (is_no_handle (next_in (without_handle state end.guest end.handle) to)) refusals.IndexOverflow
    ∷ []

abbrev pub reasons_by : Answer → State → Act → List Reason
reasons_by a state (OnEnd side end act) =
    front_reasons state end act
    ++ ((handle_reasons (named state end) ++ own_reasons state side end act)
    ++ last_by a state end act)
reasons_by a state (Transfer end to) =
    where_ (is_unknown_guest state end.guest || is_unknown_guest state to) refusals.UnknownGuest
    ∷ ((handle_reasons (named state end) ++ leave_reasons state end) ++ given_by a state end to)
reasons_by a state (OnSet g set set_acts.Drop) =
    where_ (is_unknown_guest state g) refusals.UnknownGuest
    ∷ (slot_reasons (set_named state g set) ++ where_ a.has_member refusals.SetNotEmpty ∷ [])
reasons_by a state (Make (Context g address len)) =
    where_ (is_unknown_guest state g) refusals.UnknownGuest
    ∷ where_ (is_message_too_long len) refusals.MessageTooLong
    ∷ where_ (are_bytes_out_of_bounds state g address len) refusals.OutOfBounds
    ∷ where_ (not a.text) refusals.BadText
    ∷ (handle_more_reasons state g ++ where_ (are_places_full state 1) refusals.Full ∷ [])
reasons_by a state act = reasons state act

abbrev pub performs_by : Answer → State → Act → Reaction
performs_by a state (OnSet g set set_acts.Poll) = polls state g a.ready
performs_by a state act = performs state act

abbrev pub unless_by : Answer → State → Act → Option Refusal → Reaction
unless_by a state act (Some r) = goes (replies.Refused r) state
unless_by a state act None = performs_by a state act

abbrev pub reaction_by : Answer → State → Act → Reaction
reaction_by a state act =
    cond state.trapped (goes replies.StoreTrapped state) (unless_by a state act (first_of (reasons_by a state act)))

state_after_steps-by : (state : State) (side : Side) (end : NamedEnd) (act : EndAct) (a : Answer) → Gives state (OnEnd side end act) a → last_reasons state end act ≡ last_by a state end act
state_after_steps-by state side end Lift a e = ap (λ b. where_ b refusals.LiftInSet ∷ []) e
state_after_steps-by state side end _ a e = refl

reasons-by : (state : State) (act : Act) (a : Answer) → Gives state act a → reasons state act ≡ reasons_by a state act
reasons-by state (OnEnd side end act) a e =
    ap (λ more. front_reasons state end act ++ ((handle_reasons (named state end) ++ own_reasons state side end act) ++ more)) (state_after_steps-by state side end act a e)
reasons-by state (Transfer end to) a e =
    ap (λ b. where_ (is_unknown_guest state end.guest || is_unknown_guest state to) refusals.UnknownGuest
    ∷ ((handle_reasons (named state end) ++ leave_reasons state end)
    ++ where_ b refusals.LiftInSet ∷ where_ (is_no_handle (next_in (without_handle state end.guest end.handle) to)) refusals.IndexOverflow ∷ [])) e
reasons-by state (OnSet g set set_acts.Drop) a e =
    ap (λ b. where_ (is_unknown_guest state g) refusals.UnknownGuest ∷ (slot_reasons (set_named state g set) ++ where_ b refusals.SetNotEmpty ∷ [])) e
reasons-by state (Make (Context g address len)) a e =
    ap (λ b. where_ (is_unknown_guest state g) refusals.UnknownGuest
    ∷ where_ (is_message_too_long len) refusals.MessageTooLong
    ∷ where_ (are_bytes_out_of_bounds state g address len) refusals.OutOfBounds
    ∷ where_ (not b) refusals.BadText
    ∷ (handle_more_reasons state g ++ where_ (are_places_full state 1) refusals.Full ∷ [])) e
reasons-by state _ a e = refl

performs-by : (state : State) (act : Act) (a : Answer) → Gives state act a → performs state act ≡ performs_by a state act
unfolding performs
performs-by state (OnSet g set set_acts.Poll) a e = ap (polls state g) e
performs-by state _ a e = refl

unless-by : (state : State) (act : Act) (a : Answer) (o : Option Refusal) → performs state act ≡ performs_by a state act → unless_refused state act o ≡ unless_by a state act o
unless-by state act a None e = e
unless-by state act a (Some r) e = refl

pub reaction-by : (state : State) (act : Act) (a : Answer) → Gives state act a → reaction state act ≡ reaction_by a state act
unfolding reaction refusal
reaction-by state act a e =
    ap (cond state.trapped (goes replies.StoreTrapped state))
    (unless-by state act a (first_of (reasons state act)) (performs-by state act a e)
    ∙ ap (λ rs. unless_by a state act (first_of rs)) (reasons-by state act a e))

-- ## A run

-- a step and what sets answer to it
pub record Answered : Type 0 where
  pub step : Step
  pub answer : Answer

abbrev pub moments_by : State → List Answered → List Moment
moments_by state [] = []
moments_by state (x ∷ more) =
    let r = reaction_by x.answer state (act_of x.step) in
    record { act = act_of x.step; before = state; reply = r.reply; after = r.state } ∷ moments_by r.state more

abbrev pub last_state : State → List Answered → State
last_state state [] = state
last_state state (x ∷ more) = last_state (reaction_by x.answer state (act_of x.step)).state more

abbrev pub AllGive : State → List Answered → Type 0
AllGive state [] = Unit {0}
AllGive state (x ∷ more) =
    AnswersThen state (question_of (act_of x.step)) x.answer (AllGive (reaction_by x.answer state (act_of x.step)).state more)

abbrev pub steps_of : List Answered → List Step
steps_of run = map (λ x. x.step) run

pub moments-by : (state : State) (run : List Answered) → AllGive state run → moments state (steps_of run) ≡ moments_by state run
moments-by state [] all = refl
moments-by state (x ∷ more) all =
    let both = answers_then state (question_of (act_of x.step)) x.answer (AllGive (reaction_by x.answer state (act_of x.step)).state more) all in
    ap (λ (r : Reaction). record { act = act_of x.step; before = state; reply = r.reply; after = r.state } ∷ moments r.state (steps_of more)) (reaction-by state (act_of x.step) x.answer both.0)
    ∙ ap (λ ms. record { act = act_of x.step; before = state; reply = (reaction_by x.answer state (act_of x.step)).reply; after = (reaction_by x.answer state (act_of x.step)).state } ∷ ms) (moments-by (reaction_by x.answer state (act_of x.step)).state more both.1)

pub state_after_steps-state : (state : State) (run : List Answered) → AllGive state run → state_after_steps state (steps_of run) ≡ last_state state run
state_after_steps-state state [] all = refl
state_after_steps-state state (x ∷ more) all =
    let both = answers_then state (question_of (act_of x.step)) x.answer (AllGive (reaction_by x.answer state (act_of x.step)).state more) all in
    ap (λ (r : Reaction). state_after_steps r.state (steps_of more)) (reaction-by state (act_of x.step) x.answer both.0)
    ∙ state_after_steps-state (reaction_by x.answer state (act_of x.step)).state more both.1
