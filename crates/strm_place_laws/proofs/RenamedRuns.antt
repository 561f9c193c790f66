-- The renaming law of a run, by its steps.
use Rattle.std.proofs.Common.{◌≡◌, ℕ, ◌+◌, ◌≤◌, ◌<◌, Bool, true, false, List, [], ◌∷◌, length, map, Option, Some, None, refl, sym, ap, ◌∙◌, arith}
use Rattle.std.specs.Option.{option_map}
use Rattle.std.proofs.lemmas.List.{length-set, length-append}
use Rattle.std.proofs.lemmas.List.Sums.{sum_by-cons}
use Rattle.strm_codes.specs.declared.codes.ReturnCode.{ReturnCode}
use Rattle.strm_handles.specs.declared.entries.Entry.{Entry}
use Rattle.strm_handles.specs.declared.entries.Entry.TheVariants as entries
use Rattle.strm_machine.specs.Words.{Guest, State, Operated, Reaction, written_back, react, act_of, named, stream_named}
use Rattle.strm_machine.specs.declared.acts.Act.{Act}
use Rattle.strm_machine.specs.State.{stream_at, stream_limit}
use Rattle.strm_machine.specs.Meetings.{begun}
use Rattle.strm_machine.specs.Operating.{operate}
use Rattle.strm_machine.specs.Tests.{items_asked}
use Rattle.strm_machine.specs.Making.{with_stream}
use Rattle.strm_machine.specs.WaitableSets.{ready_in}
use Rattle.strm_machine.specs.Reactions.{polls, performs, reaction}
use Rattle.strm_machine.specs.declared.acts.Making.TheVariants as makings
use Rattle.strm_machine.specs.declared.acts.EndAct.TheVariants.{Drop, Cancel, Lift, Operate}
use Rattle.strm_machine.specs.declared.acts.LooseAct.TheVariants.{Lower, Close}
use Rattle.strm_machine.specs.declared.acts.SetAct.TheVariants as set_acts
use Rattle.strm_machine.specs.declared.acts.ContextAct.TheVariants as context_acts
use Rattle.strm_machine.specs.declared.acts.MemoryAct.TheVariants.{Poke, Dump}
use Rattle.strm_machine.specs.declared.acts.Act.TheVariants.{Transfer, OnHost, Drive, Event, OnSet, OnContext, Make, OnEnd, OnLoose, OnMemory}
use Rattle.strm_machine.proofs.ReactionLemmas.{reaction-by}
use Rattle.strm_laws.specs.Conservation.{moments, state_after_steps}
use Rattle.strm_places.specs.Again.{is_making}
use Rattle.strm_places.proofs.AgainLemmas.{stream_made, reaction_at-sound, reaction_at-held}
use Rattle.strm_place_laws.specs.Renaming.{entry_as, guest_as, Renames, number_as, act_as, CanAct, ComesOut}
use Rattle.strm_place_laws.specs.Runs.{Choice, takes, moment_at, moments_at, state_after_choices, makings as makings_of, step_under, numbers_next, full_next, steps_under, numbers_under, IsMomentUnder, AreMomentsUnder, CanRun}
use Rattle.strm_place_laws.proofs.RenamedStreams.{live_by}
use Rattle.strm_place_laws.proofs.RenamedSteps.{held_of, hold_of, act_of-as, step-as}

-- ## How many streams a step makes

-- as many streams
abbrev AsMany : State → Reaction → Type 0
AsMany state r = length r.state.streams ≡ length state.streams

back_many : (state : State) (s : ℕ) (t : Operated) (code : Option ReturnCode) → AsMany state (written_back state s t code)
back_many state s t None = length-set state.streams s t.stream
back_many state s t (Some code) = length-set state.streams s t.stream

polls_many : (state : State) (g : ℕ) (o : Option ℕ) → AsMany state (polls state g o)
polls_many state g None = refl
polls_many state g (Some handle) = length-set state.streams _ _

pub performs_many : (state : State) (act : Act) → is_making act ≡ false → AsMany state (performs state act)
unfolding performs
performs_many state (Make (makings.Guest size)) e = refl
performs_many state (Make (makings.Between writer reader ty)) e = cc
performs_many state (Make (makings.Set g)) e = refl
performs_many state (Make (makings.Context g address len)) e = refl
performs_many state (OnEnd side end (Operate address count)) e =
    let t = operate side state.guests (stream_at state (stream_named (named state end))) (begun end.guest address (items_asked end.ty count)) in
    back_many state (stream_named (named state end)) t t.code
performs_many state (OnEnd side end Drop) e = length-set state.streams _ _
performs_many state (OnEnd side end Cancel) e = length-set state.streams _ _
performs_many state (OnEnd side end Lift) e = length-set state.streams _ _
performs_many state (Transfer end to) e = length-set state.streams _ _
performs_many state (OnLoose reader (Lower g ty)) e = length-set state.streams _ _
performs_many state (OnLoose reader Close) e = length-set state.streams _ _
performs_many state (OnHost host act) e = refl
performs_many state Drive e = refl
performs_many state (Event g handle) e = length-set state.streams _ _
performs_many state (OnSet g set (set_acts.Join handle)) e = refl
performs_many state (OnSet g set set_acts.Poll) e = polls_many state g (ready_in state g set)
performs_many state (OnSet g set set_acts.Drop) e = refl
performs_many state (OnContext g handle (context_acts.Text address)) e = refl
performs_many state (OnContext g handle (context_acts.Move to)) e = refl
performs_many state (OnContext g handle context_acts.Drop) e = refl
performs_many state (OnMemory g (Poke address bytes)) e = refl
performs_many state (OnMemory g (Dump address len)) e = refl

-- a step makes one stream more, or as many as it may make
performs_most : (state : State) (act : Act) (b : Bool) → is_making act ≡ b → length (performs state act).state.streams ≤ length state.streams + live_by b
unfolding performs with_stream
performs_most state act false e = omega (arith, performs_many state act e)
performs_most state (Make (makings.Between writer reader ty)) true e =
    omega (arith, length-append state.streams (stream_made state writer reader ty ∷ []))
performs_most state (Make (makings.Guest size)) true e = cc
performs_most state (Make (makings.Set g)) true e = cc
performs_most state (Make (makings.Context g address len)) true e = cc
performs_most state (OnEnd side end act) true e = cc
performs_most state (Transfer end to) true e = cc
performs_most state (OnLoose reader act) true e = cc
performs_most state (OnHost host act) true e = cc
performs_most state Drive true e = cc
performs_most state (Event g handle) true e = cc
performs_most state (OnSet g set act) true e = cc
performs_most state (OnContext g handle act) true e = cc
performs_most state (OnMemory g act) true e = cc

reaction_most : (state : State) (act : Act) → length (reaction state act).state.streams ≤ length state.streams + live_by (is_making act)
reaction_most state act =
    reaction-by (λ r. length r.state.streams ≤ length state.streams + live_by (is_making act)) state act
    (λ t. omega arith) (λ r e. omega arith) (λ e. performs_most state act (is_making act) refl)

is_making-as : (number : ℕ → ℕ) (act : Act) → is_making (act_as number act) ≡ is_making act
is_making-as number (Make making) = refl
is_making-as number (OnEnd side end act) = refl
is_making-as number (Transfer end to) = refl
is_making-as number (OnLoose reader act) = refl
is_making-as number (OnHost host act) = refl
is_making-as number Drive = refl
is_making-as number (Event g handle) = refl
is_making-as number (OnSet g set act) = refl
is_making-as number (OnContext g handle act) = refl
is_making-as number (OnMemory g act) = refl

-- ## A run

module _ (f : ℕ → ℕ) (slim full : State) (choice : Choice) (more : List Choice) (c : CanRun f slim full (choice ∷ more)) where
  abbrev makes : Bool
  makes = is_making (act_of choice.step)

  counted : makings_of (choice ∷ more) ≡ live_by makes + makings_of more
  counted = sum_by-cons (λ (k : Choice). live_by (is_making (act_of k.step))) choice more

  has_room : (b : Bool) → makes ≡ b → b ≡ true → length full.streams < stream_limit
  has_room true e t = let one : live_by makes ≡ 1 = ap live_by e in omega (arith, counted, one, c.room)
  has_room false e t = cc

  can_act : CanAct f choice.place slim full (act_of choice.step)
  can_act = record { renames = c.renames; sound = c.sound; hold = c.hold; free = c.free.0; room = has_room makes refl }

  comes : ComesOut f choice.place full (act_of choice.step) (takes slim choice) (react full (step_under f slim full choice))
  comes = step-as f choice.place slim full choice.step can_act

  longer : length (full_next f slim full choice).streams ≤ length full.streams + live_by makes
  longer =
      let same : is_making (act_of (step_under f slim full choice)) ≡ makes = ap is_making (act_of-as (number_as f slim full) choice.step) ∙ is_making-as (number_as f slim full) (act_of choice.step) in
      rw same at (reaction_most full (act_of (step_under f slim full choice)))

  moment_under : IsMomentUnder f choice.place (moment_at slim choice) (record { act = act_of (step_under f slim full choice); before = full; reply = (react full (step_under f slim full choice)).reply; after = full_next f slim full choice })
  moment_under = record { act = act_of-as (number_as f slim full) choice.step; before = c.renames; reply = comes.reply; after = comes.state }

  can_run : CanRun (numbers_next f slim full choice) (takes slim choice).state (full_next f slim full choice) more
  can_run =
      let act = act_of choice.step in
      let held = held_of slim c.sound c.hold in
      record {
        renames = comes.state;
        sound = reaction_at-sound choice.place slim act c.free.0 held c.sound;
        hold = hold_of (takes slim choice).state (reaction_at-held choice.place slim act c.free.0 c.sound held);
        free = c.free.1;
        room = omega (arith, counted, longer, c.room);
      }

-- each run is a run of the machine
pub run-as : (f : ℕ → ℕ) (slim full : State) (choices : List Choice) → CanRun f slim full choices → AreMomentsUnder f (map (λ choice. choice.place) choices) (moments_at slim choices) (moments full (steps_under f slim full choices))
run-as f slim full [] c = tt
run-as f slim full (choice ∷ more) c =
    (moment_under f slim full choice more c, run-as (numbers_next f slim full choice) (takes slim choice).state (full_next f slim full choice) more (can_run f slim full choice more c))

pub end-as : (f : ℕ → ℕ) (slim full : State) (choices : List Choice) → CanRun f slim full choices → Renames (numbers_under f slim full choices) (state_after_choices slim choices) (state_after_steps full (steps_under f slim full choices))
end-as f slim full [] c = c.renames
end-as f slim full (choice ∷ more) c =
    end-as (numbers_next f slim full choice) (takes slim choice).state (full_next f slim full choice) more (can_run f slim full choice more c)

-- ## Every state is equal to itself

entry_itself : (e : Entry) → entry_as (λ s. s) e ≡ e
entry_itself (entries.Stream end) = refl
entry_itself (entries.Future end) = refl
entry_itself (entries.ResourceOwn resource lends) = refl
entry_itself (entries.ResourceBorrow resource scope) = refl
entry_itself (entries.ErrorContext rep) = refl
entry_itself (entries.Subtask rep is_host) = refl
entry_itself (entries.WaitableSet rep) = refl

option_itself : (o : Option Entry) → option_map (entry_as (λ s. s)) o ≡ o
option_itself None = refl
option_itself (Some e) = ap Some (entry_itself e)

map_itself : {A : Type 0} (f : A → A) → ((x : A) → f x ≡ x) → (xs : List A) → map f xs ≡ xs
map_itself f e [] = refl
map_itself f e (x ∷ xs) = λ i. e x i ∷ map_itself f e xs i

guest_itself : (guest : Guest) → guest_as (λ s. s) guest ≡ guest
guest_itself guest =
    ap (λ es. record guest { handles = record { entries = es; freed = guest.handles.freed } })
    (map_itself (option_map (entry_as (λ s. s))) option_itself guest.handles.entries)

pub renames_itself : (state : State) → Renames (λ s. s) state state
renames_itself state = record {
  rest = ap (λ (guests : List Guest). record state { guests = guests }) (sym (map_itself (guest_as (λ s. s)) guest_itself state.guests));
  streams = record { there = λ s l. l; single = λ s t a b e. e; same = λ s l. refl; live = refl; few = omega arith };
}
