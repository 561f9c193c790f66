-- The renaming law of one step.
use Rattle.std.proofs.Common.{◌≡◌, ℕ, suc, ◌<◌, true, false, List, [], ◌∷◌, ◌++◌, length, get_or, map, Option, Some, None, Ok, refl, sym, ap, ◌∙◌, subst}
use Rattle.std.specs.Prelude.{All}
use Rattle.std.specs.Option.{option_map}
use Rattle.std.proofs.lemmas.Bool.{eq-eqb}
use Rattle.std.proofs.lemmas.List.{get_or_default}
use Rattle.std.proofs.lemmas.List.Elements.{All-head, All-tail}
use Rattle.strm_codes.specs.declared.codes.TransmitIndex.{TransmitIndex}
use Rattle.strm_handles.specs.Lookups.{end_rep_in}
use Rattle.strm_handles.specs.declared.entries.Entry.{Entry}
use Rattle.strm_handles.specs.declared.entries.Entry.TheVariants as entries
use Rattle.strm_handles.specs.declared.entries.TransmitLocalState.{TransmitLocalState}
use Rattle.strm_machine.specs.Words.{State, guest_in, no_guest, stream_at, handle_given, is_end, IsSound, Reaction, goes, react, act_of}
use Rattle.strm_machine.specs.declared.streams.Side.{Side}
use Rattle.strm_machine.specs.declared.streams.Stream.{Stream}
use Rattle.strm_machine.specs.declared.acts.Act.{Act}
use Rattle.strm_machine.specs.declared.streams.Side.TheVariants.{Reading, Writing}
use Rattle.strm_machine.specs.State.{is_live, stream_limit}
use Rattle.strm_machine.specs.Tests.{side_of}
use Rattle.strm_machine.specs.Making.{with_ends, made_stream, made_pair, with_stream}
use Rattle.strm_machine.specs.Refusals.{refusal}
use Rattle.strm_machine.specs.Reactions.{performs, reaction}
use Rattle.strm_machine.specs.declared.acts.Making.TheVariants as makings
use Rattle.strm_machine.specs.declared.acts.Act.TheVariants.{Transfer, OnHost, Drive, Event, OnSet, OnContext, Make, OnEnd, OnLoose, OnMemory}
use Rattle.strm_machine.specs.declared.replies.Reply.TheVariants as replies
use Rattle.strm_machine.specs.declared.steps.Step.{Step}
use Rattle.strm_machine.specs.declared.steps.Step.TheVariants as steps
use Rattle.strm_machine.proofs.SideLemmas.{same_side-itself}
use Rattle.strm_machine.proofs.HeldLemmas.{StateIsHeld}
use Rattle.strm_machine.proofs.ReactionLemmas.{reaction-trapped, reaction-refused, reaction-performs}
use Rattle.strm_laws.specs.Laws.{HandlesHold}
use Rattle.strm_places.specs.Again.{IsFree, is_making, made_pair_at, with_pair_at, performs_at, reaction_at, reacts_at}
use Rattle.strm_places.proofs.AgainLemmas.{unnamed, stream_made, reaction_at-by}
use Rattle.strm_place_laws.specs.Renaming.{entry_as, guest_as, guests_as, state_as, AreRenamed, number_as, act_as, step_as, with_number, CanAct, ComesOut}
use Rattle.strm_place_laws.proofs.RenamedStreams.{number-here, number-other, free_gone, PutsOne-put, AreRenamed-made}
use Rattle.strm_place_laws.proofs.RenamedStates.{renames_by, other, number, next_in-as, handle_given-as}
use Rattle.strm_place_laws.proofs.RenamedRefusals.{refusal-as, writer_index-as}
use Rattle.strm_place_laws.proofs.RenamedActs.{on_end-as, moves-as, told_ends-as, looses-as, sets-as, contexts-as, memories-as, guests-as, made_sets-as, made_contexts-as, same_streams}

-- ## A number that no handle names

map_same : {A B : Type 0} (f g : A → B) (xs : List A) → All (λ x. f x ≡ g x) xs → map f xs ≡ map g xs
map_same f g [] h = refl
map_same f g (x ∷ xs) h = λ i. All-head (λ x. f x ≡ g x) x xs h i ∷ map_same f g xs (All-tail (λ x. f x ≡ g x) x xs h) i

names_self : (n rep : ℕ) (st : TransmitLocalState) → rep ≡ n → is_end n (side_of st) (Ok (rep, st)) ≡ true
names_self n rep st e = rw (eq-eqb rep n e, same_side-itself (side_of st)) refl

module _ (f : ℕ → ℕ) (state : State) (n last : ℕ) (gone : is_live (stream_at state n) ≡ false) (held : StateIsHeld state) where
  abbrev next : ℕ → ℕ
  next = with_number f n last

  entry_same : (o : Option Entry) → ((side : Side) → is_end n side (end_rep_in o) ≡ true → ⊥) → option_map (entry_as f) o ≡ option_map (entry_as next) o
  entry_same None ne = refl
  entry_same (Some (entries.Stream end)) ne =
      ap (λ k. Some (entries.Stream (record end { rep = k }))) (sym (number-other f n last end.rep (λ e. ne (side_of end.state) (names_self n end.rep end.state e))))
  entry_same (Some (entries.Future end)) ne =
      ap (λ k. Some (entries.Future (record end { rep = k }))) (sym (number-other f n last end.rep (λ e. ne (side_of end.state) (names_self n end.rep end.state e))))
  entry_same (Some (entries.ResourceOwn resource lends)) ne = refl
  entry_same (Some (entries.ResourceBorrow resource scope)) ne = refl
  entry_same (Some (entries.ErrorContext rep)) ne = refl
  entry_same (Some (entries.Subtask rep is_host)) ne = refl
  entry_same (Some (entries.WaitableSet rep)) ne = refl

  guest_same : (g : ℕ) → guest_as f (guest_in state.guests g) ≡ guest_as next (guest_in state.guests g)
  guest_same g =
      let guest = guest_in state.guests g in
      ap (λ es. record guest { handles = record { entries = es; freed = guest.handles.freed } })
      (map_same (option_map (entry_as f)) (option_map (entry_as next)) guest.handles.entries
      (λ i d l. entry_same (get_or guest.handles.entries i d)
      (λ side is. unnamed state n gone held g (suc i) side (ap (λ o. is_end n side (end_rep_in o)) (sym (get_or_default guest.handles.entries i d None l)) ∙ is))))

  -- guests do not see the number of a stream that no handle names
  guests_same : guests_as f state.guests ≡ guests_as next state.guests
  guests_same =
      map_same (guest_as f) (guest_as next) state.guests
      (λ g d l. subst (λ k. guest_as f k ≡ guest_as next k) (sym (get_or_default state.guests g d no_guest l)) (guest_same g))

-- ## One step

module _ (f : ℕ → ℕ) (state : State) (streams : List Stream) (r : AreRenamed f state.streams streams) (sound : IsSound state) (held : StateIsHeld state) (n : ℕ) (free : IsFree state.streams n) where
  abbrev there : State
  there = other f state streams

  module _ (writer reader : ℕ) (ty : TransmitIndex) where
    abbrev last : ℕ
    last = length streams

    abbrev after : ℕ → ℕ
    after = with_number f n last

    abbrev made : Stream
    made = stream_made state writer reader ty

    -- the handles of both ends come into the tables under the new number
    both_given : handle_given (handle_given (state_as after state streams) reader Reading ty (after n)) writer Writing ty (after n) ≡ state_as after (handle_given (handle_given state reader Reading ty n) writer Writing ty n) streams
    both_given =
        ap (λ st. handle_given st writer Writing ty (after n)) (handle_given-as after state streams reader Reading ty n)
        ∙ handle_given-as after (handle_given state reader Reading ty n) streams writer Writing ty n

    guests_made : with_ends (guests_as f state.guests) writer reader ty last ≡ guests_as after (with_ends state.guests writer reader ty n)
    guests_made =
        let first : with_ends (guests_as f state.guests) writer reader ty last ≡ with_ends (guests_as after state.guests) writer reader ty (after n) =
        λ i. with_ends (guests_same f state n last (free_gone state.streams n free) held i) writer reader ty (sym (number-here f n last) i) in
        first ∙ ap (λ (st : State). st.guests) both_given

    state_made : with_stream there writer reader ty ≡ state_as after (with_pair_at state n writer reader ty) (streams ++ made ∷ [])
    unfolding with_stream with_pair_at
    state_made =
        λ i. record there {
          guests = guests_made i;
          streams = streams ++ made_stream ty writer (writer_index-as f state streams r sound writer reader ty i) reader (next_in-as f state streams reader i) ∷ [];
        }

    streams_made : AreRenamed after (with_pair_at state n writer reader ty).streams (streams ++ made ∷ [])
    unfolding with_pair_at
    streams_made = AreRenamed-made f state.streams streams r n made refl _ (PutsOne-put state.streams n made free refl)

    made-as : ComesOut f n there (Make (makings.Between writer reader ty)) (goes (replies.Pair (made_pair_at state n writer reader ty)) (with_pair_at state n writer reader ty)) (goes (replies.Pair (made_pair there writer reader ty)) (with_stream there writer reader ty))
    made-as = record {
      reply =
          λ i. replies.Pair (record {
            read = next_in-as f state streams reader i;
            write = writer_index-as f state streams r sound writer reader ty i;
            stream = sym (number-here f n last) i;
          });
      state = renames_by after _ _ (streams ++ made ∷ []) state_made streams_made;
    }

  performs-as : (act : Act) → refusal state act ≡ None → ComesOut f n there act (performs_at n state act) (performs there (act_as (number f state streams) act))
  unfolding performs_at performs
  performs-as (Make (makings.Between writer reader ty)) e = made-as writer reader ty
  performs-as (Make (makings.Guest size)) e = guests-as f state streams r sound n size
  performs-as (Make (makings.Set g)) e = made_sets-as f state streams r sound n g
  performs-as (Make (makings.Context g address len)) e = made_contexts-as f state streams r sound n g address len
  performs-as (OnEnd side end act) e = on_end-as f state streams r sound n side end act e
  performs-as (Transfer end to) e = moves-as f state streams r sound n end to e
  performs-as (OnLoose reader act) e = looses-as f state streams r sound n reader act e
  performs-as (OnHost host act) e = record { reply = refl; state = same_streams f state streams r sound n _ _ refl refl }
  performs-as Drive e = record { reply = refl; state = same_streams f state streams r sound n _ _ refl refl }
  performs-as (Event g handle) e = told_ends-as f state streams r sound n g handle e
  performs-as (OnSet g set act) e = sets-as f state streams r sound n g set act
  performs-as (OnContext g handle act) e = contexts-as f state streams r sound n g handle act
  performs-as (OnMemory g act) e = memories-as f state streams r sound n g act

  reaction-as : (act : Act) → (is_making act ≡ true → length streams < stream_limit) → ComesOut f n there act (reaction_at n state act) (reaction there (act_as (number f state streams) act))
  reaction-as act room =
      let act' = act_as (number f state streams) act in
      let refused = refusal-as f state streams r sound act room in
      let unchanged = same_streams f state streams r sound n state there refl refl in
      let P : Reaction → Type 0 = λ slim. ComesOut f n there act slim (reaction there act') in
      reaction_at-by P n state act
      (record {
        trapped = λ t. rw (reaction-trapped there act' t) (record { reply = refl; state = unchanged });
        refused = λ why t e. rw (reaction-refused there act' why t (refused ∙ e)) (record { reply = refl; state = unchanged });
        performed = λ t e. rw (reaction-performs there act' t (refused ∙ e)) (performs-as act e);
      })

-- handles that hold their ends, in a sound state
pub held_of : (state : State) → IsSound state → HandlesHold state → StateIsHeld state
held_of state sound hold = record { tables = λ g. (sound.sets g).table; agree = record { named = hold.named; held = hold.held } }

pub hold_of : (state : State) → StateIsHeld state → HandlesHold state
hold_of state held = record { named = held.agree.named; held = held.agree.held }

pub act-as : (f : ℕ → ℕ) (n : ℕ) (slim full : State) (act : Act) → CanAct f n slim full act → ComesOut f n full act (reaction_at n slim act) (reaction full (act_as (number_as f slim full) act))
act-as f n slim full act c =
    subst (λ there. ComesOut f n there act (reaction_at n slim act) (reaction there (act_as (number_as f slim there) act)))
    (sym c.renames.rest)
    (reaction-as f slim full.streams c.renames.streams c.sound (held_of slim c.sound c.hold) n c.free act c.room)

pub act_of-as : (number : ℕ → ℕ) (step : Step) → act_of (step_as number step) ≡ act_as number (act_of step)
act_of-as number (steps.Guest size) = refl
act_of-as number (steps.New guest ty) = refl
act_of-as number (steps.Between writer reader ty) = refl
act_of-as number (steps.Write guest ty handle address count) = refl
act_of-as number (steps.Read guest ty handle address count) = refl
act_of-as number (steps.DropWrite guest ty handle) = refl
act_of-as number (steps.DropRead guest ty handle) = refl
act_of-as number (steps.CancelWrite guest ty handle) = refl
act_of-as number (steps.CancelRead guest ty handle) = refl
act_of-as number (steps.Move guest ty handle to) = refl
act_of-as number (steps.Lift guest ty handle) = refl
act_of-as number (steps.Lower reader guest ty) = refl
act_of-as number (steps.Close reader) = refl
act_of-as number (steps.HostNew host) = refl
act_of-as number (steps.Feed host bytes) = refl
act_of-as number (steps.Pipe reader host) = refl
act_of-as number (steps.Grant host count) = refl
act_of-as number steps.Drive = refl
act_of-as number (steps.Event guest handle) = refl
act_of-as number (steps.SetNew guest) = refl
act_of-as number (steps.SetJoin guest set handle) = refl
act_of-as number (steps.SetPoll guest set) = refl
act_of-as number (steps.SetDrop guest set) = refl
act_of-as number (steps.ErrNew guest address len) = refl
act_of-as number (steps.ErrText guest handle address) = refl
act_of-as number (steps.ErrMove guest handle to) = refl
act_of-as number (steps.ErrDrop guest handle) = refl
act_of-as number (steps.Poke guest address bytes) = refl
act_of-as number (steps.Dump guest address len) = refl

-- a step under other numbers comes out as the step
pub step-as : (f : ℕ → ℕ) (n : ℕ) (slim full : State) (step : Step) → CanAct f n slim full (act_of step) → ComesOut f n full (act_of step) (reacts_at n slim step) (react full (step_as (number_as f slim full) step))
step-as f n slim full step c =
    subst (λ act. ComesOut f n full (act_of step) (reacts_at n slim step) (reaction full act)) (sym (act_of-as (number_as f slim full) step))
    (act-as f n slim full (act_of step) c)
