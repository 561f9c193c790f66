-- Handles and ends, sets and their members, and error contexts and their handles, agree in each state in which they
-- are kept to, and so after every run.
use Rattle.std.proofs.Common.{◌≡◌, ℕ, zero, suc, false, List, [], ◌∷◌, length, Option, Some, None, Ok, is_some, refl, sym, ap, ◌∙◌, inl, inr, arith}
use Rattle.std.proofs.lemmas.Bool.{cases_lt}
use Rattle.std.proofs.lemmas.List.{get_or_past}
use Rattle.strm_machine.specs.Words.{Guest, no_guest, guest_in, sets_in, no_handles, act_of, State, empty, IsSound, react}
use Rattle.strm_machine.specs.declared.limits.Limits.{Limits}
use Rattle.strm_machine.specs.declared.steps.Step.{Step}
use Rattle.strm_handles.specs.Handles.{entry_at}
use Rattle.strm_handles.specs.Lookups.{error_context_rep_of}
use Rattle.strm_error_contexts.specs.Contexts.{Context, context_at, handles_of_context}
use Rattle.strm_machine.specs.ErrorContexts.{context_number}
use Rattle.strm_machine.proofs.AgreeLemmas.{Agree-single, Agree-unheld}
use Rattle.strm_machine.proofs.EmptyLemmas.{IsSound-empty, StateIsHeld-empty}
use Rattle.strm_machine.proofs.ErrorContextLemmas.{context_entry, named_is_there}
use Rattle.strm_machine.proofs.HeldLemmas.{names_in, StateIsHeld, reaction-held}
use Rattle.strm_machine.proofs.SoundStepLemmas.{reaction-sound}
use Rattle.strm_machine.proofs.TableLemmas.{owner_in}
use Rattle.strm_laws.specs.Conservation.{state_after_steps}
use Rattle.strm_laws.specs.Laws.{HandlesHold, HandlesAreSingle, MembersAreLive, ContextsCount}

-- ## A state

pub handles_hold : (state : State) → StateIsHeld state → HandlesHold state
handles_hold state h = record { named = h.agree.named; held = h.agree.held }

pub handles_are_single : (state : State) → StateIsHeld state → HandlesAreSingle state
handles_are_single state h = record {
  single = Agree-single (names_in state.guests) (owner_in state.streams) h.agree;
  unheld = Agree-unheld (names_in state.guests) (owner_in state.streams) h.agree;
}

pub members_are_live : (state : State) → IsSound state → MembersAreLive state
members_are_live state h = record {
  live = λ g number handle m. (h.sets g).members handle number m;
  kept = λ g number handle m. (h.sets g).kept handle number m;
  there = λ g set number e. (h.sets g).there set number e;
  named = λ g number t. (h.sets g).named number t;
  single = λ g number set other e f. (h.sets g).single set other number e f;
}

-- what is not there counts none
none_there : (o : Option Context) → is_some o ≡ false → handles_of_context o ≡ 0
none_there None e = refl
none_there (Some c) e = cc

-- a guest that is not there has no handle
no_context_named : (handle number : ℕ) → error_context_rep_of no_handles handle ≡ Ok number → ⊥
no_context_named zero number e = cc
no_context_named (suc i) number e = cc

pub contexts_count : (state : State) → IsSound state → ContextsCount state
contexts_count state sound =
    let h = sound.contexts in
    record {
      counted = h.counted;
      some = λ number there. omega (arith, h.counted number, h.kept.handled number there);
      none = λ number e. sym (h.counted number) ∙ none_there (context_at state.contexts number) e;
      named = λ g handle number e. elim (cases_lt g (length state.guests)) [
        | inl l ↦ named_is_there state.guests state.contexts g (sets_in state.guests g) h l handle number (context_entry (entry_at (guest_in state.guests g).handles handle) number e)
        | inr l ↦ absurd (no_context_named handle number (ap (λ (k : Guest). error_context_rep_of k.handles handle) (sym (get_or_past state.guests g no_guest l)) ∙ e))
      ];
      message = λ g handle. h.messages (context_number state g handle);
    }

-- ## A run

held_from : (state : State) (run : List Step) → IsSound state → StateIsHeld state → StateIsHeld (state_after_steps state run)
held_from state [] sound h = h
held_from state (step ∷ more) sound h =
    held_from (react state step).state more (reaction-sound state (act_of step) sound) (reaction-held state (act_of step) sound h)

pub held : (tag : ℕ) (limits : Limits) (run : List Step) → StateIsHeld (state_after_steps (empty tag limits) run)
held tag limits run = held_from (empty tag limits) run (IsSound-empty tag limits) (StateIsHeld-empty tag limits)
