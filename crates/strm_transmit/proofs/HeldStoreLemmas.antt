-- Handles and ends agree after what is done where nothing refuses it, whether or not the store is trapped.
use Rattle.std.proofs.Common.{◌≡◌, ℕ, None}
use Rattle.strm_machine.specs.State.{State}
use Rattle.strm_machine.specs.ErrorContexts.{message_in, with_context, with_context_handle}
use Rattle.strm_machine.specs.WaitableSets.{with_set}
use Rattle.strm_machine.specs.Reactions.{makes, on_set, on_context, shares, performs}
use Rattle.strm_machine.specs.Refusals.{refusal}
use Rattle.strm_machine.specs.Soundness.{IsSound}
use Rattle.strm_machine.specs.declared.acts.Act.{Act}
use Rattle.strm_machine.specs.declared.acts.Act.TheVariants.{Make, OnSet, OnContext}
use Rattle.strm_machine.specs.declared.acts.ContextAct.{ContextAct}
use Rattle.strm_machine.specs.declared.acts.Making.TheVariants.{Set, Context}
use Rattle.strm_machine.specs.declared.acts.SetAct.{SetAct}
use Rattle.strm_machine.proofs.ContextStepLemmas.{ShareFits, context_fits, context_new-shape, context-known, share-shape}
use Rattle.strm_machine.proofs.HeldLemmas.{StateIsHeld, shape-held}
use Rattle.strm_machine.proofs.SetStepLemmas.{set_fits, set_new-shape, set-known}
use Rattle.strm_machine.proofs.ShapeLemmas.{performs-known}

pub performs-held : (state : State) (act : Act) → refusal state act ≡ None → IsSound state → StateIsHeld state → StateIsHeld (performs state act).state
performs-held state act e sound h = shape-held state act (performs state act) h ((performs-known state act).shape sound e)

pub on_set-held : (state : State) (g set : ℕ) (act : SetAct) → IsSound state → StateIsHeld state → refusal state (OnSet g set act) ≡ None → StateIsHeld (on_set state g set act).state
on_set-held state g set act sound h e = shape-held state (OnSet g set act) (on_set state g set act) h ((set-known state g set act).shape sound e)

pub with_set-held : (state : State) (g : ℕ) → IsSound state → StateIsHeld state → refusal state (Make (Set g)) ≡ None → StateIsHeld (with_set state g)
with_set-held state g sound h e = shape-held state (Make (Set g)) (makes state (Set g)) h (set_new-shape state g sound (set_fits state g e))

pub on_context-held : (state : State) (g handle : ℕ) (act : ContextAct) → IsSound state → StateIsHeld state → refusal state (OnContext g handle act) ≡ None → StateIsHeld (on_context state g handle act).state
on_context-held state g handle act sound h e = shape-held state (OnContext g handle act) (on_context state g handle act) h ((context-known state g handle act).shape sound e)

pub with_context-held : (state : State) (g address len : ℕ) → IsSound state → StateIsHeld state → refusal state (Make (Context g address len)) ≡ None → StateIsHeld (with_context state g (message_in state g address len))
with_context-held state g address len sound h e =
    shape-held state (Make (Context g address len)) (makes state (Context g address len)) h (context_new-shape state g address len sound (context_fits state g address len e))

pub with_context_handle-held : (state : State) (number g : ℕ) → IsSound state → StateIsHeld state → ShareFits state number g → StateIsHeld (with_context_handle state g number)
with_context_handle-held state number g sound h fits =
    shape-held state (Make (Set g)) (shares state number g) h (share-shape state (Make (Set g)) number g sound fits)
