-- What is done to an error context, where nothing refuses it: its message put into a memory is bytes put,
-- and all else changes one guest's table and the error contexts alone.
use Rattle.std.proofs.Common.{◌≡◌, ℕ, ◌+◌, ◌<◌, ◌≤◌, true, List, [], ◌∷◌, length, take, drop, Option, Some, None, refl, sym, ap, ◌∙◌, arith}
use Rattle.std.specs.Prelude.{◌||◌}
use Rattle.std.specs.Str.{is_utf8}
use Rattle.std.proofs.lemmas.Bool.{not-false}
use Rattle.std.proofs.lemmas.List.{length-take}
use Rattle.strm_codes.specs.declared.refusals.Refusal.TheVariants as refusals
use Rattle.strm_handles.specs.Handles.{handle_limit, entry_at, next_index, inserted}
use Rattle.strm_handles.specs.Lookups.{end_rep_in, error_context_rep_in}
use Rattle.strm_handles.specs.declared.entries.Entry.TheVariants as entries
use Rattle.strm_handles.proofs.HandleLemmas.{entry_at-next_index, entry_at-inserted-same, entry_at-inserted-other, entry_at-removed-same, entry_at-removed-other}
use Rattle.strm_error_contexts.specs.Contexts.{Contexts, is_context_there, next_number, inserted as with_message, raised, context_dropped as less}
use Rattle.strm_machine.specs.Words.{Handles, Entry, removed, State, guest_in, memory_in, sets_in, with_table, is_end, first_of, next_in, IsSound, Act, Make, Reply}
use Rattle.strm_machine.specs.State.{handles_in_use, places_in_use}
use Rattle.strm_machine.specs.Tests.{is_unknown_guest, is_no_handle, are_handles_full, are_places_full, are_bytes_out_of_bounds}
use Rattle.strm_machine.specs.WaitableSets.{number_named}
use Rattle.strm_machine.specs.ErrorContexts.{context_named, context_number, is_unknown_context, is_message_too_long, message_limit, message_named, message_in, is_bad_text, with_context_handle}
use Rattle.strm_machine.specs.Refusals.{where_, slot_reasons, handle_more_reasons, context_reasons, lower_context_reasons, refusal}
use Rattle.strm_machine.specs.Reactions.{makes, shares, on_context}
use Rattle.strm_machine.specs.Soundness.{types_of, IsMessage, HoldsContexts}
use Rattle.strm_machine.specs.Moments.{code_told}
use Rattle.strm_machine.specs.declared.acts.Making.TheVariants.{Context}
use Rattle.strm_machine.specs.declared.acts.ContextAct.{ContextAct}
use Rattle.strm_machine.specs.declared.acts.ContextAct.TheVariants.{Text, Move, Drop}
use Rattle.strm_machine.specs.declared.acts.Act.TheVariants.{OnContext}
use Rattle.strm_machine.specs.declared.replies.Reply.TheVariants as replies
use Rattle.strm_machine.proofs.RefusalLemmas.{BytesFit, not_refused, not_le, not_lt, neither, none_of_both}
use Rattle.strm_machine.proofs.SoundLemmas.{AreNamed-at, AreNamed-removed, AreNamed-inserted, IsSound-table}
use Rattle.strm_machine.proofs.WaitableSetLemmas.{context_is_other, HoldsSets-given, HoldsSets-removed}
use Rattle.strm_machine.proofs.MessageLemmas.{IsBytes-text}
use Rattle.strm_machine.proofs.ErrorContextLemmas.{HoldsContexts-new, HoldsContexts-shared, HoldsContexts-dropped, named_is_there}
use Rattle.strm_machine.proofs.SetStepLemmas.{ends_stay}
use Rattle.strm_machine.proofs.Shapes.{Tabling, Tables, Shape, ByTable, ByPut, Known}
use Rattle.strm_machine.proofs.Ways.{SetsNone}

-- ## What nothing refuses

-- a handle more of a guest
pub record HandleFits (state : State) (g : ℕ) : Type 0 where
  pub number : next_in state g < handle_limit
  pub handles : handles_in_use state + 1 ≤ state.limits.handles

handle_fits : (state : State) (g : ℕ) → first_of (handle_more_reasons state g) ≡ None → HandleFits state g
handle_fits state g e =
    let number = not_refused (is_no_handle (next_in state g)) _ _ e in
    let handles = not_refused (are_handles_full state 1) _ _ number.1 in
    record { number = not_le handle_limit _ number.0; handles = not_lt state.limits.handles (handles_in_use state + 1) handles.0 }

-- an error context that may be made
pub record ContextFits (state : State) (g address len : ℕ) : Type 0 where
  pub bytes : BytesFit state g address len
  pub message : IsMessage (message_in state g address len)
  pub handle : HandleFits state g
  pub places : places_in_use state + 1 ≤ state.limits.places

message_short : (bytes : List ℕ) (address len : ℕ) → len ≤ message_limit → length (take len (drop address bytes)) ≤ message_limit
message_short bytes address len l = omega (arith, l, length-take len (drop address bytes))

pub context_fits : (state : State) (g address len : ℕ) → refusal state (Make (Context g address len)) ≡ None → ContextFits state g address len
unfolding refusal
context_fits state g address len e =
    let guest = not_refused (is_unknown_guest state g) _ _ e in
    let short = not_refused (is_message_too_long len) _ _ guest.1 in
    let inside = not_refused (are_bytes_out_of_bounds state g address len) _ _ short.1 in
    let text = not_refused (is_bad_text state g address len) _ _ inside.1 in
    let both = none_of_both (handle_more_reasons state g) (where_ (are_places_full state 1) refusals.Full ∷ []) text.1 in
    let places = not_refused (are_places_full state 1) _ _ both.1 in
    record {
      bytes = record { there = not_le (length state.guests) g guest.0; inside = inside.0 };
      message = record {
        text = not-false (is_utf8 (message_in state g address len)) text.0;
        short = message_short (memory_in state.guests g) address len (not_lt message_limit len short.0);
      };
      handle = handle_fits state g both.0;
      places = not_lt state.limits.places (places_in_use state + 1) places.0;
    }

-- a handle that names an error context
pub record NamesContext (state : State) (g handle : ℕ) : Type 0 where
  pub there : g < length state.guests
  pub entry : entry_at (guest_in state.guests g).handles handle ≡ Some (entries.ErrorContext (context_number state g handle))
  pub known : is_context_there state.contexts (context_number state g handle) ≡ true

slot_entry : (o : Option Entry) → first_of (slot_reasons (error_context_rep_in o)) ≡ None → o ≡ Some (entries.ErrorContext (number_named (error_context_rep_in o)))
slot_entry None e = cc
slot_entry (Some (entries.Stream end)) e = cc
slot_entry (Some (entries.Future end)) e = cc
slot_entry (Some (entries.ResourceOwn resource lends)) e = cc
slot_entry (Some (entries.ResourceBorrow resource scope)) e = cc
slot_entry (Some (entries.ErrorContext rep)) e = refl
slot_entry (Some (entries.Subtask rep is_host)) e = cc
slot_entry (Some (entries.WaitableSet rep)) e = cc

slot_names : (state : State) (g handle : ℕ) → IsSound state → g < length state.guests → first_of (slot_reasons (context_named state g handle)) ≡ None → NamesContext state g handle
slot_names state g handle h there e =
    let entry = slot_entry (entry_at (guest_in state.guests g).handles handle) e in
    record {
      there = there;
      entry = entry;
      known = named_is_there state.guests state.contexts g (sets_in state.guests g) h.contexts there handle (context_number state g handle) entry;
    }

pub context_names : (state : State) (g handle : ℕ) → IsSound state → first_of (context_reasons state g handle) ≡ None → NamesContext state g handle
context_names state g handle h e =
    let guest = not_refused (is_unknown_guest state g) _ _ e in
    slot_names state g handle h (not_le (length state.guests) g guest.0) guest.1

-- a guest that may get a handle to the error context of a number
pub record ShareFits (state : State) (number g : ℕ) : Type 0 where
  pub there : g < length state.guests
  pub known : is_context_there state.contexts number ≡ true
  pub handle : HandleFits state g

pub lower_context_fits : (state : State) (number g : ℕ) → first_of (lower_context_reasons state number g) ≡ None → ShareFits state number g
lower_context_fits state number g e =
    let guest = not_refused (is_unknown_guest state g) _ _ e in
    let known = not_refused (is_unknown_context state number) _ _ guest.1 in
    record {
      there = not_le (length state.guests) g guest.0;
      known = not-false (is_context_there state.contexts number) known.0;
      handle = handle_fits state g known.1;
    }

-- and of the one that a handle names, with the handle
pub record TransferFits (state : State) (g handle to : ℕ) : Type 0 where
  pub named : NamesContext state g handle
  pub share : ShareFits state (context_number state g handle) to

pub transfer_fits : (state : State) (g handle to : ℕ) → IsSound state → refusal state (OnContext g handle (Move to)) ≡ None → TransferFits state g handle to
unfolding refusal
transfer_fits state g handle to h e =
    let guests = not_refused (is_unknown_guest state g || is_unknown_guest state to) _ _ e in
    let known = neither (is_unknown_guest state g) (is_unknown_guest state to) guests.0 in
    let both = none_of_both (slot_reasons (context_named state g handle)) (handle_more_reasons state to) guests.1 in
    let named = slot_names state g handle h (not_le (length state.guests) g known.0) both.0 in
    record {
      named = named;
      share = record { there = not_le (length state.guests) to known.1; known = named.known; handle = handle_fits state to both.1 };
    }

-- a message that may be told
pub record TextFits (state : State) (g handle address : ℕ) : Type 0 where
  pub named : NamesContext state g handle
  pub bytes : BytesFit state g address (length (message_named state g handle))

pub text_fits : (state : State) (g handle address : ℕ) → IsSound state → refusal state (OnContext g handle (Text address)) ≡ None → TextFits state g handle address
unfolding refusal
text_fits state g handle address h e =
    let outside = are_bytes_out_of_bounds state g address (length (message_named state g handle)) in
    let both = none_of_both (context_reasons state g handle) (where_ outside refusals.OutOfBounds ∷ []) e in
    let named = context_names state g handle h both.0 in
    let inside = not_refused outside _ _ both.1 in
    record { named = named; bytes = record { there = named.there; inside = inside.0 } }

-- ## A handle more or less

module _ (state : State) (g : ℕ) (h : IsSound state) (there : g < length state.guests) where
  abbrev table : Handles
  table = (guest_in state.guests g).handles

  -- a handle to the error context of a number, with these error contexts
  abbrev given : ℕ → Contexts → Tabling
  given number contexts = record { guest = g; handles = inserted table (entries.ErrorContext number); sets = sets_in state.guests g; contexts = contexts }

  given-tables : (number : ℕ) (contexts : Contexts) (reply : Reply) → code_told reply ≡ None → next_index table < handle_limit → HoldsContexts (with_table state.guests g (inserted table (entries.ErrorContext number)) (sets_in state.guests g)) contexts → Tables state reply (given number contexts)
  given-tables number contexts reply untold small counts =
      let e = entries.ErrorContext number in
      let sound = (h.sets g).table in
      record {
        there = there;
        ends = ends_stay table (inserted table e) (next_index table) (λ i ne. entry_at-inserted-other table e i ne)
            (λ s side. ap (λ o. is_end s side (end_rep_in o)) (entry_at-inserted-same table e sound) ∙ sym (ap (λ o. is_end s side (end_rep_in o)) (entry_at-next_index table sound)));
        named = AreNamed-inserted (types_of state.streams) table e tt (AreNamed-at (types_of state.streams) state.guests g h.named);
        holds = HoldsSets-given table (sets_in state.guests g) (h.sets g) e small (context_is_other number).no_set;
        counts = counts;
        untold = untold;
      }

  -- an error context more
  pub new-tables : (message : List ℕ) → IsMessage message → next_index table < handle_limit → Tables state (replies.Number (next_in state g)) (given (next_number state.contexts) (with_message state.contexts message))
  new-tables message is small =
      given-tables (next_number state.contexts) (with_message state.contexts message) (replies.Number (next_in state g)) refl small
      (HoldsContexts-new state.guests state.contexts g (sets_in state.guests g) h.contexts there message (h.sets g).table is)

  -- a handle more to one
  pub share-tables : (number : ℕ) → is_context_there state.contexts number ≡ true → next_index table < handle_limit → Tables state (replies.Number (next_in state g)) (given number (raised state.contexts number))
  share-tables number known small =
      given-tables number (raised state.contexts number) (replies.Number (next_in state g)) refl small
      (HoldsContexts-shared state.guests state.contexts g (sets_in state.guests g) h.contexts there number known (h.sets g).table)

  -- and one less
  abbrev freed : ℕ → Tabling
  freed handle = record { guest = g; handles = removed table handle; sets = sets_in state.guests g; contexts = less state.contexts (context_number state g handle) }

  pub drop-tables : (handle : ℕ) → NamesContext state g handle → Tables state replies.Done (freed handle)
  drop-tables handle names =
      let number = context_number state g handle in
      record {
        there = there;
        ends = ends_stay table (removed table handle) handle (λ i ne. entry_at-removed-other table handle i ne)
            (λ s side. ap (λ o. is_end s side (end_rep_in o)) (entry_at-removed-same table handle) ∙ sym (ap (λ o. is_end s side (end_rep_in o)) names.entry));
        named = AreNamed-removed (types_of state.streams) table handle (AreNamed-at (types_of state.streams) state.guests g h.named);
        holds = HoldsSets-removed table (sets_in state.guests g) (h.sets g) handle (entries.ErrorContext number) names.entry (context_is_other number);
        counts = HoldsContexts-dropped state.guests state.contexts g (sets_in state.guests g) h.contexts there handle number names.known names.entry;
        untold = refl;
      }

-- ## What is done

pub context_new-shape : (state : State) (g address len : ℕ) → IsSound state → ContextFits state g address len → Shape state (Make (Context g address len)) (makes state (Context g address len))
context_new-shape state g address len h fits =
    let message = message_in state g address len in
    ByTable (replies.Number (next_in state g)) (given state g h fits.bytes.there (next_number state.contexts) (with_message state.contexts message)) refl
    (new-tables state g h fits.bytes.there message fits.message fits.handle.number)

pub share-shape : (state : State) (act : Act) (number g : ℕ) → IsSound state → ShareFits state number g → Shape state act (shares state number g)
share-shape state act number g h fits =
    ByTable (replies.Number (next_in state g)) (given state g h fits.there number (raised state.contexts number)) refl
    (share-tables state g h fits.there number fits.known fits.handle.number)

pub context-known : (state : State) (g handle : ℕ) (act : ContextAct) → Known state (OnContext g handle act) (on_context state g handle act)
unfolding refusal
context-known state g handle (Text address) = record {
  way = SetsNone refl refl;
  shape = λ h e.
      let fits = text_fits state g handle address h e in
      let message = message_named state g handle in
      ByPut (replies.Number (length message)) g address message refl
      (record { fits = fits.bytes; where_ = refl; bytes_put = λ b. IsBytes-text message (h.contexts.messages (context_number state g handle)).text; untold = refl });
}
context-known state g handle (Move to) = record {
  way = SetsNone refl refl;
  shape = λ h e.
      share-shape state (OnContext g handle (Move to)) (context_number state g handle) to h (transfer_fits state g handle to h e).share;
}
context-known state g handle Drop = record {
  way = SetsNone refl refl;
  shape = λ h e.
      let names = context_names state g handle h e in
      ByTable replies.Done (freed state g h names.there handle) refl (drop-tables state g h names.there handle names);
}

-- ## What is no step

pub with_context_handle-sound : (state : State) (number g : ℕ) → IsSound state → ShareFits state number g → IsSound (with_context_handle state g number)
with_context_handle-sound state number g h fits =
    let x = given state g h fits.there number (raised state.contexts number) in
    let t = share-tables state g h fits.there number fits.known fits.handle.number in
    IsSound-table state x.guest x.handles x.sets x.contexts t.named t.holds t.counts h
