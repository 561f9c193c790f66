-- The store after an error context was made, told, shared or dropped; and the walk of the lowering of
-- one, which is no step.
use Rattle.std.proofs.Common.{◌≡◌, ℕ, ◌<◌, ◌≤◌, length, Option, None, Result, Ok, Err, refl, sym, ap, subst, ◌∙◌, arith, length-set}
use Rattle.std.specs.Prelude.{OnOk, OnErr}
use Rattle.strm_codes.specs.declared.counts.OutOfMemory.{OutOfMemory}
use Rattle.strm_codes.specs.declared.refusals.Refusal.{Refusal}
use Rattle.strm_handles.specs.Handles.{Handles}
use Rattle.strm_error_contexts.specs.Contexts.{Contexts, context_count_at, message_at}
use Rattle.strm_machine.specs.State.{State, sets_in, with_handles}
use Rattle.strm_machine.specs.ErrorContexts.{message_named, context_given, message_limit, bytes_of_message}
use Rattle.strm_machine.specs.Refusals.{refusal, first_of, lower_context_reasons}
use Rattle.strm_machine.specs.Reactions.{goes, texts, shares, lowers_context}
use Rattle.strm_machine.specs.Soundness.{IsSound, own_sizes_of}
use Rattle.strm_machine.specs.declared.acts.Act.TheVariants.{OnContext}
use Rattle.strm_machine.specs.declared.acts.ContextAct.TheVariants.{Drop}
use Rattle.strm_machine.specs.declared.replies.Reply.TheVariants as replies
use Rattle.strm_machine.proofs.ReactionLemmas.{lowers_context-trapped, lowers_context-refused, lowers_context-performs}
use Rattle.strm_machine.proofs.SoundLemmas.{own_sizes_of-with_handles}
use Rattle.strm_machine.proofs.TurnLemmas.{all_kept}
use Rattle.strm_machine.proofs.ErrorContextLemmas.{count-live}
use Rattle.strm_machine.proofs.ContextStepLemmas.{NamesContext, context_names}
use Rattle.strm_channels.specs.Changes.{GivesHandle}
use Rattle.strm_channels.specs.Guests.{guests_of, sets_among, with_context_in}
use Rattle.strm_transmit.specs.Inside.{state_of, IsStore}
use Rattle.strm_transmit.specs.Meets.{Meets, admitted, or_found}
use Rattle.strm_transmit.specs.declared.store.Store.TheInside.{Inside}
use Rattle.strm_transmit.specs.declared.errors.StoreError.{StoreError}
use Rattle.strm_transmit.proofs.StepLemmas.{is_admitted, not_admitted}
use Rattle.strm_transmit.proofs.StoreLemmas.{PutsBytes, sets-with_table, IsCounted, more_counted, kept_tables, kept_streams, Agrees, agrees_still, IsStore-counted}
use Rattle.strm_transmit.proofs.ToldLemmas.{members-with_table, told-same}
use Rattle.strm_machine.proofs.HeldLemmas.{StateIsHeld}
use Rattle.strm_transmit.proofs.ReadyGuestLemmas.{counted-alike}

-- all but guests, error contexts and the handles' counter stays
pub record KeepsRest (old new : Inside) : Type 0 where
  pub tag : new.tag ≡ old.tag
  pub limits : new.limits ≡ old.limits
  pub trapped : new.is_trapped ≡ old.is_trapped
  pub streams : new.streams ≡ old.streams
  pub producers : new.producers ≡ old.producers
  pub kept : new.kept ≡ old.kept
  pub consumers : new.consumers ≡ old.consumers
  pub places : new.places ≡ old.places
  pub live_sets : new.live_sets ≡ old.live_sets
  pub bytes : new.bytes ≡ old.bytes
  pub ready : new.ready ≡ old.ready

-- one guest has other handles, and the error contexts are others
pub record SetsContexts (old new : Inside) (g : ℕ) (handles : Handles) (contexts : Contexts) : Type 0 where
  pub guests : guests_of new.guests.items ≡ with_handles (guests_of old.guests.items) g handles
  pub others : new.contexts ≡ contexts

module _ (old new : Inside) (g : ℕ) (handles : Handles) (contexts : Contexts) (k : KeepsRest old new) (h : SetsContexts old new g handles contexts) where
  pub state_of-contexts : state_of new ≡ record (state_of old) { guests = with_handles (guests_of old.guests.items) g handles; contexts = contexts }
  state_of-contexts = rw (k.tag, k.limits, k.trapped, k.streams, k.producers, k.kept, k.consumers, h.guests, h.others) refl

  -- the state then
  abbrev pub then : State
  then = record (state_of old) { guests = with_handles (guests_of old.guests.items) g handles; contexts = contexts }

  agrees-contexts : StateIsHeld then → IsStore old → Agrees new
  agrees-contexts held i =
      let guests = guests_of old.guests.items in
      record {
        held = subst StateIsHeld (sym state_of-contexts) held;
        told = rw (k.streams, k.ready, h.guests) (told-same guests (with_handles guests g handles) old.streams.items old.ready.sets (members-with_table guests g handles (sets_in guests g) (λ n q. refl)) i.told);
        ready_counted = rw (k.streams, k.ready, h.guests) (counted-alike guests (with_handles guests g handles) old.streams.items old.streams.items old.ready (length-set guests g _) refl i.ready_counted);
      }

  pub IsStore-contexts : IsCounted new → IsSound then → StateIsHeld then → IsStore old → IsStore new
  IsStore-contexts counted sound held i =
      let guests = guests_of old.guests.items in
      IsStore-counted old new
      (record {
        handles = counted;
        sets = k.live_sets ∙ i.sets ∙ sym (ap sets_among h.guests ∙ sets-with_table guests g handles (sets_in guests g) refl);
        sizes = ap own_sizes_of h.guests ∙ own_sizes_of-with_handles guests g handles;
        bytes = k.bytes;
      })
      (kept_streams old new k.streams k.places (record { producers = k.producers; kept = k.kept; consumers = k.consumers }) i)
      (subst IsSound (sym state_of-contexts) sound) (agrees-contexts held i) i

-- the handles of a context are below the limit, and its message is short
pub count_below : (s : Inside) (number : ℕ) → IsStore s → context_count_at s.contexts number ≤ s.counter.live
count_below s number i = omega (arith, i.live, count-live (state_of s) number i.sound.contexts)

pub message_is_short : (s : Inside) (number : ℕ) → IsStore s → length (bytes_of_message (message_at s.contexts number)) ≤ message_limit
message_is_short s number i = (i.sound.contexts.messages number).short

-- what a call that gives a handle to an error context did where it answered, and where it did not
pub record Gives (r : Result ℕ OutOfMemory) (old new : Inside) (g number : ℕ) (contexts : Contexts) : Type 0 where
  pub gives : GivesHandle (guests_of old.guests.items) (guests_of new.guests.items) (with_context_in (guests_of old.guests.items) g number) g old.counter new.counter r
  pub others : OnOk r (new.contexts ≡ contexts)
  pub same : OnErr r (new.contexts ≡ old.contexts)

module _ (old new : Inside) (g number : ℕ) (contexts : Contexts) (k : KeepsRest old new) where
  same_state : guests_of new.guests.items ≡ guests_of old.guests.items → new.contexts ≡ old.contexts → state_of new ≡ state_of old
  same_state e f = rw (k.tag, k.limits, k.trapped, k.streams, k.producers, k.kept, k.consumers, e, f) refl

  same_store : guests_of new.guests.items ≡ guests_of old.guests.items → new.contexts ≡ old.contexts → new.counter ≡ old.counter → IsStore old → IsStore new
  same_store e f c i =
      IsStore-counted old new
      (kept_tables old new (record { limits = k.limits; counter = c; live_sets = k.live_sets; bytes = k.bytes; guests = rw e (all_kept (guests_of old.guests.items)) }) i)
      (kept_streams old new k.streams k.places (record { producers = k.producers; kept = k.kept; consumers = k.consumers }) i)
      (subst IsSound (sym (same_state e f)) i.sound)
      (agrees_still old new (rw e (all_kept (guests_of old.guests.items))) (ap (λ (v : _). v.items) k.streams) k.ready i) i

  pub IsStore-gives : (r : Result ℕ OutOfMemory) → Gives r old new g number contexts → old.counter.live < old.counter.limit → IsSound (context_given (state_of old) g number contexts) → StateIsHeld (context_given (state_of old) g number contexts) → IsStore old → IsStore new
  IsStore-gives (Ok v) h below sound held i =
      IsStore-contexts old new g _ contexts k (record { guests = h.gives.ok.guests; others = h.others })
      (more_counted old new k.limits h.gives.ok.counter h.gives.ok.live below i) sound held i
  IsStore-gives (Err v) h below sound held i = same_store h.gives.err h.same h.gives.kept i

-- the message of an error context was put into a guest's memory
pub texts-put : (old new : Inside) (g handle address number : ℕ) → PutsBytes old new g address (message_named (state_of old) g handle) → number ≡ length (message_named (state_of old) g handle) → texts (state_of old) g handle address ≡ goes (replies.Number number) (state_of new)
texts-put old new g handle address number h e =
    rw (h.same.tag, h.same.limits, h.same.producers, h.same.kept, h.same.consumers, h.same.contexts, h.same.trapped, h.streams, h.guests, e) refl

-- a handle that may be dropped names an error context
pub dropped_names : (state : State) (g handle : ℕ) → IsSound state → refusal state (OnContext g handle Drop) ≡ None → NamesContext state g handle
unfolding refusal
dropped_names state g handle h e = context_names state g handle h e

-- ## What is no step

module _ (state : State) (number g : ℕ) where
  -- why the lowering is refused, if it is
  abbrev lower_refusal : Option Refusal
  lower_refusal = first_of (lower_context_reasons state number g)

  -- why it was not admitted, as the machine's answer
  pub meets_not_lowered : {V : Type 0} (wanted : V) (found : Result V Refusal) (error : StoreError) → found ≡ or_found lower_refusal wanted → Err error ≡ admitted state found → Meets state state (Err error) (lowers_context state number g)
  meets_not_lowered wanted found error e a =
      not_admitted state lower_refusal wanted found (λ x. Meets state state (Err x) (lowers_context state number g)) error e a
      (λ t. (lowers_context-trapped state number g t, refl)) (λ q t r. (lowers_context-refused state number g q t r, refl))

  -- a lowering that was admitted: nothing refuses it, and it is a handle more
  pub record IsLowered : Type 0 where
    pub none : lower_refusal ≡ None
    pub shared : lowers_context state number g ≡ shares state number g

  pub is_lowered : {V : Type 0} (wanted : V) (found : Result V Refusal) (value : V) → found ≡ or_found lower_refusal wanted → Ok value ≡ admitted state found → IsLowered
  is_lowered wanted found value e a =
      let passed = is_admitted state lower_refusal wanted found value e a in
      record { none = passed.none; shared = lowers_context-performs state number g passed.untrapped passed.none }
