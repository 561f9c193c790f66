-- A call of the store without host ends is the machine's step, and leaves it so.
use Rattle.std.proofs.Common.{◌≡◌, ◌≤◌, ◌+◌, arith, ap, ℕ, zero, suc, true, false, List, [], ◌++◌, length, refl, sym, subst, ◌∙◌}
use Rattle.std.specs.Prelude.{Result, Ok, Err, Bool, nat_lt, ◌&&◌, Option, Some, None}
use Rattle.std.proofs.lemmas.Bool.{le-ltb, and_parts, cond_both}
use Rattle.strm_memory.specs.Region.{bytes_out_of_bounds}
use Rattle.strm_codes.specs.declared.refusals.Refusal.{Refusal}
use Rattle.strm_machine.specs.State.{State, Guest, empty, memory_in, with_bytes}
use Rattle.std.specs.Ptr.{Ptr}
use Rattle.strm_machine.specs.Bases.{with_base_in}
use Rattle.strm_machine.specs.Growth.{guest_at, with_guest_at, adds_guest_at, grown, moved_to, MayGrow}
use Rattle.strm_machine.proofs.GrowthLemmas.{IsSound-grown, handles-grown, adds_guest_at-sound, adds_guest_at-by}
use Rattle.strm_machine.proofs.BaseLemmas.{with_base-keeps}
use Rattle.strm_machine.proofs.RefusalLemmas.{BytesFit}
use Rattle.strm_machine.proofs.SoundLemmas.{IsSound-guests}
use Rattle.strm_machine.specs.Refusals.{first_of, lower_context_reasons}
use Rattle.strm_machine.specs.Soundness.{IsSound}
use Rattle.strm_machine.specs.Reactions.{Reaction, shares_unless, reaction, lowers_context}
use Rattle.strm_machine.specs.declared.limits.Limits.{Limits}
use Rattle.strm_machine.specs.declared.acts.Act.{Act}
use Rattle.strm_machine.specs.declared.replies.Reply.{Reply}
use Rattle.strm_machine.proofs.SoundStepLemmas.{poke-keeps}
use Rattle.strm_host_machine.specs.Does.{Fits}
use Rattle.std.specs.List.{refill, length_refill}
use Rattle.strm_machine.proofs.TurnLemmas.{GuestsKeep, with_memory-keeps}
use Rattle.strm_machine.proofs.ContextStepLemmas.{lower_context_fits}
use Rattle.strm_machine.proofs.EmptyLemmas.{StateIsHeld-empty}
use Rattle.strm_machine.proofs.HeldLemmas.{StateIsHeld, IsHeld-same, reaction-held}
use Rattle.strm_machine.proofs.TableLemmas.{handles-same, handles-more}
use Rattle.strm_transmit.specs.Lending.{with_bytes_in}
use Rattle.strm_transmit.specs.Guests.{Unhosted, AreUnhosted, nobody}
use Rattle.strm_transmit.proofs.HeldStoreLemmas.{with_context_handle-held}
use Rattle.strm_transmit.specs.Meets.{Meets}
use Rattle.strm_transmit.specs.Hosted.{StillFits}
use Rattle.strm_transmit.specs.declared.errors.StoreError.{StoreError}
use Rattle.strm_transmit.specs.declared.errors.StoreError.TheVariants as errors
use Rattle.strm_transmit.proofs.GuestLemmas.{reaction-unhosted, lowering-unhosted, empty-unhosted}
use Rattle.strm_guest_store.specs.Among.{HandlesAgree, IsAmongGuests, HasBytes}
use Rattle.strm_guest_store.proofs.CountLemmas.{makes_none, AsMany, few_kept, reaction-many, lowering-many}
use Rattle.strm_guest_store.proofs.MadeLemmas.{AreMade, none-made, added-made, same-made, reaction-made, lowering-made}
use Rattle.strm_guest_store.proofs.OwnerLemmas.{of_agreed, agreed, AreKept, kept_by, owned_by, uncancelled_by, copies_none, reaction-owned, reaction-stays, lowering-owned, lowering-stays, none-owned}

-- what a step leaves where it makes no stream
pub record LeavesGuests (old new : State) : Type 0 where
  pub unhosted : Unhosted new
  pub many : AsMany old new
  pub held : HandlesAgree new
  pub kept : AreKept new.streams
  pub untrapped : new.trapped ≡ false
  pub made : AreMade new.guests

pub kept_in : (state : State) → IsAmongGuests state → AreKept state.streams
kept_in state among = kept_by state.streams among.owned among.uncancelled

pub after-done : (old new : State) (r : Reaction) (reply : Reply) → IsAmongGuests old → LeavesGuests old r.state → Fits new nobody → r ≡ record { reply = reply; state = new } → IsAmongGuests new
after-done old new r reply among l f e =
    let now = subst (λ (r : Reaction). LeavesGuests old r.state) e l in
    record {
      unhosted = now.unhosted;
      fits = f;
      few = few_kept old new now.many among.few;
      held = now.held;
      owned = owned_by new.streams now.kept;
      uncancelled = uncancelled_by new.streams now.kept;
      untrapped = now.untrapped;
      made = now.made;
    }

pub after-call : (old new : State) (result : Result Reply StoreError) (r : Reaction) → IsAmongGuests old → LeavesGuests old r.state → Fits new nobody → Meets old new result r → IsAmongGuests new
after-call old new (Ok reply) r among l f m = after-done old new r reply among l f m
after-call old new (Err (errors.Refused refusal)) r among l f m = subst IsAmongGuests (sym m.1) among
after-call old new (Err (errors.HostFailed end)) r among l f m = absurd m
after-call old new (Err (errors.HostBroke end)) r among l f m = absurd m
after-call old new (Err (errors.BadItem stream)) r among l f m = after-done old new r _ among l f m.0
after-call old new (Err errors.StoreTrapped) r among l f m = subst IsAmongGuests (sym m.1) among
after-call old new (Err errors.OutOfMemory) r among l f m = subst IsAmongGuests (sym m.1) among

-- a step that makes no stream, and copies no item
abbrev pub is_plain : Act → Bool
is_plain act = makes_none act && copies_none act

-- it leaves the store so
step-leaves : (old : State) (act : Act) → is_plain act ≡ true → IsAmongGuests old → LeavesGuests old (reaction old act).state
step-leaves old act n among =
    let plain = and_parts (makes_none act) (copies_none act) n in
    record {
      unhosted = reaction-unhosted old act among.unhosted;
      many = reaction-many old act plain.0 among.unhosted.sound;
      held = agreed (reaction old act).state (reaction-held old act among.unhosted.sound (of_agreed old among.held));
      kept = reaction-owned old among.unhosted.sound (of_agreed old among.held) among.unhosted.none (kept_in old among) act;
      untrapped = reaction-stays old act plain.1 ∙ among.untrapped;
      made = reaction-made old among.made act;
    }

-- a call that takes no host ends
pub plain_among : (old new : State) (result : Result Reply StoreError) (act : Act) → IsAmongGuests old → is_plain act ≡ true → Meets old new result (reaction old act) → StillFits old new → IsAmongGuests new
plain_among old new result act among n m f =
    after-call old new result (reaction old act) among (step-leaves old act n among) (f nobody among.fits) m

shared-held : (state : State) (number g : ℕ) (o : Option Refusal) → first_of (lower_context_reasons state number g) ≡ o → IsSound state → StateIsHeld state → StateIsHeld (shares_unless state number g o).state
shared-held state number g (Some r) e sound held = held
shared-held state number g None e sound held = with_context_handle-held state number g sound held (lower_context_fits state number g e)

lowering-held : (state : State) (number g : ℕ) → IsSound state → StateIsHeld state → StateIsHeld (lowers_context state number g).state
unfolding lowers_context
lowering-held state number g sound held =
    cond_both state.trapped _ _ (λ (r : Reaction). StateIsHeld r.state) (λ t. held)
    (λ t. shared-held state number g (first_of (lower_context_reasons state number g)) refl sound held)

pub lowered_among : (old new : State) (result : Result Reply StoreError) (number g : ℕ) → IsAmongGuests old → Meets old new result (lowers_context old number g) → StillFits old new → IsAmongGuests new
lowered_among old new result number g among m f =
    after-call old new result (lowers_context old number g) among
    (record {
      unhosted = lowering-unhosted old number g among.unhosted;
      many = lowering-many old number g;
      held = agreed (lowers_context old number g).state (lowering-held old number g among.unhosted.sound (of_agreed old among.held));
      kept = lowering-owned old number g (kept_in old among);
      untrapped = lowering-stays old number g ∙ among.untrapped;
      made = lowering-made old among.made number g;
    })
    (f nobody among.fits) m

-- where there is no guest, none has a handle
empty-made : AreMade []
empty-made zero = none-made
empty-made (suc g) = none-made

pub empty_among : (tag : ℕ) (limits : Limits) → Fits (empty tag limits) nobody → IsAmongGuests (empty tag limits)
empty_among tag limits f = record {
  unhosted = empty-unhosted tag limits;
  fits = f;
  few = omega arith;
  held = agreed (empty tag limits) (StateIsHeld-empty tag limits);
  owned = owned_by [] none-owned;
  uncancelled = uncancelled_by [] none-owned;
  untrapped = refl;
  made = empty-made;
}

and-false : (a : Bool) → (a && false) ≡ false
and-false true = refl
and-false false = refl

bytes_inside : (length address count : ℕ) → address + count ≤ length → bytes_out_of_bounds length address count ≡ false
bytes_inside length address count h = ap (λ b. nat_lt 0 count && b) (le-ltb length (address + count) h) ∙ and-false (nat_lt 0 count)

-- guests of the same handles, sets and memory lengths
guests_among : (state : State) (guests : List Guest) → GuestsKeep state.guests guests → IsAmongGuests state → IsAmongGuests (record state { guests = guests })
guests_among state guests keeps among = record {
  unhosted = record { sound = IsSound-guests state guests keeps among.unhosted.sound; none = among.unhosted.none };
  fits = record { writers = among.fits.writers; readers = among.fits.readers };
  few = among.few;
  held = agreed (record state { guests = guests })
      (IsHeld-same state.guests guests state.streams state.streams (λ g. handles-same state.guests guests g keeps.handles) (λ s side. refl) (of_agreed state among.held));
  owned = among.owned;
  uncancelled = among.uncancelled;
  untrapped = among.untrapped;
  made = same-made state.guests guests (λ g. handles-same state.guests guests g keeps.handles) among.made;
}

-- bytes that are written into a memory, as many as they are
pub written_among : (state : State) (guest address : ℕ) (bytes : List ℕ) → IsAmongGuests state → HasBytes state guest address (length bytes) → IsAmongGuests (with_bytes state guest address bytes)
written_among state guest address bytes among h =
    let fits : BytesFit state guest address (length bytes) = record { there = h.there; inside = bytes_inside (length (memory_in state.guests guest)) address (length bytes) h.inside } in
    guests_among state _ (poke-keeps state guest address bytes fits) among

-- and such as are written into one that is lent
pub lent_among : (state : State) (guest : ℕ) (bytes : List ℕ) → IsAmongGuests state → IsAmongGuests (with_bytes_in state guest bytes)
lent_among state guest bytes among =
    let memory = memory_in state.guests guest in
    guests_among state _ (with_memory-keeps state.guests guest (refill (length memory) memory bytes) (sym (length_refill (length memory) memory bytes refl))) among

-- and one of which it is told where it lies
pub told_among : (state : State) (guest : ℕ) (base : Ptr) → IsAmongGuests state → IsAmongGuests (with_base_in state guest base)
told_among state guest base among = guests_among state _ (with_base-keeps state.guests guest base) among

-- a memory with more bytes behind its end
pub grown_among : (state : State) (guest : ℕ) (more : List ℕ) → IsAmongGuests state → MayGrow state guest more → IsAmongGuests (grown state guest more)
grown_among state guest more among may =
    let guests = (grown state guest more).guests in
    record {
      unhosted = record { sound = IsSound-grown state guest more may among.unhosted.sound; none = among.unhosted.none };
      fits = record { writers = among.fits.writers; readers = among.fits.readers };
      few = among.few;
      held = agreed (grown state guest more)
          (IsHeld-same state.guests guests state.streams state.streams (λ g. handles-same state.guests guests g (handles-grown state.guests guest (memory_in state.guests guest ++ more))) (λ s side. refl) (of_agreed state among.held));
      owned = among.owned;
      uncancelled = among.uncancelled;
      untrapped = among.untrapped;
      made = same-made state.guests guests (λ g. handles-same state.guests guests g (handles-grown state.guests guest (memory_in state.guests guest ++ more))) among.made;
    }

-- and one that lies elsewhere then
pub moved_among : (state : State) (guest : ℕ) (more : List ℕ) (at : Ptr) → IsAmongGuests state → MayGrow state guest more → IsAmongGuests (moved_to state guest more at)
moved_among state guest more at among may = told_among (grown state guest more) guest at (grown_among state guest more among may)

-- a guest over bytes that an engine lent
at-leaves : (state : State) (bytes : List ℕ) (at : Ptr) → IsAmongGuests state → LeavesGuests state (adds_guest_at state bytes at).state
at-leaves state bytes at among =
    let handed : StateIsHeld (with_guest_at state bytes at) =
    IsHeld-same state.guests (with_guest_at state bytes at).guests state.streams state.streams (λ g. handles-more state.guests (guest_at bytes at) g refl) (λ s side. refl) (of_agreed state among.held) in
    record {
      unhosted = record {
        sound = adds_guest_at-sound state bytes at among.unhosted.sound;
        none = adds_guest_at-by (λ (s : State). AreUnhosted s.streams) state bytes at among.unhosted.none (λ fits. among.unhosted.none);
      };
      many = adds_guest_at-by (λ (s : State). AsMany state s) state bytes at (record { many = refl; limits = refl }) (λ fits. record { many = refl; limits = refl });
      held = agreed (adds_guest_at state bytes at).state (adds_guest_at-by StateIsHeld state bytes at (of_agreed state among.held) (λ fits. handed));
      kept = adds_guest_at-by (λ (s : State). AreKept s.streams) state bytes at (kept_in state among) (λ fits. kept_in state among);
      untrapped = adds_guest_at-by (λ (s : State). s.trapped ≡ false) state bytes at among.untrapped (λ fits. among.untrapped);
      made = adds_guest_at-by (λ (s : State). AreMade s.guests) state bytes at among.made (λ fits. added-made state.guests (guest_at bytes at) none-made among.made);
    }

pub added_among : (old new : State) (result : Result Reply StoreError) (bytes : List ℕ) (at : Ptr) → IsAmongGuests old → Meets old new result (adds_guest_at old bytes at) → StillFits old new → IsAmongGuests new
added_among old new result bytes at among m f =
    after-call old new result (adds_guest_at old bytes at) among (at-leaves old bytes at among) (f nobody among.fits) m
