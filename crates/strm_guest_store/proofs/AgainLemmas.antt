-- A making that may give a number again leaves the state one of a store among guests, and memories where they lay.
use Rattle.std.proofs.Common.{◌≡◌, ℕ, false, List, Result, refl, ◌∙◌, subst}
use Rattle.strm_codes.specs.declared.codes.TransmitIndex.{TransmitIndex}
use Rattle.strm_handles.specs.Handles.{inserted}
use Rattle.strm_machine.specs.State.{State, Guest, guest_in, no_guest}
use Rattle.strm_machine.specs.Acts.{act_of}
use Rattle.strm_machine.specs.Bases.{BasesStay}
use Rattle.strm_machine.specs.Making.{read_entry, write_entry, with_read_end, with_ends}
use Rattle.strm_machine.specs.Reactions.{Reaction}
use Rattle.strm_machine.specs.Soundness.{IsSound}
use Rattle.strm_machine.specs.declared.acts.Act.{Act}
use Rattle.strm_machine.specs.declared.acts.Act.TheVariants.{Make}
use Rattle.strm_machine.specs.declared.acts.Making.TheVariants.{Between}
use Rattle.strm_machine.specs.declared.replies.Reply.{Reply}
use Rattle.strm_machine.specs.declared.steps.Step.{Step}
use Rattle.strm_machine.proofs.BaseLemmas.{reaction-bases}
use Rattle.strm_machine.proofs.HeldLemmas.{StateIsHeld}
use Rattle.strm_machine.proofs.ReactionLemmas.{reaction-performs}
use Rattle.strm_machine.proofs.TableLemmas.{set-keeps}
use Rattle.strm_places.specs.Again.{with_pair_at, reaction_at, reacts_at}
use Rattle.strm_places.proofs.AgainLemmas.{reaction_at-by, performs_at-by, reaction_at-held}
use Rattle.strm_transmit.specs.Again.{MeetsAt, GrowsFull}
use Rattle.strm_transmit.specs.Guests.{AreUnhosted, nobody}
use Rattle.strm_transmit.specs.Hosted.{StillFits}
use Rattle.strm_transmit.specs.Meets.{Meets}
use Rattle.strm_transmit.specs.declared.errors.StoreError.{StoreError}
use Rattle.strm_transmit.proofs.AgainLemmas.{meets_leaves}
use Rattle.strm_transmit.proofs.GuestLemmas.{making-unhosted}
use Rattle.strm_guest_store.specs.Among.{IsAmongGuests}
use Rattle.strm_guest_store.proofs.CountLemmas.{Grown, grown-not, making-grown, few_grown}
use Rattle.strm_guest_store.proofs.AmongLemmas.{kept_in}
use Rattle.strm_guest_store.proofs.MadeLemmas.{AreMade, making-made}
use Rattle.strm_guest_store.proofs.OwnerLemmas.{of_agreed, agreed, AreKept, owned_by, uncancelled_by, making-owned, making-stays}

-- ## Memories

-- handles put into the tables of two guests move no memory
ends-bases : (guests : List Guest) (writer reader : ℕ) (ty : TransmitIndex) (n : ℕ) → BasesStay guests (with_ends guests writer reader ty n)
ends-bases guests writer reader ty n k =
    let held = with_read_end guests reader ty n in
    set-keeps (λ (x : Guest). x.base) held writer k (record (guest_in held writer) { handles = inserted (guest_in held writer).handles (write_entry ty n) }) no_guest refl
    ∙ set-keeps (λ (x : Guest). x.base) guests reader k (record (guest_in guests reader) { handles = inserted (guest_in guests reader).handles (read_entry ty n) }) no_guest refl

in-bases : (state : State) (n writer reader : ℕ) (ty : TransmitIndex) → BasesStay state.guests (with_pair_at state n writer reader ty).guests
unfolding with_pair_at
in-bases state n writer reader ty = ends-bases state.guests writer reader ty n

making-bases : (n : ℕ) (state : State) (act : Act) → IsSound state → BasesStay state.guests (reaction_at n state act).state.guests
making-bases n state act sound =
    let P : Reaction → Type 0 = λ r. BasesStay state.guests r.state.guests in
    reaction_at-by P n state act
    (record {
      trapped = λ t k. refl;
      refused = λ r t e k. refl;
      performed = λ t e.
          performs_at-by P n state act (λ writer reader ty is. in-bases state n writer reader ty)
          (subst P (reaction-performs state act t e) (reaction-bases state act sound));
    })

pub number-bases : (old new : State) (result : Result Reply StoreError) (n : ℕ) (act : Act) → IsAmongGuests old → Meets old new result (reaction_at n old act) → BasesStay old.guests new.guests
number-bases old new result n act among m =
    meets_leaves (λ (s : State). BasesStay old.guests s.guests) old new result (reaction_at n old act) (λ k. refl) (making-bases n old act among.unhosted.sound) m

pub step_at-bases : (old new : State) (result : Result Reply StoreError) (n : ℕ) (step : Step) → IsAmongGuests old → Meets old new result (reacts_at n old step) → BasesStay old.guests new.guests
step_at-bases old new result n step among m = number-bases old new result n (act_of step) among m

pub again_stays : (old new : State) (result : Result Reply StoreError) (act : Act) → IsAmongGuests old → MeetsAt old new result (λ n. reaction_at n old act) → BasesStay old.guests new.guests
again_stays old new result act among m = number-bases old new result m.number act among m.meets

-- ## The whole store

module _ (old new : State) (result : Result Reply StoreError) (writer reader : ℕ) (ty : TransmitIndex) where
  abbrev act : Act
  act = Make (Between writer reader ty)

  pub again_among : IsAmongGuests old → MeetsAt old new result (λ n. reaction_at n old act) → GrowsFull old.streams new.streams → IsSound new → StillFits old new → IsAmongGuests new
  again_among among m grows sound fits =
      let r = reaction_at m.number old act in
      let held : StateIsHeld old = of_agreed old among.held in
      let kept : AreKept new.streams = meets_leaves (λ (s : State). AreKept s.streams) old new result r (kept_in old among) (making-owned old among.unhosted.sound held among.unhosted.none (kept_in old among) m.number act) m.meets in
      record {
        unhosted = record {
          sound = sound;
          none = meets_leaves (λ (s : State). AreUnhosted s.streams) old new result r among.unhosted.none (making-unhosted m.number old act m.free among.unhosted) m.meets;
        };
        fits = fits nobody among.fits;
        few = few_grown old new writer reader ty
            (meets_leaves (Grown old act) old new result r (grown-not old act) (making-grown m.number old writer reader ty) m.meets) grows among.few;
        held = agreed new (meets_leaves StateIsHeld old new result r held (reaction_at-held m.number old act m.free among.unhosted.sound held) m.meets);
        owned = owned_by new.streams kept;
        uncancelled = uncancelled_by new.streams kept;
        untrapped = meets_leaves (λ (s : State). s.trapped ≡ false) old new result r among.untrapped (making-stays old m.number act refl ∙ among.untrapped) m.meets;
        made = meets_leaves (λ (s : State). AreMade s.guests) old new result r among.made (making-made old among.made m.number act) m.meets;
      }
