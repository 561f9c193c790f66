-- A store among guests stays one where a guest ends or begins, and all other memories lie where they lay.
use Rattle.std.proofs.Common.{◌≡◌, ◌≢◌, ℕ, true, false, List, ◌<◌, arith, ap, length, refl, sym, subst, ◌∙◌, ⊎_elim, inl, inr, None}
use Rattle.std.specs.Prelude.{◌⊎◌, Result, Ok, Err, OnOk, OnErr, is_some}
use Rattle.std.specs.Option.{option_map}
use Rattle.std.proofs.lemmas.Bool.{cases_eq, false_from_ne_true}
use Rattle.std.proofs.lemmas.List.{get_or-set_other}
use Rattle.strm_codes.specs.declared.refusals.Refusal.{Refusal}
use Rattle.strm_events.specs.Reports.{report_of}
use Rattle.strm_machine.specs.Endings.{pending_of, report_on}
use Rattle.strm_machine.specs.Moments.{is_end}
use Rattle.strm_machine.specs.Sides.{opposite, end_of}
use Rattle.strm_machine.specs.Tests.{end_named}
use Rattle.strm_machine.specs.State.{State, Guest, no_guest, guest_in, stream_at, is_gone}
use Rattle.strm_machine.specs.declared.streams.End.{End}
use Rattle.strm_machine.specs.declared.streams.Owner.{Owner}
use Rattle.strm_machine.specs.declared.streams.Owner.TheVariants.{Held, Host, Loose, Gone}
use Rattle.strm_machine.specs.declared.streams.Side.{Side}
use Rattle.strm_machine.specs.declared.streams.Stream.{Stream}
use Rattle.strm_machine.specs.Soundness.{IsSound}
use Rattle.strm_machine.specs.Bases.{BasesStayBut}
use Rattle.strm_machine.specs.Refusals.{Reason, first_of}
use Rattle.strm_machine.specs.declared.limits.Limits.{Limits}
use Rattle.strm_machine.specs.declared.replies.Reply.{Reply}
use Rattle.strm_machine.proofs.HeldLemmas.{StateIsHeld}
use Rattle.strm_places.specs.Lives.{with_guest_in, handles_given_up, ended, begins_as, OwesNone, IsGivenUp, is_made_by_steps, HasOnlyMade}
use Rattle.strm_places.proofs.CalmLemmas.{given_up-calm}
use Rattle.strm_places.proofs.FoldLemmas.{ended-others}
use Rattle.strm_places.proofs.LivesLemmas.{Replaces, IsSound-replaced, held-replaced, begins_as-by}
use Rattle.strm_places.proofs.PeerLemmas.{PeersStay, peers_stay}
use Rattle.strm_places.proofs.PlayLemmas.{ends_are_played}
use Rattle.strm_transmit.specs.Guests.{AreUnhosted, nobody}
use Rattle.strm_transmit.specs.Hosted.{StillFits}
use Rattle.strm_transmit.specs.Lives.{StaysAmong}
use Rattle.strm_transmit.specs.Meets.{Meets}
use Rattle.strm_transmit.specs.declared.errors.StoreError.{StoreError}
use Rattle.strm_guest_store.specs.Among.{AreUncancelled, IsAmongGuests}
use Rattle.strm_guest_store.specs.Ends.{IsOfOther, LosesEnds, IsPeer, report_alone}
use Rattle.strm_guest_store.specs.OwnStreams.{IsMadeReady}
use Rattle.strm_guest_store.proofs.AmongLemmas.{LeavesGuests, kept_in, after-call}
use Rattle.strm_transmit.proofs.AgainLemmas.{meets_leaves}
use Rattle.strm_guest_store.proofs.CountLemmas.{AsMany}
use Rattle.strm_guest_store.proofs.MadeLemmas.{IsMade, AreMade, none-made, replaced-made}
use Rattle.strm_guest_store.proofs.OwnerLemmas.{of_agreed, agreed, AreKept}
use Rattle.strm_guest_store.proofs.OwnReadyLemmas.{unmade}
use Rattle.strm_guest_store.proofs.TableGains.{table}

-- ## A guest that ends

-- nothing is being cancelled then
ended-calm : (state : State) (g : ℕ) → IsAmongGuests state → AreUncancelled (ended state g).streams
ended-calm state g among k side =
    (given_up-calm state g (λ n. record { none = among.unhosted.none n; uncancelled = among.uncancelled n }) k).uncancelled side

-- the guest is as one that was never made, where its table had only what steps make
abbrev EndsMade : State → State → ℕ → Type 0
EndsMade old new g = HasOnlyMade old g → guest_in new.guests g ≡ no_guest

-- so tables hold only that still: the guest's none, and all others have what they had
ended-made : (old new : State) (g : ℕ) → new ≡ ended old g → guest_in new.guests g ≡ no_guest → AreMade old.guests → AreMade new.guests
ended-made old new g e nothing all k = by (cases_eq k g)
  where
    by : (k ≡ g) ⊎ (k ≢ g) → IsMade (table new.guests k)
    by (inl here) = subst (λ (y : Guest). IsMade y.handles) (sym (ap (guest_in new.guests) here ∙ nothing)) none-made
    by (inr ne) = subst (λ (y : Guest). IsMade y.handles) (sym (ap (λ (s : State). guest_in s.guests k) e ∙ ended-others old g k ne)) (all k)

pub ended_among : (old new : State) (g : ℕ) (result : Result (Unit {0}) Refusal) → IsAmongGuests old → OnOk result (new ≡ ended old g) → OnOk result (EndsMade old new g) → OnOk result (StaysAmong old new) → OnErr result (new ≡ old) → StillFits old new → IsAmongGuests new
ended_among old new g (Err refusal) among ok nothing s err f = subst IsAmongGuests (sym err) among
ended_among old new g (Ok done) among e nothing s err f = record {
  unhosted = record { sound = s.sound; none = s.unhosted };
  fits = f nobody among.fits;
  few = omega (arith, among.few, s.many, ap (λ (l : Limits). l.places) s.limits);
  held = record { tables = s.tables; named = s.named; held = s.held };
  owned = s.owned;
  uncancelled = subst (λ (state : State). AreUncancelled state.streams) (sym e) (ended-calm old g among);
  untrapped = s.trapped ∙ among.untrapped;
  made = ended-made old new g e (nothing (among.made g)) among.made;
}

-- and it is as one that was never made
pub ended_nothing : (old new : State) (g : ℕ) (result : Result (Unit {0}) Refusal) → IsAmongGuests old → OnOk result (EndsMade old new g) → OnOk result (guest_in new.guests g ≡ no_guest)
ended_nothing old new g (Err refusal) among nothing = tt
ended_nothing old new g (Ok done) among nothing = nothing (among.made g)

-- a guest in the place of another leaves all other memories where they lay
replaced-bases : (state : State) (g : ℕ) (x : Guest) → BasesStayBut g state.guests (with_guest_in state g x).guests
replaced-bases state g x k ne = ap (λ (y : Guest). y.base) (get_or-set_other state.guests g k x no_guest ne)

pub ended_others : (old new : State) (g : ℕ) (result : Result (Unit {0}) Refusal) → OnOk result (new ≡ ended old g) → OnErr result (new ≡ old) → (k : ℕ) → k ≢ g → guest_in new.guests k ≡ guest_in old.guests k
ended_others old new g (Err refusal) ok err k ne = ap (λ (s : State). guest_in s.guests k) err
ended_others old new g (Ok done) e err k ne = ap (λ (s : State). guest_in s.guests k) e ∙ ended-others old g k ne

pub ended_stays : (old new : State) (g : ℕ) (result : Result (Unit {0}) Refusal) → OnOk result (new ≡ ended old g) → OnErr result (new ≡ old) → BasesStayBut g old.guests new.guests
ended_stays old new g result ok err k ne = ap (λ (y : Guest). y.base) (ended_others old new g result ok err k ne)

-- ## A guest that begins

begun-leaves : (state : State) (g : ℕ) (x : Guest) (reasons : List Reason) → IsAmongGuests state → (first_of reasons ≡ None → Replaces state g x) → LeavesGuests state (begins_as state g x reasons).state
begun-leaves state g x reasons among replaces = record {
  unhosted = record {
    sound = begins_as-by state g x reasons IsSound among.unhosted.sound (λ none. IsSound-replaced state g x (replaces none) among.unhosted.sound);
    none = begins_as-by state g x reasons (λ (s : State). AreUnhosted s.streams) among.unhosted.none (λ none. among.unhosted.none);
  };
  many = begins_as-by state g x reasons (λ (s : State). AsMany state s) (record { many = refl; limits = refl }) (λ none. record { many = refl; limits = refl });
  held = agreed (begins_as state g x reasons).state (begins_as-by state g x reasons StateIsHeld (of_agreed state among.held) (λ none. held-replaced state g x (replaces none) (of_agreed state among.held)));
  kept = begins_as-by state g x reasons (λ (s : State). AreKept s.streams) (kept_in state among) (λ none. kept_in state among);
  untrapped = begins_as-by state g x reasons (λ (s : State). s.trapped ≡ false) among.untrapped (λ none. among.untrapped);
  made = begins_as-by state g x reasons (λ (s : State). AreMade s.guests) among.made
      (λ none. replaced-made state.guests g x (λ n. ap is_made_by_steps ((replaces none).looks.entries n) ∙ among.made g n) among.made);
}

pub begun_among : (old new : State) (g : ℕ) (x : Guest) (reasons : List Reason) (result : Result Reply StoreError) → IsAmongGuests old → (first_of reasons ≡ None → Replaces old g x) → Meets old new result (begins_as old g x reasons) → StillFits old new → IsAmongGuests new
begun_among old new g x reasons result among replaces m f =
    after-call old new result (begins_as old g x reasons) among (begun-leaves old g x reasons among replaces) (f nobody among.fits) m

pub begun_stays : (old new : State) (g : ℕ) (x : Guest) (reasons : List Reason) (result : Result Reply StoreError) → Meets old new result (begins_as old g x reasons) → BasesStayBut g old.guests new.guests
begun_stays old new g x reasons result m =
    meets_leaves (λ (s : State). BasesStayBut g old.guests s.guests) old new result (begins_as old g x reasons) (λ k ne. refl)
    (begins_as-by old g x reasons (λ (s : State). BasesStayBut g old.guests s.guests) (λ k ne. refl) (λ none. replaced-bases old g x)) m

-- ## Where it is a play

pub ends_played : (state : State) (g : ℕ) → IsAmongGuests state → g < length state.guests → OwesNone state g → IsGivenUp g state (handles_given_up state g)
ends_played state g among there owes =
    ends_are_played state g
    (record {
      sound = among.unhosted.sound;
      calm = λ n. record { none = among.unhosted.none n; uncancelled = among.uncancelled n };
      untrapped = among.untrapped;
      there = there;
      owes = owes;
    })

-- ## What becomes of streams

-- an owner is the guest under some handle, or none of its handles is meant
by_guest : {P : Type 0} (g : ℕ) (owner : Owner) → ((handle : ℕ) → owner ≡ Held g handle → P) → (((handle : ℕ) → owner ≢ Held g handle) → P) → P
by_guest g (Held k handle) mine other =
    ⊎_elim (λ e. mine handle (ap (λ n. Held n handle) e)) (λ ne. other (λ h same. ne (held_by h same))) (cases_eq k g)
  where
    held_by : (h : ℕ) → Held k handle ≡ Held g h → k ≡ g
    held_by h same = cc
by_guest g (Host n) mine other = other (λ h same. cc)
by_guest g Loose mine other = other (λ h same. cc)
by_guest g Gone mine other = other (λ h same. cc)

module _ (state : State) (g s : ℕ) (among : IsAmongGuests state) (there : g < length state.guests) where
  abbrev was : Stream
  was = stream_at state s

  abbrev is : Stream
  is = stream_at (ended state g) s

  peers : PeersStay state (ended state g) g
  peers = peers_stay state g among.unhosted.sound (λ n. record { none = among.unhosted.none n; uncancelled = among.uncancelled n }) there

  -- no handle of the guest names an end that it has not
  unnamed : (side : Side) → IsOfOther g (end_of side was) → (handle : ℕ) → is_end s side (end_named state g handle) ≡ false
  unnamed side other handle = false_from_ne_true (is_end s side (end_named state g handle)) (λ named. other handle (among.held.named g handle s side named))

  pub loses_ends : LosesEnds g was is
  loses_ends = record {
    mine = λ side handle owned. let over = peers.over handle s side (among.held.held g handle s side owned) in record { owner = over.owner; operation = over.operation };
    others = λ side other. peers.same s side (unnamed side other);
    kind = (peers.rest s).kind;
    payload = (peers.rest s).payload;
    passed = (peers.rest s).passed;
    received = (peers.rest s).received;
  }

  pub peers_told : (side : Side) → IsPeer g side was → report_on side is ≡ report_alone side was
  peers_told side peer =
      let gone : is_gone (end_of (opposite side) is).owner ≡ true = ap is_gone (loses_ends.mine (opposite side) peer.handle peer.theirs).owner in
      let same : end_of side is ≡ end_of side was = loses_ends.others side peer.other in
      ap (λ kind. report_of kind (option_map pending_of (end_of side is).operation) (is_gone (end_of (opposite side) is).owner) (end_of side is).told is.passed) loses_ends.kind
      ∙ ap (λ (end : End). report_of was.kind (option_map pending_of end.operation) (is_gone (end_of (opposite side) is).owner) end.told is.passed) same
      ∙ ap (λ b. report_of was.kind (option_map pending_of (end_of side was).operation) b (end_of side was).told is.passed) gone
      ∙ ap (λ b. report_of was.kind (option_map pending_of (end_of side was).operation) true (end_of side was).told b) loses_ends.passed

  -- where neither end is the guest's, each is to be told what it was
  stays_told : (side : Side) → IsOfOther g (end_of side was) → IsOfOther g (end_of (opposite side) was) → report_on side is ≡ report_on side was
  stays_told side this that =
      ap (λ kind. report_of kind (option_map pending_of (end_of side is).operation) (is_gone (end_of (opposite side) is).owner) (end_of side is).told is.passed) loses_ends.kind
      ∙ ap (λ (end : End). report_of was.kind (option_map pending_of end.operation) (is_gone (end_of (opposite side) is).owner) end.told is.passed) (loses_ends.others side this)
      ∙ ap (λ (end : End). report_of was.kind (option_map pending_of (end_of side was).operation) (is_gone end.owner) (end_of side was).told is.passed) (loses_ends.others (opposite side) that)
      ∙ ap (λ b. report_of was.kind (option_map pending_of (end_of side was).operation) (is_gone (end_of (opposite side) was).owner) (end_of side was).told b) loses_ends.passed

  -- an end that is not gone, and is made ready, is across from one of the guest's
  pub newly_told : (side : Side) → is_gone (end_of side is).owner ≡ false → IsMadeReady side was is → IsPeer g side was
  newly_told side left made =
      by_guest g (end_of side was).owner
      (λ handle owned. absurd (unmade false true refl refl (sym (ap is_gone (loses_ends.mine side handle owned).owner) ∙ left)))
      (λ this. by_guest g (end_of (opposite side) was).owner
      (λ handle theirs. record { other = this; handle = handle; theirs = theirs })
      (λ that. absurd (unmade _ _ made.before made.now (ap is_some (stays_told side this that)))))
