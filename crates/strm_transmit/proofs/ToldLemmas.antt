-- What the store knows of ready members, and that handles and ends agree, after each change: a change of
-- one stream leaves what is known of the ends of others, and then those of this one are told again.
use Rattle.std.proofs.Common.{◌≡◌, ◌≢◌, ℕ, zero, suc, ◌<◌, ◌≤◌, Bool, true, false, ◌&&◌, List, [], ◌∷◌, ◌++◌, length, get_or, set, Option, Some, None, is_some, Ok, Err, arith, refl, sym, ap, ◌∙◌, subst, ⊎_elim, inl, inr}
use Rattle.std.specs.Prelude.{nat_eq, ◌==◌, ◌⊎◌, is_ok}
use Rattle.std.specs.Cmp.{nat_eq_equiv}
use Rattle.std.specs.FinMap.{get-empty}
use Rattle.std.specs.Ordering.{nat_cmp}
use Rattle.std.proofs.lemmas.Bool.{cases_eq, and_parts, eqb-true}
use Rattle.std.proofs.lemmas.List.{get_or-set_same, get_or-set_other, get_or_past, get_or_push}
use Rattle.strm_waitable_sets.specs.Sets.{Sets, is_member}
use Rattle.strm_codes.specs.OptionalNumbers.{is_number}
use Rattle.strm_machine.specs.Words.{Guest, State, Handles, no_stream, stream_at, sets_in, guest_in, with_table, end_of, opposite, same_side, is_end, Name, end_named, is_held, IsSound}
use Rattle.strm_machine.specs.declared.streams.Owner.{Owner}
use Rattle.strm_machine.specs.declared.streams.Owner.TheVariants.{Held}
use Rattle.strm_machine.specs.declared.streams.Side.{Side}
use Rattle.strm_machine.specs.declared.streams.Side.TheVariants.{Writing, Reading}
use Rattle.strm_machine.specs.declared.streams.Stream.{Stream}
use Rattle.strm_machine.specs.Tests.{side_of}
use Rattle.strm_machine.specs.WaitableSets.{report_of_named, is_ready}
use Rattle.strm_machine.proofs.SideLemmas.{same_side_is}
use Rattle.strm_machine.proofs.NamedEndLemmas.{end_itself}
use Rattle.strm_machine.proofs.AgreeLemmas.{is_end-once}
use Rattle.strm_machine.proofs.HeldLemmas.{IsHeld, StateIsHeld, names_in}
use Rattle.strm_machine.proofs.TableLemmas.{owner_in, set-keeps, at_push, owner-set_other, owner-push_other}
use Rattle.strm_machine.proofs.TurnLemmas.{sets_of}
use Rattle.strm_machine.specs.State.{no_guest}
use Rattle.std.proofs.Math.ListN.{get_or-map}
use Rattle.strm_waitable_sets.specs.Sets.{no_sets, set_of, handle_left, handle_joined}
use Rattle.strm_waitable_sets.proofs.SetLemmas.{is_member-left_same, is_member-left_other, is_member-joined_same, is_member-joined_other}
use Rattle.strm_waitable_sets.proofs.TieLemmas.{eq-other}
use Rattle.strm_transmit.specs.Telling.{Ready, SaysOf, member_of, has_report, AreTold, Retells, Leaves}

pub never : true ≡ false → ⊥
never e = cc

-- ## Members

-- where no guest is, there is no member
pub no_member_past : (guests : List Guest) (g number handle : ℕ) → length guests ≤ g → member_of guests g number handle ≡ false
no_member_past guests g number handle l = ap (λ (x : Guest). is_member x.sets number handle) (get_or_past guests g no_guest l) ∙ ap (λ o. is_number o number) (get-empty nat_cmp handle)

-- members are those of other guests
abbrev pub SameMembers : List Guest → List Guest → Type 0
SameMembers old new = (g number handle : ℕ) → member_of new g number handle ≡ member_of old g number handle

pub members-with_table : (guests : List Guest) (g : ℕ) (handles : Handles) (sets : Sets) → ((number handle : ℕ) → is_member sets number handle ≡ member_of guests g number handle) → SameMembers guests (with_table guests g handles sets)
members-with_table guests g handles sets same k number handle =
    set-keeps (λ (x : Guest). is_member x.sets number handle) guests g k (record (guest_in guests g) { handles = handles; sets = sets }) no_guest (same number handle)

pub members-sets : (old new : List Guest) → sets_of new ≡ sets_of old → SameMembers old new
members-sets old new e g number handle =
    ap (λ (s : Sets). is_member s number handle)
    (sym (get_or-map (λ (x : Guest). x.sets) new g no_guest) ∙ ap (λ l. get_or l g no_sets) e ∙ get_or-map (λ (x : Guest). x.sets) old g no_guest)

-- ## All streams but one

-- what is known of the ends of all streams but one
pub record ToldBut (guests : List Guest) (streams : List Stream) (s : ℕ) (ready : Ready) : Type 0 where
  pub told : (g number handle k : ℕ) (side : Side) → k ≢ s → owner_in streams k side ≡ Held g handle →
      member_of guests g number handle ≡ true → SaysOf ready g number handle (has_report side (get_or streams k no_stream))
  pub within : (g number handle : ℕ) → member_of guests g number handle ≡ false → SaysOf ready g number handle false

-- the streams but one are those that were
abbrev pub SameBesides : List Stream → List Stream → ℕ → Type 0
SameBesides old new s = (k : ℕ) → k ≢ s → ◌≡◌ {A = Stream} (get_or new k no_stream) (get_or old k no_stream)

pub besides-set : (streams : List Stream) (s : ℕ) (x : Stream) → SameBesides streams (set streams s x) s
besides-set streams s x k ne = get_or-set_other streams s k x no_stream ne

pub besides-push : (streams : List Stream) (x : Stream) → SameBesides streams (streams ++ x ∷ []) (length streams)
besides-push streams x k ne =
    at_push streams x no_stream k (λ y. ◌≡◌ {A = Stream} y (get_or streams k no_stream)) (λ here. absurd (ne here)) (λ other. refl)

pub but-besides : (guests others : List Guest) (streams more : List Stream) (s : ℕ) (ready : Ready) → SameMembers guests others → SameBesides streams more s → AreTold guests streams ready → ToldBut others more s ready
but-besides guests others streams more s ready members same h = record {
  told = λ g number handle k side ne owner member.
      let e = same k ne in
      subst (λ (x : Stream). SaysOf ready g number handle (has_report side x)) (sym e)
      (h.told g number handle k side (sym (ap (λ (x : Stream). (end_of side x).owner) e) ∙ owner) (sym (members g number handle) ∙ member));
  within = λ g number handle none. h.within g number handle (sym (members g number handle) ∙ none);
}

pub but-members : (guests others : List Guest) (streams : List Stream) (s : ℕ) (ready : Ready) → SameMembers guests others → ToldBut guests streams s ready → ToldBut others streams s ready
but-members guests others streams s ready members h = record {
  told = λ g number handle k side ne owner member. h.told g number handle k side ne owner (sym (members g number handle) ∙ member);
  within = λ g number handle none. h.within g number handle (sym (members g number handle) ∙ none);
}

-- guests with the members of others, beside the same streams
pub told-same : (guests others : List Guest) (streams : List Stream) (ready : Ready) → SameMembers guests others → AreTold guests streams ready → AreTold others streams ready
told-same guests others streams ready members h = record {
  told = λ g number handle s side owner member. h.told g number handle s side owner (sym (members g number handle) ∙ member);
  within = λ g number handle none. h.within g number handle (sym (members g number handle) ∙ none);
}

-- ## The ends of that stream

unsame : (side : Side) → side ≡ opposite side → true ≡ false
unsame Writing e = cc
unsame Reading e = cc

module _ (guests : List Guest) (streams : List Stream) (s : ℕ) (held : IsHeld guests streams) where
  -- the ends under one handle are one
  once : (g handle k n : ℕ) (a b : Side) → owner_in streams k a ≡ Held g handle → owner_in streams n b ≡ Held g handle → (k ≡ n) × (a ≡ b)
  once g handle k n a b one other =
      is_end-once k n a b (names_in guests g handle) (held.agree.held g handle k a one) (held.agree.held g handle n b other)

  -- they were told again
  pub told-retold : (old new : Ready) (x : Stream) → get_or streams s no_stream ≡ x → ToldBut guests streams s old → Retells guests x old new → AreTold guests streams new
  told-retold old new x e but retold = record {
    told = told;
    within = λ g number handle none. retold.others g number handle false (but.within g number handle none) (λ side owner member. sym member ∙ none);
  }
    where
      here : (side : Side) (g handle : ℕ) → (end_of side x).owner ≡ Held g handle → owner_in streams s side ≡ Held g handle
      here side g handle owner = ap (λ (y : Stream). (end_of side y).owner) e ∙ owner

      told : (g number handle k : ℕ) (side : Side) → owner_in streams k side ≡ Held g handle → member_of guests g number handle ≡ true → SaysOf new g number handle (has_report side (get_or streams k no_stream))
      told g number handle k side owner member =
          ⊎_elim
          (λ same.
          let owned : (end_of side x).owner ≡ Held g handle = sym (ap (λ (y : Stream). (end_of side y).owner) (ap (λ n. get_or streams n no_stream) same ∙ e)) ∙ owner in
          subst (λ (y : Stream). SaysOf new g number handle (has_report side y)) (sym (ap (λ n. get_or streams n no_stream) same ∙ e))
          (retold.told side g number handle owned (λ across. never (unsame side (once g handle s s side (opposite side) (here side g handle owned) (here (opposite side) g handle across)).1)) member))
          (λ apart.
          retold.others g number handle (has_report side (get_or streams k no_stream)) (but.told g number handle k side apart owner member)
          (λ other across _. absurd (apart (once g handle k s side other owner (here other g handle across)).0)))
          (cases_eq k s)

  -- or no guest has one
  pub told-unheld : (ready : Ready) → ((side : Side) → is_held (owner_in streams s side) ≡ false) → ToldBut guests streams s ready → AreTold guests streams ready
  told-unheld ready none but = record {
    told = λ g number handle k side owner member. but.told g number handle k side (λ same. never (sym (ap is_held (sym (ap (λ n. owner_in streams n side) same) ∙ owner)) ∙ none side)) owner member;
    within = but.within;
  }

-- ## A handle that leaves its set

-- one handle of a guest is in no set, and all others are in those that they were in
pub record LeavesSet (guests others : List Guest) (g handle : ℕ) : Type 0 where
  pub gone : (number : ℕ) → member_of others g number handle ≡ false
  pub rest : (k number other : ℕ) → (k ≡ g → other ≢ handle) → member_of others k number other ≡ member_of guests k number other

no_member : (home : Option ℕ) (number : ℕ) → home ≢ Some number → is_number home number ≡ false
no_member None number ne = refl
no_member (Some other) number ne = ⊎_elim (λ e. absurd (ne (ap Some e))) (λ ne. eq-other other number ne) (cases_eq other number)

-- one pair of numbers or another
one_pair : (k g other handle : ℕ) → ((k ≡ g) × (other ≡ handle)) ⊎ (k ≡ g → other ≢ handle)
one_pair k g other handle =
    ⊎_elim
    (λ e. ⊎_elim (λ f. inl (e, f)) (λ ne. inr (λ _. ne)) (cases_eq other handle))
    (λ ne. inr (λ e. absurd (ne e)))
    (cases_eq k g)

module _ (guests others : List Guest) (streams : List Stream) (s g handle : ℕ) (leaves : LeavesSet guests others g handle) where
  -- one that is no member does not matter
  beside : (k number other : ℕ) → member_of others k number other ≡ true → k ≡ g → other ≢ handle
  beside k number other member here same =
      never (sym member ∙ ap (λ n. member_of others n number other) here ∙ ap (member_of others g number) same ∙ leaves.gone number)

  pub but-left : (old new : Ready) (home : Option ℕ) → home ≡ set_of (sets_in guests g) handle → Leaves g handle home old new → ToldBut guests streams s old → ToldBut others streams s new
  but-left old new home is handle_left but = record {
    told = λ k number other n side ne owner member.
        let apart = beside k number other member in
        handle_left.others k number other (has_report side (get_or streams n no_stream)) (but.told k number other n side ne owner (sym (leaves.rest k number other apart) ∙ member)) apart;
    within = λ k number other none.
        ⊎_elim
        (λ same.
        let says = handle_left.gone number (λ ne. but.within g number handle (ap (λ o. is_number o number) (sym is) ∙ no_member home number ne)) in
        subst (λ n. SaysOf new n number other false) (sym same.0) (subst (λ h. SaysOf new g number h false) (sym same.1) says))
        (λ apart. handle_left.others k number other false (but.within k number other (sym (leaves.rest k number other apart) ∙ none)) apart)
        (one_pair k g other handle);
  }

-- all streams are all but one
pub as_but : (guests : List Guest) (streams : List Stream) (s : ℕ) (ready : Ready) → AreTold guests streams ready → ToldBut guests streams s ready
as_but guests streams s ready h = record { told = λ g number handle k side ne. h.told g number handle k side; within = h.within }

-- a table with the sets that the handle left
pub leaves-left : (guests : List Guest) (g : ℕ) (handles : Handles) (handle : ℕ) → g < length guests → LeavesSet guests (with_table guests g handles (handle_left (sets_in guests g) handle)) g handle
leaves-left guests g handles handle l =
    let after = with_table guests g handles (handle_left (sets_in guests g) handle) in
    let here : ◌≡◌ {A = Sets} (sets_in after g) (handle_left (sets_in guests g) handle) = ap (λ (x : Guest). x.sets) (get_or-set_same guests g (record (guest_in guests g) { handles = handles; sets = handle_left (sets_in guests g) handle }) no_guest l) in
    record {
      gone = λ number. ap (λ (x : Sets). is_member x number handle) here ∙ is_member-left_same (sets_in guests g) handle number;
      rest = λ k number other apart.
          ⊎_elim
          (λ e.
          ap (λ n. member_of after n number other) e ∙ ap (λ (x : Sets). is_member x number other) here
          ∙ is_member-left_other (sets_in guests g) handle number other (apart e) ∙ ap (λ n. member_of guests n number other) (sym e))
          (λ ne. ap (λ (x : Guest). is_member x.sets number other) (get_or-set_other guests g k (record (guest_in guests g) { handles = handles; sets = handle_left (sets_in guests g) handle }) no_guest ne))
          (cases_eq k g);
    }

-- of a store whose streams stay
pub told-left : (guests others : List Guest) (streams : List Stream) (g handle : ℕ) (old new : Ready) (home : Option ℕ) → LeavesSet guests others g handle → home ≡ set_of (sets_in guests g) handle → Leaves g handle home old new → AreTold guests streams old → AreTold others streams new
told-left guests others streams g handle old new home leaves is handle_left h = record {
  told = λ k number other n side owner member.
      (but-left guests others streams (suc n) g handle leaves old new home is handle_left (as_but guests streams (suc n) old h)).told k number other n side (λ e. let no : n ≡ suc n = e in omega (arith, no)) owner member;
  within = (but-left guests others streams 0 g handle leaves old new home is handle_left (as_but guests streams 0 old h)).within;
}

-- ## A handle that joins a set

-- a table with the sets that the handle joined
pub record JoinsSet (guests others : List Guest) (g handle set : ℕ) : Type 0 where
  pub here : (number : ℕ) → member_of others g number handle ≡ nat_eq set number
  pub rest : (k number other : ℕ) → (k ≡ g → other ≢ handle) → member_of others k number other ≡ member_of guests k number other

pub joins-joined : (guests : List Guest) (g : ℕ) (handles : Handles) (handle number : ℕ) → g < length guests → JoinsSet guests (with_table guests g handles (handle_joined (sets_in guests g) handle number)) g handle number
joins-joined guests g handles handle set l =
    let after = with_table guests g handles (handle_joined (sets_in guests g) handle set) in
    let here : ◌≡◌ {A = Sets} (sets_in after g) (handle_joined (sets_in guests g) handle set) = ap (λ (x : Guest). x.sets) (get_or-set_same guests g (record (guest_in guests g) { handles = handles; sets = handle_joined (sets_in guests g) handle set }) no_guest l) in
    record {
      here = λ number. ap (λ (x : Sets). is_member x number handle) here ∙ is_member-joined_same (sets_in guests g) handle set number;
      rest = λ k number other apart.
          ⊎_elim
          (λ e.
          ap (λ n. member_of after n number other) e ∙ ap (λ (x : Sets). is_member x number other) here
          ∙ is_member-joined_other (sets_in guests g) handle set number other (apart e) ∙ ap (λ n. member_of guests n number other) (sym e))
          (λ ne. ap (λ (x : Guest). is_member x.sets number other) (get_or-set_other guests g k (record (guest_in guests g) { handles = handles; sets = handle_joined (sets_in guests g) handle set }) no_guest ne))
          (cases_eq k g);
    }

-- what is said of a handle once it joined a set, after it left that it was in
pub record Joins (g set handle : ℕ) (is_empty is_ready : Bool) (old new : Ready) : Type 0 where
  pub told : SaysOf new g set handle is_ready
  pub others : (k number other : ℕ) (b : Bool) → SaysOf old k number other b → (k ≡ g → number ≡ set → other ≢ handle)
      → (k ≡ g → number ≡ set → is_empty ≡ true → b ≡ false) → SaysOf new k number other b

eqb_is : (a b : ℕ) → nat_eq a b ≡ true → a ≡ b
eqb_is a b e = ⊎_elim (λ same. same) (λ ne. absurd (never (sym e ∙ eq-other a b ne))) (cases_eq a b)

module _ (guests others : List Guest) (streams : List Stream) (g handle set : ℕ) (joins : JoinsSet guests others g handle set) (home : Option ℕ) (is : home ≡ set_of (sets_in guests g) handle) (is_empty is_ready : Bool) where
  -- an end of this handle has a report or not, as was said
  abbrev SaysReport : Type 0
  SaysReport = (s : ℕ) (side : Side) → owner_in streams s side ≡ Held g handle → is_ready ≡ has_report side (get_or streams s no_stream)

  pub told-joined : (old between new : Ready) → Leaves g handle home old between → Joins g set handle is_empty is_ready between new
      → (is_empty ≡ true → (other : ℕ) → member_of guests g set other ≡ false)
      → SaysReport → AreTold guests streams old → AreTold others streams new
  told-joined old between new handle_left handle_joined empty ready h = record {
    told = λ k number other s side owner member.
        ⊎_elim
        (λ same.
        let owner_is : owner_in streams s side ≡ Held g handle = owner ∙ ap (λ n. Held n other) same.0 ∙ ap (Held g) same.1 in
        let member_is : member_of others g number handle ≡ true = sym (ap (λ n. member_of others n number other) same.0 ∙ ap (member_of others g number) same.1) ∙ member in
        let number_is : set ≡ number = eqb_is set number (sym (joins.here number) ∙ member_is) in
        let says : SaysOf new g number handle (has_report side (get_or streams s no_stream)) =
        subst (λ n. SaysOf new g n handle (has_report side (get_or streams s no_stream))) number_is (subst (SaysOf new g set handle) (ready s side owner_is) handle_joined.told) in
        subst (λ n. SaysOf new n number other (has_report side (get_or streams s no_stream))) (sym same.0) (subst (λ q. SaysOf new g number q (has_report side (get_or streams s no_stream))) (sym same.1) says))
        (λ apart.
        let was : member_of guests k number other ≡ true = sym (joins.rest k number other apart) ∙ member in
        handle_joined.others k number other _ (handle_left.others k number other _ (h.told k number other s side owner was) apart) (λ e _. apart e)
        (λ e f t. absurd (never (sym was ∙ ap (λ n. member_of guests n number other) e ∙ ap (λ n. member_of guests g n other) f ∙ empty t other))))
        (one_pair k g other handle);
    within = λ k number other none.
        ⊎_elim
        (λ same.
        let none_is : member_of others g number handle ≡ false = sym (ap (λ n. member_of others n number other) same.0 ∙ ap (member_of others g number) same.1) ∙ none in
        let apart : number ≢ set = λ e. never (sym (ap (nat_eq set) e ∙ nat_eq_equiv.refl set) ∙ sym (joins.here number) ∙ none_is) in
        let gone = handle_left.gone number (λ ne. h.within g number handle (ap (λ o. is_number o number) (sym is) ∙ no_member home number ne)) in
        let says = handle_joined.others g number handle false gone (λ _ f. absurd (apart f)) (λ _ _ _. refl) in
        subst (λ n. SaysOf new n number other false) (sym same.0) (subst (λ q. SaysOf new g number q false) (sym same.1) says))
        (λ apart. handle_joined.others k number other false (handle_left.others k number other false (h.within k number other (sym (joins.rest k number other apart) ∙ none)) apart) (λ e _. apart e) (λ _ _ _. refl))
        (one_pair k g other handle);
  }

-- ## Owners that no guest is

-- an owner is the one that it was, or was and is no guest
abbrev pub SameOrFree : Owner → Owner → Type 0
SameOrFree old new = (new ≡ old) ⊎ ((is_held old ≡ false) × (is_held new ≡ false))

-- each end has the owner that it had, or was and is held by no guest
pub IsHeld-either : (guests : List Guest) (streams more : List Stream)
    → ((s : ℕ) (side : Side) → SameOrFree (owner_in streams s side) (owner_in more s side))
    → IsHeld guests streams → IsHeld guests more
IsHeld-either guests streams more either h = record {
  tables = h.tables;
  agree = record {
    named = λ g handle s side is.
        let own = h.agree.named g handle s side is in
        ⊎_elim (λ e. e ∙ own) (λ none. absurd (never (sym (ap is_held own) ∙ none.0))) (either s side);
    held = λ g handle s side is.
        ⊎_elim (λ e. h.agree.held g handle s side (sym e ∙ is)) (λ none. absurd (never (sym (ap is_held is) ∙ none.1))) (either s side);
  };
}

-- one stream is another, each of whose ends has the owner that it had, or was and is held by no guest
pub IsHeld-set : (guests : List Guest) (streams : List Stream) (s : ℕ) (x : Stream) → s < length streams
    → ((side : Side) → SameOrFree (owner_in streams s side) (end_of side x).owner)
    → IsHeld guests streams → IsHeld guests (set streams s x)
IsHeld-set guests streams s x l either h =
    IsHeld-either guests streams (set streams s x)
    (λ k side.
    ⊎_elim
    (λ e.
    let now : owner_in (set streams s x) k side ≡ (end_of side x).owner = ap (λ n. owner_in (set streams s x) n side) e ∙ ap (λ (y : Stream). (end_of side y).owner) (get_or-set_same streams s x no_stream l) in
    let was : owner_in streams k side ≡ owner_in streams s side = ap (λ n. owner_in streams n side) e in
    ⊎_elim (λ same. inl (now ∙ same ∙ sym was)) (λ none. inr (ap is_held was ∙ none.0, ap is_held now ∙ none.1)) (either side))
    (λ ne. inl (owner-set_other streams s x k side ne))
    (cases_eq k s)) h

-- a stream more, of whose ends no guest has one
pub IsHeld-push : (guests : List Guest) (streams : List Stream) (x : Stream) → ((side : Side) → is_held (end_of side x).owner ≡ false) → IsHeld guests streams → IsHeld guests (streams ++ x ∷ [])
IsHeld-push guests streams x none h =
    IsHeld-either guests streams (streams ++ x ∷ [])
    (λ k side.
    ⊎_elim
    (λ e. inr (
      ap (λ n. is_held (owner_in streams n side)) e ∙ ap (λ (y : Stream). is_held (end_of side y).owner) (get_or_past streams (length streams) no_stream (omega arith)) ∙ no_one side,
      ap (λ n. is_held (owner_in (streams ++ x ∷ []) n side)) e ∙ ap (λ (y : Stream). is_held (end_of side y).owner) (get_or_push streams x no_stream (length streams) refl) ∙ none side,
    ))
    (λ ne. inl (owner-push_other streams x k side ne))
    (cases_eq k (length streams))) h
  where
    no_one : (side : Side) → is_held (end_of side no_stream).owner ≡ false
    no_one Writing = refl
    no_one Reading = refl

-- ## What a poll finds

module _ (state : State) (g number : ℕ) (sound : IsSound state) (held : StateIsHeld state) (ready : Ready) (h : AreTold state.guests state.streams ready) where
  -- the end that a guest has under a handle is ready just where it has a report
  pub ready_is : (handle s : ℕ) (side : Side) → (end_of side (stream_at state s)).owner ≡ Held g handle → is_ready state g handle ≡ has_report side (stream_at state s)
  ready_is handle s side owner = by (end_named state g handle) (held.agree.held g handle s side owner)
    where
      by : (name : Name) → is_end s side name ≡ true → is_some (report_of_named state name) ≡ has_report side (stream_at state s)
      by (Ok answer) is =
          let p = and_parts (answer.0 == s) (same_side (side_of answer.1) side) is in
          let there : answer.0 ≡ s = eqb-true answer.0 s p.0 in
          let same : side ≡ side_of answer.1 = same_side_is (side_of answer.1) side p.1 in
          rw (there, same) refl
      by (Err error) is = cc

  -- what is said of a member
  member_says : (handle : ℕ) → member_of state.guests g number handle ≡ true → SaysOf ready g number handle (is_ready state g handle)
  member_says handle member = by (end_named state g handle) refl ((sound.sets g).members handle number member)
    where
      by : (name : Name) → end_named state g handle ≡ name → is_ok name ≡ true → SaysOf ready g number handle (is_ready state g handle)
      by (Ok answer) e ok =
          let side = side_of answer.1 in
          let owner = held.agree.named g handle answer.0 side (ap (is_end answer.0 side) e ∙ end_itself answer.0 side) in
          subst (SaysOf ready g number handle) (sym (ready_is handle answer.0 side owner)) (h.told g number handle answer.0 side owner member)
      by (Err error) e ok = cc

  -- and so of any handle
  pub says_all : (handle : ℕ) → SaysOf ready g number handle (member_of state.guests g number handle && is_ready state g handle)
  says_all handle = by (member_of state.guests g number handle) refl
    where
      by : (b : Bool) → member_of state.guests g number handle ≡ b → SaysOf ready g number handle (b && is_ready state g handle)
      by true e = member_says handle e
      by false e = h.within g number handle e

-- ## Nothing is known

-- so nothing is said of any handle
pub says_nothing : (g number handle : ℕ) (b : Bool) → SaysOf [] g number handle b
says_nothing zero zero handle b = tt
says_nothing zero (suc number) handle b = tt
says_nothing (suc g) zero handle b = tt
says_nothing (suc g) (suc number) handle b = tt

says_none : (ready : Ready) (g number handle : ℕ) (b : Bool) → ready ≡ [] → SaysOf ready g number handle b
says_none ready g number handle b none = subst (λ (r : Ready). SaysOf r g number handle b) (sym none) (says_nothing g number handle b)

-- of an end that has changed either
pub retells-nothing : (guests : List Guest) (stream : Stream) (ready : Ready) → ready ≡ [] → Retells guests stream ready ready
retells-nothing guests stream ready none = record {
  told = λ side g number handle owner apart member. says_none ready g number handle (has_report side stream) none;
  others = λ g number handle b says unless. says;
}

-- or of a handle that leaves its set
pub leaves-nothing : (g handle : ℕ) (home : Option ℕ) (ready : Ready) → ready ≡ [] → Leaves g handle home ready ready
leaves-nothing g handle home ready none = record {
  gone = λ number says. says_none ready g number handle false none;
  others = λ k number other b says apart. says;
}
