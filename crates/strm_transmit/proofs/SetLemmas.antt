-- The store after a waitable set was made, joined, left or dropped, and the member that a poll finds.
use Rattle.std.proofs.Common.{◌≡◌, ◌≢◌, ℕ, ◌+◌, ◌-◌, ◌<◌, Bool, true, false, cond, ◌&&◌, List, [], ◌∷◌, length, not, Option, Some, None, Ok, refl, sym, ap, ◌∙◌, subst, arith, length-set}
use Rattle.std.specs.Prelude.{nat_eq, ◌==◌, IfSome, IfNone}
use Rattle.std.specs.List.{list_any}
use Rattle.std.specs.Option.{option_map}
use Rattle.strm_waitable_sets.specs.Ready.{is_in}
use Rattle.strm_handles.specs.Counters.{counted, uncounted}
use Rattle.strm_handles.specs.Handles.{entry_at}
use Rattle.strm_waitable_sets.specs.Sets.{Sets, is_set_there, is_member, set_of, members, handle_joined, handle_left, HasNoMember, IsLeastReady, NoneReady}
use Rattle.strm_waitable_sets.proofs.SetLemmas.{among_members}
use Rattle.strm_waitable_sets.proofs.TieLemmas.{eq-other}
use Rattle.strm_machine.specs.State.{Guest, State, no_guest, guest_in, sets_in, with_sets}
use Rattle.strm_machine.specs.Tests.{end_named}
use Rattle.strm_machine.specs.WaitableSets.{set_named, number_named, has_some, has_member, is_ready, ready_member, sets_changed}
use Rattle.strm_machine.specs.Refusals.{slot_reasons, joined_reasons, first_of, refusal}
use Rattle.strm_machine.specs.Soundness.{IsSound, own_sizes_of}
use Rattle.strm_machine.specs.declared.acts.Act.TheVariants.{Make, OnSet}
use Rattle.strm_machine.specs.declared.acts.Making.TheVariants.{Set}
use Rattle.strm_machine.specs.declared.acts.SetAct.TheVariants.{Join, Drop}
use Rattle.strm_machine.proofs.RefusalLemmas.{none_of_both}
use Rattle.strm_machine.proofs.SoundLemmas.{own_sizes_of-with_table}
use Rattle.strm_machine.proofs.SetStepLemmas.{set_fits, on_set_fits, set_found, set_drop_fits, ready_member-least, ready_member-none}
use Rattle.strm_machine.proofs.SoundStepLemmas.{on_set-sound, with_set-sound}
use Rattle.strm_channels.specs.Guests.{guests_of, live_in, sets_among, with_set_in, without_set_in}
use Rattle.strm_transmit.specs.Inside.{state_of, IsStore}
use Rattle.strm_transmit.specs.declared.store.Store.TheInside.{Inside}
use Rattle.strm_transmit.proofs.StoreLemmas.{SameBut, how_many, sets-with_table, live-with_sets, kept_counted, more_counted, less_counted, fits_below, CountsTables, kept_streams, Agrees, IsStore-counted}
use Rattle.strm_transmit.proofs.ToldLemmas.{SameMembers, members-with_table, told-same, leaves-left, told-left, joins-joined, Joins, told-joined, ready_is}
use Rattle.strm_transmit.specs.Telling.{Ready, AreTold, Leaves, member_of}
use Rattle.strm_machine.specs.declared.streams.Stream.{Stream}
use Rattle.strm_machine.proofs.HeldLemmas.{StateIsHeld, IsHeld, IsHeld-same}
use Rattle.strm_transmit.proofs.HeldStoreLemmas.{on_set-held, with_set-held}
use Rattle.strm_machine.proofs.TableLemmas.{set-keeps}
use Rattle.strm_transmit.specs.ReadyGuests.{SameCounts}
use Rattle.strm_transmit.proofs.ReadyGuestLemmas.{counted-alike, counted-kept}

-- streams and memories stay
pub record KeepsStreams (old new : Inside) : Type 0 where
  pub same : SameBut old new
  pub streams : new.streams ≡ old.streams
  pub places : new.places ≡ old.places
  pub bytes : new.bytes ≡ old.bytes

IsStore-tables : (old new : Inside) → KeepsStreams old new → CountsTables old new → IsSound (state_of new) → Agrees new → IsStore old → IsStore new
IsStore-tables old new k tables sound agrees i =
    IsStore-counted old new tables (kept_streams old new k.streams k.places (record { producers = k.same.producers; kept = k.same.kept; consumers = k.same.consumers }) i) sound agrees i

-- the state, where streams stay and guests are these
state_with : (old new : Inside) → KeepsStreams old new → (guests : List Guest) → guests_of new.guests.items ≡ guests → state_of new ≡ record (state_of old) { guests = guests }
state_with old new k guests e = rw (k.same.tag, k.same.limits, k.same.producers, k.same.kept, k.same.consumers, k.same.contexts, k.same.trapped, k.streams, e) refl

-- guests are as many as there were
abbrev AsMany : Inside → List Guest → Type 0
AsMany old guests = length guests ≡ length (guests_of old.guests.items)

-- handles and ends agree, and guests have the members that they had
agrees_tables : (old new : Inside) → KeepsStreams old new → (guests : List Guest) → guests_of new.guests.items ≡ guests → AsMany old guests → new.ready ≡ old.ready → SameMembers (guests_of old.guests.items) guests → StateIsHeld (record (state_of old) { guests = guests }) → IsStore old → Agrees new
agrees_tables old new k guests e many ready members held i = record {
  held = subst StateIsHeld (sym (state_with old new k guests e)) held;
  told = rw (k.streams, ready, e) (told-same (guests_of old.guests.items) guests old.streams.items old.ready.sets members i.told);
  ready_counted = rw (k.streams, ready, e) (counted-alike (guests_of old.guests.items) guests old.streams.items old.streams.items old.ready many refl i.ready_counted);
}

-- ## A set more

-- a set and its handle are given and counted
pub record GivesSet (old new : Inside) (g : ℕ) : Type 0 where
  pub counter : new.counter ≡ counted old.counter
  pub live : live_in (guests_of new.guests.items) ≡ live_in (guests_of old.guests.items) + 1
  pub sets : sets_among (guests_of new.guests.items) ≡ sets_among (guests_of old.guests.items) + 1
  pub live_sets : new.live_sets ≡ old.live_sets + 1
  pub guests : guests_of new.guests.items ≡ with_set_in (guests_of old.guests.items) g
  pub ready : new.ready ≡ old.ready

pub IsStore-made_set : (old new : Inside) (g : ℕ) → KeepsStreams old new → GivesSet old new g → refusal (state_of old) (Make (Set g)) ≡ None → IsStore old → IsStore new
IsStore-made_set old new g k h e i =
    let fits = set_fits (state_of old) g e in
    IsStore-tables old new k
    (record {
      handles = more_counted old new k.same.limits h.counter h.live (fits_below old i fits.handles) i;
      sets = omega (arith, h.live_sets, i.sets, h.sets);
      sizes = ap own_sizes_of h.guests ∙ own_sizes_of-with_table (guests_of old.guests.items) g _ _;
      bytes = k.bytes;
    })
    (subst IsSound (sym (state_with old new k (with_set_in (guests_of old.guests.items) g) h.guests)) (with_set-sound (state_of old) g i.sound e))
    (agrees_tables old new k (with_set_in (guests_of old.guests.items) g) h.guests (length-set (guests_of old.guests.items) g _) h.ready (members-with_table (guests_of old.guests.items) g _ _ (λ n q. refl)) (with_set-held (state_of old) g i.sound i.held e) i) i

-- ## A set joined or left

no_members : (xs : List ℕ) (n : ℕ) → has_some xs ≡ false → list_any (nat_eq n) xs ≡ false
no_members [] n e = refl
no_members (x ∷ xs) n e = cc

not_is : (b : Bool) → not b ≡ true → b ≡ false
not_is true e = cc
not_is false e = refl

-- each handle names what it named where sets alone are others
sets_held_still : (guests : List Guest) (g : ℕ) (sets : Sets) (streams : List Stream) → IsHeld guests streams → IsHeld (with_sets guests g sets) streams
sets_held_still guests g sets streams h =
    IsHeld-same guests (with_sets guests g sets) streams streams
    (λ k. set-keeps (λ (x : Guest). x.handles) guests g k (record (guest_in guests g) { sets = sets }) no_guest refl)
    (λ s side. refl) h

-- handles and sets stay counted as they were, and so do the ends that are to be told something
pub record KeepsCounts (old new : Inside) : Type 0 where
  pub counter : new.counter ≡ old.counter
  pub live_sets : new.live_sets ≡ old.live_sets
  pub counted : SameCounts old.ready new.ready

module _ (old new : Inside) (k : KeepsStreams old new) (n : KeepsCounts old new) (i : IsStore old) where
  -- nothing joined
  pub same_guests : guests_of new.guests.items ≡ guests_of old.guests.items → new.ready ≡ old.ready → IsStore new
  same_guests e ready =
      IsStore-tables old new k
      (record {
        handles = kept_counted old new k.same.limits n.counter (ap live_in e) i;
        sets = n.live_sets ∙ i.sets ∙ sym (ap sets_among e);
        sizes = ap own_sizes_of e;
        bytes = k.bytes;
      })
      (subst IsSound (sym (state_with old new k (guests_of old.guests.items) e)) i.sound)
      (agrees_tables old new k (guests_of old.guests.items) e refl ready (λ _ _ _. refl) i.held i) i

  -- the guests with other sets in one of them
  abbrev with_sets_of : ℕ → Sets → List Guest
  with_sets_of g sets = with_sets (guests_of old.guests.items) g sets

  other_sets : (g : ℕ) (sets : Sets) → how_many sets ≡ how_many (sets_in (guests_of old.guests.items) g) → IsSound (sets_changed (state_of old) g sets) → guests_of new.guests.items ≡ with_sets_of g sets
      → AreTold (with_sets_of g sets) old.streams.items new.ready.sets → IsStore new
  other_sets g sets many sound e told =
      let handles = (guest_in (guests_of old.guests.items) g).handles in
      IsStore-tables old new k
      (record {
        handles = kept_counted old new k.same.limits n.counter (ap live_in e ∙ live-with_sets (guests_of old.guests.items) g sets) i;
        sets = n.live_sets ∙ i.sets ∙ sym (ap sets_among e ∙ sets-with_table (guests_of old.guests.items) g handles sets many);
        sizes = ap own_sizes_of e ∙ own_sizes_of-with_table (guests_of old.guests.items) g handles sets;
        bytes = k.bytes;
      })
      (subst IsSound (sym (state_with old new k (with_sets (guests_of old.guests.items) g sets) e)) sound)
      (record {
        held = subst StateIsHeld (sym (state_with old new k (with_sets (guests_of old.guests.items) g sets) e)) (sets_held_still (guests_of old.guests.items) g sets old.streams.items i.held);
        told = rw (k.streams, e) told;
        ready_counted = rw (k.streams, e) (counted-kept (with_sets (guests_of old.guests.items) g sets) old.streams.items old.ready new.ready n.counted (counted-alike (guests_of old.guests.items) (with_sets (guests_of old.guests.items) g sets) old.streams.items old.streams.items old.ready (length-set (guests_of old.guests.items) g _) refl i.ready_counted));
      }) i

  module _ (g set handle : ℕ) (may : refusal (state_of old) (OnSet g set (Join handle)) ≡ None) where
    abbrev sets : Sets
    sets = sets_in (guests_of old.guests.items) g

    -- the guest's sets became these
    abbrev SetsBecome : Sets → Type 0
    SetsBecome after = guests_of new.guests.items ≡ with_sets (guests_of old.guests.items) g after

    joined_sound : (b : Bool) → (set == 0) ≡ b → IsSound (sets_changed (state_of old) g (cond b (handle_left sets handle) (handle_joined sets handle (number_named (set_named (state_of old) g set)))))
    joined_sound b e =
        subst (λ t. IsSound (sets_changed (state_of old) g (cond t (handle_left sets handle) (handle_joined sets handle (number_named (set_named (state_of old) g set)))))) e
        (on_set-sound (state_of old) g set (Join handle) i.sound may)

    -- the handle's guest is there
    guest_there : g < length (guests_of old.guests.items)
    guest_there = (on_set_fits (state_of old) g set (Join handle) may).0

    pub IsStore-left : (home : Option ℕ) → set ≡ 0 → home ≡ set_of sets handle → Leaves g handle home old.ready.sets new.ready.sets → SetsBecome (handle_left sets handle) → IsStore new
    IsStore-left home zero is leaves e =
        other_sets g (handle_left sets handle) refl (joined_sound true (rw zero refl)) e
        (told-left (guests_of old.guests.items) _ old.streams.items g handle old.ready.sets new.ready.sets home
        (leaves-left (guests_of old.guests.items) g _ handle guest_there) is leaves i.told)

    -- what is said once the handle has joined
    pub record JoinsAt (number : ℕ) (alone says : Bool) : Type 0 where
      pub home : Option ℕ
      pub is : home ≡ set_of sets handle
      pub between : Ready
      pub leaves : Leaves g handle home old.ready.sets between
      pub joins : Joins g number handle alone says between new.ready.sets
      pub empty : alone ≡ not (has_member (state_of old) g number)
      pub ready : says ≡ is_ready (state_of old) g handle

    none_before : (number : ℕ) (alone : Bool) → alone ≡ not (has_member (state_of old) g number) → alone ≡ true → (other : ℕ) → member_of (guests_of old.guests.items) g number other ≡ false
    none_before number alone is e other =
        sym (among_members sets number other) ∙ no_members (members sets number) other (not_is (has_member (state_of old) g number) (sym is ∙ e))

    pub IsStore-joined : (number : ℕ) (alone says : Bool) → set ≢ 0 → number ≡ number_named (set_named (state_of old) g set) → SetsBecome (handle_joined sets handle number) → JoinsAt number alone says → IsStore new
    IsStore-joined number alone says some is ok joins =
        other_sets g (handle_joined sets handle number) refl
        (subst (λ m. IsSound (sets_changed (state_of old) g (handle_joined sets handle m))) (sym is) (joined_sound false (eq-other set 0 some))) ok
        (told-joined (guests_of old.guests.items) _ old.streams.items g handle number (joins-joined (guests_of old.guests.items) g _ handle number guest_there) joins.home joins.is alone says
        old.ready.sets joins.between new.ready.sets joins.leaves joins.joins (none_before number alone joins.empty)
        (λ s side owner. joins.ready ∙ ready_is (state_of old) g number i.sound i.held old.ready.sets i.told handle s side owner) i.told)

-- the set that is joined is there
pub joined_made : (state : State) (g set handle number : ℕ) → IsSound state → refusal state (OnSet g set (Join handle)) ≡ None → set ≢ 0 → number ≡ number_named (set_named state g set) → is_set_there (sets_in state.guests g) number ≡ true
joined_made state g set handle number h may some is =
    let fits = on_set_fits state g set (Join handle) may in
    let both = none_of_both (joined_reasons state g set) (slot_reasons (end_named state g handle)) fits.1 in
    by (set == 0) (eq-other set 0 some) both.0
  where
    by : (b : Bool) → b ≡ false → first_of (cond b [] (slot_reasons (set_named state g set))) ≡ None → is_set_there (sets_in state.guests g) number ≡ true
    by true e f = cc
    by false e f = (h.sets g).there set number (set_found (entry_at (guest_in state.guests g).handles set) f ∙ ap Ok (sym is))

-- ## A set less

-- a set that may be dropped, by its number
pub record DropsSet (state : State) (g set number : ℕ) : Type 0 where
  pub there : g < length state.guests
  pub named : set_named state g set ≡ Ok number
  pub made : is_set_there (sets_in state.guests g) number ≡ true
  pub empty : HasNoMember (sets_in state.guests g) number

pub drops_set : (state : State) (g set number : ℕ) → IsSound state → refusal state (OnSet g set Drop) ≡ None → number ≡ number_named (set_named state g set) → DropsSet state g set number
drops_set state g set number h may is =
    let first = on_set_fits state g set Drop may in
    let fits = set_drop_fits state g set first.1 in
    let named : set_named state g set ≡ Ok number = fits.named ∙ ap Ok (sym is) in
    record {
      there = first.0;
      named = named;
      made = (h.sets g).there set number named;
      empty = λ n. sym (among_members (sets_in state.guests g) number n) ∙ no_members (members (sets_in state.guests g) number) n (ap (has_member state g) is ∙ fits.memberless);
    }

-- a set and its handle are taken and counted off
pub record TakesSet (old new : Inside) (g set number : ℕ) : Type 0 where
  pub counter : new.counter ≡ uncounted old.counter
  pub live : live_in (guests_of new.guests.items) + 1 ≡ live_in (guests_of old.guests.items)
  pub sets : sets_among (guests_of new.guests.items) + 1 ≡ sets_among (guests_of old.guests.items)
  pub live_sets : new.live_sets ≡ old.live_sets - 1
  pub guests : guests_of new.guests.items ≡ without_set_in (guests_of old.guests.items) g set number
  pub ready : new.ready ≡ old.ready

pub IsStore-dropped_set : (old new : Inside) (g set number : ℕ) → KeepsStreams old new → TakesSet old new g set number → refusal (state_of old) (OnSet g set Drop) ≡ None → number ≡ number_named (set_named (state_of old) g set) → IsStore old → IsStore new
IsStore-dropped_set old new g set number k h may is i =
    IsStore-tables old new k
    (record {
      handles = less_counted old new k.same.limits h.counter h.live i;
      sets = omega (arith, h.live_sets, i.sets, h.sets);
      sizes = ap own_sizes_of h.guests ∙ own_sizes_of-with_table (guests_of old.guests.items) g _ _;
      bytes = k.bytes;
    })
    (subst IsSound (sym (state_with old new k (without_set_in (guests_of old.guests.items) g set (number_named (set_named (state_of old) g set))) (h.guests ∙ ap (without_set_in (guests_of old.guests.items) g set) is)))
    (on_set-sound (state_of old) g set Drop i.sound may))
    (agrees_tables old new k (without_set_in (guests_of old.guests.items) g set (number_named (set_named (state_of old) g set))) (h.guests ∙ ap (without_set_in (guests_of old.guests.items) g set) is) (length-set (guests_of old.guests.items) g _) h.ready
    (members-with_table (guests_of old.guests.items) g _ _ (λ n q. refl)) (on_set-held (state_of old) g set Drop i.sound i.held may) i) i

-- ## The member that a poll finds, by what a look at each member says

-- what is said of a member is whether it is ready
abbrev pub SaysReady : (ℕ → Bool → Type 0) → State → ℕ → Type 0
SaysReady says state g = (n : ℕ) (b : Bool) → says n b → is_ready state g n ≡ b

pub found_by : (says : ℕ → Bool → Type 0) (state : State) (g number : ℕ) (there : Sets) (found : Option ℕ) → SaysReady says state g → there ≡ sets_in state.guests g → IfSome found (IsLeastReady says there number) → IfNone found (NoneReady says there number) → found ≡ ready_member state g number
found_by says state g number there (Some handle) tells here some none =
    sym (ready_member-least state g number handle
    (subst (λ k. IsLeastReady (λ n ready. is_ready state g n ≡ ready) k number handle) here
    (record { member = some.member; ready = tells handle true some.ready; least = λ other below m. tells other false (some.least other below m) })))
found_by says state g number there None tells here some none =
    sym (ready_member-none state g number
    (subst (λ k. NoneReady (λ n ready. is_ready state g n ≡ ready) k number) here (λ n m. tells n false (none n m))))

-- ## The member that a poll finds, where the ready members are known

-- a list of just the members that are ready
abbrev pub ListsReady : List ℕ → State → ℕ → ℕ → Type 0
ListsReady handles state g number = (n : ℕ) → is_in handles n ≡ (is_member (sets_in state.guests g) number n && is_ready state g n)

both_true : (a b : Bool) → (a && b) ≡ true → (a ≡ true) × (b ≡ true)
both_true true b e = (refl, e)
both_true false b e = cc

second_false : (a b : Bool) → (a && b) ≡ false → a ≡ true → b ≡ false
second_false true b e t = e
second_false false b e t = cc

-- no member with a smaller handle is among these
abbrev NoneBelow : List ℕ → ℕ → Type 0
NoneBelow handles n = (other : ℕ) → other < n → is_in handles other ≡ false

pub found_among : (handles : List ℕ) (state : State) (g number : ℕ) (found : Option ℕ) → ListsReady handles state g number → IfSome found (λ n. is_in handles n ≡ true) → IfSome found (NoneBelow handles) → IfNone found ((other : ℕ) → is_in handles other ≡ false) → found ≡ ready_member state g number
found_among handles state g number (Some n) lists ready least none =
    let is = both_true _ _ (sym (lists n) ∙ ready) in
    sym (ready_member-least state g number n
    (record { member = is.0; ready = is.1; least = λ other below m. second_false _ _ (sym (lists other) ∙ least other below) m }))
found_among handles state g number None lists ready least none =
    sym (ready_member-none state g number (λ other m. second_false _ _ (sym (lists other) ∙ none other) m))

pub among_ready : (handles : List ℕ) (state : State) (g number : ℕ) (found : Option ℕ) → ListsReady handles state g number → IfSome found (λ n. is_in handles n ≡ true) → IfSome found (λ n. is_ready state g n ≡ true)
among_ready handles state g number (Some n) lists ready = (both_true _ _ (sym (lists n) ∙ ready)).1
among_ready handles state g number None lists ready = tt

-- what is lent of what is known
pub lists_lent : {A : Type 0} (lent : Option A) (handles : A → List ℕ) (known : Option (List ℕ)) (says : ℕ → Bool) → option_map handles lent ≡ known → ((n : ℕ) → IfSome known (λ list. is_in list n ≡ says n)) → IfSome lent (λ x. (n : ℕ) → is_in (handles x) n ≡ says n)
lists_lent None handles known says e h = tt
lists_lent (Some x) handles known says e h = λ n. subst (λ k. IfSome k (λ list. is_in list n ≡ says n)) (sym e) (h n)
