-- A read or write that waits goes on waiting, and its handle is in no set, in every step that doesn't name the
-- handle in an event, a cancel or a set-join.
use Rattle.std.proofs.Common.{◌≡◌, ◌≢◌, ℕ, zero, suc, ◌<◌, Bool, true, false, List, [], ◌∷◌, length, get_or, set, Option, Some, None, refl, sym, ap, ◌∙◌, subst, inl, inr}
use Rattle.std.specs.Prelude.{◌==◌}
use Rattle.std.proofs.lemmas.Bool.{cases_eq, cond_both}
use Rattle.std.proofs.lemmas.List.{get_or_append_left}
use Rattle.strm_codes.specs.declared.codes.ReturnCode.{ReturnCode}
use Rattle.strm_waitable_sets.specs.Sets.{Sets, is_member, handle_left, handle_joined}
use Rattle.strm_waitable_sets.proofs.SetLemmas.{is_member-left_same, is_member-left_other, is_member-joined_other}
use Rattle.strm_handles.specs.Handles.{Handles}
use Rattle.strm_machine.specs.State.{State, Guest, guest_in, sets_in, no_guest, no_stream, stream_at, is_gone, is_loose, with_handles}
use Rattle.strm_machine.specs.Sides.{opposite, same_side, end_of, with_end, with_operation}
use Rattle.strm_machine.specs.Meetings.{advanced}
use Rattle.strm_machine.specs.Moves.{without_handle}
use Rattle.strm_machine.specs.Operating.{Operated, with_received, moves, completes_alone, rendezvous_by, learns, finds, operate}
use Rattle.strm_machine.specs.Tests.{named, end_named, stream_named, side_named, is_busy}
use Rattle.strm_machine.specs.Moments.{is_end}
use Rattle.strm_machine.specs.Soundness.{IsSound}
use Rattle.strm_machine.specs.declared.streams.Meeting.{Meeting}
use Rattle.strm_machine.specs.declared.streams.Meeting.TheVariants.{BothComplete, WriteCompletes, ReadCompletes}
use Rattle.strm_machine.specs.declared.streams.Owner.TheVariants.{Held}
use Rattle.strm_machine.specs.declared.streams.Side.{Side}
use Rattle.strm_machine.specs.declared.streams.Side.TheVariants.{Writing, Reading}
use Rattle.strm_machine.specs.declared.streams.End.{End}
use Rattle.strm_machine.specs.declared.streams.Operation.{Operation}
use Rattle.strm_machine.specs.declared.streams.Stream.{Stream}
use Rattle.std.specs.Prelude.{is_some, length, Ok, Err}
use Rattle.strm_machine.specs.Refusals.{where_, refusal}
use Rattle.strm_machine.specs.Reactions.{Reaction, written_back, operates, transfers, polls, on_end, on_loose, on_set, on_context, makes, on_memory, performs, reaction}
use Rattle.strm_machine.specs.Reactions.{tells}
use Rattle.strm_machine.specs.WaitableSets.{report_of_named}
use Rattle.strm_machine.proofs.NamedEndLemmas.{is_end_on, end_itself}
use Rattle.std.specs.Prelude.{not}
use Rattle.strm_codes.specs.declared.refusals.Refusal.TheVariants as refusals
use Rattle.strm_machine.specs.Tests.{is_cancel_under_way}
use Rattle.std.specs.Prelude.{is_ok}
use Rattle.strm_codes.specs.declared.refusals.Refusal.{Refusal}
use Rattle.strm_machine.specs.Tests.{Name}
use Rattle.strm_machine.specs.Endings.{dropped, cancelled, delivered, report_on}
use Rattle.strm_machine.specs.Making.{with_stream, with_read_end}
use Rattle.strm_machine.specs.WaitableSets.{ready_in, set_named, number_named, sets_joined}
use Rattle.strm_machine.specs.Reactions.{member_told}
use Rattle.strm_machine.specs.State.{with_memory}
use Rattle.strm_waitable_sets.specs.Sets.{without_set}
use Rattle.strm_machine.specs.declared.acts.NamedEnd.{NamedEnd}
use Rattle.strm_machine.specs.declared.acts.Act.{Act}
use Rattle.strm_machine.specs.declared.acts.Act.TheVariants.{Make, OnEnd, Transfer, OnLoose, OnHost, Drive, Event, OnSet, OnContext, OnMemory}
use Rattle.strm_machine.specs.declared.acts.EndAct.{EndAct}
use Rattle.strm_machine.specs.declared.acts.EndAct.TheVariants.{Operate, Drop, Cancel, Lift}
use Rattle.strm_machine.specs.declared.acts.LooseAct.{LooseAct}
use Rattle.strm_machine.specs.declared.acts.LooseAct.TheVariants.{Lower, Close}
use Rattle.strm_machine.specs.declared.acts.Making.{Making}
use Rattle.strm_machine.specs.declared.acts.Making.TheVariants as makings
use Rattle.strm_machine.specs.declared.acts.SetAct.{SetAct}
use Rattle.strm_machine.specs.declared.acts.SetAct.TheVariants as set_acts
use Rattle.strm_machine.specs.declared.acts.ContextAct.{ContextAct}
use Rattle.strm_machine.specs.declared.acts.ContextAct.TheVariants as context_acts
use Rattle.strm_machine.specs.declared.acts.MemoryAct.{MemoryAct}
use Rattle.strm_machine.specs.declared.acts.MemoryAct.TheVariants.{Poke, Dump}
use Rattle.strm_machine.specs.declared.replies.Reply.TheVariants as replies
use Rattle.strm_handles.specs.Handles.{removed}
use Rattle.strm_machine.proofs.NamedEndLemmas.{on_end-found, event-found}
use Rattle.strm_machine.proofs.RefusalLemmas.{named_ok, named_fits, drop_fits, lift_fits, move_fits, lower_fits, close_fits, event_fits}
use Rattle.strm_machine.proofs.ReactionLemmas.{reaction-by}
use Rattle.strm_machine.proofs.SetStepLemmas.{ready_member-is}
use Rattle.strm_machine.proofs.Shapes.{begun_on, turn_on, Operates}
use Rattle.strm_machine.proofs.SideLemmas.{same_side_is}
use Rattle.strm_machine.proofs.SoundStepLemmas.{operate-keeps}
use Rattle.strm_shared.specs.declared.entry.Place.{Place}
use Rattle.strm_shared.specs.Places.{place, named_in, told_in, IsInNoSet}
use Rattle.strm_machine.proofs.AgreeLemmas.{Agree-single}
use Rattle.strm_machine.proofs.HeldLemmas.{StateIsHeld, names_in}
use Rattle.strm_machine.proofs.TableLemmas.{owner_in, owner_stays, set-keeps, sets-more}
use Rattle.strm_machine.proofs.ShapeLemmas.{operate-fits}
use Rattle.strm_machine.proofs.WaitableSetLemmas.{sets-same}

-- ## One end of one stream

-- an end stays with its owner, and busy
pub record EndStays (side : Side) (old new : Stream) : Type 0 where
  pub owner : (end_of side new).owner ≡ (end_of side old).owner
  pub busy : is_busy side old ≡ true → is_busy side new ≡ true

pub stays_itself : (side : Side) (stream : Stream) → EndStays side stream stream
stays_itself side stream = record { owner = refl; busy = λ b. b }

-- where the other end is another
pub stays_beside : (other side : Side) (stream : Stream) (e : End) → (other ≡ side → ⊥) → EndStays side stream (with_end other stream e)
stays_beside Writing Writing stream e ne = absurd (ne refl)
stays_beside Writing Reading stream e ne = record { owner = refl; busy = λ b. b }
stays_beside Reading Writing stream e ne = record { owner = refl; busy = λ b. b }
stays_beside Reading Reading stream e ne = absurd (ne refl)

pub set_either : {A : Type 0} (P : A → Type 0) (xs : List A) (n k : ℕ) (x d : A) → (k ≡ n → P x) → P (get_or xs k d) → P (get_or (set xs n x) k d)
set_either P [] n k x d f p = p
set_either P (y ∷ ys) zero zero x d f p = f refl
set_either P (y ∷ ys) zero (suc k) x d f p = p
set_either P (y ∷ ys) (suc n) zero x d f p = p
set_either P (y ∷ ys) (suc n) (suc k) x d f p = set_either P ys n k x d (λ e. f (ap suc e)) p

-- ## A read or write of the opposite end

module _ (side : Side) (guests : List Guest) (stream : Stream) (mine : Operation) where
  -- the opposite end is busy as before
  abbrev Leaves : Operated → Type 0
  Leaves t = is_busy (opposite side) stream ≡ true → is_busy (opposite side) t.stream ≡ true

  busy_beside : (x : Stream) (o : Operation) → is_busy (opposite side) x ≡ true → is_busy (opposite side) (with_operation side x o) ≡ true
  busy_beside x o = by side
    where
      by : (a : Side) → is_busy (opposite a) x ≡ true → is_busy (opposite a) (with_operation a x o) ≡ true
      by Writing b = b
      by Reading b = b

  busy_here : (x : Stream) (o : Operation) → is_busy (opposite side) (with_operation (opposite side) x o) ≡ true
  busy_here x o = by side
    where
      by : (a : Side) → is_busy (opposite a) (with_operation (opposite a) x o) ≡ true
      by Writing = refl
      by Reading = refl

  learns-leaves : Leaves (learns side guests stream)
  learns-leaves = by side
    where
      by : (a : Side) → is_busy (opposite a) stream ≡ true → is_busy (opposite a) (learns a guests stream).stream ≡ true
      by Writing b = b
      by Reading b = b

  moves-leaves : (theirs : Operation) (n : ℕ) (o : Option (List Guest)) → Leaves (moves side guests stream mine theirs n o)
  moves-leaves theirs n None b = b
  moves-leaves theirs n (Some after) b = busy_here (with_received stream n) (advanced stream.payload theirs n)

  alone-leaves : (who : Side) (theirs : Operation) → Leaves (completes_alone who side guests stream mine theirs)
  alone-leaves who theirs =
      let stopped = with_operation (opposite side) stream (advanced stream.payload theirs 0) in
      cond_both (same_side who side) _ _ Leaves
      (λ e b. b)
      (λ e b. busy_beside stopped mine (busy_here stream (advanced stream.payload theirs 0)))

  rendezvous-leaves : (meeting : Meeting) (theirs : Operation) → Leaves (rendezvous_by meeting side guests stream mine theirs)
  rendezvous-leaves BothComplete theirs = moves-leaves theirs _ _
  rendezvous-leaves WriteCompletes theirs = alone-leaves Writing theirs
  rendezvous-leaves ReadCompletes theirs = alone-leaves Reading theirs

  finds-leaves : (o : Option Operation) → Leaves (finds side guests stream mine o)
  finds-leaves None = busy_beside stream mine
  finds-leaves (Some theirs) =
      cond_both theirs.is_open _ _ Leaves
      (λ e. rendezvous-leaves _ theirs)
      (λ e. busy_beside stream mine)

  pub operate-leaves : Leaves (operate side guests stream mine)
  unfolding operate
  operate-leaves =
      cond_both (is_gone (end_of (opposite side) stream).owner) _ _ Leaves
      (λ e. learns-leaves)
      (λ e. finds-leaves _)

pub opposite_is : (side other : Side) → (side ≡ other → ⊥) → other ≡ opposite side
opposite_is Writing Writing ne = absurd (ne refl)
opposite_is Writing Reading ne = refl
opposite_is Reading Writing ne = refl
opposite_is Reading Reading ne = absurd (ne refl)

-- ## Sets that a handle is in none of

-- the handle is in none of these
abbrev pub IsNone : Sets → ℕ → Type 0
IsNone sets handle = (number : ℕ) → is_member sets number handle ≡ false

pub none-left : (sets : Sets) (other handle : ℕ) → IsNone sets handle → IsNone (handle_left sets other) handle
none-left sets other handle h number = elim (cases_eq handle other) [
  | inl e ↦ ap (is_member (handle_left sets other) number) e ∙ is_member-left_same sets other number
  | inr ne ↦ is_member-left_other sets other number handle ne ∙ h number
]

pub none-joined : (sets : Sets) (other home handle : ℕ) → handle ≢ other → IsNone sets handle → IsNone (handle_joined sets other home) handle
none-joined sets other home handle ne h number = is_member-joined_other sets other home number handle ne ∙ h number

-- the sets of a guest, where those of another or the same become others
pub out-set : (guests : List Guest) (n g handle : ℕ) (x : Guest) → (g ≡ n → IsNone x.sets handle) → IsNone (sets_in guests g) handle → IsNone (sets_in (set guests n x) g) handle
out-set guests n g handle x f h = set_either (λ (k : Guest). IsNone k.sets handle) guests n g x no_guest f h

pub out-same : (guests others : List Guest) (g handle : ℕ) → sets_in others g ≡ sets_in guests g → IsNone (sets_in guests g) handle → IsNone (sets_in others g) handle
out-same guests others g handle e h = subst (λ s. IsNone s handle) (sym e) h

-- other handles, or another memory
pub sets-with_handles : (guests : List Guest) (n k : ℕ) (handles : Handles) → sets_in (with_handles guests n handles) k ≡ sets_in guests k
sets-with_handles guests n k handles = set-keeps (λ (g : Guest). g.sets) guests n k (record (guest_in guests n) { handles = handles }) no_guest refl

-- ## One act that nothing refuses

-- the end of stream s is busy, and this handle is in no set and names it
pub record IsWaiting (state : State) (p : Place) (s : ℕ) (side : Side) : Type 0 where
  pub named : is_end s side (end_named state p.guest p.handle) ≡ true
  pub operates : is_busy side (stream_at state s) ≡ true
  pub out : IsInNoSet state p
  pub made : s < length state.streams

-- the end and the handle stay so, and no report is told of the handle
pub record StayWaiting (state : State) (p : Place) (s : ℕ) (side : Side) (act : Act) (r : Reaction) : Type 0 where
  pub end : EndStays side (stream_at state s) (stream_at r.state s)
  pub out : IsInNoSet r.state p
  pub untold : told_in act r.reply ≢ Some p

place_parts : (g handle : ℕ) (p : Place) → place g handle ≡ p → (g ≡ p.guest) × (handle ≡ p.handle)
place_parts g handle p e = (ap (λ (q : Place). q.guest) e, ap (λ (q : Place). q.handle) e)

some_parts : (g handle : ℕ) (p : Place) → g ≡ p.guest → handle ≡ p.handle → Some (place g handle) ≡ Some p
some_parts g handle p e f = rw (e, f) refl

some_is : (p q : Place) → Some p ≡ Some q → p ≡ q
some_is p q e = cc

pub not_both : (b : Bool) → b ≡ true → b ≡ false → ⊥
not_both true e f = cc
not_both false e f = cc

module _ (state : State) (p : Place) (s : ℕ) (side : Side) (held : StateIsHeld state) (w : IsWaiting state p s side) where
  -- a handle that names the end is this one
  single : (g handle : ℕ) → is_end s side (end_named state g handle) ≡ true → (g ≡ p.guest) × (handle ≡ p.handle)
  single g handle e = Agree-single (names_in state.guests) (owner_in state.streams) held.agree s side g handle p.guest p.handle e w.named

  -- an end that is not busy is another
  idle_apart : (t : ℕ) (other : Side) → is_busy other (stream_at state t) ≡ false → s ≡ t → other ≡ side → ⊥
  idle_apart t other idle e f = not_both (is_busy side (stream_at state s)) w.operates (ap (λ k. is_busy side (stream_at state k)) e ∙ (ap (λ a. is_busy a (stream_at state t)) (sym f) ∙ idle))

  -- and one that is loose
  loose_apart : (t : ℕ) → is_loose (stream_at state t).reader.owner ≡ true → s ≡ t → Reading ≡ side → ⊥
  loose_apart t loose e f =
      let own = held.agree.named p.guest p.handle s side w.named in
      let here : (stream_at state t).reader.owner ≡ Held p.guest p.handle = ap (λ a. (end_of a (stream_at state t)).owner) f ∙ (ap (λ k. (end_of side (stream_at state k)).owner) (sym e) ∙ own) in
      not_both (is_loose (stream_at state t).reader.owner) loose (ap is_loose here)

  -- and one that another handle names
  named_apart : (g handle t : ℕ) (other : Side) → is_end t other (end_named state g handle) ≡ true → ((g ≡ p.guest) × (handle ≡ p.handle) → ⊥) → s ≡ t → other ≡ side → ⊥
  named_apart g handle t other is ne e f = ne (single g handle (ap (λ a. is_end s a (end_named state g handle)) (sym f) ∙ (ap (λ k. is_end k other (end_named state g handle)) e ∙ is)))

  -- another end becomes another
  set_apart : (t : ℕ) (other : Side) (e : End) → (s ≡ t → other ≡ side → ⊥) → EndStays side (stream_at state s) (get_or (set state.streams t (with_end other (stream_at state t) e)) s no_stream)
  set_apart t other e ne =
      set_either (EndStays side (stream_at state s)) state.streams t s (with_end other (stream_at state t) e) no_stream
      (λ q. subst (λ k. EndStays side (stream_at state k) (with_end other (stream_at state t) e)) (sym q) (stays_beside other side (stream_at state t) e (ne q)))
      (stays_itself side (stream_at state s))

  -- without a handle the sets have it as before
  out_without : (g handle : ℕ) → IsInNoSet (without_handle state g handle) p
  out_without g handle =
      let guest = guest_in state.guests g in
      out-set state.guests g p.guest p.handle (record guest { handles = removed guest.handles handle; sets = handle_left guest.sets handle })
      (λ e. none-left guest.sets handle p.handle (subst (λ i. IsNone (sets_in state.guests i) p.handle) e w.out)) w.out

  out_given : (guests : List Guest) (n : ℕ) (handles : Handles) → IsNone (sets_in guests p.guest) p.handle → IsNone (sets_in (with_handles guests n handles) p.guest) p.handle
  out_given guests n handles h = out-same guests (with_handles guests n handles) p.guest p.handle (sets-with_handles guests n p.guest handles) h

  -- where streams, and for this handle sets, are as they were
  abbrev Stay : Act → Reaction → Type 0
  Stay act r = StayWaiting state p s side act r

  no_code : (g handle : ℕ) → ((g ≡ p.guest) × (handle ≡ p.handle) → ⊥) → Some (place g handle) ≢ Some p
  no_code g handle ne e = ne (place_parts g handle p (some_is (place g handle) p e))

  -- the handle is in no set of these guests
  abbrev IsOutOf : List Guest → Type 0
  IsOutOf guests = IsNone (sets_in guests p.guest) p.handle

  -- what a read or write writes back
  back-stays : (on : Side) (end : NamedEnd) (address count t : ℕ) (tn : Operated) (code : Option ReturnCode)
      → EndStays side (stream_at state s) (get_or (set state.streams t tn.stream) s no_stream) → IsOutOf tn.guests
      → Stay (OnEnd on end (Operate address count)) (written_back state t tn code)
  back-stays on end address count t tn None e out = record { end = e; out = out; untold = λ q. cc }
  back-stays on end address count t tn (Some code) e out = record { end = e; out = out; untold = λ q. cc }

  operates-stays : (on : Side) (end : NamedEnd) (address count : ℕ) → Operates state on end address count → Stay (OnEnd on end (Operate address count)) (operates state on end address count)
  operates-stays on end address count o =
      let t = stream_named (named state end) in
      let stream = stream_at state t in
      let mine = begun_on end address count in
      let tn = turn_on state on end address count in
      let k = operate-keeps state on end address count o in
      let apart : s ≡ t → on ≡ side → ⊥ = idle_apart t on (ap is_some o.idle) in
      let stays : EndStays side (stream_at state s) (get_or (set state.streams t tn.stream) s no_stream) =
      set_either (EndStays side (stream_at state s)) state.streams t s tn.stream no_stream
      (λ q. subst (λ x. EndStays side (stream_at state x) tn.stream) (sym q)
      (record {
        owner = owner_stays side stream tn.stream (record { writer = k.stream.writer; reader = k.stream.reader });
        busy = subst (λ a. is_busy a stream ≡ true → is_busy a tn.stream ≡ true) (sym (opposite_is on side (apart q))) (operate-leaves on state.guests stream mine);
      }))
      (stays_itself side (stream_at state s)) in
      let out : IsNone (sets_in tn.guests p.guest) p.handle = out-same state.guests tn.guests p.guest p.handle (sets-same state.guests tn.guests p.guest k.guests.sets) w.out in
      back-stays on end address count t tn tn.code stays out

  on_end-stays : (on : Side) (end : NamedEnd) (act : EndAct) → IsSound state → refusal state (OnEnd on end act) ≡ None → named_in (OnEnd on end act) ≢ Some p → Stay (OnEnd on end act) (on_end state on end act)
  unfolding refusal dropped cancelled
  on_end-stays on end (Operate address count) sound e clear = operates-stays on end address count (operate-fits state on end address count sound e)
  on_end-stays on end Drop sound e clear =
      let t = stream_named (named state end) in
      let fits = drop_fits state on end e in
      record { end = set_apart t on _ (idle_apart t on fits.idle); out = out_without end.guest end.handle; untold = λ q. cc }
  on_end-stays on end Cancel sound e clear =
      let t = stream_named (named state end) in
      let ne : (end.guest ≡ p.guest) × (end.handle ≡ p.handle) → ⊥ = λ q. clear (some_parts end.guest end.handle p q.0 q.1) in
      let fits = named_fits state on end (where_ (not (is_busy on (stream_at state t))) refusals.NoPending ∷ where_ (is_cancel_under_way on (stream_at state t)) refusals.CancelUnderWay ∷ []) e in
      let found = on_end-found state on end Cancel sound fits.0.there (named_ok state end fits.0.found) (same_side_is on (side_named (named state end)) fits.0.same) in
      record { end = set_apart t on _ (named_apart end.guest end.handle t on found.held ne); out = w.out; untold = no_code end.guest end.handle ne }
  on_end-stays on end Lift sound e clear =
      let t = stream_named (named state end) in
      let fits = lift_fits state on end e in
      record { end = set_apart t on _ (idle_apart t on fits.idle); out = out_without end.guest end.handle; untold = λ q. cc }

  transfer-stays : (end : NamedEnd) (to : ℕ) → refusal state (Transfer end to) ≡ None → Stay (Transfer end to) (transfers state (stream_named (named state end)) (side_named (named state end)) end to)
  transfer-stays end to e =
      let t = stream_named (named state end) in
      let on = side_named (named state end) in
      let fits = move_fits state end to e in
      let freed = without_handle state end.guest end.handle in
      record { end = set_apart t on _ (idle_apart t on fits.leaves.idle); out = out_given freed.guests to _ (out_without end.guest end.handle); untold = λ q. cc }

  event_untold : (g handle : ℕ) (code : Option ReturnCode) → ((g ≡ p.guest) × (handle ≡ p.handle) → ⊥) → told_in (Event g handle) (replies.Event code) ≢ Some p
  event_untold g handle None ne q = cc
  event_untold g handle (Some code) ne q = no_code g handle ne q

  event-stays : (g handle : ℕ) → IsSound state → refusal state (Event g handle) ≡ None → named_in (Event g handle) ≢ Some p → Stay (Event g handle) (tells state (stream_named (end_named state g handle)) (side_named (end_named state g handle)))
  unfolding delivered
  event-stays g handle sound e clear =
      let name = end_named state g handle in
      let t = stream_named name in
      let other = side_named name in
      let found = event-found state g handle sound (event_fits state g handle e) in
      let ne : (g ≡ p.guest) × (handle ≡ p.handle) → ⊥ = λ q. clear (some_parts g handle p q.0 q.1) in
      record { end = set_apart t other _ (named_apart g handle t other found.held ne); out = w.out; untold = event_untold g handle (report_on other (stream_at state t)) ne }

  ready_found : (name : Name) → is_some (report_of_named state name) ≡ true → is_ok name ≡ true
  ready_found (Ok answer) e = refl
  ready_found (Err error) e = cc

  member_untold : (g set handle : ℕ) (code : Option ReturnCode) → ((g ≡ p.guest) × (handle ≡ p.handle) → ⊥) → told_in (OnSet g set set_acts.Poll) (replies.Member (member_told handle code)) ≢ Some p
  member_untold g set handle None ne q = cc
  member_untold g set handle (Some code) ne q = no_code g handle ne q

  polls-stays : (g set : ℕ) (o : Option ℕ) → ready_in state g set ≡ o → Stay (OnSet g set set_acts.Poll) (polls state g o)
  unfolding delivered
  polls-stays g set None e = record { end = stays_itself side (stream_at state s); out = w.out; untold = λ q. cc }
  polls-stays g set (Some handle) e =
      let name = end_named state g handle in
      let t = stream_named name in
      let other = side_named name in
      let number = number_named (set_named state g set) in
      let ready = ready_member-is state g number handle e in
      let ne : (g ≡ p.guest) × (handle ≡ p.handle) → ⊥ = λ q.
      not_both (is_member (sets_in state.guests p.guest) number p.handle)
      (ap (is_member (sets_in state.guests p.guest) number) (sym q.1) ∙ (ap (λ k. is_member (sets_in state.guests k) number handle) (sym q.0) ∙ ready.1)) (w.out number) in
      let held : is_end t other name ≡ true = is_end_on t other other name (ready_found name ready.0) refl ∙ end_itself t other in
      record { end = set_apart t other _ (named_apart g handle t other held ne); out = w.out; untold = member_untold g set handle (report_on other (stream_at state t)) ne }

  on_set-stays : (g set : ℕ) (act : SetAct) → named_in (OnSet g set act) ≢ Some p → Stay (OnSet g set act) (on_set state g set act)
  on_set-stays g set (set_acts.Join handle) clear =
      let sets = sets_in state.guests g in
      let guest = guest_in state.guests g in
      let more = sets_joined sets set (set_named state g set) handle in
      record {
        end = stays_itself side (stream_at state s);
        out = out-set state.guests g p.guest p.handle (record guest { sets = more })
            (λ e. let here : IsNone sets p.handle = subst (λ i. IsNone (sets_in state.guests i) p.handle) e w.out in
            cond_both (set == 0) _ _ (λ x. IsNone x p.handle)
            (λ b. none-left sets handle p.handle here)
            (λ b. none-joined sets handle (number_named (set_named state g set)) p.handle (λ q. clear (some_parts g handle p (sym e) (sym q))) here)) w.out;
        untold = λ q. cc;
      }
  on_set-stays g set set_acts.Poll clear = polls-stays g set (ready_in state g set) refl
  on_set-stays g set set_acts.Drop clear =
      let guest = guest_in state.guests g in
      record {
        end = stays_itself side (stream_at state s);
        out = out-set state.guests g p.guest p.handle
            (record guest { handles = removed guest.handles set; sets = without_set guest.sets (number_named (set_named state g set)) })
            (λ e number. subst (λ i. IsNone (sets_in state.guests i) p.handle) e w.out number) w.out;
        untold = λ q. cc;
      }

  makes-stays : (making : Making) → Stay (Make making) (makes state making)
  unfolding with_stream
  makes-stays (makings.Guest size) = record {
    end = stays_itself side (stream_at state s);
    out = out-same state.guests _ p.guest p.handle (sets-more state.guests _ p.guest refl) w.out;
    untold = λ q. cc;
  }
  makes-stays (makings.Between writer reader ty) =
      let t = length state.streams in
      record {
        end = subst (EndStays side (stream_at state s)) (sym (get_or_append_left state.streams _ no_stream s w.made)) (stays_itself side (stream_at state s));
        out = out_given (with_read_end state.guests reader ty t) writer _ (out_given state.guests reader _ w.out);
        untold = λ q. cc;
      }
  makes-stays (makings.Set g) =
      let guest = guest_in state.guests g in
      record {
        end = stays_itself side (stream_at state s);
        out = out-set state.guests g p.guest p.handle _ (λ e number. subst (λ i. IsNone (sets_in state.guests i) p.handle) e w.out number) w.out;
        untold = λ q. cc;
      }
  makes-stays (makings.Context g address len) = record {
    end = stays_itself side (stream_at state s);
    out = out_given state.guests g _ w.out;
    untold = λ q. cc;
  }

  out_bytes : (g : ℕ) (memory : List ℕ) → IsNone (sets_in (with_memory state.guests g memory) p.guest) p.handle
  out_bytes g memory = out-same state.guests (with_memory state.guests g memory) p.guest p.handle (set-keeps (λ (k : Guest). k.sets) state.guests g p.guest (record (guest_in state.guests g) { memory = memory }) no_guest refl) w.out

  on_context-stays : (g handle : ℕ) (act : ContextAct) → Stay (OnContext g handle act) (on_context state g handle act)
  on_context-stays g handle (context_acts.Text address) = record { end = stays_itself side (stream_at state s); out = out_bytes g _; untold = λ q. cc }
  on_context-stays g handle (context_acts.Move to) = record { end = stays_itself side (stream_at state s); out = out_given state.guests to _ w.out; untold = λ q. cc }
  on_context-stays g handle context_acts.Drop = record { end = stays_itself side (stream_at state s); out = out_given state.guests g _ w.out; untold = λ q. cc }

  on_memory-stays : (g : ℕ) (act : MemoryAct) → Stay (OnMemory g act) (on_memory state g act)
  on_memory-stays g (Poke address bytes) = record { end = stays_itself side (stream_at state s); out = out_bytes g _; untold = λ q. cc }
  on_memory-stays g (Dump address len) = record { end = stays_itself side (stream_at state s); out = w.out; untold = λ q. cc }

  on_loose-stays : (reader : ℕ) (act : LooseAct) → refusal state (OnLoose reader act) ≡ None → Stay (OnLoose reader act) (on_loose state reader act)
  unfolding dropped
  on_loose-stays reader (Lower g ty) e =
      let fits = lower_fits state reader g ty e in
      record { end = set_apart reader Reading _ (loose_apart reader fits.loose); out = out_given state.guests g _ w.out; untold = λ q. cc }
  on_loose-stays reader Close e =
      record { end = set_apart reader Reading _ (loose_apart reader (close_fits state reader e)); out = w.out; untold = λ q. cc }

  performs-stays : (act : Act) → IsSound state → refusal state act ≡ None → named_in act ≢ Some p → Stay act (performs state act)
  unfolding performs
  performs-stays (Make making) sound e clear = makes-stays making
  performs-stays (OnEnd on end act) sound e clear = on_end-stays on end act sound e clear
  performs-stays (Transfer end to) sound e clear = transfer-stays end to e
  performs-stays (OnLoose reader act) sound e clear = on_loose-stays reader act e
  performs-stays (OnHost host act) sound e clear = record { end = stays_itself side (stream_at state s); out = w.out; untold = λ q. cc }
  performs-stays Drive sound e clear = record { end = stays_itself side (stream_at state s); out = w.out; untold = λ q. cc }
  performs-stays (Event g handle) sound e clear = event-stays g handle sound e clear
  performs-stays (OnSet g set act) sound e clear = on_set-stays g set act clear
  performs-stays (OnContext g handle act) sound e clear = on_context-stays g handle act
  performs-stays (OnMemory g act) sound e clear = on_memory-stays g act

  trapped_untold : (act : Act) → told_in act replies.StoreTrapped ≢ Some p
  trapped_untold (OnEnd on end Cancel) q = cc
  trapped_untold (Event g handle) q = cc
  trapped_untold (OnSet g set set_acts.Poll) q = cc
  trapped_untold _ q = cc

  refused_untold : (act : Act) (r : Refusal) → told_in act (replies.Refused r) ≢ Some p
  refused_untold (OnEnd on end Cancel) r q = cc
  refused_untold (Event g handle) r q = cc
  refused_untold (OnSet g set set_acts.Poll) r q = cc
  refused_untold _ r q = cc

  pub reaction-stays : (act : Act) → IsSound state → named_in act ≢ Some p → Stay act (reaction state act)
  reaction-stays act sound clear =
      reaction-by (Stay act) state act
      (λ t. record { end = stays_itself side (stream_at state s); out = w.out; untold = trapped_untold act })
      (λ r e. record { end = stays_itself side (stream_at state s); out = w.out; untold = refused_untold act r })
      (λ e. performs-stays act sound e clear)
