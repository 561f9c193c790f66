-- Another guest in the place of one that looks the same: its handles name what they named, and its memory may be
-- another where no operation lies in it. So a guest without an end gives up its memory, and one that has nothing
-- gets a memory.
use Rattle.std.proofs.Common.{◌≡◌, ◌≢◌, true, false, ℕ, zero, suc, ◌+◌, ◌<◌, ◌≤◌, Bool, List, [], ◌∷◌, length, get_or, set, Option, Some, None, refl, sym, ap, ◌∙◌, subst, arith, inl, inr}
use Rattle.std.specs.Prelude.{Ok, Err, is_ok, count_by, sum_by, All, ◌==◌, cond, nat_lt, nat_le, sum, ◌||◌}
use Rattle.std.proofs.Math.ListN.{get_or-map}
use Rattle.std.proofs.lemmas.Bool.{cases_eq, cond_both, eqb-true}
use Rattle.std.proofs.lemmas.List.{get_or-set_same, get_or-set_other, length-map, length-set, length-replicate, map-set}
use Rattle.std.proofs.lemmas.List.Elements.{All-weaker, All-set, All-nil, All-cons, All-head, All-tail}
use Rattle.std.proofs.lemmas.List.Sums.{sum_by-set, sum-map, sum_by-cons}
use Rattle.strm_handles.specs.Handles.{Handles, no_handles, entry_in, entry_at, occupied_in, occupied, lends_in, live_of, IsTable}
use Rattle.strm_handles.specs.Lookups.{end_rep_in, waitable_set_rep_in, waitable_set_rep_of}
use Rattle.strm_handles.specs.declared.entries.Entry.{Entry}
use Rattle.strm_waitable_sets.specs.Sets.{Sets, no_sets, is_set_there, is_member}
use Rattle.strm_machine.specs.State.{State, Guest, no_guest, guest_in, sets_in, memory_in, own_size, bytes_in_use, size_limit, memory_limit, no_stream}
use Rattle.strm_machine.specs.ErrorContexts.{leads_to, handles_to, all_handles_to}
use Rattle.strm_machine.specs.Soundness.{IsSound, AreSmall, AreNamed, HoldsSets, HoldSets, OperationIsPlaced, StreamIsPlaced, sizes_of, handles_of, types_of, own_sizes_of, EntryIsNamed}
use Rattle.strm_machine.specs.Tests.{Name, is_memory_too_big}
use Rattle.strm_machine.proofs.RefusalLemmas.{not_refused, not_le, not_lt}
use Rattle.strm_machine.specs.Moments.{is_end}
use Rattle.strm_machine.specs.Sides.{end_of}
use Rattle.strm_machine.specs.declared.streams.Side.{Side}
use Rattle.strm_machine.specs.declared.streams.Side.TheVariants.{Writing, Reading}
use Rattle.strm_machine.specs.declared.streams.Stream.{Stream}
use Rattle.strm_machine.specs.declared.streams.Operation.{Operation}
use Rattle.strm_machine.proofs.AgreeLemmas.{Agree-same}
use Rattle.strm_machine.proofs.HeldLemmas.{StateIsHeld, names_in}
use Rattle.strm_machine.proofs.ErrorContextLemmas.{HoldsContexts-same}
use Rattle.strm_machine.proofs.TableLemmas.{owner_in}
use Rattle.strm_codes.specs.declared.payloads.Payload.{Payload}
use Rattle.strm_codes.specs.declared.refusals.Refusal.{Refusal}
use Rattle.strm_memory.specs.Linear.{Base, own_part}
use Rattle.strm_machine.specs.Reactions.{goes}
use Rattle.strm_machine.specs.Refusals.{Reason, first_of}
use Rattle.strm_machine.specs.declared.replies.Reply.TheVariants as replies
use Rattle.strm_machine.proofs.GrowthLemmas.{Longer, IsPlaced-longer}
use Rattle.std.specs.Ptr.{Ptr}
use Rattle.strm_machine.specs.Growth.{guest_at}
use Rattle.strm_places.specs.Lives.{left_over, with_guest_in, guest_with, is_in_use, begin_reasons, begin_at_reasons, begins_unless, begins_as, HasNoEnd, HasNoOperation}
use Rattle.strm_codes.specs.declared.codes.TransmitIndex.{TransmitIndex}
use Rattle.strm_handles.proofs.HandleLemmas.{IsTable-no_handles}
use Rattle.strm_machine.proofs.SoundLemmas.{AreNamed-at}
use Rattle.std.specs.FinMap.{get-empty}
use Rattle.std.specs.Ordering.{nat_cmp}
use Rattle.strm_codes.specs.OptionalNumbers.{is_number}
use Rattle.strm_machine.specs.Bases.{is_lent_in}

-- ## A table without a handle

-- the entries of a table of which no slot is occupied
vacant : (xs : List (Option Entry)) → sum_by occupied_in xs ≡ 0 → (n : ℕ) → entry_in xs n ≡ None
vacant xs e zero = refl
vacant [] e (suc n) = refl
vacant (None ∷ xs) e (suc zero) = refl
vacant (None ∷ xs) e (suc (suc n)) = vacant xs e (suc n)
vacant (Some x ∷ xs) e (suc n) = absurd (omega (arith, e, sum_by-cons occupied_in (Some x) xs))

no_lends : (xs : List (Option Entry)) → sum_by occupied_in xs ≡ 0 → sum_by lends_in xs ≡ 0
no_lends [] e = refl
no_lends (None ∷ xs) e = no_lends xs e
no_lends (Some x ∷ xs) e = absurd (omega (arith, e, sum_by-cons occupied_in (Some x) xs))

leads_nowhere : (number : ℕ) (xs : List (Option Entry)) → sum_by occupied_in xs ≡ 0 → count_by (leads_to number) xs ≡ 0
leads_nowhere number [] e = refl
leads_nowhere number (None ∷ xs) e = leads_nowhere number xs e
leads_nowhere number (Some x ∷ xs) e = absurd (omega (arith, e, sum_by-cons occupied_in (Some x) xs))

-- sets of which none is there
none_there : (xs : List Bool) → ((n : ℕ) → get_or xs n false ≡ false) → count_by (λ there. there) xs ≡ 0
none_there [] e = refl
none_there (false ∷ xs) e = none_there xs (λ n. e (suc n))
none_there (true ∷ xs) e = let wrong : true ≡ false = e zero in cc

-- ## A guest that looks the same

-- its handles name what another's do, and its sets have the same members
pub record LooksAs (was is : Guest) : Type 0 where
  pub table : IsTable is.handles
  pub entries : (n : ℕ) → entry_at is.handles n ≡ entry_at was.handles n
  pub named : (types : List _) → AreNamed types was.handles → AreNamed types is.handles
  pub live : live_of is.handles ≡ live_of was.handles
  pub contexts : (number : ℕ) → handles_to number is.handles ≡ handles_to number was.handles
  pub there : (n : ℕ) → is_set_there is.sets n ≡ is_set_there was.sets n
  pub members : (n handle : ℕ) → is_member is.sets n handle ≡ is_member was.sets n handle
  pub count : count_by (λ there. there) is.sets.there ≡ count_by (λ there. there) was.sets.there

-- one with the same handles and sets does
pub same_looks : (was is : Guest) → is.handles ≡ was.handles → is.sets ≡ was.sets → HoldsSets was.handles was.sets → LooksAs was is
same_looks was is e f h = rw (e, f) (record {
  table = h.table;
  entries = λ n. refl;
  named = λ types all. all;
  live = refl;
  contexts = λ number. refl;
  there = λ n. refl;
  members = λ n handle. refl;
  count = refl;
})

-- a set that is there has a handle, so a table without a handle has none
no_set : (handles : Handles) (sets : Sets) → occupied handles ≡ 0 → HoldsSets handles sets → (n : ℕ) → is_set_there sets n ≡ false
no_set handles sets e h n = by (is_set_there sets n) refl
  where
    by : (b : Bool) → is_set_there sets n ≡ b → b ≡ false
    by false f = refl
    by true f =
        let named = h.named n f in
        let wrong : waitable_set_rep_in None ≡ Ok n = sym (ap waitable_set_rep_in (vacant handles.entries e named.0)) ∙ named.1 in
        cc

no_member : (handles : Handles) (sets : Sets) → occupied handles ≡ 0 → HoldsSets handles sets → (n handle : ℕ) → is_member sets n handle ≡ false
no_member handles sets e h n handle = by (is_member sets n handle) refl
  where
    by : (b : Bool) → is_member sets n handle ≡ b → b ≡ false
    by false f = refl
    by true f = let wrong : true ≡ false = sym (h.kept handle n f) ∙ no_set handles sets e h n in cc

no_sets-member : (n handle : ℕ) → is_member no_sets n handle ≡ false
no_sets-member n handle = ap (λ o. is_number o n) (get-empty nat_cmp handle)

-- a guest without handles and sets looks as one whose table has no handle
pub unused_looks : (was is : Guest) → is.handles ≡ no_handles → is.sets ≡ no_sets → occupied was.handles ≡ 0 → HoldsSets was.handles was.sets → LooksAs was is
unused_looks was is e f none h = rw (e, f) (record {
  table = IsTable-no_handles;
  entries = λ n. vacant [] refl n ∙ sym (vacant was.handles.entries none n);
  named = λ types all. All-nil (EntryIsNamed types);
  live = omega (arith, none, no_lends was.handles.entries none);
  contexts = λ number. sym (leads_nowhere number was.handles.entries none);
  there = λ n. sym (no_set was.handles was.sets none h n);
  members = λ n handle. no_sets-member n handle ∙ sym (no_member was.handles was.sets none h n handle);
  count = sym (none_there was.sets.there (no_set was.handles was.sets none h));
})

-- what is left of a guest looks so
pub left_looks : (was : Guest) → HoldsSets was.handles was.sets → LooksAs was (left_over was)
left_looks was h = by (occupied was.handles == 0) refl
  where
    by : (b : Bool) → (occupied was.handles == 0) ≡ b → LooksAs was (cond b no_guest (record was { memory = []; base = None }))
    by true e = unused_looks was no_guest refl refl (eqb-true (occupied was.handles) 0 e) h
    by false e = same_looks was (record was { memory = []; base = None }) refl refl h

-- ## In the place of the other

module _ (guests : List Guest) (g : ℕ) (x : Guest) (l : g < length guests) (looks : LooksAs (guest_in guests g) x) where
  abbrev others : List Guest
  others = set guests g x

  -- of that guest and of the others
  at_each : (P : Guest → Guest → Type 0) → P (guest_in guests g) x → ((y : Guest) → P y y) → (k : ℕ) → P (guest_in guests k) (guest_in others k)
  at_each P here same k =
      elim (cases_eq k g) [
        | inl e ↦ subst (λ i. P (guest_in guests i) (guest_in others i)) (sym e) (subst (P (guest_in guests g)) (sym (get_or-set_same guests g x no_guest l)) here)
        | inr ne ↦ subst (P (guest_in guests k)) (sym (get_or-set_other guests g k x no_guest ne)) (same (guest_in guests k))
      ]

  pub entries-replaced : (k n : ℕ) → entry_at (guest_in others k).handles n ≡ entry_at (guest_in guests k).handles n
  entries-replaced k n = at_each (λ y z. entry_at z.handles n ≡ entry_at y.handles n) (looks.entries n) (λ y. refl) k

  pub members-replaced : (k n handle : ℕ) → is_member (sets_in others k) n handle ≡ is_member (sets_in guests k) n handle
  members-replaced k n handle = at_each (λ y z. is_member z.sets n handle ≡ is_member y.sets n handle) (looks.members n handle) (λ y. refl) k

  -- a table and sets that agree still do
  holds-looking : (y z : Guest) → LooksAs y z → HoldsSets y.handles y.sets → HoldsSets z.handles z.sets
  holds-looking y z s h =
      let rep : (handle : ℕ) → waitable_set_rep_of z.handles handle ≡ waitable_set_rep_of y.handles handle = λ handle. ap waitable_set_rep_in (s.entries handle) in
      record {
        table = s.table;
        there = λ handle number e. s.there number ∙ h.there handle number (sym (rep handle) ∙ e);
        single = λ handle other number e f. h.single handle other number (sym (rep handle) ∙ e) (sym (rep other) ∙ f);
        named = λ number e. let found = h.named number (sym (s.there number) ∙ e) in (found.0, rep found.0 ∙ found.1);
        members = λ handle number e. ap (λ o. is_ok (end_rep_in o)) (s.entries handle) ∙ h.members handle number (sym (s.members number handle) ∙ e);
        kept = λ handle number e. s.there number ∙ h.kept handle number (sym (s.members number handle) ∙ e);
      }

  pub HoldSets-replaced : HoldSets guests → HoldSets others
  HoldSets-replaced h k =
      elim (cases_eq k g) [
        | inl e ↦ subst (λ i. HoldsSets (guest_in others i).handles (sets_in others i)) (sym e) (subst (λ (z : Guest). HoldsSets z.handles z.sets) (sym (get_or-set_same guests g x no_guest l)) (holds-looking (guest_in guests g) x looks (h g)))
        | inr ne ↦ subst (λ (z : Guest). HoldsSets z.handles z.sets) (sym (get_or-set_other guests g k x no_guest ne)) (h k)
      ]

  pub handles-replaced : sum_by (λ (y : Guest). live_of y.handles) others ≡ sum_by (λ (y : Guest). live_of y.handles) guests
  handles-replaced = omega (arith, sum_by-set (λ (y : Guest). live_of y.handles) guests g x no_guest l, looks.live)

  abbrev sets_held : Guest → ℕ
  sets_held y = count_by (λ there. there) y.sets.there

  pub sets-replaced : sum_by sets_held others ≡ sum_by sets_held guests
  sets-replaced = omega (arith, sum_by-set sets_held guests g x no_guest l, looks.count)

  pub contexts-replaced : (number : ℕ) → all_handles_to number others ≡ all_handles_to number guests
  contexts-replaced number = omega (arith, sum_by-set (λ (y : Guest). handles_to number y.handles) guests g x no_guest l, looks.contexts number)

  -- of the bytes that are the store's own, those of the guest are others
  pub bytes-replaced : sum_by own_size others + own_size (guest_in guests g) ≡ sum_by own_size guests + own_size x
  bytes-replaced = sum_by-set own_size guests g x no_guest l

  pub named-replaced : (types : List TransmitIndex) → All (AreNamed types) (handles_of guests) → All (AreNamed types) (handles_of others)
  named-replaced types all =
      subst (All (AreNamed types)) (sym (map-set (λ (y : Guest). y.handles) guests g x))
      (All-set (AreNamed types) (handles_of guests) g x.handles (looks.named types (AreNamed-at types guests g all)) all)

-- each memory keeps its limit where one is another that does
small_at : (guests : List Guest) (g : ℕ) (x : Guest) → length x.memory < size_limit → AreSmall (sizes_of guests) → AreSmall (sizes_of (set guests g x))
small_at [] zero x l h k = h k
small_at [] (suc g) x l h k = h k
small_at (y ∷ guests) zero x l h zero = l
small_at (y ∷ guests) zero x l h (suc k) = h (suc k)
small_at (y ∷ guests) (suc g) x l h zero = h zero
small_at (y ∷ guests) (suc g) x l h (suc k) = small_at guests g x l (λ j. h (suc j)) k

-- ## The state

-- a guest that looks the same, in a memory that keeps the limits and in which all operations lie
pub record Replaces (state : State) (g : ℕ) (x : Guest) : Type 0 where
  pub there : g < length state.guests
  pub looks : LooksAs (guest_in state.guests g) x
  pub placed : All (StreamIsPlaced (sizes_of (set state.guests g x))) state.streams
  pub small : length x.memory < size_limit
  pub own : sum_by own_size (set state.guests g x) ≤ memory_limit

pub IsSound-replaced : (state : State) (g : ℕ) (x : Guest) → Replaces state g x → IsSound state → IsSound (with_guest_in state g x)
IsSound-replaced state g x r h =
    let guests = state.guests in
    let total : sum (own_sizes_of (set guests g x)) ≡ sum_by own_size (set guests g x) = sum-map own_size (set guests g x) in
    record {
      named = named-replaced guests g x r.there r.looks (types_of state.streams) h.named;
      placed = r.placed;
      small = small_at guests g x r.small h.small;
      own = omega (arith, r.own, total);
      sets = HoldSets-replaced guests g x r.there r.looks h.sets;
      contexts = HoldsContexts-same guests (set guests g x) state.contexts (contexts-replaced guests g x r.there r.looks) h.contexts;
    }

pub held-replaced : (state : State) (g : ℕ) (x : Guest) → Replaces state g x → StateIsHeld state → StateIsHeld (with_guest_in state g x)
held-replaced state g x r h =
    let guests = state.guests in
    let others : List Guest = set guests g x in
    record {
      tables = λ k. at_each guests g x r.there r.looks (λ y z. IsTable y.handles → IsTable z.handles) (λ _. r.looks.table) (λ y t. t) k (h.tables k);
      agree = Agree-same (names_in guests) (names_in others) (owner_in state.streams) (owner_in state.streams) h.agree
          (λ k handle s side. ap (λ o. is_end s side (end_rep_in o)) (entries-replaced guests g x r.there r.looks k handle)) (λ s side. refl);
    }

-- ## Where operations lie

-- operations that lie in no memory but those that stay
module _ (old new : List ℕ) (g : ℕ) (count : length new ≡ length old) (same : (k : ℕ) → k ≢ g → get_or new k 0 ≡ get_or old k 0) where
  placed_besides : (stream : Stream) (side : Side) → ((o : Operation) → (end_of side stream).operation ≡ Some o → o.guest ≢ g) → OperationIsPlaced old stream.payload (end_of side stream).operation → OperationIsPlaced new stream.payload (end_of side stream).operation
  placed_besides stream side apart = by (end_of side stream).operation refl
    where
      by : (o : Option Operation) → (end_of side stream).operation ≡ o → OperationIsPlaced old stream.payload o → OperationIsPlaced new stream.payload o
      by None e p = tt
      by (Some o) e p = record { there = omega (arith, p.there, count); inside = rw (same o.guest (apart o e)) p.inside; counted = p.counted }

  all_besides : (streams : List Stream) → ((s : ℕ) (side : Side) (o : Operation) → (end_of side (get_or streams s no_stream)).operation ≡ Some o → o.guest ≢ g) → All (StreamIsPlaced old) streams → All (StreamIsPlaced new) streams
  all_besides [] apart all = All-nil (StreamIsPlaced new)
  all_besides (x ∷ streams) apart all =
      let here = All-head (StreamIsPlaced old) x streams all in
      All-cons (StreamIsPlaced new) x streams
      (record { writer = placed_besides x Writing (apart zero Writing) here.writer; reader = placed_besides x Reading (apart zero Reading) here.reader })
      (all_besides streams (λ s. apart (suc s)) (All-tail (StreamIsPlaced old) x streams all))

-- the sizes of all memories but one
sizes-others : (guests : List Guest) (g : ℕ) (x : Guest) (k : ℕ) → k ≢ g → get_or (sizes_of (set guests g x)) k 0 ≡ get_or (sizes_of guests) k 0
sizes-others guests g x k ne =
    get_or-map (λ (y : Guest). length y.memory) (set guests g x) k no_guest
    ∙ ap (λ (y : Guest). length y.memory) (get_or-set_other guests g k x no_guest ne)
    ∙ sym (get_or-map (λ (y : Guest). length y.memory) guests k no_guest)

sizes-count : (guests : List Guest) (g : ℕ) (x : Guest) → length (sizes_of (set guests g x)) ≡ length (sizes_of guests)
sizes-count guests g x =
    length-map (set guests g x) (λ (y : Guest). length y.memory) ∙ length-set guests g x ∙ sym (length-map guests (λ (y : Guest). length y.memory))

-- what is left of a guest has no bytes
left_bytes : (was : Guest) → length (left_over was).memory ≡ 0
left_bytes was =
    cond_both (occupied was.handles == 0) no_guest (record was { memory = []; base = None }) (λ (y : Guest). length y.memory ≡ 0) (λ e. refl) (λ e. refl)

pub left_own : (was : Guest) → own_size (left_over was) ≡ 0
left_own was =
    cond_both (occupied was.handles == 0) no_guest (record was { memory = []; base = None }) (λ (y : Guest). own_size y ≡ 0) (λ e. refl) (λ e. refl)

-- what is left of a guest may stand in its place, if no operation lies in its memory
pub left_replaces : (state : State) (g : ℕ) → g < length state.guests → HasNoOperation state g → IsSound state → Replaces state g (left_over (guest_in state.guests g))
left_replaces state g l none h =
    let guests = state.guests in
    let was = guest_in guests g in
    let x = left_over was in
    let looks = left_looks was (h.sets g) in
    let total : sum (own_sizes_of guests) ≡ sum_by own_size guests = sum-map own_size guests in
    record {
      there = l;
      looks = looks;
      placed = all_besides (sizes_of guests) (sizes_of (set guests g x)) g (sizes-count guests g x) (sizes-others guests g x) state.streams none h.placed;
      small = rw (left_bytes was) (omega arith);
      own = omega (arith, h.own, bytes-replaced guests g x l looks, left_own was, total);
    }

-- ## Ends

-- a name that is no end's is of no end
pub no_end : (s : ℕ) (side : Side) (name : Name) → is_ok name ≡ false → is_end s side name ≡ false
no_end s side (Err error) e = refl
no_end s side (Ok answer) e = cc

-- no end is named where handles name what they named
pub none-replaced : (state : State) (g : ℕ) (x : Guest) → Replaces state g x → HasNoEnd state g → HasNoEnd (with_guest_in state g x) g
none-replaced state g x r none handle =
    ap (λ o. is_ok (end_rep_in o)) (entries-replaced state.guests g x r.there r.looks g handle) ∙ none handle

-- ## A guest that begins

-- what is asked of a guest's number that is free
pub record IsUnused (state : State) (g : ℕ) : Type 0 where
  pub empty : length (memory_in state.guests g) ≡ 0
  pub vacant : occupied (guest_in state.guests g).handles ≡ 0
  pub own : own_size (guest_in state.guests g) ≡ 0

pub not_in_use : (state : State) (g : ℕ) → is_in_use state g ≡ false → IsUnused state g
not_in_use state g e =
    let parts = first_two (nat_lt 0 (length (memory_in state.guests g))) (nat_lt 0 (occupied (guest_in state.guests g).handles)) (is_lent_in state.guests g) e in
    let empty : length (memory_in state.guests g) ≡ 0 = omega (arith, not_lt 0 (length (memory_in state.guests g)) parts.0) in
    record {
      empty = empty;
      vacant = omega (arith, not_lt 0 (occupied (guest_in state.guests g).handles) parts.1);
      own = none_own (guest_in state.guests g).base (length (memory_in state.guests g)) empty;
    }
  where
    first_two : (a b c : Bool) → a || b || c ≡ false → (a ≡ false) × (b ≡ false)
    first_two true b c e = cc
    first_two false true c e = cc
    first_two false false c e = (refl, refl)

    none_own : (base : Option Base) (n : ℕ) → n ≡ 0 → own_part base n ≡ 0
    none_own None n e = e
    none_own (Some base) n e = cond_both base.is_lent 0 n (λ k. k ≡ 0) (λ lent. refl) (λ own. e)

-- a guest without handles and sets may stand there, in a memory that keeps the limits: where there was no byte no
-- operation's items lie, but such as have no bytes, which lie in any memory
pub begins_replaces : (state : State) (g : ℕ) (x : Guest) → g < length state.guests → IsUnused state g → x.handles ≡ no_handles → x.sets ≡ no_sets
    → length x.memory < size_limit → sum_by own_size state.guests + own_size x ≤ memory_limit → IsSound state → Replaces state g x
begins_replaces state g x l unused e f small own h =
    let guests = state.guests in
    let looks = unused_looks (guest_in guests g) x e f unused.vacant (h.sets g) in
    record {
      there = l;
      looks = looks;
      placed = All-weaker (StreamIsPlaced (sizes_of guests)) (StreamIsPlaced (sizes_of (set guests g x))) (λ stream p. record {
        writer = longer_of (sizes_of guests) (sizes_of (set guests g x)) stream.payload stream.writer.operation longer p.writer;
        reader = longer_of (sizes_of guests) (sizes_of (set guests g x)) stream.payload stream.reader.operation longer p.reader;
      }) state.streams h.placed;
      small = small;
      own = omega (arith, own, unused.own, bytes-replaced guests g x l looks);
    }
  where
    longer_of : (old new : List ℕ) (payload : Payload) (o : Option Operation) → Longer old new → OperationIsPlaced old payload o → OperationIsPlaced new payload o
    longer_of old new payload None m p = tt
    longer_of old new payload (Some o) m p = IsPlaced-longer old new payload o m p

    longer : Longer (sizes_of state.guests) (sizes_of (set state.guests g x))
    longer = record {
      count = sizes-count state.guests g x;
      more = λ k. elim (cases_eq k g) [
        | inl k_is ↦ (let none : get_or (sizes_of state.guests) k 0 ≡ 0 = ap (λ i. get_or (sizes_of state.guests) i 0) k_is ∙ get_or-map (λ (y : Guest). length y.memory) state.guests g no_guest ∙ unused.empty in
            omega (arith, none))
        | inr ne ↦ omega (arith, sizes-others state.guests g x k ne)
      ];
    }

-- ## Why none begins

module _ (state : State) (g : ℕ) (x : Guest) (reasons : List Reason) where
  pub begins_as-trapped : state.trapped ≡ true → begins_as state g x reasons ≡ goes replies.StoreTrapped state
  unfolding begins_as
  begins_as-trapped t = rw t refl

  pub begins_as-refused : (r : Refusal) → state.trapped ≡ false → first_of reasons ≡ Some r → begins_as state g x reasons ≡ goes (replies.Refused r) state
  unfolding begins_as
  begins_as-refused r t e =
      ap (λ b. cond b (goes replies.StoreTrapped state) (begins_unless state g x (first_of reasons))) t
      ∙ ap (begins_unless state g x) e

  pub begins_as-performs : state.trapped ≡ false → first_of reasons ≡ None → begins_as state g x reasons ≡ goes replies.Done (with_guest_in state g x)
  unfolding begins_as
  begins_as-performs t e =
      ap (λ b. cond b (goes replies.StoreTrapped state) (begins_unless state g x (first_of reasons))) t
      ∙ ap (begins_unless state g x) e

  -- what holds of the state before and of that with the guest holds after the call
  pub begins_as-by : (P : State → Type 0) → P state → (first_of reasons ≡ None → P (with_guest_in state g x)) → P (begins_as state g x reasons).state
  unfolding begins_as
  begins_as-by P old new = by_trap state.trapped
    where
      by_refusal : (o : Option Refusal) → first_of reasons ≡ o → P (begins_unless state g x o).state
      by_refusal (Some r) e = old
      by_refusal None e = new e

      by_trap : (b : Bool) → P (cond b (goes replies.StoreTrapped state) (begins_unless state g x (first_of reasons))).state
      by_trap true = old
      by_trap false = by_refusal (first_of reasons) refl

-- what is known where nothing refuses one
pub begin_room : (state : State) (size : ℕ) → first_of (begin_reasons state size) ≡ None → sum_by own_size state.guests + size ≤ memory_limit
begin_room state size e = not_lt memory_limit (bytes_in_use state + size) (not_refused (is_memory_too_big state size) _ _ e).0

pub begin_at_small : (size : ℕ) → first_of (begin_at_reasons size) ≡ None → size < size_limit
begin_at_small size e = not_le size_limit size (not_refused (nat_le size_limit size) _ _ e).0

-- what nothing refuses may stand there
pub begin_replaces : (state : State) (g size : ℕ) → g < length state.guests → is_in_use state g ≡ false → IsSound state → first_of (begin_reasons state size) ≡ None → Replaces state g (guest_with size)
begin_replaces state g size l free h e =
    let room = begin_room state size e in
    begins_replaces state g (guest_with size) l (not_in_use state g free) refl refl
    (omega (arith, room, length-replicate {A = ℕ} size 0)) (omega (arith, room, length-replicate {A = ℕ} size 0)) h

pub begin_at_replaces : (state : State) (g : ℕ) (bytes : List ℕ) (at : Ptr) → g < length state.guests → is_in_use state g ≡ false → IsSound state → first_of (begin_at_reasons (length bytes)) ≡ None → Replaces state g (guest_at bytes at)
begin_at_replaces state g bytes at l free h e =
    begins_replaces state g (guest_at bytes at) l (not_in_use state g free) refl refl (begin_at_small (length bytes) e)
    (omega (arith, h.own, sum-map own_size state.guests)) h
