-- How many handles a table has, of each kind, after a change: no more than it had, or than limits allow.
use Rattle.std.proofs.Common.{◌≡◌, ◌≢◌, ℕ, zero, suc, ◌+◌, ◌<◌, ◌≤◌, min, max, Bool, true, false, List, [], ◌∷◌, length, set, sum_by, Option, Some, None, ℤ, refl, ap, inl, inr, arith}
use Rattle.std.specs.Prelude.{◌⊎◌, ◌||◌, is_ok, nat_lt}
use Rattle.std.proofs.lemmas.Bool.Decides.{nat_tests}
use Rattle.std.specs.Option.{option_map}
use Rattle.std.proofs.lemmas.Bool.{cond_both, cases_lt, cases_eq}
use Rattle.std.proofs.lemmas.List.{set_past, get_or-set_same, get_or-set_other}
use Rattle.std.proofs.lemmas.List.Sums.{sum_by-set, sum_by_push}
use Rattle.strm_handles.specs.Handles.{Handles, entry_in, entry_at, entries_with, inserted, inserted_in, removed, occupied, occupied_in}
use Rattle.strm_handles.specs.Lookups.{end_rep_in}
use Rattle.strm_handles.specs.declared.entries.Entry.TheVariants as entries
use Rattle.strm_handles.proofs.HandleLemmas.{given, sum_by-entries_with}
use Rattle.strm_handles.specs.Kinds.{end_in, ends_held, context_in, contexts_held}
use Rattle.strm_handles.specs.declared.entries.Entry.{Entry}
use Rattle.strm_codes.specs.declared.codes.ReturnCode.{ReturnCode}
use Rattle.strm_codes.specs.declared.codes.TransmitIndex.{TransmitIndex}
use Rattle.strm_codes.specs.declared.codes.TransmitIndex.TheVariants as index
use Rattle.strm_codes.specs.Layout.{item_type}
use Rattle.strm_memory.specs.Items.{items_at, stored_at}
use Rattle.strm_machine.specs.State.{State, Guest, no_guest, is_gone, guest_in, memory_in, with_memory, with_table}
use Rattle.strm_machine.specs.Making.{end_entry}
use Rattle.strm_machine.specs.Operating.{Operated, completes_alone, finds, rendezvous_by, moves, operate}
use Rattle.strm_machine.specs.Reactions.{Reaction, operates, on_end, on_set, polls, texts, on_memory, written_back}
use Rattle.strm_machine.specs.Sides.{end_of, opposite, same_side, read_of, write_of}
use Rattle.strm_machine.specs.Tests.{named, stream_named}
use Rattle.strm_machine.specs.WaitableSets.{ready_in}
use Rattle.strm_machine.specs.declared.acts.EndAct.{EndAct}
use Rattle.strm_machine.specs.declared.acts.EndAct.TheVariants.{Operate, Drop, Cancel, Lift}
use Rattle.strm_machine.specs.declared.acts.MemoryAct.{MemoryAct}
use Rattle.strm_machine.specs.declared.acts.MemoryAct.TheVariants.{Poke, Dump}
use Rattle.strm_machine.specs.declared.acts.NamedEnd.{NamedEnd}
use Rattle.strm_machine.specs.declared.acts.SetAct.{SetAct}
use Rattle.strm_machine.specs.declared.acts.SetAct.TheVariants as set_acts
use Rattle.strm_machine.specs.declared.streams.Meeting.{Meeting}
use Rattle.strm_machine.specs.declared.streams.Meeting.TheVariants.{BothComplete, ReadCompletes, WriteCompletes}
use Rattle.strm_machine.specs.declared.streams.Operation.{Operation}
use Rattle.strm_machine.specs.declared.streams.Side.{Side}
use Rattle.strm_machine.specs.declared.streams.Side.TheVariants.{Writing, Reading}
use Rattle.strm_machine.specs.declared.streams.Stream.{Stream}
use Rattle.strm_machine.proofs.Shapes.{stream_on, begun_on, turn_on}
use Rattle.strm_waitable_sets.specs.Sets.{Sets}
use Rattle.strm_machine.proofs.TableLemmas.{set-keeps}
use Rattle.strm_guest_store.specs.declared.guest_limits.GuestLimits.{GuestLimits}
use Rattle.strm_transmit.specs.Counts.{handle_counts}
use Rattle.strm_guest_store.specs.Limits.{bytes_for, GetsNoMore, passes_limits}
use Rattle.strm_guest_store.specs.declared.guest_limits.Gain.TheVariants.{Ends, Set, Context}

-- ## A sum over the entries of a table

module _ (f : Option Entry → ℕ) (none : f None ≡ 0) where
  -- with another entry
  with_entry-most : (es : List (Option Entry)) (n : ℕ) (x : Option Entry) → sum_by f (entries_with es n x) ≤ sum_by f es + f x
  with_entry-most es zero x = omega arith
  with_entry-most es (suc i) x = by (cases_lt i (length es))
    where
      by : (i < length es) ⊎ (length es ≤ i) → sum_by f (set es i x) ≤ sum_by f es + f x
      by (inl l) = omega (arith, sum_by-set f es i x None l)
      by (inr l) = omega (arith, ap (sum_by f) (set_past es i x l))

  inserted_in-most : (es : List (Option Entry)) (freed : List ℕ) (e : Entry) → sum_by f (inserted_in es freed e).entries ≤ sum_by f es + f (Some e)
  inserted_in-most es [] e = omega (arith, sum_by_push f es (Some e))
  inserted_in-most es (n ∷ ns) e = with_entry-most es n (Some e)

  inserted-most : (h : Handles) (e : Entry) → sum_by f (inserted h e).entries ≤ sum_by f h.entries + f (Some e)
  inserted-most h e = inserted_in-most h.entries h.freed e

  removed-most : (h : Handles) (n : ℕ) → sum_by f (removed h n).entries ≤ sum_by f h.entries
  removed-most h n = omega (arith, with_entry-most h.entries n None, none)

-- ## A table

-- of each it has no more than it had, or than the limits allow
abbrev pub NoMore : GuestLimits → Handles → Handles → Type 0
NoMore limits old new = GetsNoMore limits (handle_counts old) (handle_counts new)

pub same-no_more : (limits : GuestLimits) (h : Handles) → NoMore limits h h
same-no_more limits h = record { handles = omega arith; ends = omega arith; bytes = omega arith }

removed-no_more : (limits : GuestLimits) (h : Handles) (n : ℕ) → NoMore limits h (removed h n)
removed-no_more limits h n = record {
  handles = omega (arith, removed-most occupied_in refl h n);
  ends = omega (arith, removed-most end_in refl h n);
  bytes = omega (arith, removed-most context_in refl h n);
}

-- an entry more, where each is within the limits or is none
pub record Fits (limits : GuestLimits) (h : Handles) (e : Entry) : Type 0 where
  pub handles : occupied h + 1 ≤ limits.handles
  pub ends : ends_held h + end_in (Some e) ≤ max limits.ends (ends_held h)
  pub bytes : bytes_for (contexts_held h + context_in (Some e)) ≤ max limits.bytes (bytes_for (contexts_held h))

pub inserted-no_more : (limits : GuestLimits) (h : Handles) (e : Entry) → Fits limits h e → NoMore limits h (inserted h e)
inserted-no_more limits h e fits = record {
  handles = omega (arith, inserted-most occupied_in refl h e, fits.handles);
  ends = omega (arith, inserted-most end_in refl h e, fits.ends);
  bytes = omega (arith, inserted-most context_in refl h e, fits.bytes);
}

-- ## The table of one guest among them

abbrev pub table : List Guest → ℕ → Handles
table guests g = (guest_in guests g).handles

-- another table of one of them, if that is there
pub with_table-by : (P : Handles → Type 0) (guests : List Guest) (k : ℕ) (handles : Handles) (sets : Sets) (g : ℕ)
    → (g ≡ k → k < length guests → P handles) → P (table guests g) → P (table (with_table guests k handles sets) g)
with_table-by P guests k handles sets g made kept = by (cases_eq g k) (cases_lt k (length guests))
  where
    new : Guest
    new = record (guest_in guests k) { handles = handles; sets = sets }

    by : (g ≡ k) ⊎ (g ≢ k) → (k < length guests) ⊎ (length guests ≤ k) → P (table (set guests k new) g)
    by (inr ne) there = rw (ap (λ (x : Guest). x.handles) (get_or-set_other guests k g new no_guest ne)) kept
    by (inl e) (inr l) = rw (set_past guests k new l) kept
    by (inl e) (inl l) = rw (e, ap (λ (x : Guest). x.handles) (get_or-set_same guests k new no_guest l)) (made e l)

-- ## By what is tested before a call

-- two tests, neither of which holds
pub neither : (a b : Bool) → (a || b) ≡ false → (a ≡ false) × (b ≡ false)
neither true b e = cc
neither false b e = (refl, e)

within : (limit count : ℕ) → nat_lt limit count ≡ false → count ≤ limit
within limit count e = grind (arith, nat_tests)

module _ (limits : GuestLimits) (h : Handles) where
  -- an end, where so many may come
  pub end-fits : (e : Entry) (count : ℕ) → end_in (Some e) ≡ 1 → context_in (Some e) ≡ 0 → 1 ≤ count → passes_limits limits (handle_counts h) (Ends count) ≡ false → Fits limits h e
  end-fits e count one none some t =
      let tests = neither (nat_lt limits.handles (occupied h + count)) (nat_lt limits.ends (ends_held h + count)) t in
      record {
        handles = omega (arith, some, within limits.handles (occupied h + count) tests.0);
        ends = omega (arith, one, some, within limits.ends (ends_held h + count) tests.1);
        bytes = omega (arith, none);
      }

  -- a set
  pub set-fits : (e : Entry) → end_in (Some e) ≡ 0 → context_in (Some e) ≡ 0 → passes_limits limits (handle_counts h) Set ≡ false → Fits limits h e
  set-fits e one none t = record {
    handles = within limits.handles (occupied h + 1) t;
    ends = omega (arith, one);
    bytes = omega (arith, none);
  }

  -- an error context
  pub context-fits : (e : Entry) → end_in (Some e) ≡ 0 → context_in (Some e) ≡ 1 → passes_limits limits (handle_counts h) Context ≡ false → Fits limits h e
  context-fits e none one t =
      let tests = neither (nat_lt limits.handles (occupied h + 1)) (nat_lt limits.bytes (bytes_for (contexts_held h + 1))) t in
      record {
        handles = within limits.handles (occupied h + 1) tests.0;
        ends = omega (arith, none);
        bytes = omega (arith, one, within limits.bytes (bytes_for (contexts_held h + 1)) tests.1);
      }

  -- and two ends
  pub ends-no_more : (a b : Entry) → end_in (Some a) ≡ 1 → context_in (Some a) ≡ 0 → end_in (Some b) ≡ 1 → context_in (Some b) ≡ 0 → passes_limits limits (handle_counts h) (Ends 2) ≡ false → NoMore limits h (inserted (inserted h a) b)
  ends-no_more a b one none one_too none_too t =
      let tests = neither (nat_lt limits.handles (occupied h + 2)) (nat_lt limits.ends (ends_held h + 2)) t in
      let most = λ (f : Option Entry → ℕ) (n : f None ≡ 0). inserted-most f n (inserted h a) b in
      record {
        handles = omega (arith, inserted-most occupied_in refl h a, most occupied_in refl, within limits.handles (occupied h + 2) tests.0);
        ends = omega (arith, inserted-most end_in refl h a, most end_in refl, one, one_too, within limits.ends (ends_held h + 2) tests.1);
        bytes = omega (arith, inserted-most context_in refl h a, most context_in refl, none, none_too);
      }

-- an end's handle, whichever end it is
pub end-one : (side : Side) (ty : TransmitIndex) (s : ℕ) → (end_in (Some (end_entry side ty s)) ≡ 1) × (context_in (Some (end_entry side ty s)) ≡ 0)
end-one Writing (index.Stream payload) s = (refl, refl)
end-one Writing (index.Future payload) s = (refl, refl)
end-one Reading (index.Stream payload) s = (refl, refl)
end-one Reading (index.Future payload) s = (refl, refl)

-- a handle of an end that is freed
record FreesEnd (old new : Handles) : Type 0 where
  pub handles : occupied new + 1 ≡ occupied old
  pub ends : ends_held new + 1 ≡ ends_held old
  pub contexts : contexts_held new ≡ contexts_held old

module _ (h : Handles) (n : ℕ) where
  -- what a number that stands for something counted is counted off
  counted-off : (f : Option Entry → ℕ) → f None ≡ 0 → (x : Entry) → entry_at h n ≡ Some x → sum_by f (removed h n).entries + f (Some x) ≡ sum_by f h.entries
  counted-off f none x e =
      let g = given h.entries n x e in
      let was : f (entry_in h.entries n) ≡ f (Some x) = ap f e in
      omega (arith, sum_by-entries_with f h.entries n None g.0 g.1, was, none)

  frees-end : (x : Entry) → entry_at h n ≡ Some x → end_in (Some x) ≡ 1 → context_in (Some x) ≡ 0 → FreesEnd h (removed h n)
  frees-end x e one none = record {
    handles = counted-off occupied_in refl x e;
    ends = omega (arith, counted-off end_in refl x e, one);
    contexts = omega (arith, counted-off context_in refl x e, none);
  }

  named-frees : (o : Option Entry) → entry_at h n ≡ o → is_ok (end_rep_in o) ≡ true → FreesEnd h (removed h n)
  named-frees None e ok = cc
  named-frees (Some (entries.Stream end)) e ok = frees-end (entries.Stream end) e refl refl
  named-frees (Some (entries.Future end)) e ok = frees-end (entries.Future end) e refl refl
  named-frees (Some (entries.ResourceOwn resource lends)) e ok = cc
  named-frees (Some (entries.ResourceBorrow resource scope)) e ok = cc
  named-frees (Some (entries.ErrorContext rep)) e ok = cc
  named-frees (Some (entries.Subtask rep is_host)) e ok = cc
  named-frees (Some (entries.WaitableSet rep)) e ok = cc

  -- and another end in its place
  pub replaced-no_more : (limits : GuestLimits) (x : Entry) → end_in (Some x) ≡ 1 → context_in (Some x) ≡ 0 → is_ok (end_rep_in (entry_at h n)) ≡ true → NoMore limits h (inserted (removed h n) x)
  replaced-no_more limits x one none ok =
      let frees = named-frees (entry_at h n) refl ok in
      record {
        handles = omega (arith, inserted-most occupied_in refl (removed h n) x, frees.handles);
        ends = omega (arith, inserted-most end_in refl (removed h n) x, frees.ends, one);
        bytes = omega (arith, inserted-most context_in refl (removed h n) x, frees.contexts, none);
      }

-- ## What each act leaves

-- handles that are the same
pub keeps-no_more : (limits : GuestLimits) (old new : List Guest) (g : ℕ) → table new g ≡ table old g → NoMore limits (table old g) (table new g)
keeps-no_more limits old new g e = rw e (same-no_more limits (table old g))

with_memory-table : (guests : List Guest) (k : ℕ) (memory : List ℕ) (g : ℕ) → table (with_memory guests k memory) g ≡ table guests g
with_memory-table guests k memory g = set-keeps (λ (x : Guest). x.handles) guests k g (record (guest_in guests k) { memory = memory }) no_guest refl

module _ (side : Side) (guests : List Guest) (stream : Stream) (mine : Operation) (g : ℕ) where
  abbrev Stay : Operated → Type 0
  Stay t = table t.guests g ≡ table guests g

  -- the guests with items that were lifted stored where a read is to have them
  abbrev stored_for : Operation → List (List ℤ) → List Guest
  stored_for read xs = with_memory guests read.guest (stored_at (item_type stream.payload) (memory_in guests read.guest) read.address xs)

  moved_stay : (theirs : Operation) (n : ℕ) (o : Option (List (List ℤ))) → Stay (moves side guests stream mine theirs n (option_map (stored_for (read_of side mine theirs)) o))
  moved_stay theirs n None = refl
  moved_stay theirs n (Some xs) = with_memory-table guests (read_of side mine theirs).guest _ g

  alone_stay : (who : Side) (theirs : Operation) → Stay (completes_alone who side guests stream mine theirs)
  alone_stay who theirs = cond_both (same_side who side) _ _ Stay (λ e. refl) (λ e. refl)

  meets_stay : (meeting : Meeting) (theirs : Operation) → Stay (rendezvous_by meeting side guests stream mine theirs)
  meets_stay BothComplete theirs =
      let n = min mine.left theirs.left in
      let write = write_of side mine theirs in
      moved_stay theirs n (items_at (item_type stream.payload) (memory_in guests write.guest) write.address n)
  meets_stay WriteCompletes theirs = alone_stay Writing theirs
  meets_stay ReadCompletes theirs = alone_stay Reading theirs

  finds_stay : (o : Option Operation) → Stay (finds side guests stream mine o)
  finds_stay None = refl
  finds_stay (Some theirs) = cond_both theirs.is_open _ _ Stay (λ e. meets_stay _ theirs) (λ e. refl)

  turn_stay : Stay (operate side guests stream mine)
  unfolding operate
  turn_stay = cond_both (is_gone (end_of (opposite side) stream).owner) _ _ Stay (λ e. refl) (λ e. finds_stay (end_of (opposite side) stream).operation)

back_stays : (state : State) (s : ℕ) (t : Operated) (code : Option ReturnCode) (g : ℕ) → table t.guests g ≡ table state.guests g → table (written_back state s t code).state.guests g ≡ table state.guests g
back_stays state s t None g h = h
back_stays state s t (Some code) g h = h

-- a read or write changes no table
pub operated-table : (state : State) (side : Side) (end : NamedEnd) (address count g : ℕ) → table (operates state side end address count).state.guests g ≡ table state.guests g
operated-table state side end address count g =
    let t = turn_on state side end address count in
    back_stays state (stream_named (named state end)) t t.code g (turn_stay side state.guests (stream_on state end) (begun_on end address count) g)

module _ (limits : GuestLimits) (state : State) (g : ℕ) where
  -- a guest has no more after an act
  abbrev pub After : Reaction → Type 0
  After r = NoMore limits (table state.guests g) (table r.state.guests g)

  abbrev pub After_table : Handles → Type 0
  After_table h = NoMore limits (table state.guests g) h

  abbrev pub same : NoMore limits (table state.guests g) (table state.guests g)
  same = same-no_more limits (table state.guests g)

  pub freed : (k handle : ℕ) (sets : Sets) → NoMore limits (table state.guests g) (table (with_table state.guests k (removed (table state.guests k) handle) sets) g)
  freed k handle sets =
      with_table-by After_table state.guests k (removed (table state.guests k) handle) sets g
      (λ e l. rw e (removed-no_more limits (table state.guests k) handle)) same

  pub on_end-no_more : (side : Side) (end : NamedEnd) (act : EndAct) → After (on_end state side end act)
  on_end-no_more side end (Operate address count) =
      keeps-no_more limits state.guests _ g (operated-table state side end address count g)
  on_end-no_more side end Drop = freed end.guest end.handle _
  on_end-no_more side end Cancel = same
  on_end-no_more side end Lift = freed end.guest end.handle _

  pub on_set-no_more : (k set : ℕ) (act : SetAct) → After (on_set state k set act)
  on_set-no_more k set (set_acts.Join handle) =
      keeps-no_more limits state.guests _ g (set-keeps (λ (x : Guest). x.handles) state.guests k g _ no_guest refl)
  on_set-no_more k set set_acts.Poll = by (ready_in state k set)
    where
      by : (o : Option ℕ) → After (polls state k o)
      by None = same
      by (Some handle) = same
  on_set-no_more k set set_acts.Drop = freed k set _

  pub texts-no_more : (k handle address : ℕ) → After (texts state k handle address)
  texts-no_more k handle address = keeps-no_more limits state.guests _ g (with_memory-table state.guests k _ g)

  pub on_memory-no_more : (k : ℕ) (act : MemoryAct) → After (on_memory state k act)
  on_memory-no_more k (Poke address bytes) = keeps-no_more limits state.guests _ g (with_memory-table state.guests k _ g)
  on_memory-no_more k (Dump address len) = same

  -- a handle more of a guest, which it may have
  pub given-no_more : (k : ℕ) (x : Entry) (sets : Sets) → (g ≡ k → k < length state.guests → Fits limits (table state.guests k) x) → After_table (table (with_table state.guests k (inserted (table state.guests k) x) sets) g)
  given-no_more k x sets fits =
      with_table-by After_table state.guests k (inserted (table state.guests k) x) sets g
      (λ e l. rw e (inserted-no_more limits (table state.guests k) x (fits e l))) same
