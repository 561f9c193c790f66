-- Each change of the machine leaves a sound state.
use Rattle.std.proofs.Common.{◌≡◌, true, ℕ, zero, suc, ◌+◌, ◌<◌, ◌≤◌, List, [], ◌∷◌, ◌++◌, length, set, Option, Some, None, refl, sym, ap, ◌∙◌, subst, inl, inr, arith, length-append}
use Rattle.std.specs.Prelude.{All, sum, is_ok}
use Rattle.std.proofs.Math.Seq.{map-set_same}
use Rattle.std.proofs.Math.ListN.{get_or-map}
use Rattle.std.proofs.lemmas.Bool.{cases_lt}
use Rattle.std.proofs.lemmas.List.{get_or_past, length-map, map-append, get_or_append_left, map-set, get_or_push}
use Rattle.std.proofs.lemmas.List.Elements.{All-set, All-push, All-weaker, All-get_or, All-nil}
use Rattle.std.proofs.lemmas.List.Sums.{sum_by-append}
use Rattle.strm_machine.specs.Words.{Guest, TransmitIndex, Payload, kind_of, payload_of, Handles, removed, no_handles, Entry, Sets, no_sets, State, no_guest, no_stream, guest_in, sets_in, with_handles, with_table, without_handle, end_named, HoldsSets, HoldSets, stream_at, Operated, ReturnCode, end_of, with_end, End, Writing, Reading, Side, sizes_of, IsPlaced, OperationIsPlaced, StreamIsPlaced, IsSound, Operation, Stream}
use Rattle.strm_codes.specs.declared.codes.TransmitIndex.TheVariants as index
use Rattle.strm_codes.specs.declared.payloads.Payload.TheVariants.{Nothing}
use Rattle.strm_handles.specs.Handles.{handle_limit, entry_at, next_index, inserted, inserted_in, entries_with}
use Rattle.strm_handles.specs.Lookups.{end_rep_in}
use Rattle.strm_waitable_sets.specs.Sets.{handle_left}
use Rattle.strm_error_contexts.specs.Contexts.{Contexts}
use Rattle.strm_handles.specs.declared.entries.Entry.TheVariants as entries
use Rattle.strm_handles.specs.declared.entries.TransmitEnd.{TransmitEnd}
use Rattle.strm_handles.specs.Ends.{read_end, write_end}
use Rattle.strm_machine.specs.State.{size_limit, memory_limit, own_size}
use Rattle.strm_events.specs.Reports.{left_pending}
use Rattle.strm_machine.specs.Endings.{asked_to_finish}
use Rattle.strm_machine.specs.Making.{read_entry, write_entry, end_entry, with_read_end, with_ends, writer_index, made_stream, made_pair, with_stream}
use Rattle.strm_machine.specs.Soundness.{handles_of, own_sizes_of, type_with, type_of, types_of, is_idle_state, IsNamed, EntryIsNamed, AreNamed, HoldsContexts, AreSmall}
use Rattle.strm_machine.proofs.TurnLemmas.{GuestsKeep, TurnKeeps}
use Rattle.strm_machine.proofs.WaitableSetLemmas.{end_some, HoldsSets-freed, HoldsSets-given_end, HoldSets-with, HoldSets-kept, HoldSets-more}
use Rattle.strm_machine.proofs.ErrorContextLemmas.{end_leads_nowhere, all_handles-same, HoldsContexts-same, HoldsContexts-more, HoldsContexts-given, HoldsContexts-freed}
use Rattle.strm_machine.proofs.EndLemmas.{IsLeft, Unchanged, Ended, left_by, with_end-type}

-- guests with the handles and memory lengths of those before
pub IsSound-guests : (state : State) (guests : List Guest) → GuestsKeep state.guests guests → IsSound state → IsSound (record state { guests = guests })
IsSound-guests state guests k h = record {
  named = rw k.handles h.named;
  placed = rw k.sizes h.placed;
  small = rw k.sizes h.small;
  own = rw k.own h.own;
  sets = HoldSets-kept state.guests guests k.handles k.sets h.sets;
  contexts = HoldsContexts-same state.guests guests state.contexts (λ number. all_handles-same number state.guests guests k.handles) h.contexts;
}

pub type_of-same : (a b : Stream) → a.payload ≡ b.payload → a.kind ≡ b.kind → type_of a ≡ type_of b
type_of-same a b e f = rw (e, f) refl

-- a stream of the same type, whose operations lie in memory
pub IsSound-stream : (state : State) (s : ℕ) (stream : Stream) → type_of stream ≡ type_of (stream_at state s) → StreamIsPlaced (sizes_of state.guests) stream → IsSound state → IsSound (record state { streams = set state.streams s stream })
IsSound-stream state s stream e p h = record {
  named = rw (map-set_same type_of state.streams s stream no_stream e) h.named;
  placed = All-set (StreamIsPlaced (sizes_of state.guests)) state.streams s stream p h.placed;
  small = h.small;
  own = h.own;
  sets = h.sets;
  contexts = h.contexts;
}

-- a turn, written back
pub IsSound-turn : (state : State) (s : ℕ) (t : Operated) → TurnKeeps state.guests (stream_at state s) t → IsSound state → IsSound (record state { guests = t.guests; streams = set state.streams s t.stream })
IsSound-turn state s t k h =
    IsSound-guests (record state { streams = set state.streams s t.stream }) t.guests k.guests
    (IsSound-stream state s t.stream (type_of-same t.stream (stream_at state s) k.stream.payload k.stream.kind) k.stream.placed h)

pub placed_at : (state : State) (s : ℕ) → s < length state.streams → IsSound state → StreamIsPlaced (sizes_of state.guests) (stream_at state s)
placed_at state s l h = All-get_or (StreamIsPlaced (sizes_of state.guests)) state.streams s no_stream l h.placed

-- what lies in memory still does where guests are added
pub IsPlaced-more : (sizes : List ℕ) (n : ℕ) (payload : Payload) (operation : Operation) → IsPlaced sizes payload operation → IsPlaced (sizes ++ n ∷ []) payload operation
IsPlaced-more sizes n payload operation p = record {
  there = omega (arith, p.there, length-append sizes (n ∷ []));
  inside = rw (get_or_append_left sizes (n ∷ []) 0 operation.guest p.there) p.inside;
  counted = p.counted;
}

OperationIsPlaced-more : (sizes : List ℕ) (n : ℕ) (payload : Payload) (o : Option Operation) → OperationIsPlaced sizes payload o → OperationIsPlaced (sizes ++ n ∷ []) payload o
OperationIsPlaced-more sizes n payload None p = tt
OperationIsPlaced-more sizes n payload (Some operation) p = IsPlaced-more sizes n payload operation p

StreamIsPlaced-more : (sizes : List ℕ) (n : ℕ) (stream : Stream) → StreamIsPlaced sizes stream → StreamIsPlaced (sizes ++ n ∷ []) stream
StreamIsPlaced-more sizes n stream p = record {
  writer = OperationIsPlaced-more sizes n stream.payload stream.writer.operation p.writer;
  reader = OperationIsPlaced-more sizes n stream.payload stream.reader.operation p.reader;
}

-- each memory keeps its limit where there is one more that does
AreSmall-more : (sizes : List ℕ) (n : ℕ) → n < size_limit → AreSmall sizes → AreSmall (sizes ++ n ∷ [])
AreSmall-more [] n l h zero = l
AreSmall-more [] n l h (suc g) = omega arith
AreSmall-more (k ∷ sizes) n l h zero = h zero
AreSmall-more (k ∷ sizes) n l h (suc g) = AreSmall-more sizes n l (λ j. h (suc j)) g

-- one guest more
pub IsSound-guest : (state : State) (guest : Guest) → guest.handles ≡ no_handles → guest.sets ≡ no_sets → length guest.memory < size_limit → sum (own_sizes_of state.guests) + own_size guest ≤ memory_limit → IsSound state → IsSound (record state { guests = state.guests ++ guest ∷ [] })
IsSound-guest state guest e f l o h =
    let sizes : sizes_of (state.guests ++ guest ∷ []) ≡ sizes_of state.guests ++ length guest.memory ∷ [] = map-append (λ g. length g.memory) state.guests (guest ∷ []) in
    let handles : handles_of (state.guests ++ guest ∷ []) ≡ handles_of state.guests ++ guest.handles ∷ [] = map-append (λ g. g.handles) state.guests (guest ∷ []) in
    let own : own_sizes_of (state.guests ++ guest ∷ []) ≡ own_sizes_of state.guests ++ own_size guest ∷ [] = map-append own_size state.guests (guest ∷ []) in
    let total = sum_by-append (λ n. n) (own_sizes_of state.guests) (own_size guest ∷ []) in
    record {
      named = rw (handles, e) (All-push (AreNamed (types_of state.streams)) (handles_of state.guests) no_handles h.named (All-nil (EntryIsNamed (types_of state.streams))));
      placed = rw sizes (All-weaker (StreamIsPlaced (sizes_of state.guests)) (StreamIsPlaced (sizes_of state.guests ++ length guest.memory ∷ [])) (StreamIsPlaced-more (sizes_of state.guests) (length guest.memory)) state.streams h.placed);
      small = rw sizes (AreSmall-more (sizes_of state.guests) (length guest.memory) l h.small);
      own = rw own (omega (arith, o, total));
      sets = HoldSets-more state.guests guest e f h.sets;
      contexts = HoldsContexts-more state.guests guest state.contexts e h.contexts;
    }

IsNamed-more : (types : List TransmitIndex) (p ty : TransmitIndex) (end : TransmitEnd) → IsNamed types ty end → IsNamed (types ++ p ∷ []) ty end
IsNamed-more types p ty end h = record {
  there = omega (arith, h.there, length-append types (p ∷ []));
  typed = get_or_append_left types (p ∷ []) (index.Stream Nothing) end.rep h.there ∙ h.typed;
  idle = h.idle;
}

EntryIsNamed-more : (types : List TransmitIndex) (p : TransmitIndex) (o : Option Entry) → EntryIsNamed types o → EntryIsNamed (types ++ p ∷ []) o
EntryIsNamed-more types p None h = tt
EntryIsNamed-more types p (Some (entries.Stream end)) h = IsNamed-more types p (index.Stream end.ty) end h
EntryIsNamed-more types p (Some (entries.Future end)) h = IsNamed-more types p (index.Future end.ty) end h
EntryIsNamed-more types p (Some (entries.ResourceOwn resource lends)) h = tt
EntryIsNamed-more types p (Some (entries.ResourceBorrow resource scope)) h = tt
EntryIsNamed-more types p (Some (entries.ErrorContext rep)) h = tt
EntryIsNamed-more types p (Some (entries.Subtask rep is_host)) h = tt
EntryIsNamed-more types p (Some (entries.WaitableSet rep)) h = tt

pub AreNamed-more : (types : List TransmitIndex) (p : TransmitIndex) (handles : Handles) → AreNamed types handles → AreNamed (types ++ p ∷ []) handles
AreNamed-more types p handles h = All-weaker (EntryIsNamed types) (EntryIsNamed (types ++ p ∷ [])) (EntryIsNamed-more types p) handles.entries h

entries_with-named : (types : List TransmitIndex) (es : List (Option Entry)) (n : ℕ) (e : Entry) → EntryIsNamed types (Some e) → All (EntryIsNamed types) es → All (EntryIsNamed types) (entries_with es n (Some e))
entries_with-named types es zero e p h = h
entries_with-named types es (suc i) e p h = All-set (EntryIsNamed types) es i (Some e) p h

inserted_in-named : (types : List TransmitIndex) (es : List (Option Entry)) (freed : List ℕ) (e : Entry) → EntryIsNamed types (Some e) → All (EntryIsNamed types) es → AreNamed types (inserted_in es freed e)
inserted_in-named types es [] e p h = All-push (EntryIsNamed types) es (Some e) h p
inserted_in-named types es (n ∷ ns) e p h = entries_with-named types es n e p h

pub AreNamed-inserted : (types : List TransmitIndex) (handles : Handles) (e : Entry) → EntryIsNamed types (Some e) → AreNamed types handles → AreNamed types (inserted handles e)
AreNamed-inserted types handles e p h = inserted_in-named types handles.entries handles.freed e p h

new_end-named : (types : List TransmitIndex) (ty : TransmitIndex) (end : TransmitEnd) → end.rep ≡ length types → is_idle_state end.state ≡ true → IsNamed (types ++ ty ∷ []) ty end
new_end-named types ty end r i = record {
  there = omega (arith, r, length-append types (ty ∷ []));
  typed = get_or_push types ty (index.Stream Nothing) end.rep (sym r);
  idle = i;
}

read_entry-named : (types : List TransmitIndex) (ty : TransmitIndex) → EntryIsNamed (types ++ ty ∷ []) (Some (read_entry ty (length types)))
read_entry-named types (index.Stream payload) = new_end-named types (index.Stream payload) (read_end payload (length types)) refl refl
read_entry-named types (index.Future payload) = new_end-named types (index.Future payload) (read_end payload (length types)) refl refl

write_entry-named : (types : List TransmitIndex) (ty : TransmitIndex) → EntryIsNamed (types ++ ty ∷ []) (Some (write_entry ty (length types)))
write_entry-named types (index.Stream payload) = new_end-named types (index.Stream payload) (write_end payload (length types)) refl refl
write_entry-named types (index.Future payload) = new_end-named types (index.Future payload) (write_end payload (length types)) refl refl

pub type_with-of : (ty : TransmitIndex) → type_with (kind_of ty) (payload_of ty) ≡ ty
type_with-of (index.Stream payload) = refl
type_with-of (index.Future payload) = refl

-- the handles of a guest whose table was changed
handles_of-with : (guests : List Guest) (g : ℕ) (handles : Handles) (sets : Sets) → handles_of (with_table guests g handles sets) ≡ set (handles_of guests) g handles
handles_of-with guests g handles sets = map-set (λ h. h.handles) guests g (record (guest_in guests g) { handles = handles; sets = sets })

pub sizes_of-with_table : (guests : List Guest) (g : ℕ) (handles : Handles) (sets : Sets) → sizes_of (with_table guests g handles sets) ≡ sizes_of guests
sizes_of-with_table guests g handles sets = map-set_same (λ h. length h.memory) guests g (record (guest_in guests g) { handles = handles; sets = sets }) no_guest refl

pub sizes_of-with_handles : (guests : List Guest) (g : ℕ) (handles : Handles) → sizes_of (with_handles guests g handles) ≡ sizes_of guests
sizes_of-with_handles guests g handles = sizes_of-with_table guests g handles (sets_in guests g)

-- nor of how many of their bytes are the store's
pub own_sizes_of-with_table : (guests : List Guest) (g : ℕ) (handles : Handles) (sets : Sets) → own_sizes_of (with_table guests g handles sets) ≡ own_sizes_of guests
own_sizes_of-with_table guests g handles sets = map-set_same own_size guests g (record (guest_in guests g) { handles = handles; sets = sets }) no_guest refl

pub own_sizes_of-with_handles : (guests : List Guest) (g : ℕ) (handles : Handles) → own_sizes_of (with_handles guests g handles) ≡ own_sizes_of guests
own_sizes_of-with_handles guests g handles = own_sizes_of-with_table guests g handles (sets_in guests g)

pub AreNamed-at : (types : List TransmitIndex) (guests : List Guest) (g : ℕ) → All (AreNamed types) (handles_of guests) → AreNamed types (guest_in guests g).handles
AreNamed-at types guests g h =
    elim (cases_lt g (length guests)) [
      | inl l ↦ subst (AreNamed types) (get_or-map (λ k. k.handles) guests g no_guest) (All-get_or (AreNamed types) (handles_of guests) g no_handles (omega (arith, l, length-map guests (λ k. k.handles))) h)
      | inr l ↦ subst (λ (k : Guest). AreNamed types k.handles) (sym (get_or_past guests g no_guest l)) (All-nil (EntryIsNamed types))
    ]

pub AreNamed-removed : (types : List TransmitIndex) (handles : Handles) (n : ℕ) → AreNamed types handles → AreNamed types (removed handles n)
AreNamed-removed types handles zero h = h
AreNamed-removed types handles (suc i) h = All-set (EntryIsNamed types) handles.entries i None tt h

with_handles-named : (types : List TransmitIndex) (guests : List Guest) (g : ℕ) (e : Entry) → EntryIsNamed types (Some e) → All (AreNamed types) (handles_of guests) → All (AreNamed types) (handles_of (with_handles guests g (inserted (guest_in guests g).handles e)))
with_handles-named types guests g e p h =
    rw (handles_of-with guests g (inserted (guest_in guests g).handles e) (sets_in guests g))
    (All-set (AreNamed types) (handles_of guests) g (inserted (guest_in guests g).handles e) (AreNamed-inserted types (guest_in guests g).handles e p (AreNamed-at types guests g h)) h)

-- an entry of an end, whichever it is
pub end_entry-ok : (side : Side) (ty : TransmitIndex) (s : ℕ) → is_ok (end_rep_in (Some (end_entry side ty s))) ≡ true
end_entry-ok Writing (index.Stream payload) s = refl
end_entry-ok Writing (index.Future payload) s = refl
end_entry-ok Reading (index.Stream payload) s = refl
end_entry-ok Reading (index.Future payload) s = refl

-- a handle of an end more
HoldSets-given : (guests : List Guest) (g : ℕ) (e : Entry) → is_ok (end_rep_in (Some e)) ≡ true → next_index (guest_in guests g).handles < handle_limit → HoldSets guests → HoldSets (with_handles guests g (inserted (guest_in guests g).handles e))
HoldSets-given guests g e ok small h =
    HoldSets-with guests g (inserted (guest_in guests g).handles e) (sets_in guests g)
    (HoldsSets-given_end (guest_in guests g).handles (sets_in guests g) (h g) e small ok) h

-- which leads to no error context
HoldsContexts-end : (guests : List Guest) (contexts : Contexts) (g : ℕ) (e : Entry) → is_ok (end_rep_in (Some e)) ≡ true → HoldSets guests → HoldsContexts guests contexts → HoldsContexts (with_handles guests g (inserted (guest_in guests g).handles e)) contexts
HoldsContexts-end guests contexts g e ok s h =
    HoldsContexts-given guests contexts g (sets_in guests g) h e (s g).table (λ number. end_leads_nowhere number (Some e) ok)

-- one stream more, with its two ends in their tables
pub IsSound-with_stream : (state : State) (writer reader : ℕ) (ty : TransmitIndex) → next_index (guest_in state.guests reader).handles < handle_limit → writer_index state writer reader ty < handle_limit → IsSound state → IsSound (with_stream state writer reader ty)
unfolding with_stream
IsSound-with_stream state writer reader ty reads writes h =
    let s = length state.streams in
    let stream = made_stream ty writer (made_pair state writer reader ty).write reader (made_pair state writer reader ty).read in
    let old = types_of state.streams in
    let new = old ++ ty ∷ [] in
    let count : length old ≡ s = length-map state.streams type_of in
    let types : types_of (state.streams ++ stream ∷ []) ≡ new = map-append type_of state.streams (stream ∷ []) ∙ ap (λ t. old ++ t ∷ []) (type_with-of ty) in
    let before : All (AreNamed new) (handles_of state.guests) = All-weaker (AreNamed old) (AreNamed new) (AreNamed-more old ty) (handles_of state.guests) h.named in
    let read : EntryIsNamed new (Some (read_entry ty s)) = rw (← count) (read_entry-named old ty) in
    let write : EntryIsNamed new (Some (write_entry ty s)) = rw (← count) (write_entry-named old ty) in
    let held = with_read_end state.guests reader ty s in
    let named1 = with_handles-named new state.guests reader (read_entry ty s) read before in
    let named2 = with_handles-named new held writer (write_entry ty s) write named1 in
    let sizes : sizes_of (with_ends state.guests writer reader ty s) ≡ sizes_of state.guests = sizes_of-with_handles held writer _ ∙ sizes_of-with_handles state.guests reader _ in
    let own : own_sizes_of (with_ends state.guests writer reader ty s) ≡ own_sizes_of state.guests = own_sizes_of-with_handles held writer _ ∙ own_sizes_of-with_handles state.guests reader _ in
    record {
      named = rw types named2;
      placed = rw sizes (All-push (StreamIsPlaced (sizes_of state.guests)) state.streams stream h.placed (record { writer = tt; reader = tt }));
      small = rw sizes h.small;
      own = rw own h.own;
      sets =
          HoldSets-given held writer (write_entry ty s) (end_entry-ok Writing ty s) writes
          (HoldSets-given state.guests reader (read_entry ty s) (end_entry-ok Reading ty s) reads h.sets);
      contexts =
          HoldsContexts-end held state.contexts writer (write_entry ty s) (end_entry-ok Writing ty s)
          (HoldSets-given state.guests reader (read_entry ty s) (end_entry-ok Reading ty s) reads h.sets)
          (HoldsContexts-end state.guests state.contexts reader (read_entry ty s) (end_entry-ok Reading ty s) h.sets h.contexts);
    }

-- ## One guest's table and sets are others, and error contexts

module _ (state : State) (g : ℕ) (handles : Handles) (sets : Sets) (contexts : Contexts) where
  abbrev guests_with : List Guest
  guests_with = with_table state.guests g handles sets

  pub IsSound-table : AreNamed (types_of state.streams) handles → HoldsSets handles sets → HoldsContexts guests_with contexts → IsSound state → IsSound (record state { guests = guests_with; contexts = contexts })
  IsSound-table named holds counts h =
      let types = types_of state.streams in
      let sizes = sizes_of-with_table state.guests g handles sets in
      record {
        named = rw (handles_of-with state.guests g handles sets) (All-set (AreNamed types) (handles_of state.guests) g handles named h.named);
        placed = rw sizes h.placed;
        small = rw sizes h.small;
        own = rw (own_sizes_of-with_table state.guests g handles sets) h.own;
        sets = HoldSets-with state.guests g handles sets holds h.sets;
        contexts = counts;
      }

-- a handle of an end is freed, which leaves its set
pub IsSound-freed : (state : State) (g handle : ℕ) → is_ok (end_named state g handle) ≡ true → IsSound state → IsSound (without_handle state g handle)
IsSound-freed state g handle ok h =
    let types = types_of state.streams in
    let guest = guest_in state.guests g in
    let found = end_some (entry_at guest.handles handle) ok in
    IsSound-table state g (removed guest.handles handle) (handle_left guest.sets handle) state.contexts
    (AreNamed-removed types guest.handles handle (AreNamed-at types state.guests g h.named))
    (HoldsSets-freed guest.handles guest.sets (h.sets g) handle ok)
    (HoldsContexts-freed state.guests state.contexts g (handle_left guest.sets handle) h.contexts handle found.0 found.1
    (λ number. end_leads_nowhere number (Some found.0) (ap (λ o. is_ok (end_rep_in o)) (sym found.1) ∙ ok))) h

-- and one is given, for an end of a stream of its type
module _ (state : State) (g : ℕ) (e : Entry) where
  abbrev given_to : State
  given_to = record state { guests = with_handles state.guests g (inserted (guest_in state.guests g).handles e) }

  pub IsSound-given : EntryIsNamed (types_of state.streams) (Some e) → is_ok (end_rep_in (Some e)) ≡ true → next_index (guest_in state.guests g).handles < handle_limit → IsSound state → IsSound given_to
  IsSound-given p ok few h =
      let sizes = sizes_of-with_handles state.guests g (inserted (guest_in state.guests g).handles e) in
      record {
        named = with_handles-named (types_of state.streams) state.guests g e p h.named;
        placed = rw sizes h.placed;
        small = rw sizes h.small;
        own = rw (own_sizes_of-with_handles state.guests g (inserted (guest_in state.guests g).handles e)) h.own;
        sets = HoldSets-given state.guests g e ok few h.sets;
        contexts = HoldsContexts-end state.guests state.contexts g e ok h.sets h.contexts;
      }

-- ## A stream with another end

-- an operation that is asked to finish lies where it lay
pub asked-placed : (sizes : List ℕ) (payload : Payload) (o : Operation) → IsPlaced sizes payload o → IsPlaced sizes payload (asked_to_finish o)
asked-placed sizes payload o h = record { there = h.there; inside = h.inside; counted = h.counted }

with_end-placed : (side : Side) (sizes : List ℕ) (stream : Stream) (e : End) → IsLeft (end_of side stream).operation e.operation → StreamIsPlaced sizes stream → StreamIsPlaced sizes (with_end side stream e)
with_end-placed Writing sizes stream e handle_left h = record { writer = left_by (OperationIsPlaced sizes stream.payload) stream.writer.operation e.operation handle_left h.writer tt (asked-placed sizes stream.payload); reader = h.reader }
with_end-placed Reading sizes stream e handle_left h = record { writer = h.writer; reader = left_by (OperationIsPlaced sizes stream.payload) stream.reader.operation e.operation handle_left h.reader tt (asked-placed sizes stream.payload) }

-- an end of one stream is another, with its operation or none
pub IsSound-set : (state : State) (s : ℕ) (side : Side) (e : End) → s < length state.streams → IsLeft (end_of side (stream_at state s)).operation e.operation → IsSound state → IsSound (record state { streams = set state.streams s (with_end side (stream_at state s) e) })
IsSound-set state s side e l handle_left h =
    let stream = stream_at state s in
    IsSound-stream state s (with_end side stream e) (with_end-type side stream e) (with_end-placed side (sizes_of state.guests) stream e handle_left (placed_at state s l h)) h

-- an operation whose end is told
pub left_told : (code : Option ReturnCode) (o : Option Operation) → IsLeft o (left_pending code o)
left_told None o = Unchanged refl
left_told (Some code) o = Ended refl
