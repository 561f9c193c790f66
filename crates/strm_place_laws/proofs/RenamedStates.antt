-- What a state under other numbers has in common with the state.
use Rattle.std.proofs.Common.{◌≡◌, ℕ, ◌+◌, ◌*◌, ◌<◌, true, false, List, length, Ok, Err, refl, sym, ap, ◌∙◌, inl, inr, arith, cond}
use Rattle.std.specs.Prelude.{is_ok, is_some, count_by, nat_lt, nat_le}
use Rattle.std.specs.List.{find}
use Rattle.std.proofs.lemmas.Bool.{cases_lt, le-ltb}
use Rattle.std.proofs.lemmas.Bool.Decides.{nat_tests}
use Rattle.std.proofs.lemmas.List.{length-map, get_or_past}
use Rattle.strm_handles.specs.Handles.{removed, inserted, next_index, live_of}
use Rattle.strm_handles.specs.Lookups.{end_rep_of, waitable_set_rep_of, error_context_rep_of}
use Rattle.strm_handles.specs.declared.entries.Entry.{Entry}
use Rattle.strm_memory.specs.Bytes.{put_at}
use Rattle.strm_waitable_sets.specs.Sets.{Sets, handle_left, set_of, members}
use Rattle.strm_error_contexts.specs.Contexts.{message_at, len as contexts_there}
use Rattle.strm_machine.specs.Words.{Guest, TransmitIndex, Name, State, guest_in, sets_in, with_handles, with_table, no_stream, stream_at, named, end_named, stream_named, without_handle, next_in, handle_given, IsSound, is_loose, report_on}
use Rattle.strm_machine.specs.declared.acts.NamedEnd.{NamedEnd}
use Rattle.strm_machine.specs.declared.streams.Side.{Side}
use Rattle.strm_machine.specs.declared.streams.Stream.{Stream}
use Rattle.strm_machine.specs.State.{is_live, handles_in_use, sets_in_use, places_in_use, bytes_in_use, own_size, with_bytes}
use Rattle.strm_machine.specs.Making.{end_entry}
use Rattle.strm_machine.specs.Tests.{named_by, side_of, side_named, is_unknown_guest, are_handles_full, are_places_full}
use Rattle.strm_machine.specs.WaitableSets.{set_named, number_named, is_in_set, has_some, has_member, report_of_named, is_ready, ready_member, ready_in, sets_changed}
use Rattle.strm_machine.specs.ErrorContexts.{context_named, context_number, bytes_of_message, message_named}
use Rattle.strm_machine.proofs.NamedEndLemmas.{found_there, end_there}
use Rattle.strm_place_laws.specs.Renaming.{guest_as, guests_as, entry_as, state_as, number_as, AreRenamed, Renames}
use Rattle.strm_place_laws.proofs.RenamedTables.{name_as, end_entry-as, guest_in-as, sets_in-as, changed-as, sum_by-as, live_of-as, next_index-as, inserted-as, removed-as, named_by-as, end_rep_of-as, set_rep_of-as, context_rep_of-as, stream_named-as, side_named-as}

-- what is so by an equation of the whole state
pub renames_by : (f : ℕ → ℕ) (slim full : State) (streams : List Stream) → full ≡ state_as f slim streams → AreRenamed f slim.streams streams → Renames f slim full
renames_by f slim full streams e r = rw e (record { rest = refl; streams = r })

-- the guests with a handle more of one of them, and its sets changed
abbrev pub table_more : List Guest → (Sets → Sets) → ℕ → Entry → List Guest
table_more guests sets g e = with_table guests g (inserted (guest_in guests g).handles e) (sets (sets_in guests g))

-- and with a handle less
abbrev pub table_less : List Guest → (Sets → Sets) → ℕ → ℕ → List Guest
table_less guests sets g handle = with_table guests g (removed (guest_in guests g).handles handle) (sets (sets_in guests g))

below : (m n : ℕ) → m < n → nat_lt m n ≡ true
below m n l = grind (arith, nat_tests)

module _ (f : ℕ → ℕ) (state : State) (streams : List Stream) where
  -- the state under other numbers
  abbrev pub other : State
  other = state_as f state streams

  -- the number of a stream that a step names
  abbrev pub number : ℕ → ℕ
  number = number_as f state other

  -- ## What handles name

  pub named-as : (end : NamedEnd) → named other end ≡ name_as f (named state end)
  named-as end =
      ap (λ (k : Guest). named_by end.ty k.handles end.handle) (guest_in-as f state.guests end.guest)
      ∙ named_by-as f end.ty (guest_in state.guests end.guest).handles end.handle

  pub end_named-as : (g handle : ℕ) → end_named other g handle ≡ name_as f (end_named state g handle)
  end_named-as g handle =
      ap (λ (k : Guest). end_rep_of k.handles handle) (guest_in-as f state.guests g)
      ∙ end_rep_of-as f (guest_in state.guests g).handles handle

  pub set_named-as : (g handle : ℕ) → set_named other g handle ≡ set_named state g handle
  set_named-as g handle =
      ap (λ (k : Guest). waitable_set_rep_of k.handles handle) (guest_in-as f state.guests g)
      ∙ set_rep_of-as f (guest_in state.guests g).handles handle

  pub context_named-as : (g handle : ℕ) → context_named other g handle ≡ context_named state g handle
  context_named-as g handle =
      ap (λ (k : Guest). error_context_rep_of k.handles handle) (guest_in-as f state.guests g)
      ∙ context_rep_of-as f (guest_in state.guests g).handles handle

  pub context_number-as : (g handle : ℕ) → context_number other g handle ≡ context_number state g handle
  context_number-as g handle = ap number_named (context_named-as g handle)

  pub message_named-as : (g handle : ℕ) → message_named other g handle ≡ message_named state g handle
  message_named-as g handle = ap (λ n. bytes_of_message (message_at state.contexts n)) (context_number-as g handle)

  -- ## Tables and counts

  pub next_in-as : (g : ℕ) → next_in other g ≡ next_in state g
  next_in-as g = ap (λ (k : Guest). next_index k.handles) (guest_in-as f state.guests g) ∙ next_index-as f (guest_in state.guests g).handles

  pub is_unknown_guest-as : (g : ℕ) → is_unknown_guest other g ≡ is_unknown_guest state g
  is_unknown_guest-as g = ap (λ n. nat_le n g) (length-map state.guests (guest_as f))

  pub handles_in_use-as : handles_in_use other ≡ handles_in_use state
  handles_in_use-as = sum_by-as f (λ g. live_of g.handles) (λ k. live_of-as f k.handles) state.guests

  pub are_handles_full-as : (n : ℕ) → are_handles_full other n ≡ are_handles_full state n
  are_handles_full-as n = ap (λ k. nat_lt state.limits.handles (k + n)) handles_in_use-as

  pub bytes_in_use-as : bytes_in_use other ≡ bytes_in_use state
  bytes_in_use-as = sum_by-as f own_size (λ k. refl) state.guests

  sets_in_use-as : sets_in_use other ≡ sets_in_use state
  sets_in_use-as = sum_by-as f (λ g. count_by (λ there. there) g.sets.there) (λ k. refl) state.guests

  pub places_in_use-as : count_by is_live streams ≡ count_by is_live state.streams → places_in_use other ≡ places_in_use state
  places_in_use-as e = λ i. 3 * e i + sets_in_use-as i + contexts_there state.contexts

  pub are_places_full-as : count_by is_live streams ≡ count_by is_live state.streams → (n : ℕ) → are_places_full other n ≡ are_places_full state n
  are_places_full-as e n = ap (λ k. nat_lt state.limits.places (k + n)) (places_in_use-as e)

  pub is_in_set-as : (g handle : ℕ) → is_in_set other g handle ≡ is_in_set state g handle
  is_in_set-as g handle = ap (λ sets. is_some (set_of sets handle)) (sets_in-as f state.guests g)

  pub has_member-as : (g number : ℕ) → has_member other g number ≡ has_member state g number
  has_member-as g number = ap (λ sets. has_some (members sets number)) (sets_in-as f state.guests g)

  -- ## Changes of guests

  -- the state under other numbers, with these guests
  abbrev with_guests : List Guest → State
  with_guests guests = record other { guests = guests }

  pub without_handle-as : (g handle : ℕ) → without_handle other g handle ≡ state_as f (without_handle state g handle) streams
  without_handle-as g handle =
      ap with_guests (changed-as f freed freed (λ k. ap (λ h. record k { handles = h; sets = handle_left k.sets handle }) (removed-as f k.handles handle)) state.guests g)
    where
      freed : Guest → Guest
      freed k = record k { handles = removed k.handles handle; sets = handle_left k.sets handle }

  -- a handle more, and perhaps other sets
  pub inserted_with-as : (sets : Sets → Sets) (g : ℕ) (e : Entry) → table_more (guests_as f state.guests) sets g (entry_as f e) ≡ guests_as f (table_more state.guests sets g e)
  inserted_with-as sets g e = changed-as f (given (entry_as f e)) (given e) (λ k. ap (λ h. record k { handles = h; sets = sets k.sets }) (inserted-as f k.handles e)) state.guests g
    where
      given : Entry → Guest → Guest
      given e k = record k { handles = inserted k.handles e; sets = sets k.sets }

  -- a handle less, and other sets
  pub removed_with-as : (sets : Sets → Sets) (g handle : ℕ) → table_less (guests_as f state.guests) sets g handle ≡ guests_as f (table_less state.guests sets g handle)
  removed_with-as sets g handle = changed-as f freed freed (λ k. ap (λ h. record k { handles = h; sets = sets k.sets }) (removed-as f k.handles handle)) state.guests g
    where
      freed : Guest → Guest
      freed k = record k { handles = removed k.handles handle; sets = sets k.sets }

  pub handle_given-as : (g : ℕ) (side : Side) (ty : TransmitIndex) (n : ℕ) → handle_given other g side ty (f n) ≡ state_as f (handle_given state g side ty n) streams
  handle_given-as g side ty n =
      ap (λ entry. with_guests (with_handles (guests_as f state.guests) g (inserted (guest_in (guests_as f state.guests) g).handles entry))) (end_entry-as f side ty n)
      ∙ ap with_guests (inserted_with-as (λ sets. sets) g (end_entry side ty n))

  pub with_bytes-as : (g address : ℕ) (bytes : List ℕ) → with_bytes other g address bytes ≡ state_as f (with_bytes state g address bytes) streams
  with_bytes-as g address bytes = ap with_guests (changed-as f put put (λ k. refl) state.guests g)
    where
      put : Guest → Guest
      put k = record k { memory = put_at k.memory address bytes }

  pub sets_changed-as : (g : ℕ) (sets : Sets) → sets_changed other g sets ≡ state_as f (sets_changed state g sets) streams
  sets_changed-as g sets = ap with_guests (changed-as f changed changed (λ k. refl) state.guests g)
    where
      changed : Guest → Guest
      changed k = record k { sets = sets }

  -- ## Streams

  module _ (r : AreRenamed f state.streams streams) (h : IsSound state) where
    -- the stream of a handle
    pub stream_of-as : (end : NamedEnd) → is_ok (named state end) ≡ true → stream_at other (stream_named (named other end)) ≡ stream_at state (stream_named (named state end))
    stream_of-as end ok =
        ap (λ name. stream_at other (stream_named name)) (named-as end)
        ∙ ap (stream_at other) (stream_named-as f (named state end) ok)
        ∙ r.same (stream_named (named state end)) (found_there state end h ok)

    pub number_of-as : (end : NamedEnd) → is_ok (named state end) ≡ true → stream_named (named other end) ≡ f (stream_named (named state end))
    number_of-as end ok = ap stream_named (named-as end) ∙ stream_named-as f (named state end) ok

    pub side_of-as : (end : NamedEnd) → side_named (named other end) ≡ side_named (named state end)
    side_of-as end = ap side_named (named-as end) ∙ side_named-as f (named state end)

    -- and of one of whichever type
    pub stream_on-as : (g handle : ℕ) → is_ok (end_named state g handle) ≡ true → stream_at other (stream_named (end_named other g handle)) ≡ stream_at state (stream_named (end_named state g handle))
    stream_on-as g handle ok =
        ap (λ name. stream_at other (stream_named name)) (end_named-as g handle)
        ∙ ap (stream_at other) (stream_named-as f (end_named state g handle) ok)
        ∙ r.same (stream_named (end_named state g handle)) (end_there state g handle h ok)

    pub number_on-as : (g handle : ℕ) → is_ok (end_named state g handle) ≡ true → stream_named (end_named other g handle) ≡ f (stream_named (end_named state g handle))
    number_on-as g handle ok = ap stream_named (end_named-as g handle) ∙ stream_named-as f (end_named state g handle) ok

    pub side_on-as : (g handle : ℕ) → side_named (end_named other g handle) ≡ side_named (end_named state g handle)
    side_on-as g handle = ap side_named (end_named-as g handle) ∙ side_named-as f (end_named state g handle)

    -- what an end is to be told
    report-as : (name : Name) → (is_ok name ≡ true → stream_named name < length state.streams) → report_of_named other (name_as f name) ≡ report_of_named state name
    report-as (Ok answer) l = ap (report_on (side_of answer.1)) (r.same answer.0 (l refl))
    report-as (Err error) l = refl

    is_ready-as : (g handle : ℕ) → is_ready other g handle ≡ is_ready state g handle
    is_ready-as g handle =
        ap is_some (ap (report_of_named other) (end_named-as g handle) ∙ report-as (end_named state g handle) (end_there state g handle h))

    pub ready_in-as : (g set : ℕ) → ready_in other g set ≡ ready_in state g set
    unfolding ready_member
    ready_in-as g set =
        λ i. find (λ handle. is_ready-as g handle i) (members (sets_in-as f state.guests g i) (number_named (set_named-as g set i)))

    number_there : (s : ℕ) → s < length state.streams → number s ≡ f s
    number_there s l = ap (λ b. cond b (f s) (length streams)) (below s (length state.streams) l)

    pub number-at : (s : ℕ) → stream_at other (number s) ≡ stream_at state s
    number-at s =
        elim (cases_lt s (length state.streams)) [
          | inl l ↦ ap (stream_at other) (number_there s l) ∙ r.same s l
          | inr l ↦ ap (stream_at other) (ap (λ b. cond b (f s) (length streams)) (le-ltb s (length state.streams) l))
              ∙ get_or_past streams (length streams) no_stream (omega arith)
              ∙ sym (get_or_past state.streams s no_stream l)
        ]

    -- a loose end's stream is there
    loose_there : (s : ℕ) → is_loose (stream_at state s).reader.owner ≡ true → s < length state.streams
    loose_there s e =
        elim (cases_lt s (length state.streams)) [
          | inl l ↦ l
          | inr l ↦ absurd (let none : is_loose (stream_at state s).reader.owner ≡ false = ap (λ (st : Stream). is_loose st.reader.owner) (get_or_past state.streams s no_stream l) in cc)
        ]

    pub number-loose : (s : ℕ) → is_loose (stream_at state s).reader.owner ≡ true → (s < length state.streams) × (number s ≡ f s)
    number-loose s e = (loose_there s e, number_there s (loose_there s e))
