-- The room and the live handles of guests' tables after an insert or a reservation.
use Rattle.std.proofs.Common.{◌≡◌, ◌≢◌, ℕ, zero, suc, ◌+◌, ◌<◌, ◌≤◌, List, [], ◌∷◌, length, map, get_or, set, Result, Ok, Err, refl, sym, ap, ◌∙◌, inl, inr, arith}
use Rattle.std.specs.Prelude.{IsOk}
use Rattle.std.proofs.lemmas.Bool.{cases_eq}
use Rattle.std.proofs.lemmas.List.{get_or-map, get_or-set_same, get_or-set_other, map-set, set-get_or, length-map}
use Rattle.std.proofs.lemmas.List.Sums.{sum_by-set}
use Rattle.strm_codes.specs.declared.codes.TransmitIndex.{TransmitIndex}
use Rattle.strm_codes.specs.declared.codes.TransmitIndex.TheVariants as index
use Rattle.strm_handles.specs.Handles.{Handles, Table, entry_at, lends_of, live_of}
use Rattle.strm_handles.specs.Ends.{without_value}
use Rattle.strm_handles.specs.Lookups.{◌>>=◌, stream_end_of, future_end_of, end_rep_of}
use Rattle.strm_handles.specs.declared.errors.HandleError.{HandleError}
use Rattle.strm_handles.proofs.LookupLemmas.{stream_is_end, future_is_end}
use Rattle.strm_machine.specs.State as machine
use Rattle.strm_machine.specs.State.{no_guest, guest_in}
use Rattle.strm_machine.specs.Making.{end_entry}
use Rattle.strm_machine.specs.declared.streams.Side.{Side}
use Rattle.strm_machine.specs.declared.streams.Side.TheVariants.{Writing, Reading}
use Rattle.strm_channels.specs.Guests.{guest_of, guests_of, room_in_table, live_in, removable}
use Rattle.strm_channels.specs.declared.guests.Guest.{Guest}
use Rattle.strm_channels.proofs.GuestLemmas.{guest_in-seen}

-- an end has no lends
pub lends-end_entry : (side : Side) (ty : TransmitIndex) (s : ℕ) → lends_of (end_entry side ty s) ≡ 0
lends-end_entry Writing (index.Stream payload) s = refl
lends-end_entry Writing (index.Future payload) s = refl
lends-end_entry Reading (index.Stream payload) s = refl
lends-end_entry Reading (index.Future payload) s = refl

at_most : (xs : List ℕ) (g v d n : ℕ) → get_or xs g 0 ≤ v + d → get_or xs n 0 ≤ get_or (set xs g v) n 0 + d
at_most [] g v d n h = omega arith
at_most (x ∷ xs) zero v d zero h = h
at_most (x ∷ xs) zero v d (suc n) h = omega arith
at_most (x ∷ xs) (suc g) v d zero h = omega arith
at_most (x ∷ xs) (suc g) v d (suc n) h = at_most xs g v d n h

abbrev room_of : Guest → ℕ
room_of g = g.table.room

room_read : (guests : List Guest) (g : ℕ) (x : Guest) → g < length guests → x ≡ get_or guests g x → room_in_table guests g ≡ x.table.room
room_read guests g x l e = get_or-map room_of guests g x 0 l ∙ ap room_of (sym e)

-- another guest in a guest's place, the room of whose table is at most so much less
pub rooms_after : (guests : List Guest) (g : ℕ) (x y : Guest) (d n : ℕ) → g < length guests → x ≡ get_or guests g x → x.table.room ≤ y.table.room + d → room_in_table guests n ≤ room_in_table (set guests g y) n + d
rooms_after guests g x y d n l e h =
    rw (map-set room_of guests g y)
    (at_most (map room_of guests) g y.table.room d n (omega (arith, room_read guests g x l e, h)))

-- the room of the others' tables
pub rooms_beside : (guests : List Guest) (g n : ℕ) (y : Guest) → n ≢ g → room_in_table (set guests g y) n ≡ room_in_table guests n
rooms_beside guests g n y ne = rw (map-set room_of guests g y) (get_or-set_other (map room_of guests) g n y.table.room 0 ne)

pub room_after : (guests : List Guest) (g : ℕ) (y : Guest) → g < length guests → room_in_table (set guests g y) g ≡ y.table.room
room_after guests g y l =
    rw (map-set room_of guests g y)
    (get_or-set_same (map room_of guests) g y.table.room 0 (omega (arith, l, length-map guests room_of)))

-- another table of the same handles
pub guests_of-same : (guests : List Guest) (g : ℕ) (x : Guest) (table : Table) → g < length guests → x ≡ get_or guests g x → table.handles ≡ x.table.handles → guests_of (set guests g (record x { table = table })) ≡ guests_of guests
guests_of-same guests g x table l e h =
    map-set guest_of guests g (record x { table = table })
    ∙ ap (λ (k : Handles). set (guests_of guests) g (record (guest_of x) { handles = k })) h
    ∙ ap (set (guests_of guests) g) (sym (guest_in-seen guests g x l e))
    ∙ set-get_or (guests_of guests) g no_guest

-- one live handle more in one table is one more in all
pub live_after : (guests : List machine.Guest) (g : ℕ) (y : machine.Guest) → g < length guests → live_of y.handles ≡ live_of (guest_in guests g).handles + 1 → live_in (set guests g y) ≡ live_in guests + 1
live_after guests g y l h =
    omega (arith, h, sum_by-set (λ (k : machine.Guest). live_of k.handles) guests g y no_guest l)

-- one live handle less in one table is one less in all
pub live_less : (guests : List machine.Guest) (g : ℕ) (y : machine.Guest) → g < length guests → live_of y.handles + 1 ≡ live_of (guest_in guests g).handles → live_in (set guests g y) + 1 ≡ live_in guests
live_less guests g y l h =
    omega (arith, h, sum_by-set (λ (k : machine.Guest). live_of k.handles) guests g y no_guest l)

-- room for a second handle, behind a first one of a guest that may be the same
pub room_behind : (writer reader each before after : ℕ) → (writer ≡ reader → 2 ≤ each) → 1 ≤ each → each ≤ before → before ≤ after + 1 → (writer ≢ reader → after ≡ before) → 0 < after
room_behind writer reader each before after both some h one others =
    elim (cases_eq writer reader) [
      | inl e ↦ omega (arith, both e, h, one)
      | inr ne ↦ omega (arith, some, h, others ne)
    ]

first_ok : {A B : Type 0} (r : Result A HandleError) (next : A → Result B HandleError) → without_value (r >>= next) ≡ Ok tt → IsOk r
first_ok (Ok x) next e = refl
first_ok (Err x) next e = cc

-- what may be removed as an end is an end
pub removable_end : (side : Side) (ty : TransmitIndex) (handles : Handles) (n : ℕ) → removable side ty handles n ≡ Ok tt → IsOk (end_rep_of handles n)
removable_end Writing (index.Stream payload) handles n e = stream_is_end payload (entry_at handles n) (first_ok (stream_end_of handles payload n) _ e)
removable_end Reading (index.Stream payload) handles n e = stream_is_end payload (entry_at handles n) (first_ok (stream_end_of handles payload n) _ e)
removable_end Writing (index.Future payload) handles n e = future_is_end payload (entry_at handles n) (first_ok (future_end_of handles payload n) _ e)
removable_end Reading (index.Future payload) handles n e = future_is_end payload (entry_at handles n) (first_ok (future_end_of handles payload n) _ e)
