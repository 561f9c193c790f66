-- The store's guests as the machine's: one of them read, or changed.
use Rattle.std.proofs.Common.{◌≡◌, ℕ, ◌<◌, false, List, length, get_or, set, Result, Ok, Err, refl, sym, ap, ◌∙◌, inl, inr}
use Rattle.std.specs.Prelude.{is_err, OnOk}
use Rattle.std.proofs.lemmas.Bool.{cases_lt}
use Rattle.std.proofs.lemmas.List.{get_or-map, map-set, get_or-set_same, set-set, set_past}
use Rattle.strm_memory.specs.Linear.{LinearMemory, with_contents}
use Rattle.strm_handles.specs.Handles.{Table}
use Rattle.strm_machine.specs.State as machine
use Rattle.strm_waitable_sets.specs.Sets.{Sets}
use Rattle.strm_machine.specs.State.{no_guest, guest_in, memory_in, with_memory, with_handles, with_table}
use Rattle.strm_channels.specs.Guests.{guest_of, guests_of, linear_in, with_linear}
use Rattle.strm_channels.specs.declared.guests.Guest.{Guest}

-- the guest that an index read
pub guest_in-seen : (guests : List Guest) (g : ℕ) (x : Guest) → g < length guests → x ≡ get_or guests g x → guest_in (guests_of guests) g ≡ guest_of x
guest_in-seen guests g x l e = get_or-map guest_of guests g x no_guest l ∙ ap guest_of (sym e)

-- a guest that was given another memory
pub guests_of-with_linear : (guests : List Guest) (g : ℕ) (x : Guest) (memory : LinearMemory) → g < length guests → x ≡ get_or guests g x → guests_of (set guests g (record x { memory = memory })) ≡ with_linear (guests_of guests) g memory
guests_of-with_linear guests g x memory l e =
    map-set guest_of guests g (record x { memory = memory })
    ∙ ap (λ (k : machine.Guest). set (guests_of guests) g (record k { memory = memory.bytes; base = memory.base })) (sym (guest_in-seen guests g x l e))

-- a guest whose memory has other bytes in the same place
pub guests_of-with_memory : (guests : List Guest) (g : ℕ) (x : Guest) (bytes : List ℕ) → g < length guests → x ≡ get_or guests g x → guests_of (set guests g (record x { memory = with_contents x.memory bytes })) ≡ with_memory (guests_of guests) g bytes
guests_of-with_memory guests g x bytes l e =
    map-set guest_of guests g (record x { memory = with_contents x.memory bytes })
    ∙ ap (λ (k : machine.Guest). set (guests_of guests) g (record k { memory = bytes })) (sym (guest_in-seen guests g x l e))

-- the second of two memories for one guest
pub with_linear-twice : (guests : List machine.Guest) (g : ℕ) (a b : LinearMemory) → with_linear (with_linear guests g a) g b ≡ with_linear guests g b
with_linear-twice guests g a b =
    let first : machine.Guest = record (guest_in guests g) { memory = a.bytes; base = a.base } in
    let second : machine.Guest = record (guest_in guests g) { memory = b.bytes; base = b.base } in
    elim (cases_lt g (length guests)) [
      | inl l ↦ (let here : guest_in (with_linear guests g a) g ≡ first = get_or-set_same guests g first no_guest l in
          rw here (set-set guests g first second))
      | inr l ↦ (let past : with_linear guests g a ≡ guests = set_past guests g first l in rw past refl)
    ]

pub guests_of-with_handles : (guests : List Guest) (g : ℕ) (x : Guest) (table : Table) → g < length guests → x ≡ get_or guests g x → guests_of (set guests g (record x { table = table })) ≡ with_handles (guests_of guests) g table.handles
guests_of-with_handles guests g x table l e =
    map-set guest_of guests g (record x { table = table })
    ∙ ap (λ (k : machine.Guest). set (guests_of guests) g (record k { handles = table.handles })) (sym (guest_in-seen guests g x l e))

pub guests_of-with_table : (guests : List Guest) (g : ℕ) (x : Guest) (table : Table) (sets : Sets) → g < length guests → x ≡ get_or guests g x → guests_of (set guests g (record x { table = table; sets = sets })) ≡ with_table (guests_of guests) g table.handles sets
guests_of-with_table guests g x table sets l e =
    map-set guest_of guests g (record x { table = table; sets = sets })
    ∙ ap (λ (k : machine.Guest). set (guests_of guests) g (record k { handles = table.handles; sets = sets })) (sym (guest_in-seen guests g x l e))

-- a guest that became what a function makes of it, as the machine's
pub guests_of-made : (guests : List Guest) (g : ℕ) (x y : Guest) (f : machine.Guest → machine.Guest) → g < length guests → x ≡ get_or guests g x → guest_of y ≡ f (guest_of x) → guests_of (set guests g y) ≡ set (guests_of guests) g (f (guest_in (guests_of guests) g))
guests_of-made guests g x y f l e h =
    map-set guest_of guests g y
    ∙ ap (set (guests_of guests) g) (h ∙ ap f (sym (guest_in-seen guests g x l e)))

pub linear_in-seen : (guests : List Guest) (g : ℕ) (x : Guest) → g < length guests → x ≡ get_or guests g x → linear_in (guests_of guests) g ≡ x.memory
linear_in-seen guests g x l e = ap (λ (k : machine.Guest). record { bytes = k.memory; base = k.base }) (guest_in-seen guests g x l e)

pub memory_in-seen : (guests : List Guest) (g : ℕ) (x : Guest) → g < length guests → x ≡ get_or guests g x → memory_in (guests_of guests) g ≡ x.memory.bytes
memory_in-seen guests g x l e = ap (λ (k : machine.Guest). k.memory) (guest_in-seen guests g x l e)

-- what holds of a call that answered, where it did
pub was_ok : {T E : Type 0} (r : Result T E) (P : Type 0) → is_err r ≡ false → OnOk r P → P
was_ok (Ok v) P e p = p
was_ok (Err v) P e p = cc
