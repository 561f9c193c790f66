-- Memories of guests, read and changed.
use Rattle.std.proofs.Common.{◌≡◌, ◌≢◌, ℕ, ◌<◌, List, [], length, get_or, set, refl, sym, ap, ◌∙◌, inl, inr}
use Rattle.std.proofs.Math.Seq.{map-set_same}
use Rattle.std.proofs.Math.ListN.{get_or-map}
use Rattle.std.proofs.lemmas.Bool.{cases_lt}
use Rattle.std.proofs.lemmas.List.{get_or-set_same, get_or-set_other, set-set, set-get_or, set_past}
use Rattle.strm_machine.specs.Words.{Guest, Handles, Sets, no_guest, guest_in, memory_in, with_memory, with_table}

-- a memory written back as it was
pub with_memory-same : (guests : List Guest) (g : ℕ) → with_memory guests g (memory_in guests g) ≡ guests
with_memory-same guests g = set-get_or guests g no_guest

-- the second of two memories for one guest
pub with_memory-twice : (guests : List Guest) (g : ℕ) (a b : List ℕ) → with_memory (with_memory guests g a) g b ≡ with_memory guests g b
with_memory-twice guests g a b =
    elim (cases_lt g (length guests)) [
      | inl l ↦ (let here : guest_in (with_memory guests g a) g ≡ record (guest_in guests g) { memory = a } = get_or-set_same guests g (record (guest_in guests g) { memory = a }) no_guest l in
          rw here (set-set guests g (record (guest_in guests g) { memory = a }) (record (guest_in guests g) { memory = b })))
      | inr l ↦ (let first : with_memory guests g a ≡ guests = set_past guests g (record (guest_in guests g) { memory = a }) l in rw first refl)
    ]

pub memory_in-with_memory_other : (guests : List Guest) (g h : ℕ) (a : List ℕ) → h ≢ g → memory_in (with_memory guests g a) h ≡ memory_in guests h
memory_in-with_memory_other guests g h a e = ap (λ (k : Guest). k.memory) (get_or-set_other guests g h (record (guest_in guests g) { memory = a }) no_guest e)

pub memory_in-with_memory : (guests : List Guest) (g : ℕ) (a : List ℕ) → g < length guests → memory_in (with_memory guests g a) g ≡ a
memory_in-with_memory guests g a l = ap (λ (k : Guest). k.memory) (get_or-set_same guests g (record (guest_in guests g) { memory = a }) no_guest l)

-- and where the handles and sets of one guest are others
pub memory_in-with_table : (guests : List Guest) (g : ℕ) (handles : Handles) (sets : Sets) (k : ℕ) → memory_in (with_table guests g handles sets) k ≡ memory_in guests k
memory_in-with_table guests g handles sets k =
    let new : Guest = record (guest_in guests g) { handles = handles; sets = sets } in
    sym (get_or-map (λ (h : Guest). h.memory) (set guests g new) k no_guest)
    ∙ ap (λ xs. get_or xs k []) (map-set_same (λ (h : Guest). h.memory) guests g new no_guest refl)
    ∙ get_or-map (λ (h : Guest). h.memory) guests k no_guest
