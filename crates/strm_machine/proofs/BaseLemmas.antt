-- What each step leaves of where memories lie: all of it.
use Rattle.std.proofs.Common.{◌≡◌, ◌≢◌, ℕ, zero, suc, ℤ, List, [], ◌∷◌, ◌++◌, length, get_or, set, Option, Some, None, min, refl, sym, ap, ◌∙◌}
use Rattle.std.specs.Prelude.{replicate}
use Rattle.std.specs.Option.{option_map}
use Rattle.std.proofs.Math.Seq.{map-set_same}
use Rattle.std.proofs.Math.ListN.{get_or-map}
use Rattle.std.proofs.lemmas.Bool.{cond_both}
use Rattle.std.proofs.lemmas.List.{get_or-set_other}
use Rattle.strm_handles.specs.Handles.{inserted}
use Rattle.strm_waitable_sets.specs.Sets.{handle_left}
use Rattle.strm_machine.specs.Words.{Guest, Handles, Sets, no_handles, no_sets, Entry, removed, ReturnCode, TransmitIndex, Reaction, written_back, end_of, opposite, same_side, IsSound, State, guest_in, no_guest, sets_in, with_handles, with_memory, with_table, memory_in, item_type, stored_at, items_at, named, stream_named, Operated, Operation, Side, Reading, Writing, Stream, Act}
use Rattle.std.specs.Ptr.{Ptr}
use Rattle.strm_memory.specs.Linear.{Base, told_at, own_part}
use Rattle.strm_machine.specs.Bases.{base_in, with_base, BasesStay}
use Rattle.strm_machine.proofs.TurnLemmas.{GuestsKeep}
use Rattle.strm_machine.specs.State.{is_gone, own_size}
use Rattle.strm_machine.specs.Making.{read_entry, end_entry, with_stream}
use Rattle.strm_codes.specs.declared.refusals.Refusal.{Refusal}
use Rattle.strm_machine.specs.Refusals.{first_of, lower_context_reasons}
use Rattle.strm_machine.specs.Reactions.{makes, reaction, shares_unless, lowers_context}
use Rattle.strm_machine.specs.Sides.{read_of, write_of}
use Rattle.strm_machine.specs.Operating.{completes_alone, finds, rendezvous_by, moves, operate}
use Rattle.strm_machine.specs.declared.acts.Making.TheVariants as makings
use Rattle.strm_machine.specs.declared.streams.Meeting.{Meeting}
use Rattle.strm_machine.specs.declared.streams.Meeting.TheVariants.{BothComplete, ReadCompletes, WriteCompletes}
use Rattle.strm_machine.proofs.Shapes.{Owning, guests_freed, guests_given, guests_by, stream_on, begun_on, turn_on, Shape, ByTurn, BySetting, ByOwner, ByTable, ByPair, ByGuest, ByPut, ByRest}
use Rattle.strm_machine.proofs.ShapeLemmas.{reaction-shape}

-- ## Guests

-- another guest in the place of one whose memory lies there
base_in-set : (guests : List Guest) (g : ℕ) (new : Guest) → new.base ≡ base_in guests g → (k : ℕ) → base_in (set guests g new) k ≡ base_in guests k
base_in-set guests g new e k =
    sym (get_or-map (λ (h : Guest). h.base) (set guests g new) k no_guest)
    ∙ ap (λ xs. get_or xs k None) (map-set_same (λ (h : Guest). h.base) guests g new no_guest e)
    ∙ get_or-map (λ (h : Guest). h.base) guests k no_guest

base_in-with_table : (guests : List Guest) (g : ℕ) (handles : Handles) (sets : Sets) (k : ℕ) → base_in (with_table guests g handles sets) k ≡ base_in guests k
base_in-with_table guests g handles sets k = base_in-set guests g (record (guest_in guests g) { handles = handles; sets = sets }) refl k

pub base_in-with_memory : (guests : List Guest) (g : ℕ) (memory : List ℕ) (k : ℕ) → base_in (with_memory guests g memory) k ≡ base_in guests k
base_in-with_memory guests g memory k = base_in-set guests g (record (guest_in guests g) { memory = memory }) refl k

base_in-freed : (guests : List Guest) (o : Option (ℕ × ℕ)) (k : ℕ) → base_in (guests_freed guests o) k ≡ base_in guests k
base_in-freed guests None k = refl
base_in-freed guests (Some h) k = base_in-with_table guests h.0 (removed (guest_in guests h.0).handles h.1) (handle_left (sets_in guests h.0) h.1) k

base_in-given : (guests : List Guest) (entry : Entry) (o : Option ℕ) (k : ℕ) → base_in (guests_given guests entry o) k ≡ base_in guests k
base_in-given guests entry None k = refl
base_in-given guests entry (Some g) k = base_in-with_table guests g (inserted (guest_in guests g).handles entry) (sets_in guests g) k

base_in-by : (guests : List Guest) (x : Owning) (k : ℕ) → base_in (guests_by guests x) k ≡ base_in guests k
base_in-by guests x k = base_in-given (guests_freed guests x.freed) (end_entry x.side x.ty x.stream) x.taker k ∙ base_in-freed guests x.freed k

-- a guest behind the others, of which nobody was told
base_in-behind : (guests : List Guest) (memory : List ℕ) (k : ℕ) → base_in (guests ++ (record { memory = memory; base = None; handles = no_handles; sets = no_sets }) ∷ []) k ≡ base_in guests k
base_in-behind [] memory zero = refl
base_in-behind [] memory (suc k) = refl
base_in-behind (g ∷ guests) memory zero = refl
base_in-behind (g ∷ guests) memory (suc k) = base_in-behind guests memory k

-- ## A read or write

module _ (side : Side) (guests : List Guest) (stream : Stream) (mine : Operation) where
  abbrev Stay : Operated → Type 0
  Stay t = BasesStay guests t.guests

  -- the guests with items that were lifted stored where a read is to have them
  abbrev stored_for : Operation → List (List ℤ) → List Guest
  stored_for read xs = with_memory guests read.guest (stored_at (item_type stream.payload) (memory_in guests read.guest) read.address xs)

  moved_stay : (theirs : Operation) (n : ℕ) (o : Option (List (List ℤ))) → Stay (moves side guests stream mine theirs n (option_map (stored_for (read_of side mine theirs)) o))
  moved_stay theirs n None = λ k. refl
  moved_stay theirs n (Some xs) = λ k. base_in-with_memory guests (read_of side mine theirs).guest _ k

  alone_stay : (who : Side) (theirs : Operation) → Stay (completes_alone who side guests stream mine theirs)
  alone_stay who theirs = cond_both (same_side who side) _ _ Stay (λ e k. refl) (λ e k. refl)

  meets_stay : (meeting : Meeting) (theirs : Operation) → Stay (rendezvous_by meeting side guests stream mine theirs)
  meets_stay BothComplete theirs =
      let n = min mine.left theirs.left in
      let write = write_of side mine theirs in
      moved_stay theirs n (items_at (item_type stream.payload) (memory_in guests write.guest) write.address n)
  meets_stay WriteCompletes theirs = alone_stay Writing theirs
  meets_stay ReadCompletes theirs = alone_stay Reading theirs

  finds_stay : (o : Option Operation) → Stay (finds side guests stream mine o)
  finds_stay None = λ k. refl
  finds_stay (Some theirs) = cond_both theirs.is_open _ _ Stay (λ e. meets_stay _ theirs) (λ e k. refl)

  turn_stay : Stay (operate side guests stream mine)
  unfolding operate
  turn_stay = cond_both (is_gone (end_of (opposite side) stream).owner) _ _ Stay (λ e k. refl) (λ e. finds_stay (end_of (opposite side) stream).operation)

back_stays : (state : State) (s : ℕ) (t : Operated) (code : Option ReturnCode) → BasesStay state.guests t.guests → BasesStay state.guests (written_back state s t code).state.guests
back_stays state s t None h = h
back_stays state s t (Some code) h = h

-- ## Every step

pair_stays : (state : State) (writer reader : ℕ) (ty : TransmitIndex) → BasesStay state.guests (makes state (makings.Between writer reader ty)).state.guests
unfolding with_stream
pair_stays state writer reader ty = λ k.
    let new = inserted (guest_in state.guests reader).handles (read_entry ty (length state.streams)) in
    base_in-with_table (with_handles state.guests reader new) writer _ _ k
    ∙ base_in-with_table state.guests reader new (sets_in state.guests reader) k

shape-bases : (state : State) (act : Act) (r : Reaction) → Shape state act r → BasesStay state.guests r.state.guests
shape-bases state act r (ByTurn side end address count a e o) =
    let t = turn_on state side end address count in
    rw e (back_stays state (stream_named (named state end)) t t.code (turn_stay side state.guests (stream_on state end) (begun_on end address count)))
shape-bases state act r (BySetting reply x e set) = rw e (λ k. refl)
shape-bases state act r (ByOwner reply x e o) = rw e (λ k. base_in-by state.guests x k)
shape-bases state act r (ByTable reply x e t) = rw e (λ k. base_in-with_table state.guests x.guest x.handles x.sets k)
shape-bases state act r (ByPair writer reader ty a e fits) = rw e (pair_stays state writer reader ty)
shape-bases state act r (ByGuest size a e fits) = rw e (λ k. base_in-behind state.guests (replicate size 0) k)
shape-bases state act r (ByPut reply g address bytes e p) = rw e (λ k. base_in-with_memory state.guests g _ k)
shape-bases state act r (ByRest reply e none) = rw e (λ k. refl)

-- whatever is done in a sound state, each memory of which it was told lies where it lay
pub reaction-bases : (state : State) (act : Act) → IsSound state → BasesStay state.guests (reaction state act).state.guests
reaction-bases state act h = shape-bases state act (reaction state act) (reaction-shape state act h)

-- so it is of an error context that is lowered
shared-bases : (state : State) (number g : ℕ) (found : Option Refusal) → BasesStay state.guests (shares_unless state number g found).state.guests
shared-bases state number g (Some r) = λ k. refl
shared-bases state number g None = λ k. base_in-with_table state.guests g _ (sets_in state.guests g) k

pub lowered-bases : (state : State) (number g : ℕ) → BasesStay state.guests (lowers_context state number g).state.guests
unfolding lowers_context
lowered-bases state number g =
    cond_both state.trapped _ _ (λ (r : Reaction). BasesStay state.guests r.state.guests) (λ e k. refl)
    (λ e. shared-bases state number g (first_of (lower_context_reasons state number g)))

-- whose bytes they are stays where it is told where they lie
own_told : (o : Option Base) (at : Ptr) (size : ℕ) → own_part (Some (told_at o at)) size ≡ own_part o size
own_told None at size = refl
own_told (Some base) at size = refl

-- to tell where a memory lies changes nothing else
pub with_base-keeps : (guests : List Guest) (g : ℕ) (at : Ptr) → GuestsKeep guests (with_base guests g at)
with_base-keeps guests g at =
    let new : Guest = record (guest_in guests g) { base = Some (told_at (base_in guests g) at) } in
    record {
      sizes = map-set_same (λ (h : Guest). length h.memory) guests g new no_guest refl;
      own = map-set_same own_size guests g new no_guest (own_told (base_in guests g) at (length (memory_in guests g)));
      handles = map-set_same (λ (h : Guest). h.handles) guests g new no_guest refl;
      sets = map-set_same (λ (h : Guest). h.sets) guests g new no_guest refl;
    }

-- what of another guest stays where one is added, and where one is told of
pub base_in-behind_but : (guests : List Guest) (x : Guest) (k : ℕ) → k ≢ length guests → base_in (guests ++ x ∷ []) k ≡ base_in guests k
base_in-behind_but [] x zero ne = absurd (ne refl)
base_in-behind_but [] x (suc k) ne = refl
base_in-behind_but (g ∷ guests) x zero ne = refl
base_in-behind_but (g ∷ guests) x (suc k) ne = base_in-behind_but guests x k (λ e. ne (ap suc e))

pub base_in-with_base_but : (guests : List Guest) (g : ℕ) (at : Ptr) (k : ℕ) → k ≢ g → base_in (with_base guests g at) k ≡ base_in guests k
base_in-with_base_but guests g at k ne =
    ap (λ (h : Guest). h.base) (get_or-set_other guests g k (record (guest_in guests g) { base = Some (told_at (base_in guests g) at) }) no_guest ne)
