-- What a read or write leaves as it was: the guests' handles, the lengths of their memories, the
-- stream's type and owners.
use Rattle.std.proofs.Common.{◌≡◌, ℕ, ◌≤◌, min, true, false, List, length, map, get_or, ℤ, Option, Some, None, refl, ap, arith}
use Rattle.std.proofs.Math.Seq.{map-set_same}
use Rattle.std.proofs.Math.ListN.{get_or-map}
use Rattle.std.proofs.lemmas.Bool.{cond_both}
use Rattle.std.specs.Option.{option_map}
use Rattle.strm_machine.specs.Words.{Guest, Sets, Payload, item_type, items_at, stored_at, no_guest, guest_in, memory_in, with_memory, opposite, same_side, end_of, with_operation, advanced, carried, Operated, with_received, sizes_of, IsPlaced, OperationIsPlaced, StreamIsPlaced, Side, Writing, Reading, Operation, Stream, ItemType}
use Rattle.strm_memory.specs.Region.{is_out_of_bounds}
use Rattle.strm_memory.specs.Linear.{own_part}
use Rattle.strm_machine.specs.State.{is_gone, own_size}
use Rattle.strm_machine.specs.Sides.{write_of, read_of}
use Rattle.strm_machine.specs.Operating.{waits, moves, completes_alone, rendezvous_by, finds, operate}
use Rattle.strm_machine.specs.Soundness.{handles_of, own_sizes_of}
use Rattle.strm_machine.specs.declared.streams.Meeting.{Meeting}
use Rattle.strm_machine.specs.declared.streams.Meeting.TheVariants.{BothComplete, WriteCompletes, ReadCompletes}
use Rattle.strm_machine.proofs.BoundLemmas.{not_out-front, length-stored_region}
use Rattle.strm_machine.proofs.SideLemmas.{StreamKeeps, kept, kept_on, end_placed, with_end-keeps, with_operation-keeps, IsPlaced-advanced, read_of-placed}

abbrev pub sets_of : List Guest → List Sets
sets_of guests = map (λ g. g.sets) guests

-- guests with the handles, the sets and the memory lengths of others, of which as many bytes are the store's
pub record GuestsKeep (old new : List Guest) : Type 0 where
  pub sizes : sizes_of new ≡ sizes_of old
  pub own : own_sizes_of new ≡ own_sizes_of old
  pub handles : handles_of new ≡ handles_of old
  pub sets : sets_of new ≡ sets_of old

pub record TurnKeeps (before : List Guest) (old : Stream) (t : Operated) : Type 0 where
  pub guests : GuestsKeep before t.guests
  pub stream : StreamKeeps (sizes_of before) old t.stream

pub all_kept : (guests : List Guest) → GuestsKeep guests guests
all_kept guests = record { sizes = refl; own = refl; handles = refl; sets = refl }

-- another memory of the same length
pub with_memory-keeps : (guests : List Guest) (g : ℕ) (memory : List ℕ) → length memory ≡ length (memory_in guests g) → GuestsKeep guests (with_memory guests g memory)
with_memory-keeps guests g memory e = record {
  sizes = map-set_same (λ h. length h.memory) guests g (record (guest_in guests g) { memory = memory }) no_guest e;
  own = map-set_same own_size guests g (record (guest_in guests g) { memory = memory }) no_guest (ap (own_part (guest_in guests g).base) e);
  handles = map-set_same (λ h. h.handles) guests g (record (guest_in guests g) { memory = memory }) no_guest refl;
  sets = map-set_same (λ h. h.sets) guests g (record (guest_in guests g) { memory = memory }) no_guest refl;
}

pub size_in : (guests : List Guest) (g : ℕ) → get_or (sizes_of guests) g 0 ≡ length (memory_in guests g)
size_in guests g = get_or-map (λ h. length h.memory) guests g no_guest

-- the guests with items stored where a read is to have them
abbrev filled_with : ItemType → List Guest → Operation → List (List ℤ) → List Guest
filled_with ss guests read xs = with_memory guests read.guest (stored_at ss (memory_in guests read.guest) read.address xs)

module _ (guests : List Guest) (ss : ItemType) (write read : Operation) (n : ℕ) (after : List Guest) (inside : is_out_of_bounds (length (memory_in guests read.guest)) ss read.address n ≡ false) where
  carried_from : (o : Option (List (List ℤ))) → items_at ss (memory_in guests write.guest) write.address n ≡ o → option_map (filled_with ss guests read) o ≡ Some after → GuestsKeep guests after
  carried_from None i f = cc
  carried_from (Some xs) i f =
      let same : filled_with ss guests read xs ≡ after = cc in
      rw (← same) (with_memory-keeps guests read.guest _ (length-stored_region ss (memory_in guests write.guest) (memory_in guests read.guest) write.address read.address n xs i inside))

-- the guests after items were carried
pub carried-keeps : (guests : List Guest) (payload : Payload) (write read : Operation) (n : ℕ) (after : List Guest) → n ≤ read.left → IsPlaced (sizes_of guests) payload read → carried guests payload write read n ≡ Some after → GuestsKeep guests after
carried-keeps guests payload write read n after k q e =
    let ss = item_type payload in
    let inside = not_out-front _ ss read.address read.left n k q.inside in
    carried_from guests ss write read n after (rw (size_in guests read.guest) at inside) (items_at ss (memory_in guests write.guest) write.address n) refl e

-- an end that another has met, and then n items more were received
advanced-keeps : (side : Side) (sizes : List ℕ) (stream : Stream) (theirs : Operation) (n : ℕ) → StreamIsPlaced sizes stream → IsPlaced sizes stream.payload theirs → n ≤ theirs.left → StreamKeeps sizes stream (with_operation side (with_received stream n) (advanced stream.payload theirs n))
advanced-keeps side sizes stream theirs n h p l =
    let received : StreamKeeps sizes stream (with_received stream n) = record { payload = refl; kind = refl; writer = refl; reader = refl; placed = record { writer = h.writer; reader = h.reader } } in
    kept_on sizes stream (with_received stream n) _ received
    (with_operation-keeps side sizes (with_received stream n) (advanced stream.payload theirs n) received.placed (IsPlaced-advanced sizes stream.payload theirs n l p))

-- what is known where mine is called and theirs is open
pub record AreReady (guests : List Guest) (stream : Stream) (mine theirs : Operation) : Type 0 where
  pub placed : StreamIsPlaced (sizes_of guests) stream
  pub mine_placed : IsPlaced (sizes_of guests) stream.payload mine
  pub theirs_placed : IsPlaced (sizes_of guests) stream.payload theirs

waits-keeps : (side : Side) (guests : List Guest) (stream : Stream) (mine : Operation) → StreamIsPlaced (sizes_of guests) stream → IsPlaced (sizes_of guests) stream.payload mine → TurnKeeps guests stream (waits side guests stream mine)
waits-keeps side guests stream mine h p = record {
  guests = all_kept guests;
  stream = with_operation-keeps side (sizes_of guests) stream mine h p;
}

least-write : (side : Side) (mine theirs : Operation) → min mine.left theirs.left ≤ (read_of side mine theirs).left
least-write Writing mine theirs = omega arith
least-write Reading mine theirs = omega arith

module _ (side : Side) (guests : List Guest) (stream : Stream) (mine theirs : Operation) where
  -- the items that both have left
  abbrev both_left : ℕ
  both_left = min mine.left theirs.left

  moves-keeps : (o : Option (List Guest)) → AreReady guests stream mine theirs → carried guests stream.payload (write_of side mine theirs) (read_of side mine theirs) both_left ≡ o → TurnKeeps guests stream (moves side guests stream mine theirs both_left o)
  moves-keeps None h e = record { guests = all_kept guests; stream = kept (sizes_of guests) stream h.placed }
  moves-keeps (Some after) h e = record {
    guests = carried-keeps guests stream.payload (write_of side mine theirs) (read_of side mine theirs) both_left after (least-write side mine theirs) (read_of-placed side (sizes_of guests) stream.payload mine theirs h.mine_placed h.theirs_placed) e;
    stream = advanced-keeps (opposite side) (sizes_of guests) stream theirs both_left h.placed h.theirs_placed (omega arith);
  }

alone-keeps : (who side : Side) (guests : List Guest) (stream : Stream) (mine theirs : Operation) → AreReady guests stream mine theirs → TurnKeeps guests stream (completes_alone who side guests stream mine theirs)
alone-keeps who side guests stream mine theirs h =
    let stopped = with_operation (opposite side) stream (advanced stream.payload theirs 0) in
    let first : StreamKeeps (sizes_of guests) stream stopped = with_operation-keeps (opposite side) (sizes_of guests) stream (advanced stream.payload theirs 0) h.placed (IsPlaced-advanced (sizes_of guests) stream.payload theirs 0 (omega arith) h.theirs_placed) in
    let mine_placed : IsPlaced (sizes_of guests) stopped.payload mine = rw first.payload h.mine_placed in
    let second : TurnKeeps guests stopped (waits side guests stopped mine) = waits-keeps side guests stopped mine first.placed mine_placed in
    cond_both (same_side who side) _ _ (TurnKeeps guests stream)
    (λ e. record { guests = all_kept guests; stream = kept (sizes_of guests) stream h.placed })
    (λ e. record { guests = second.guests; stream = kept_on (sizes_of guests) stream stopped _ first second.stream })

rendezvous_by-keeps : (meeting : Meeting) (side : Side) (guests : List Guest) (stream : Stream) (mine theirs : Operation) → AreReady guests stream mine theirs → TurnKeeps guests stream (rendezvous_by meeting side guests stream mine theirs)
rendezvous_by-keeps BothComplete side guests stream mine theirs h = moves-keeps side guests stream mine theirs _ h refl
rendezvous_by-keeps WriteCompletes side guests stream mine theirs h = alone-keeps Writing side guests stream mine theirs h
rendezvous_by-keeps ReadCompletes side guests stream mine theirs h = alone-keeps Reading side guests stream mine theirs h

module _ (side : Side) (guests : List Guest) (stream : Stream) (mine : Operation) (h : StreamIsPlaced (sizes_of guests) stream) (p : IsPlaced (sizes_of guests) stream.payload mine) where
  finds-keeps : (o : Option Operation) → OperationIsPlaced (sizes_of guests) stream.payload o → TurnKeeps guests stream (finds side guests stream mine o)
  finds-keeps None q = waits-keeps side guests stream mine h p
  finds-keeps (Some theirs) q =
      cond_both theirs.is_open _ _ (TurnKeeps guests stream)
      (λ e. rendezvous_by-keeps _ side guests stream mine theirs (record { placed = h; mine_placed = p; theirs_placed = q }))
      (λ e. waits-keeps side guests stream mine h p)

-- a read or write of n items that lie in memory
pub operated-keeps : (side : Side) (guests : List Guest) (stream : Stream) (mine : Operation) → StreamIsPlaced (sizes_of guests) stream → IsPlaced (sizes_of guests) stream.payload mine → TurnKeeps guests stream (operate side guests stream mine)
unfolding operate
operated-keeps side guests stream mine h p =
    cond_both (is_gone (end_of (opposite side) stream).owner) _ _ (TurnKeeps guests stream)
    (λ e. record {
      guests = all_kept guests;
      stream = with_end-keeps side (sizes_of guests) stream (record (end_of side stream) { told = true }) h refl (end_placed side (sizes_of guests) stream h);
    })
    (λ e. finds-keeps side guests stream mine h p _ (end_placed (opposite side) (sizes_of guests) stream h))

-- the first n items that an operation has left lie in its guest's memory
pub front_inside : (guests : List Guest) (payload : Payload) (operation : Operation) (n : ℕ) → n ≤ operation.left → IsPlaced (sizes_of guests) payload operation → is_out_of_bounds (length (memory_in guests operation.guest)) (item_type payload) operation.address n ≡ false
front_inside guests payload operation n h p =
    rw (size_in guests operation.guest) at (not_out-front _ (item_type payload) operation.address operation.left n h p.inside)
