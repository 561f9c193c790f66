-- A state stays sound where a guest's memory grows: what lies in it lies there as before.
use Rattle.std.proofs.Common.{◌≡◌, ℕ, zero, suc, ◌+◌, ◌≤◌, ◌<◌, List, [], ◌∷◌, ◌++◌, length, take, drop, get_or, set, Option, Some, None, Bool, true, false, cond, refl, sym, ap, ◌∙◌, arith, length-append, length-drop}
use Rattle.std.specs.Prelude.{nat_le}
use Rattle.std.specs.Ptr.{Ptr}
use Rattle.std.proofs.lemmas.List.{take-append-drop, take-append-le, drop-append-le, length-map, length-set}
use Rattle.std.proofs.lemmas.List.Elements.{All-weaker}
use Rattle.std.proofs.Math.Seq.{map-set_same}
use Rattle.strm_machine.specs.Words.{Guest, Payload, item_type, State, no_guest, guest_in, memory_in, with_memory, sizes_of, IsPlaced, OperationIsPlaced, StreamIsPlaced, IsSound, Operation, Stream}
use Rattle.strm_memory.specs.Bytes.{bytes_at}
use Rattle.strm_memory.specs.Linear.{Base, is_lent_base, own_part}
use Rattle.strm_machine.specs.State.{size_limit, guest_limit, own_size}
use Rattle.strm_machine.specs.Bases.{base_in, is_lent_in}
use Rattle.strm_machine.specs.Tests.{are_guests_full}
use Rattle.strm_machine.specs.Refusals.{first_of}
use Rattle.strm_machine.specs.Reactions.{goes}
use Rattle.strm_machine.specs.declared.replies.Reply.TheVariants as replies
use Rattle.strm_codes.specs.declared.refusals.Refusal.{Refusal}
use Rattle.strm_machine.specs.Growth.{guest_at, with_guest_at, guest_at_reasons, adds_unless, adds_guest_at, grown, MayGrow}
use Rattle.strm_machine.specs.Soundness.{AreSmall, handles_of, own_sizes_of}
use Rattle.strm_machine.proofs.BoundLemmas.{within, not_out}
use Rattle.strm_machine.proofs.SoundLemmas.{IsSound-guest}
use Rattle.strm_machine.proofs.TurnLemmas.{sets_of}
use Rattle.strm_machine.proofs.RefusalLemmas.{not_refused, not_le}
use Rattle.strm_machine.proofs.WaitableSetLemmas.{HoldSets-kept}
use Rattle.strm_machine.proofs.ErrorContextLemmas.{all_handles-same, HoldsContexts-same}

-- as many memories, none of them shorter
pub record Longer (old new : List ℕ) : Type 0 where
  pub count : length new ≡ length old
  pub more : (g : ℕ) → get_or old g 0 ≤ get_or new g 0

-- what lies in a memory lies in a longer one
pub IsPlaced-longer : (old new : List ℕ) (payload : Payload) (operation : Operation) → Longer old new → IsPlaced old payload operation → IsPlaced new payload operation
IsPlaced-longer old new payload operation l p =
    let g = operation.guest in
    let ss = item_type payload in
    record {
      there = omega (arith, p.there, l.count);
      inside = not_out (get_or new g 0) ss operation.address operation.left (λ some wide. omega (arith, within (get_or old g 0) ss operation.address operation.left p.inside some wide, l.more g));
      counted = p.counted;
    }

OperationIsPlaced-longer : (old new : List ℕ) (payload : Payload) (o : Option Operation) → Longer old new → OperationIsPlaced old payload o → OperationIsPlaced new payload o
OperationIsPlaced-longer old new payload None l p = tt
OperationIsPlaced-longer old new payload (Some operation) l p = IsPlaced-longer old new payload operation l p

StreamIsPlaced-longer : (old new : List ℕ) → Longer old new → (stream : Stream) → StreamIsPlaced old stream → StreamIsPlaced new stream
StreamIsPlaced-longer old new l stream p = record {
  writer = OperationIsPlaced-longer old new stream.payload stream.writer.operation l p.writer;
  reader = OperationIsPlaced-longer old new stream.payload stream.reader.operation l p.reader;
}

-- guests of which one has another memory, no shorter one
longer_at : (guests : List Guest) (g : ℕ) (x : Guest) → length (memory_in guests g) ≤ length x.memory → (k : ℕ) → get_or (sizes_of guests) k 0 ≤ get_or (sizes_of (set guests g x)) k 0
longer_at [] zero x h k = omega arith
longer_at [] (suc g) x h k = omega arith
longer_at (y ∷ guests) zero x h zero = h
longer_at (y ∷ guests) zero x h (suc k) = omega arith
longer_at (y ∷ guests) (suc g) x h zero = omega arith
longer_at (y ∷ guests) (suc g) x h (suc k) = longer_at guests g x h k

small_at : (guests : List Guest) (g : ℕ) (x : Guest) → length x.memory < size_limit → AreSmall (sizes_of guests) → AreSmall (sizes_of (set guests g x))
small_at [] zero x l h k = h k
small_at [] (suc g) x l h k = h k
small_at (y ∷ guests) zero x l h zero = l
small_at (y ∷ guests) zero x l h (suc k) = h (suc k)
small_at (y ∷ guests) (suc g) x l h zero = h zero
small_at (y ∷ guests) (suc g) x l h (suc k) = small_at guests g x l (λ j. h (suc j)) k

-- a guest with more bytes behind its memory
abbrev longer_guest : List Guest → ℕ → List ℕ → Guest
longer_guest guests g more = record (guest_in guests g) { memory = memory_in guests g ++ more }

pub grown-longer : (guests : List Guest) (g : ℕ) (more : List ℕ) → Longer (sizes_of guests) (sizes_of (with_memory guests g (memory_in guests g ++ more)))
grown-longer guests g more =
    let x = longer_guest guests g more in
    record {
      count = length-map (set guests g x) (λ (h : Guest). length h.memory) ∙ length-set guests g x ∙ omega (arith, length-map guests (λ (h : Guest). length h.memory));
      more = longer_at guests g x (omega (arith, length-append (memory_in guests g) more));
    }

pub handles-grown : (guests : List Guest) (g : ℕ) (memory : List ℕ) → handles_of (with_memory guests g memory) ≡ handles_of guests
handles-grown guests g memory = map-set_same (λ (h : Guest). h.handles) guests g (record (guest_in guests g) { memory = memory }) no_guest refl

pub sets-grown : (guests : List Guest) (g : ℕ) (memory : List ℕ) → sets_of (with_memory guests g memory) ≡ sets_of guests
sets-grown guests g memory = map-set_same (λ (h : Guest). h.sets) guests g (record (guest_in guests g) { memory = memory }) no_guest refl

-- of a memory that an engine lent no byte is the store's, however long it is
lent_part : (o : Option Base) (n m : ℕ) → is_lent_base o ≡ true → own_part o n ≡ own_part o m
lent_part None n m e = cc
lent_part (Some base) n m e = rw e refl

pub own-grown : (guests : List Guest) (g : ℕ) (memory : List ℕ) → is_lent_in guests g ≡ true → own_sizes_of (with_memory guests g memory) ≡ own_sizes_of guests
own-grown guests g memory e =
    map-set_same own_size guests g (record (guest_in guests g) { memory = memory }) no_guest (lent_part (base_in guests g) (length memory) (length (memory_in guests g)) e)

-- a state stays sound where a memory grows
pub IsSound-grown : (state : State) (g : ℕ) (more : List ℕ) → MayGrow state g more → IsSound state → IsSound (grown state g more)
IsSound-grown state g more may h =
    let guests = state.guests in
    let memory : List ℕ = memory_in guests g ++ more in
    let new = with_memory guests g memory in
    let handles = handles-grown guests g memory in
    record {
      named = rw handles h.named;
      placed = All-weaker (StreamIsPlaced (sizes_of guests)) (StreamIsPlaced (sizes_of new)) (StreamIsPlaced-longer (sizes_of guests) (sizes_of new) (grown-longer guests g more)) state.streams h.placed;
      small = small_at guests g (longer_guest guests g more) (omega (arith, length-append (memory_in guests g) more, may.small)) h.small;
      own = rw (own-grown guests g memory may.lent) h.own;
      sets = HoldSets-kept guests new handles (sets-grown guests g memory) h.sets;
      contexts = HoldsContexts-same guests new state.contexts (λ number. all_handles-same number guests new handles) h.contexts;
    }

-- ## A guest over bytes that an engine lent

pub adds_guest_at-trapped : (state : State) (bytes : List ℕ) (base : Ptr) → state.trapped ≡ true → adds_guest_at state bytes base ≡ goes replies.StoreTrapped state
unfolding adds_guest_at
adds_guest_at-trapped state bytes base t = rw t refl

pub adds_guest_at-refused : (state : State) (bytes : List ℕ) (base : Ptr) (r : Refusal) → state.trapped ≡ false → first_of (guest_at_reasons state (length bytes)) ≡ Some r → adds_guest_at state bytes base ≡ goes (replies.Refused r) state
unfolding adds_guest_at
adds_guest_at-refused state bytes base r t e =
    ap (λ b. cond b (goes replies.StoreTrapped state) (adds_unless state bytes base (first_of (guest_at_reasons state (length bytes))))) t
    ∙ ap (adds_unless state bytes base) e

pub adds_guest_at-performs : (state : State) (bytes : List ℕ) (base : Ptr) → state.trapped ≡ false → first_of (guest_at_reasons state (length bytes)) ≡ None → adds_guest_at state bytes base ≡ goes (replies.Number (length state.guests)) (with_guest_at state bytes base)
unfolding adds_guest_at
adds_guest_at-performs state bytes base t e =
    ap (λ b. cond b (goes replies.StoreTrapped state) (adds_unless state bytes base (first_of (guest_at_reasons state (length bytes))))) t
    ∙ ap (adds_unless state bytes base) e

-- what is known where nothing refuses it
pub record GuestAtFits (state : State) (size : ℕ) : Type 0 where
  pub small : size < size_limit
  pub count : length state.guests < guest_limit

pub guest_at_fits : (state : State) (size : ℕ) → first_of (guest_at_reasons state size) ≡ None → GuestAtFits state size
guest_at_fits state size e =
    let first = not_refused (nat_le size_limit size) _ _ e in
    let second = not_refused (are_guests_full state) _ _ first.1 in
    record { small = not_le size_limit size first.0; count = not_le guest_limit (length state.guests) second.0 }

-- what holds of the state before and of that with the guest holds after the call
pub adds_guest_at-by : (P : State → Type 0) (state : State) (bytes : List ℕ) (base : Ptr) → P state → (GuestAtFits state (length bytes) → P (with_guest_at state bytes base)) → P (adds_guest_at state bytes base).state
unfolding adds_guest_at
adds_guest_at-by P state bytes base old new = by_trap state.trapped
  where
    by_refusal : (o : Option Refusal) → first_of (guest_at_reasons state (length bytes)) ≡ o → P (adds_unless state bytes base o).state
    by_refusal (Some r) e = old
    by_refusal None e = new (guest_at_fits state (length bytes) e)

    by_trap : (b : Bool) → P (cond b (goes replies.StoreTrapped state) (adds_unless state bytes base (first_of (guest_at_reasons state (length bytes))))).state
    by_trap true = old
    by_trap false = by_refusal (first_of (guest_at_reasons state (length bytes))) refl

pub adds_guest_at-sound : (state : State) (bytes : List ℕ) (base : Ptr) → IsSound state → IsSound (adds_guest_at state bytes base).state
adds_guest_at-sound state bytes base h =
    adds_guest_at-by IsSound state bytes base h
    (λ fits. IsSound-guest state (guest_at bytes base) refl refl fits.small (omega (arith, h.own)) h)

-- ## Its bytes

-- bytes of a memory are those of a longer one
pub bytes_at-longer : (memory more : List ℕ) (address n : ℕ) → address + n ≤ length memory → bytes_at (memory ++ more) address n ≡ bytes_at memory address n
bytes_at-longer memory more address n h =
    ap (take n) (drop-append-le address memory more (omega (arith, h)))
    ∙ take-append-le n (drop address memory) more (omega (arith, h, length-drop address memory))

-- where one guest's memory grows, what lies in a memory lies there as before
pub bytes_at-grown : (state : State) (guest other address n : ℕ) (more : List ℕ) → address + n ≤ length (memory_in state.guests other)
    → bytes_at (memory_in (grown state guest more).guests other) address n ≡ bytes_at (memory_in state.guests other) address n
bytes_at-grown state guest other address n more h = in_guests state.guests guest other h
  where
    in_guests : (guests : List Guest) (g k : ℕ) → address + n ≤ length (memory_in guests k) → bytes_at (memory_in (set guests g (longer_guest guests g more)) k) address n ≡ bytes_at (memory_in guests k) address n
    in_guests [] zero k l = refl
    in_guests [] (suc g) k l = refl
    in_guests (y ∷ guests) zero zero l = bytes_at-longer y.memory more address n l
    in_guests (y ∷ guests) zero (suc k) l = refl
    in_guests (y ∷ guests) (suc g) zero l = refl
    in_guests (y ∷ guests) (suc g) (suc k) l = in_guests guests g k l

-- bytes that begin with all of a memory are it with more behind its end
pub begins_more : (memory bytes : List ℕ) → take (length memory) bytes ≡ memory → memory ++ drop (length memory) bytes ≡ bytes
begins_more memory bytes e = ap (λ l. l ++ drop (length memory) bytes) (sym e) ∙ take-append-drop (length memory) bytes

pub may_grow : (state : State) (g : ℕ) (bytes : List ℕ) → g < length state.guests → is_lent_in state.guests g ≡ true → take (length (memory_in state.guests g)) bytes ≡ memory_in state.guests g → length bytes < size_limit
    → MayGrow state g (drop (length (memory_in state.guests g)) bytes)
may_grow state g bytes there lent e l =
    let memory = memory_in state.guests g in
    let all = ap length (begins_more memory bytes e) in
    record { there = there; lent = lent; small = omega (arith, l, all, length-append memory (drop (length memory) bytes)) }
