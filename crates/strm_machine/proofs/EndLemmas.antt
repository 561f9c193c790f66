-- The two ends of a stream, mine and the opposite one, after a change of mine or of both.
use Rattle.std.proofs.Common.{◌≡◌, ℕ, ◌≤◌, Bool, true, false, Option, Some, None, refl, sym, subst, ap}
use Rattle.std.specs.Option.{option_map}
use Rattle.std.specs.Prelude.{◌&&◌}
use Rattle.std.proofs.lemmas.Bool.{and_right}
use Rattle.strm_machine.specs.Words.{opposite, same_side, end_of, with_end, with_operation, with_received, Side, Writing, Reading, Operation, End, Stream, both_open}
use Rattle.strm_machine.specs.Endings.{asked_to_finish}
use Rattle.strm_machine.specs.Sides.{write_of, read_of}
use Rattle.strm_machine.specs.Soundness.{type_of, is_opened}

-- what holds of a side and of the opposite one holds of each
pub each_side : (P : Side → Type 0) (side : Side) → P side → P (opposite side) → (other : Side) → P other
each_side P Writing h k Writing = h
each_side P Writing h k Reading = k
each_side P Reading h k Writing = k
each_side P Reading h k Reading = h

pub same_side-opposite : (side : Side) → same_side side (opposite side) ≡ false
same_side-opposite Writing = refl
same_side-opposite Reading = refl

-- an end that isn't open keeps the two apart
pub apart_by : (side : Side) (stream : Stream) → is_opened (end_of side stream).operation ≡ false → both_open stream ≡ false
apart_by Writing stream e = ap (λ b. b && is_opened stream.reader.operation) e
apart_by Reading stream e = and_right (is_opened stream.writer.operation) (is_opened stream.reader.operation) e

-- ## Of two operations, the write and the read

module _ (mine theirs : Operation) where
  pub write_mine : (side : Side) → side ≡ Writing → write_of side mine theirs ≡ mine
  write_mine Writing e = refl
  write_mine Reading e = cc

  pub write_theirs : (side : Side) → opposite side ≡ Writing → write_of side mine theirs ≡ theirs
  write_theirs Writing e = cc
  write_theirs Reading e = refl

  pub read_fits : (side : Side) (n : ℕ) → n ≤ mine.left → n ≤ theirs.left → n ≤ (read_of side mine theirs).left
  read_fits Writing n h k = k
  read_fits Reading n h k = h

  -- the one that has nothing left
  pub write_none : (side : Side) → (write_of side mine theirs).left ≡ 0 → (same_side Writing side ≡ true → mine.left ≡ 0) × (same_side Writing side ≡ false → theirs.left ≡ 0)
  write_none Writing h = (λ e. h, λ e. cc)
  write_none Reading h = (λ e. cc, λ e. h)

  pub read_none : (side : Side) → (read_of side mine theirs).left ≡ 0 → (same_side Reading side ≡ true → mine.left ≡ 0) × (same_side Reading side ≡ false → theirs.left ≡ 0)
  read_none Writing h = (λ e. cc, λ e. h)
  read_none Reading h = (λ e. h, λ e. cc)

-- ## A stream with other operations

-- the operations of the end on a side and of the opposite one, and what else the laws see
pub record IsTurned (side : Side) (old new : Stream) (mine theirs : Option Operation) (passed : Bool) (received : ℕ) : Type 0 where
  pub mine_is : (end_of side new).operation ≡ mine
  pub theirs_is : (end_of (opposite side) new).operation ≡ theirs
  pub payload : new.payload ≡ old.payload
  pub kind : new.kind ≡ old.kind
  pub pass : new.passed ≡ passed
  pub count : new.received ≡ received

pub turned_not : (side : Side) (stream : Stream) (o : Option Operation) → (end_of side stream).operation ≡ o → IsTurned side stream stream o (end_of (opposite side) stream).operation stream.passed stream.received
turned_not side stream o e = record { mine_is = e; theirs_is = refl; payload = refl; kind = refl; pass = refl; count = refl }

pub turned_end : (side : Side) (stream : Stream) (e : End) → IsTurned side stream (with_end side stream e) e.operation (end_of (opposite side) stream).operation stream.passed stream.received
turned_end Writing stream e = record { mine_is = refl; theirs_is = refl; payload = refl; kind = refl; pass = refl; count = refl }
turned_end Reading stream e = record { mine_is = refl; theirs_is = refl; payload = refl; kind = refl; pass = refl; count = refl }

-- theirs goes on, and mine opens
pub turned_both : (side : Side) (stream : Stream) (mine theirs : Operation) → IsTurned side stream (with_operation side (with_operation (opposite side) stream theirs) mine) (Some mine) (Some theirs) stream.passed stream.received
turned_both Writing stream mine theirs = record { mine_is = refl; theirs_is = refl; payload = refl; kind = refl; pass = refl; count = refl }
turned_both Reading stream mine theirs = record { mine_is = refl; theirs_is = refl; payload = refl; kind = refl; pass = refl; count = refl }

-- theirs goes on with n items
module _ (stream : Stream) (theirs : Operation) (n : ℕ) where
  pub turned_moves : (side : Side) (o : Option Operation) → (end_of side stream).operation ≡ o → IsTurned side stream (with_operation (opposite side) (with_received stream n) theirs) o (Some theirs) (with_received stream n).passed (with_received stream n).received
  turned_moves Writing o e = record { mine_is = e; theirs_is = refl; payload = refl; kind = refl; pass = refl; count = refl }
  turned_moves Reading o e = record { mine_is = e; theirs_is = refl; payload = refl; kind = refl; pass = refl; count = refl }

-- ## What stays of an end

pub record Stays (side : Side) (old new : Stream) : Type 0 where
  pub operation : (end_of side new).operation ≡ (end_of side old).operation
  pub payload : new.payload ≡ old.payload
  pub kind : new.kind ≡ old.kind
  pub count : new.received ≡ old.received

pub stays_same : (side : Side) (old new : Stream) → new ≡ old → Stays side old new
stays_same side old new e = record {
  operation = ap (λ st. (end_of side st).operation) e;
  payload = ap (λ st. st.payload) e;
  kind = ap (λ st. st.kind) e;
  count = ap (λ st. st.received) e;
}

-- ## A stream with another end

-- what becomes of an operation whose end is set to another: it stays, ends, or waits for its host end
pub data IsLeft (o q : Option Operation) : Type 0 where
  Unchanged : q ≡ o → IsLeft o q
  Ended : q ≡ None → IsLeft o q
  Asked : q ≡ option_map asked_to_finish o → IsLeft o q

-- what holds of an operation, of none and of one that waits for its host end holds of what it becomes
pub left_by : (P : Option Operation → Type 0) (o q : Option Operation) → IsLeft o q → P o → P None → ((x : Operation) → P (Some x) → P (Some (asked_to_finish x))) → P q
left_by P o q (Unchanged e) h n asked = subst P (sym e) h
left_by P o q (Ended e) h n asked = subst P (sym e) n
left_by P None q (Asked e) h n asked = subst P (sym e) n
left_by P (Some x) q (Asked e) h n asked = subst P (sym e) (asked x h)

pub with_end-apart : (side : Side) (stream : Stream) (e : End) → IsLeft (end_of side stream).operation e.operation → both_open stream ≡ false → both_open (with_end side stream e) ≡ false
with_end-apart Writing stream e left h = left_by (λ q. is_opened q && is_opened stream.reader.operation ≡ false) stream.writer.operation e.operation left h refl (λ x k. k)
with_end-apart Reading stream e left h = left_by (λ q. is_opened stream.writer.operation && is_opened q ≡ false) stream.reader.operation e.operation left h (and_right (is_opened stream.writer.operation) false refl) (λ x k. k)

pub with_end-type : (side : Side) (stream : Stream) (e : End) → type_of (with_end side stream e) ≡ type_of stream
with_end-type Writing stream e = refl
with_end-type Reading stream e = refl

-- the end is another, and all else stays
pub record IsReplaced (side : Side) (old new : Stream) (e : End) : Type 0 where
  pub here : end_of side new ≡ e
  pub other : end_of (opposite side) new ≡ end_of (opposite side) old
  pub payload : new.payload ≡ old.payload
  pub kind : new.kind ≡ old.kind
  pub count : new.received ≡ old.received

pub with_end-replaces : (side : Side) (stream : Stream) (e : End) → IsReplaced side stream (with_end side stream e) e
with_end-replaces Writing stream e = record { here = refl; other = refl; payload = refl; kind = refl; count = refl }
with_end-replaces Reading stream e = record { here = refl; other = refl; payload = refl; kind = refl; count = refl }

pub with_operation-count : (side : Side) (stream : Stream) (o : Operation) → (with_operation side stream o).received ≡ stream.received
with_operation-count side stream o = (with_end-replaces side stream (record (end_of side stream) { operation = Some o })).count
