-- A stream after a change on one side: its type and owners stay, and its operations lie in memory.
use Rattle.std.proofs.Common.{true, ◌≡◌, ℕ, ◌≤◌, List, Some, refl, ◌∙◌, arith}
use Rattle.strm_machine.specs.Words.{Payload, item_type, same_side, end_of, with_end, with_operation, advanced, IsPlaced, OperationIsPlaced, StreamIsPlaced, Side, Writing, Reading, Operation, End, Stream}
use Rattle.strm_machine.specs.Sides.{read_of}
use Rattle.strm_machine.proofs.BoundLemmas.{not_out-rest}

-- a side is the same as itself, and as no other
pub same_side-itself : (side : Side) → same_side side side ≡ true
same_side-itself Writing = refl
same_side-itself Reading = refl

pub same_side_is : (one other : Side) → same_side one other ≡ true → other ≡ one
same_side_is Writing Writing e = refl
same_side_is Reading Reading e = refl
same_side_is Writing Reading e = cc
same_side_is Reading Writing e = cc

-- what a read or write leaves of its stream as it was
pub record StreamKeeps (sizes : List ℕ) (old new : Stream) : Type 0 where
  pub payload : new.payload ≡ old.payload
  pub kind : new.kind ≡ old.kind
  pub writer : new.writer.owner ≡ old.writer.owner
  pub reader : new.reader.owner ≡ old.reader.owner
  pub placed : StreamIsPlaced sizes new

pub kept : (sizes : List ℕ) (stream : Stream) → StreamIsPlaced sizes stream → StreamKeeps sizes stream stream
kept sizes stream h = record { payload = refl; kind = refl; writer = refl; reader = refl; placed = h }

pub kept_on : (sizes : List ℕ) (a b c : Stream) → StreamKeeps sizes a b → StreamKeeps sizes b c → StreamKeeps sizes a c
kept_on sizes a b c h k = record {
  payload = k.payload ∙ h.payload;
  kind = k.kind ∙ h.kind;
  writer = k.writer ∙ h.writer;
  reader = k.reader ∙ h.reader;
  placed = k.placed;
}

-- the operation of an end lies in memory
pub end_placed : (side : Side) (sizes : List ℕ) (stream : Stream) → StreamIsPlaced sizes stream → OperationIsPlaced sizes stream.payload (end_of side stream).operation
end_placed Writing sizes stream h = h.writer
end_placed Reading sizes stream h = h.reader

-- another end of the same owner
pub with_end-keeps : (side : Side) (sizes : List ℕ) (stream : Stream) (e : End) → StreamIsPlaced sizes stream → e.owner ≡ (end_of side stream).owner → OperationIsPlaced sizes stream.payload e.operation → StreamKeeps sizes stream (with_end side stream e)
with_end-keeps Writing sizes stream e h o p = record { payload = refl; kind = refl; writer = o; reader = refl; placed = record { writer = p; reader = h.reader } }
with_end-keeps Reading sizes stream e h o p = record { payload = refl; kind = refl; writer = refl; reader = o; placed = record { writer = h.writer; reader = p } }

pub with_operation-keeps : (side : Side) (sizes : List ℕ) (stream : Stream) (operation : Operation) → StreamIsPlaced sizes stream → IsPlaced sizes stream.payload operation → StreamKeeps sizes stream (with_operation side stream operation)
with_operation-keeps side sizes stream operation h p =
    with_end-keeps side sizes stream (record (end_of side stream) { operation = Some operation }) h refl p

-- an operation of which n items more were moved
pub IsPlaced-advanced : (sizes : List ℕ) (payload : Payload) (operation : Operation) (n : ℕ) → n ≤ operation.left → IsPlaced sizes payload operation → IsPlaced sizes payload (advanced payload operation n)
IsPlaced-advanced sizes payload operation n h p = record {
  there = p.there;
  inside = not_out-rest _ (item_type payload) operation.address operation.left n h p.inside;
  counted = omega (arith, p.counted);
}

-- of two operations, one of each side, the read is mine or theirs
pub read_of-placed : (side : Side) (sizes : List ℕ) (payload : Payload) (mine theirs : Operation) → IsPlaced sizes payload mine → IsPlaced sizes payload theirs → IsPlaced sizes payload (read_of side mine theirs)
read_of-placed Writing sizes payload mine theirs p q = q
read_of-placed Reading sizes payload mine theirs p q = p
