-- What the turn of a host end does to its stream.
use Rattle.std.proofs.Common.{◌≡◌, ℕ, ◌+◌, ◌^◌, ◌<◌, ◌≤◌, ◌==◌, Bool, true, false, cond, List, Option, Some, None, refl, sym, ap, subst, ◌∙◌, arith}
use Rattle.std.proofs.lemmas.Bool.{eqb-true}
use Rattle.strm_codes.specs.declared.codes.StreamResult.{StreamResult}
use Rattle.strm_codes.specs.declared.codes.StreamResult.TheVariants as results
use Rattle.strm_machine.specs.Sides.{opposite, end_of, with_operation}
use Rattle.strm_machine.specs.Operating.{with_received}
use Rattle.strm_machine.specs.Soundness.{IsPlaced, OperationIsPlaced, StreamIsPlaced}
use Rattle.strm_machine.specs.declared.streams.End.{End}
use Rattle.strm_machine.specs.declared.streams.Operation.{Operation}
use Rattle.strm_machine.specs.declared.streams.Owner.TheVariants.{Gone}
use Rattle.strm_machine.specs.declared.streams.Side.{Side}
use Rattle.strm_machine.specs.declared.streams.Side.TheVariants.{Writing, Reading}
use Rattle.strm_machine.specs.declared.streams.Stream.{Stream}
use Rattle.strm_host_machine.specs.Settling.{went, operation_settled, let_go, moved_on}
use Rattle.strm_host_machine.proofs.SettleLemmas.{is_done_with}
use Rattle.strm_host_machine.proofs.LoweredLemmas.{went-placed, operation_settled-placed}

-- what becomes of a stream of which the operation on a side moves n items, and is settled so, if it is
pub record Moves (side : Side) (old new : Stream) (operation : Operation) (n : ℕ) (result : Option StreamResult) : Type 0 where
  pub theirs : end_of (opposite side) new ≡ record (end_of (opposite side) old) { owner = cond (is_done_with result) Gone (end_of (opposite side) old).owner }
  pub mine : end_of side new ≡ record (end_of side old) { operation = Some (operation_settled result (went old.payload operation n)) }
  pub kind : new.kind ≡ old.kind
  pub payload : new.payload ≡ old.payload
  pub count : new.received ≡ cond (n == 0) old.received (with_received old n).received
  pub passed : new.passed ≡ cond (n == 0) old.passed (with_received old n).passed

module _ (stream : Stream) (operation : Operation) (n : ℕ) where
  abbrev now : Side → Bool → Option StreamResult → Stream
  now side none result = let_go (opposite side) result (with_operation side (cond none stream (with_received stream n)) (operation_settled result (went stream.payload operation n)))

  counted : (none : Bool) → (n == 0) ≡ none → cond none stream.received (with_received stream n).received ≡ cond (n == 0) stream.received (with_received stream n).received
  counted none e = ap (λ b. cond b stream.received (with_received stream n).received) (sym e)

  passes : (none : Bool) → (n == 0) ≡ none → cond none stream.passed (with_received stream n).passed ≡ cond (n == 0) stream.passed (with_received stream n).passed
  passes none e = ap (λ b. cond b stream.passed (with_received stream n).passed) (sym e)

  moves_by : (side : Side) (none : Bool) (result : Option StreamResult) → (n == 0) ≡ none → Moves side stream (now side none result) operation n result
  moves_by Writing true None e = record { theirs = refl; mine = refl; kind = refl; payload = refl; count = counted true e; passed = passes true e }
  moves_by Writing false None e = record { theirs = refl; mine = refl; kind = refl; payload = refl; count = counted false e; passed = passes false e }
  moves_by Writing true (Some results.Dropped) e = record { theirs = refl; mine = refl; kind = refl; payload = refl; count = counted true e; passed = passes true e }
  moves_by Writing false (Some results.Dropped) e = record { theirs = refl; mine = refl; kind = refl; payload = refl; count = counted false e; passed = passes false e }
  moves_by Writing true (Some _) e = record { theirs = refl; mine = refl; kind = refl; payload = refl; count = counted true e; passed = passes true e }
  moves_by Writing false (Some _) e = record { theirs = refl; mine = refl; kind = refl; payload = refl; count = counted false e; passed = passes false e }
  moves_by Reading true None e = record { theirs = refl; mine = refl; kind = refl; payload = refl; count = counted true e; passed = passes true e }
  moves_by Reading false None e = record { theirs = refl; mine = refl; kind = refl; payload = refl; count = counted false e; passed = passes false e }
  moves_by Reading true (Some results.Dropped) e = record { theirs = refl; mine = refl; kind = refl; payload = refl; count = counted true e; passed = passes true e }
  moves_by Reading false (Some results.Dropped) e = record { theirs = refl; mine = refl; kind = refl; payload = refl; count = counted false e; passed = passes false e }
  moves_by Reading true (Some _) e = record { theirs = refl; mine = refl; kind = refl; payload = refl; count = counted true e; passed = passes true e }
  moves_by Reading false (Some _) e = record { theirs = refl; mine = refl; kind = refl; payload = refl; count = counted false e; passed = passes false e }

  pub moved_on-moves : (side : Side) (result : Option StreamResult) → Moves side stream (moved_on side stream operation n result) operation n result
  unfolding moved_on
  moved_on-moves side result = moves_by side (n == 0) result refl

  -- who has the two ends then
  pub moved-theirs : (side : Side) (result : Option StreamResult) → (end_of (opposite side) (moved_on side stream operation n result)).owner ≡ cond (is_done_with result) Gone (end_of (opposite side) stream).owner
  moved-theirs side result = ap (λ (e : End). e.owner) (moved_on-moves side result).theirs

  pub moved-mine : (side : Side) (result : Option StreamResult) → (end_of side (moved_on side stream operation n result)).owner ≡ (end_of side stream).owner
  moved-mine side result = ap (λ (e : End). e.owner) (moved_on-moves side result).mine

pub moves-placed : (side : Side) (sizes : List ℕ) (old new : Stream) (operation : Operation) (n : ℕ) (result : Option StreamResult) → Moves side old new operation n result → n ≤ operation.left → IsPlaced sizes old.payload operation → StreamIsPlaced sizes old → StreamIsPlaced sizes new
moves-placed side sizes old new operation n result m l p h =
    let after = operation_settled-placed sizes old.payload (went old.payload operation n) result (went-placed sizes old.payload operation n l p) in
    by side m h after
  where
    -- of an end of the payload
    placed_as : (e : End) (x : End) → e ≡ x → new.payload ≡ old.payload → OperationIsPlaced sizes old.payload x.operation → OperationIsPlaced sizes new.payload e.operation
    placed_as e x same payload q = subst (λ (y : End). OperationIsPlaced sizes new.payload y.operation) (sym same) (subst (λ t. OperationIsPlaced sizes t x.operation) (sym payload) q)

    by : (side : Side) → Moves side old new operation n result → StreamIsPlaced sizes old → OperationIsPlaced sizes old.payload (Some (operation_settled result (went old.payload operation n))) → StreamIsPlaced sizes new
    by Writing m h q = record { writer = placed_as new.writer _ m.mine m.payload q; reader = placed_as new.reader _ m.theirs m.payload h.reader }
    by Reading m h q = record { writer = placed_as new.writer _ m.theirs m.payload h.writer; reader = placed_as new.reader _ m.mine m.payload q }

-- a turn counts what it hands over
pub moved_on-received : (side : Side) (stream : Stream) (operation : Operation) (n : ℕ) (result : Option StreamResult) → stream.received + n < 2 ^ 128 → (moved_on side stream operation n result).received ≡ stream.received + n
moved_on-received side stream operation n result l =
    (moved_on-moves stream operation n side result).count ∙ counted (n == 0) refl
  where
    counted : (b : Bool) → (n == 0) ≡ b → cond b stream.received (with_received stream n).received ≡ stream.received + n
    counted true e = omega (arith, eqb-true n 0 e)
    counted false e = omega (arith, l)
