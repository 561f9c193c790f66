-- What becomes of streams where a guest ends, in words that name no step: what its own ends become, what stays, and
-- what is told of that to whoever has the other end. Ours.
use Rattle.std.specs.Prelude.{◌≡◌, ◌≢◌, ℕ, true, Option, None}
use Rattle.std.specs.Option.{option_map}
use Rattle.strm_codes.specs.declared.codes.ReturnCode.{ReturnCode}
use Rattle.strm_events.specs.Reports.{report_of}
use Rattle.strm_machine.specs.Endings.{pending_of}
use Rattle.strm_machine.specs.Sides.{opposite, end_of}
use Rattle.strm_machine.specs.declared.streams.End.{End}
use Rattle.strm_machine.specs.declared.streams.Owner.TheVariants.{Held, Gone}
use Rattle.strm_machine.specs.declared.streams.Side.{Side}
use Rattle.strm_machine.specs.declared.streams.Stream.{Stream}

-- nobody has the end any more, and it has no operation
pub record IsGoneEnd (end : End) : Type 0 where
  pub owner : end.owner ≡ Gone
  pub operation : end.operation ≡ None

-- the guest has not the end
abbrev pub IsOfOther : ℕ → End → Type 0
IsOfOther guest end = (handle : ℕ) → end.owner ≢ Held guest handle

-- a stream after a guest ended: the ends that it had are gone, those of others are as they were, and so is what the
-- stream is and what was received on it
pub record LosesEnds (guest : ℕ) (old new : Stream) : Type 0 where
  pub mine : (side : Side) (handle : ℕ) → (end_of side old).owner ≡ Held guest handle → IsGoneEnd (end_of side new)
  pub others : (side : Side) → IsOfOther guest (end_of side old) → end_of side new ≡ end_of side old
  pub kind : new.kind ≡ old.kind
  pub payload : new.payload ≡ old.payload
  pub passed : new.passed ≡ old.passed
  pub received : new.received ≡ old.received

-- the guest has the other end, and not this one
pub record IsPeer (guest : ℕ) (side : Side) (stream : Stream) : Type 0 where
  pub other : IsOfOther guest (end_of side stream)
  pub handle : ℕ
  pub theirs : (end_of (opposite side) stream).owner ≡ Held guest handle

-- what an end is to be told once the other one is gone
abbrev pub report_alone : Side → Stream → Option ReturnCode
report_alone side stream =
    report_of stream.kind (option_map pending_of (end_of side stream).operation) true
    (end_of side stream).told stream.passed
