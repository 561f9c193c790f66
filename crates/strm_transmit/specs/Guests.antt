-- A store among guests alone: no host end has an end of a stream, and no step names one. Ours: wasmtime's
-- host ends are readers and writers of the embedder's own.
use Rattle.std.specs.Prelude.{◌≡◌, ℕ, Bool, true, false, List, [], slice_index_or, Some}
use Rattle.strm_buffers.specs.Tells.{Tells}
use Rattle.strm_machine.specs.State.{State, is_host, no_stream}
use Rattle.strm_machine.specs.Sides.{end_of}
use Rattle.strm_machine.specs.Soundness.{IsSound}
use Rattle.strm_machine.specs.declared.streams.End.{End}
use Rattle.strm_machine.specs.declared.streams.Operation.{Operation}
use Rattle.strm_machine.specs.declared.streams.Owner.TheVariants.{Held}
use Rattle.strm_machine.specs.declared.streams.Side.{Side}
use Rattle.strm_machine.specs.declared.streams.Stream.{Stream}
use Rattle.strm_machine.specs.declared.acts.Act.{Act}
use Rattle.strm_machine.specs.declared.acts.Act.TheVariants.{OnHost, Drive}

-- what a step does is done among guests: it names no host end, and is no drive round
abbrev pub is_of_guests : Act → Bool
is_of_guests (OnHost n act) = false
is_of_guests Drive = false
is_of_guests _ = true

-- no host end is there to tell anything
abbrev pub nobody : Tells
nobody = record { writers = []; readers = [] }

-- no host end has an end of one of these
abbrev pub AreUnhosted : List Stream → Type 0
AreUnhosted streams = (s : ℕ) (side : Side) → is_host (end_of side (slice_index_or streams s no_stream)).owner ≡ false

-- no host end has an end of a stream of this state, which is sound
pub record Unhosted (state : State) : Type 0 where
  pub sound : IsSound state
  pub none : AreUnhosted state.streams

-- an operation of an end is of the guest that has the end
abbrev pub IsOfOwner : End → Type 0
IsOfOwner end = (operation : Operation) → end.operation ≡ Some operation →
    (handle : ℕ) × (end.owner ≡ Held operation.guest handle)

-- the same of each end of these streams
abbrev pub AreOfOwners : List Stream → Type 0
AreOfOwners streams = (s : ℕ) (side : Side) → IsOfOwner (end_of side (slice_index_or streams s no_stream))
