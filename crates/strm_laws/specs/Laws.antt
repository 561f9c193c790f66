-- What holds of every run. Ours.
use Rattle.std.specs.Prelude.{◌≡◌, ℕ, ◌+◌, ◌*◌, ◌<◌, ◌≤◌, true, false, List, [], ◌∷◌, ◌++◌, length, All, is_some, is_ok, IsSome, Ok, Option, Some, None}
use Rattle.strm_codes.specs.Counts.{count_limit}
use Rattle.strm_codes.specs.Layout.{item_type}
use Rattle.strm_codes.specs.ItemTypes.{item_size}
use Rattle.strm_codes.specs.declared.codes.TransmitKind.{TransmitKind}
use Rattle.strm_codes.specs.declared.payloads.Payload.{Payload}
use Rattle.strm_waitable_sets.specs.Sets.{is_set_there, is_member}
use Rattle.strm_error_contexts.specs.Contexts.{context_count_at}
use Rattle.strm_error_contexts.specs.Contexts as contexts
use Rattle.strm_machine.specs.State.{State, sets_in, stream_at, is_held}
use Rattle.strm_machine.specs.WaitableSets.{set_named}
use Rattle.strm_machine.specs.ErrorContexts.{all_handles_to, context_named, message_named}
use Rattle.strm_machine.specs.Soundness.{IsMessage}
use Rattle.strm_machine.specs.Sides.{end_of}
use Rattle.strm_machine.specs.Tests.{end_named}
use Rattle.strm_machine.specs.declared.streams.Owner.TheVariants.{Held}
use Rattle.strm_machine.specs.declared.streams.Side.{Side}
use Rattle.strm_machine.specs.declared.streams.Side.TheVariants.{Writing, Reading}
use Rattle.strm_machine.specs.declared.streams.Operation.{Operation}
use Rattle.strm_machine.specs.declared.streams.Stream.{Stream}
use Rattle.strm_machine.specs.declared.steps.Step.{Step}
use Rattle.strm_machine.specs.Acts.{act_of}
use Rattle.strm_machine.specs.Moments.{PutsBytes, Moment, Call, k_of, moved_of, received, is_end}
use Rattle.strm_laws.specs.Conservation.{calls, writes, reads, got, all_handed, all_reported}

-- what a step puts into a memory is bytes
abbrev pub StepHasBytes : Step → Type 0
StepHasBytes step = PutsBytes (act_of step)

-- steps that a run can be made of
pub record AreSteps (run : List Step) : Type 0 where
  pub few : length run ≤ 4294967295
  pub bytes : All StepHasBytes run

-- k of all these calls together
abbrev pub total_of_calls : TransmitKind → ℕ → List Call → ℕ
total_of_calls kind moved [] = 0
total_of_calls kind moved (c ∷ cs) = k_of kind moved c.report + total_of_calls kind moved cs

-- what waits at this end of stream s
abbrev pub waiting : ℕ → Side → State → Option Operation
waiting s side state = (end_of side (stream_at state s)).operation

-- and what it has moved
abbrev pub moved_at : ℕ → Side → State → ℕ
moved_at s side state = moved_of (waiting s side state)

-- a call reports or has moved no more than it asked for
abbrev pub IsWithinAsked : TransmitKind → ℕ → Call → Type 0
IsWithinAsked kind moved c = k_of kind moved c.report ≤ c.asked

-- on stream s, what was received is what the writes handed over, item by item. It is as many items
-- as the writes report, or have moved so far, and as the reads do, none of them more than it asked
-- for. All that was told to an end adds up to the same, so each report counts once; as many were
-- counted, and each is an item
pub record Conserves (s : ℕ) (all : List Moment) (end : State) : Type 0 where
  pub items :
      got s all ≡ all_handed (stream_at end s).kind s all (moved_at s Writing end) 0 (writes s all)
  pub written :
      length (got s all) ≡ total_of_calls (stream_at end s).kind (moved_at s Writing end) (writes s all)
  pub read :
      length (got s all) ≡ total_of_calls (stream_at end s).kind (moved_at s Reading end) (reads s all)
  pub asked : (side : Side) →
      All (IsWithinAsked (stream_at end s).kind (moved_at s side end)) (calls s side all)
  pub told : (side : Side) →
      all_reported (stream_at end s).kind s side all + moved_at s side end ≡ length (got s all)
  pub count : length (got s all) ≡ received s end
  pub whole : All IsSome (got s all)

-- each of these calls has its report
abbrev pub AreReported : List Call → Type 0
AreReported [] = Unit {0}
AreReported (c ∷ cs) = (is_some c.report ≡ true) × AreReported cs

-- an operation is that of the last of these calls, which alone has no report: its place is behind
-- the items that it moved, and with those that it has left they are what the call asked for
pub record CarriesLastCall (payload : Payload) (operation : Operation) (cs : List Call) : Type 0 where
  pub earlier : List Call
  pub last : Call
  pub split : cs ≡ earlier ++ last ∷ []
  pub reported : AreReported earlier
  pub unreported : last.report ≡ None
  pub guest : operation.guest ≡ last.guest
  pub address : operation.address ≡ last.address + item_size (item_type payload) * operation.moved
  pub asked : operation.moved + operation.left ≡ last.asked

-- where an end has no operation, all its calls have their report
abbrev pub Stands : Payload → Option Operation → List Call → Type 0
Stands payload None cs = AreReported cs
Stands payload (Some operation) cs = CarriesLastCall payload operation cs

-- the items of an operation, those that it moved and those that it has left, are a count
abbrev pub IsCounted : Option Operation → Type 0
IsCounted None = Unit {0}
IsCounted (Some operation) = operation.moved + operation.left < count_limit

-- the same of both ends of a stream
abbrev pub AreCounted : Stream → Type 0
AreCounted stream = IsCounted stream.writer.operation × IsCounted stream.reader.operation

-- handles and ends agree: an end that a handle of a guest names is held by that guest under that
-- handle, and an end that is held is named by the handle that it is held under
pub record HandlesHold (state : State) : Type 0 where
  pub named : (g handle s : ℕ) (side : Side) →
      is_end s side (end_named state g handle) ≡ true →
      (end_of side (stream_at state s)).owner ≡ Held g handle
  pub held : (g handle s : ℕ) (side : Side) →
      (end_of side (stream_at state s)).owner ≡ Held g handle →
      is_end s side (end_named state g handle) ≡ true

-- two handles that name one end are the same handle of the same guest, and an end that no guest has,
-- one that is loose or gone, is named by none
pub record HandlesAreSingle (state : State) : Type 0 where
  pub single : (s : ℕ) (side : Side) (g handle k other : ℕ) →
      is_end s side (end_named state g handle) ≡ true →
      is_end s side (end_named state k other) ≡ true →
      (g ≡ k) × (handle ≡ other)
  pub unheld : (s : ℕ) (side : Side) (g handle : ℕ) →
      is_held (end_of side (stream_at state s)).owner ≡ false →
      is_end s side (end_named state g handle) ≡ false

-- a member of a guest's set is a live handle of an end, and its set is there. Each handle of a set names
-- one that is there, and each set that is there has one handle
pub record MembersAreLive (state : State) : Type 0 where
  pub live : (g number handle : ℕ) →
      is_member (sets_in state.guests g) number handle ≡ true →
      is_ok (end_named state g handle) ≡ true
  pub kept : (g number handle : ℕ) →
      is_member (sets_in state.guests g) number handle ≡ true →
      is_set_there (sets_in state.guests g) number ≡ true
  pub there : (g set number : ℕ) →
      set_named state g set ≡ Ok number → is_set_there (sets_in state.guests g) number ≡ true
  pub named : (g number : ℕ) →
      is_set_there (sets_in state.guests g) number ≡ true → (set : ℕ) × (set_named state g set ≡ Ok number)
  pub single : (g number set other : ℕ) →
      set_named state g set ≡ Ok number → set_named state g other ≡ Ok number → set ≡ other

-- each error context counts the handles to it in all tables together. One that is there has some, and
-- one that is not has none; what a handle names is there, and keeps a message
pub record ContextsCount (state : State) : Type 0 where
  pub counted : (number : ℕ) →
      context_count_at state.contexts number ≡ all_handles_to number state.guests
  pub some : (number : ℕ) →
      contexts.is_context_there state.contexts number ≡ true → 0 < all_handles_to number state.guests
  pub none : (number : ℕ) →
      contexts.is_context_there state.contexts number ≡ false → all_handles_to number state.guests ≡ 0
  pub named : (g handle number : ℕ) →
      context_named state g handle ≡ Ok number → contexts.is_context_there state.contexts number ≡ true
  pub message : (g handle : ℕ) → IsMessage (message_named state g handle)
