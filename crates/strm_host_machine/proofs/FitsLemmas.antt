-- The host ends that a store needs stay there, with the kinds and payloads of their streams.
use Rattle.std.proofs.Common.{◌≡◌, ℕ, zero, suc, ◌<◌, ◌+◌, ◌≤◌, false, sym, ◌∙◌, arith}
use Rattle.strm_buffers.specs.Tells.{Tells}
use Rattle.strm_machine.specs.State.{State, no_stream, stream_at, is_host}
use Rattle.strm_machine.specs.Sides.{end_of}
use Rattle.strm_machine.specs.Hosting.{duty_of}
use Rattle.strm_machine.specs.Reactions.{with_stream_at}
use Rattle.strm_machine.specs.declared.streams.Duty.TheVariants.{Serves}
use Rattle.strm_machine.specs.declared.streams.Owner.TheVariants.{Host}
use Rattle.strm_machine.specs.declared.streams.Side.{Side}
use Rattle.strm_machine.specs.declared.streams.Side.TheVariants.{Writing, Reading}
use Rattle.strm_machine.specs.declared.streams.Stream.{Stream}
use Rattle.strm_host_machine.specs.Does.{Logs, world_of, Fits}
use Rattle.strm_host_machine.proofs.DriveLemmas.{AreAlone}
use Rattle.strm_machine.proofs.HostLemmas.{unless_host}
use Rattle.strm_machine.proofs.TableLemmas.{set-keeps}

-- a stream of the kind and payload of another
pub record KeepsKind (old new : Stream) : Type 0 where
  pub kind : new.kind ≡ old.kind
  pub payload : new.payload ≡ old.payload

pub Fits-stream : (state : State) (tells : Tells) (s : ℕ) (stream : Stream) → KeepsKind (stream_at state s) stream → Fits state tells → Fits (with_stream_at state s stream) tells
Fits-stream state tells s stream k fits = record {
  writers = λ n t d.
      let f = fits.writers n t d in
      record { there = f.there; kind = f.kind ∙ same_kind t; payload = f.payload ∙ same_payload t };
  readers = λ r t d.
      let f = fits.readers r t d in
      record { there = f.there; kind = f.kind ∙ same_kind t; payload = f.payload ∙ same_payload t };
}
  where
    same_kind : (t : ℕ) → (stream_at state t).kind ≡ (stream_at (with_stream_at state s stream) t).kind
    same_kind t = sym (set-keeps (λ (x : Stream). x.kind) state.streams s t stream no_stream k.kind)

    same_payload : (t : ℕ) → (stream_at state t).payload ≡ (stream_at (with_stream_at state s stream) t).payload
    same_payload t = sym (set-keeps (λ (x : Stream). x.payload) state.streams s t stream no_stream k.payload)

-- STREAMS THAT NO HOST END SERVES

-- a host end serves the stream that it has an end of
abbrev pub AllServe : State → Type 0
AllServe state = (side : Side) (n t : ℕ) → (end_of side (stream_at state t)).owner ≡ Host n → duty_of side state n ≡ Serves t

-- a stream between two of those that are served is alone
pub are_alone : (state : State) (tells : Tells) (logs : Logs) (s m : ℕ) → AllServe state
    → ((side : Side) (n t : ℕ) → duty_of side state n ≡ Serves t → s ≤ t → t < s + m → ⊥) → AreAlone (world_of state tells logs) s m
are_alone state tells logs s zero serves none = tt
are_alone state tells logs s (suc m) serves none = (
  record { writer = unless_served Writing; reader = unless_served Reading },
  are_alone state tells logs (s + 1) m serves (λ side n t d l k. none side n t d (omega (arith, l)) (omega (arith, k))),
)
  where
    unless_served : (side : Side) → is_host (end_of side (stream_at state s)).owner ≡ false
    unless_served side = unless_host (end_of side (stream_at state s)).owner (λ n e. none side n s (serves side n s e) (omega arith) (omega arith))
