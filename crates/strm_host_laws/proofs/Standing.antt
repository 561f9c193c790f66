-- Every state of a run with host ends is sound; handles and ends agree in it, and so do host ends and streams;
-- and a read end that is loose has no operation.
use Rattle.std.proofs.Common.{◌≡◌, ℕ, ◌<◌, true, false, List, [], ◌∷◌, length, Some, None, refl, sym, ap, subst, ◌∙◌}
use Rattle.std.proofs.lemmas.List.{get_or-set_same}
use Rattle.strm_machine.specs.State.{State, empty, no_stream, stream_at, is_host, is_gone}
use Rattle.strm_machine.specs.Hosting.{HostsHold}
use Rattle.strm_machine.specs.Sides.{opposite, end_of, with_operation}
use Rattle.strm_machine.specs.Tests.{named, stream_named, items_asked, has_ended}
use Rattle.strm_machine.specs.Meetings.{begun}
use Rattle.strm_machine.specs.Refusals.{refusal}
use Rattle.strm_machine.specs.Words.{kind_of}
use Rattle.strm_machine.specs.Reactions.{reaction}
use Rattle.strm_machine.specs.Soundness.{IsSound, IsPlaced, OperationIsPlaced, sizes_of}
use Rattle.strm_machine.specs.declared.acts.Act.TheVariants.{OnEnd}
use Rattle.strm_machine.specs.declared.acts.EndAct.TheVariants.{Operate}
use Rattle.strm_machine.specs.declared.acts.NamedEnd.{NamedEnd}
use Rattle.strm_machine.specs.declared.limits.Limits.{Limits}
use Rattle.strm_machine.specs.declared.steps.Step.{Step}
use Rattle.strm_machine.specs.declared.replies.Reply.{Reply}
use Rattle.strm_machine.specs.declared.streams.Owner.TheVariants.{Host}
use Rattle.strm_machine.specs.declared.streams.Operation.{Operation}
use Rattle.strm_machine.specs.declared.streams.Side.{Side}
use Rattle.strm_machine.specs.declared.streams.Side.TheVariants.{Writing, Reading}
use Rattle.strm_machine.specs.declared.streams.Stream.{Stream}
use Rattle.strm_machine.proofs.EmptyLemmas.{HostsHold-empty, IsSound-empty, StateIsHeld-empty}
use Rattle.strm_machine.proofs.HostLemmas.{unless_host}
use Rattle.strm_machine.proofs.ShapeLemmas.{operate-fits}
use Rattle.strm_machine.proofs.NamedEndLemmas.{IsFound}
use Rattle.strm_machine.proofs.ReactionLemmas.{refusal-on_end}
use Rattle.strm_machine.proofs.SoundLemmas.{placed_at}
use Rattle.strm_machine.proofs.TableLemmas.{set-keeps}
use Rattle.strm_buffers.specs.Tells.{Tells}
use Rattle.strm_host_machine.specs.World.{World}
use Rattle.strm_host_machine.specs.Does.{start_world}
use Rattle.strm_host_machine.specs.Attaching.{forsaken}
use Rattle.strm_host_laws.specs.HostMoments.{Part, HostMoment, first_moments, end_world}
use Rattle.strm_host_laws.proofs.Chains.{Follows, Chain, first-chain}
use Rattle.strm_host_laws.proofs.Effects.{opened_by, Driven, Calls, Effect, ByReaction, ByRest, ByHosting, ByPiping, ByDriving, ByPassing, ByCalling, ByForsaking}
use Rattle.strm_host_laws.proofs.PartEffects.{host_made, follows_effect}
use Rattle.strm_host_laws.proofs.TurnsStand.{Holds, Holds-reaction, nothing_kept, Holds-turned, turned_made, Holds-opened, end_op, Holds-told, Holds-hosted}
use Rattle.strm_host_laws.proofs.PipesStand.{forsaken-leaves, KeepsNone, Holds-left, Holds-piped, Holds-passing}

-- ## Every part

-- nothing is kept of a host writer whose stream has an end that is gone
left_empty : (state : State) (s : ℕ) (side : Side) → HostsHold state → is_gone (end_of side (stream_at state s)).owner ≡ true → KeepsNone state s
left_empty state s Writing h g m e = let wrong : is_gone (Host m) ≡ true = ap is_gone (sym e) ∙ g in cc
left_empty state s Reading h g m e =
    nothing_kept state s m h e
    (unless_host (stream_at state s).reader.owner (λ r f. let wrong : is_gone (Host r) ≡ true = ap is_gone (sym f) ∙ g in cc))

-- what a read or write asks for, where nothing refuses it, lies in memory, and its stream was made
pub record Begun (side : Side) (state : State) (end : NamedEnd) (address count : ℕ) : Type 0 where
  pub found : IsFound state (OnEnd side end (Operate address count)) end.guest end.handle (stream_named (named state end)) side
  pub idle : (end_of side (stream_at state (stream_named (named state end)))).operation ≡ None
  pub unended : has_ended side (kind_of end.ty) (stream_at state (stream_named (named state end))) ≡ false
  pub kind : (stream_at state (stream_named (named state end))).kind ≡ kind_of end.ty
  pub placed : IsPlaced (sizes_of state.guests) (stream_at state (stream_named (named state end))).payload (begun end.guest address (items_asked end.ty count))

pub call_begun : (side : Side) (state : State) (end : NamedEnd) (address count : ℕ) → IsSound state → refusal state (OnEnd side end (Operate address count)) ≡ None → Begun side state end address count
call_begun side state end address count h r =
    let o = operate-fits state side end address count h (sym (refusal-on_end state side end (Operate address count)) ∙ r) in
    record { found = o.found; idle = o.idle; unended = o.unended; kind = o.kind; placed = o.placed }

pub waiting_placed : (side : Side) (state : State) (s : ℕ) (operation : Operation) → s < length state.streams → (end_of side (stream_at state s)).operation ≡ Some operation → IsSound state → IsPlaced (sizes_of state.guests) (stream_at state s).payload operation
waiting_placed side state s operation l e h = subst (OperationIsPlaced (sizes_of state.guests) (stream_at state s).payload) e (end_op side (sizes_of state.guests) (stream_at state s) (placed_at state s l h))

-- the stream of an operation that was opened
opened_keeps : {A : Type 0} (f : Stream → A) (side : Side) (state : State) (s : ℕ) (operation : Operation) → f (with_operation side (stream_at state s) operation) ≡ f (stream_at state s) → f (stream_at (opened_by side state s operation) s) ≡ f (stream_at state s)
opened_keeps f side state s operation e = set-keeps f state.streams s s (with_operation side (stream_at state s) operation) no_stream e

pub opened_payload : (side : Side) (state : State) (s : ℕ) (operation : Operation) → (stream_at (opened_by side state s operation) s).payload ≡ (stream_at state s).payload
opened_payload Writing state s operation = opened_keeps (λ x. x.payload) Writing state s operation refl
opened_payload Reading state s operation = opened_keeps (λ x. x.payload) Reading state s operation refl

pub opened_owner : (side : Side) (state : State) (s : ℕ) (operation : Operation) → (end_of (opposite side) (stream_at (opened_by side state s operation) s)).owner ≡ (end_of (opposite side) (stream_at state s)).owner
opened_owner Writing state s operation = opened_keeps (λ x. x.reader.owner) Writing state s operation refl
opened_owner Reading state s operation = opened_keeps (λ x. x.writer.owner) Reading state s operation refl

pub opened_operation : (side : Side) (state : State) (s : ℕ) (operation : Operation) → s < length state.streams → (end_of side (stream_at (opened_by side state s operation) s)).operation ≡ Some operation
opened_operation side state s operation l =
    ap (λ (x : Stream). (end_of side x).operation) (get_or-set_same state.streams s (with_operation side (stream_at state s) operation) no_stream l) ∙ by side
  where
    by : (side : Side) → (end_of side (with_operation side (stream_at state s) operation)).operation ≡ Some operation
    by Writing = refl
    by Reading = refl

module _ (old new : State) (reply : Reply) (h : Holds old) where
  Holds-driven : (side : Side) (s : ℕ) → Driven side old new s → Holds new
  Holds-driven side s d =
      let made = host_made old s (opposite side) (ap is_host d.owner) in
      Holds-turned side old new s d.host d.operation h d.owner d.waits d.turned (waiting_placed side old s d.operation made d.waits h.sound)

  Holds-call : (side : Side) (end : NamedEnd) (address count : ℕ) → Calls side old end address count reply new → Holds new
  Holds-call side end address count r =
      let s = stream_named (named old end) in
      let operation = begun end.guest address (items_asked end.ty count) in
      let opened = opened_by side old s operation in
      let b = call_begun side old end address count h.sound r.unrefused in
      let first = Holds-opened side old s end.guest end.handle operation b.found.made (h.held.agree.named end.guest end.handle s side b.found.held) b.placed h in
      let owned : (end_of (opposite side) (stream_at opened s)).owner ≡ Host r.host = opened_owner side old s operation ∙ r.owner in
      let placed : IsPlaced (sizes_of old.guests) (stream_at opened s).payload operation = subst (λ p. IsPlaced (sizes_of old.guests) p operation) (sym (opened_payload side old s operation)) b.placed in
      let second = Holds-turned side opened r.mid s r.host operation first owned (opened_operation side old s operation b.found.made) r.turned placed in
      subst Holds (sym r.is) (Holds-told side r.mid s (turned_made side opened r.mid s r.host operation owned r.turned) second)

  pub Holds-effect : (part : Part) → Effect old part reply new → Holds new
  Holds-effect part (ByReaction act p i r e) = subst Holds (sym e) (Holds-reaction old act h)
  Holds-effect part (ByRest i e) = subst Holds (sym e) h
  Holds-effect part (ByHosting n p x) = Holds-hosted old new n reply x h
  Holds-effect part (ByPiping s r p x) = Holds-piped old s r h x.known x.unused x.loose x.made new x.ends
  Holds-effect part (ByDriving side s p e d) = Holds-driven side s d
  Holds-effect part (ByPassing s p e x) = Holds-passing old new s x h
  Holds-effect part (ByCalling side end address count p r) = Holds-call side end address count r
  Holds-effect part (ByForsaking act p f) =
      let state = (reaction old act).state in
      subst Holds (sym f.is) (Holds-left (opposite f.side) state f.stream f.host (forsaken f.side (stream_at state f.stream)) f.owner (forsaken-leaves f.side (stream_at state f.stream)) (left_empty state f.stream f.side (Holds-reaction old act h).hosts f.gone) (Holds-reaction old act h))

-- ## Runs

pub Holds-next : (world : World) (m : HostMoment) → Follows world m → Holds world.state → Holds m.after.state
Holds-next world m f h = Holds-effect world.state m.after.state m.reply h m.part (follows_effect world m h.hosts f)

pub Holds-chain : (world : World) (all : List HostMoment) → Chain world all → Holds world.state → Holds (end_world world all).state
Holds-chain world [] c h = h
Holds-chain world (m ∷ more) c h = Holds-chain m.after more c.1 (Holds-next world m c.0 h)

pub Holds-empty : (tag : ℕ) (limits : Limits) → Holds (empty tag limits)
Holds-empty tag limits = record {
  sound = IsSound-empty tag limits;
  held = StateIsHeld-empty tag limits;
  hosts = HostsHold-empty tag limits;
  loose = λ s e. cc;
}

-- after whichever steps of a run from an unused store among whichever host ends
pub run-holds : (tag : ℕ) (limits : Limits) (old new : Tells) (run : List Step) (count : ℕ) → Holds (end_world (start_world tag limits old new) (first_moments count (start_world tag limits old new) run)).state
run-holds tag limits old new run count =
    let first = start_world tag limits old new in
    Holds-chain first (first_moments count first run) (first-chain count first run) (Holds-empty tag limits)
