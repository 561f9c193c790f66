-- How many items a part of a run with host ends may bring to a stream, and that its kind stays.
use Rattle.std.proofs.Common.{◌≡◌, ◌≢◌, ℕ, ◌+◌, ◌^◌, ◌<◌, ◌≤◌, ◌==◌, Bool, true, false, cond, List, [], ◌∷◌, length, get_or, set, refl, sym, ap, ◌∙◌, inl, inr, arith}
use Rattle.std.proofs.lemmas.Bool.{eqb-true}
use Rattle.std.proofs.lemmas.List.{get_or-set_same, get_or-set_other, get_or_append_left}
use Rattle.strm_codes.specs.declared.payloads.Payload.{Payload}
use Rattle.strm_machine.specs.Meetings.{begun}
use Rattle.strm_machine.specs.Moments.{received}
use Rattle.strm_machine.specs.Endings.{delivered}
use Rattle.strm_machine.specs.Reactions.{told, reaction}
use Rattle.strm_machine.specs.Sides.{opposite, with_operation}
use Rattle.strm_machine.specs.Soundness.{IsPlaced, sizes_of}
use Rattle.strm_machine.specs.State.{State, no_stream, stream_at, is_host}
use Rattle.strm_machine.specs.Tests.{named, stream_named, items_asked}
use Rattle.strm_machine.specs.Operating.{with_received}
use Rattle.strm_machine.specs.declared.acts.NamedEnd.{NamedEnd}
use Rattle.strm_machine.specs.declared.replies.Reply.{Reply}
use Rattle.strm_machine.specs.declared.streams.Owner.TheVariants.{Host}
use Rattle.strm_machine.specs.declared.streams.Operation.{Operation}
use Rattle.strm_machine.specs.declared.streams.Side.{Side}
use Rattle.strm_machine.specs.declared.streams.Side.TheVariants.{Writing, Reading}
use Rattle.strm_machine.specs.declared.streams.Stream.{Stream}
use Rattle.strm_machine.proofs.StreamSteps.{most_of, set_most, reaction_streams}
use Rattle.strm_host_machine.specs.Attaching.{piped, without_ends, forsaken}
use Rattle.strm_host_laws.specs.HostMoments.{Part, Turns}
use Rattle.strm_machine.proofs.TableLemmas.{set-keeps, at_push}
use Rattle.strm_host_laws.proofs.HostTurns.{Turned, turned_stream}
use Rattle.strm_host_laws.proofs.Effects.{opened_by, Driven, Calls, piped_streams, Pipes, forsaken_by, Effect, ByReaction, ByRest, ByHosting, ByPiping, ByDriving, ByPassing, ByCalling, ByForsaking, Passes}
use Rattle.strm_host_laws.proofs.PartEffects.{passing_keeps, passing_other, host_made}
use Rattle.strm_host_laws.proofs.GoingRules.{some_received-kind}
use Rattle.strm_host_laws.proofs.TurnsStand.{Holds}
use Rattle.strm_host_laws.proofs.Standing.{call_begun, waiting_placed}
use Rattle.strm_host_laws.proofs.TurnMoves.{moved_on-moves}

-- ## How many items a part may bring

-- what a turn brings
module _ (side : Side) (old new : State) (k n : ℕ) (operation : Operation) (t : Turned side old new k n operation) (small : operation.left < 2 ^ 28) where
  abbrev now : Stream
  now = turned_stream side old k operation t.count t.result

  now_count : now.received ≡ cond (t.count == 0) (stream_at old k).received (with_received (stream_at old k) t.count).received
  now_count = (moved_on-moves (stream_at old k) operation t.count side t.result).count

  few_now : now.received ≤ (stream_at old k).received + 2 ^ 28
  few_now = omega (arith, now_count, either (t.count == 0))
    where
      either : (b : Bool) → cond b (stream_at old k).received (with_received (stream_at old k) t.count).received ≤ (stream_at old k).received + 2 ^ 28
      either true = omega arith
      either false = most_of (stream_at old k).received t.count (omega (arith, t.few, small))

  turned_most : (s : ℕ) → received s new ≤ received s old + 2 ^ 28
  turned_most s =
      let is : received s new ≡ (get_or (set old.streams k now) s no_stream).received = ap (received s) t.is in
      omega (arith, is, set_most old.streams k s now few_now)

  turned_still : (s : ℕ) → s ≢ k → received s new ≡ received s old
  turned_still s ne = ap (received s) t.is ∙ ap (λ (x : Stream). x.received) (get_or-set_other old.streams k s now no_stream ne)

  -- exactly its items, where the count has room
  pub turned_count : (stream_at old k).received + 2 ^ 28 < 2 ^ 128 → k < length old.streams → received k new ≡ received k old + t.count
  turned_count room made =
      ap (received k) t.is
      ∙ ap (λ (x : Stream). x.received) (get_or-set_same old.streams k now no_stream made)
      ∙ now_count ∙ either (t.count == 0) refl
    where
      either : (b : Bool) → (t.count == 0) ≡ b → cond b (stream_at old k).received (with_received (stream_at old k) t.count).received ≡ (stream_at old k).received + t.count
      either true e = omega (arith, eqb-true t.count 0 e)
      either false e = omega (arith, room, t.few, small)

pub placed_small : (sizes : List ℕ) (payload : Payload) (o : Operation) → IsPlaced sizes payload o → o.left < 2 ^ 28
placed_small sizes payload o p = omega (arith, p.counted)

told_received : (side : Side) (stream : Stream) → (delivered side stream).received ≡ stream.received
unfolding delivered
told_received Writing stream = refl
told_received Reading stream = refl

pub told_count : (side : Side) (state : State) (k s : ℕ) → received s (told state k side) ≡ received s state
told_count side state k s = set-keeps (λ (x : Stream). x.received) state.streams k s (delivered side (stream_at state k)) no_stream (told_received side (stream_at state k))

opened_received : (side : Side) (stream : Stream) (operation : Operation) → (with_operation side stream operation).received ≡ stream.received
opened_received Writing stream operation = refl
opened_received Reading stream operation = refl

pub opened_count : (side : Side) (state : State) (k s : ℕ) (operation : Operation) → received s (opened_by side state k operation) ≡ received s state
opened_count side state k s operation = set-keeps (λ (x : Stream). x.received) state.streams k s (with_operation side (stream_at state k) operation) no_stream (opened_received side (stream_at state k) operation)

pub forsaken_count : (side : Side) (state : State) (k n s : ℕ) → received s (forsaken_by side state k n) ≡ received s state
forsaken_count Writing state k n s = set-keeps (λ (x : Stream). x.received) state.streams k s (forsaken Writing (stream_at state k)) no_stream refl
forsaken_count Reading state k n s = set-keeps (λ (x : Stream). x.received) state.streams k s (forsaken Reading (stream_at state k)) no_stream refl

pub piped_count : (old new : State) (k r s : ℕ) (reply : Reply) → Pipes old k r reply new → received s new ≡ received s old
piped_count old new k r s reply x =
    elim (piped_streams old new k r x.ends) [
      | inl e ↦ ap (λ xs. (get_or xs s no_stream).received) e ∙ set-keeps (λ (y : Stream). y.received) old.streams k s (piped (stream_at old k) r) no_stream refl
      | inr e ↦ ap (λ xs. (get_or xs s no_stream).received) e ∙ set-keeps (λ (y : Stream). y.received) old.streams k s (without_ends (piped (stream_at old k) r)) no_stream refl
    ]

-- no pipe from a host writer to a host reader
abbrev pub NoPipe : State → ℕ → Type 0
NoPipe state s = (n r : ℕ) → (stream_at state s).writer.owner ≡ Host n → (stream_at state s).reader.owner ≡ Host r → ⊥

module _ (old new : State) (reply : Reply) (h : Holds old) where
  pub driven_small : (side : Side) (k : ℕ) → (d : Driven side old new k) → d.operation.left < 2 ^ 28
  driven_small side k d =
      placed_small (sizes_of old.guests) (stream_at old k).payload d.operation
      (waiting_placed side old k d.operation (host_made old k (opposite side) (ap is_host d.owner)) d.waits h.sound)

  -- the round of a pipe brings none to another stream
  passing_still : (k s : ℕ) → Passes old new k → s ≢ k → received s new ≡ received s old
  passing_still k s x ne = ap (λ (y : Stream). y.received) (passing_other old new k x s ne)

  call_placed : (side : Side) (end : NamedEnd) (address count : ℕ) → Calls side old end address count reply new
      → IsPlaced (sizes_of old.guests) (stream_at old (stream_named (named old end))).payload (begun end.guest address (items_asked end.ty count))
  call_placed side end address count r = (call_begun side old end address count h.sound r.unrefused).placed

  pub effect_most : (part : Part) (s : ℕ) → NoPipe old s → Effect old part reply new → received s new ≤ received s old + 2 ^ 28
  effect_most part s off (ByReaction act p i r e) = omega (arith, ap (received s) e, (reaction_streams old act h.sound).most s)
  effect_most part s off (ByRest q e) = omega (arith, ap (received s) e)
  effect_most part s off (ByHosting n p x) =
      omega (arith, ap (received s) x.is, at_push old.streams x.stream no_stream s (λ y. y.received ≤ received s old + 2 ^ 28) (λ q. omega (arith, x.none)) (λ ne. omega arith))
  effect_most part s off (ByPiping k r p x) = omega (arith, piped_count old new k r s reply x)
  effect_most part s off (ByPassing k p done x) =
      omega (arith, passing_still k s x (λ q. off x.writer x.reader (ap (λ i. (stream_at old i).writer.owner) q ∙ x.wrote) (ap (λ i. (stream_at old i).reader.owner) q ∙ x.read)))
  effect_most part s off (ByDriving side k p done d) = turned_most side old new k d.host d.operation d.turned (driven_small side k d) s
  effect_most part s off (ByCalling side end address count p r) =
      let k = stream_named (named old end) in
      let operation = begun end.guest address (items_asked end.ty count) in
      let opened = opened_by side old k operation in
      let second = turned_most side opened r.mid k r.host operation r.turned (placed_small (sizes_of old.guests) (stream_at old k).payload operation (call_placed side end address count r)) s in
      omega (arith, opened_count side old k s operation, second, ap (received s) r.is, told_count side r.mid k s)
  effect_most part s off (ByForsaking act p f) =
      omega (arith, ap (received s) f.is, forsaken_count f.side (reaction old act).state f.stream f.host s, (reaction_streams old act h.sound).most s)

  -- the turn of another stream brings none
  pub effect_still : (k s : ℕ) → k ≢ s → Effect old (Turns k) reply new → received s new ≡ received s old
  effect_still k s ne (ByReaction act p i r e) = cc
  effect_still k s ne (ByRest q e) = ap (received s) e
  effect_still k s ne (ByHosting n p x) = cc
  effect_still k s ne (ByPiping t r p x) = cc
  effect_still k s ne (ByPassing j p done x) = let same : k ≡ j = cc in passing_still j s x (λ e. ne (same ∙ sym e))
  effect_still k s ne (ByDriving side j p done d) =
      let same : k ≡ j = cc in
      turned_still side old new j d.host d.operation d.turned (driven_small side j d) s (λ e. ne (same ∙ sym e))
  effect_still k s ne (ByCalling side end address count p r) = cc
  effect_still k s ne (ByForsaking act p f) = cc

-- ## What kind of stream it is

delivered_kind : (side : Side) (stream : Stream) → (delivered side stream).kind ≡ stream.kind
unfolding delivered
delivered_kind Writing stream = refl
delivered_kind Reading stream = refl

opened_kind : (side : Side) (stream : Stream) (operation : Operation) → (with_operation side stream operation).kind ≡ stream.kind
opened_kind Writing stream operation = refl
opened_kind Reading stream operation = refl

forsaken_kind : (side : Side) (state : State) (k n s : ℕ) → (stream_at (forsaken_by side state k n) s).kind ≡ (stream_at state s).kind
forsaken_kind Writing state k n s = set-keeps (λ (x : Stream). x.kind) state.streams k s (forsaken Writing (stream_at state k)) no_stream refl
forsaken_kind Reading state k n s = set-keeps (λ (x : Stream). x.kind) state.streams k s (forsaken Reading (stream_at state k)) no_stream refl

turned_kind : (side : Side) (old new : State) (k n s : ℕ) (operation : Operation) → Turned side old new k n operation → (stream_at new s).kind ≡ (stream_at old s).kind
turned_kind side old new k n s operation t =
    ap (λ (x : State). (stream_at x s).kind) t.is
    ∙ set-keeps (λ (x : Stream). x.kind) old.streams k s (turned_stream side old k operation t.count t.result) no_stream (moved_on-moves (stream_at old k) operation t.count side t.result).kind

-- a stream stays of its kind
pub effect_kind : (old new : State) (part : Part) (reply : Reply) (s : ℕ) → Holds old → s < length old.streams → Effect old part reply new → (stream_at new s).kind ≡ (stream_at old s).kind
effect_kind old new part reply s h made (ByReaction act p i r e) = ap (λ (x : State). (stream_at x s).kind) e ∙ (reaction_streams old act h.sound).kind s made
effect_kind old new part reply s h made (ByRest q e) = ap (λ (x : State). (stream_at x s).kind) e
effect_kind old new part reply s h made (ByHosting n p x) =
    ap (λ (y : State). (stream_at y s).kind) x.is ∙ ap (λ (y : Stream). y.kind) (get_or_append_left old.streams (x.stream ∷ []) no_stream s made)
effect_kind old new part reply s h made (ByPiping k r p x) =
    elim (piped_streams old new k r x.ends) [
      | inl e ↦ ap (λ xs. (get_or xs s no_stream).kind) e ∙ set-keeps (λ (y : Stream). y.kind) old.streams k s (piped (stream_at old k) r) no_stream refl
      | inr e ↦ ap (λ xs. (get_or xs s no_stream).kind) e ∙ set-keeps (λ (y : Stream). y.kind) old.streams k s (without_ends (piped (stream_at old k) r)) no_stream refl
    ]
effect_kind old new part reply s h made (ByDriving side k p done d) = turned_kind side old new k d.host s d.operation d.turned
effect_kind old new part reply s h made (ByPassing k p done x) =
    passing_keeps old new k x (λ (y : Stream). y.kind) (some_received-kind (stream_at old k) x.count) (some_received-kind (stream_at old k) x.count) s
effect_kind old new part reply s h made (ByCalling side end address count p r) =
    let k = stream_named (named old end) in
    let operation = begun end.guest address (items_asked end.ty count) in
    ap (λ (x : State). (stream_at x s).kind) r.is
    ∙ set-keeps (λ (x : Stream). x.kind) r.mid.streams k s (delivered side (stream_at r.mid k)) no_stream (delivered_kind side (stream_at r.mid k))
    ∙ turned_kind side (opened_by side old k operation) r.mid k r.host s operation r.turned
    ∙ set-keeps (λ (x : Stream). x.kind) old.streams k s (with_operation side (stream_at old k) operation) no_stream (opened_kind side (stream_at old k) operation)
effect_kind old new part reply s h made (ByForsaking act p f) =
    ap (λ (x : State). (stream_at x s).kind) f.is ∙ forsaken_kind f.side (reaction old act).state f.stream f.host s ∙ (reaction_streams old act h.sound).kind s made
