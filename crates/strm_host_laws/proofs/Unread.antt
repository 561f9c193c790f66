-- What the machine does without host ends moves nothing on a stream whose read end went to a host reader.
use Rattle.std.proofs.Common.{◌≡◌, ℕ, ◌<◌, false, List, [], ◌∷◌, length, get_or, set, Option, Some, None, refl, sym, ap, subst, ◌∙◌, inl, inr}
use Rattle.std.proofs.lemmas.Bool.{cases_eq, cond_both, true≢false}
use Rattle.std.proofs.lemmas.List.{get_or-set_same, get_or-set_other, get_or_append_left}
use Rattle.strm_codes.specs.declared.codes.ReturnCode.{ReturnCode}
use Rattle.strm_machine.specs.Moments.{received}
use Rattle.strm_machine.specs.Moves.{with_owner}
use Rattle.strm_machine.specs.State.{State, Guest, no_stream, is_gone, is_held, stream_at}
use Rattle.strm_machine.specs.Sides.{end_of, with_end}
use Rattle.strm_machine.specs.Making.{made_stream, made_pair, with_stream}
use Rattle.strm_machine.specs.Operating.{Operated, finds, operate}
use Rattle.strm_machine.specs.Tests.{named, stream_named}
use Rattle.strm_machine.specs.Reactions.{Reaction, written_back, reaction}
use Rattle.strm_machine.specs.declared.acts.Act.{Act}
use Rattle.strm_machine.specs.declared.streams.End.{End}
use Rattle.strm_machine.specs.declared.streams.Operation.{Operation}
use Rattle.strm_machine.specs.declared.streams.Owner.{Owner}
use Rattle.strm_machine.specs.declared.streams.Owner.TheVariants.{Held}
use Rattle.strm_machine.specs.declared.streams.Side.{Side}
use Rattle.strm_machine.specs.declared.streams.Side.TheVariants.{Writing, Reading}
use Rattle.strm_machine.specs.declared.streams.Stream.{Stream}
use Rattle.strm_machine.proofs.HeldLemmas.{StateIsHeld}
use Rattle.strm_machine.proofs.Shapes.{stream_on, begun_on, turn_on, Shape, ByTurn, BySetting, ByOwner, ByTable, ByPair, ByGuest, ByPut, ByRest}
use Rattle.strm_machine.proofs.ShapeLemmas.{reaction-shape}
use Rattle.strm_host_laws.proofs.PartsSeen.{IsTaken}
use Rattle.strm_host_laws.proofs.TurnsStand.{Holds}

-- a write finds no read there
turn_counts : (guests : List Guest) (stream : Stream) (mine : Operation) → stream.reader.operation ≡ None → (operate Writing guests stream mine).stream.received ≡ stream.received
unfolding operate
turn_counts guests stream mine o =
    cond_both (is_gone stream.reader.owner) _ _ (λ (t : Operated). t.stream.received ≡ stream.received)
    (λ g. refl)
    (λ g. subst (λ p. (finds Writing guests stream mine p).stream.received ≡ stream.received) (sym o) refl)

with_end-received : (side : Side) (stream : Stream) (end : End) → (with_end side stream end).received ≡ stream.received
with_end-received Writing stream end = refl
with_end-received Reading stream end = refl

with_owner-received : (side : Side) (stream : Stream) (owner : Owner) → (with_owner side stream owner).received ≡ stream.received
with_owner-received Writing stream owner = refl
with_owner-received Reading stream owner = refl

module _ (state : State) (s : ℕ) (held : StateIsHeld state) (k : IsTaken Reading state s) where
  -- its count among these streams
  abbrev CountsIn : List Stream → Type 0
  CountsIn streams = (get_or streams s no_stream).received ≡ received s state

  set_counts : (t : ℕ) (x : Stream) → t < length state.streams → (t ≡ s → x.received ≡ received t state) → CountsIn (set state.streams t x)
  set_counts t x l h =
      elim (cases_eq s t) [
        | inl e ↦
            ap (λ i. (get_or (set state.streams t x) i no_stream).received) e
            ∙ ap (λ (y : Stream). y.received) (get_or-set_same state.streams t x no_stream l)
            ∙ h (sym e) ∙ ap (λ i. received i state) (sym e)
        | inr ne ↦ ap (λ (y : Stream). y.received) (get_or-set_other state.streams t s x no_stream ne)
      ]

  written_counts : (t : ℕ) (x : Operated) (code : Option ReturnCode) → t < length state.streams → (t ≡ s → x.stream.received ≡ received t state) → CountsIn (written_back state t x code).state.streams
  written_counts t x (Some code) l h = set_counts t x.stream l h
  written_counts t x None l h = set_counts t x.stream l h

  shape_counts : (act : Act) (r : Reaction) → Shape state act r → CountsIn r.state.streams
  unfolding with_stream
  shape_counts act r (ByTurn side end address count a e o) =
      let t = stream_named (named state end) in
      subst (λ (x : Reaction). CountsIn x.state.streams) (sym e)
      (written_counts t (turn_on state side end address count) (turn_on state side end address count).code o.found.made
      (λ same. by side same (held.agree.named end.guest end.handle t side o.found.held)))
    where
      by : (side : Side) → stream_named (named state end) ≡ s → (end_of side (stream_on state end)).owner ≡ Held end.guest end.handle → (turn_on state side end address count).stream.received ≡ (stream_on state end).received
      by Writing same f = turn_counts state.guests (stream_on state end) (begun_on end address count) (ap (λ i. (stream_at state i).reader.operation) same ∙ k.idle)
      by Reading same f =
          absurd (let wrong : is_held (Held end.guest end.handle) ≡ false = ap is_held (sym f) ∙ ap (λ i. is_held (stream_at state i).reader.owner) same ∙ k.unheld in true≢false wrong)
  shape_counts act r (BySetting reply x e o) =
      subst (λ (y : Reaction). CountsIn y.state.streams) (sym e)
      (set_counts x.stream (with_end x.side (stream_at state x.stream) x.end) o.made (λ same. with_end-received x.side (stream_at state x.stream) x.end))
  shape_counts act r (ByOwner reply x e o) =
      subst (λ (y : Reaction). CountsIn y.state.streams) (sym e)
      (set_counts x.stream _ o.made (λ same. with_owner-received x.side (stream_at state x.stream) x.owner))
  shape_counts act r (ByTable reply x e o) = subst (λ (y : Reaction). CountsIn y.state.streams) (sym e) refl
  shape_counts act r (ByPair writer reader ty a e o) =
      let pair = made_pair state writer reader ty in
      let made = made_stream ty writer pair.write reader pair.read in
      subst (λ (y : Reaction). CountsIn y.state.streams) (sym e)
      (ap (λ (x : Stream). x.received) (get_or_append_left state.streams (made ∷ []) no_stream s k.made))
  shape_counts act r (ByGuest size a e o) = subst (λ (y : Reaction). CountsIn y.state.streams) (sym e) refl
  shape_counts act r (ByPut reply g address bytes e o) = subst (λ (y : Reaction). CountsIn y.state.streams) (sym e) refl
  shape_counts act r (ByRest reply e o) = subst (λ (y : Reaction). CountsIn y.state.streams) (sym e) refl

pub reaction-counts : (state : State) (act : Act) (s : ℕ) → Holds state → IsTaken Reading state s → received s (reaction state act).state ≡ received s state
reaction-counts state act s h k = shape_counts state s h.held k act (reaction state act) (reaction-shape state act h.sound)
