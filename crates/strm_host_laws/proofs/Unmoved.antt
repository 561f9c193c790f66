-- What the machine does without host ends moves nothing on a stream whose writer is a host writer or gone.
use Rattle.std.proofs.Common.{◌≡◌, ◌≢◌, ℕ, zero, suc, ◌<◌, true, false, List, [], ◌∷◌, ◌++◌, length, get_or, set, Option, Some, None, refl, sym, ap, subst, ◌∙◌, inl, inr, arith}
use Rattle.std.proofs.lemmas.Bool.{cases_eq, cond_both}
use Rattle.std.proofs.lemmas.List.{get_or-set_same, get_or-set_other}
use Rattle.strm_codes.specs.declared.codes.ReturnCode.{ReturnCode}
use Rattle.strm_machine.specs.Moves.{with_owner}
use Rattle.strm_machine.specs.State.{State, Guest, no_stream, is_gone, is_loose, stream_at}
use Rattle.strm_machine.specs.Sides.{end_of, with_end}
use Rattle.strm_machine.specs.Making.{made_stream, made_pair, with_stream}
use Rattle.strm_machine.specs.Operating.{Operated, finds, operate}
use Rattle.strm_machine.specs.Tests.{named, stream_named}
use Rattle.strm_machine.specs.Reactions.{Reaction, written_back, reaction}
use Rattle.strm_machine.specs.declared.acts.Act.{Act}
use Rattle.strm_machine.specs.declared.streams.Operation.{Operation}
use Rattle.strm_machine.specs.declared.streams.Owner.TheVariants.{Held, Host, Gone}
use Rattle.strm_machine.specs.declared.streams.Side.{Side}
use Rattle.strm_machine.specs.declared.streams.Side.TheVariants.{Writing, Reading}
use Rattle.strm_machine.specs.declared.streams.Stream.{Stream}
use Rattle.strm_machine.proofs.HeldLemmas.{StateIsHeld}
use Rattle.strm_machine.proofs.Shapes.{stream_on, begun_on, turn_on, IsFreed, Shape, ByTurn, BySetting, ByOwner, ByTable, ByPair, ByGuest, ByPut, ByRest}
use Rattle.strm_machine.proofs.ShapeLemmas.{reaction-shape}
use Rattle.strm_host_laws.proofs.TurnsStand.{Holds}

-- a stream that stands before a new one
pub push-other : (xs : List Stream) (x : Stream) (t : ℕ) → t ≢ length xs → get_or (xs ++ x ∷ []) t no_stream ≡ get_or xs t no_stream
push-other [] x zero ne = absurd (ne refl)
push-other [] x (suc t) ne = refl
push-other (y ∷ ys) x zero ne = refl
push-other (y ∷ ys) x (suc t) ne = push-other ys x t (λ e. ne (ap suc e))

-- the same count and writer
pub record Unmoved (old new : Stream) : Type 0 where
  pub received : new.received ≡ old.received
  pub writer : new.writer.owner ≡ old.writer.owner

unmoved_itself : (stream : Stream) → Unmoved stream stream
unmoved_itself stream = record { received = refl; writer = refl }

-- a stream that no guest writes: its writer is gone, or is a host writer, and the end has no operation
pub data IsQuiet (stream : Stream) : Type 0 where
  WriterGone : stream.writer.owner ≡ Gone → stream.writer.operation ≡ None → IsQuiet stream
  WriterHost : (n : ℕ) → stream.writer.owner ≡ Host n → stream.writer.operation ≡ None → IsQuiet stream

pub unheld_by : (stream : Stream) (g handle : ℕ) → IsQuiet stream → stream.writer.owner ≡ Held g handle → ⊥
unheld_by stream g handle (WriterGone e o) f = let k : Gone ≡ Held g handle = sym e ∙ f in cc
unheld_by stream g handle (WriterHost n e o) f = let k : Host n ≡ Held g handle = sym e ∙ f in cc

-- nothing is written there
pub quiet_none : (stream : Stream) → IsQuiet stream → stream.writer.operation ≡ None
quiet_none stream (WriterGone e o) = o
quiet_none stream (WriterHost n e o) = o

unloose : (stream : Stream) → IsQuiet stream → is_loose stream.writer.owner ≡ true → ⊥
unloose stream (WriterGone e o) f = let k : is_loose Gone ≡ true = ap is_loose (sym e) ∙ f in cc
unloose stream (WriterHost n e o) f = let k : is_loose (Host n) ≡ true = ap is_loose (sym e) ∙ f in cc

-- a read finds no write there
turn_unmoved : (guests : List Guest) (stream : Stream) (mine : Operation) → IsQuiet stream → Unmoved stream (operate Reading guests stream mine).stream
unfolding operate
turn_unmoved guests stream mine (WriterGone e o) =
    cond_both (is_gone stream.writer.owner) _ _ (λ (t : Operated). Unmoved stream t.stream)
    (λ g. record { received = refl; writer = refl })
    (λ g. absurd (let k : is_gone Gone ≡ false = ap is_gone (sym e) ∙ g in cc))
turn_unmoved guests stream mine (WriterHost n e o) =
    cond_both (is_gone stream.writer.owner) _ _ (λ (t : Operated). Unmoved stream t.stream)
    (λ g. record { received = refl; writer = refl })
    (λ g. subst (λ p. Unmoved stream (finds Reading guests stream mine p).stream) (sym o) (record { received = refl; writer = refl }))

module _ (state : State) (s : ℕ) (held : StateIsHeld state) (q : IsQuiet (stream_at state s)) where
  -- the stream of that number then
  abbrev StaysIn : List Stream → Type 0
  StaysIn streams = Unmoved (stream_at state s) (get_or streams s no_stream)

  -- another stream of a number, which is so if it is this one
  set_stays : (t : ℕ) (x : Stream) → t < length state.streams → (t ≡ s → Unmoved (stream_at state t) x) → StaysIn (set state.streams t x)
  set_stays t x l h =
      elim (cases_eq s t) [
        | inl e ↦ subst (λ j. Unmoved (stream_at state j) (get_or (set state.streams t x) j no_stream)) (sym e) (subst (Unmoved (stream_at state t)) (sym (get_or-set_same state.streams t x no_stream l)) (h (sym e)))
        | inr ne ↦ subst (Unmoved (stream_at state s)) (sym (get_or-set_other state.streams t s x no_stream ne)) (unmoved_itself (stream_at state s))
      ]

  written_stays : (t : ℕ) (x : Operated) (code : Option ReturnCode) → t < length state.streams → (t ≡ s → Unmoved (stream_at state t) x.stream) → StaysIn (written_back state t x code).state.streams
  written_stays t x (Some code) l h = set_stays t x.stream l h
  written_stays t x None l h = set_stays t x.stream l h

  quiet_at : (t : ℕ) → t ≡ s → IsQuiet (stream_at state t)
  quiet_at t e = subst (λ j. IsQuiet (stream_at state j)) (sym e) q

  shape_stays : (act : Act) (r : Reaction) → s < length state.streams → Shape state act r → StaysIn r.state.streams
  unfolding with_stream
  shape_stays act r l (ByTurn side end address count a e o) =
      let t = stream_named (named state end) in
      subst (λ (x : Reaction). StaysIn x.state.streams) (sym e)
      (written_stays t (turn_on state side end address count) (turn_on state side end address count).code o.found.made
      (λ same. by side (quiet_at t same) (held.agree.named end.guest end.handle t side o.found.held)))
    where
      by : (side : Side) → IsQuiet (stream_on state end) → (end_of side (stream_on state end)).owner ≡ Held end.guest end.handle → Unmoved (stream_on state end) (turn_on state side end address count).stream
      by Writing quiet f = absurd (unheld_by (stream_on state end) end.guest end.handle quiet f)
      by Reading quiet f = turn_unmoved state.guests (stream_on state end) (begun_on end address count) quiet
  shape_stays act r l (BySetting reply x e o) =
      subst (λ (y : Reaction). StaysIn y.state.streams) (sym e)
      (set_stays x.stream (with_end x.side (stream_at state x.stream) x.end) o.made (λ same. by x.side o.becomes.owner))
    where
      by : (side : Side) → x.end.owner ≡ (end_of side (stream_at state x.stream)).owner → Unmoved (stream_at state x.stream) (with_end side (stream_at state x.stream) x.end)
      by Writing f = record { received = refl; writer = f }
      by Reading f = record { received = refl; writer = refl }
  shape_stays act r l (ByOwner reply x e o) =
      subst (λ (y : Reaction). StaysIn y.state.streams) (sym e)
      (set_stays x.stream _ o.made (λ same. by x.side (quiet_at x.stream same) x.freed o.freed))
    where
      by : (side : Side) → IsQuiet (stream_at state x.stream) → (f : Option (ℕ × ℕ)) → IsFreed state.guests x.stream side (end_of side (stream_at state x.stream)).owner f
          → Unmoved (stream_at state x.stream) (with_owner side (stream_at state x.stream) x.owner)
      by Reading quiet f g = record { received = refl; writer = refl }
      by Writing quiet None g = absurd (unloose (stream_at state x.stream) quiet g)
      by Writing quiet (Some f) g = absurd (unheld_by (stream_at state x.stream) f.0 f.1 quiet (held.agree.named f.0 f.1 x.stream Writing g.held))
  shape_stays act r l (ByTable reply x e o) = subst (λ (y : Reaction). StaysIn y.state.streams) (sym e) (unmoved_itself (stream_at state s))
  shape_stays act r l (ByPair writer reader ty a e o) =
      let pair = made_pair state writer reader ty in
      let made = made_stream ty writer pair.write reader pair.read in
      subst (λ (y : Reaction). StaysIn y.state.streams) (sym e)
      (subst (Unmoved (stream_at state s)) (sym (push-other state.streams made s (λ f. absurd (omega (arith, l, f))))) (unmoved_itself (stream_at state s)))
  shape_stays act r l (ByGuest size a e o) = subst (λ (y : Reaction). StaysIn y.state.streams) (sym e) (unmoved_itself (stream_at state s))
  shape_stays act r l (ByPut reply g address bytes e o) = subst (λ (y : Reaction). StaysIn y.state.streams) (sym e) (unmoved_itself (stream_at state s))
  shape_stays act r l (ByRest reply e o) = subst (λ (y : Reaction). StaysIn y.state.streams) (sym e) (unmoved_itself (stream_at state s))

pub reaction-unmoved : (state : State) (act : Act) (s : ℕ) → Holds state → s < length state.streams → IsQuiet (stream_at state s) → Unmoved (stream_at state s) (stream_at (reaction state act).state s)
reaction-unmoved state act s h l q = shape_stays state s h.held q act (reaction state act) l (reaction-shape state act h.sound)
