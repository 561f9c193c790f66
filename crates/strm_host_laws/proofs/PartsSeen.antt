-- What a part of a run with host ends does to a stream of which a host end has, or had, an end: no guest has
-- that end, and nothing is written or read there.
use Rattle.std.proofs.Common.{◌≡◌, ℕ, ◌<◌, ◌≤◌, Bool, true, false, cond, List, [], ◌∷◌, length, get_or, set, Option, Some, None, refl, sym, ap, subst, ◌∙◌, inl, inr, arith, length-set, length-append}
use Rattle.std.proofs.lemmas.Bool.{cases_eq, cond_both, true≢false}
use Rattle.std.proofs.lemmas.List.{get_or-set_same, get_or-set_other, get_or_append_left}
use Rattle.strm_codes.specs.declared.codes.ReturnCode.{ReturnCode}
use Rattle.strm_codes.specs.declared.codes.TransmitIndex.{TransmitIndex}
use Rattle.strm_machine.specs.State.{State, Guest, no_stream, stream_at, is_gone, is_held, is_loose, is_host}
use Rattle.strm_machine.specs.Sides.{opposite, end_of, with_end, with_operation}
use Rattle.strm_machine.specs.Meetings.{begun}
use Rattle.strm_machine.specs.Making.{made_stream, made_pair, with_stream}
use Rattle.strm_machine.specs.Moves.{with_owner}
use Rattle.strm_machine.specs.Endings.{delivered, report_on, told_end}
use Rattle.strm_machine.specs.Tests.{named, stream_named, items_asked}
use Rattle.strm_machine.specs.Operating.{Operated, finds, operate, with_received}
use Rattle.strm_machine.specs.Reactions.{Reaction, told, written_back, reaction}
use Rattle.strm_machine.specs.declared.acts.Act.{Act}
use Rattle.strm_machine.specs.declared.acts.NamedEnd.{NamedEnd}
use Rattle.strm_machine.specs.declared.streams.End.{End}
use Rattle.strm_machine.specs.declared.streams.Operation.{Operation}
use Rattle.strm_machine.specs.declared.streams.Owner.{Owner}
use Rattle.strm_machine.specs.declared.streams.Owner.TheVariants.{Held, Gone, Loose, Host}
use Rattle.strm_machine.specs.declared.streams.Side.{Side}
use Rattle.strm_machine.specs.declared.streams.Side.TheVariants.{Writing, Reading}
use Rattle.strm_machine.specs.declared.streams.Stream.{Stream}
use Rattle.strm_machine.specs.declared.replies.Reply.{Reply}
use Rattle.strm_machine.proofs.EndLemmas.{IsLeft, left_by}
use Rattle.strm_machine.proofs.HeldLemmas.{StateIsHeld}
use Rattle.strm_machine.proofs.ShapeLemmas.{reaction-shape}
use Rattle.strm_machine.proofs.Shapes.{stream_on, begun_on, turn_on, Operates, set_by, owned_by, IsFreed, tabled_by, Shape, ByTurn, BySetting, ByOwner, ByTable, ByPair, ByGuest, ByPut, ByRest as ByRestShape}
use Rattle.strm_machine.proofs.SoundStepLemmas.{operate-keeps}
use Rattle.std.specs.Option.{option_map}
use Rattle.strm_host_machine.specs.Attaching.{withdrawn, piped, without_ends, forsaken}
use Rattle.strm_machine.specs.Soundness.{IsUnmoved}
use Rattle.strm_machine.proofs.SoundLemmas.{left_told}
use Rattle.strm_machine.proofs.TableLemmas.{OwnersStay}
use Rattle.strm_codes.specs.declared.codes.StreamResult.{StreamResult}
use Rattle.strm_codes.specs.declared.payloads.Payload.{Payload}
use Rattle.strm_host_machine.specs.Settling.{went, operation_settled, with_some_received}
use Rattle.strm_host_machine.proofs.SettleLemmas.{is_done_with}
use Rattle.strm_host_laws.specs.HostMoments.{Part}
use Rattle.strm_host_laws.proofs.HostTurns.{Turned, turned_stream}
use Rattle.strm_host_laws.proofs.Effects.{opened_by, piped_streams, Pipes, Passes, forsaken_by, Effect, ByReaction, ByRest, ByHosting, ByPiping, ByDriving, ByPassing, ByCalling, ByForsaking}
use Rattle.strm_host_laws.proofs.PartEffects.{passing_streams}
use Rattle.strm_host_laws.proofs.GoingRules.{some_received-by}
use Rattle.strm_host_laws.proofs.TurnsStand.{Holds}
use Rattle.strm_host_laws.proofs.Standing.{call_begun, opened_owner, opened_operation}
use Rattle.strm_host_laws.proofs.TurnMoves.{Moves, moved_on-moves}
use Rattle.strm_machine.proofs.HostLemmas.{serving_made, turn_idle}

-- ## Streams of which a host end has, or had, an end

-- what waits on the other side and has not met has moved nothing, where no host end has the end on a side and
-- the other end is there
abbrev pub Parted : Side → Stream → Type 0
Parted side stream =
    is_host (end_of side stream).owner ≡ false → is_gone (end_of (opposite side) stream).owner ≡ false → IsUnmoved (end_of (opposite side) stream).operation

-- the end on a side went to a host end: no guest has it, nor is it loose, and nothing is done there
pub record IsTaken (side : Side) (state : State) (s : ℕ) : Type 0 where
  pub made : s < length state.streams
  pub idle : (end_of side (stream_at state s)).operation ≡ None
  pub unheld : is_held (end_of side (stream_at state s)).owner ≡ false
  pub tied : is_loose (end_of side (stream_at state s)).owner ≡ false
  pub parted : Parted side (stream_at state s)

-- a stream that stays
taken_same : (side : Side) (old new : State) (s : ℕ) → length old.streams ≤ length new.streams → stream_at new s ≡ stream_at old s → IsTaken side old s → IsTaken side new s
taken_same side old new s l e h = record {
  made = omega (arith, l, h.made);
  idle = ap (λ (x : Stream). (end_of side x).operation) e ∙ h.idle;
  unheld = ap (λ (x : Stream). is_held (end_of side x).owner) e ∙ h.unheld;
  tied = ap (λ (x : Stream). is_loose (end_of side x).owner) e ∙ h.tied;
  parted = subst (Parted side) (sym e) h.parted;
}

-- one that is set to a stream whose end on the side has the same owner, or is gone, and no operation
pub record KeepsTaken (side : Side) (old new : Stream) : Type 0 where
  pub idle : (end_of side old).operation ≡ None → (end_of side new).operation ≡ None
  pub unheld : is_held (end_of side old).owner ≡ false → is_held (end_of side new).owner ≡ false
  pub tied : is_loose (end_of side old).owner ≡ false → is_loose (end_of side new).owner ≡ false
  pub parted : Parted side old → Parted side new

-- the end stays
same_end : (side : Side) (old new : Stream) → end_of side new ≡ end_of side old → (Parted side old → Parted side new) → KeepsTaken side old new
same_end side old new e p = record {
  idle = λ i. ap (λ (x : End). x.operation) e ∙ i;
  unheld = λ i. ap (λ (x : End). is_held x.owner) e ∙ i;
  tied = λ i. ap (λ (x : End). is_loose x.owner) e ∙ i;
  parted = p;
}

taken_set : (side : Side) (old new : State) (s k : ℕ) (x : Stream) → new.streams ≡ set old.streams k x → (s ≡ k → KeepsTaken side (stream_at old k) x) → IsTaken side old s → IsTaken side new s
taken_set side old new s k x e f h =
    let many : length new.streams ≡ length old.streams = ap length e ∙ length-set old.streams k x in
    elim (cases_eq s k) [
      | inl q ↦
          let here : stream_at new s ≡ x = ap (λ xs. get_or xs s no_stream) e ∙ ap (λ i. get_or (set old.streams k x) i no_stream) q ∙ get_or-set_same old.streams k x no_stream (subst (λ i. i < length old.streams) q h.made) in
          let w = f q in
          let was : stream_at old s ≡ stream_at old k = ap (stream_at old) q in
          record {
            made = omega (arith, many, h.made);
            idle = ap (λ (y : Stream). (end_of side y).operation) here ∙ w.idle (ap (λ (y : Stream). (end_of side y).operation) (sym was) ∙ h.idle);
            unheld = ap (λ (y : Stream). is_held (end_of side y).owner) here ∙ w.unheld (ap (λ (y : Stream). is_held (end_of side y).owner) (sym was) ∙ h.unheld);
            tied = ap (λ (y : Stream). is_loose (end_of side y).owner) here ∙ w.tied (ap (λ (y : Stream). is_loose (end_of side y).owner) (sym was) ∙ h.tied);
            parted = subst (Parted side) (sym here) (w.parted (subst (Parted side) was h.parted));
          }
      | inr ne ↦
          taken_same side old new s (omega (arith, many))
          (ap (λ xs. get_or xs s no_stream) e ∙ get_or-set_other old.streams k s x no_stream ne) h
    ]

-- a step

held_unless : (owner : Owner) (g handle : ℕ) → owner ≡ Held g handle → is_held owner ≡ false → ⊥
held_unless owner g handle e f = let wrong : is_held owner ≡ true = ap is_held e in cc

-- where nobody has an end, it is gone or a host end's
pub no_owner : (owner : Owner) → is_held owner ≡ false → is_loose owner ≡ false → is_gone owner ≡ false → is_host owner ≡ false → ⊥
no_owner (Held g handle) a b c d = cc
no_owner Loose a b c d = cc
no_owner (Host n) a b c d = cc
no_owner Gone a b c d = cc

-- a read or write on the other side
module _ (guests : List Guest) (stream : Stream) (mine : Operation) where
  write_parted : stream.reader.operation ≡ None → is_held stream.reader.owner ≡ false → is_loose stream.reader.owner ≡ false → Parted Reading stream → Parted Reading (operate Writing guests stream mine).stream
  unfolding operate
  write_parted e held loose p =
      cond_both (is_gone stream.reader.owner) _ _ (λ (t : Operated). Parted Reading t.stream)
      (λ g. p)
      (λ g. subst (λ o. Parted Reading (finds Writing guests stream mine o).stream) (sym e) (λ u v. absurd (no_owner stream.reader.owner held loose g u)))

  read_parted : stream.writer.operation ≡ None → is_held stream.writer.owner ≡ false → is_loose stream.writer.owner ≡ false → Parted Writing stream → Parted Writing (operate Reading guests stream mine).stream
  unfolding operate
  read_parted e held loose p =
      cond_both (is_gone stream.writer.owner) _ _ (λ (t : Operated). Parted Writing t.stream)
      (λ g. p)
      (λ g. subst (λ o. Parted Writing (finds Reading guests stream mine o).stream) (sym e) (λ u v. absurd (no_owner stream.writer.owner held loose g u)))

-- an end is set to another of the same owner
setting_keeps : (side c : Side) (stream : Stream) (e : End) → IsLeft (end_of c stream).operation e.operation → e.owner ≡ (end_of c stream).owner → KeepsTaken side stream (with_end c stream e)
setting_keeps side c stream e left owner = by side c left owner
  where
    left_none : (o : Option Operation) → IsLeft o e.operation → o ≡ None → e.operation ≡ None
    left_none o left i = left_by (λ q. o ≡ None → q ≡ None) o e.operation left (λ n. n) (λ n. refl) (λ x n m. absurd (let wrong = n m in cc)) i

    by : (side c : Side) → IsLeft (end_of c stream).operation e.operation → e.owner ≡ (end_of c stream).owner → KeepsTaken side stream (with_end c stream e)
    by Writing Reading left owner =
        same_end Writing stream (with_end Reading stream e) refl
        (λ p u v. left_by IsUnmoved stream.reader.operation e.operation left (p u (ap is_gone (sym owner) ∙ v)) tt (λ x m. m))
    by Reading Writing left owner =
        same_end Reading stream (with_end Writing stream e) refl
        (λ p u v. left_by IsUnmoved stream.writer.operation e.operation left (p u (ap is_gone (sym owner) ∙ v)) tt (λ x m. m))
    by Writing Writing left owner = record {
      idle = left_none stream.writer.operation left;
      unheld = λ i. ap is_held owner ∙ i;
      tied = λ i. ap is_loose owner ∙ i;
      parted = λ p u v. p (ap is_host (sym owner) ∙ u) v;
    }
    by Reading Reading left owner = record {
      idle = left_none stream.reader.operation left;
      unheld = λ i. ap is_held owner ∙ i;
      tied = λ i. ap is_loose owner ∙ i;
      parted = λ p u v. p (ap is_host (sym owner) ∙ u) v;
    }

module _ (side : Side) (state : State) (s : ℕ) (held : StateIsHeld state) (h : IsTaken side state s) where
  -- a guest has another end
  unheld_end : (k g handle : ℕ) → s ≡ k → (end_of side (stream_at state k)).owner ≡ Held g handle → ⊥
  unheld_end k g handle q own = held_unless (end_of side (stream_at state k)).owner g handle own (subst (λ i. is_held (end_of side (stream_at state i)).owner ≡ false) q h.unheld)

  -- the stream of this end, after a turn there
  abbrev turned_on : Side → NamedEnd → ℕ → ℕ → Stream
  turned_on c end address count = (turn_on state c end address count).stream

  -- this end is that of its stream on a side
  abbrev IsOf : NamedEnd → Side → Type 0
  IsOf end side = (end_of side (stream_on state end)).owner ≡ Held end.guest end.handle

  turn_keeps : (c : Side) (end : NamedEnd) (address count : ℕ) → Operates state c end address count → s ≡ stream_named (named state end) → KeepsTaken side (stream_on state end) (turn_on state c end address count).stream
  turn_keeps c end address count o q = by side c keeps own (subst (IsTaken side state) q h) o (λ f. unheld_end k end.guest end.handle q f)
    where
      k : ℕ
      k = stream_named (named state end)

      keeps : OwnersStay (stream_on state end) (turn_on state c end address count).stream
      keeps = let x = operate-keeps state c end address count o in record { writer = x.stream.writer; reader = x.stream.reader }

      own : (end_of c (stream_on state end)).owner ≡ Held end.guest end.handle
      own = held.agree.named end.guest end.handle (stream_named (named state end)) c o.found.held

      by : (side c : Side) → OwnersStay (stream_on state end) (turned_on c end address count) → IsOf end c → IsTaken side state (stream_named (named state end)) → Operates state c end address count
          → (IsOf end side → ⊥) → KeepsTaken side (stream_on state end) (turned_on c end address count)
      by Writing Writing keeps own h o never = absurd (never own)
      by Reading Reading keeps own h o never = absurd (never own)
      by Writing Reading keeps own h o never = record {
        idle = λ i. turn_idle Reading state.guests (stream_on state end) (begun_on end address count) i;
        unheld = λ i. ap is_held keeps.writer ∙ i;
        tied = λ i. ap is_loose keeps.writer ∙ i;
        parted = λ p. read_parted state.guests (stream_on state end) (begun_on end address count) h.idle h.unheld h.tied p;
      }
      by Reading Writing keeps own h o never = record {
        idle = λ i. turn_idle Writing state.guests (stream_on state end) (begun_on end address count) i;
        unheld = λ i. ap is_held keeps.reader ∙ i;
        tied = λ i. ap is_loose keeps.reader ∙ i;
        parted = λ p. write_parted state.guests (stream_on state end) (begun_on end address count) h.idle h.unheld h.tied p;
      }

  turn_taken : (c : Side) (end : NamedEnd) (address count : ℕ) (code : Option ReturnCode) → Operates state c end address count
      → IsTaken side (written_back state (stream_named (named state end)) (turn_on state c end address count) code).state s
  turn_taken c end address count (Some code) o = taken_set side state (written_back state (stream_named (named state end)) (turn_on state c end address count) (Some code)).state s (stream_named (named state end)) (turn_on state c end address count).stream refl (turn_keeps c end address count o) h
  turn_taken c end address count None o = taken_set side state (written_back state (stream_named (named state end)) (turn_on state c end address count) None).state s (stream_named (named state end)) (turn_on state c end address count).stream refl (turn_keeps c end address count o) h

  -- an end whose owner changes was there
  freed_there : (c : Side) (k : ℕ) (o : Option (ℕ × ℕ)) → IsFreed state.guests k c (end_of c (stream_at state k)).owner o → is_gone (end_of c (stream_at state k)).owner ≡ false
  freed_there c k None loose = by (end_of c (stream_at state k)).owner loose
    where
      by : (owner : Owner) → is_loose owner ≡ true → is_gone owner ≡ false
      by Gone e = cc
      by _ e = refl
  freed_there c k (Some p) frees = ap is_gone (held.agree.named p.0 p.1 k c frees.held)

  -- no end is freed that a host end has, or had
  freed_not : (k : ℕ) (o : Option (ℕ × ℕ)) → IsFreed state.guests k side (end_of side (stream_at state k)).owner o → s ≡ k → ⊥
  freed_not k None loose q = let tied : is_loose (end_of side (stream_at state k)).owner ≡ false = subst (λ i. is_loose (end_of side (stream_at state i)).owner ≡ false) q h.tied in cc
  freed_not k (Some p) frees q = unheld_end k p.0 p.1 q (held.agree.named p.0 p.1 k side frees.held)

  owner_keeps : (c : Side) (k : ℕ) (owner : Owner) (o : Option (ℕ × ℕ)) → IsFreed state.guests k c (end_of c (stream_at state k)).owner o → s ≡ k → KeepsTaken side (stream_at state k) (with_owner c (stream_at state k) owner)
  owner_keeps c k owner o f q = by side c (λ g. freed_not k o g q) f (freed_there c k o f)
    where
      by : (side c : Side) → (IsFreed state.guests k side (end_of side (stream_at state k)).owner o → ⊥) → IsFreed state.guests k c (end_of c (stream_at state k)).owner o → is_gone (end_of c (stream_at state k)).owner ≡ false
          → KeepsTaken side (stream_at state k) (with_owner c (stream_at state k) owner)
      by Writing Writing never f there = absurd (never f)
      by Reading Reading never f there = absurd (never f)
      by Writing Reading never f there = same_end Writing (stream_at state k) (with_owner Reading (stream_at state k) owner) refl (λ p u v. p u there)
      by Reading Writing never f there = same_end Reading (stream_at state k) (with_owner Writing (stream_at state k) owner) refl (λ p u v. p u there)

  -- a stream behind the others
  pair_taken : (writer reader : ℕ) (ty : TransmitIndex) → IsTaken side (with_stream state writer reader ty) s
  unfolding with_stream
  pair_taken writer reader ty =
      let pair = made_pair state writer reader ty in
      let x = made_stream ty writer pair.write reader pair.read in
      taken_same side state (with_stream state writer reader ty) s (omega (arith, length-append state.streams (x ∷ [])))
      (get_or_append_left state.streams (x ∷ []) no_stream s h.made) h

  shape_taken : (act : Act) (r : Reaction) → Shape state act r → IsTaken side r.state s
  shape_taken act r (ByTurn c end address count a e o) = rw e (turn_taken c end address count (turn_on state c end address count).code o)
  shape_taken act r (BySetting reply x e set) =
      rw e (taken_set side state (set_by state x) s x.stream (with_end x.side (stream_at state x.stream) x.end) refl (λ q. setting_keeps side x.side (stream_at state x.stream) x.end set.becomes.left set.becomes.owner) h)
  shape_taken act r (ByOwner reply x e o) =
      rw e (taken_set side state (owned_by state x) s x.stream (with_owner x.side (stream_at state x.stream) x.owner) refl (owner_keeps x.side x.stream x.owner x.freed o.freed) h)
  shape_taken act r (ByTable reply x e t) = rw e (taken_same side state (tabled_by state x) s (omega arith) refl h)
  shape_taken act r (ByPair writer reader ty a e fits) = rw e (pair_taken writer reader ty)
  shape_taken act r (ByGuest size a e fits) = rw e (taken_same side state _ s (omega arith) refl h)
  shape_taken act r (ByPut reply g address bytes e p) = rw e (taken_same side state _ s (omega arith) refl h)
  shape_taken act r (ByRestShape reply e none) = rw e h

pub reaction_taken : (side : Side) (state : State) (act : Act) (s : ℕ) → Holds state → IsTaken side state s → IsTaken side (reaction state act).state s
reaction_taken side state act s h k = shape_taken side state s h.held k act (reaction state act) (reaction-shape state act h.sound)

-- ## The turn of a host end, and the end that is told after it

-- what a turn leaves unmet is met by a host end
settled_parted : (owner : Owner) (payload : Payload) (operation : Operation) (n host : ℕ) (result : Option StreamResult) → owner ≡ Host host → is_host (cond (is_done_with result) Gone owner) ≡ false → IsUnmoved (Some (operation_settled result (went payload operation n)))
settled_parted owner payload operation n host None o u = absurd (let wrong : is_host owner ≡ true = ap is_host o in cc)
settled_parted owner payload operation n host (Some result) o u = λ e. cc

gone_or : (f : Owner → Bool) (owner : Owner) → f owner ≡ false → f Gone ≡ false → (done : Bool) → f (cond done Gone owner) ≡ false
gone_or f owner e g true = g
gone_or f owner e g false = e

-- of the side that the host end is on
turn_leaves : (c : Side) (old new : Stream) (operation : Operation) (n host : ℕ) (result : Option StreamResult) → (end_of (opposite c) old).owner ≡ Host host → Moves c old new operation n result → KeepsTaken (opposite c) old new
turn_leaves c old new operation n host result o m = record {
  idle = λ i. ap (λ (y : End). y.operation) m.theirs ∙ i;
  unheld = λ i. ap (λ (y : End). is_held y.owner) m.theirs ∙ gone_or is_held (end_of (opposite c) old).owner i refl (is_done_with result);
  tied = λ i. ap (λ (y : End). is_loose y.owner) m.theirs ∙ gone_or is_loose (end_of (opposite c) old).owner i refl (is_done_with result);
  parted = by c o m;
}
  where
    by : (c : Side) → (end_of (opposite c) old).owner ≡ Host host → Moves c old new operation n result → Parted (opposite c) old → Parted (opposite c) new
    by Writing o m p u v =
        subst IsUnmoved (sym (ap (λ (y : End). y.operation) m.mine))
        (settled_parted old.reader.owner old.payload operation n host result o (ap (λ (y : End). is_host y.owner) (sym m.theirs) ∙ u))
    by Reading o m p u v =
        subst IsUnmoved (sym (ap (λ (y : End). y.operation) m.mine))
        (settled_parted old.writer.owner old.payload operation n host result o (ap (λ (y : End). is_host y.owner) (sym m.theirs) ∙ u))

pub turned_taken : (side c : Side) (old new : State) (s k n : ℕ) (operation : Operation) → (end_of (opposite c) (stream_at old k)).owner ≡ Host n → (end_of c (stream_at old k)).operation ≡ Some operation → Turned c old new k n operation → IsTaken side old s → IsTaken side new s
turned_taken side c old new s k n operation o w t h =
    let x = turned_stream c old k operation t.count t.result in
    let m = moved_on-moves (stream_at old k) operation t.count c t.result in
    taken_set side old new s k x (ap (λ (y : State). y.streams) t.is) (λ q. by side c (subst (IsTaken side old) q h) w (turn_leaves c (stream_at old k) x operation t.count n t.result o m)) h
  where
    by : (side c : Side) → IsTaken side old k → (end_of c (stream_at old k)).operation ≡ Some operation → {x : Stream} → KeepsTaken (opposite c) (stream_at old k) x → KeepsTaken side (stream_at old k) x
    by Writing Writing h w l = absurd (let none = h.idle in let wrong : Some operation ≡ None = sym w ∙ none in cc)
    by Reading Reading h w l = absurd (let none = h.idle in let wrong : Some operation ≡ None = sym w ∙ none in cc)
    by Writing Reading h w l = l
    by Reading Writing h w l = l

pub opened_taken : (side c : Side) (state : State) (s k n g handle : ℕ) (operation : Operation) → (end_of (opposite c) (stream_at state k)).owner ≡ Host n → (end_of c (stream_at state k)).owner ≡ Held g handle → IsTaken side state s → IsTaken side (opened_by c state k operation) s
opened_taken side c state s k n g handle operation o own h =
    taken_set side state (opened_by c state k operation) s k (with_operation c (stream_at state k) operation) refl (λ q. by side c o own (subst (IsTaken side state) q h)) h
  where
    hosted : (owner : Owner) → owner ≡ Host n → is_host owner ≡ false → ⊥
    hosted owner e u = let wrong : is_host owner ≡ true = ap is_host e in let both : true ≡ false = sym wrong ∙ u in true≢false both

    by : (side c : Side) → (end_of (opposite c) (stream_at state k)).owner ≡ Host n → (end_of c (stream_at state k)).owner ≡ Held g handle → IsTaken side state k → KeepsTaken side (stream_at state k) (with_operation c (stream_at state k) operation)
    by Writing Writing o own h = absurd (held_unless (stream_at state k).writer.owner g handle own h.unheld)
    by Reading Reading o own h = absurd (held_unless (stream_at state k).reader.owner g handle own h.unheld)
    by Writing Reading o own h = same_end Writing (stream_at state k) (with_operation Reading (stream_at state k) operation) refl (λ p u v. absurd (hosted (stream_at state k).writer.owner o u))
    by Reading Writing o own h = same_end Reading (stream_at state k) (with_operation Writing (stream_at state k) operation) refl (λ p u v. absurd (hosted (stream_at state k).reader.owner o u))

told_taken : (side c : Side) (state : State) (s k : ℕ) → IsTaken side state s → IsTaken side (told state k c) s
unfolding delivered
told_taken side c state s k h =
    let stream = stream_at state k in
    let code = report_on c stream in
    taken_set side state (told state k c) s k (delivered c stream) refl
    (λ q. setting_keeps side c stream (told_end code (end_of c stream)) (left_told code (end_of c stream).operation) refl) h

forsaken_taken : (side c : Side) (state : State) (s k n : ℕ) → is_gone (end_of c (stream_at state k)).owner ≡ true → IsTaken side state s → IsTaken side (forsaken_by c state k n) s
forsaken_taken side c state s k n g h =
    taken_set side state (forsaken_by c state k n) s k (forsaken c (stream_at state k)) (streams c) (λ q. by side c g) h
  where
    streams : (c : Side) → (forsaken_by c state k n).streams ≡ set state.streams k (forsaken c (stream_at state k))
    streams Writing = refl
    streams Reading = refl

    there : (owner : Owner) → is_gone owner ≡ true → is_gone owner ≡ false → ⊥
    there owner g v = let both : true ≡ false = sym g ∙ v in true≢false both

    by : (side c : Side) → is_gone (end_of c (stream_at state k)).owner ≡ true → KeepsTaken side (stream_at state k) (forsaken c (stream_at state k))
    by Writing Reading g = record { idle = λ i. i; unheld = λ i. refl; tied = λ i. refl; parted = λ p u v. absurd (there (stream_at state k).reader.owner g v) }
    by Reading Writing g = record { idle = λ i. i; unheld = λ i. refl; tied = λ i. refl; parted = λ p u v. absurd (there (stream_at state k).writer.owner g v) }
    by Writing Writing g = record { idle = λ i. i; unheld = λ i. i; tied = λ i. i; parted = λ p u v. absurd (true≢false v) }
    by Reading Reading g = record { idle = λ i. i; unheld = λ i. i; tied = λ i. i; parted = λ p u v. absurd (true≢false v) }

-- ## A loose read end that goes to a host reader

withdrawn_none : (o : Option Operation) → o ≡ None → option_map withdrawn o ≡ None
withdrawn_none None e = refl
withdrawn_none (Some o) e = cc

loose_there : (owner : Owner) → is_loose owner ≡ true → is_gone owner ≡ false
loose_there Loose e = refl
loose_there _ e = cc

-- of a host writer's stream
piped_taken : (side : Side) (old new : State) (s k r : ℕ) (reply : Reply) → Pipes old k r reply new → IsTaken side old s → IsTaken side new s
piped_taken side old new s k r reply x h =
    elim (piped_streams old new k r x.ends) [
      | inl e ↦ taken_set side old new s k (piped (stream_at old k) r) e (λ q. staying side (subst (IsTaken side old) q h)) h
      | inr e ↦ taken_set side old new s k (without_ends (piped (stream_at old k) r)) e (λ q. leaving side (subst (IsTaken side old) q h)) h
    ]
  where
    tied_not : IsTaken Reading old k → ⊥
    tied_not h = let both : true ≡ false = sym x.loose ∙ h.tied in true≢false both

    staying : (side : Side) → IsTaken side old k → KeepsTaken side (stream_at old k) (piped (stream_at old k) r)
    staying Reading h = absurd (tied_not h)
    staying Writing h = record {
      idle = withdrawn_none (stream_at old k).writer.operation;
      unheld = λ i. i;
      tied = λ i. i;
      parted = λ p u v. p u (loose_there (stream_at old k).reader.owner x.loose);
    }

    leaving : (side : Side) → IsTaken side old k → KeepsTaken side (stream_at old k) (without_ends (piped (stream_at old k) r))
    leaving Reading h = absurd (tied_not h)
    leaving Writing h = record {
      idle = withdrawn_none (stream_at old k).writer.operation;
      unheld = λ i. refl;
      tied = λ i. refl;
      parted = λ p u v. absurd (true≢false v);
    }

-- a host reader has it then, or it is gone
pub pipe_taken : (old new : State) (k r : ℕ) (reply : Reply) → Holds old → Pipes old k r reply new → IsTaken Reading new k
pipe_taken old new k r reply h x =
    elim (piped_streams old new k r x.ends) [
      | inl e ↦
          let is : stream_at new k ≡ piped (stream_at old k) r = here (piped (stream_at old k) r) e in
          record {
            made = made (piped (stream_at old k) r) e;
            idle = ap (λ (y : Stream). y.reader.operation) is ∙ h.loose k x.loose;
            unheld = ap (λ (y : Stream). is_held y.reader.owner) is;
            tied = ap (λ (y : Stream). is_loose y.reader.owner) is;
            parted = subst (Parted Reading) (sym is) (λ u v. absurd (true≢false u));
          }
      | inr e ↦
          let is : stream_at new k ≡ without_ends (piped (stream_at old k) r) = here (without_ends (piped (stream_at old k) r)) e in
          record {
            made = made (without_ends (piped (stream_at old k) r)) e;
            idle = ap (λ (y : Stream). y.reader.operation) is ∙ h.loose k x.loose;
            unheld = ap (λ (y : Stream). is_held y.reader.owner) is;
            tied = ap (λ (y : Stream). is_loose y.reader.owner) is;
            parted = subst (Parted Reading) (sym is) (λ u v. absurd (true≢false v));
          }
    ]
  where
    here : (y : Stream) → new.streams ≡ set old.streams k y → stream_at new k ≡ y
    here y e = ap (λ xs. get_or xs k no_stream) e ∙ get_or-set_same old.streams k y no_stream x.made

    made : (y : Stream) → new.streams ≡ set old.streams k y → k < length new.streams
    made y e = omega (arith, x.made, ap length e, length-set old.streams k y)

-- the round of a pipe
module _ (old new : State) (s k : ℕ) (p : Passes old new k) where
  abbrev received : Stream
  received = with_some_received (stream_at old k) p.count

  staying : (side : Side) → KeepsTaken side (stream_at old k) received
  staying side =
      some_received-by (KeepsTaken side (stream_at old k)) (stream_at old k) p.count
      (record { idle = λ i. i; unheld = λ i. i; tied = λ i. i; parted = λ i. i }) (by side)
    where
      by : (side : Side) → KeepsTaken side (stream_at old k) (with_received (stream_at old k) p.count)
      by Writing = record { idle = λ i. i; unheld = λ i. i; tied = λ i. i; parted = λ i. i }
      by Reading = record { idle = λ i. i; unheld = λ i. i; tied = λ i. i; parted = λ i. i }

  leaving : (side : Side) → KeepsTaken side (stream_at old k) (without_ends received)
  leaving Writing = record { idle = (staying Writing).idle; unheld = λ i. refl; tied = λ i. refl; parted = λ i u v. absurd (true≢false v) }
  leaving Reading = record { idle = (staying Reading).idle; unheld = λ i. refl; tied = λ i. refl; parted = λ i u v. absurd (true≢false v) }

  passing_taken : (side : Side) → IsTaken side old s → IsTaken side new s
  passing_taken side h =
      elim (passing_streams old new k p) [
        | inl e ↦ taken_set side old new s k received e (λ q. staying side) h
        | inr e ↦ taken_set side old new s k (without_ends received) e (λ q. leaving side) h
      ]

-- a stream of which a host end has the end on a side
pub owner_taken : (side : Side) (state : State) (s n : ℕ) → Holds state → (end_of side (stream_at state s)).owner ≡ Host n → IsTaken side state s
owner_taken side state s n h e = record {
  made = serving_made state side n s h.hosts ((h.hosts.serve side n s).serves e);
  idle = (h.hosts.serve side n s).idle e;
  unheld = ap is_held e;
  tied = ap is_loose e;
  parted = λ u v. absurd (true≢false (sym (ap is_host e) ∙ u));
}

-- every part keeps one
pub effect_taken : (side : Side) (old new : State) (part : Part) (reply : Reply) (s : ℕ) → Holds old → Effect old part reply new → IsTaken side old s → IsTaken side new s
effect_taken side old new part reply s h (ByReaction act p i r e) k = subst (λ x. IsTaken side x s) (sym e) (reaction_taken side old act s h k)
effect_taken side old new part reply s h (ByRest q e) k = subst (λ x. IsTaken side x s) (sym e) k
effect_taken side old new part reply s h (ByHosting n p x) k =
    taken_same side old new s (omega (arith, ap (λ (y : State). length y.streams) x.is, length-append old.streams (x.stream ∷ [])))
    (ap (λ (y : State). stream_at y s) x.is ∙ get_or_append_left old.streams (x.stream ∷ []) no_stream s k.made) k
effect_taken side old new part reply s h (ByPiping t r p x) k = piped_taken side old new s t r reply x k
effect_taken side old new part reply s h (ByPassing j p e x) k = passing_taken old new s j x side k
effect_taken side old new part reply s h (ByDriving c j p e d) k = turned_taken side c old new s j d.host d.operation d.owner d.waits d.turned k
effect_taken side old new part reply s h (ByCalling c end address count p r) k =
    let j = stream_named (named old end) in
    let operation = begun end.guest address (items_asked end.ty count) in
    let b = call_begun c old end address count h.sound r.unrefused in
    let own = h.held.agree.named end.guest end.handle j c b.found.held in
    subst (λ x. IsTaken side x s) (sym r.is)
    (told_taken side c r.mid s j
    (turned_taken side c (opened_by c old j operation) r.mid s j r.host operation (opened_owner c old j operation ∙ r.owner) (opened_operation c old j operation b.found.made) r.turned
    (opened_taken side c old s j r.host end.guest end.handle operation r.owner own k)))
effect_taken side old new part reply s h (ByForsaking act p f) k =
    subst (λ x. IsTaken side x s) (sym f.is) (forsaken_taken side f.side (reaction old act).state s f.stream f.host f.gone (reaction_taken side old act s h k))
