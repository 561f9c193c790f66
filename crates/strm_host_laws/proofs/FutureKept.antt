-- What is known of a future that a host writer writes, and that a moment which is no turn of it keeps that.
use Rattle.std.proofs.Common.{◌≡◌, ◌≢◌, ℕ, ◌<◌, ◌≤◌, Bool, true, false, List, [], ◌∷◌, length, get_or, set, Option, Some, None, refl, sym, ap, subst, ◌∙◌, ◌⊎◌, inl, inr, arith}
use Rattle.std.specs.Prelude.{if◌then◌else◌}
use Rattle.std.proofs.lemmas.Bool.{cases_eq, cond_both, true≢false}
use Rattle.std.proofs.lemmas.List.{get_or-set_same, get_or-set_other, get_or_append_left}
use Rattle.strm_codes.specs.declared.codes.ReturnCode.{ReturnCode}
use Rattle.strm_codes.specs.declared.codes.TransmitKind.TheVariants.{Future}
use Rattle.strm_machine.specs.State.{State, Guest, no_stream, no_consumer, stream_at, consumer_at, is_gone, is_held, is_loose}
use Rattle.strm_machine.specs.Sides.{end_of, with_end, with_operation}
use Rattle.strm_machine.specs.Moves.{with_owner}
use Rattle.strm_machine.specs.Making.{made_stream, made_pair, with_stream}
use Rattle.strm_machine.specs.Endings.{delivered}
use Rattle.strm_machine.specs.Operating.{Operated, finds, operate}
use Rattle.strm_machine.specs.Reactions.{Reaction, written_back, reaction}
use Rattle.strm_machine.specs.Tests.{named, stream_named}
use Rattle.strm_machine.specs.declared.acts.Act.{Act}
use Rattle.strm_machine.specs.declared.acts.NamedEnd.{NamedEnd}
use Rattle.strm_machine.specs.declared.streams.Consumer.{Consumer}
use Rattle.strm_machine.specs.declared.streams.Operation.{Operation}
use Rattle.strm_machine.specs.declared.streams.Owner.{Owner}
use Rattle.strm_machine.specs.declared.streams.Owner.TheVariants.{Held, Host, Gone}
use Rattle.strm_machine.specs.declared.streams.Side.{Side}
use Rattle.strm_machine.specs.declared.streams.Side.TheVariants.{Writing, Reading}
use Rattle.strm_machine.specs.declared.streams.Stream.{Stream}
use Rattle.strm_machine.proofs.EndLemmas.{IsLeft, Unchanged, left_by}
use Rattle.strm_machine.proofs.HeldLemmas.{StateIsHeld}
use Rattle.strm_machine.proofs.HostLemmas.{no_host}
use Rattle.strm_machine.proofs.TallyLemmas.{begins_by}
use Rattle.strm_machine.proofs.Shapes.{stream_on, begun_on, turn_on, Operates, Shape, ByTurn, BySetting, ByOwner, ByTable, ByPair, ByGuest, ByPut, ByRest as ByRestShape}
use Rattle.strm_machine.proofs.ShapeLemmas.{reaction-shape, reaction-consumers}
use Rattle.strm_machine.specs.Moments.{received}
use Rattle.strm_machine.specs.declared.streams.Duty.TheVariants.{Serves, Ended}
use Rattle.strm_machine.specs.declared.replies.Reply.{Reply}
use Rattle.strm_machine.proofs.TableLemmas.{set-keeps}
use Rattle.strm_host_machine.specs.Attaching.{hosted_stream, piped, without_ends, forsaken}
use Rattle.strm_host_machine.specs.HostRefusals.{is_used}
use Rattle.strm_host_machine.specs.Settling.{with_some_received}
use Rattle.strm_host_machine.specs.World.{World, stream_in, writer_at, held_of, with_consumer, leaves_writer, leaves_reader, with_stream_in}
use Rattle.strm_host_laws.specs.HostMoments.{Part}
use Rattle.strm_host_laws.proofs.Closed.{is_new_reader}
use Rattle.strm_host_laws.proofs.PartEffects.{loose_made}
use Rattle.strm_host_laws.proofs.Fed.{set-relates}
use Rattle.strm_host_laws.proofs.Forms.{HasTurned, opened, called, reacted_to, stream_of, IsTurn, IsRound, IsCall, IsPiping, Form, BySame, ByReacting, ByForsaking, ByHosting, ByFeeding, ByGranting, ByPiping, ByTurning, ByPassing, ByCalling}
use Rattle.strm_host_laws.proofs.GoingRules.{piped_to}
use Rattle.strm_host_laws.proofs.HostsAgree.{one_stream}
use Rattle.strm_host_laws.proofs.Lives.{Lives, owned_made, drive_can, read_can}
use Rattle.strm_host_laws.proofs.PartsSeen.{IsTaken, owner_taken}
use Rattle.strm_host_laws.proofs.Rounds.{Passed}
use Rattle.strm_host_laws.proofs.TurnsStand.{Holds}
use Rattle.strm_host_laws.proofs.Turned.{turned, stream_moved, taken_by, stream_taken}
use Rattle.strm_host_laws.proofs.WrittenBack.{set_back, back-streams, back-here, back-other, turned-other, taken-other, round_other}

-- ## What is known of its stream

-- an open read: it asks for one item at most, and no value has passed
pub record IsReadOne (o : Operation) (passed : Bool) : Type 0 where
  pub left : o.left ≤ 1
  pub fresh : passed ≡ false

abbrev pub ReadsOne : Option Operation → Bool → Type 0
ReadsOne None passed = Unit {0}
ReadsOne (Some o) passed = o.is_open ≡ true → IsReadOne o passed

-- ## Where no item is received

-- no value passes; where the read end becomes loose, or a host reader's, none had passed
pub record SameValue (old new : Stream) : Type 0 where
  pub passed : new.passed ≡ old.passed
  pub count : new.received ≡ old.received
  pub loose : is_loose new.reader.owner ≡ true → (is_loose old.reader.owner ≡ true) ⊎ (old.passed ≡ false)
  pub owner : (r : ℕ) → new.reader.owner ≡ Host r → (old.reader.owner ≡ Host r) ⊎ (old.passed ≡ false)

same_value : (stream : Stream) → SameValue stream stream
same_value stream = record { passed = refl; count = refl; loose = λ l. inl l; owner = λ r e. inl e }

pub data ReadStep (old new : Stream) : Type 0 where
  Leaves : IsLeft old.reader.operation new.reader.operation → SameValue old new → ReadStep old new
  Opens : (o : Operation) → new.reader.operation ≡ Some o → o.left ≤ 1 → old.passed ≡ false → SameValue old new → ReadStep old new

pub still_read : (stream : Stream) → ReadStep stream stream
still_read stream = Leaves (Unchanged refl) (same_value stream)

-- the reads of a stream that takes such a step
pub step_reads : (old new : Stream) → ReadStep old new → ReadsOne old.reader.operation old.passed → ReadsOne new.reader.operation new.passed
step_reads old new (Leaves left same) h =
    subst (ReadsOne new.reader.operation) (sym same.passed)
    (left_by (λ q. ReadsOne q old.passed) old.reader.operation new.reader.operation left h tt (λ x k e. (let one = k e in record { left = one.left; fresh = one.fresh })))
step_reads old new (Opens o is few unpassed same) h =
    subst (λ q. ReadsOne q new.passed) (sym is) (λ e. record { left = few; fresh = same.passed ∙ unpassed })

pub step_value : (old new : Stream) → ReadStep old new → SameValue old new
step_value old new (Leaves left same) = same
step_value old new (Opens o is few unpassed same) = same

-- ## What the machine does without host ends

-- a read finds no write there
turn_reads : (guests : List Guest) (stream : Stream) (mine : Operation) → stream.writer.operation ≡ None → mine.left ≤ 1 → stream.passed ≡ false → ReadStep stream (operate Reading guests stream mine).stream
unfolding operate
turn_reads guests stream mine o few unpassed =
    cond_both (is_gone stream.writer.owner) _ _ (λ (t : Operated). ReadStep stream t.stream)
    (λ g. Leaves (Unchanged refl) (record { passed = refl; count = refl; loose = λ l. inl l; owner = λ r e. inl e }))
    (λ g. subst (λ p. ReadStep stream (finds Reading guests stream mine p).stream) (sym o)
    (Opens mine refl few unpassed (record { passed = refl; count = refl; loose = λ l. inl l; owner = λ r e. inl e })))

module _ (state : State) (s : ℕ) (held : StateIsHeld state) (k : IsTaken Writing state s) (future : (stream_at state s).kind ≡ Future) where
  -- a stream of a number set to another
  set_reads : (t : ℕ) (x : Stream) → t < length state.streams → (t ≡ s → ReadStep (stream_at state t) x) → ReadStep (stream_at state s) (get_or (set state.streams t x) s no_stream)
  set_reads t x l h =
      elim (cases_eq s t) [
        | inl e ↦ subst (λ j. ReadStep (stream_at state j) (get_or (set state.streams t x) j no_stream)) (sym e) (subst (ReadStep (stream_at state t)) (sym (get_or-set_same state.streams t x no_stream l)) (h (sym e)))
        | inr ne ↦ subst (ReadStep (stream_at state s)) (sym (get_or-set_other state.streams t s x no_stream ne)) (still_read (stream_at state s))
      ]

  written_reads : (t : ℕ) (x : Operated) (code : Option ReturnCode) → t < length state.streams → (t ≡ s → ReadStep (stream_at state t) x.stream) → ReadStep (stream_at state s) (get_or (written_back state t x code).state.streams s no_stream)
  written_reads t x (Some code) l h = set_reads t x.stream l h
  written_reads t x None l h = set_reads t x.stream l h

  shape_reads : (act : Act) (r : Reaction) → Shape state act r → ReadStep (stream_at state s) (stream_at r.state s)
  unfolding with_stream
  shape_reads act r (ByTurn side end address count a e o) =
      let t = stream_named (named state end) in
      subst (λ (x : Reaction). ReadStep (stream_at state s) (stream_at x.state s)) (sym e)
      (written_reads t (turn_on state side end address count) (turn_on state side end address count).code o.found.made
      (λ same. by side same o (held.agree.named end.guest end.handle t side o.found.held)))
    where
      by : (side : Side) → stream_named (named state end) ≡ s → Operates state side end address count → (end_of side (stream_on state end)).owner ≡ Held end.guest end.handle → ReadStep (stream_on state end) (turn_on state side end address count).stream
      by Reading same o f =
          let b = begins_by Reading end.ty (stream_on state end) end.guest address count o.kind o.unended (ap (λ i. (stream_at state i).kind) same ∙ future) in
          let left = b.left in
          turn_reads state.guests (stream_on state end) (begun_on end address count) (ap (λ i. (stream_at state i).writer.operation) same ∙ k.idle) (omega (arith, left)) b.unpassed
      by Writing same o f =
          absurd (let wrong : is_held (Held end.guest end.handle) ≡ false = ap is_held (sym f) ∙ ap (λ i. is_held (stream_at state i).writer.owner) same ∙ k.unheld in true≢false wrong)
  shape_reads act r (BySetting reply x e o) =
      subst (λ (y : Reaction). ReadStep (stream_at state s) (stream_at y.state s)) (sym e)
      (set_reads x.stream (with_end x.side (stream_at state x.stream) x.end) o.made (λ same. by x.side o.becomes.left o.becomes.owner))
    where
      by : (side : Side) → IsLeft (end_of side (stream_at state x.stream)).operation x.end.operation → x.end.owner ≡ (end_of side (stream_at state x.stream)).owner → ReadStep (stream_at state x.stream) (with_end side (stream_at state x.stream) x.end)
      by Reading left f = Leaves left (record { passed = refl; count = refl; loose = λ l. inl (ap is_loose (sym f) ∙ l); owner = λ r e. inl (sym f ∙ e) })
      by Writing left f = Leaves (Unchanged refl) (record { passed = refl; count = refl; loose = λ l. inl l; owner = λ r e. inl e })
  shape_reads act r (ByOwner reply x e o) =
      subst (λ (y : Reaction). ReadStep (stream_at state s) (stream_at y.state s)) (sym e)
      (set_reads x.stream (with_owner x.side (stream_at state x.stream) x.owner) o.made (λ same. by x.side))
    where
      by : (side : Side) → ReadStep (stream_at state x.stream) (with_owner side (stream_at state x.stream) x.owner)
      by Writing = Leaves (Unchanged refl) (record { passed = refl; count = refl; loose = λ l. inl l; owner = λ r e. inl e })
      by Reading = Leaves (Unchanged refl) (record { passed = refl; count = refl; loose = λ l. inr (o.fresh l); owner = λ r e. absurd (no_host x.owner r o.unhosted e) })
  shape_reads act r (ByTable reply x e o) = subst (λ (y : Reaction). ReadStep (stream_at state s) (stream_at y.state s)) (sym e) (still_read (stream_at state s))
  shape_reads act r (ByPair writer reader ty a e o) =
      let pair = made_pair state writer reader ty in
      let made = made_stream ty writer pair.write reader pair.read in
      subst (λ (y : Reaction). ReadStep (stream_at state s) (stream_at y.state s)) (sym e)
      (subst (ReadStep (stream_at state s)) (sym (get_or_append_left state.streams (made ∷ []) no_stream s k.made)) (still_read (stream_at state s)))
  shape_reads act r (ByGuest size a e o) = subst (λ (y : Reaction). ReadStep (stream_at state s) (stream_at y.state s)) (sym e) (still_read (stream_at state s))
  shape_reads act r (ByPut reply g address bytes e o) = subst (λ (y : Reaction). ReadStep (stream_at state s) (stream_at y.state s)) (sym e) (still_read (stream_at state s))
  shape_reads act r (ByRestShape reply e o) = subst (λ (y : Reaction). ReadStep (stream_at state s) (stream_at y.state s)) (sym e) (still_read (stream_at state s))

  pub reaction_reads : (act : Act) → Holds state → ReadStep (stream_at state s) (stream_at (reaction state act).state s)
  reaction_reads act h = shape_reads act (reaction state act) (reaction-shape state act h.sound)

-- ## What is known of the world

-- host reader r waits, and nothing is held
pub record RestsOn (w : World) (n r : ℕ) : Type 0 where
  pub resting : (consumer_at w.state r).resting ≡ true
  pub none : held_of w n ≡ []

-- of future s that host writer n writes
pub record OneWritten (w : World) (s n : ℕ) : Type 0 where
  pub count : (stream_in w s).received ≡ (if (stream_in w s).passed then 1 else 0)
  pub held : (stream_in w s).passed ≡ false → length (held_of w n) ≤ 1
  pub loose : is_loose (stream_in w s).reader.owner ≡ true → (stream_in w s).passed ≡ false
  pub reads : ReadsOne (stream_in w s).reader.operation (stream_in w s).passed
  pub rests : (r : ℕ) → (stream_in w s).reader.owner ≡ Host r → (stream_in w s).passed ≡ true → RestsOn w n r

-- one item at most was received
pub one_most : (w : World) (s n : ℕ) → OneWritten w s n → received s w.state ≤ 1
one_most w s n h = by (stream_in w s).passed h.count
  where
    by : (b : Bool) → received s w.state ≡ (if b then 1 else 0) → received s w.state ≤ 1
    by true e = omega (arith, e)
    by false e = omega (arith, e)

-- the host reader of stream s waits as it did
abbrev pub SameRest : World → World → ℕ → Type 0
SameRest w v s = (r : ℕ) → (stream_in w s).reader.owner ≡ Host r → (consumer_at v.state r).resting ≡ (consumer_at w.state r).resting

pub one_step : (w v : World) (s n : ℕ) → ReadStep (stream_in w s) (stream_in v s) → held_of v n ≡ held_of w n → SameRest w v s → OneWritten w s n → OneWritten v s n
one_step w v s n step held rest h =
    let same = step_value (stream_in w s) (stream_in v s) step in
    record {
      count = same.count ∙ h.count ∙ ap (λ p. if p then 1 else 0) (sym same.passed);
      held = λ e. subst (λ xs. length xs ≤ 1) (sym held) (h.held (sym same.passed ∙ e));
      loose = λ l. same.passed ∙ elim (same.loose l) [
        | inl x ↦ h.loose x
        | inr x ↦ x
      ];
      reads = step_reads (stream_in w s) (stream_in v s) step h.reads;
      rests = λ r o p. elim (same.owner r o) [
        | inl x ↦ (let k = h.rests r x (sym same.passed ∙ p) in record { resting = rest r x ∙ k.resting; none = held ∙ k.none })
        | inr x ↦ absurd (true≢false (sym (sym same.passed ∙ p) ∙ x))
      ];
    }

-- ## What host readers wait for

leaves_writer-resting : (old new : Owner) (w : World) (r : ℕ) → (consumer_at (leaves_writer old new w).state r).resting ≡ (consumer_at w.state r).resting
leaves_writer-resting (Host n) Gone w r = refl
leaves_writer-resting (Host n) _ w r = refl
leaves_writer-resting _ new w r = refl

leaves_reader-resting : (old new : Owner) (w : World) (r : ℕ) → (consumer_at (leaves_reader old new w).state r).resting ≡ (consumer_at w.state r).resting
leaves_reader-resting (Host n) Gone w r = set-keeps (λ (c : Consumer). c.resting) w.state.consumers n r (record (consumer_at w.state n) { duty = Ended }) no_consumer refl
leaves_reader-resting (Host n) _ w r = refl
leaves_reader-resting _ new w r = refl

pub back-resting : (w : World) (s : ℕ) (stream : Stream) (r : ℕ) → (consumer_at (with_stream_in w s stream).state r).resting ≡ (consumer_at w.state r).resting
unfolding with_stream_in
back-resting w s stream r =
    let old = stream_in w s in
    let set_there = set_back w s stream in
    leaves_writer-resting old.writer.owner stream.writer.owner (leaves_reader old.reader.owner stream.reader.owner set_there) r
    ∙ leaves_reader-resting old.reader.owner stream.reader.owner set_there r

-- after the round of a pipe
pub passed_resting : (w v : World) (t k j : ℕ) (p : Passed w t k j v) (r : ℕ) → (consumer_at v.state r).resting ≡ (consumer_at p.but.state r).resting
passed_resting w v t k j p r =
    let x = with_some_received (stream_in w t) p.count in
    let mid = ap (λ (y : World). (consumer_at y.state r).resting) p.mid_is ∙ back-resting p.but t x r in
    elim p.ends [
      | inl e ↦ ap (λ (y : World). (consumer_at y.state r).resting) e ∙ mid
      | inr e ↦ ap (λ (y : World). (consumer_at y.state r).resting) e ∙ back-resting p.mid t (without_ends (stream_in p.mid t)) r ∙ mid
    ]

-- ## Owners that go

-- of a stream whose ends may go and nothing else
record MayGo (old new : Stream) : Type 0 where
  operation : new.reader.operation ≡ old.reader.operation
  passed : new.passed ≡ old.passed
  count : new.received ≡ old.received
  loose : is_loose new.reader.owner ≡ true → is_loose old.reader.owner ≡ true
  owner : (r : ℕ) → new.reader.owner ≡ Host r → old.reader.owner ≡ Host r

goes_same : (stream : Stream) → MayGo stream stream
goes_same stream = record { operation = refl; passed = refl; count = refl; loose = λ l. l; owner = λ r e. e }

value_then : (a b c : Stream) → SameValue a b → MayGo b c → SameValue a c
value_then a b c same g = record {
  passed = g.passed ∙ same.passed;
  count = g.count ∙ same.count;
  loose = λ l. same.loose (g.loose l);
  owner = λ r e. same.owner r (g.owner r e);
}

step_then : (a b c : Stream) → ReadStep a b → MayGo b c → ReadStep a c
step_then a b c (Leaves left same) g = Leaves (subst (IsLeft a.reader.operation) (sym g.operation) left) (value_then a b c same g)
step_then a b c (Opens o is few unpassed same) g = Opens o (g.operation ∙ is) few unpassed (value_then a b c same g)

forsaken_goes : (side : Side) (stream : Stream) → MayGo stream (forsaken side stream)
forsaken_goes Writing stream = record { operation = refl; passed = refl; count = refl; loose = λ l. cc; owner = λ r e. cc }
forsaken_goes Reading stream = record { operation = refl; passed = refl; count = refl; loose = λ l. l; owner = λ r e. e }

-- stream t is written back so
back_goes : (w : World) (s t : ℕ) (x : Stream) → MayGo (stream_in w t) x → MayGo (stream_in w s) (stream_in (with_stream_in w t x) s)
back_goes w s t x g =
    subst (λ xs. MayGo (stream_in w s) (get_or xs s no_stream)) (sym (back-streams w t x))
    (set-relates MayGo w.state.streams t s x no_stream goes_same g)

-- ## A moment that is no turn of it

-- what a moment is to future s, whose host writer is n: it is a turn for a read of it, its round, or a read of it that
-- is called
pub data Busy (s : ℕ) (w : World) (part : Part) (v : World) : Type 0 where
  BusyTurn : (k : ℕ) (read : Operation) → IsTurn Reading w part v s k read → Busy s w part v
  BusyRound : (k r : ℕ) → IsRound w part v s k r → Busy s w part v
  BusyCall : (end : NamedEnd) (address count k : ℕ) → stream_of w end ≡ s → IsCall Reading w part v end address count k → Busy s w part v

-- it stays but for its read, and its reader waits as it did
pub record Quiet (s : ℕ) (w v : World) : Type 0 where
  pub step : ReadStep (stream_in w s) (stream_in v s)
  pub rest : SameRest w v s

module _ (first w : World) (s n : ℕ) (l : Lives first w) (o : (stream_in w s).writer.owner ≡ Host n) (future : (stream_in w s).kind ≡ Future) (h : OneWritten w s n) where
  made : s < length w.state.streams
  made = owned_made w.state s n l.holds o

  taken : IsTaken Writing w.state s
  taken = owner_taken Writing w.state s n l.holds o

  abbrev pub IsQuiet : World → Type 0
  IsQuiet v = Quiet s w v

  quiet_same : (v : World) → v ≡ w → IsQuiet v
  quiet_same v e = subst IsQuiet (sym e) (record { step = still_read (stream_in w s); rest = λ r f. refl })

  -- the stream is the one that it was
  quiet_stream : (v : World) → stream_in v s ≡ stream_in w s → SameRest w v s → IsQuiet v
  quiet_stream v e rest = record { step = subst (ReadStep (stream_in w s)) (sym e) (still_read (stream_in w s)); rest = rest }

  quiet_reacted : (act : Act) → IsQuiet (reacted_to w act)
  quiet_reacted act = record {
    step = reaction_reads w.state s l.holds.held taken future act l.holds;
    rest = λ r f. ap (λ cs. (get_or cs r no_consumer).resting) (reaction-consumers w.state act);
  }

  quiet_forsaken : (v : World) (act : Act) (side : Side) (t : ℕ) → v ≡ with_stream_in (reacted_to w act) t (forsaken side (stream_in (reacted_to w act) t)) → IsQuiet v
  quiet_forsaken v act side t e =
      let u = reacted_to w act in
      let now = forsaken side (stream_in u t) in
      let q = quiet_reacted act in
      subst IsQuiet (sym e)
      (record {
        step = step_then (stream_in w s) (stream_in u s) (stream_in (with_stream_in u t now) s) q.step (back_goes u s t now (forsaken_goes side (stream_in u t)));
        rest = λ r f. back-resting u t now r ∙ q.rest r f;
      })

  -- two host readers have two streams
  other_reader : (t r j : ℕ) → s ≢ t → (stream_in w t).reader.owner ≡ Host j → (stream_in w s).reader.owner ≡ Host r → r ≢ j
  other_reader t r j ne e f q =
      ne (one_stream s t (sym ((l.holds.hosts.serve Reading r s).serves f) ∙ ap (λ i. (consumer_at w.state i).duty) q ∙ (l.holds.hosts.serve Reading j t).serves e))

  quiet_piped : (v : World) (t j : ℕ) → IsPiping w v t j → IsQuiet v
  quiet_piped v t j p =
      let new = is_new_reader w j t p.unrefused in
      let u = with_consumer w j (record no_consumer { duty = Serves t }) in
      let pipe = piped (stream_in w t) j in
      let last = without_ends pipe in
      let stays = first_pipe t j new.unused new.loose in
      elim p.is [
        | inl e ↦ subst IsQuiet (sym e) stays
        | inr e ↦ subst IsQuiet (sym e) (record {
          step = step_then (stream_in w s) (stream_in (piped_to w t j) s) (stream_in (with_stream_in (piped_to w t j) t last) s) stays.step
              (back_goes (piped_to w t j) s t last (subst (λ x. MayGo x last) (sym (back-here u t pipe (loose_made w.state t new.loose))) (record { operation = refl; passed = refl; count = refl; loose = λ k. cc; owner = λ r f. cc })));
          rest = λ r f. back-resting (piped_to w t j) t last r ∙ stays.rest r f;
        })
      ]
    where
      first_pipe : (t j : ℕ) → is_used (consumer_at w.state j).duty ≡ false → is_loose (stream_in w t).reader.owner ≡ true → IsQuiet (piped_to w t j)
      first_pipe t j unused loose =
          let given = record no_consumer { duty = Serves t } in
          let u = with_consumer w j given in
          let pipe = piped (stream_in w t) j in
          let other : (r : ℕ) → (stream_in w s).reader.owner ≡ Host r → r ≢ j =
          λ r f q.
          let used : is_used (consumer_at w.state j).duty ≡ true = ap (λ i. is_used (consumer_at w.state i).duty) (sym q) ∙ ap is_used ((l.holds.hosts.serve Reading r s).serves f) in
          true≢false (sym used ∙ unused) in
          record {
            step = elim (cases_eq s t) [
              | inl q ↦
                  let here : stream_in (piped_to w t j) s ≡ pipe = ap (stream_in (piped_to w t j)) q ∙ back-here u t pipe (loose_made w.state t loose) in
                  let unpassed = h.loose (ap (λ i. is_loose (stream_in w i).reader.owner) q ∙ loose) in
                  let was : stream_in w s ≡ stream_in w t = ap (stream_in w) q in
                  subst (ReadStep (stream_in w s)) (sym here)
                  (Leaves (Unchanged (sym (ap (λ (x : Stream). x.reader.operation) was)))
                  (record { passed = ap (λ (x : Stream). x.passed) (sym was); count = ap (λ (x : Stream). x.received) (sym was); loose = λ k. cc; owner = λ r f. inr unpassed }))
              | inr ne ↦ subst (ReadStep (stream_in w s)) (sym (back-other u t pipe s ne)) (still_read (stream_in w s))
            ];
            rest = λ r f. back-resting u t pipe r ∙ ap (λ (c : Consumer). c.resting) (get_or-set_other w.state.consumers j r given no_consumer (other r f));
          }

  -- ## The turns of other streams

  turned_resting : (side : Side) (u x : World) (t k : ℕ) (operation : Operation) → HasTurned side u t k operation x → (r : ℕ) → (consumer_at x.state r).resting ≡ (consumer_at u.state r).resting
  turned_resting Reading u x t k operation i r =
      ap (λ (y : World). (consumer_at y.state r).resting) i.is ∙ back-resting (turned u t k operation i.items i.producer i.writer) t (stream_moved u t operation i.items i.result) r
  turned_resting Writing u x t k operation i r =
      ap (λ (y : World). (consumer_at y.state r).resting) i.is
      ∙ back-resting (taken_by u t k operation i.said i.more) t (stream_taken u t operation i.said) r
      ∙ set-keeps (λ (c : Consumer). c.resting) u.state.consumers k r _ no_consumer refl

  quiet_turn : (part : Part) (v : World) (t k : ℕ) (read : Operation) → IsTurn Reading w part v t k read → s ≢ t → IsQuiet v
  quiet_turn part v t k read i ne =
      quiet_stream v (turned-other w t k read v i.turned (drive_can first w part v t k read l i) s ne) (λ r f. turned_resting Reading w v t k read i.turned r)

  -- no write waits on it
  quiet_taking : (part : Part) (v : World) (t k : ℕ) (write : Operation) → IsTurn Writing w part v t k write → IsQuiet v
  quiet_taking part v t k write i =
      quiet_stream v
      (taken-other w t k write v i.turned s (λ q. let none = taken.idle in let wrong : Some write ≡ None = sym i.operation_is ∙ ap (λ a. (stream_in w a).writer.operation) (sym q) ∙ none in cc))
      (λ r f. turned_resting Writing w v t k write i.turned r)

  -- a call on another stream
  quiet_call : (side : Side) (part : Part) (v : World) (end : NamedEnd) (address count k : ℕ) → (c : IsCall side w part v end address count k) → s ≢ stream_of w end
      → stream_in c.mid s ≡ stream_in (opened side w (stream_of w end) (called end address count)) s → IsQuiet v
  quiet_call side part v end address count k c ne mid =
      let t = stream_of w end in
      let operation = called end address count in
      let open_stream = with_operation side (stream_in w t) operation in
      let told = delivered side (stream_in c.mid t) in
      let first = back-other w t open_stream s ne in
      let rest = λ (r : ℕ). turned_resting side (opened side w t operation) c.mid t k operation c.turned r ∙ back-resting w t open_stream r in
      elim c.told [
        | inl e ↦ quiet_stream v (ap (λ x. stream_in x s) e ∙ mid ∙ first) (λ r f. ap (λ (x : World). (consumer_at x.state r).resting) e ∙ rest r)
        | inr e ↦ quiet_stream v (ap (λ x. stream_in x s) e ∙ back-other c.mid t told s ne ∙ mid ∙ first) (λ r f. ap (λ (x : World). (consumer_at x.state r).resting) e ∙ back-resting c.mid t told r ∙ rest r)
      ]

  quiet_read : (part : Part) (v : World) (end : NamedEnd) (address count k : ℕ) → IsCall Reading w part v end address count k → s ≢ stream_of w end → IsQuiet v
  quiet_read part v end address count k c ne =
      let t = stream_of w end in
      let read = called end address count in
      quiet_call Reading part v end address count k c ne
      (turned-other (opened Reading w t read) t k read c.mid c.turned (read_can first w part v end address count k l c) s ne)

  quiet_write : (part : Part) (v : World) (end : NamedEnd) (address count k : ℕ) → IsCall Writing w part v end address count k → IsQuiet v
  quiet_write part v end address count k c =
      let t = stream_of w end in
      let write = called end address count in
      let ne : s ≢ t = λ q.
      let own = l.holds.held.agree.named end.guest end.handle t Writing c.begun.found.held in
      true≢false (sym (ap is_held own) ∙ ap (λ i. is_held (stream_in w i).writer.owner) (sym q) ∙ taken.unheld) in
      quiet_call Writing part v end address count k c ne (taken-other (opened Writing w t write) t k write c.mid c.turned s ne)

  quiet_round : (part : Part) (v : World) (t k j : ℕ) → IsRound w part v t k j → s ≢ t → IsQuiet v
  quiet_round part v t k j i ne =
      let p = i.passed in
      quiet_stream v (round_other w t k j v p s ne)
      (λ r f.
      passed_resting w v t k j p r
      ∙ ap (λ (y : World). (consumer_at y.state r).resting) p.but_is
      ∙ ap (λ (c : Consumer). c.resting) (get_or-set_other w.state.consumers j r p.consumer no_consumer (other_reader t r j ne i.read f)))

  -- ## Any form

  pub form_quiet : (part : Part) (reply : Reply) (v : World) → Form w part reply v → IsQuiet v ⊎ Busy s w part v
  form_quiet part reply v (BySame m e) = inl (quiet_same v e)
  form_quiet part reply v (ByReacting act m e) = inl (subst IsQuiet (sym e) (quiet_reacted act))
  form_quiet part reply v (ByForsaking act side t k m f) = inl (quiet_forsaken v act side t f.is)
  form_quiet part reply v (ByHosting k p r e f) =
      inl (quiet_stream v (ap (λ x. stream_in x s) f ∙ get_or_append_left w.state.streams (hosted_stream (writer_at w k) k ∷ []) no_stream s made) (λ r g. ap (λ (x : World). (consumer_at x.state r).resting) f))
  form_quiet part reply v (ByFeeding k bytes m e) = inl (quiet_stream v (ap (λ x. stream_in x s) e) (λ r g. ap (λ (x : World). (consumer_at x.state r).resting) e))
  form_quiet part reply v (ByGranting k count m e) = inl (quiet_stream v (ap (λ x. stream_in x s) e) (λ r g. ap (λ (x : World). (consumer_at x.state r).resting) e))
  form_quiet part reply v (ByPiping t j m p) = inl (quiet_piped v t j p)
  form_quiet part reply v (ByTurning Reading t k read m i) =
      elim (cases_eq t s) [
        | inl e ↦ inr (BusyTurn k read (subst (λ a. IsTurn Reading w part v a k read) e i))
        | inr ne ↦ inl (quiet_turn part v t k read i (λ e. ne (sym e)))
      ]
  form_quiet part reply v (ByTurning Writing t k write m i) = inl (quiet_taking part v t k write i)
  form_quiet part reply v (ByPassing t k j m i) =
      elim (cases_eq t s) [
        | inl e ↦ inr (BusyRound k j (subst (λ a. IsRound w part v a k j) e i))
        | inr ne ↦ inl (quiet_round part v t k j i (λ e. ne (sym e)))
      ]
  form_quiet part reply v (ByCalling Reading end address count k m c) =
      elim (cases_eq (stream_of w end) s) [
        | inl e ↦ inr (BusyCall end address count k e c)
        | inr ne ↦ inl (quiet_read part v end address count k c (λ e. ne (sym e)))
      ]
  form_quiet part reply v (ByCalling Writing end address count k m c) = inl (quiet_write part v end address count k c)
