-- Whether its host writers hold items is known of a store after every step, where it was before.
use Rattle.std.proofs.Common.{◌≡◌, ◌≢◌, ℕ, zero, suc, ◌<◌, Bool, true, false, List, [], ◌∷◌, ◌++◌, length, drop, get_or, set, Option, Some, None, Ok, refl, sym, ap, subst, ◌∙◌, inl, inr, arith}
use Rattle.std.proofs.Math.Seq.{drop-length}
use Rattle.std.proofs.lemmas.Bool.{cases_eq, cases_lt, cond_both}
use Rattle.std.proofs.lemmas.List.{append-nil, get_or-set_same, get_or-set_other, get_or_past, length-set}
use Rattle.std.specs.Prelude.{slice_set}
use Rattle.strm_codes.specs.declared.refusals.Refusal.{Refusal}
use Rattle.strm_buffers.specs.Said.{WriterSaid}
use Rattle.strm_buffers.specs.Tells.{WriterTells, Tells, no_tells}
use Rattle.strm_machine.specs.State.{State, no_producer, no_consumer, producer_at}
use Rattle.strm_machine.specs.Reactions.{Reaction, reaction}
use Rattle.strm_machine.specs.declared.acts.Act.{Act}
use Rattle.strm_machine.specs.declared.acts.Act.TheVariants.{OnHost, Drive}
use Rattle.strm_machine.specs.declared.acts.HostAct.TheVariants.{Feed, Grant}
use Rattle.strm_machine.specs.declared.replies.Reply.{Reply}
use Rattle.strm_machine.specs.declared.streams.Duty.TheVariants.{Unused, Serves, Ended}
use Rattle.strm_machine.specs.declared.streams.Owner.{Owner}
use Rattle.strm_machine.specs.declared.streams.Owner.TheVariants.{Host, Gone}
use Rattle.strm_machine.specs.declared.streams.Producer.{Producer}
use Rattle.strm_machine.specs.declared.streams.Stream.{Stream}
use Rattle.strm_machine.proofs.ReactionLemmas.{reaction-trapped}
use Rattle.strm_machine.proofs.ShapeLemmas.{reaction-producers}
use Rattle.strm_machine.proofs.TableLemmas.{set-keeps}
use Rattle.strm_host_machine.specs.Ends.{Writer, no_writer, writer_in, polled_writer, given_writer, fed_writer, closed_writer}
use Rattle.strm_host_machine.specs.World.{World, stream_in, writer_at, with_consumer, leaves_writer, leaves_reader, with_stream_in}
use Rattle.strm_host_machine.specs.Outcomes.{Outcome, Goes, Stops, Stuck, then_on}
use Rattle.strm_host_machine.specs.Attaching.{has_items, new_producer, piped}
use Rattle.strm_host_machine.specs.Releasing.{KnowsHeld, KnowsHeldIn}
use Rattle.strm_host_machine.specs.Driving.{driven, drive_turn, round_of}
use Rattle.strm_host_machine.specs.HostRefusals.{refusal_in}
use Rattle.strm_host_machine.specs.Steps.{outcome, unless_refused_in, performs_in}
use Rattle.strm_host_machine.specs.Does.{LogBegins as BeginsWith, AllBegin, saids, Extends, held_while, writers_from, world_of, Does}
use Rattle.strm_host_laws.specs.HostMoments.{Acts, Turns}
use Rattle.strm_host_laws.proofs.GoingRules.{Begins, Stopping, Rules, Comes}
use Rattle.strm_host_laws.proofs.Goings.{part-comes, feed-comes, grant-comes}
use Rattle.strm_host_laws.proofs.Rounds.{writer_there}

-- ONE CHANGE

-- what is kept of host writers, and what they hold
abbrev Known : List Producer → List Writer → Type 0
Known ps ws =
    (k s : ℕ) → (get_or ps k no_producer).duty ≡ Serves s → (get_or ps k no_producer).holding ≡ has_items (get_or ws k no_writer).holds

unused_serves : (s : ℕ) → Unused ≡ Serves s → ⊥
unused_serves s e = cc

ended_serves : (s : ℕ) → Ended ≡ Serves s → ⊥
ended_serves s e = cc

-- one that serves is there
serving_there : (ps : List Producer) (k s : ℕ) → (get_or ps k no_producer).duty ≡ Serves s → k < length ps
serving_there ps k s e =
    elim (cases_lt k (length ps)) [
      | inl l ↦ l
      | inr l ↦ absurd (unused_serves s (ap (λ (x : Producer). x.duty) (sym (get_or_past ps k no_producer l)) ∙ e))
    ]

-- something else is kept of one host writer, and no other one tells something else
known_put : (ps : List Producer) (ws now : List Writer) (n : ℕ) (p : Producer) → ((k : ℕ) → k ≢ n → get_or now k no_writer ≡ get_or ws k no_writer) → ((s : ℕ) → p.duty ≡ Serves s → p.holding ≡ has_items (get_or now n no_writer).holds) → Known ps ws → Known (set ps n p) now
known_put ps ws now n p others here h k s e =
    elim (cases_eq k n) [
      | inl same ↦
          let long = length-set ps n p in
          let there : n < length (set ps n p) = subst (λ i. i < length (set ps n p)) same (serving_there (set ps n p) k s e) in
          let is : get_or (set ps n p) k no_producer ≡ p = ap (λ i. get_or (set ps n p) i no_producer) same ∙ get_or-set_same ps n p no_producer (omega (arith, long, there)) in
          ap (λ (x : Producer). x.holding) is
          ∙ here s (ap (λ (x : Producer). x.duty) (sym is) ∙ e)
          ∙ ap (λ i. has_items (get_or now i no_writer).holds) (sym same)
      | inr ne ↦
          let stays = get_or-set_other ps n k p no_producer ne in
          ap (λ (x : Producer). x.holding) stays
          ∙ h k s (ap (λ (x : Producer). x.duty) (sym stays) ∙ e)
          ∙ ap (λ (x : Writer). has_items x.holds) (sym (others k ne))
    ]

-- it tells something else too
known_set : (ps : List Producer) (ws : List Writer) (n : ℕ) (p : Producer) (w : Writer) → ((s : ℕ) → p.duty ≡ Serves s → p.holding ≡ has_items (get_or (set ws n w) n no_writer).holds) → Known ps ws → Known (set ps n p) (set ws n w)
known_set ps ws n p w here = known_put ps ws (set ws n w) n p (λ k ne. get_or-set_other ws n k w no_writer ne) here

-- a writer that gave items holds the others, also where there is none
given_holds : (ws : List Writer) (n k : ℕ) → (get_or (set ws n (given_writer (get_or ws n no_writer) k)) n no_writer).holds ≡ drop k (get_or ws n no_writer).holds
given_holds [] n zero = refl
given_holds [] n (suc k) = refl
given_holds (w ∷ ws) zero k = refl
given_holds (w ∷ ws) (suc n) k = given_holds ws n k

-- ALL CHANGES

abbrev Knows : World → World → Type 0
Knows w v = KnowsHeldIn w → KnowsHeldIn v

leaves_writer-knows : (old new : Owner) (w : World) → Knows w (leaves_writer old new w)
leaves_writer-knows (Host n) Gone w h =
    known_set w.state.producers w.writers n (record (producer_at w.state n) { duty = Ended }) (closed_writer (writer_at w n)) (λ s e. absurd (ended_serves s e)) h
leaves_writer-knows (Host n) _ w h = h
leaves_writer-knows _ new w h = h

leaves_reader-knows : (old new : Owner) (w : World) → Knows w (leaves_reader old new w)
leaves_reader-knows (Host r) Gone w h = h
leaves_reader-knows (Host r) _ w h = h
leaves_reader-knows _ new w h = h

stream-knows : (w : World) (s : ℕ) (stream : Stream) → Knows w (with_stream_in w s stream)
unfolding with_stream_in
stream-knows w s stream h =
    let old = stream_in w s in
    let v = record w { state = record w.state { streams = slice_set w.state.streams s stream } } in
    leaves_writer-knows old.writer.owner stream.writer.owner (leaves_reader old.reader.owner stream.reader.owner v)
    (leaves_reader-knows old.reader.owner stream.reader.owner v h)

begins : Begins Knows
begins = record {
  stays = λ w h. h;
  joins = λ a b c f g h. g (f h);
  opens = λ w s stream e. stream-knows w s stream;
  says = λ w n room said more e.
      known_set w.state.producers w.writers n _ (polled_writer (writer_at w n) room said more)
      (λ s d. ap (λ (x : Writer). has_items x.holds) (sym (get_or-set_same w.writers n (polled_writer (writer_at w n) room said more) no_writer (writer_there w n said more e))));
  takes = λ w r took said more e h. h;
  gives = λ w n k. known_set w.state.producers w.writers n _ (given_writer (writer_at w n) k) (λ s d. ap has_items (sym (given_holds w.writers n k)));
  keeps = λ w n items h. h;
}

rules : Rules Knows
rules = record {
  begins = begins;
  reacts = λ w act h. subst (λ ps. Known ps w.writers) (sym (reaction-producers w.state act)) h;
  lowers = λ w guests h. h;
  counts = λ w r answer taken h. h;
  rests = λ w r answer taken h. h;
  leaves = λ w s stream l. stream-knows w s stream;
  hosts = λ w n e. known_put w.state.producers w.writers w.writers n (new_producer (length w.state.streams) (writer_at w n)) (λ k ne. refl) (λ s d. refl);
  pipes = λ w s r e h. stream-knows (with_consumer w r (record no_consumer { duty = Serves s })) s (piped (stream_in w s) r) h;
}

-- STEPS

-- whatever becomes of it where it stops
abbrev Any : World → World → Type 0
Any w v = Unit {0}

stopping : Stopping Any
stopping = record {
  begins = record { stays = λ w. tt; joins = λ a b c f g. tt; opens = λ w s stream e. tt; says = λ w n room said more e. tt; takes = λ w r took said more e. tt; gives = λ w n k. tt; keeps = λ w n items. tt };
  polls = λ w n room said more e. tt;
}

abbrev KnownAfter : World → Outcome → Type 0
KnownAfter w o = Comes Knows Any w o

behind : (w v : World) (o : Outcome) → Knows w v → KnownAfter v o → KnownAfter w o
behind w v (Goes reply u) f g = λ h. g (f h)
behind w v (Stops stop writers readers) f g = record { at = g.at; kept = tt; is = g.is; read = g.read }
behind w v Stuck f g = tt

then-knows : (w : World) (o : Outcome) (next : World → Outcome) → KnownAfter w o → ((v : World) → KnownAfter v (next v)) → KnownAfter w (then_on o next)
then-knows w (Goes reply v) next f h = behind w v (next v) f (h v)
then-knows w (Stops stop writers readers) next f h = f
then-knows w Stuck next f h = tt

driven-knows : (w : World) (round : List ℕ) → KnownAfter w (driven w round)
driven-knows w [] = λ h. h
driven-knows w (s ∷ more) = then-knows w (drive_turn w s) (λ after. driven after more) (part-comes Knows Any rules stopping w (Turns s) refl refl) (λ v. driven-knows v more)

drive-knows : (w : World) → KnownAfter w (outcome w Drive)
unfolding outcome performs_in
drive-knows w =
    cond_both w.state.trapped _ _ (KnownAfter w)
    (λ t. record { at = w; kept = tt; is = refl; read = refl })
    (λ t. by (refusal_in w Drive))
  where
    by : (o : Option Refusal) → KnownAfter w (unless_refused_in w Drive o)
    by (Some r) = λ h. h
    by None = driven-knows w (round_of w)

pub outcome-knows : (w : World) (act : Act) → KnownAfter w (outcome w act)
outcome-knows w (OnHost n (Feed bytes)) =
    feed-comes Knows Any rules stopping w n bytes
    (λ e h k s d. h k s d ∙ sym (set-keeps (λ (x : Writer). has_items x.holds) w.writers n k (fed_writer (writer_at w n) bytes) no_writer refl))
outcome-knows w (OnHost r (Grant count)) = grant-comes Knows Any rules stopping w r count (λ e h. h)
outcome-knows w Drive = drive-knows w
outcome-knows w act = part-comes Knows Any rules stopping w (Acts act) refl refl

-- CALLS

-- one that serves tells what it holds
held_of-told : (ps : List Producer) (ws : List WriterTells) (logs : List (List WriterSaid)) (n s : ℕ) → (get_or ps n no_producer).duty ≡ Serves s → (writer_in (writers_from ps ws logs) n).holds ≡ (get_or ws n no_tells).holds
held_of-told ps [] logs n s e = refl
held_of-told [] (x ∷ ws) logs n s e = absurd (unused_serves s e)
held_of-told (p ∷ ps) (x ∷ ws) logs zero s e = ap (λ d. held_while d x.holds) e
held_of-told (p ∷ ps) (x ∷ ws) logs (suc n) s e = held_of-told ps ws (drop 1 logs) n s e

begins_itself : {A : Type 0} (said : List A) → BeginsWith said said
begins_itself said = sym (ap (λ rest. said ++ rest) (drop-length said) ∙ append-nil said)

all_begin : {A : Type 0} (said : List (List A)) → AllBegin said said
all_begin [] = tt
all_begin (said ∷ more) = (begins_itself said, all_begin more)

-- a trapped store does nothing
untrapped : (w v : World) (act : Act) (reply : Reply) → outcome w act ≡ Goes reply v → w.state.trapped ≡ false
unfolding outcome
untrapped w v act reply e = by w.state.trapped refl
  where
    by : (b : Bool) → w.state.trapped ≡ b → b ≡ false
    by false t = refl
    by true t = cc (t, e)

pub call-knows : (old new : State) (tells told : Tells) (reply : Reply) (act : Act) → Does old new tells told (Ok reply) (λ w. outcome w act) → KnowsHeld old tells → KnowsHeld new told
call-knows old new tells told reply act d h t n s e =
    let logs = saids told in
    let extends : Extends told logs = (all_begin logs.writers, all_begin logs.readers) in
    let goes = d.gives logs extends in
    let before = world_of old tells logs in
    let after = world_of new told logs in
    let was : KnowsHeldIn before = λ k i f. h (untrapped before after act reply goes) k i f ∙ ap has_items (sym (held_of-told old.producers tells.writers logs.writers k i f)) in
    let step : Knows before after = subst (KnownAfter before) goes (outcome-knows before act) in
    step was n s e ∙ ap has_items (held_of-told new.producers told.writers logs.writers n s e)

-- one that touches no host end
pub reaction-knows : (old : State) (tells : Tells) (act : Act) → KnowsHeld old tells → KnowsHeld (reaction old act).state tells
reaction-knows old tells act h t n s e =
    let same = reaction-producers old act in
    ap (λ ps. (get_or ps n no_producer).holding) same
    ∙ h (by old.trapped refl) n s (ap (λ ps. (get_or ps n no_producer).duty) (sym same) ∙ e)
  where
    by : (b : Bool) → old.trapped ≡ b → old.trapped ≡ false
    by false u = u
    by true u = sym (ap (λ (r : Reaction). r.state.trapped) (reaction-trapped old act u)) ∙ t
