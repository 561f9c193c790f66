-- Every part of a run does to the state one of the few ways, drops of ends and what is done to host ends among them.
use Rattle.std.proofs.Common.{◌≡◌, ◌≢◌, ℕ, ◌<◌, true, false, length, get_or, set, Option, Some, None, refl, sym, ap, subst, ◌∙◌, ◌⊎◌, inl, inr}
use Rattle.std.proofs.lemmas.Bool.{cond_both, cases_lt}
use Rattle.std.proofs.lemmas.List.{get_or-set_same, get_or-set_other, get_or_past, length-set, set-set}
use Rattle.strm_codes.specs.declared.refusals.Refusal.{Refusal}
use Rattle.strm_machine.specs.State.{State, no_consumer, no_stream, stream_at, is_loose, is_host, is_gone}
use Rattle.strm_machine.specs.Hosting.{HostsHold}
use Rattle.strm_machine.specs.Sides.{opposite, end_of}
use Rattle.strm_machine.specs.Endings.{dropped}
use Rattle.strm_machine.specs.Reactions.{Reaction, with_stream_at, reaction}
use Rattle.strm_machine.specs.declared.acts.Act.{Act}
use Rattle.strm_machine.specs.declared.acts.Act.TheVariants.{OnHost}
use Rattle.strm_machine.specs.declared.acts.EndAct.TheVariants.{Operate}
use Rattle.strm_machine.specs.declared.acts.HostAct.{HostAct}
use Rattle.strm_machine.specs.declared.acts.HostAct.TheVariants.{New, Feed, Pipe, Grant}
use Rattle.strm_machine.specs.declared.streams.Duty.TheVariants.{Serves}
use Rattle.strm_machine.specs.declared.streams.Owner.{Owner}
use Rattle.strm_machine.specs.declared.streams.Owner.TheVariants.{Loose, Host, Gone}
use Rattle.strm_machine.specs.declared.streams.Side.{Side}
use Rattle.strm_machine.specs.declared.streams.Side.TheVariants.{Writing, Reading}
use Rattle.strm_machine.specs.declared.streams.Stream.{Stream}
use Rattle.strm_machine.specs.declared.replies.Reply.{Reply}
use Rattle.strm_machine.specs.declared.replies.Reply.TheVariants as replies
use Rattle.strm_machine.proofs.ReactionLemmas.{reaction-performs, reaction-refused}
use Rattle.strm_host_machine.specs.World.{World, stream_in, writer_at, with_consumer, leaves_writer, leaves_reader, with_stream_in}
use Rattle.strm_host_machine.specs.Outcomes.{Outcome, Goes, Stops, Stuck}
use Rattle.strm_host_machine.specs.Settling.{with_some_received}
use Rattle.strm_host_machine.specs.Attaching.{hosted_stream, has_items, hosts_new, piped, is_dry, without_ends, pipes, forsaken, forsakes}
use Rattle.strm_host_machine.specs.HostRefusals.{refusal_in}
use Rattle.strm_host_machine.specs.Steps.{reacts, drops_in, on_host, performs_by, performs_in, unless_refused_in, outcome}
use Rattle.strm_host_machine.proofs.SettleLemmas.{leaves_writer-stays}
use Rattle.strm_host_machine.proofs.TouchLemmas.{names_none, refusal-none, IsDrop, touch-by}
use Rattle.strm_host_machine.proofs.OutcomeLemmas.{refusal_in-on_end}
use Rattle.strm_host_laws.specs.HostMoments.{Part, Acts, Turns, HostMoment, part_on}
use Rattle.strm_host_laws.proofs.Chains.{is_part, Follows}
use Rattle.strm_host_laws.proofs.GoingRules.{with_state, written-streams}
use Rattle.strm_machine.proofs.TableLemmas.{set-keeps}
use Rattle.strm_host_laws.proofs.Closed.{is_new, is_new_reader}
use Rattle.strm_host_laws.proofs.HostTurns.{Going, with_ended, with_done, with_stream_in-gone, with_stream_in-both}
use Rattle.strm_machine.proofs.HostLemmas.{host_number}
use Rattle.strm_host_laws.proofs.Effects.{piped_in, Piped, ByStaying, ByGone, ByDry, Passes, forsaken_by, is_idle, Effect, ByReaction, ByRest, ByHosting, ByPiping, ByForsaking, EffectIn}
use Rattle.strm_host_laws.proofs.TurnEffects.{drive_effect, IsOf, reacts_is, reacts_effect, operates_effect}

-- ## Ends that are dropped

-- the end on a side of stream s is gone after this step, and the other one is whose it was
pub record DropsEnd (state : State) (act : Act) (s : ℕ) (side : Side) : Type 0 where
  pub gone : is_gone (end_of side (stream_at (reaction state act).state s)).owner ≡ true
  pub owner : (end_of (opposite side) (stream_at (reaction state act).state s)).owner ≡ (end_of (opposite side) (stream_at state s)).owner
  pub dropped_is : stream_at (reaction state act).state s ≡ dropped side (stream_at state s)
  pub others : (k : ℕ) → k ≢ s → stream_at (reaction state act).state k ≡ stream_at state k
  pub done : (reaction state act).reply ≡ replies.Done
  pub drops : is_idle (Acts act) ≡ false

-- a stream whose host end across goes, by its owners
forsaken_gone : (side : Side) (stream : Stream) → (end_of (opposite side) (forsaken side stream)).owner ≡ Gone
forsaken_gone Writing stream = refl
forsaken_gone Reading stream = refl

forsaken_stays : (side : Side) (stream : Stream) → (end_of (opposite (opposite side)) (forsaken side stream)).owner ≡ (end_of (opposite (opposite side)) stream).owner
forsaken_stays Writing stream = refl
forsaken_stays Reading stream = refl

module _ (w : World) (s : ℕ) (side : Side) (act : Act) (n : ℕ) (d : DropsEnd w.state act s side) (o : (end_of (opposite side) (stream_in w s)).owner ≡ Host n) where
  forsaken_effect : (reply : Reply) (v : World) → IsOf w act reply v → EffectIn w (Acts act) reply (with_stream_in v s (forsaken side (stream_in v s)))
  forsaken_effect reply v p =
      let owned : (end_of (opposite side) (stream_in v s)).owner ≡ Host n = ap (λ (x : State). (end_of (opposite side) (stream_at x s)).owner) p.1 ∙ d.owner ∙ o in
      ByForsaking act refl (record {
        stream = s;
        side = side;
        host = n;
        gone = d.gone;
        owner = d.owner ∙ o;
        dropped_is = d.dropped_is;
        others = d.others;
        done = d.done;
        drops = d.drops;
        reply_is = p.0;
        is =
            with_stream_in-gone (opposite side) v s n (forsaken side (stream_in v s)) owned (forsaken_gone side (stream_in v s)) (forsaken_stays side (stream_in v s))
            ∙ ap (λ (x : State). forsaken_by side x s n) p.1;
      })

  forsakes_effect : (o : Outcome) → Going (IsOf w act) o → Going (EffectIn w (Acts act)) (forsakes o s side)
  forsakes_effect (Goes reply v) h = forsaken_effect reply v h
  forsakes_effect (Stops stop writers readers) h = tt
  forsakes_effect Stuck h = tt

drops_effect : (w : World) (s : ℕ) (side : Side) (act : Act) → is_idle (Acts act) ≡ false → (is_host (end_of (opposite side) (stream_in w s)).owner ≡ true → DropsEnd w.state act s side) → Going (EffectIn w (Acts act)) (drops_in w s side act)
drops_effect w s side act i d =
    cond_both (is_host (end_of (opposite side) (stream_in w s)).owner) _ _ (Going (EffectIn w (Acts act)))
    (λ e. let host = host_number (end_of (opposite side) (stream_in w s)).owner e in forsakes_effect w s side act host.0 (d e) host.1 (reacts w act) (reacts_is w act))
    (λ e. reacts_effect w act i)

pub host_made : (state : State) (s : ℕ) (side : Side) → is_host (end_of side (stream_at state s)).owner ≡ true → s < length state.streams
host_made state s side e =
    elim (cases_lt s (length state.streams)) [
      | inl l ↦ l
      | inr l ↦ absurd (let none : is_host (end_of side (stream_at state s)).owner ≡ false = ap (λ (st : Stream). is_host (end_of side st).owner) (get_or_past state.streams s no_stream l) ∙ nobody side in cc)
    ]
  where
    nobody : (side : Side) → is_host (end_of side no_stream).owner ≡ false
    nobody Writing = refl
    nobody Reading = refl

-- its stream is another then
module _ (old new : State) (s : ℕ) (p : Passes old new s) where
  pub passing_made : s < length old.streams
  passing_made = host_made old s Writing (ap is_host p.wrote)

  pub passing_here : stream_at p.mid s ≡ with_some_received (stream_at old s) p.count
  passing_here = ap (λ (x : State). stream_at x s) p.mid_is ∙ get_or-set_same old.streams s (with_some_received (stream_at old s) p.count) no_stream passing_made

  pub passing_streams : (new.streams ≡ set old.streams s (with_some_received (stream_at old s) p.count)) ⊎ (new.streams ≡ set old.streams s (without_ends (with_some_received (stream_at old s) p.count)))
  passing_streams =
      let mid = ap (λ (x : State). x.streams) p.mid_is in
      elim p.ends [
        | inl e ↦ inl (ap (λ (x : State). x.streams) e ∙ mid)
        | inr e ↦ inr (
            ap (λ (x : State). x.streams) e
            ∙ ap (λ xs. set xs s (without_ends (stream_at p.mid s))) mid
            ∙ set-set old.streams s (with_some_received (stream_at old s) p.count) (without_ends (stream_at p.mid s))
            ∙ ap (λ x. set old.streams s (without_ends x)) passing_here
            )
      ]

  -- no memory changes
  pub passing_guests : new.guests ≡ old.guests
  passing_guests =
      let mid = ap (λ (x : State). x.guests) p.mid_is in
      elim p.ends [
        | inl e ↦ ap (λ (x : State). x.guests) e ∙ mid
        | inr e ↦ ap (λ (x : State). x.guests) e ∙ mid
      ]

  -- a property of streams that the round keeps
  pub passing_keeps : {A : Type 0} (f : Stream → A) → f (with_some_received (stream_at old s) p.count) ≡ f (stream_at old s) → f (without_ends (with_some_received (stream_at old s) p.count)) ≡ f (stream_at old s) → (k : ℕ) → f (stream_at new k) ≡ f (stream_at old k)
  passing_keeps f e g k =
      elim passing_streams [
        | inl x ↦ ap (λ xs. f (get_or xs k no_stream)) x ∙ set-keeps f old.streams s k (with_some_received (stream_at old s) p.count) no_stream e
        | inr x ↦ ap (λ xs. f (get_or xs k no_stream)) x ∙ set-keeps f old.streams s k (without_ends (with_some_received (stream_at old s) p.count)) no_stream g
      ]

  pub passing_other : (k : ℕ) → k ≢ s → stream_at new k ≡ stream_at old k
  passing_other k ne =
      elim passing_streams [
        | inl x ↦ ap (λ xs. get_or xs k no_stream) x ∙ get_or-set_other old.streams s k (with_some_received (stream_at old s) p.count) no_stream ne
        | inr x ↦ ap (λ xs. get_or xs k no_stream) x ∙ get_or-set_other old.streams s k (without_ends (with_some_received (stream_at old s) p.count)) no_stream ne
      ]

  pub passing_many : length new.streams ≡ length old.streams
  passing_many =
      elim passing_streams [
        | inl x ↦ ap length x ∙ length-set old.streams s (with_some_received (stream_at old s) p.count)
        | inr x ↦ ap length x ∙ length-set old.streams s (without_ends (with_some_received (stream_at old s) p.count))
      ]

-- a part that names no host end
part_busy : (act : Act) → names_none act ≡ true → is_idle (Acts act) ≡ false
part_busy (OnHost n act) e = cc
part_busy _ e = refl

-- the stream of an end that is dropped
dropped_gone : (side : Side) (stream : Stream) → is_gone (end_of side (dropped side stream)).owner ≡ true
unfolding dropped
dropped_gone Writing stream = refl
dropped_gone Reading stream = refl

dropped_other : (side : Side) (stream : Stream) → (end_of (opposite side) (dropped side stream)).owner ≡ (end_of (opposite side) stream).owner
unfolding dropped
dropped_other Writing stream = refl
dropped_other Reading stream = refl

-- where nothing refuses it, an act that drops an end of stream s does so
drops_end : (w : World) (act : Act) (s : ℕ) (side : Side) → IsDrop w.state act s side → w.state.trapped ≡ false → refusal_in w act ≡ None → is_host (end_of (opposite side) (stream_in w s)).owner ≡ true → DropsEnd w.state act s side
drops_end w act s side d t e h =
    let state = w.state in
    let is = reaction-performs state act t (sym (refusal-none w act d.hostless) ∙ e) in
    let new = dropped side (stream_at state s) in
    let streams : (reaction state act).state.streams ≡ set state.streams s new = ap (λ (r : Reaction). r.state.streams) is ∙ d.streams in
    record {
      gone =
          ap (λ xs. is_gone (end_of side (get_or xs s no_stream)).owner) streams
          ∙ ap (λ (x : Stream). is_gone (end_of side x).owner) (get_or-set_same state.streams s new no_stream (host_made state s (opposite side) h))
          ∙ dropped_gone side (stream_at state s);
      owner =
          ap (λ xs. (end_of (opposite side) (get_or xs s no_stream)).owner) streams
          ∙ set-keeps (λ (x : Stream). (end_of (opposite side) x).owner) state.streams s s new no_stream (dropped_other side (stream_at state s));
      dropped_is = ap (λ xs. get_or xs s no_stream) streams ∙ get_or-set_same state.streams s new no_stream (host_made state s (opposite side) h);
      others = λ k ne. ap (λ xs. get_or xs k no_stream) streams ∙ get_or-set_other state.streams s k new no_stream ne;
      done = ap (λ (r : Reaction). r.reply) is ∙ d.done;
      drops = part_busy act d.hostless;
    }

-- ## Host ends that become ends of streams

hosts_effect : (w : World) (n : ℕ) → refusal_in w (OnHost n New) ≡ None → Going (EffectIn w (Acts (OnHost n New))) (hosts_new w n)
unfolding hosts_new
hosts_effect w n e =
    let new = is_new w n e in
    ByHosting n refl (record {
      stream = hosted_stream (writer_at w n) n;
      known = new.known;
      unused = new.unused;
      writer = refl;
      reader = refl;
      none = refl;
      reply_is = refl;
      holding = has_items (writer_at w n).holds;
      is = refl;
    })

-- a stream whose read end is loose was made
pub loose_made : (state : State) (s : ℕ) → is_loose (stream_at state s).reader.owner ≡ true → s < length state.streams
loose_made state s e =
    elim (cases_lt s (length state.streams)) [
      | inl l ↦ l
      | inr l ↦ absurd (let none : is_loose (stream_at state s).reader.owner ≡ false = ap (λ (st : Stream). is_loose st.reader.owner) (get_or_past state.streams s no_stream l) in cc)
    ]

module _ (w : World) (s r : ℕ) (loose : is_loose (stream_in w s).reader.owner ≡ true) where
  abbrev reader_kept : World
  reader_kept = with_consumer w r (record no_consumer { duty = Serves s })

  abbrev the_pipe : Stream
  the_pipe = piped (stream_in w s) r

  made : s < length w.state.streams
  made = loose_made w.state s loose

  -- no host end goes when a read end does from being loose to a host reader
  loose_only : (owner : Owner) → is_loose owner ≡ true → owner ≡ Loose
  loose_only Loose e = refl
  loose_only _ e = cc

  pub pipe_is : (with_stream_in reader_kept s the_pipe).state ≡ piped_in w.state s r
  unfolding with_stream_in
  pipe_is =
      let after = with_state reader_kept (record reader_kept.state { streams = set w.state.streams s the_pipe }) in
      let writer = (stream_in w s).writer.owner in
      ap (λ o. (leaves_writer writer writer (leaves_reader o (Host r) after)).state) (loose_only (stream_in w s).reader.owner loose)
      ∙ ap (λ (x : World). x.state) (leaves_writer-stays writer after)

  here : stream_in (with_stream_in reader_kept s the_pipe) s ≡ the_pipe
  here = ap (λ xs. get_or xs s no_stream) (written-streams reader_kept s the_pipe) ∙ get_or-set_same w.state.streams s the_pipe no_stream made

  -- both ends are gone
  dry_effect : (owner : Owner) → (stream_in w s).writer.owner ≡ owner → is_dry reader_kept owner ≡ true → Piped w.state s r (with_stream_in (with_stream_in reader_kept s the_pipe) s (without_ends the_pipe)).state
  dry_effect Gone e d =
      ByGone e
      (with_stream_in-gone Reading (with_stream_in reader_kept s the_pipe) s r (without_ends the_pipe) (ap (λ (x : Stream). x.reader.owner) here) refl (sym (ap (λ (x : Stream). x.writer.owner) here ∙ e))
      ∙ ap (λ (x : State). with_done Reading x s r (without_ends the_pipe)) pipe_is)
  dry_effect (Host n) e d =
      ByDry n e
      (with_stream_in-both (with_stream_in reader_kept s the_pipe) s n r (without_ends the_pipe) (ap (λ (x : Stream). x.writer.owner) here ∙ e) refl (ap (λ (x : Stream). x.reader.owner) here) refl
      ∙ ap (λ (x : State). with_stream_at (with_ended Writing (with_ended Reading x r) n) s (without_ends the_pipe)) pipe_is)
  dry_effect _ e d = cc

pipes_effect : (w : World) (s r : ℕ) → refusal_in w (OnHost r (Pipe s)) ≡ None → Going (EffectIn w (Acts (OnHost r (Pipe s)))) (pipes w s r)
unfolding pipes
pipes_effect w s r e =
    let new = is_new_reader w r s e in
    let v = with_consumer w r (record no_consumer { duty = Serves s }) in
    let stream = piped (stream_in w s) r in
    let after = with_stream_in v s stream in
    ByPiping s r refl (record {
      known = new.known;
      unused = new.unused;
      loose = new.loose;
      made = loose_made w.state s new.loose;
      reply_is = refl;
      ends =
          cond_both (is_dry v stream.writer.owner) (with_stream_in after s (without_ends stream)) after (λ (x : World). Piped w.state s r x.state)
          (λ dry. dry_effect w s r new.loose (stream_in w s).writer.owner refl dry)
          (λ wet. ByStaying (pipe_is w s r new.loose));
    })

-- ## Every part

module _ (w : World) (t : w.state.trapped ≡ false) where
  on_host_effect : (n : ℕ) (act : HostAct) → refusal_in w (OnHost n act) ≡ None → Going (EffectIn w (Acts (OnHost n act))) (on_host w n act)
  on_host_effect n New e = hosts_effect w n e
  on_host_effect n (Feed bytes) e = ByRest (record { idle = refl; untold = refl; unmade = λ k. refl; unpiped = λ k. refl }) refl
  on_host_effect r (Pipe s) e = pipes_effect w s r e
  on_host_effect r (Grant count) e = ByRest (record { idle = refl; untold = refl; unmade = λ k. refl; unpiped = λ k. refl }) refl

  performs_effect : (act : Act) → is_part (Acts act) ≡ true → refusal_in w act ≡ None → Going (EffectIn w (Acts act)) (performs_in w act)
  unfolding performs_in
  performs_effect =
      touch-by (λ act touch. is_part (Acts act) ≡ true → refusal_in w act ≡ None → Going (EffectIn w (Acts act)) (performs_by w act touch)) w.state
      (record {
        operated = λ side end address count p e.
            operates_effect w end address count side _ (sym (refusal_in-on_end w side end (Operate address count)) ∙ e) refl;
        dropped = λ act s side d p e. drops_effect w s side act (part_busy act d.hostless) (drops_end w act s side d t e);
        hosted = λ n act p e. on_host_effect n act e;
        driven = λ p e. cc;
        alone = λ act n p e. reacts_effect w act (part_busy act n);
      })

  -- one that is refused
  refused_effect : (act : Act) (r : Refusal) → refusal_in w act ≡ Some r → EffectIn w (Acts act) (replies.Refused r) w
  refused_effect (OnHost n New) r e = ByRest (record { idle = refl; untold = refl; unmade = λ k. refl; unpiped = λ k. refl }) refl
  refused_effect (OnHost n (Feed bytes)) r e = ByRest (record { idle = refl; untold = refl; unmade = λ k. refl; unpiped = λ k. refl }) refl
  refused_effect (OnHost n (Pipe s)) r e = ByRest (record { idle = refl; untold = refl; unmade = λ k. refl; unpiped = λ k. refl }) refl
  refused_effect (OnHost n (Grant count)) r e = ByRest (record { idle = refl; untold = refl; unmade = λ k. refl; unpiped = λ k. refl }) refl
  refused_effect act r e =
      let is = reaction-refused w.state act r t (sym (refusal-none w act refl) ∙ e) in
      ByReaction act refl refl (ap (λ (x : Reaction). x.reply) (sym is)) (ap (λ (x : Reaction). x.state) (sym is))

  unless_effect : (act : Act) (o : Option Refusal) → is_part (Acts act) ≡ true → refusal_in w act ≡ o → Going (EffectIn w (Acts act)) (unless_refused_in w act o)
  unless_effect act (Some r) p e = refused_effect act r e
  unless_effect act None p e = performs_effect act p e

outcome_effect : (w : World) (act : Act) → is_part (Acts act) ≡ true → Going (EffectIn w (Acts act)) (outcome w act)
unfolding outcome
outcome_effect w act p =
    cond_both w.state.trapped _ _ (Going (EffectIn w (Acts act)))
    (λ t. tt)
    (λ t. unless_effect w t act (refusal_in w act) p refl)

part_effect : (w : World) (part : Part) → HostsHold w.state → is_part part ≡ true → Going (EffectIn w part) (part_on w part)
part_effect w (Acts act) h p = outcome_effect w act p
part_effect w (Turns s) h p = drive_effect w s h

-- what a moment of a run did to the state
pub follows_effect : (world : World) (m : HostMoment) → HostsHold world.state → Follows world m → Effect world.state m.part m.reply m.after.state
follows_effect world m h f =
    let goes = subst (λ (w : World). part_on w m.part ≡ Goes m.reply m.after) f.begins f.goes in
    subst (Going (EffectIn world m.part)) goes (part_effect world m.part h f.part)
