-- What a part of a run with host ends does to a stream of which no host end has an end: what a step without
-- them does.
use Rattle.std.proofs.Common.{◌≡◌, ◌≢◌, ℕ, ◌+◌, ◌^◌, ◌<◌, ◌≤◌, ◌==◌, true, false, List, [], ◌∷◌, ◌++◌, length, get_or, set, inl, inr, refl, sym, ap, subst, ◌∙◌, arith, length-set, length-append}
use Rattle.std.proofs.lemmas.Bool.{eq-eqb, eqb-true, true≢false}
use Rattle.std.proofs.lemmas.List.{get_or-set_other}
use Rattle.strm_machine.specs.State.{State, Guest, no_stream, no_consumer, memory_in, stream_at, is_held, is_loose, is_host}
use Rattle.strm_machine.specs.Hosting.{duty_of}
use Rattle.strm_machine.specs.Sides.{opposite, end_of, with_operation}
use Rattle.strm_machine.specs.Meetings.{begun}
use Rattle.strm_machine.specs.Endings.{delivered}
use Rattle.strm_machine.specs.Moments.{Moment, PutsBytes, code_told, received}
use Rattle.strm_machine.specs.Soundness.{both_open, IsUnmoved}
use Rattle.strm_machine.specs.Tests.{named, stream_named, items_asked}
use Rattle.strm_machine.specs.Reactions.{reaction}
use Rattle.strm_machine.specs.declared.acts.Act.{Act}
use Rattle.strm_machine.specs.declared.acts.Act.TheVariants.{OnEnd, OnHost}
use Rattle.strm_machine.specs.declared.acts.EndAct.TheVariants.{Operate}
use Rattle.strm_machine.specs.declared.acts.HostAct.TheVariants.{New, Pipe}
use Rattle.strm_machine.specs.declared.acts.NamedEnd.{NamedEnd}
use Rattle.strm_machine.specs.declared.streams.End.{End}
use Rattle.strm_machine.specs.declared.streams.Operation.{Operation}
use Rattle.strm_machine.specs.declared.streams.Owner.TheVariants.{Host}
use Rattle.strm_machine.specs.declared.streams.Side.{Side}
use Rattle.strm_machine.specs.declared.streams.Side.TheVariants.{Writing, Reading}
use Rattle.strm_machine.specs.declared.streams.Stream.{Stream}
use Rattle.strm_machine.specs.declared.replies.Reply.{Reply}
use Rattle.strm_machine.specs.declared.replies.Reply.TheVariants as replies
use Rattle.strm_memory.proofs.KeptBytes.{IsBytes-stored_at}
use Rattle.strm_machine.proofs.ArrivalLemmas.{AreBytes, AreBytes-with_memory, memory_bytes}
use Rattle.strm_machine.proofs.Lawful.{StaysMade}
use Rattle.strm_machine.proofs.MomentLemmas.{Seen, Untold, unnamed, untold}
use Rattle.strm_machine.proofs.NamedEndLemmas.{names-unmade}
use Rattle.strm_machine.proofs.TallyLemmas.{Tallies}
use Rattle.strm_host_machine.specs.Attaching.{piped, without_ends, forsaken}
use Rattle.strm_host_laws.specs.HostMoments.{Part, Acts, Turns}
use Rattle.strm_host_laws.specs.HostLaws.{act_in, is_made_by, is_piped_in}
use Rattle.strm_machine.proofs.ShapeLemmas.{reaction-from, reaction-consumers}
use Rattle.strm_machine.proofs.EndLemmas.{each_side}
use Rattle.strm_machine.proofs.TableLemmas.{at_push}
use Rattle.strm_host_laws.proofs.HostTurns.{Fills, Turned, turned_stream}
use Rattle.strm_host_laws.proofs.Effects.{opened_by, Driven, Calls, Hosts, piped_streams, piped_guests, Pipes, forsaken_by, Forsakes, Rests, Effect, ByReaction, ByRest, ByHosting, ByPiping, ByDriving, ByPassing, ByCalling, ByForsaking, Passes, is_idle}
use Rattle.strm_host_laws.proofs.PartEffects.{passing_guests, passing_many, passing_other}
use Rattle.strm_machine.proofs.StreamSteps.{reaction_streams}
use Rattle.strm_machine.proofs.SeenSteps.{same_seen, named_other, reaction_seen}
use Rattle.strm_machine.proofs.ByteSteps.{reaction_bytes}
use Rattle.strm_codes.specs.Layout.{item_type}
use Rattle.strm_codes.specs.declared.payloads.Payload.{Payload}
use Rattle.strm_host_laws.proofs.PartsSeen.{IsTaken, Parted, pipe_taken}
use Rattle.strm_host_laws.proofs.TurnsStand.{Holds, Holds-reaction}
use Rattle.strm_host_laws.proofs.Standing.{call_begun}
use Rattle.strm_machine.proofs.HostLemmas.{no_host, unless_host}

-- a stream of which no host end had an end, as the laws know it
pub record IsGuests (state : State) (s : ℕ) : Type 0 where
  pub apart : both_open (stream_at state s) ≡ false
  pub tallies : Tallies (stream_at state s)
  pub unhosted : (side : Side) → is_host (end_of side (stream_at state s)).owner ≡ false

abbrev pub moment_in : State → Part → Reply → State → Moment
moment_in old part reply new = record { act = act_in part; before = old; reply = reply; after = new }

-- what is known of a part on one stream
pub record SeenIn (old : State) (part : Part) (reply : Reply) (new : State) (s : ℕ) : Type 0 where
  pub seen : Seen s (moment_in old part reply new)
  pub unhosted : (side : Side) → is_host (end_of side (stream_at new s)).owner ≡ false
  pub made : s < length old.streams → StaysMade s old new
  pub unmade : length old.streams ≤ s → (side : Side) → Untold s side (moment_in old part reply new)
  pub still : (k : ℕ) → part ≡ Turns k → received s new ≡ received s old

-- it is a stream of guests then
pub guests_after : (old new : State) (part : Part) (reply : Reply) (s : ℕ) → SeenIn old part reply new s → IsGuests new s
guests_after old new part reply s x = record { apart = x.seen.apart; tallies = x.seen.tallies; unhosted = x.unhosted }

-- a part that leaves the stream, and tells nothing to it
same_in : (old new : State) (part : Part) (reply : Reply) (s : ℕ) → AreBytes old.guests → IsGuests old s → length old.streams ≤ length new.streams → stream_at new s ≡ stream_at old s
    → ((side : Side) → Untold s side (moment_in old part reply new)) → SeenIn old part reply new s
same_in old new part reply s b g l e u = record {
  seen = same_seen old s (moment_in old part reply new) refl (record { bytes = b; apart = g.apart; tallies = g.tallies }) u e;
  unhosted = λ side. ap (λ (x : Stream). is_host (end_of side x).owner) e ∙ g.unhosted side;
  made = λ m. record { there = omega (arith, l, m); kind = ap (λ (x : Stream). x.kind) e };
  unmade = λ m. u;
  still = λ k q. ap (λ (x : Stream). x.received) e;
}

-- ## A step

-- no host reader gets a read end in it
reaction-unread : (state : State) (act : Act) (s : ℕ) → Holds state → is_host (stream_at state s).reader.owner ≡ false → is_host (stream_at (reaction state act).state s).reader.owner ≡ false
reaction-unread state act s h u =
    let after = (reaction state act).state in
    let same : (n : ℕ) → duty_of Reading after n ≡ duty_of Reading state n = λ n. ap (λ cs. (get_or cs n no_consumer).duty) (reaction-consumers state act) in
    unless_host (stream_at after s).reader.owner
    (λ n e.
    let duty = ((Holds-reaction state act h).hosts.serve Reading n s).serves e in
    no_host (stream_at state s).reader.owner n u ((h.hosts.serve Reading n s).owns (sym (same n) ∙ duty)))

reaction_in : (state : State) (act : Act) (s : ℕ) → Holds state → AreBytes state.guests → received s state + 2 ^ 28 < 2 ^ 128 → IsGuests state s → SeenIn state (Acts act) (reaction state act).reply (reaction state act).state s
reaction_in state act s h b room g = record {
  seen = reaction_seen state act s h.sound (record { bytes = b; apart = g.apart; tallies = g.tallies }) room;
  unhosted = each_side (λ side. is_host (end_of side (stream_at (reaction state act).state s)).owner ≡ false) Writing
      (unless_host (stream_at (reaction state act).state s).writer.owner (λ n e. no_host (stream_at state s).writer.owner n (g.unhosted Writing) (reaction-from state act s n e).0))
      (reaction-unread state act s h (g.unhosted Reading));
  made = λ l. (let streams = reaction_streams state act h.sound in record { there = omega (arith, l, streams.many); kind = streams.kind s l });
  unmade = λ l side. unnamed s side (moment_in state (Acts act) (reaction state act).reply (reaction state act).state) (names-unmade state act (reaction state act).reply s side h.sound l);
  still = λ k q. cc;
}

-- ## A part that a host end has to do with

-- another stream than one that a host end has
other_stream : (state : State) (side : Side) (s k n : ℕ) → ((c : Side) → is_host (end_of c (stream_at state s)).owner ≡ false) → (end_of side (stream_at state k)).owner ≡ Host n → s ≢ k
other_stream state side s k n e o q = no_host (end_of side (stream_at state s)).owner n (e side) (ap (λ i. (end_of side (stream_at state i)).owner) q ∙ o)

pub turned_other : (side : Side) (old new : State) (s k n : ℕ) (operation : Operation) → Turned side old new k n operation → s ≢ k → stream_at new s ≡ stream_at old s
turned_other side old new s k n operation t ne =
    ap (λ (y : State). stream_at y s) t.is ∙ get_or-set_other old.streams k s (turned_stream side old k operation t.count t.result) no_stream ne

pub turned_many : (side : Side) (old new : State) (k n : ℕ) (operation : Operation) → Turned side old new k n operation → length new.streams ≡ length old.streams
turned_many side old new k n operation t =
    ap (λ (y : State). length y.streams) t.is ∙ length-set old.streams k (turned_stream side old k operation t.count t.result)

module _ (old new : State) (reply : Reply) (s : ℕ) (h : Holds old) (b : AreBytes old.guests) (g : IsGuests old s) where
  driven_in : (side : Side) (k : ℕ) → reply ≡ replies.Done → Driven side old new k → SeenIn old (Turns k) reply new s
  driven_in side k done d =
      let ne = other_stream old (opposite side) s k d.host g.unhosted d.owner in
      same_in old new (Turns k) reply s b g (omega (arith, turned_many side old new k d.host d.operation d.turned)) (turned_other side old new s k d.host d.operation d.turned ne)
      (λ other. untold s other (moment_in old (Turns k) reply new) (ap code_told done))

  -- a pipe is another stream
  passing_in : (k : ℕ) → reply ≡ replies.Done → Passes old new k → SeenIn old (Turns k) reply new s
  passing_in k done x =
      let ne = other_stream old Writing s k x.writer g.unhosted x.wrote in
      same_in old new (Turns k) reply s b g (omega (arith, passing_many old new k x)) (passing_other old new k x s ne)
      (λ other. untold s other (moment_in old (Turns k) reply new) (ap code_told done))

  call_in : (side : Side) (end : NamedEnd) (address count : ℕ) → Calls side old end address count reply new → SeenIn old (Acts (OnEnd side end (Operate address count))) reply new s
  call_in side end address count r =
      let k = stream_named (named old end) in
      let operation = begun end.guest address (items_asked end.ty count) in
      let opened = opened_by side old k operation in
      let ne = other_stream old (opposite side) s k r.host g.unhosted r.owner in
      let found = (call_begun side old end address count h.sound r.unrefused).found in
      let first : stream_at opened s ≡ stream_at old s = get_or-set_other old.streams k s (with_operation side (stream_at old k) operation) no_stream ne in
      let second = turned_other side opened r.mid s k r.host operation r.turned ne in
      let third : stream_at new s ≡ stream_at r.mid s = ap (λ (y : State). stream_at y s) r.is ∙ get_or-set_other r.mid.streams k s (delivered side (stream_at r.mid k)) no_stream ne in
      let many : length new.streams ≡ length old.streams =
      ap (λ (y : State). length y.streams) r.is ∙ length-set r.mid.streams k (delivered side (stream_at r.mid k))
      ∙ turned_many side opened r.mid k r.host operation r.turned ∙ length-set old.streams k (with_operation side (stream_at old k) operation) in
      let act = OnEnd side end (Operate address count) in
      same_in old new (Acts act) reply s b g (omega (arith, many)) (third ∙ second ∙ first)
      (named_other old act (record { reply = reply; state = new }) s k side (found.named reply) ne)

  -- another stream goes to a host reader
  piped_aside : (k r : ℕ) → is_piped_in s (Acts (OnHost r (Pipe k))) reply ≡ false → Pipes old k r reply new → SeenIn old (Acts (OnHost r (Pipe k))) reply new s
  piped_aside k r unpiped x =
      let off : (k == s) ≡ false = ap (is_piped_in s (Acts (OnHost r (Pipe k)))) (sym x.reply_is) ∙ unpiped in
      let ne : s ≢ k = λ q. let wrong : (k == s) ≡ true = eq-eqb k s (sym q) in let both : true ≡ false = sym wrong ∙ off in true≢false both in
      elim (piped_streams old new k r x.ends) [
        | inl e ↦ aside (piped (stream_at old k) r) e ne
        | inr e ↦ aside (without_ends (piped (stream_at old k) r)) e ne
      ]
    where
      aside : (y : Stream) → new.streams ≡ set old.streams k y → s ≢ k → SeenIn old (Acts (OnHost r (Pipe k))) reply new s
      aside y e ne =
          same_in old new (Acts (OnHost r (Pipe k))) reply s b g (omega (arith, ap length e, length-set old.streams k y))
          (ap (λ xs. get_or xs s no_stream) e ∙ get_or-set_other old.streams k s y no_stream ne)
          (λ side. untold s side (moment_in old (Acts (OnHost r (Pipe k))) reply new) (ap code_told x.reply_is))

  hosted_in : (n : ℕ) → is_made_by s (Acts (OnHost n New)) reply ≡ false → Hosts old n reply new → SeenIn old (Acts (OnHost n New)) reply new s
  hosted_in n unmade x =
      let other : (length old.streams == s) ≡ false = ap (is_made_by s (Acts (OnHost n New))) (sym x.reply_is) ∙ unmade in
      let ne : s ≢ length old.streams = λ q. let wrong : (length old.streams == s) ≡ true = eq-eqb (length old.streams) s (sym q) in cc in
      let same : get_or (old.streams ++ x.stream ∷ []) s no_stream ≡ stream_at old s = at_push old.streams x.stream no_stream s (λ y. y ≡ stream_at old s) (λ q. absurd (ne q)) (λ off. refl) in
      same_in old new (Acts (OnHost n New)) reply s b g (omega (arith, ap (λ (y : State). length y.streams) x.is, length-append old.streams (x.stream ∷ [])))
      (ap (λ (y : State). stream_at y s) x.is ∙ same)
      (λ side. untold s side (moment_in old (Acts (OnHost n New)) reply new) (ap code_told x.reply_is))

  rest_in : (part : Part) → Rests part reply → new ≡ old → SeenIn old part reply new s
  rest_in part q e =
      same_in old new part reply s b g (omega (arith, ap (λ (y : State). length y.streams) e)) (ap (λ (y : State). stream_at y s) e)
      (λ side. untold s side (moment_in old part reply new) q.untold)

  forsaken_in : (act : Act) → received s old + 2 ^ 28 < 2 ^ 128 → Forsakes old act reply new → SeenIn old (Acts act) reply new s
  forsaken_in act room f =
      let r = reaction old act in
      let ne = other_stream r.state (opposite f.side) s f.stream f.host (reaction_in old act s h b room g).unhosted f.owner in
      let now = forsaken f.side (stream_at r.state f.stream) in
      let streams : new.streams ≡ set r.state.streams f.stream now = ap (λ (y : State). y.streams) f.is ∙ by f.side r.state f.stream f.host in
      let after : stream_at new s ≡ stream_at r.state s = ap (λ xs. get_or xs s no_stream) streams ∙ get_or-set_other r.state.streams f.stream s now no_stream ne in
      let many : length new.streams ≡ length r.state.streams = ap length streams ∙ length-set r.state.streams f.stream now in
      same_in old new (Acts act) reply s b g (omega (arith, many, (reaction_streams old act h.sound).many)) (after ∙ f.others s ne)
      (λ side. untold s side (moment_in old (Acts act) reply new) (ap code_told (f.reply_is ∙ f.done)))
    where
      by : (side : Side) (x : State) (k n : ℕ) → (forsaken_by side x k n).streams ≡ set x.streams k (forsaken side (stream_at x k))
      by Writing x k n = refl
      by Reading x k n = refl

  pub effect_in : (part : Part) → is_made_by s part reply ≡ false → is_piped_in s part reply ≡ false → ((act : Act) → part ≡ Acts act → received s old + 2 ^ 28 < 2 ^ 128) → Effect old part reply new → SeenIn old part reply new s
  effect_in part u v room (ByReaction act p i r e) = rw (p, r, e) (reaction_in old act s h b (room act p) g)
  effect_in part u v room (ByRest q e) = rest_in part q e
  effect_in part u v room (ByHosting n p x) =
      subst (λ q. SeenIn old q reply new s) (sym p) (hosted_in n (ap (λ q. is_made_by s q reply) (sym p) ∙ u) x)
  effect_in part u v room (ByPiping k r p x) =
      subst (λ q. SeenIn old q reply new s) (sym p) (piped_aside k r (ap (λ q. is_piped_in s q reply) (sym p) ∙ v) x)
  effect_in part u v room (ByPassing k p done x) = subst (λ q. SeenIn old q reply new s) (sym p) (passing_in k done x)
  effect_in part u v room (ByDriving side k p done d) = subst (λ q. SeenIn old q reply new s) (sym p) (driven_in side k done d)
  effect_in part u v room (ByCalling side end address count p r) = subst (λ q. SeenIn old q reply new s) (sym p) (call_in side end address count r)
  effect_in part u v room (ByForsaking act p f) = subst (λ q. SeenIn old q reply new s) (sym p) (forsaken_in act (room act p) f)

-- ## Streams that host ends get, and memories

made_idle : (act : Act) (reply : Reply) (s : ℕ) → is_idle (Acts act) ≡ false → is_made_by s (Acts act) reply ≡ true → ⊥
made_idle (OnHost n act) reply s i e = cc
made_idle act reply s i e = cc

piped_idle : (act : Act) (reply : Reply) (s : ℕ) → is_idle (Acts act) ≡ false → is_piped_in s (Acts act) reply ≡ true → ⊥
piped_idle (OnHost n act) reply s i e = cc
piped_idle act reply s i e = cc

-- a stream that was made of a host writer
made_hosted : (old new : State) (n s : ℕ) (reply : Reply) → Hosts old n reply new → is_made_by s (Acts (OnHost n New)) reply ≡ true → IsTaken Writing new s
made_hosted old new n s reply x e =
    let same : (length old.streams == s) ≡ true = ap (is_made_by s (Acts (OnHost n New))) (sym x.reply_is) ∙ e in
    let here : s ≡ length old.streams = sym (eqb-true (length old.streams) s same) in
    let stream : get_or (old.streams ++ x.stream ∷ []) s no_stream ≡ x.stream = at_push old.streams x.stream no_stream s (λ y. y ≡ x.stream) (λ q. refl) (λ ne. absurd (ne here)) in
    let is : stream_at new s ≡ x.stream = ap (λ (y : State). stream_at y s) x.is ∙ stream in
    let many : length new.streams ≡ length (old.streams ++ x.stream ∷ []) = ap (λ (y : State). length y.streams) x.is in
    record {
      made = omega (arith, many, length-append old.streams (x.stream ∷ []), here);
      idle = ap (λ (y : Stream). y.writer.operation) is ∙ ap (λ (y : End). y.operation) x.writer;
      unheld = ap (λ (y : Stream). is_held y.writer.owner) is ∙ ap (λ (y : End). is_held y.owner) x.writer;
      tied = ap (λ (y : Stream). is_loose y.writer.owner) is ∙ ap (λ (y : End). is_loose y.owner) x.writer;
      parted = subst (Parted Writing) (sym is) (λ u v. subst (λ (y : End). IsUnmoved y.operation) (sym x.reader) tt);
    }

pub effect_makes : (old new : State) (part : Part) (reply : Reply) (s : ℕ) → Effect old part reply new → is_made_by s part reply ≡ true → IsTaken Writing new s
effect_makes old new part reply s (ByReaction act p i r e) u = absurd (made_idle act reply s (ap is_idle (sym p) ∙ i) (ap (λ q. is_made_by s q reply) (sym p) ∙ u))
effect_makes old new part reply s (ByRest q e) u = absurd (let none = q.unmade s in let wrong : true ≡ false = sym u ∙ none in cc)
effect_makes old new part reply s (ByHosting n p x) u = made_hosted old new n s reply x (ap (λ q. is_made_by s q reply) (sym p) ∙ u)
effect_makes old new part reply s (ByPiping k r p x) u = absurd (let wrong : is_made_by s (Acts (OnHost r (Pipe k))) reply ≡ true = ap (λ q. is_made_by s q reply) (sym p) ∙ u in cc)
effect_makes old new part reply s (ByDriving side k p done d) u = absurd (let wrong : is_made_by s (Turns k) reply ≡ true = ap (λ q. is_made_by s q reply) (sym p) ∙ u in cc)
effect_makes old new part reply s (ByPassing k p done x) u = absurd (let wrong : is_made_by s (Turns k) reply ≡ true = ap (λ q. is_made_by s q reply) (sym p) ∙ u in cc)
effect_makes old new part reply s (ByCalling side end address count p r) u =
    absurd (let wrong : is_made_by s (Acts (OnEnd side end (Operate address count))) reply ≡ true = ap (λ q. is_made_by s q reply) (sym p) ∙ u in cc)
effect_makes old new part reply s (ByForsaking act p f) u = absurd (made_idle act reply s f.drops (ap (λ q. is_made_by s q reply) (sym p) ∙ u))

-- one whose read end went to a host reader
pub effect_pipes : (old new : State) (part : Part) (reply : Reply) (s : ℕ) → Holds old → Effect old part reply new → is_piped_in s part reply ≡ true → IsTaken Reading new s
effect_pipes old new part reply s h (ByReaction act p i r e) u = absurd (piped_idle act reply s (ap is_idle (sym p) ∙ i) (ap (λ q. is_piped_in s q reply) (sym p) ∙ u))
effect_pipes old new part reply s h (ByRest q e) u = absurd (let none = q.unpiped s in let wrong : true ≡ false = sym u ∙ none in cc)
effect_pipes old new part reply s h (ByHosting n p x) u = absurd (let wrong : is_piped_in s (Acts (OnHost n New)) reply ≡ true = ap (λ q. is_piped_in s q reply) (sym p) ∙ u in cc)
effect_pipes old new part reply s h (ByPiping k r p x) u =
    let same : (k == s) ≡ true = ap (is_piped_in s (Acts (OnHost r (Pipe k)))) (sym x.reply_is) ∙ ap (λ q. is_piped_in s q reply) (sym p) ∙ u in
    subst (IsTaken Reading new) (eqb-true k s same) (pipe_taken old new k r reply h x)
effect_pipes old new part reply s h (ByDriving side k p done d) u = absurd (let wrong : is_piped_in s (Turns k) reply ≡ true = ap (λ q. is_piped_in s q reply) (sym p) ∙ u in cc)
effect_pipes old new part reply s h (ByPassing k p done x) u = absurd (let wrong : is_piped_in s (Turns k) reply ≡ true = ap (λ q. is_piped_in s q reply) (sym p) ∙ u in cc)
effect_pipes old new part reply s h (ByCalling side end address count p r) u =
    absurd (let wrong : is_piped_in s (Acts (OnEnd side end (Operate address count))) reply ≡ true = ap (λ q. is_piped_in s q reply) (sym p) ∙ u in cc)
effect_pipes old new part reply s h (ByForsaking act p f) u = absurd (piped_idle act reply s f.drops (ap (λ q. is_piped_in s q reply) (sym p) ∙ u))

fills_bytes : (side : Side) (old : List Guest) (payload : Payload) (operation : Operation) (count : ℕ) (new : List Guest) → Fills side old payload operation count new → AreBytes old → AreBytes new
fills_bytes Writing old payload operation count new f b = subst AreBytes (sym f) b
fills_bytes Reading old payload operation count new f b =
    subst AreBytes (sym f.is)
    (AreBytes-with_memory old operation.guest _ (IsBytes-stored_at (item_type payload) (memory_in old operation.guest) operation.address f.items (memory_bytes old operation.guest b)) b)

turned_bytes : (side : Side) (old new : State) (s n : ℕ) (operation : Operation) → Turned side old new s n operation → AreBytes old.guests → AreBytes new.guests
turned_bytes side old new s n operation t b =
    subst (λ (x : State). AreBytes x.guests) (sym t.is) (fills_bytes side old.guests (stream_at old s).payload operation t.count t.guests t.fills b)

-- what a part puts into a memory is bytes
abbrev pub PutsPart : Part → Type 0
PutsPart (Acts act) = PutsBytes act
PutsPart (Turns s) = Unit {0}

pub forsaken_guests : (side : Side) (state : State) (k n : ℕ) → (forsaken_by side state k n).guests ≡ state.guests
forsaken_guests Writing state k n = refl
forsaken_guests Reading state k n = refl

pub effect_bytes : (old new : State) (part : Part) (reply : Reply) → Holds old → PutsPart part → AreBytes old.guests → Effect old part reply new → AreBytes new.guests
effect_bytes old new part reply h p b (ByReaction act q i r e) =
    subst (λ (x : State). AreBytes x.guests) (sym e) (reaction_bytes old act (subst PutsPart q p) h.sound b)
effect_bytes old new part reply h p b (ByRest q e) = subst (λ (x : State). AreBytes x.guests) (sym e) b
effect_bytes old new part reply h p b (ByHosting n q x) = subst (λ (y : State). AreBytes y.guests) (sym x.is) b
effect_bytes old new part reply h p b (ByPiping k r q x) = subst AreBytes (sym (piped_guests old new k r x.ends)) b
effect_bytes old new part reply h p b (ByDriving side k q done d) = turned_bytes side old new k d.host d.operation d.turned b
effect_bytes old new part reply h p b (ByPassing k q done x) = subst AreBytes (sym (passing_guests old new k x)) b
effect_bytes old new part reply h p b (ByCalling side end address count q r) =
    let k = stream_named (named old end) in
    let operation = begun end.guest address (items_asked end.ty count) in
    subst (λ (x : State). AreBytes x.guests) (sym r.is) (turned_bytes side (opened_by side old k operation) r.mid k r.host operation r.turned b)
effect_bytes old new part reply h p b (ByForsaking act q f) =
    subst AreBytes (sym (ap (λ (x : State). x.guests) f.is ∙ forsaken_guests f.side (reaction old act).state f.stream f.host)) (reaction_bytes old act (subst PutsPart q p) h.sound b)
