-- What a part of a run with host ends does to a stream that guests write and a host reader reads, or has read:
-- on its write end one of the five changes, and on its read end nothing but what the host reader took.
use Rattle.std.proofs.Common.{◌≡◌, ◌≢◌, ℕ, ◌+◌, ◌^◌, ◌<◌, ◌==◌, Bool, true, false, cond, [], ◌∷◌, length, get_or, set, Option, Some, None, refl, sym, ap, subst, ◌∙◌, inl, inr, arith}
use Rattle.std.specs.Option.{option_map}
use Rattle.std.proofs.lemmas.Bool.{cases_eq, eqb-true, true≢false}
use Rattle.std.proofs.lemmas.List.{get_or-set_same, get_or-set_other, get_or_append_left}
use Rattle.strm_machine.specs.State.{State, no_stream, stream_at, is_host, is_held, is_loose}
use Rattle.strm_machine.specs.Sides.{end_of, with_operation}
use Rattle.strm_machine.specs.Meetings.{begun}
use Rattle.strm_machine.specs.Endings.{delivered, dropped}
use Rattle.strm_machine.specs.Moments.{Moment, code_told, k_of, received}
use Rattle.strm_machine.specs.Reactions.{reaction}
use Rattle.strm_machine.specs.Tests.{named, stream_named, items_asked}
use Rattle.strm_machine.specs.declared.acts.Act.{Act}
use Rattle.strm_machine.specs.declared.acts.Act.TheVariants.{OnEnd, OnHost}
use Rattle.strm_machine.specs.declared.acts.EndAct.TheVariants.{Operate}
use Rattle.strm_machine.specs.declared.acts.HostAct.TheVariants.{New, Pipe}
use Rattle.strm_machine.specs.declared.acts.NamedEnd.{NamedEnd}
use Rattle.strm_machine.specs.declared.replies.Reply.{Reply}
use Rattle.strm_machine.specs.declared.replies.Reply.TheVariants as replies
use Rattle.strm_machine.specs.declared.streams.Operation.{Operation}
use Rattle.strm_machine.specs.declared.streams.Owner.TheVariants.{Held}
use Rattle.strm_machine.specs.declared.streams.Side.{Side}
use Rattle.strm_machine.specs.declared.streams.Side.TheVariants.{Writing, Reading}
use Rattle.strm_machine.specs.declared.streams.Stream.{Stream}
use Rattle.strm_machine.proofs.ArrivalLemmas.{AreBytes}
use Rattle.strm_machine.proofs.Changes.{Scene, Change, ByRest as RestChange}
use Rattle.strm_machine.proofs.HostLemmas.{no_host}
use Rattle.strm_machine.proofs.MomentLemmas.{untold}
use Rattle.strm_machine.proofs.SeenSteps.{named_other}
use Rattle.strm_machine.proofs.StreamSteps.{reaction_streams}
use Rattle.strm_machine.proofs.TurnChangeLemmas.{goes_on}
use Rattle.strm_laws.proofs.KeptChanges.{scene_with}
use Rattle.strm_host_machine.specs.Attaching.{withdrawn, piped, without_ends, forsaken}
use Rattle.strm_host_laws.specs.HostMoments.{Part, Acts, Turns}
use Rattle.strm_host_laws.specs.HostLaws.{taken_in_moment, is_piped_in}
use Rattle.strm_host_laws.proofs.Effects.{opened_by, Calls, Hosts, piped_streams, Pipes, forsaken_by, Forsakes, is_idle, Effect, ByReaction, ByRest, ByHosting, ByPiping, ByDriving, ByPassing, ByCalling, ByForsaking, Passes}
use Rattle.strm_host_laws.proofs.PartEffects.{passing_other}
use Rattle.strm_host_laws.proofs.GuestsSeen.{moment_in, IsGuests, turned_other}
use Rattle.strm_host_laws.proofs.Rooms.{HasRoom}
use Rattle.strm_host_laws.proofs.TurnsStand.{Holds}
use Rattle.strm_host_laws.proofs.Standing.{call_begun}
use Rattle.strm_host_laws.proofs.ReadStepSeen.{IsRead, ReadIn, taken_none, still_there, gone, stays_in, same_in, reaction_in}
use Rattle.strm_host_laws.proofs.ReadTurnSeen.{driven_in, own_call}

-- ## Every part

module _ (old new : State) (reply : Reply) (s : ℕ) (h : Holds old) (k : IsRead old s) where
  -- a call on another stream
  call_aside : (side : Side) (end : NamedEnd) (address count : ℕ) → Calls side old end address count reply new → s ≢ stream_named (named old end) → ReadIn old (Acts (OnEnd side end (Operate address count))) reply new s
  call_aside side end address count r ne =
      let t = stream_named (named old end) in
      let operation = begun end.guest address (items_asked end.ty count) in
      let opened = opened_by side old t operation in
      let found = (call_begun side old end address count h.sound r.unrefused).found in
      let act = OnEnd side end (Operate address count) in
      let first : stream_at opened s ≡ stream_at old s = get_or-set_other old.streams t s (with_operation side (stream_at old t) operation) no_stream ne in
      let second = turned_other side opened r.mid s t r.host operation r.turned ne in
      let third : stream_at new s ≡ stream_at r.mid s = ap (λ (y : State). stream_at y s) r.is ∙ get_or-set_other r.mid.streams t s (delivered side (stream_at r.mid t)) no_stream ne in
      same_in old (Acts act) reply new s h.held k (named_other old act (record { reply = reply; state = new }) s t side (found.named reply) ne Writing) (third ∙ second ∙ first)

  call_in : (side : Side) (end : NamedEnd) (address count : ℕ) → received s old + 2 ^ 28 < 2 ^ 128 → Calls side old end address count reply new → ReadIn old (Acts (OnEnd side end (Operate address count))) reply new s
  call_in Reading end address count room r =
      call_aside Reading end address count r
      (λ q.
      let own = h.held.agree.named end.guest end.handle (stream_named (named old end)) Reading (call_begun Reading old end address count h.sound r.unrefused).found.held in
      let wrong : is_held (Held end.guest end.handle) ≡ false = ap is_held (sym own) ∙ ap (λ i. is_held (stream_at old i).reader.owner) (sym q) ∙ k.taken.unheld in
      true≢false wrong)
  call_in Writing end address count room r =
      elim (cases_eq s (stream_named (named old end))) [
        | inl q ↦
            subst (λ i. ReadIn old (Acts (OnEnd Writing end (Operate address count))) reply new i) (sym q)
            (own_call old new reply end address count h r (subst (IsRead old) q k) (subst (λ i. received i old + 2 ^ 28 < 2 ^ 128) q room))
        | inr ne ↦ call_aside Writing end address count r ne
      ]

  -- a stream more
  hosted_in : (n : ℕ) → Hosts old n reply new → ReadIn old (Acts (OnHost n New)) reply new s
  hosted_in n x =
      same_in old (Acts (OnHost n New)) reply new s h.held k (untold s Writing (moment_in old (Acts (OnHost n New)) reply new) (ap code_told x.reply_is))
      (ap (λ (y : State). stream_at y s) x.is ∙ get_or_append_left old.streams (x.stream ∷ []) no_stream s k.taken.made)

  -- another stream goes to a host reader
  piped_aside : (t r : ℕ) → Pipes old t r reply new → ReadIn old (Acts (OnHost r (Pipe t))) reply new s
  piped_aside t r x =
      elim (piped_streams old new t r x.ends) [
        | inl e ↦ aside (piped (stream_at old t) r) e
        | inr e ↦ aside (without_ends (piped (stream_at old t) r)) e
      ]
    where
      ne : s ≢ t
      ne q = let both : true ≡ false = sym x.loose ∙ ap (λ i. is_loose (stream_at old i).reader.owner) (sym q) ∙ k.taken.tied in true≢false both

      aside : (y : Stream) → new.streams ≡ set old.streams t y → ReadIn old (Acts (OnHost r (Pipe t))) reply new s
      aside y e =
          same_in old (Acts (OnHost r (Pipe t))) reply new s h.held k (untold s Writing (moment_in old (Acts (OnHost r (Pipe t))) reply new) (ap code_told x.reply_is))
          (ap (λ xs. get_or xs s no_stream) e ∙ get_or-set_other old.streams t s y no_stream ne)

  -- an end is dropped, and the host end across goes with it
  forsaken_in : (act : Act) → Forsakes old act reply new → ReadIn old (Acts act) reply new s
  forsaken_in act f =
      let r = reaction old act in
      let now = forsaken f.side (stream_at r.state f.stream) in
      let streams : new.streams ≡ set r.state.streams f.stream now = ap (λ (y : State). y.streams) f.is ∙ by f.side r.state f.stream f.host in
      let quiet = untold s Writing (moment_in old (Acts act) reply new) (ap code_told (f.reply_is ∙ f.done)) in
      elim (cases_eq s f.stream) [
        | inl q ↦
            let many : s < length r.state.streams = (omega (arith, k.taken.made, (reaction_streams old act h.sound).many)) in
            let after : stream_at new s ≡ forsaken f.side (dropped f.side (stream_at old s)) =
            ap (λ xs. get_or xs s no_stream) streams
            ∙ ap (λ i. get_or (set r.state.streams f.stream now) i no_stream) q
            ∙ get_or-set_same r.state.streams f.stream now no_stream (subst (λ i. i < length r.state.streams) q many)
            ∙ ap (forsaken f.side) (f.dropped_is ∙ ap (λ i. dropped f.side (stream_at old i)) (sym q)) in
            let stays = still_there f.side (stream_at old s) in
            stays_in old (Acts act) reply new s h.held k quiet
            (record {
              operation = ap (λ (y : Stream). y.writer.operation) after ∙ stays.operation;
              payload = ap (λ (y : Stream). y.payload) after ∙ stays.payload;
              kind = ap (λ (y : Stream). y.kind) after ∙ stays.kind;
              count = ap (λ (y : Stream). y.received) after ∙ stays.count;
            })
            (ap (λ (y : Stream). is_host y.writer.owner) after ∙ gone f.side (stream_at old s))
        | inr ne ↦
            same_in old (Acts act) reply new s h.held k quiet
            (ap (λ xs. get_or xs s no_stream) streams ∙ get_or-set_other r.state.streams f.stream s now no_stream ne ∙ f.others s ne)
      ]
    where
      by : (side : Side) (x : State) (t n : ℕ) → (forsaken_by side x t n).streams ≡ set x.streams t (forsaken side (stream_at x t))
      by Writing x t n = refl
      by Reading x t n = refl

  -- a pipe is another stream
  passing_in : (t : ℕ) → reply ≡ replies.Done → Passes old new t → ReadIn old (Turns t) reply new s
  passing_in t done x =
      let ne : s ≢ t = λ q. no_host (stream_at old s).writer.owner x.writer k.unhosted (ap (λ i. (stream_at old i).writer.owner) q ∙ x.wrote) in
      same_in old (Turns t) reply new s h.held k (untold s Writing (moment_in old (Turns t) reply new) (ap code_told done)) (passing_other old new t x s ne)

  pub effect_read : (part : Part) → HasRoom old s part → AreBytes old.guests → Effect old part reply new → ReadIn old part reply new s
  effect_read part room b (ByReaction act p i r e) = rw (p, r, e) (reaction_in old act s h k b (subst (HasRoom old s) p room))
  effect_read part room b (ByRest q e) = same_in old part reply new s h.held k (untold s Writing (moment_in old part reply new) q.untold) (ap (λ (y : State). stream_at y s) e)
  effect_read part room b (ByHosting n p x) = subst (λ q. ReadIn old q reply new s) (sym p) (hosted_in n x)
  effect_read part room b (ByPiping t r p x) = subst (λ q. ReadIn old q reply new s) (sym p) (piped_aside t r x)
  effect_read part room b (ByPassing t p done x) = subst (λ q. ReadIn old q reply new s) (sym p) (passing_in t done x)
  effect_read part room b (ByDriving side t p done d) = subst (λ q. ReadIn old q reply new s) (sym p) (driven_in old new reply s h k side t (subst (HasRoom old s) p room) done d)
  effect_read part room b (ByCalling side end address count p c) = subst (λ q. ReadIn old q reply new s) (sym p) (call_in side end address count (subst (HasRoom old s) p room) c)
  effect_read part room b (ByForsaking act p f) = subst (λ q. ReadIn old q reply new s) (sym p) (forsaken_in act f)

-- ## The moment in which it goes to a host reader

-- an operation is withdrawn at an end after the moment
abbrev IsWithdrawn : Side → Scene → Option Operation → Type 0
IsWithdrawn side v o = (end_of side v.after).operation ≡ option_map withdrawn o

withdrawn_change : (side : Side) (v : Scene) → v.taken ≡ [] → v.report ≡ None → v.got ≡ [] → v.after.payload ≡ v.before.payload → v.after.received ≡ v.before.received → (o : Option Operation) → (end_of side v.before).operation ≡ o → IsWithdrawn side v o → Change side v
withdrawn_change side v taken report nothing payload same None was is =
    RestChange (record { was = was; is = is; takes = taken; counts = ap (k_of v.before.kind 0) report; same = same; nothing = nothing })
withdrawn_change side v taken report nothing payload same (Some o) was is =
    goes_on side v taken report nothing payload same o (withdrawn o) was is (keeps (λ x. x.guest) refl o.is_open) (keeps (λ x. x.address) refl o.is_open) (keeps (λ x. x.moved) refl o.is_open) (keeps (λ x. x.left) refl o.is_open)
  where
    keeps : (f : Operation → ℕ) → f (record o { met = false }) ≡ f o → (b : Bool) → f (cond b (record o { met = false }) o) ≡ f o
    keeps f e true = e
    keeps f e false = refl

-- a stream that differs from another in its owners, and in a write that is withdrawn
record Withdraws (old new : Stream) : Type 0 where
  operation : new.writer.operation ≡ option_map withdrawn old.writer.operation
  payload : new.payload ≡ old.payload
  received : new.received ≡ old.received
  kind : new.kind ≡ old.kind

module _ (old new : State) (reply : Reply) (s r : ℕ) (h : Holds old) (g : IsGuests old s) (x : Pipes old s r reply new) where
  abbrev pipe_part : Part
  pipe_part = Acts (OnHost r (Pipe s))

  abbrev pipe_moment : Moment
  pipe_moment = moment_in old pipe_part reply new

  -- whichever of its two streams it is then
  enters_as : (y : Stream) → new.streams ≡ set old.streams s y → Withdraws (stream_at old s) y → is_host y.writer.owner ≡ false → ReadIn old pipe_part reply new s
  enters_as y e w unhosted =
      let after : stream_at new s ≡ y = ap (λ xs. get_or xs s no_stream) e ∙ get_or-set_same old.streams s y no_stream x.made in
      let quiet = untold s Writing pipe_moment (ap code_told x.reply_is) in
      let count : received s new ≡ received s old = ap (λ (z : Stream). z.received) after ∙ w.received in
      record {
        writing =
            withdrawn_change Writing (scene_with s Writing pipe_moment (taken_in_moment s pipe_moment)) quiet.takes quiet.reports (taken_none s pipe_moment count) (ap (λ (z : Stream). z.payload) after ∙ w.payload) count (stream_at old s).writer.operation refl
            (ap (λ (z : Stream). z.writer.operation) after ∙ w.operation);
        reading = untold s Reading pipe_moment (ap code_told x.reply_is);
        rises = omega (arith, count);
        still = λ f. count;
        unhosted = ap (λ (z : Stream). is_host z.writer.owner) after ∙ unhosted;
        kind = ap (λ (z : Stream). z.kind) after ∙ w.kind;
      }

  pub enters : ReadIn old pipe_part reply new s
  enters =
      elim (piped_streams old new s r x.ends) [
        | inl e ↦ enters_as (piped (stream_at old s) r) e (record { operation = refl; payload = refl; received = refl; kind = refl }) (g.unhosted Writing)
        | inr e ↦ enters_as (without_ends (piped (stream_at old s) r)) e (record { operation = refl; payload = refl; received = refl; kind = refl }) refl
      ]

piped_idle : (part : Part) (reply : Reply) (s : ℕ) → is_idle part ≡ false → is_piped_in s part reply ≡ true → ⊥
piped_idle (Acts (OnHost n act)) reply s i e = cc
piped_idle (Acts act) reply s i e = cc
piped_idle (Turns t) reply s i e = cc

-- the part in which it goes to one
pub record Enters (old : State) (part : Part) (reply : Reply) (new : State) (s : ℕ) : Type 0 where
  pub host : ℕ
  pub is : part ≡ Acts (OnHost host (Pipe s))
  pub pipes : Pipes old s host reply new

-- by what the part is
pub entering : (old new : State) (part : Part) (reply : Reply) (s : ℕ) → Effect old part reply new → is_piped_in s part reply ≡ true → Enters old part reply new s
entering old new part reply s (ByReaction act p i r e) u = absurd (piped_idle part reply s i u)
entering old new part reply s (ByRest q e) u = absurd (let none = q.unpiped s in let wrong : true ≡ false = sym u ∙ none in cc)
entering old new part reply s (ByHosting n p x) u = absurd (let wrong : is_piped_in s (Acts (OnHost n New)) reply ≡ true = ap (λ q. is_piped_in s q reply) (sym p) ∙ u in cc)
entering old new part reply s (ByPiping t r p x) u =
    let same : (t == s) ≡ true = ap (is_piped_in s (Acts (OnHost r (Pipe t)))) (sym x.reply_is) ∙ ap (λ q. is_piped_in s q reply) (sym p) ∙ u in
    let is : t ≡ s = eqb-true t s same in
    record { host = r; is = p ∙ ap (λ i. Acts (OnHost r (Pipe i))) is; pipes = subst (λ i. Pipes old i r reply new) is x }
entering old new part reply s (ByDriving side t p done d) u = absurd (let wrong : is_piped_in s (Turns t) reply ≡ true = ap (λ q. is_piped_in s q reply) (sym p) ∙ u in cc)
entering old new part reply s (ByPassing t p done x) u = absurd (let wrong : is_piped_in s (Turns t) reply ≡ true = ap (λ q. is_piped_in s q reply) (sym p) ∙ u in cc)
entering old new part reply s (ByCalling side end address count p c) u =
    absurd (let wrong : is_piped_in s (Acts (OnEnd side end (Operate address count))) reply ≡ true = ap (λ q. is_piped_in s q reply) (sym p) ∙ u in cc)
entering old new part reply s (ByForsaking act p f) u = absurd (piped_idle (Acts act) reply s f.drops (ap (λ q. is_piped_in s q reply) (sym p) ∙ u))

pub effect_enters : (old new : State) (part : Part) (reply : Reply) (s : ℕ) → Holds old → IsGuests old s → Effect old part reply new → is_piped_in s part reply ≡ true → ReadIn old part reply new s
effect_enters old new part reply s h g effect u =
    let e = entering old new part reply s effect u in
    subst (λ q. ReadIn old q reply new s) (sym e.is) (enters old new reply s e.host h g e.pipes)

-- no read waited on it, as its read end was loose
pub effect_unread : (old new : State) (part : Part) (reply : Reply) (s : ℕ) → Holds old → Effect old part reply new → is_piped_in s part reply ≡ true → (stream_at old s).reader.operation ≡ None
effect_unread old new part reply s h effect u = h.loose s (entering old new part reply s effect u).pipes.loose

pub effect_there : (old new : State) (part : Part) (reply : Reply) (s : ℕ) → Effect old part reply new → is_piped_in s part reply ≡ true → s < length old.streams
effect_there old new part reply s effect u = (entering old new part reply s effect u).pipes.made
