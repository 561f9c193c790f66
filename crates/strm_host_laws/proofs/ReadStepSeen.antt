-- What a step of the machine does to a stream that guests write and a host reader reads, or has read, and what is
-- known of such a stream.
use Rattle.std.proofs.Common.{◌≡◌, ◌≢◌, ℕ, ◌+◌, ◌^◌, ◌<◌, ◌≤◌, Bool, true, false, [], ◌∷◌, get_or, set, Option, Some, None, refl, sym, ap, subst, ◌∙◌, inl, inr, arith}
use Rattle.std.specs.Option.{option_map}
use Rattle.std.proofs.lemmas.Bool.{cases_eq, cond-true, true≢false}
use Rattle.std.proofs.lemmas.List.{get_or-set_same, get_or-set_other, get_or_append_left}
use Rattle.strm_codes.specs.declared.codes.ReturnCode.{ReturnCode}
use Rattle.strm_codes.specs.declared.codes.TransmitKind.TheVariants.{Future}
use Rattle.strm_events.specs.Reports.{report_of}
use Rattle.strm_machine.specs.State.{State, no_stream, stream_at, is_host, is_gone, is_held}
use Rattle.strm_machine.specs.Sides.{same_side, end_of, with_end}
use Rattle.strm_machine.specs.Moves.{with_owner}
use Rattle.strm_machine.specs.Making.{made_stream, made_pair, with_stream}
use Rattle.strm_machine.specs.Endings.{pending_of, is_other_gone, dropped}
use Rattle.strm_machine.specs.Moments.{Moment, code_told, as_report, names, report_in, received}
use Rattle.strm_machine.specs.Reactions.{Reaction, goes, written_back, reaction}
use Rattle.strm_machine.specs.Soundness.{is_opened, IsUnmoved, both_open}
use Rattle.strm_machine.specs.Tests.{named, stream_named}
use Rattle.strm_machine.specs.declared.acts.Act.{Act}
use Rattle.strm_machine.specs.declared.replies.Reply.{Reply}
use Rattle.strm_machine.specs.declared.replies.Reply.TheVariants as replies
use Rattle.strm_machine.specs.declared.streams.Operation.{Operation}
use Rattle.strm_machine.specs.declared.streams.Owner.TheVariants.{Held}
use Rattle.strm_machine.specs.declared.streams.Side.{Side}
use Rattle.strm_machine.specs.declared.streams.Side.TheVariants.{Writing, Reading}
use Rattle.strm_machine.specs.declared.streams.Stream.{Stream}
use Rattle.strm_machine.proofs.ArrivalLemmas.{AreBytes}
use Rattle.strm_machine.proofs.Changes.{scene, Change, ByRest as RestChange, ByGoing, BySettling, ByOpening, ByServing}
use Rattle.strm_machine.proofs.EndLemmas.{Stays, stays_same}
use Rattle.strm_machine.proofs.EndingLemmas.{IsTold, AreToldOne, Tellable, unreported}
use Rattle.strm_machine.proofs.HeldLemmas.{StateIsHeld}
use Rattle.strm_machine.proofs.HostLemmas.{no_host, unless_host}
use Rattle.strm_machine.proofs.MomentLemmas.{Seen, Untold, unnamed, untold, nothing_got}
use Rattle.strm_machine.proofs.NamedEndLemmas.{named_itself, names-named}
use Rattle.strm_machine.proofs.SeenSteps.{named_other, told_change, none_either, reaction_seen}
use Rattle.strm_machine.proofs.ShapeLemmas.{reaction-shape, reaction-from}
use Rattle.strm_machine.proofs.Shapes.{operating, turn_on, Operates, Setting, set_by, SetsEnd, Owning, owned_by, Owns, tabled_by, Shape, ByTurn, BySetting, ByOwner, ByTable, ByPair, ByGuest, ByPut, ByRest as ByRestShape}
use Rattle.strm_machine.proofs.StreamSteps.{reaction_streams}
use Rattle.strm_machine.proofs.TallyLemmas.{none_one, none_fresh, PassesOne-by}
use Rattle.strm_machine.proofs.TurnChangeLemmas.{none_got, still}
use Rattle.strm_laws.proofs.KeptChanges.{scene_with}
use Rattle.strm_host_machine.specs.Attaching.{forsaken}
use Rattle.strm_host_laws.specs.HostMoments.{Part, Acts}
use Rattle.strm_host_laws.specs.HostLaws.{act_in, source, taken_in_moment}
use Rattle.strm_host_laws.proofs.GuestsSeen.{moment_in}
use Rattle.strm_host_laws.proofs.FutureRead.{FutureRead}
use Rattle.strm_host_laws.proofs.PartsSeen.{IsTaken, Parted, reaction_taken}
use Rattle.strm_host_laws.proofs.TurnsStand.{Holds}

-- ## What is known of the stream, and of a part

-- a stream that guests write, and whose read end went to a host reader
pub record IsRead (state : State) (s : ℕ) : Type 0 where
  pub taken : IsTaken Reading state s
  pub unhosted : is_host (stream_at state s).writer.owner ≡ false
  pub one : (stream_at state s).kind ≡ Future → FutureRead state s

pub record ReadIn (old : State) (part : Part) (reply : Reply) (new : State) (s : ℕ) : Type 0 where
  pub writing : Change Writing (scene_with s Writing (moment_in old part reply new) (taken_in_moment s (moment_in old part reply new)))
  pub reading : Untold s Reading (moment_in old part reply new)
  pub rises : received s old ≤ received s new
  pub still : is_host (stream_at old s).reader.owner ≡ false → received s new ≡ received s old
  pub unhosted : is_host (stream_at new s).writer.owner ≡ false
  pub kind : (stream_at new s).kind ≡ (stream_at old s).kind

-- where the count stays nothing is taken
pub taken_none : (s : ℕ) (m : Moment) → received s m.after ≡ received s m.before → taken_in_moment s m ≡ []
taken_none s m e = none_got (stream_at m.before s).payload m.before.guests (source s m).guest (source s m).address (received s m.after) (received s m.before) e

not_true : (b : Bool) → (b ≡ true → ⊥) → b ≡ false
not_true true h = absurd (h refl)
not_true false h = refl

-- an end that no guest has is named by none
names_free : (state : State) (act : Act) (reply : Reply) (s : ℕ) (side : Side) → StateIsHeld state → is_held (end_of side (stream_at state s)).owner ≡ false → names s side state act reply ≡ false
names_free state act reply s side held u =
    not_true (names s side state act reply)
    (λ e.
    let n = names-named state act reply s side e in
    let own = held.agree.named n.0 n.1 s side n.2 in
    let wrong : is_held (Held n.0 n.1) ≡ false = ap is_held (sym own) ∙ u in
    true≢false wrong)

-- a write end stays, but for its owner, where an end is dropped and the host end across goes with it
pub still_there : (side : Side) (y : Stream) → Stays Writing y (forsaken side (dropped side y))
unfolding dropped
still_there Writing y = record { operation = refl; payload = refl; kind = refl; count = refl }
still_there Reading y = record { operation = refl; payload = refl; kind = refl; count = refl }

pub gone : (side : Side) (y : Stream) → is_host (forsaken side (dropped side y)).writer.owner ≡ false
unfolding dropped
gone Writing y = refl
gone Reading y = refl

-- ## Where the write end stays

module _ (old : State) (part : Part) (reply : Reply) (new : State) (s : ℕ) (held : StateIsHeld old) (k : IsRead old s) where
  abbrev here : Moment
  here = moment_in old part reply new

  pub unread : Untold s Reading here
  unread = unnamed s Reading here (names_free old (act_in part) reply s Reading held k.taken.unheld)

  -- its operation too, and nothing is told to it
  pub stays_in : Untold s Writing here → Stays Writing (stream_at old s) (stream_at new s) → is_host (stream_at new s).writer.owner ≡ false → ReadIn old part reply new s
  stays_in u e unhosted = record {
    writing = still Writing (scene_with s Writing here (taken_in_moment s here)) u.takes u.reports (taken_none s here e.count) e.payload e.count e.operation;
    reading = unread;
    rises = omega (arith, e.count);
    still = λ f. e.count;
    unhosted = unhosted;
    kind = e.kind;
  }

  -- the whole stream does
  pub same_in : Untold s Writing here → stream_at new s ≡ stream_at old s → ReadIn old part reply new s
  same_in u e = stays_in u (stays_same Writing (stream_at old s) (stream_at new s) e) (ap (λ (x : Stream). is_host x.writer.owner) e ∙ k.unhosted)

-- ## A step

-- what a report at the write end needs, where a guest has it
pub read_tellable : (stream : Stream) → (stream.kind ≡ Future → AreToldOne stream.writer.operation stream.passed) → Parted Reading stream → is_gone stream.writer.owner ≡ false → Tellable Writing stream
read_tellable stream one parted there = record {
  unmoved = λ o e u r.
      unreported stream.kind o (is_other_gone Writing stream) stream.writer.told stream.passed (subst IsUnmoved e (parted u there))
      (ap (λ q. report_of stream.kind (option_map pending_of q) (is_other_gone Writing stream) stream.writer.told stream.passed) (sym e) ∙ r);
  one = one;
}

module _ (state : State) (act : Act) (s : ℕ) (h : Holds state) (k : IsRead state s) where
  -- of a reaction to it
  abbrev InIt : Reaction → Type 0
  InIt r = ReadIn state (Acts act) r.reply r.state s

  -- another stream is set
  other_set : (reply : Reply) (new : State) (t : ℕ) (x : Stream) → new.streams ≡ set state.streams t x → s ≢ t → Untold s Writing (moment_in state (Acts act) reply new) → ReadIn state (Acts act) reply new s
  other_set reply new t x e ne u = same_in state (Acts act) reply new s h.held k u (ap (λ xs. get_or xs s no_stream) e ∙ get_or-set_other state.streams t s x no_stream ne)

  held_there : (g handle : ℕ) → (stream_at state s).writer.owner ≡ Held g handle → is_gone (stream_at state s).writer.owner ≡ false
  held_there g handle e = ap is_gone e

  -- a set end, by the side
  setting_in : (reply : Reply) (x : Setting) → SetsEnd state act reply x → x.stream ≡ s → ReadIn state (Acts act) reply (set_by state x) s
  setting_in reply x sets q =
      subst (λ i. ReadIn state (Acts act) reply (set_by state x) i) q (by x.side refl (subst (IsRead state) (sym q) k))
    where
      by : (side : Side) → x.side ≡ side → IsRead state x.stream → ReadIn state (Acts act) reply (set_by state x) x.stream
      by Reading f k =
          let free = names_free state act reply x.stream Reading h.held k.taken.unheld in
          let named : names x.stream Reading state act reply ≡ true = named_itself state act reply x.stream x.side Reading sets.named ∙ ap (λ i. same_side i Reading) f in
          absurd (let both : true ≡ false = sym named ∙ free in true≢false both)
      by Writing f k =
          let t = x.stream in
          let stream = stream_at state t in
          let m = moment_in state (Acts act) reply (set_by state x) in
          let new = with_end Writing stream x.end in
          let after : stream_at m.after t ≡ new = ap (λ i. get_or (set state.streams t (with_end i stream x.end)) t no_stream) f ∙ get_or-set_same state.streams t new no_stream sets.made in
          let owner : x.end.owner ≡ stream.writer.owner = sets.becomes.owner ∙ ap (λ i. (end_of i stream).owner) f in
          let count : received t m.after ≡ received t m.before = ap (λ (y : Stream). y.received) after in
          let named : names t Writing state act reply ≡ true = named_itself state act reply t x.side Writing sets.named ∙ ap (λ i. same_side i Writing) f in
          let who = names-named state act reply t Writing named in
          let there = ap is_gone (h.held.agree.named who.0 who.1 t Writing who.2) in
          let report : report_in t Writing m ≡ as_report (code_told reply) = cond-true (names t Writing state act reply) (as_report (code_told reply)) None named in
          let becomes = subst (λ i. Tellable i stream → IsTold stream.kind (as_report (code_told reply)) (end_of i stream).operation x.end.operation) f sets.becomes.told in
          record {
            writing =
                told_change Writing (scene_with t Writing m (taken_in_moment t m)) (none_either (names t Writing state act reply) _ (sets.untaken (report_in t Writing m))) (taken_none t m count) (ap (λ (y : Stream). y.payload) after) count
                (as_report (code_told reply)) stream.writer.operation x.end.operation report refl (ap (λ (y : Stream). y.writer.operation) after)
                (becomes (read_tellable stream (λ f. (k.one f).told) k.taken.parted there));
            reading = unread state (Acts act) reply (set_by state x) t h.held k;
            rises = omega (arith, count);
            still = λ f. count;
            unhosted = ap (λ (y : Stream). is_host y.writer.owner) after ∙ ap is_host owner ∙ k.unhosted;
            kind = ap (λ (y : Stream). y.kind) after;
          }

  -- an end of another owner
  owning_in : (reply : Reply) (x : Owning) → Owns state reply x → x.stream ≡ s → ReadIn state (Acts act) reply (owned_by state x) s
  owning_in reply x o q =
      let new = with_owner x.side (stream_at state x.stream) x.owner in
      let after : stream_at (owned_by state x) s ≡ new = ap (λ i. get_or (set state.streams x.stream new) i no_stream) (sym q) ∙ get_or-set_same state.streams x.stream new no_stream o.made in
      let was : stream_at state x.stream ≡ stream_at state s = ap (stream_at state) q in
      let stays = by x.side (stream_at state x.stream) in
      stays_in state (Acts act) reply (owned_by state x) s h.held k (untold s Writing (moment_in state (Acts act) reply (owned_by state x)) o.untold)
      (record {
        operation = ap (λ (y : Stream). y.writer.operation) after ∙ stays.operation ∙ ap (λ (y : Stream). y.writer.operation) was;
        payload = ap (λ (y : Stream). y.payload) after ∙ stays.payload ∙ ap (λ (y : Stream). y.payload) was;
        kind = ap (λ (y : Stream). y.kind) after ∙ stays.kind ∙ ap (λ (y : Stream). y.kind) was;
        count = ap (λ (y : Stream). y.received) after ∙ stays.count ∙ ap (λ (y : Stream). y.received) was;
      })
      (ap (λ (y : Stream). is_host y.writer.owner) after ∙ hosts x.side (stream_at state x.stream) (ap (λ (y : Stream). is_host y.writer.owner) was ∙ k.unhosted))
    where
      by : (side : Side) (y : Stream) → Stays Writing y (with_owner side y x.owner)
      by Writing y = record { operation = refl; payload = refl; kind = refl; count = refl }
      by Reading y = record { operation = refl; payload = refl; kind = refl; count = refl }

      hosts : (side : Side) (y : Stream) → is_host y.writer.owner ≡ false → is_host (with_owner side y x.owner).writer.owner ≡ false
      hosts Writing y u = o.unhosted
      hosts Reading y u = u

  -- where a write waits
  shape_in : (o : Operation) → (stream_at state s).writer.operation ≡ Some o → (r : Reaction) → Shape state act r → InIt r
  unfolding with_stream
  shape_in o waits r (ByTurn side end address count a e p) =
      let t = stream_named (named state end) in
      rw e (turned_by_side t (turn_on state side end address count).code p)
    where
      busy : (side : Side) → s ≡ stream_named (named state end) → Operates state side end address count → ⊥
      busy Writing q p =
          let none : (stream_at state s).writer.operation ≡ None = ap (λ i. (stream_at state i).writer.operation) q ∙ p.idle in
          let wrong : Some o ≡ None = sym waits ∙ none in cc
      busy Reading q p =
          let own = h.held.agree.named end.guest end.handle (stream_named (named state end)) Reading p.found.held in
          let wrong : is_held (Held end.guest end.handle) ≡ false = ap is_held (sym own) ∙ ap (λ i. is_held (stream_at state i).reader.owner) (sym q) ∙ k.taken.unheld in
          true≢false wrong

      turned_by_side : (t : ℕ) (code : Option ReturnCode) → Operates state side end address count → InIt (written_back state (stream_named (named state end)) (turn_on state side end address count) code)
      turned_by_side t (Some code) p =
          let r = written_back state (stream_named (named state end)) (turn_on state side end address count) (Some code) in
          let ne : s ≢ stream_named (named state end) = λ q. busy side q p in
          other_set r.reply r.state (stream_named (named state end)) (turn_on state side end address count).stream refl ne
          (subst (λ b. Untold s Writing (moment_in state (Acts b) r.reply r.state)) (sym a) (named_other state (operating side end address count) r s (stream_named (named state end)) side (p.found.named r.reply) ne Writing))
      turned_by_side t None p =
          let r = written_back state (stream_named (named state end)) (turn_on state side end address count) None in
          let ne : s ≢ stream_named (named state end) = λ q. busy side q p in
          other_set r.reply r.state (stream_named (named state end)) (turn_on state side end address count).stream refl ne
          (untold s Writing (moment_in state (Acts act) r.reply r.state) refl)
  shape_in o waits r (BySetting reply x e sets) =
      rw e (elim (cases_eq s x.stream) [
        | inl q ↦ setting_in reply x sets (sym q)
        | inr ne ↦ other_set reply (set_by state x) x.stream (with_end x.side (stream_at state x.stream) x.end) refl ne (named_other state act (goes reply (set_by state x)) s x.stream x.side sets.named ne Writing)
      ])
  shape_in o waits r (ByOwner reply x e p) =
      rw e (elim (cases_eq s x.stream) [
        | inl q ↦ owning_in reply x p (sym q)
        | inr ne ↦ other_set reply (owned_by state x) x.stream (with_owner x.side (stream_at state x.stream) x.owner) refl ne (untold s Writing (moment_in state (Acts act) reply (owned_by state x)) p.untold)
      ])
  shape_in o waits r (ByTable reply x e t) = rw e (same_in state (Acts act) reply (tabled_by state x) s h.held k (untold s Writing (moment_in state (Acts act) reply (tabled_by state x)) t.untold) refl)
  shape_in o waits r (ByPair writer reader ty a e fits) =
      let pair = made_pair state writer reader ty in
      let x = made_stream ty writer pair.write reader pair.read in
      let new = with_stream state writer reader ty in
      rw e (same_in state (Acts act) (replies.Pair pair) new s h.held k (untold s Writing (moment_in state (Acts act) (replies.Pair pair) new) refl) (get_or_append_left state.streams (x ∷ []) no_stream s k.taken.made))
  shape_in o waits r (ByGuest size a e fits) = rw e (same_in state (Acts act) _ _ s h.held k (untold s Writing (moment_in state (Acts act) _ _) refl) refl)
  shape_in o waits r (ByPut reply g address bytes e p) = rw e (same_in state (Acts act) reply _ s h.held k (untold s Writing (moment_in state (Acts act) reply _) p.untold) refl)
  shape_in o waits r (ByRestShape reply e none) = rw e (same_in state (Acts act) reply state s h.held k (untold s Writing (moment_in state (Acts act) reply state) none) refl)

  -- where none waits, a write may begin
  module _ (b : AreBytes state.guests) (room : received s state + 2 ^ 28 < 2 ^ 128) (idle : (stream_at state s).writer.operation ≡ None) where
    abbrev after : State
    after = (reaction state act).state

    abbrev told_now : Reply
    told_now = (reaction state act).reply

    abbrev moment : Moment
    moment = moment_in state (Acts act) told_now after

    seen : Seen s moment
    seen =
        reaction_seen state act s h.sound
        (record {
          bytes = b;
          apart = ap (λ q. both_open (record (stream_at state s) { writer = record (stream_at state s).writer { operation = q } })) idle;
          tallies = record {
            writing = subst IsUnmoved (sym idle) tt;
            reading = subst IsUnmoved (sym k.taken.idle) tt;
            one = λ f.
                PassesOne-by Writing (stream_at state s) (none_one (stream_at state s).writer.operation idle) (none_one (stream_at state s).reader.operation k.taken.idle) (none_fresh (stream_at state s).writer.operation (stream_at state s) (ap is_opened idle))
                (none_fresh (stream_at state s).reader.operation (stream_at state s) (ap is_opened k.taken.idle)) (k.one f).count;
          };
        }) room

    none_read : (stream_at after s).reader.operation ≡ None
    none_read = (reaction_taken Reading state act s h k.taken).idle

    counts_none : Change Reading (scene s Reading moment) → received s after ≡ received s state
    counts_none (RestChange c) = c.same
    counts_none (ByGoing o p n c) = absurd (let was = c.was in let none = k.taken.idle in let wrong : Some o ≡ None = sym was ∙ none in cc)
    counts_none (BySettling o code c) = absurd (let was = c.was in let none = k.taken.idle in let wrong : Some o ≡ None = sym was ∙ none in cc)
    counts_none (ByOpening g address asked p n c) = absurd (let is = c.is in let none = none_read in let wrong : Some p ≡ None = sym is ∙ none in cc)
    counts_none (ByServing g address asked code c) =
        absurd (let takes = c.takes in let none = (unread state (Acts act) told_now after s h.held k).takes in let wrong = sym takes ∙ none in cc)

    count : received s after ≡ received s state
    count = counts_none (seen.change Reading)

    idle_in : ReadIn state (Acts act) told_now after s
    idle_in = record {
      writing =
          subst (λ g. Change Writing (scene_with s Writing moment g)) ((nothing_got s moment count).0 ∙ sym (taken_none s moment count)) (seen.change Writing);
      reading = unread state (Acts act) told_now after s h.held k;
      rises = omega (arith, count);
      still = λ f. count;
      unhosted = unless_host (stream_at after s).writer.owner (λ n e. no_host (stream_at state s).writer.owner n k.unhosted (reaction-from state act s n e).0);
      kind = (reaction_streams state act h.sound).kind s k.taken.made;
    }

  pub reaction_in : AreBytes state.guests → received s state + 2 ^ 28 < 2 ^ 128 → ReadIn state (Acts act) (reaction state act).reply (reaction state act).state s
  reaction_in b room = by (stream_at state s).writer.operation refl
    where
      by : (o : Option Operation) → (stream_at state s).writer.operation ≡ o → ReadIn state (Acts act) (reaction state act).reply (reaction state act).state s
      by None e = idle_in b room e
      by (Some o) e = shape_in o e (reaction state act) (reaction-shape state act h.sound)
