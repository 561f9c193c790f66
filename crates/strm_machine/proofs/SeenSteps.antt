-- What every step is seen to do to one stream, by its shape, whatever the other streams hold: on each end one of the five changes.
use Rattle.std.proofs.Common.{◌≡◌, ℕ, zero, suc, ◌+◌, ◌-◌, ◌^◌, ◌≤◌, Bool, true, false, cond, List, [], ◌∷◌, ◌++◌, get_or, set, Option, Some, None, refl, sym, ap, ◌∙◌, subst, inl, inr, ⊎_elim, ◌≢◌, ◌<◌}
use Rattle.std.specs.Prelude.{All, IsSome, ◌⊎◌, ◌==◌, ◌&&◌}
use Rattle.std.proofs.lemmas.Bool.{cond-true, cases_eq, ne_eqb}
use Rattle.std.proofs.lemmas.List.{get_or-set_same, set-get_or, get_or-set_other}
use Rattle.strm_machine.specs.Words.{Guest, ReturnCode, TransmitIndex, State, no_stream, stream_at, opposite, same_side, end_of, with_end, Operated, named, stream_named, sizes_of, both_open, Reaction, goes, written_back, operates, Moment, names, as_report, report_in, accepted, k_of, items_in_memory, received, NamedEnd, Act, Make, Side, Writing, Reading, Operation, End, Stream, Reply, IsSound}
use Rattle.strm_machine.specs.Making.{made_stream, made_pair, with_stream}
use Rattle.strm_machine.specs.State.{with_bytes}
use Rattle.strm_machine.specs.Reactions.{written, reaction, makes}
use Rattle.strm_machine.specs.Moments.{code_told, place_of, read_place}
use Rattle.strm_machine.specs.declared.acts.Making.TheVariants as makings
use Rattle.strm_machine.specs.declared.replies.Reply.TheVariants as replies
use Rattle.strm_machine.proofs.SideLemmas.{same_side-itself, end_placed}
use Rattle.strm_machine.proofs.Changes.{Scene, scene, Change, ByRest as RestChange, BySettling}
use Rattle.strm_machine.proofs.NamedEndLemmas.{IsFound, named_itself, NamesEnd}
use Rattle.strm_machine.proofs.EndLemmas.{each_side, same_side-opposite, IsReplaced, with_end-replaces, with_end-apart, Unchanged}
use Rattle.strm_machine.proofs.EndingLemmas.{IsTold, tallies-tellable}
use Rattle.strm_machine.proofs.TallyLemmas.{IsFresh, Tallies, begins_by, Tallies-with_end}
use Rattle.strm_machine.proofs.MomentLemmas.{Seen, Untold, unnamed, untold, nothing_got, seen_counted, end_still, seen_same}
use Rattle.strm_machine.proofs.MoveLemmas.{end_by}
use Rattle.strm_machine.proofs.TurnChangeLemmas.{scene_of, DoesBy, turn_does, still, asked}
use Rattle.strm_machine.proofs.Lawful.{as_moment, IsLawfulAt}
use Rattle.strm_machine.proofs.Shapes.{operating, stream_on, begun_on, turn_on, Operates, Setting, set_by, SetsEnd, Owning, owned_by, Owns, tabled_by, Shape, ByTurn, BySetting, ByOwner, ByTable, ByPair, ByGuest, ByPut, ByRest}
use Rattle.strm_machine.proofs.ShapeLemmas.{reaction-shape}

-- ## A step that leaves the stream

-- the moment of a step that tells nothing to a stream, which stays
pub same_seen : (state : State) (s : ℕ) (m : Moment) → m.before ≡ state → IsLawfulAt state s → ((side : Side) → Untold s side m) → stream_at m.after s ≡ stream_at m.before s → Seen s m
same_seen state s m b h u e =
    seen_same s m u e (subst (λ (x : State). both_open (stream_at x s) ≡ false) (sym b) h.apart) (subst (λ (x : State). Tallies (stream_at x s)) (sym b) h.tallies)

-- what an act names is another stream
pub named_other : (state : State) (act : Act) (r : Reaction) (s k : ℕ) (side : Side) → NamesEnd state act r.reply k side → s ≢ k → (other : Side) → Untold s other (as_moment state act r)
named_other state act r s k side named ne other =
    let off : k == s ≡ false = ne_eqb k s (λ q. ne (sym q)) in
    unnamed s other (as_moment state act r) (named s other ∙ ap (λ b. b && same_side side other) off)

-- ## Reads and writes

-- a moment on one stream, by whether it names the end that is looked at, and the read end
abbrev seen : Bool → Bool → Act → Reply → Stream → Stream → List Guest → List Guest → Scene
seen here r act reply before after guests others =
    let report = cond here (as_report (code_told reply)) None in
    let waiting = place_of before.reader.operation in
    let place = cond r (read_place act waiting) waiting in
    record {
      before = before;
      after = after;
      guests = guests;
      taken = cond here (accepted act reply report) [];
      report = report;
      got = items_in_memory before.payload others place.guest place.address (after.received - before.received);
    }

module _ (end : NamedEnd) (address count : ℕ) (code : ReturnCode) (before after : Stream) (guests : List Guest) (t : Operated) where
  abbrev seen_as : Side → Bool → Bool → Scene
  seen_as side here r = seen here r (operating side end address count) (replies.Code code) before after guests t.guests

  operation_seen : (side other : Side) (here r : Bool) → here ≡ same_side side other → r ≡ same_side side Reading → after ≡ t.stream → ◌≡◌ {A = Scene} (seen_as side here r) (scene_of side other guests before (begun_on end address count) code t)
  operation_seen Writing other here r e f h = rw (e, f, h) refl
  operation_seen Reading other here r e f h = rw (e, f, h) refl

module _ (state : State) (side : Side) (end : NamedEnd) (address count : ℕ) (t : Operated)
    (found : IsFound state (operating side end address count) end.guest end.handle (stream_named (named state end)) side) where
  abbrev k : ℕ
  k = stream_named (named state end)

  -- on another stream
  turn_seen_other : (s : ℕ) (code : Option ReturnCode) → s ≢ k → IsLawfulAt state s → Seen s (as_moment state (operating side end address count) (written_back state k t code))
  turn_seen_other s (Some code) ne h =
      let r = written_back state k t (Some code) in
      same_seen state s (as_moment state (operating side end address count) r) refl h
      (named_other state (operating side end address count) r s k side (found.named r.reply) ne)
      (get_or-set_other state.streams k s t.stream no_stream ne)
  turn_seen_other s None ne h =
      let r = written_back state k t None in
      same_seen state s (as_moment state (operating side end address count) r) refl h
      (named_other state (operating side end address count) r s k side (found.named r.reply) ne)
      (get_or-set_other state.streams k s t.stream no_stream ne)

  -- on its own
  turn_seen_here : (code : Option ReturnCode) → IsLawfulAt state k → DoesBy side state.guests (stream_at state k) (begun_on end address count) t code → Seen k (as_moment state (operating side end address count) (written_back state k t code))
  turn_seen_here (Some code) h d =
      let act = operating side end address count in
      let stream = stream_at state k in
      let mine = begun_on end address count in
      let m = as_moment state act (goes (replies.Code code) (written state k t)) in
      let after : stream_at m.after k ≡ t.stream = get_or-set_same state.streams k t.stream no_stream found.made in
      let same : (other : Side) → scene k other m ≡ scene_of side other state.guests stream mine code t = λ other. operation_seen end address count code stream (stream_at m.after k) state.guests t side other (names k other state act m.reply) (names k Reading state act m.reply)
      (named_itself state act m.reply k side other (found.named m.reply)) (named_itself state act m.reply k side Reading (found.named m.reply)) after in
      record {
        change = λ other. subst (Change other) (sym (same other)) (d.change other);
        whole = subst (All IsSome) (sym (ap (λ v. v.got) (same Reading))) d.whole;
        most = subst (λ st. st.received ≤ stream.received + 2 ^ 28) (sym after) d.most;
        apart = ap both_open after ∙ d.apart;
        tallies = subst Tallies (sym after) d.tallies;
      }
  turn_seen_here None h u =
      let r = written_back state k t None in
      let streams : set state.streams k t.stream ≡ state.streams = ap (set state.streams k) u ∙ set-get_or state.streams k no_stream in
      same_seen state k (as_moment state (operating side end address count) r) refl h
      (λ other. untold k other (as_moment state (operating side end address count) r) refl)
      (ap (λ xs. get_or xs k no_stream) streams)

operates_seen : (state : State) (side : Side) (end : NamedEnd) (address count s : ℕ) → IsLawfulAt state s → received s state + 2 ^ 28 < 2 ^ 128 → Operates state side end address count → Seen s (as_moment state (operating side end address count) (operates state side end address count))
operates_seen state side end address count s h room o =
    let k = stream_named (named state end) in
    let t = turn_on state side end address count in
    elim (cases_eq s k) [
      | inl e ↦ here (subst (IsLawfulAt state) e h) (subst (λ i. received i state + 2 ^ 28 < 2 ^ 128) e room) e
      | inr ne ↦ turn_seen_other state side end address count t o.found s t.code ne h
    ]
  where
    here : IsLawfulAt state (stream_named (named state end)) → received (stream_named (named state end)) state + 2 ^ 28 < 2 ^ 128 → s ≡ stream_named (named state end) → Seen s (as_moment state (operating side end address count) (operates state side end address count))
    here h room e =
        let stream = stream_on state end in
        let mine = begun_on end address count in
        let t = turn_on state side end address count in
        let begins = begins_by side end.ty stream end.guest address count o.kind o.unended in
        subst (λ i. Seen i (as_moment state (operating side end address count) (operates state side end address count))) (sym e)
        (turn_seen_here state side end address count t o.found t.code h
        (turn_does side state.guests stream mine (record { bytes = h.bytes; room = room; start = refl; placed = o.placed; tallies = h.tallies; begins = begins; idle = o.idle }) (end_placed (opposite side) (sizes_of state.guests) stream o.streams)))

-- ## A stream set to another

pub none_either : {A : Type 0} (w : Bool) (x : List A) → x ≡ [] → cond w x [] ≡ []
none_either true x e = e
none_either false x e = refl

-- one moment at the end that was set, by its operation before and after
module _ (side : Side) (v : Scene) (takes : v.taken ≡ []) (nothing : v.got ≡ []) (payload : v.after.payload ≡ v.before.payload) (count : v.after.received ≡ v.before.received) where
  pub told_change : (report : Option ReturnCode) (o q : Option Operation) → v.report ≡ report → (end_of side v.before).operation ≡ o → (end_of side v.after).operation ≡ q → IsTold v.before.kind report o q → Change side v
  told_change report None None r was is t =
      RestChange (record { was = was; is = is; takes = takes; counts = ap (k_of v.before.kind 0) r ∙ t; same = count; nothing = nothing })
  told_change report None (Some q) r was is t = absurd t
  told_change None (Some o) None r was is t = absurd t
  told_change (Some code) (Some o) None r was is t =
      BySettling o code (record { was = was; is = is; takes = takes; report = r; counts = t; same = count; nothing = nothing })
  told_change report (Some o) (Some q) r was is t =
      ⊎_elim
      (λ e. still side v takes (r ∙ t.0) nothing payload count (is ∙ ap Some e ∙ sym was))
      (λ e. asked side v takes (r ∙ t.0) nothing payload count o was (is ∙ ap Some e)) t.1

-- the end that is set is told its code, and the opposite one stays
setting_seen : (state : State) (act : Act) (reply : Reply) (x : Setting) → IsLawfulAt state x.stream → SetsEnd state act reply x → Seen x.stream (as_moment state act (goes reply (set_by state x)))
setting_seen state act reply x h set =
    let s = x.stream in
    let side = x.side in
    let stream = stream_at state s in
    let m = as_moment state act (goes reply (set_by state x)) in
    let new = with_end side stream x.end in
    let becomes = set.becomes in
    let after : stream_at m.after s ≡ new = get_or-set_same state.streams s new no_stream set.made in
    let replaced : IsReplaced side stream (stream_at m.after s) x.end = subst (λ st. IsReplaced side stream st x.end) (sym after) (with_end-replaces side stream x.end) in
    let named = set.named in
    let report : report_in s side m ≡ as_report (code_told reply) = cond-true (names s side state act reply) (as_report (code_told reply)) None (named_itself state act reply s side side named ∙ same_side-itself side) in
    let untold = unnamed s (opposite side) m (named_itself state act reply s side (opposite side) named ∙ same_side-opposite side) in
    seen_counted s m
    (each_side (λ other. Change other (scene s other m)) side
    (told_change side (scene s side m) (none_either (names s side state act reply) _ (set.untaken (report_in s side m))) (nothing_got s m replaced.count).0 replaced.payload replaced.count
    (as_report (code_told reply)) (end_of side stream).operation x.end.operation report refl (ap (λ (e : End). e.operation) replaced.here) (becomes.told (tallies-tellable side stream h.tallies)))
    (end_still s (opposite side) m untold (record { operation = ap (λ (e : End). e.operation) replaced.other; payload = replaced.payload; kind = replaced.kind; count = replaced.count })))
    replaced.count
    (ap both_open after ∙ with_end-apart side stream x.end becomes.left h.apart)
    (subst Tallies (sym after) (Tallies-with_end side stream x.end becomes.left h.tallies))

sets_seen : (state : State) (act : Act) (reply : Reply) (x : Setting) (s : ℕ) → IsLawfulAt state s → SetsEnd state act reply x → Seen s (as_moment state act (goes reply (set_by state x)))
sets_seen state act reply x s h set =
    elim (cases_eq s x.stream) [
      | inl e ↦ subst (λ i. Seen i (as_moment state act (goes reply (set_by state x)))) (sym e) (setting_seen state act reply x (subst (IsLawfulAt state) e h) set)
      | inr ne ↦
          same_seen state s (as_moment state act (goes reply (set_by state x))) refl h
          (named_other state act (goes reply (set_by state x)) s x.stream x.side set.named ne)
          (get_or-set_other state.streams x.stream s (with_end x.side (stream_at state x.stream) x.end) no_stream ne)
    ]

-- ## An end of another owner

-- both ends stay, but for the owner of one
owning_seen : (state : State) (act : Act) (reply : Reply) (x : Owning) → IsLawfulAt state x.stream → Owns state reply x → Seen x.stream (as_moment state act (goes reply (owned_by state x)))
owning_seen state act reply x h o =
    let s = x.stream in
    let side = x.side in
    let stream = stream_at state s in
    let e = end_by state x in
    let new = with_end side stream e in
    let m = as_moment state act (goes reply (owned_by state x)) in
    let after : stream_at m.after s ≡ new = get_or-set_same state.streams s new no_stream o.made in
    let replaced : IsReplaced side stream (stream_at m.after s) e = subst (λ st. IsReplaced side stream st e) (sym after) (with_end-replaces side stream e) in
    seen_counted s m
    (each_side (λ other. Change other (scene s other m)) side
    (end_still s side m (untold s side m o.untold) (record { operation = ap (λ (k : End). k.operation) replaced.here; payload = replaced.payload; kind = replaced.kind; count = replaced.count }))
    (end_still s (opposite side) m (untold s (opposite side) m o.untold) (record { operation = ap (λ (k : End). k.operation) replaced.other; payload = replaced.payload; kind = replaced.kind; count = replaced.count })))
    replaced.count
    (ap both_open after ∙ with_end-apart side stream e (Unchanged refl) h.apart)
    (subst Tallies (sym after) (Tallies-with_end side stream e (Unchanged refl) h.tallies))

owns_seen : (state : State) (act : Act) (reply : Reply) (x : Owning) (s : ℕ) → IsLawfulAt state s → Owns state reply x → Seen s (as_moment state act (goes reply (owned_by state x)))
owns_seen state act reply x s h o =
    elim (cases_eq s x.stream) [
      | inl e ↦ subst (λ i. Seen i (as_moment state act (goes reply (owned_by state x)))) (sym e) (owning_seen state act reply x (subst (IsLawfulAt state) e h) o)
      | inr ne ↦
          same_seen state s (as_moment state act (goes reply (owned_by state x))) refl h
          (λ side. untold s side (as_moment state act (goes reply (owned_by state x))) o.untold)
          (get_or-set_other state.streams x.stream s (with_end x.side (stream_at state x.stream) (end_by state x)) no_stream ne)
    ]

-- ## A stream more

-- each number has the stream that it had, or had none and has the new one
pub made_at : (streams : List Stream) (x : Stream) (s : ℕ) → (get_or (streams ++ x ∷ []) s no_stream ≡ get_or streams s no_stream) ⊎ ((get_or streams s no_stream ≡ no_stream) × (get_or (streams ++ x ∷ []) s no_stream ≡ x))
made_at [] x zero = inr (refl, refl)
made_at [] x (suc s) = inl refl
made_at (y ∷ ys) x zero = inl refl
made_at (y ∷ ys) x (suc s) = made_at ys x s

-- a stream that was none, and is a new one
new_seen : (s : ℕ) (m : Moment) (ty : TransmitIndex) (writer write reader read : ℕ) → ((side : Side) → Untold s side m) → stream_at m.before s ≡ no_stream → stream_at m.after s ≡ made_stream ty writer write reader read → Seen s m
new_seen s m ty writer write reader read u was is =
    let count : received s m.after ≡ received s m.before = ap (λ st. st.received) is ∙ sym (ap (λ st. st.received) was) in
    seen_counted s m
    (λ side. RestChange (record {
      was = ap (λ st. (end_of side st).operation) was ∙ no_operation side;
      is = ap (λ st. (end_of side st).operation) is ∙ new_operation side;
      takes = (u side).takes;
      counts = ap (k_of (stream_at m.before s).kind 0) (u side).reports;
      same = count;
      nothing = (nothing_got s m count).0;
    }))
    count
    (ap both_open is)
    (subst Tallies (sym is) (record { writing = tt; reading = tt; one = λ k. record { writing = tt; reading = tt; count = refl; fresh = idle_fresh } }))
  where
    idle_fresh : (side : Side) → IsFresh (end_of side (made_stream ty writer write reader read)).operation (made_stream ty writer write reader read)
    idle_fresh side e = refl

    no_operation : (side : Side) → (end_of side no_stream).operation ≡ None
    no_operation Writing = refl
    no_operation Reading = refl

    new_operation : (side : Side) → (end_of side (made_stream ty writer write reader read)).operation ≡ None
    new_operation Writing = refl
    new_operation Reading = refl

between_seen : (state : State) (writer reader : ℕ) (ty : TransmitIndex) (s : ℕ) → IsLawfulAt state s → Seen s (as_moment state (Make (makings.Between writer reader ty)) (goes (replies.Pair (made_pair state writer reader ty)) (with_stream state writer reader ty)))
unfolding with_stream
between_seen state writer reader ty s h =
    let pair = made_pair state writer reader ty in
    let m = as_moment state (Make (makings.Between writer reader ty)) (goes (replies.Pair pair) (with_stream state writer reader ty)) in
    let x = made_stream ty writer pair.write reader pair.read in
    ⊎_elim
    (λ same. same_seen state s m refl h (λ side. untold s side m refl) same)
    (λ new. new_seen s m ty writer pair.write reader pair.read (λ side. untold s side m refl) new.0 new.1)
    (made_at state.streams x s)

-- ## Every step

shape_seen : (state : State) (act : Act) (r : Reaction) (s : ℕ) → IsLawfulAt state s → received s state + 2 ^ 28 < 2 ^ 128 → Shape state act r → Seen s (as_moment state act r)
shape_seen state act r s h room (ByTurn side end address count a e o) = rw (a, e) (operates_seen state side end address count s h room o)
shape_seen state act r s h room (BySetting reply x e set) = rw e (sets_seen state act reply x s h set)
shape_seen state act r s h room (ByOwner reply x e o) = rw e (owns_seen state act reply x s h o)
shape_seen state act r s h room (ByTable reply x e t) =
    rw e (let m = as_moment state act (goes reply (tabled_by state x)) in same_seen state s m refl h (λ side. untold s side m t.untold) refl)
shape_seen state act r s h room (ByPair writer reader ty a e fits) = rw (a, e) (between_seen state writer reader ty s h)
shape_seen state act r s h room (ByGuest size a e fits) =
    rw (a, e) (let m = as_moment state (Make (makings.Guest size)) (makes state (makings.Guest size)) in same_seen state s m refl h (λ side. untold s side m refl) refl)
shape_seen state act r s h room (ByPut reply g address bytes e p) =
    rw e (let m = as_moment state act (goes reply (with_bytes state g address bytes)) in same_seen state s m refl h (λ side. untold s side m p.untold) refl)
shape_seen state act r s h room (ByRest reply e none) =
    rw e (let m = as_moment state act (goes reply state) in same_seen state s m refl h (λ side. untold s side m none) refl)

-- of a sound state, whatever its other streams hold
pub reaction_seen : (state : State) (act : Act) (s : ℕ) → IsSound state → IsLawfulAt state s → received s state + 2 ^ 28 < 2 ^ 128 → Seen s (as_moment state act (reaction state act))
reaction_seen state act s sound h room = shape_seen state act (reaction state act) s h room (reaction-shape state act sound)
