-- What every state of a run with host ends keeps, and that a step of the machine, the turn of a host end, an
-- end that opens or is told, and a stream more keep it.
use Rattle.std.proofs.Common.{◌≡◌, ◌≢◌, ℕ, ◌<◌, ◌≤◌, Bool, true, false, cond, List, [], ◌∷◌, ◌++◌, length, get_or, set, Option, Some, None, refl, sym, ap, subst, ◌∙◌, inl, inr, arith, length-set, ◌⊎◌, zero, suc}
use Rattle.std.proofs.lemmas.Bool.{cases_eq}
use Rattle.std.proofs.lemmas.List.{get_or-set_same, get_or-set_other, get_or_past, get_or_append_left, map-append}
use Rattle.std.proofs.lemmas.List.Elements.{All-push, All-weaker}
use Rattle.strm_machine.specs.State.{State, Guest, host_limit, no_stream, no_producer, idle_end, stream_at, producer_at, kept_at, consumer_at, is_host, is_held, is_loose}
use Rattle.strm_machine.specs.Hosting.{ServesOne, is_piped, KeepsForPipe, HostsHold}
use Rattle.strm_machine.specs.Sides.{opposite, end_of, with_end}
use Rattle.strm_machine.specs.Moves.{with_owner}
use Rattle.strm_machine.specs.Making.{made_stream, made_pair, with_stream}
use Rattle.strm_machine.specs.Operating.{Operated}
use Rattle.strm_machine.specs.Endings.{report_on, told_end, delivered}
use Rattle.strm_machine.specs.Tests.{named, stream_named}
use Rattle.strm_machine.specs.Reactions.{Reaction, with_stream_at, told, written_back, reaction}
use Rattle.strm_codes.specs.declared.codes.ReturnCode.{ReturnCode}
use Rattle.strm_codes.specs.declared.payloads.Payload.{Payload}
use Rattle.strm_machine.specs.Soundness.{IsSound, AreNamed, IsPlaced, OperationIsPlaced, StreamIsPlaced, sizes_of, handles_of, type_of, types_of}
use Rattle.strm_machine.specs.declared.acts.Act.{Act}
use Rattle.strm_machine.specs.declared.replies.Reply.{Reply}
use Rattle.strm_machine.specs.declared.streams.Duty.{Duty}
use Rattle.strm_machine.specs.declared.streams.Duty.TheVariants.{Serves}
use Rattle.strm_machine.specs.declared.streams.End.{End}
use Rattle.strm_machine.specs.declared.streams.Owner.{Owner}
use Rattle.strm_machine.specs.declared.streams.Owner.TheVariants.{Held, Loose, Host, Gone}
use Rattle.strm_machine.specs.declared.streams.Operation.{Operation}
use Rattle.strm_machine.specs.declared.streams.Producer.{Producer}
use Rattle.strm_machine.specs.declared.streams.Side.{Side}
use Rattle.strm_machine.specs.declared.streams.Side.TheVariants.{Writing, Reading}
use Rattle.strm_machine.specs.declared.streams.Stream.{Stream}
use Rattle.strm_machine.proofs.HeldLemmas.{StateIsHeld, reaction-held}
use Rattle.strm_machine.proofs.TurnLemmas.{GuestsKeep, all_kept}
use Rattle.strm_machine.proofs.EndLemmas.{IsLeft, left_by, each_side, with_end-type}
use Rattle.strm_machine.proofs.HostLemmas.{reaction-hosts, serving_made, turn_idle, unless_host}
use Rattle.strm_machine.proofs.ShapeLemmas.{reaction-shape}
use Rattle.strm_machine.proofs.Shapes.{stream_on, begun_on, turn_on, set_by, owned_by, Shape, ByTurn, BySetting, ByOwner, ByTable, ByPair, ByGuest, ByPut, ByRest as ByRestShape}
use Rattle.strm_machine.proofs.SoundLemmas.{IsSound-guests, IsSound-stream, placed_at, asked-placed, left_told, type_of-same, AreNamed-more}
use Rattle.strm_machine.proofs.SoundStepLemmas.{operate-keeps, reaction-sound}
use Rattle.strm_machine.proofs.TableLemmas.{OwnersStay, with_end-owners, handles-same, owner_in, at_push}
use Rattle.strm_host_machine.specs.HostRefusals.{is_used}
use Rattle.strm_host_machine.proofs.SettleLemmas.{is_done_with}
use Rattle.strm_host_laws.proofs.HostTurns.{turned_stream, turned_by, Fills, Turned, end_twice}
use Rattle.strm_host_laws.proofs.Effects.{opened_by, Hosts}
use Rattle.strm_host_laws.proofs.PartEffects.{host_made}
use Rattle.strm_host_laws.proofs.TurnMoves.{Moves, moved_on-moves, moved-theirs, moved-mine, moves-placed}
use Rattle.strm_host_laws.proofs.HostsAgree.{StaysOrFree, IsHeld-either, set_either, no_two, one_stream, HostsHold-changed, StaysIdle, HostsHold-set}
use Rattle.strm_host_machine.proofs.LoweredLemmas.{lowered_items-keeps}

-- ## A read end that is loose

-- it has no operation
abbrev pub LooseIsIdle : State → Type 0
LooseIsIdle state = (s : ℕ) → is_loose (stream_at state s).reader.owner ≡ true → (stream_at state s).reader.operation ≡ None

-- after one of a list was set
set_is : (xs : List Stream) (s k : ℕ) (x : Stream) → (get_or (set xs s x) k no_stream ≡ x) ⊎ (get_or (set xs s x) k no_stream ≡ get_or xs k no_stream)
set_is [] s k x = inr refl
set_is (y ∷ ys) zero zero x = inl refl
set_is (y ∷ ys) zero (suc k) x = inr refl
set_is (y ∷ ys) (suc s) zero x = inr refl
set_is (y ∷ ys) (suc s) (suc k) x = set_is ys s k x

abbrev pub IsIdleIfLoose : Stream → Type 0
IsIdleIfLoose x = is_loose x.reader.owner ≡ true → x.reader.operation ≡ None

pub loose_set : (old new : State) (s : ℕ) (x : Stream) → new.streams ≡ set old.streams s x → IsIdleIfLoose x → LooseIsIdle old → LooseIsIdle new
loose_set old new s x e i h k =
    subst (λ xs. IsIdleIfLoose (get_or xs k no_stream)) (sym e)
    (elim (set_is old.streams s k x) [
      | inl is ↦ subst IsIdleIfLoose (sym is) i
      | inr is ↦ subst IsIdleIfLoose (sym is) (h k)
    ])

not_loose : (owner : Owner) (g handle : ℕ) → owner ≡ Held g handle → is_loose owner ≡ true → ⊥
not_loose owner g handle e f = let wrong : is_loose (Held g handle) ≡ true = ap is_loose (sym e) ∙ f in cc

module _ (state : State) (held : StateIsHeld state) (h : LooseIsIdle state) where
  written_loose : (s : ℕ) (t : Operated) (code : Option ReturnCode) → IsIdleIfLoose t.stream → LooseIsIdle (written_back state s t code).state
  written_loose s t (Some code) i = loose_set state (written_back state s t (Some code)).state s t.stream refl i h
  written_loose s t None i = loose_set state (written_back state s t None).state s t.stream refl i h

  shape_loose : (act : Act) (r : Reaction) → Shape state act r → LooseIsIdle r.state
  unfolding with_stream
  shape_loose act r (ByTurn side end address count a e o) =
      let s = stream_named (named state end) in
      let t = turn_on state side end address count in
      rw e (written_loose s t t.code (λ l. by side (operate-keeps state side end address count o).stream.reader (held.agree.named end.guest end.handle s side o.found.held) l))
    where
      by : (side : Side) → (turn_on state side end address count).stream.reader.owner ≡ (stream_on state end).reader.owner → (end_of side (stream_on state end)).owner ≡ Held end.guest end.handle
          → IsIdleIfLoose (turn_on state side end address count).stream
      by Writing same own l = turn_idle Writing state.guests (stream_on state end) (begun_on end address count) (h (stream_named (named state end)) (ap is_loose (sym same) ∙ l))
      by Reading same own l = absurd (not_loose (stream_on state end).reader.owner end.guest end.handle own (ap is_loose (sym same) ∙ l))
  shape_loose act r (BySetting reply x e o) =
      rw e (loose_set state (set_by state x) x.stream (with_end x.side (stream_at state x.stream) x.end) refl (by x.side o.becomes.left o.becomes.owner) h)
    where
      by : (side : Side) → IsLeft (end_of side (stream_at state x.stream)).operation x.end.operation → x.end.owner ≡ (end_of side (stream_at state x.stream)).owner → IsIdleIfLoose (with_end side (stream_at state x.stream) x.end)
      by Writing left same l = h x.stream l
      by Reading left same l =
          let none = h x.stream (ap is_loose (sym same) ∙ l) in
          left_by (λ q. (stream_at state x.stream).reader.operation ≡ None → q ≡ None) (stream_at state x.stream).reader.operation x.end.operation left (λ n. n) (λ n. refl) (λ y n m. absurd (let wrong = n m in cc)) none
  shape_loose act r (ByOwner reply x e o) =
      rw e (loose_set state (owned_by state x) x.stream (with_owner x.side (stream_at state x.stream) x.owner) refl (by x.side o.idle) h)
    where
      by : (side : Side) → (is_loose x.owner ≡ true → (end_of side (stream_at state x.stream)).operation ≡ None) → IsIdleIfLoose (with_owner side (stream_at state x.stream) x.owner)
      by Writing i l = h x.stream l
      by Reading i l = i l
  shape_loose act r (ByTable reply x e t) = rw e h
  shape_loose act r (ByPair writer reader ty a e fits) =
      let pair = made_pair state writer reader ty in
      rw e (λ k. at_push state.streams (made_stream ty writer pair.write reader pair.read) no_stream k IsIdleIfLoose (λ q l. cc) (λ ne. h k))
  shape_loose act r (ByGuest size a e fits) = rw e h
  shape_loose act r (ByPut reply g address bytes e p) = rw e h
  shape_loose act r (ByRestShape reply e none) = rw e h

-- what every such state keeps
pub record Holds (state : State) : Type 0 where
  pub sound : IsSound state
  pub held : StateIsHeld state
  pub hosts : HostsHold state
  pub loose : LooseIsIdle state

pub Holds-reaction : (state : State) (act : Act) → Holds state → Holds (reaction state act).state
Holds-reaction state act h = record {
  sound = reaction-sound state act h.sound;
  held = reaction-held state act h.sound h.held;
  hosts = reaction-hosts state act h.sound h.held h.hosts;
  loose = shape_loose state h.held h.loose act (reaction state act) (reaction-shape state act h.sound);
}

-- nothing is kept of the host writer of a stream that no host reader reads
pub nothing_kept : (state : State) (s n : ℕ) → HostsHold state → (stream_at state s).writer.owner ≡ Host n → is_host (stream_at state s).reader.owner ≡ false → kept_at state n ≡ []
nothing_kept state s n h e u = h.keeps n (ap (is_piped state) ((h.serve Writing n s).serves e) ∙ u)

-- ## The turn of a host end

pub free_or : (done : Bool) (owner : Owner) (n : ℕ) → owner ≡ Host n → StaysOrFree owner (cond done Gone owner)
free_or true owner n e = inr (ap is_held e, refl)
free_or false owner n e = inl refl

fills_keep : (side : Side) (old : List Guest) (payload : Payload) (operation : Operation) (count : ℕ) (new : List Guest) → Fills side old payload operation count new → IsPlaced (sizes_of old) payload operation → count ≤ operation.left → GuestsKeep old new
fills_keep Writing old payload operation count new f p l = subst (GuestsKeep old) (sym f) (all_kept old)
fills_keep Reading old payload operation count new f p l =
    subst (GuestsKeep old) (sym f.is) (lowered_items-keeps old payload operation f.items p (omega (arith, f.long, l)))

module _ (side : Side) (old new : State) (s n : ℕ) (operation : Operation) (h : Holds old) (o : (end_of (opposite side) (stream_at old s)).owner ≡ Host n) (w : (end_of side (stream_at old s)).operation ≡ Some operation) (t : Turned side old new s n operation) where
  module _ (p : IsPlaced (sizes_of old.guests) (stream_at old s).payload operation) where
    abbrev after : Stream
    after = turned_stream side old s operation t.count t.result

    moves : Moves side (stream_at old s) after operation t.count t.result
    moves = moved_on-moves (stream_at old s) operation t.count side t.result

    guests_keep : GuestsKeep old.guests t.guests
    guests_keep = fills_keep side old.guests (stream_at old s).payload operation t.count t.guests t.fills p t.few

    stream_made : s < length old.streams
    stream_made = host_made old s (opposite side) (ap is_host o)

    turned_sound : IsSound (turned_by side old s operation t.count t.result t.guests t.ends)
    turned_sound =
        let placed = moves-placed side (sizes_of old.guests) (stream_at old s) after operation t.count t.result moves t.few p (placed_at old s stream_made h.sound) in
        let set = IsSound-stream old s after (type_of-same after (stream_at old s) moves.payload moves.kind) placed h.sound in
        let both = IsSound-guests (with_stream_at old s after) t.guests guests_keep set in
        record { named = both.named; placed = both.placed; small = both.small; own = both.own; sets = both.sets; contexts = both.contexts }

    owners_free : (k : Side) → StaysOrFree (owner_in old.streams s k) (end_of k after).owner
    owners_free =
        each_side (λ k. StaysOrFree (owner_in old.streams s k) (end_of k after).owner) side
        (inl (moved-mine (stream_at old s) operation t.count side t.result))
        (subst (StaysOrFree (owner_in old.streams s (opposite side))) (sym (moved-theirs (stream_at old s) operation t.count side t.result)) (free_or (is_done_with t.result) (end_of (opposite side) (stream_at old s)).owner n o))

    turned_held : StateIsHeld (turned_by side old s operation t.count t.result t.guests t.ends)
    turned_held =
        IsHeld-either old.guests t.guests old.streams (set old.streams s after)
        (λ g. handles-same old.guests t.guests g guests_keep.handles)
        (set_either old.streams s after stream_made owners_free) h.held

    -- its own end is no host end's, since it has an operation
    unhosted : (m : ℕ) → (end_of side (stream_at old s)).owner ≡ Host m → ⊥
    unhosted m e = let none = (h.hosts.serve side m s).idle e in let wrong : Some operation ≡ None = sym w ∙ none in cc

    turned_hosts : HostsHold (turned_by side old s operation t.count t.result t.guests t.ends)
    turned_hosts =
        HostsHold-changed (opposite side) old (turned_by side old s operation t.count t.result t.guests t.ends) s n after h.hosts (is_done_with t.result)
        (record {
          made = stream_made;
          owner = o;
          leaves = record { all = t.leaves.all; others = t.leaves.others; here = t.leaves.here; across = t.leaves.across };
          streams = refl;
          here = moves.theirs;
          other = ap (λ (x : End). x.owner) (end_twice side after) ∙ moved-mine (stream_at old s) operation t.count side t.result ∙ ap (λ (x : End). x.owner) (sym (end_twice side (stream_at old s)));
          idle = λ m e. absurd (unhosted m (ap (λ (x : End). x.owner) (sym (end_twice side (stream_at old s))) ∙ e));
          kept = refl;
          empty = empty side unhosted;
        })
      where
        -- nothing is kept for an end that has an operation
        empty : (side : Side) → ((m : ℕ) → (end_of side (stream_at old s)).owner ≡ Host m → ⊥) → (m : ℕ) → (stream_at old s).writer.owner ≡ Host m → kept_at old m ≡ []
        empty Writing never m e = absurd (never m e)
        empty Reading never m e = nothing_kept old s m h.hosts e (unless_host (stream_at old s).reader.owner (λ r f. never r f))

    turned_loose : IsIdleIfLoose after
    turned_loose = by side moves o w
      where
        host_or : (b : Bool) → is_loose (cond b Gone (Host n)) ≡ true → ⊥
        host_or true e = cc
        host_or false e = cc

        by : (side : Side) → Moves side (stream_at old s) after operation t.count t.result → (end_of (opposite side) (stream_at old s)).owner ≡ Host n → (end_of side (stream_at old s)).operation ≡ Some operation → IsIdleIfLoose after
        by Reading m o w l =
            let none = h.loose s (ap (λ (x : End). is_loose x.owner) (sym m.mine) ∙ l) in
            absurd (let wrong : Some operation ≡ None = sym w ∙ none in cc)
        by Writing m o w l = absurd (host_or (is_done_with t.result) (ap (λ b. is_loose (cond (is_done_with t.result) Gone b)) (sym o) ∙ ap (λ (x : End). is_loose x.owner) (sym m.theirs) ∙ l))

    pub Holds-turned : Holds new
    Holds-turned =
        subst Holds (sym t.is)
        (record { sound = turned_sound; held = turned_held; hosts = turned_hosts; loose = loose_set old (turned_by side old s operation t.count t.result t.guests t.ends) s after refl turned_loose h.loose })

pub turned_made : (side : Side) (old new : State) (s n : ℕ) (operation : Operation) → (end_of (opposite side) (stream_at old s)).owner ≡ Host n → Turned side old new s n operation → s < length new.streams
turned_made side old new s n operation o t =
    let made = host_made old s (opposite side) (ap is_host o) in
    let many : length new.streams ≡ length (set old.streams s (turned_stream side old s operation t.count t.result)) = ap (λ (x : State). length x.streams) t.is in
    omega (arith, made, many, length-set old.streams s (turned_stream side old s operation t.count t.result))

-- ## An end whose operation opens, or that is told

placed_with : (side : Side) (sizes : List ℕ) (stream : Stream) (e : End) → OperationIsPlaced sizes stream.payload e.operation → StreamIsPlaced sizes stream → StreamIsPlaced sizes (with_end side stream e)
placed_with Writing sizes stream e p h = record { writer = p; reader = h.reader }
placed_with Reading sizes stream e p h = record { writer = h.writer; reader = p }

-- a host's end that has no operation gets none
abbrev HostsNone : End → End → Type 0
HostsNone old new = is_host new.owner ≡ true → old.operation ≡ None → new.operation ≡ None

-- a stream of which one end is another of the same owner
module _ (side : Side) (state : State) (s : ℕ) (e : End) (h : Holds state) (l : s < length state.streams) (owner : e.owner ≡ (end_of side (stream_at state s)).owner) where
  abbrev with_new : Stream
  with_new = with_end side (stream_at state s) e

  Holds-end : OperationIsPlaced (sizes_of state.guests) (stream_at state s).payload e.operation → HostsNone (end_of side (stream_at state s)) e → (is_loose e.owner ≡ true → side ≡ Reading → e.operation ≡ None)
      → Holds (with_stream_at state s with_new)
  Holds-end p idle loose = record {
    sound = IsSound-stream state s with_new (with_end-type side (stream_at state s) e) (placed_with side (sizes_of state.guests) (stream_at state s) e p (placed_at state s l h.sound)) h.sound;
    held = IsHeld-either state.guests state.guests state.streams (set state.streams s with_new) (λ g. refl) (set_either state.streams s with_new l owners) h.held;
    hosts = HostsHold-set state s with_new l same (idle_on side owner idle) h.hosts;
    loose = loose_set state (with_stream_at state s with_new) s with_new refl (loose_on side loose) h.loose;
  }
    where
      same : OwnersStay (stream_at state s) with_new
      same = with_end-owners side (stream_at state s) e owner

      owners : (k : Side) → StaysOrFree (owner_in state.streams s k) (end_of k with_new).owner
      owners Writing = inl same.writer
      owners Reading = inl same.reader

      idle_on : (side : Side) → e.owner ≡ (end_of side (stream_at state s)).owner → HostsNone (end_of side (stream_at state s)) e → StaysIdle (stream_at state s) (with_end side (stream_at state s) e)
      idle_on Writing o i Writing q none = i (ap is_host o ∙ q) none
      idle_on Reading o i Reading q none = i (ap is_host o ∙ q) none
      idle_on Writing o i Reading q none = none
      idle_on Reading o i Writing q none = none

      loose_on : (side : Side) → (is_loose e.owner ≡ true → side ≡ Reading → e.operation ≡ None) → IsIdleIfLoose (with_end side (stream_at state s) e)
      loose_on Writing i q = h.loose s q
      loose_on Reading i q = i q refl

-- an operation at stream s has its place in its guest
abbrev pub PlacedAt : State → ℕ → Operation → Type 0
PlacedAt state s operation = IsPlaced (sizes_of state.guests) (stream_at state s).payload operation

pub Holds-opened : (side : Side) (state : State) (s g handle : ℕ) (operation : Operation) → s < length state.streams → (end_of side (stream_at state s)).owner ≡ Held g handle → PlacedAt state s operation → Holds state → Holds (opened_by side state s operation)
Holds-opened side state s g handle operation l o p h =
    Holds-end side state s (record (end_of side (stream_at state s)) { operation = Some operation }) h l refl p
    (λ q none. absurd (let wrong : is_host (Held g handle) ≡ true = ap is_host (sym o) ∙ q in cc))
    (λ q r. absurd (not_loose (end_of side (stream_at state s)).owner g handle o q))

pub end_op : (side : Side) (sizes : List ℕ) (stream : Stream) → StreamIsPlaced sizes stream → OperationIsPlaced sizes stream.payload (end_of side stream).operation
end_op Writing sizes stream h = h.writer
end_op Reading sizes stream h = h.reader

pub Holds-told : (side : Side) (state : State) (s : ℕ) → s < length state.streams → Holds state → Holds (told state s side)
unfolding delivered
Holds-told side state s l h =
    let stream = stream_at state s in
    let code = report_on side stream in
    let e = told_end code (end_of side stream) in
    let left = left_told code (end_of side stream).operation in
    let placed = end_op side (sizes_of state.guests) stream (placed_at state s l h.sound) in
    Holds-end side state s e h l refl
    (left_by (OperationIsPlaced (sizes_of state.guests) stream.payload) (end_of side stream).operation e.operation left placed tt (λ x q. asked-placed (sizes_of state.guests) stream.payload x q))
    (λ q none. still (end_of side stream).operation e.operation left none)
    (λ q r. still (end_of side stream).operation e.operation left (ap (λ k. (end_of k stream).operation) r ∙ h.loose s (ap (λ k. is_loose (end_of k stream).owner) (sym r) ∙ q)))
  where
    still : (o q : Option Operation) → IsLeft o q → o ≡ None → q ≡ None
    still o q left none = left_by (λ x. o ≡ None → x ≡ None) o q left (λ n. n) (λ n. refl) (λ x n m. absurd (let wrong = n m in cc)) none

-- ## A stream more

IsSound-hosted : (state : State) (stream : Stream) (ps : List Producer) → StreamIsPlaced (sizes_of state.guests) stream → IsSound state → IsSound (record state { streams = state.streams ++ stream ∷ []; producers = ps })
IsSound-hosted state stream ps p h = record {
  named = rw (map-append type_of state.streams (stream ∷ []))
      (All-weaker (AreNamed (types_of state.streams)) (AreNamed (types_of state.streams ++ type_of stream ∷ [])) (AreNamed-more (types_of state.streams) (type_of stream)) (handles_of state.guests) h.named);
  placed = All-push (StreamIsPlaced (sizes_of state.guests)) state.streams stream h.placed p;
  small = h.small;
  own = h.own;
  sets = h.sets;
  contexts = h.contexts;
}

pub serves_used : (duty : Duty) (k : ℕ) → is_used duty ≡ false → duty ≡ Serves k → ⊥
serves_used duty k e f = let wrong : is_used duty ≡ true = ap is_used f in cc

module _ (old : State) (n : ℕ) (stream : Stream) (h : Holds old) (known : n < host_limit) (unused : is_used (producer_at old n).duty ≡ false)
    (writer : stream.writer ≡ idle_end (Host n)) (reader : stream.reader ≡ idle_end Loose) (holding : Bool) where
  abbrev producer : Producer
  producer = record no_producer { duty = Serves (length old.streams); holding = holding }

  abbrev pub hosted_by : State
  hosted_by = record old { streams = old.streams ++ stream ∷ []; producers = set old.producers n producer }

  duty_of_it : (producer_at hosted_by n).duty ≡ Serves (length old.streams)
  duty_of_it = ap (λ (p : Producer). p.duty) (get_or-set_same old.producers n producer no_producer (omega (arith, known, h.hosts.all)))

  duty_of_others : (m : ℕ) → m ≢ n → (producer_at hosted_by m).duty ≡ (producer_at old m).duty
  duty_of_others m ne = ap (λ (p : Producer). p.duty) (get_or-set_other old.producers n m producer no_producer ne)

  -- an old stream, by its number and what stands there
  old_serves : (m k : ℕ) → (stream_at old k).writer.owner ≡ Host m → (producer_at hosted_by m).duty ≡ Serves k
  old_serves m k e =
      let d = (h.hosts.serve Writing m k).serves e in
      duty_of_others m (λ f. serves_used (producer_at old n).duty k unused (ap (λ i. (producer_at old i).duty) (sym f) ∙ d)) ∙ d

  old_owns : (m k : ℕ) → k ≢ length old.streams → (producer_at hosted_by m).duty ≡ Serves k → (stream_at old k).writer.owner ≡ Host m
  old_owns m k ne d =
      elim (cases_eq m n) [
        | inl e ↦ absurd (ne (one_stream k (length old.streams) (sym d ∙ ap (λ i. (producer_at hosted_by i).duty) e ∙ duty_of_it)))
        | inr off ↦ (h.hosts.serve Writing m k).owns (sym (duty_of_others m off) ∙ d)
      ]

  new_serves : (m k : ℕ) → k ≡ length old.streams → stream.writer.owner ≡ Host m → (producer_at hosted_by m).duty ≡ Serves k
  new_serves m k e o =
      let same : m ≡ n = no_two m n (sym o ∙ ap (λ (x : End). x.owner) writer) in
      ap (λ i. (producer_at hosted_by i).duty) same ∙ duty_of_it ∙ ap Serves (sym e)

  new_owns : (m k : ℕ) → k ≡ length old.streams → (producer_at hosted_by m).duty ≡ Serves k → stream.writer.owner ≡ Host m
  new_owns m k e d =
      elim (cases_eq m n) [
        | inl f ↦ ap (λ (x : End). x.owner) writer ∙ ap Host (sym f)
        | inr off ↦
            let made = serving_made old Writing m k h.hosts (sym (duty_of_others m off) ∙ d) in
            absurd (let less : k < length old.streams = made in omega (arith, less, e))
      ]

  hosted_serve : (side : Side) (m k : ℕ) → ServesOne hosted_by side m k
  hosted_serve Writing m k = record {
    serves = at_push old.streams stream no_stream k (λ x. x.writer.owner ≡ Host m → (producer_at hosted_by m).duty ≡ Serves k) (new_serves m k) (λ ne. old_serves m k);
    owns = at_push old.streams stream no_stream k (λ x. (producer_at hosted_by m).duty ≡ Serves k → x.writer.owner ≡ Host m) (new_owns m k) (old_owns m k);
    idle = at_push old.streams stream no_stream k (λ x. x.writer.owner ≡ Host m → x.writer.operation ≡ None) (λ e o. ap (λ (x : End). x.operation) writer) (λ ne. (h.hosts.serve Writing m k).idle);
  }
  hosted_serve Reading m k = record {
    serves = at_push old.streams stream no_stream k (λ x. x.reader.owner ≡ Host m → (consumer_at old m).duty ≡ Serves k)
        (λ e o. absurd (let wrong : Loose ≡ Host m = ap (λ (x : End). x.owner) (sym reader) ∙ o in cc)) (λ ne. (h.hosts.serve Reading m k).serves);
    owns = at_push old.streams stream no_stream k (λ x. (consumer_at old m).duty ≡ Serves k → x.reader.owner ≡ Host m)
        (λ e d. absurd (let made = serving_made old Reading m k h.hosts d in omega (arith, made, e))) (λ ne. (h.hosts.serve Reading m k).owns);
    idle = at_push old.streams stream no_stream k (λ x. x.reader.owner ≡ Host m → x.reader.operation ≡ None) (λ e o. ap (λ (x : End). x.operation) reader) (λ ne. (h.hosts.serve Reading m k).idle);
  }

  -- nothing is kept of it, or of another for which no host reader reads
  hosted_keeps : (m : ℕ) → KeepsForPipe hosted_by m
  hosted_keeps m u =
      elim (cases_eq m n) [
        | inl e ↦ h.hosts.keeps m (ap (λ k. is_piped old (producer_at old k).duty) e ∙ unserved (producer_at old n).duty unused)
        | inr ne ↦ h.hosts.keeps m (by (producer_at old m).duty refl (ap (is_piped hosted_by) (sym (duty_of_others m ne)) ∙ u))
      ]
    where
      unserved : (duty : Duty) → is_used duty ≡ false → is_piped old duty ≡ false
      unserved (Serves k) e = cc
      unserved duty e = refl

      by : (duty : Duty) → (producer_at old m).duty ≡ duty → is_piped hosted_by duty ≡ false → is_piped old duty ≡ false
      by (Serves k) e f =
          let made = serving_made old Writing m k h.hosts e in
          ap (λ (x : Stream). is_host x.reader.owner) (sym (get_or_append_left old.streams (stream ∷ []) no_stream k made)) ∙ f
      by duty e f = refl

  hosted_free : (k : ℕ) (side : Side) → StaysOrFree (owner_in old.streams k side) (owner_in (old.streams ++ stream ∷ []) k side)
  hosted_free k side =
      at_push old.streams stream no_stream k (λ x. StaysOrFree (owner_in old.streams k side) (end_of side x).owner)
      (λ e. inr (past k side e, free side))
      (λ ne. inl refl)
    where
      free : (side : Side) → is_held (end_of side stream).owner ≡ false
      free Writing = ap (λ (x : End). is_held x.owner) writer
      free Reading = ap (λ (x : End). is_held x.owner) reader

      gone : (side : Side) → is_held (end_of side no_stream).owner ≡ false
      gone Writing = refl
      gone Reading = refl

      past : (k : ℕ) (side : Side) → k ≡ length old.streams → is_held (owner_in old.streams k side) ≡ false
      past k side e = ap (λ (x : Stream). is_held (end_of side x).owner) (get_or_past old.streams k no_stream (omega (arith, e))) ∙ gone side

  Holds-hosted_by : Holds hosted_by
  Holds-hosted_by = record {
    sound = IsSound-hosted old stream (set old.producers n producer)
        (record {
          writer = subst (λ (x : End). OperationIsPlaced (sizes_of old.guests) stream.payload x.operation) (sym writer) tt;
          reader = subst (λ (x : End). OperationIsPlaced (sizes_of old.guests) stream.payload x.operation) (sym reader) tt;
        }) h.sound;
    held = IsHeld-either old.guests old.guests old.streams (old.streams ++ stream ∷ []) (λ g. refl) hosted_free h.held;
    hosts = record {
      all = length-set old.producers n producer ∙ h.hosts.all;
      all_kept = h.hosts.all_kept;
      all_readers = h.hosts.all_readers;
      serve = hosted_serve;
      keeps = hosted_keeps;
    };
    loose = λ k. at_push old.streams stream no_stream k IsIdleIfLoose (λ e l. ap (λ (x : End). x.operation) reader) (λ ne. h.loose k);
  }

pub Holds-hosted : (old new : State) (n : ℕ) (reply : Reply) → Hosts old n reply new → Holds old → Holds new
Holds-hosted old new n reply x h = subst Holds (sym x.is) (Holds-hosted_by old n x.stream h x.known x.unused x.writer x.reader x.holding)
