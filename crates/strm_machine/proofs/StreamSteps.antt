-- What every step leaves of the streams, by its shape: those that were made stay made, of their type; one more at
-- most is made; and of each few items more are counted.
use Rattle.std.proofs.Common.{◌≡◌, ℕ, zero, suc, ◌+◌, ◌-◌, ◌^◌, ◌<◌, ◌≤◌, true, min, List, [], ◌∷◌, ◌++◌, length, get_or, set, Option, Some, None, refl, ap, ⊎_elim, arith, length-append}
use Rattle.std.proofs.lemmas.Bool.{cond_both}
use Rattle.std.proofs.lemmas.List.{length-set, get_or_append_left}
use Rattle.strm_machine.specs.Words.{Guest, ReturnCode, State, no_stream, stream_at, opposite, same_side, end_of, with_end, with_operation, with_received, advanced, Operated, named, stream_named, written_back, Reaction, Act, Side, Writing, Reading, Operation, End, Stream, IsSound}
use Rattle.strm_machine.specs.State.{is_gone}
use Rattle.strm_machine.specs.Making.{made_stream, made_pair, with_stream}
use Rattle.strm_machine.specs.Reactions.{reaction}
use Rattle.strm_machine.specs.Operating.{moves, completes_alone, rendezvous_by, finds, operate}
use Rattle.strm_machine.specs.declared.streams.Meeting.{Meeting}
use Rattle.strm_machine.specs.declared.streams.Meeting.TheVariants.{BothComplete, WriteCompletes, ReadCompletes}
use Rattle.strm_machine.proofs.EndLemmas.{with_end-replaces, with_operation-count}
use Rattle.strm_machine.proofs.MoveLemmas.{end_by}
use Rattle.strm_machine.proofs.SeenSteps.{made_at}
use Rattle.strm_machine.proofs.Shapes.{stream_on, begun_on, turn_on, Shape, ByTurn, BySetting, ByOwner, ByTable, ByPair, ByGuest, ByPut, ByRest}
use Rattle.strm_machine.proofs.ShapeLemmas.{reaction-shape}
use Rattle.strm_machine.proofs.SoundStepLemmas.{operate-keeps}
use Rattle.strm_machine.proofs.TableLemmas.{set-keeps}

-- ## A turn

-- a count that stops at the greatest
pub most_of : (r n : ℕ) → n < 2 ^ 28 → min (r + n) (2 ^ 128 - 1) ≤ r + 2 ^ 28
most_of r n l = omega arith

module _ (side : Side) (guests : List Guest) (stream : Stream) (mine : Operation) (small : mine.left < 2 ^ 28) where
  abbrev Few : Operated → Type 0
  Few t = t.stream.received ≤ stream.received + 2 ^ 28

  moves_few : (theirs : Operation) (n : ℕ) (o : Option (List Guest)) → n < 2 ^ 28 → Few (moves side guests stream mine theirs n o)
  moves_few theirs n None l = omega arith
  moves_few theirs n (Some after) l = omega (arith, most_of stream.received n l, with_operation-count (opposite side) (with_received stream n) (advanced stream.payload theirs n))

  alone_few : (who : Side) (theirs : Operation) → Few (completes_alone who side guests stream mine theirs)
  alone_few who theirs =
      let stopped = with_operation (opposite side) stream (advanced stream.payload theirs 0) in
      cond_both (same_side who side) _ _ Few (λ e. omega arith)
      (λ e. omega (arith, with_operation-count side stopped mine, with_operation-count (opposite side) stream (advanced stream.payload theirs 0)))

  meets_few : (meeting : Meeting) (theirs : Operation) → Few (rendezvous_by meeting side guests stream mine theirs)
  meets_few BothComplete theirs = moves_few theirs _ _ (omega (arith, small))
  meets_few WriteCompletes theirs = alone_few Writing theirs
  meets_few ReadCompletes theirs = alone_few Reading theirs

  finds_few : (o : Option Operation) → Few (finds side guests stream mine o)
  finds_few None = omega (arith, with_operation-count side stream mine)
  finds_few (Some theirs) =
      cond_both theirs.is_open _ _ Few (λ e. meets_few _ theirs) (λ e. omega (arith, with_operation-count side stream mine))

  turn_few : Few (operate side guests stream mine)
  unfolding operate
  turn_few =
      cond_both (is_gone (end_of (opposite side) stream).owner) _ _ Few
      (λ e. omega (arith, (with_end-replaces side stream (record (end_of side stream) { told = true })).count))
      (λ e. finds_few _)

-- ## The streams

-- what stays of a stream
pub record StreamStays (before after : Stream) : Type 0 where
  pub kind : after.kind ≡ before.kind
  pub payload : after.payload ≡ before.payload
  pub most : after.received ≤ before.received + 2 ^ 28

-- and of all of them
pub record StreamsStay (before after : List Stream) : Type 0 where
  pub many : length before ≤ length after
  pub few : length after ≤ length before + 1
  pub kind : (s : ℕ) → s < length before → (get_or after s no_stream).kind ≡ (get_or before s no_stream).kind
  pub payload : (s : ℕ) → s < length before → (get_or after s no_stream).payload ≡ (get_or before s no_stream).payload
  pub most : (s : ℕ) → (get_or after s no_stream).received ≤ (get_or before s no_stream).received + 2 ^ 28

stay_same : (streams : List Stream) → StreamsStay streams streams
stay_same streams = record { many = omega arith; few = omega arith; kind = λ s l. refl; payload = λ s l. refl; most = λ s. omega arith }

-- where one of them is set to another
pub set_most : (streams : List Stream) (k s : ℕ) (x : Stream) → x.received ≤ (get_or streams k no_stream).received + 2 ^ 28 → (get_or (set streams k x) s no_stream).received ≤ (get_or streams s no_stream).received + 2 ^ 28
set_most [] k s x l = omega arith
set_most (y ∷ ys) zero zero x l = l
set_most (y ∷ ys) zero (suc s) x l = omega arith
set_most (y ∷ ys) (suc k) zero x l = omega arith
set_most (y ∷ ys) (suc k) (suc s) x l = set_most ys k s x l

stay_set : (streams : List Stream) (k : ℕ) (x : Stream) → StreamStays (get_or streams k no_stream) x → StreamsStay streams (set streams k x)
stay_set streams k x h = record {
  many = omega (arith, length-set streams k x);
  few = omega (arith, length-set streams k x);
  kind = λ s l. set-keeps (λ (y : Stream). y.kind) streams k s x no_stream h.kind;
  payload = λ s l. set-keeps (λ (y : Stream). y.payload) streams k s x no_stream h.payload;
  most = λ s. set_most streams k s x h.most;
}

stay_end : (streams : List Stream) (k : ℕ) (side : Side) (e : End) → StreamsStay streams (set streams k (with_end side (get_or streams k no_stream) e))
stay_end streams k side e =
    let stream = get_or streams k no_stream in
    let r = with_end-replaces side stream e in
    stay_set streams k (with_end side stream e) (record { kind = r.kind; payload = r.payload; most = omega (arith, r.count) })

-- and where there is one more, of which nothing was received
stay_push : (streams : List Stream) (x : Stream) → x.received ≡ 0 → StreamsStay streams (streams ++ x ∷ [])
stay_push streams x none = record {
  many = omega (arith, length-append streams (x ∷ []));
  few = omega (arith, length-append streams (x ∷ []));
  kind = λ s l. ap (λ (y : Stream). y.kind) (get_or_append_left streams (x ∷ []) no_stream s l);
  payload = λ s l. ap (λ (y : Stream). y.payload) (get_or_append_left streams (x ∷ []) no_stream s l);
  most = λ s. ⊎_elim
      (λ same. omega (arith, ap (λ (y : Stream). y.received) same))
      (λ new. omega (arith, none, ap (λ (y : Stream). y.received) new.1)) (made_at streams x s);
}

-- ## A step

back_stay : (state : State) (k : ℕ) (t : Operated) (code : Option ReturnCode) → StreamStays (stream_at state k) t.stream → StreamsStay state.streams (written_back state k t code).state.streams
back_stay state k t (Some code) h = stay_set state.streams k t.stream h
back_stay state k t None h = stay_set state.streams k t.stream h

shape_stay : (state : State) (act : Act) (r : Reaction) → Shape state act r → StreamsStay state.streams r.state.streams
unfolding with_stream
shape_stay state act r (ByTurn side end address count a e o) =
    let t = turn_on state side end address count in
    let k = (operate-keeps state side end address count o).stream in
    let few = turn_few side state.guests (stream_on state end) (begun_on end address count) (omega (arith, o.placed.counted)) in
    rw e (back_stay state (stream_named (named state end)) t t.code (record { kind = k.kind; payload = k.payload; most = few }))
shape_stay state act r (BySetting reply x e set) = rw e (stay_end state.streams x.stream x.side x.end)
shape_stay state act r (ByOwner reply x e o) = rw e (stay_end state.streams x.stream x.side (end_by state x))
shape_stay state act r (ByTable reply x e t) = rw e (stay_same state.streams)
shape_stay state act r (ByPair writer reader ty a e fits) =
    let pair = made_pair state writer reader ty in
    rw e (stay_push state.streams (made_stream ty writer pair.write reader pair.read) refl)
shape_stay state act r (ByGuest size a e fits) = rw e (stay_same state.streams)
shape_stay state act r (ByPut reply g address bytes e p) = rw e (stay_same state.streams)
shape_stay state act r (ByRest reply e none) = rw e (stay_same state.streams)

pub reaction_streams : (state : State) (act : Act) → IsSound state → StreamsStay state.streams (reaction state act).state.streams
reaction_streams state act sound = shape_stay state act (reaction state act) (reaction-shape state act sound)
