-- Host ends and streams agree after every step, by its shape: no step gives a host end an end, or takes one.
use Rattle.std.proofs.Common.{◌≡◌, ℕ, ◌<◌, true, false, List, [], ◌∷◌, ◌++◌, length, get_or, set, Option, Some, None, refl, sym, ap, ◌∙◌, subst, inl, inr, arith}
use Rattle.std.proofs.lemmas.Bool.{cases_eq, cases_lt, cond_both}
use Rattle.std.proofs.lemmas.List.{get_or-set_same, get_or-set_other, get_or_past}
use Rattle.strm_machine.specs.Words.{Guest, ReturnCode, TransmitIndex, State, no_stream, stream_at, end_of, opposite, with_end, Operated, named, stream_named, Reaction, written_back, is_end, NamedEnd, Act, Side, Writing, Reading, Operation, End, Stream, Owner, is_loose, IsSound}
use Rattle.strm_machine.specs.State.{host_limit, no_producer, no_consumer, producer_at, is_host, is_gone}
use Rattle.strm_machine.specs.Hosting.{duty_of, is_piped, HostsHold}
use Rattle.strm_machine.specs.Making.{made_stream, made_pair, with_stream}
use Rattle.strm_machine.specs.Operating.{finds, operate}
use Rattle.strm_machine.specs.Reactions.{reaction}
use Rattle.strm_machine.specs.declared.streams.Duty.{Duty}
use Rattle.strm_machine.specs.declared.streams.Duty.TheVariants.{Serves}
use Rattle.strm_machine.specs.declared.streams.Producer.{Producer}
use Rattle.strm_machine.specs.declared.streams.Consumer.{Consumer}
use Rattle.strm_machine.specs.declared.streams.Owner.TheVariants.{Host}
use Rattle.strm_machine.proofs.EndLemmas.{IsLeft, left_by}
use Rattle.strm_machine.proofs.HeldLemmas.{names_in, StateIsHeld}
use Rattle.strm_machine.proofs.SeenSteps.{made_at}
use Rattle.strm_machine.proofs.SoundStepLemmas.{operate-keeps}
use Rattle.strm_machine.proofs.TableLemmas.{OwnersStay, owner_stays, with_end-owners}
use Rattle.strm_machine.proofs.Shapes.{stream_on, begun_on, turn_on, Operates, set_by, owned_by, IsFreed, tabled_by, Shape, ByTurn, BySetting, ByOwner, ByTable, ByPair, ByGuest, ByPut, ByRest}
use Rattle.strm_machine.proofs.ShapeLemmas.{reaction-shape}

-- whether an owner is a host end
pub no_host : (owner : Owner) (n : ℕ) → is_host owner ≡ false → owner ≡ Host n → ⊥
no_host owner n e f = let g : is_host owner ≡ true = ap is_host f in cc

pub unless_host : (owner : Owner) → ((n : ℕ) → owner ≡ Host n → ⊥) → is_host owner ≡ false
unless_host (Host n) h = absurd (h n refl)
unless_host _ h = refl

pub host_number : (owner : Owner) → is_host owner ≡ true → (n : ℕ) × (owner ≡ Host n)
host_number (Host n) e = (n, refl)
host_number _ e = cc

-- ## What a change of streams keeps

-- a host end has an end of the new stream just where it had that of the old one
pub record HostsStay (old new : Stream) : Type 0 where
  pub was : (side : Side) (n : ℕ) → (end_of side new).owner ≡ Host n → (end_of side old).owner ≡ Host n
  pub is : (side : Side) (n : ℕ) → (end_of side old).owner ≡ Host n → (end_of side new).owner ≡ Host n
  pub idle : (side : Side) → is_host (end_of side old).owner ≡ true → (end_of side old).operation ≡ None → (end_of side new).operation ≡ None

-- what is kept of host ends
pub record SameKept (state after : State) : Type 0 where
  pub producers : after.producers ≡ state.producers
  pub kept : after.kept ≡ state.kept
  pub consumers : after.consumers ≡ state.consumers

pub SameKept-duty : (state after : State) (side : Side) (n : ℕ) → SameKept state after → duty_of side after n ≡ duty_of side state n
SameKept-duty state after Writing n p = ap (λ ps. (get_or ps n no_producer).duty) p.producers
SameKept-duty state after Reading n p = ap (λ ps. (get_or ps n no_consumer).duty) p.consumers

-- a stream that no host reader reads had none before
unpiped_before : (state after : State) → ((s : ℕ) → HostsStay (stream_at state s) (stream_at after s)) → (duty : Duty) → is_piped after duty ≡ false → is_piped state duty ≡ false
unpiped_before state after stays (Serves s) u = unless_host (stream_at state s).reader.owner (λ r e. no_host (stream_at after s).reader.owner r u ((stays s).is Reading r e))
unpiped_before state after stays duty u = refl

pub HostsHold-stays : (state after : State) → SameKept state after → ((s : ℕ) → HostsStay (stream_at state s) (stream_at after s)) → HostsHold state → HostsHold after
HostsHold-stays state after p stays h = record {
  all = ap length p.producers ∙ h.all;
  all_kept = ap length p.kept ∙ h.all_kept;
  all_readers = ap length p.consumers ∙ h.all_readers;
  serve = λ side n s.
      let same = SameKept-duty state after side n p in
      record {
        serves = λ e. same ∙ (h.serve side n s).serves ((stays s).was side n e);
        owns = λ e. (stays s).is side n ((h.serve side n s).owns (sym same ∙ e));
        idle = λ e. let was = (stays s).was side n e in (stays s).idle side (ap is_host was) ((h.serve side n s).idle was);
      };
  keeps = λ n u.
      ap (λ ks. get_or ks n []) p.kept
      ∙ h.keeps n (unpiped_before state after stays (producer_at state n).duty (ap (is_piped after) (sym (SameKept-duty state after Writing n p)) ∙ u));
}

pub HostsStay-same : (stream : Stream) → HostsStay stream stream
HostsStay-same stream = record { was = λ side n e. e; is = λ side n e. e; idle = λ side e o. o }

-- both ends stay with their owners
stays_owned : (old new : Stream) → OwnersStay old new → ((side : Side) → is_host (end_of side old).owner ≡ true → (end_of side old).operation ≡ None → (end_of side new).operation ≡ None) → HostsStay old new
stays_owned old new same idle = record {
  was = λ side n e. sym (owner_stays side old new same) ∙ e;
  is = λ side n e. owner_stays side old new same ∙ e;
  idle = idle;
}

-- neither stream has a host end
stays_unhosted : (old new : Stream) → ((side : Side) → is_host (end_of side old).owner ≡ false) → ((side : Side) → is_host (end_of side new).owner ≡ false) → HostsStay old new
stays_unhosted old new was is = record {
  was = λ side n e. absurd (no_host (end_of side new).owner n (is side) e);
  is = λ side n e. absurd (no_host (end_of side old).owner n (was side) e);
  idle = λ side e o. absurd (let wrong : true ≡ false = sym e ∙ was side in cc);
}

-- another stream of a number
stays_set : (streams : List Stream) (s : ℕ) (x : Stream) → s < length streams → HostsStay (get_or streams s no_stream) x → (k : ℕ) → HostsStay (get_or streams k no_stream) (get_or (set streams s x) k no_stream)
stays_set streams s x l h k =
    elim (cases_eq k s) [
      | inl e ↦ rw (e, get_or-set_same streams s x no_stream l) h
      | inr ne ↦ rw (get_or-set_other streams s k x no_stream ne) (HostsStay-same (get_or streams k no_stream))
    ]

-- ## What each shape keeps

-- what a guest's handle names is no host end's
unhosted_named : (state : State) (g handle s : ℕ) (side : Side) → StateIsHeld state → is_end s side (names_in state.guests g handle) ≡ true → is_host (end_of side (stream_at state s)).owner ≡ false
unhosted_named state g handle s side held e = ap is_host (held.agree.named g handle s side e)

-- a read or write leaves an end on the other side without an operation so
pub turn_idle : (side : Side) (guests : List Guest) (stream : Stream) (mine : Operation) → (end_of (opposite side) stream).operation ≡ None → (end_of (opposite side) (operate side guests stream mine).stream).operation ≡ None
unfolding operate
turn_idle side guests stream mine e =
    cond_both (is_gone (end_of (opposite side) stream).owner) _ _ (λ (t : Operated). (end_of (opposite side) t.stream).operation ≡ None)
    (λ g. other_kept side stream _ e)
    (λ g. subst (λ o. (end_of (opposite side) (finds side guests stream mine o).stream).operation ≡ None) (sym e) (other_kept side stream _ e))
  where
    other_kept : (side : Side) (stream : Stream) (x : End) → (end_of (opposite side) stream).operation ≡ None → (end_of (opposite side) (with_end side stream x)).operation ≡ None
    other_kept Writing stream x e = e
    other_kept Reading stream x e = e

-- the end that is called is no host end's, and the other stays without an operation
idle_by : (side k : Side) (old new : Stream) → is_host (end_of side old).owner ≡ false → ((end_of (opposite side) old).operation ≡ None → (end_of (opposite side) new).operation ≡ None) → is_host (end_of k old).owner ≡ true → (end_of k old).operation ≡ None → (end_of k new).operation ≡ None
idle_by Writing Writing old new u other e none = absurd (let wrong : true ≡ false = sym e ∙ u in cc)
idle_by Reading Reading old new u other e none = absurd (let wrong : true ≡ false = sym e ∙ u in cc)
idle_by Writing Reading old new u other e none = other none
idle_by Reading Writing old new u other e none = other none

turn_stays : (state : State) (side : Side) (end : NamedEnd) (address count : ℕ) → StateIsHeld state → Operates state side end address count → HostsStay (stream_on state end) (turn_on state side end address count).stream
turn_stays state side end address count held o =
    let k = operate-keeps state side end address count o in
    let after = (turn_on state side end address count).stream in
    stays_owned (stream_on state end) after (record { writer = k.stream.writer; reader = k.stream.reader })
    (λ side'. idle_by side side' (stream_on state end) after (unhosted_named state end.guest end.handle (stream_named (named state end)) side held o.found.held)
    (turn_idle side state.guests (stream_on state end) (begun_on end address count)))

-- an end of the same owner
set_stays : (side : Side) (stream : Stream) (e : End) → e.owner ≡ (end_of side stream).owner → IsLeft (end_of side stream).operation e.operation → HostsStay stream (with_end side stream e)
set_stays side stream e owner left = stays_owned stream (with_end side stream e) (with_end-owners side stream e owner) (λ k h. idle side k left)
  where
    left_none : (o p : Option Operation) → IsLeft o p → o ≡ None → p ≡ None
    left_none o p left none = left_by (λ q. o ≡ None → q ≡ None) o p left (λ n. n) (λ n. refl) (λ x n m. absurd (let wrong = n m in cc)) none

    idle : (side k : Side) → IsLeft (end_of side stream).operation e.operation → (end_of k stream).operation ≡ None → (end_of k (with_end side stream e)).operation ≡ None
    idle Writing Writing left none = left_none stream.writer.operation e.operation left none
    idle Reading Reading left none = left_none stream.reader.operation e.operation left none
    idle Writing Reading left none = none
    idle Reading Writing left none = none

-- an end of another owner: neither is a host end
owned_stays : (side : Side) (stream : Stream) (owner : Owner) → is_host (end_of side stream).owner ≡ false → is_host owner ≡ false → HostsStay stream (with_end side stream (record (end_of side stream) { owner = owner }))
owned_stays side stream owner was is = record { was = before side was is; is = after side was is; idle = idle side was }
  where
    new : Side → Stream
    new side = with_end side stream (record (end_of side stream) { owner = owner })

    before : (side : Side) → is_host (end_of side stream).owner ≡ false → is_host owner ≡ false → (k : Side) (n : ℕ) → (end_of k (new side)).owner ≡ Host n → (end_of k stream).owner ≡ Host n
    before Writing was is Writing n e = absurd (no_host owner n is e)
    before Reading was is Reading n e = absurd (no_host owner n is e)
    before Writing was is Reading n e = e
    before Reading was is Writing n e = e

    after : (side : Side) → is_host (end_of side stream).owner ≡ false → is_host owner ≡ false → (k : Side) (n : ℕ) → (end_of k stream).owner ≡ Host n → (end_of k (new side)).owner ≡ Host n
    after Writing was is Writing n e = absurd (no_host stream.writer.owner n was e)
    after Reading was is Reading n e = absurd (no_host stream.reader.owner n was e)
    after Writing was is Reading n e = e
    after Reading was is Writing n e = e

    idle : (side : Side) → is_host (end_of side stream).owner ≡ false → (k : Side) → is_host (end_of k stream).owner ≡ true → (end_of k stream).operation ≡ None → (end_of k (new side)).operation ≡ None
    idle Writing was Writing e none = none
    idle Reading was Reading e none = none
    idle Writing was Reading e none = none
    idle Reading was Writing e none = none

-- where no handle is freed, the end was loose
freed_unhosted : (state : State) (s : ℕ) (side : Side) (o : Option (ℕ × ℕ)) → StateIsHeld state → IsFreed state.guests s side (end_of side (stream_at state s)).owner o → is_host (end_of side (stream_at state s)).owner ≡ false
freed_unhosted state s side None held loose = loose_unhosted (end_of side (stream_at state s)).owner loose
  where
    loose_unhosted : (owner : Owner) → is_loose owner ≡ true → is_host owner ≡ false
    loose_unhosted (Host number) e = cc
    loose_unhosted _ e = refl
freed_unhosted state s side (Some f) held frees = unhosted_named state f.0 f.1 s side held frees.held

-- a stream behind the others, whose ends guests have
pair_stays : (state : State) (writer reader : ℕ) (ty : TransmitIndex) (k : ℕ) → HostsStay (stream_at state k) (stream_at (with_stream state writer reader ty) k)
unfolding with_stream
pair_stays state writer reader ty k =
    let pair = made_pair state writer reader ty in
    let made = made_stream ty writer pair.write reader pair.read in
    let streams = state.streams ++ made ∷ [] in
    elim (made_at state.streams made k) [
      | inl e ↦ rw e (HostsStay-same (stream_at state k))
      | inr e ↦ stays_unhosted (stream_at state k) (get_or streams k no_stream)
          (λ side. ap (λ st. is_host (end_of side st).owner) e.0 ∙ nobody_is_host side) (λ side. ap (λ st. is_host (end_of side st).owner) e.1 ∙ guest_is_host side)
    ]
  where
    nobody_is_host : (side : Side) → is_host (end_of side no_stream).owner ≡ false
    nobody_is_host Writing = refl
    nobody_is_host Reading = refl

    guest_is_host : (side : Side) → is_host (end_of side (made_stream ty writer (made_pair state writer reader ty).write reader (made_pair state writer reader ty).read)).owner ≡ false
    guest_is_host Writing = refl
    guest_is_host Reading = refl

-- ## Every step

written_hosts : (state : State) (s : ℕ) (t : Operated) (code : Option ReturnCode) → s < length state.streams → HostsStay (stream_at state s) t.stream → HostsHold state → HostsHold (written_back state s t code).state
written_hosts state s t None l k h = HostsHold-stays state (written_back state s t None).state (record { producers = refl; kept = refl; consumers = refl }) (stays_set state.streams s t.stream l k) h
written_hosts state s t (Some code) l k h = HostsHold-stays state (written_back state s t (Some code)).state (record { producers = refl; kept = refl; consumers = refl }) (stays_set state.streams s t.stream l k) h

-- streams and what is kept of host ends are as they were
HostsHold-same : (state after : State) → SameKept state after → after.streams ≡ state.streams → HostsHold state → HostsHold after
HostsHold-same state after p e h =
    HostsHold-stays state after p (λ k. subst (λ xs. HostsStay (stream_at state k) (get_or xs k no_stream)) (sym e) (HostsStay-same (stream_at state k))) h

pub shape-hosts : (state : State) (act : Act) (r : Reaction) → StateIsHeld state → HostsHold state → Shape state act r → HostsHold r.state
unfolding with_stream
shape-hosts state act r held h (ByTurn side end address count a e o) =
    let t = turn_on state side end address count in
    rw e (written_hosts state (stream_named (named state end)) t t.code o.found.made (turn_stays state side end address count held o) h)
shape-hosts state act r held h (BySetting reply x e set) =
    let stream = stream_at state x.stream in
    rw e
    (HostsHold-stays state (set_by state x) (record { producers = refl; kept = refl; consumers = refl })
    (stays_set state.streams x.stream (with_end x.side stream x.end) set.made (set_stays x.side stream x.end set.becomes.owner set.becomes.left)) h)
shape-hosts state act r held h (ByOwner reply x e o) =
    let stream = stream_at state x.stream in
    rw e
    (HostsHold-stays state (owned_by state x) (record { producers = refl; kept = refl; consumers = refl })
    (stays_set state.streams x.stream _ o.made (owned_stays x.side stream x.owner (freed_unhosted state x.stream x.side x.freed held o.freed) o.unhosted)) h)
shape-hosts state act r held h (ByTable reply x e t) = rw e (HostsHold-same state (tabled_by state x) (record { producers = refl; kept = refl; consumers = refl }) refl h)
shape-hosts state act r held h (ByPair writer reader ty a e fits) = rw e (HostsHold-stays state (with_stream state writer reader ty) (record { producers = refl; kept = refl; consumers = refl }) (pair_stays state writer reader ty) h)
shape-hosts state act r held h (ByGuest size a e fits) = rw e (HostsHold-same state _ (record { producers = refl; kept = refl; consumers = refl }) refl h)
shape-hosts state act r held h (ByPut reply g address bytes e p) = rw e (HostsHold-same state _ (record { producers = refl; kept = refl; consumers = refl }) refl h)
shape-hosts state act r held h (ByRest reply e none) = rw e h

pub reaction-hosts : (state : State) (act : Act) → IsSound state → StateIsHeld state → HostsHold state → HostsHold (reaction state act).state
reaction-hosts state act sound held h = shape-hosts state act (reaction state act) held h (reaction-shape state act sound)

-- ## Host ends in use

-- one that serves a stream is known
pub serving_known : (state : State) (side : Side) (n s : ℕ) → HostsHold state → duty_of side state n ≡ Serves s → n < host_limit
serving_known state Writing n s h e =
    elim (cases_lt n (length state.producers)) [
      | inl l ↦ omega (arith, l, h.all)
      | inr l ↦ absurd (let past = ap (λ (p : Producer). p.duty) (get_or_past state.producers n no_producer l) in cc)
    ]
serving_known state Reading n s h e =
    elim (cases_lt n (length state.consumers)) [
      | inl l ↦ omega (arith, l, h.all_readers)
      | inr l ↦ absurd (let past = ap (λ (p : Consumer). p.duty) (get_or_past state.consumers n no_consumer l) in cc)
    ]

-- and its stream was made
pub serving_made : (state : State) (side : Side) (n s : ℕ) → HostsHold state → duty_of side state n ≡ Serves s → s < length state.streams
serving_made state side n s h e =
    elim (cases_lt s (length state.streams)) [
      | inl l ↦ l
      | inr l ↦ absurd (no_host (end_of side (stream_at state s)).owner n (ap (λ st. is_host (end_of side st).owner) (get_or_past state.streams s no_stream l) ∙ nobody side) ((h.serve side n s).owns e))
    ]
  where
    nobody : (side : Side) → is_host (end_of side no_stream).owner ≡ false
    nobody Writing = refl
    nobody Reading = refl
