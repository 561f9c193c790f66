-- A host end that goes with the other end, a read end that goes to a host reader, and the round of a pipe keep
-- what every state keeps.
use Rattle.std.proofs.Common.{◌≡◌, ◌≢◌, ℕ, ◌<◌, Bool, true, false, cond, List, [], length, get_or, set, Option, Some, None, refl, sym, ap, subst, ◌∙◌, inl, inr, arith, length-set}
use Rattle.std.proofs.lemmas.Bool.{cases_eq}
use Rattle.std.specs.Prelude.{ℤ}
use Rattle.std.proofs.lemmas.List.{get_or-set_same, get_or-set_other, set-set}
use Rattle.strm_machine.specs.State.{State, host_limit, no_stream, no_consumer, stream_at, producer_at, kept_at, consumer_at, is_host, is_held, is_loose}
use Rattle.strm_machine.specs.Hosting.{duty_of, ServesOne, is_piped, KeepsForPipe, HostsHold}
use Rattle.strm_machine.specs.Sides.{opposite, end_of}
use Rattle.strm_machine.specs.Moves.{with_owner}
use Rattle.strm_machine.specs.Reactions.{with_stream_at}
use Rattle.strm_codes.specs.declared.payloads.Payload.{Payload}
use Rattle.strm_machine.specs.Soundness.{IsSound, IsPlaced, OperationIsPlaced, StreamIsPlaced, sizes_of}
use Rattle.strm_machine.specs.declared.streams.Duty.{Duty}
use Rattle.strm_machine.specs.declared.streams.Duty.TheVariants.{Serves}
use Rattle.strm_machine.specs.declared.streams.End.{End}
use Rattle.strm_machine.specs.declared.streams.Owner.{Owner}
use Rattle.strm_machine.specs.declared.streams.Owner.TheVariants.{Loose, Host, Gone}
use Rattle.strm_machine.specs.declared.streams.Operation.{Operation}
use Rattle.strm_machine.specs.declared.streams.Consumer.{Consumer}
use Rattle.strm_machine.specs.declared.streams.Side.{Side}
use Rattle.strm_machine.specs.declared.streams.Side.TheVariants.{Writing, Reading}
use Rattle.strm_machine.specs.declared.streams.Stream.{Stream}
use Rattle.strm_machine.proofs.HeldLemmas.{StateIsHeld}
use Rattle.strm_machine.proofs.EndLemmas.{each_side}
use Rattle.strm_machine.proofs.HostLemmas.{serving_known, unless_host}
use Rattle.strm_machine.proofs.SoundLemmas.{IsSound-stream, placed_at, type_of-same}
use Rattle.strm_machine.proofs.TableLemmas.{owner_in, set-keeps}
use Rattle.strm_host_machine.specs.HostRefusals.{is_used}
use Rattle.std.specs.Option.{option_map}
use Rattle.strm_host_machine.specs.Settling.{with_some_received}
use Rattle.strm_host_machine.specs.Attaching.{withdrawn, piped, without_ends, forsaken}
use Rattle.strm_host_laws.proofs.GoingRules.{some_received-by, some_received-end, some_received-payload, some_received-kind}
use Rattle.strm_host_laws.proofs.HostTurns.{leaves_ended, both_ended, with_done}
use Rattle.strm_host_laws.proofs.Effects.{piped_in, Piped, ByStaying, ByGone, ByDry, both_over, Passes}
use Rattle.strm_host_laws.proofs.PartEffects.{passing_made, host_made}
use Rattle.strm_host_laws.proofs.HostsAgree.{StaysOrFree, IsHeld-either, set_either, no_two, one_stream, HostsHold-changed}
use Rattle.strm_host_laws.proofs.TurnsStand.{LooseIsIdle, IsIdleIfLoose, loose_set, Holds, nothing_kept, free_or, serves_used}

-- ## A host end that goes with the other end

-- its stream is this one then
pub record LeavesStream (side : Side) (old new : Stream) : Type 0 where
  pub here : end_of side new ≡ record (end_of side old) { owner = Gone }
  pub owner : (end_of (opposite side) new).owner ≡ (end_of (opposite side) old).owner
  pub operation : (end_of (opposite side) new).operation ≡ (end_of (opposite side) old).operation
  pub payload : new.payload ≡ old.payload
  pub kind : new.kind ≡ old.kind

pub forsaken-leaves : (side : Side) (stream : Stream) → LeavesStream (opposite side) stream (forsaken side stream)
forsaken-leaves Writing stream = record { here = refl; owner = refl; operation = refl; payload = refl; kind = refl }
forsaken-leaves Reading stream = record { here = refl; owner = refl; operation = refl; payload = refl; kind = refl }

-- nothing is kept of the host writer of stream s
abbrev pub KeepsNone : State → ℕ → Type 0
KeepsNone state s = (m : ℕ) → (stream_at state s).writer.owner ≡ Host m → kept_at state m ≡ []

module _ (side : Side) (state : State) (s n : ℕ) (x : Stream) (o : (end_of side (stream_at state s)).owner ≡ Host n) (v : LeavesStream side (stream_at state s) x) (empty : KeepsNone state s) (h : Holds state) where
  left_stream_made : s < length state.streams
  left_stream_made = host_made state s side (ap is_host o)

  -- both ends have the operations that they had
  left_operation : (k : Side) → (end_of k x).operation ≡ (end_of k (stream_at state s)).operation
  left_operation = each_side (λ k. (end_of k x).operation ≡ (end_of k (stream_at state s)).operation) side (ap (λ (e : End). e.operation) v.here) v.operation

  left_placed : StreamIsPlaced (sizes_of state.guests) x
  left_placed =
      let placed = placed_at state s left_stream_made h.sound in
      record {
        writer = placed_as (left_operation Writing) placed.writer;
        reader = placed_as (left_operation Reading) placed.reader;
      }
    where
      placed_as : {q p : Option Operation} → q ≡ p → OperationIsPlaced (sizes_of state.guests) (stream_at state s).payload p → OperationIsPlaced (sizes_of state.guests) x.payload q
      placed_as {q} {p} e y = subst (OperationIsPlaced (sizes_of state.guests) x.payload) (sym e) (subst (λ t. OperationIsPlaced (sizes_of state.guests) t p) (sym v.payload) y)

  left_owners : (k : Side) → StaysOrFree (owner_in state.streams s k) (end_of k x).owner
  left_owners =
      each_side (λ k. StaysOrFree (owner_in state.streams s k) (end_of k x).owner) side
      (subst (StaysOrFree (owner_in state.streams s side)) (sym (ap (λ (e : End). e.owner) v.here)) (free_or true (end_of side (stream_at state s)).owner n o))
      (inl v.owner)

  left_loose : IsIdleIfLoose x
  left_loose l = left_operation Reading ∙ h.loose s (by side v l)
    where
      by : (side : Side) → LeavesStream side (stream_at state s) x → is_loose x.reader.owner ≡ true → is_loose (stream_at state s).reader.owner ≡ true
      by Writing v l = ap is_loose (sym v.owner) ∙ l
      by Reading v l = absurd (let wrong : is_loose Gone ≡ true = ap (λ (e : End). is_loose e.owner) (sym v.here) ∙ l in cc)

  left_sound : IsSound (with_stream_at state s x)
  left_sound = IsSound-stream state s x (type_of-same x (stream_at state s) v.payload v.kind) left_placed h.sound

  left_hosts : HostsHold (with_done side state s n x)
  left_hosts =
      let leaves = leaves_ended side n state in
      HostsHold-changed side state (with_done side state s n x) s n x h.hosts true
      (record {
        made = left_stream_made;
        owner = o;
        leaves = record { all = leaves.all; others = leaves.others; here = leaves.here; across = leaves.across };
        streams = streams side;
        here = v.here;
        other = v.owner;
        idle = λ m e. v.operation ∙ (h.hosts.serve (opposite side) m s).idle e;
        kept = kept side;
        empty = empty;
      })
    where
      kept : (side : Side) → (with_done side state s n x).kept ≡ state.kept
      kept Writing = refl
      kept Reading = refl

      streams : (side : Side) → (with_done side state s n x).streams ≡ set state.streams s x
      streams Writing = refl
      streams Reading = refl

  pub Holds-left : Holds (with_done side state s n x)
  Holds-left = by side left_hosts
    where
      held : StateIsHeld (with_stream_at state s x)
      held = IsHeld-either state.guests state.guests state.streams (set state.streams s x) (λ g. refl) (set_either state.streams s x left_stream_made left_owners) h.held

      loose : LooseIsIdle (with_stream_at state s x)
      loose = loose_set state (with_stream_at state s x) s x refl left_loose h.loose

      by : (side : Side) → HostsHold (with_done side state s n x) → Holds (with_done side state s n x)
      by Writing k = record { sound = record { named = left_sound.named; placed = left_sound.placed; small = left_sound.small; own = left_sound.own; sets = left_sound.sets; contexts = left_sound.contexts }; held = held; hosts = k; loose = loose }
      by Reading k = record { sound = record { named = left_sound.named; placed = left_sound.placed; small = left_sound.small; own = left_sound.own; sets = left_sound.sets; contexts = left_sound.contexts }; held = held; hosts = k; loose = loose }

-- both host ends of a stream, for which nothing is kept
module _ (state : State) (s n r : ℕ) (x : Stream) (is : stream_at state s ≡ x) (made : s < length state.streams) (e : x.writer.owner ≡ Host n) (f : x.reader.owner ≡ Host r) (none : kept_at state n ≡ []) (h : Holds state) where
  -- once its read end is gone
  abbrev half : Stream
  half = with_owner Reading x Gone

  keeps_none : (y : Stream) → stream_at state s ≡ y → y.writer.owner ≡ Host n → KeepsNone state s
  keeps_none y same o m g = ap (kept_at state) (no_two m n (sym g ∙ ap (λ (z : Stream). z.writer.owner) same ∙ o)) ∙ none

  Holds-half : Holds (with_done Reading state s r half)
  Holds-half =
      Holds-left Reading state s r half (ap (λ (z : Stream). z.reader.owner) is ∙ f)
      (subst (λ z. LeavesStream Reading z half) (sym is) (record { here = refl; owner = refl; operation = refl; payload = refl; kind = refl })) (keeps_none x is e) h

  pub Holds-both_left : Holds (with_stream_at (both_ended state n r) s (without_ends x))
  Holds-both_left =
      let first = with_done Reading state s r half in
      let here : stream_at first s ≡ half = get_or-set_same state.streams s half no_stream made in
      let own : (stream_at first s).writer.owner ≡ Host n = ap (λ (z : Stream). z.writer.owner) here ∙ e in
      let both = Holds-left Writing first s n (without_ends x) own
      (subst (λ z. LeavesStream Writing z (without_ends x)) (sym here) (record { here = refl; owner = refl; operation = refl; payload = refl; kind = refl }))
      (λ m g. ap (kept_at state) (no_two m n (sym g ∙ own)) ∙ none) Holds-half in
      subst (λ xs. Holds (record (both_ended state n r) { streams = xs })) (set-set state.streams s half (without_ends x)) both

-- ## A read end that goes to a host reader

withdrawn_placed : (sizes : List ℕ) (payload : Payload) (o : Option Operation) → OperationIsPlaced sizes payload o → OperationIsPlaced sizes payload (option_map withdrawn o)
withdrawn_placed sizes payload None p = p
withdrawn_placed sizes payload (Some o) p = by o.is_open
  where
    by : (b : Bool) → IsPlaced sizes payload (cond b (record o { met = false }) o)
    by true = record { there = p.there; inside = p.inside; counted = p.counted }
    by false = p

withdrawn_none : (o : Option Operation) → o ≡ None → option_map withdrawn o ≡ None
withdrawn_none None e = refl
withdrawn_none (Some o) e = cc

module _ (old : State) (s r : ℕ) (h : Holds old) (known : r < host_limit) (unused : is_used (consumer_at old r).duty ≡ false) (loose : is_loose (stream_at old s).reader.owner ≡ true) (made : s < length old.streams) where
  abbrev consumer : Consumer
  consumer = record no_consumer { duty = Serves s }

  abbrev the_pipe : Stream
  the_pipe = piped (stream_at old s) r

  abbrev with_pipe : State
  with_pipe = piped_in old s r

  pub pipe_here : stream_at with_pipe s ≡ the_pipe
  pipe_here = get_or-set_same old.streams s the_pipe no_stream made

  pub pipe_other : (k : ℕ) → k ≢ s → stream_at with_pipe k ≡ stream_at old k
  pipe_other k ne = get_or-set_other old.streams s k the_pipe no_stream ne

  reader_duty : duty_of Reading with_pipe r ≡ Serves s
  reader_duty = ap (λ (c : Consumer). c.duty) (get_or-set_same old.consumers r consumer no_consumer (omega (arith, known, h.hosts.all_readers)))

  other_duty : (m : ℕ) → m ≢ r → duty_of Reading with_pipe m ≡ duty_of Reading old m
  other_duty m ne = ap (λ (c : Consumer). c.duty) (get_or-set_other old.consumers r m consumer no_consumer ne)

  -- the write end stays
  pipe_writes : (m k : ℕ) → ServesOne with_pipe Writing m k
  pipe_writes m k =
      let o = h.hosts.serve Writing m k in
      elim (cases_eq k s) [
        | inl e ↦
            let was : stream_at old k ≡ stream_at old s = ap (stream_at old) e in
            let now : stream_at with_pipe k ≡ the_pipe = ap (stream_at with_pipe) e ∙ pipe_here in
            record {
              serves = λ f. o.serves (ap (λ (x : Stream). x.writer.owner) was ∙ ap (λ (x : Stream). x.writer.owner) (sym now) ∙ f);
              owns = λ d. ap (λ (x : Stream). x.writer.owner) now ∙ ap (λ (x : Stream). x.writer.owner) (sym was) ∙ o.owns d;
              idle = λ f.
                  ap (λ (x : Stream). x.writer.operation) now
                  ∙ withdrawn_none (stream_at old s).writer.operation (ap (λ (x : Stream). x.writer.operation) (sym was) ∙ o.idle (ap (λ (x : Stream). x.writer.owner) was ∙ ap (λ (x : Stream). x.writer.owner) (sym now) ∙ f));
            }
        | inr ne ↦
            let same = pipe_other k ne in
            record {
              serves = λ f. o.serves (ap (λ (x : Stream). x.writer.owner) (sym same) ∙ f);
              owns = λ d. ap (λ (x : Stream). x.writer.owner) same ∙ o.owns d;
              idle = λ f. ap (λ (x : Stream). x.writer.operation) same ∙ o.idle (ap (λ (x : Stream). x.writer.owner) (sym same) ∙ f);
            }
      ]

  -- the read end is the host reader's
  pipe_reads : (m k : ℕ) → ServesOne with_pipe Reading m k
  pipe_reads m k =
      elim (cases_eq k s) [
        | inl e ↦
            let now : stream_at with_pipe k ≡ the_pipe = ap (stream_at with_pipe) e ∙ pipe_here in
            record {
              serves = λ f.
                  let same : m ≡ r = no_two m r (sym f ∙ ap (λ (x : Stream). x.reader.owner) now) in
                  ap (duty_of Reading with_pipe) same ∙ reader_duty ∙ ap Serves (sym e);
              owns = λ d. ap (λ (x : Stream). x.reader.owner) now ∙ ap Host (sym (owns_here m k e d));
              idle = λ f. ap (λ (x : Stream). x.reader.operation) now ∙ h.loose s loose;
            }
        | inr ne ↦
            let same = pipe_other k ne in
            let o = h.hosts.serve Reading m k in
            record {
              serves = λ f. (let d = o.serves (ap (λ (x : Stream). x.reader.owner) (sym same) ∙ f) in other_duty m (used_other m k d) ∙ d);
              owns = λ d. ap (λ (x : Stream). x.reader.owner) same ∙ o.owns (sym (other_duty m (other_by m k ne d)) ∙ d);
              idle = λ f. ap (λ (x : Stream). x.reader.operation) same ∙ o.idle (ap (λ (x : Stream). x.reader.owner) (sym same) ∙ f);
            }
      ]
    where
      used_other : (m k : ℕ) → duty_of Reading old m ≡ Serves k → m ≢ r
      used_other m k d e = serves_used (consumer_at old r).duty k unused (ap (λ i. (consumer_at old i).duty) (sym e) ∙ d)

      other_by : (m k : ℕ) → k ≢ s → duty_of Reading with_pipe m ≡ Serves k → m ≢ r
      other_by m k ne d e = ne (one_stream k s (sym d ∙ ap (duty_of Reading with_pipe) e ∙ reader_duty))

      owns_here : (m k : ℕ) → k ≡ s → duty_of Reading with_pipe m ≡ Serves k → m ≡ r
      owns_here m k e d =
          elim (cases_eq m r) [
            | inl f ↦ f
            | inr off ↦
                let was : (stream_at old k).reader.owner ≡ Host m = (h.hosts.serve Reading m k).owns (sym (other_duty m off) ∙ d) in
                absurd (let wrong : is_loose (Host m) ≡ true = ap is_loose (sym was) ∙ ap (λ i. is_loose (stream_at old i).reader.owner) e ∙ loose in cc)
          ]

  pipe_free : (k : Side) → StaysOrFree (owner_in old.streams s k) (end_of k the_pipe).owner
  pipe_free Writing = inl refl
  pipe_free Reading = inr (loose_free (stream_at old s).reader.owner loose, refl)
    where
      loose_free : (owner : Owner) → is_loose owner ≡ true → is_held owner ≡ false
      loose_free Loose e = refl
      loose_free _ e = cc

  pub Holds-pipe : Holds with_pipe
  Holds-pipe =
      let placed = placed_at old s made h.sound in
      let sound = IsSound-stream old s the_pipe refl (record { writer = withdrawn_placed (sizes_of old.guests) (stream_at old s).payload (stream_at old s).writer.operation placed.writer; reader = placed.reader }) h.sound in
      record {
        sound = record { named = sound.named; placed = sound.placed; small = sound.small; own = sound.own; sets = sound.sets; contexts = sound.contexts };
        held = IsHeld-either old.guests old.guests old.streams (set old.streams s the_pipe) (λ g. refl) (set_either old.streams s the_pipe made pipe_free) h.held;
        hosts = record {
          all = h.hosts.all;
          all_kept = h.hosts.all_kept;
          all_readers = length-set old.consumers r consumer ∙ h.hosts.all_readers;
          serve = serve;
          keeps = λ m u. h.hosts.keeps m (unread (producer_at old m).duty u);
        };
        loose = loose_set old with_pipe s the_pipe refl (λ l. cc) h.loose;
      }
    where
      serve : (side : Side) (m k : ℕ) → ServesOne with_pipe side m k
      serve Writing m k = pipe_writes m k
      serve Reading m k = pipe_reads m k

      -- a stream that no host reader reads then had none
      unread : (duty : Duty) → is_piped with_pipe duty ≡ false → is_piped old duty ≡ false
      unread (Serves k) u =
          elim (cases_eq k s) [
            | inl e ↦ unless_host (stream_at old k).reader.owner (λ j f. let wrong : is_loose (Host j) ≡ true = ap is_loose (sym f) ∙ ap (λ i. is_loose (stream_at old i).reader.owner) e ∙ loose in cc)
            | inr ne ↦ ap (λ (x : Stream). is_host x.reader.owner) (sym (pipe_other k ne)) ∙ u
          ]
      unread duty u = refl

  -- nothing was kept of its host writer
  pub pipe_empty : (n : ℕ) → (stream_at old s).writer.owner ≡ Host n → kept_at old n ≡ []
  pipe_empty n e =
      nothing_kept old s n h.hosts e
      (unless_host (stream_at old s).reader.owner (λ j f. let wrong : is_loose (Host j) ≡ true = ap is_loose (sym f) ∙ loose in cc))

  pub Holds-piped : (new : State) → Piped old s r new → Holds new
  Holds-piped new (ByStaying e) = subst Holds (sym e) Holds-pipe
  Holds-piped new (ByGone g e) =
      subst Holds (sym e)
      (Holds-left Reading with_pipe s r (without_ends the_pipe) (ap (λ (x : Stream). x.reader.owner) pipe_here)
      (subst (λ x. LeavesStream Reading x (without_ends the_pipe)) (sym pipe_here) (record { here = refl; owner = sym g; operation = refl; payload = refl; kind = refl }))
      (λ m f. let wrong : Gone ≡ Host m = sym g ∙ ap (λ (x : Stream). x.writer.owner) (sym pipe_here) ∙ f in cc) Holds-pipe)
  Holds-piped new (ByDry n g e) =
      subst Holds (sym e) (Holds-both_left with_pipe s n r the_pipe pipe_here (omega (arith, made, length-set old.streams s the_pipe)) g refl (pipe_empty n g) Holds-pipe)

-- ## The round of a pipe

module _ (old new : State) (s : ℕ) (p : Passes old new s) (h : Holds old) where
  abbrev received_stream : Stream
  received_stream = with_some_received (stream_at old s) p.count

  -- the state with these items kept, before the pipe may end
  abbrev passed_by : List (List (List ℤ)) → State
  passed_by ks = record old { streams = set old.streams s received_stream; producers = p.mid.producers; kept = ks; consumers = p.mid.consumers }

  -- all ends are as they were
  passed_end : (ks : List (List (List ℤ))) (k : ℕ) (side : Side) → end_of side (stream_at (passed_by ks) k) ≡ end_of side (stream_at old k)
  passed_end ks k side = set-keeps (λ (x : Stream). end_of side x) old.streams s k received_stream no_stream (some_received-end side (stream_at old s) p.count)

  piped_as : (ks : List (List (List ℤ))) (duty : Duty) → is_piped (passed_by ks) duty ≡ is_piped old duty
  piped_as ks (Serves k) = ap (λ (x : End). is_host x.owner) (passed_end ks k Reading)
  piped_as ks duty = refl

  module _ (ks : List (List (List ℤ))) (many : length ks ≡ length old.kept) (others : (k : ℕ) → k ≢ p.writer → get_or ks k [] ≡ kept_at old k) where
    passed_serve : (side : Side) (m k : ℕ) → ServesOne (passed_by ks) side m k
    passed_serve side m k =
        let was = h.hosts.serve side m k in
        let same = passed_end ks k side in
        record {
          serves = λ e. p.duties.same side m ∙ was.serves (ap (λ (x : End). x.owner) (sym same) ∙ e);
          owns = λ d. ap (λ (x : End). x.owner) same ∙ was.owns (sym (p.duties.same side m) ∙ d);
          idle = λ e. ap (λ (x : End). x.operation) same ∙ was.idle (ap (λ (x : End). x.owner) (sym same) ∙ e);
        }

    passed_keeps : (m : ℕ) → KeepsForPipe (passed_by ks) m
    passed_keeps m u =
        elim (cases_eq m p.writer) [
          | inl e ↦
              let duty : duty_of Writing old m ≡ Serves s = ap (duty_of Writing old) e ∙ (h.hosts.serve Writing p.writer s).serves p.wrote in
              let unread : is_host (Host p.reader) ≡ false = ap is_host (sym p.read) ∙ ap (is_piped old) (sym duty) ∙ before m u in
              absurd (let wrong : true ≡ false = unread in cc)
          | inr ne ↦ others m ne ∙ h.hosts.keeps m (before m u)
        ]
      where
        before : (m : ℕ) → is_piped (passed_by ks) (producer_at (passed_by ks) m).duty ≡ false → is_piped old (producer_at old m).duty ≡ false
        before m u = ap (is_piped old) (sym (p.duties.same Writing m)) ∙ sym (piped_as ks (producer_at (passed_by ks) m).duty) ∙ u

    Holds-passed_by : Holds (passed_by ks)
    Holds-passed_by =
        let made = passing_made old new s p in
        let placed = placed_at old s made h.sound in
        let sound = IsSound-stream old s received_stream (type_of-same received_stream (stream_at old s) (some_received-payload (stream_at old s) p.count) (some_received-kind (stream_at old s) p.count))
        (some_received-by (StreamIsPlaced (sizes_of old.guests)) (stream_at old s) p.count placed (record { writer = placed.writer; reader = placed.reader })) h.sound in
        record {
          sound = record { named = sound.named; placed = sound.placed; small = sound.small; own = sound.own; sets = sound.sets; contexts = sound.contexts };
          held =
              IsHeld-either old.guests old.guests old.streams (set old.streams s received_stream) (λ g. refl)
              (set_either old.streams s received_stream made (λ side. inl (ap (λ (x : End). x.owner) (some_received-end side (stream_at old s) p.count)))) h.held;
          hosts = record {
            all = p.duties.all Writing ∙ h.hosts.all;
            all_kept = many ∙ h.hosts.all_kept;
            all_readers = p.duties.all Reading ∙ h.hosts.all_readers;
            serve = passed_serve;
            keeps = passed_keeps;
          };
          loose =
              loose_set old (passed_by ks) s received_stream refl
              (λ l. absurd (let wrong : is_loose (Host p.reader) ≡ true = ap is_loose (sym p.read) ∙ ap (λ (x : End). is_loose x.owner) (sym (some_received-end Reading (stream_at old s) p.count)) ∙ l in cc)) h.loose;
        }

  -- once nothing is kept any more, and both ends are gone
  passing_over : Holds (both_over (passed_by p.mid.kept) s p.writer p.reader)
  passing_over =
      let none = set p.mid.kept p.writer [] in
      let state = passed_by none in
      let made = passing_made old new s p in
      let known = serving_known old Writing p.writer s h.hosts ((h.hosts.serve Writing p.writer s).serves p.wrote) in
      let own : (side : Side) → (end_of side (stream_at state s)).owner ≡ (end_of side (stream_at old s)).owner = λ side. ap (λ (x : End). x.owner) (passed_end none s side) in
      Holds-both_left state s p.writer p.reader (stream_at state s) refl (omega (arith, made, length-set old.streams s received_stream)) (own Writing ∙ p.wrote) (own Reading ∙ p.read)
      (get_or-set_same p.mid.kept p.writer [] [] (omega (arith, known, p.as_many, h.hosts.all_kept)))
      (Holds-passed_by none (length-set p.mid.kept p.writer [] ∙ p.as_many) (λ k ne. get_or-set_other p.mid.kept p.writer k [] [] ne ∙ p.others k ne))

  pub Holds-passing : Holds new
  Holds-passing =
      elim p.ends [
        | inl e ↦ subst Holds (sym (e ∙ p.mid_is)) (Holds-passed_by p.mid.kept p.as_many p.others)
        | inr e ↦ subst Holds (sym (e ∙ ap (λ x. both_over x s p.writer p.reader) p.mid_is)) passing_over
      ]
