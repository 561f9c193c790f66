-- Exactly the host writers that became gone were closed, and tell that they are gone.
use Rattle.std.proofs.Common.{◌≡◌, ℕ, zero, suc, ◌<◌, ◌||◌, Bool, true, false, List, [], ◌∷◌, ◌++◌, length, drop, get_or, set, None, refl, sym, ap, subst, ◌∙◌, ◌⊎◌, inl, inr, arith}
use Rattle.std.proofs.lemmas.Bool.{cases_eq, or_parts, not-false}
use Rattle.std.proofs.lemmas.List.{get_or-set_same, get_or-set_other, get_or_past, length-set, length-replicate}
use Rattle.std.specs.Prelude.{slice_set, replicate, nat_le}
use Rattle.strm_buffers.specs.declared.answers.Answer.{Answer}
use Rattle.strm_buffers.specs.Listing.{Item}
use Rattle.strm_buffers.specs.Said.{WriterSaid, past_room}
use Rattle.strm_buffers.specs.Tells.{WriterTells, Tells}
use Rattle.strm_machine.specs.State.{host_limit, no_stream, no_producer, no_consumer, producer_at, consumer_at, is_loose}
use Rattle.strm_machine.specs.Tests.{is_unknown_reader}
use Rattle.strm_machine.specs.declared.acts.Act.TheVariants.{OnHost}
use Rattle.strm_machine.specs.declared.acts.HostAct.TheVariants.{New, Feed, Pipe, Grant}
use Rattle.strm_machine.specs.declared.limits.Limits.{Limits}
use Rattle.strm_machine.specs.declared.streams.Duty.{Duty}
use Rattle.strm_machine.specs.declared.streams.Duty.TheVariants.{Unused, Serves, Ended}
use Rattle.strm_machine.specs.declared.streams.Owner.{Owner}
use Rattle.strm_machine.specs.declared.streams.Owner.TheVariants.{Host, Gone}
use Rattle.strm_machine.specs.declared.streams.Producer.{Producer}
use Rattle.strm_machine.specs.declared.streams.Side.TheVariants.{Writing}
use Rattle.strm_machine.specs.declared.streams.Stream.{Stream}
use Rattle.strm_machine.specs.declared.steps.Step.{Step}
use Rattle.strm_machine.specs.declared.stops.Stop.{Stop}
use Rattle.strm_machine.specs.declared.replies.Reply.{Reply}
use Rattle.strm_machine.specs.Reactions.{reaction}
use Rattle.strm_host_machine.specs.Ends.{Writer, Reader, no_writer, writer_in, polled_writer, given_writer, fed_writer, closed_writer, polled_reader, granted_reader}
use Rattle.strm_host_machine.specs.WriterTurn.{is_last}
use Rattle.strm_host_machine.specs.ReaderTurn.{reader_with_taken}
use Rattle.strm_host_machine.specs.Attaching.{hosted_stream, has_items, new_producer, piped}
use Rattle.strm_host_machine.specs.HostPlays.{Ends, Halts, host_play}
use Rattle.strm_host_machine.specs.World.{World, stream_in, writer_at, reader_at, with_guests, with_kept, with_consumer, with_writer, with_reader, without_writer, leaves_writer, leaves_reader, with_stream_in}
use Rattle.strm_host_machine.specs.HostRefusals.{is_unknown_host, is_used, refusal_in}
use Rattle.strm_host_machine.specs.Does.{is_ended, saids, writers_from, start_world}
use Rattle.strm_host_laws.specs.HostMoments.{Part, Acts, HostMoment, part_on, host_moments, first_moments, end_world}
use Rattle.strm_host_laws.specs.HostLaws.{ClosesExactly, EndsExactly}
use Rattle.strm_host_laws.proofs.Chains.{is_part, Chain, moments-chain, first-chain, StopsAt, host_play-ends, host_play-halts}
use Rattle.strm_host_laws.proofs.GoingRules.{with_state, with_passed, LeftBy, Begins, Stopping, hosted, Rules, Halted, Comes, with_stream_in-same}
use Rattle.strm_host_laws.proofs.Goings.{part-comes, feed-comes, grant-comes}
use Rattle.strm_machine.proofs.Ways.{HostsFrom, HostsFromIn, set-from}
use Rattle.strm_machine.proofs.ShapeLemmas.{reaction-producers, reaction-from}
use Rattle.strm_machine.proofs.TableLemmas.{set-keeps}
use Rattle.strm_machine.proofs.RefusalLemmas.{not_refused, not_le}

-- WHAT ONE OF A LIST BECOMES

-- WHAT HOLDS OF A RUN SO FAR

-- the host writer of a stream is there, of the stream's payload
pub record IsThere (w : World) (s n : ℕ) : Type 0 where
  pub there : n < length w.writers
  pub known : n < host_limit
  pub payload : (writer_at w n).payload ≡ (stream_in w s).payload

-- host writers that have a stream are there, and those are closed that were so at first or are gone
pub record Stands (first : World) (w : World) : Type 0 where
  pub kept : length w.state.producers ≡ host_limit
  pub there : (s n : ℕ) → (stream_in w s).writer.owner ≡ Host n → IsThere w s n
  pub closes : ClosesExactly first w.state w.writers
  pub ends : EndsExactly w.state w.writers

pub or-true : (b : Bool) → (b || true) ≡ true
or-true true = refl
or-true false = refl

-- A NEW STREAM OF A HOST WRITER

-- where nothing refuses it the writer is there and unused
pub record IsNew (w : World) (n : ℕ) : Type 0 where
  pub there : n < length w.writers
  pub known : n < host_limit
  pub unused : is_used (producer_at w.state n).duty ≡ false

pub is_new : (w : World) (n : ℕ) → refusal_in w (OnHost n New) ≡ None → IsNew w n
unfolding refusal_in
is_new w n e =
    let known = not_refused (is_unknown_host (length w.writers) n) _ _ e in
    let unused = not_refused (is_used (producer_at w.state n).duty) _ _ known.1 in
    let parts = or_parts (nat_le (length w.writers) n) (nat_le host_limit n) known.0 in
    record { there = not_le (length w.writers) n parts.0; known = not_le host_limit n parts.1; unused = unused.0 }

-- A PIPE

-- where nothing refuses it the reader is there and unused, and the read end is loose
pub record IsNewReader (w : World) (r s : ℕ) : Type 0 where
  pub there : r < length w.readers
  pub known : r < host_limit
  pub unused : is_used (consumer_at w.state r).duty ≡ false
  pub loose : is_loose (stream_in w s).reader.owner ≡ true

pub is_new_reader : (w : World) (r s : ℕ) → refusal_in w (OnHost r (Pipe s)) ≡ None → IsNewReader w r s
unfolding refusal_in
is_new_reader w r s e =
    let known = not_refused (is_unknown_host (length w.readers) r) _ _ e in
    let unused = not_refused (is_used (consumer_at w.state r).duty) _ _ known.1 in
    let loose = not_refused (is_unknown_reader w.state s) _ _ unused.1 in
    let parts = or_parts (nat_le (length w.readers) r) (nat_le host_limit r) known.0 in
    record {
      there = not_le (length w.readers) r parts.0;
      known = not_le host_limit r parts.1;
      unused = unused.0;
      loose = not-false (is_loose (stream_in w s).reader.owner) loose.0;
    }

pub unused-unended : (duty : Duty) → is_used duty ≡ false → is_ended duty ≡ false
unused-unended Unused e = refl
unused-unended (Serves s) e = cc
unused-unended Ended e = cc

-- whose write end a stream of a number is once one more stands behind the others
abbrev PushHosts : Stream → Stream → Stream → ℕ → ℕ → Type 0
PushHosts old x new k n = ((old.writer.owner ≡ Host k) × (new.payload ≡ old.payload)) ⊎ ((k ≡ n) × (new.payload ≡ x.payload))

push-hosts : (xs : List Stream) (x : Stream) (s k n : ℕ) → x.writer.owner ≡ Host n → (get_or (xs ++ x ∷ []) s no_stream).writer.owner ≡ Host k
    → PushHosts (get_or xs s no_stream) x (get_or (xs ++ x ∷ []) s no_stream) k n
push-hosts [] x zero k n e f = let same : Host k ≡ Host n = sym f ∙ e in inr (cc, refl)
push-hosts [] x (suc s) k n e f = inl (f, refl)
push-hosts (y ∷ ys) x zero k n e f = inl (f, refl)
push-hosts (y ∷ ys) x (suc s) k n e f = push-hosts ys x s k n e f

-- what is kept of a writer after an answer, with these items held
abbrev answered_producer : World → ℕ → Answer → List Item → Producer
answered_producer w n answer held =
    let producer = producer_at w.state n in
    record producer { over = producer.over || is_last answer; holding = has_items held }

-- WHAT A CHANGE KEEPS

module _ (first : World) where
  without-closes : (w : World) (n k : ℕ) → n < length w.writers → n < length w.state.producers → ClosesExactly first w.state w.writers
      → (writer_in (without_writer w n).writers k).closed ≡ ((writer_at first k).closed || is_ended (producer_at (without_writer w n).state k).duty)
  without-closes w n k l p h =
      let writer = closed_writer (writer_at w n) in
      let producer = record (producer_at w.state n) { duty = Ended } in
      elim (cases_eq k n) [
        | inl e ↦
            let closed : (get_or (set w.writers n writer) k no_writer).closed ≡ true = ap (λ j. (get_or (set w.writers n writer) j no_writer).closed) e ∙ ap (λ (x : Writer). x.closed) (get_or-set_same w.writers n writer no_writer l) in
            let ended : is_ended (get_or (set w.state.producers n producer) k no_producer).duty ≡ true = ap (λ j. is_ended (get_or (set w.state.producers n producer) j no_producer).duty) e ∙ ap (λ (x : Producer). is_ended x.duty) (get_or-set_same w.state.producers n producer no_producer p) in
            closed ∙ sym (ap (λ b. (writer_at first k).closed || b) ended ∙ or-true (writer_at first k).closed)
        | inr ne ↦
            ap (λ (x : Writer). x.closed) (get_or-set_other w.writers n k writer no_writer ne)
            ∙ h k
            ∙ ap (λ (x : Producer). (writer_at first k).closed || is_ended x.duty) (sym (get_or-set_other w.state.producers n k producer no_producer ne))
      ]

  without-ends : (w : World) (n k : ℕ) → n < length w.writers → n < length w.state.producers → EndsExactly w.state w.writers
      → (writer_in (without_writer w n).writers k).ended ≡ is_ended (producer_at (without_writer w n).state k).duty
  without-ends w n k l p h =
      let writer = closed_writer (writer_at w n) in
      let producer = record (producer_at w.state n) { duty = Ended } in
      elim (cases_eq k n) [
        | inl e ↦
            ap (λ j. (get_or (set w.writers n writer) j no_writer).ended) e
            ∙ ap (λ (x : Writer). x.ended) (get_or-set_same w.writers n writer no_writer l)
            ∙ sym (ap (λ j. is_ended (get_or (set w.state.producers n producer) j no_producer).duty) e ∙ ap (λ (x : Producer). is_ended x.duty) (get_or-set_same w.state.producers n producer no_producer p))
        | inr ne ↦
            ap (λ (x : Writer). x.ended) (get_or-set_other w.writers n k writer no_writer ne)
            ∙ h k
            ∙ ap (λ (x : Producer). is_ended x.duty) (sym (get_or-set_other w.state.producers n k producer no_producer ne))
      ]

  Stands-without : (w : World) (n : ℕ) → n < length w.writers → n < host_limit → Stands first w → Stands first (without_writer w n)
  Stands-without w n l p h = record {
    kept = length-set w.state.producers n (record (producer_at w.state n) { duty = Ended }) ∙ h.kept;
    there = λ s k e.
        let r = h.there s k e in
        let same = length-set w.writers n (closed_writer (writer_at w n)) in
        record {
          there = omega (arith, r.there, same);
          known = r.known;
          payload = set-keeps (λ (x : Writer). x.payload) w.writers n k (closed_writer (writer_at w n)) no_writer refl ∙ r.payload;
        };
    closes = λ k. without-closes w n k l (omega (arith, p, h.kept)) h.closes;
    ends = λ k. without-ends w n k l (omega (arith, p, h.kept)) h.ends;
  }

  leaves-stands : (old new : Owner) (w : World) → Stands first w → ((n : ℕ) → old ≡ Host n → (n < length w.writers) × (n < host_limit)) → Stands first (leaves_writer old new w)
  leaves-stands (Host n) Gone w h t = let r = t n refl in Stands-without w n r.0 r.1 h
  leaves-stands (Host n) _ w h t = h
  leaves-stands _ new w h t = h

  leaves_reader-stands : (old new : Owner) (w : World) → Stands first w → Stands first (leaves_reader old new w)
  leaves_reader-stands (Host r) Gone w h = record { kept = h.kept; there = λ s n e. (let k = h.there s n e in record { there = k.there; known = k.known; payload = k.payload }); closes = h.closes; ends = h.ends }
  leaves_reader-stands (Host r) _ w h = h
  leaves_reader-stands _ new w h = h

  leaves_reader-writers : (old new : Owner) (w : World) → (leaves_reader old new w).writers ≡ w.writers
  leaves_reader-writers (Host r) Gone w = refl
  leaves_reader-writers (Host r) _ w = refl
  leaves_reader-writers _ new w = refl

  -- a stream written back that no other host writer writes
  Stands-stream : (w : World) (s : ℕ) (stream : Stream) → HostsFrom (stream_in w s) stream → Stands first w → Stands first (with_stream_in w s stream)
  unfolding with_stream_in
  Stands-stream w s stream f h =
      let v = with_state w (record w.state { streams = slice_set w.state.streams s stream }) in
      let old = (stream_in w s).reader.owner in
      let same = ap length (leaves_reader-writers old stream.reader.owner v) in
      leaves-stands (stream_in w s).writer.owner stream.writer.owner (leaves_reader old stream.reader.owner v)
      (leaves_reader-stands old stream.reader.owner v
      (record {
        kept = h.kept;
        there = λ k n e.
            let from = set-from w.state.streams s stream f k n e in
            let r = h.there k n from.0 in
            record { there = r.there; known = r.known; payload = r.payload ∙ sym from.1 };
        closes = h.closes;
        ends = h.ends;
      }))
      (λ n e. let r = h.there s n e in (omega (arith, r.there, same), r.known))

  -- a writer that tells something else, and is closed and gone as it was
  Stands-writer : (w : World) (n : ℕ) (writer : Writer) → writer.closed ≡ (writer_at w n).closed → writer.ended ≡ (writer_at w n).ended → writer.payload ≡ (writer_at w n).payload → Stands first w → Stands first (with_writer w n writer)
  Stands-writer w n writer e g p h = record {
    kept = h.kept;
    there = λ s k f.
        let r = h.there s k f in
        let same = length-set w.writers n writer in
        record {
          there = omega (arith, r.there, same);
          known = r.known;
          payload = set-keeps (λ (x : Writer). x.payload) w.writers n k writer no_writer p ∙ r.payload;
        };
    closes = λ k. set-keeps (λ (x : Writer). x.closed) w.writers n k writer no_writer e ∙ h.closes k;
    ends = λ k. set-keeps (λ (x : Writer). x.ended) w.writers n k writer no_writer g ∙ h.ends k;
  }

  -- something else is kept of a writer, and it is gone as it was
  Stands-producer : (w : World) (n : ℕ) (producer : Producer) → is_ended producer.duty ≡ is_ended (producer_at w.state n).duty → Stands first w
      → Stands first (with_state w (record w.state { producers = slice_set w.state.producers n producer }))
  Stands-producer w n producer e h = record {
    kept = length-set w.state.producers n producer ∙ h.kept;
    there = λ s k f. let r = h.there s k f in record { there = r.there; known = r.known; payload = r.payload };
    closes = λ k. h.closes k ∙ ap (λ b. (writer_at first k).closed || b) (sym (set-keeps (λ (x : Producer). is_ended x.duty) w.state.producers n k producer no_producer e));
    ends = λ k. h.ends k ∙ sym (set-keeps (λ (x : Producer). is_ended x.duty) w.state.producers n k producer no_producer e);
  }

  -- nothing becomes of host writers, and none gets a stream
  Stands-still : (w v : World) → v.writers ≡ w.writers → v.state.producers ≡ w.state.producers → HostsFromIn w.state.streams v.state.streams → Stands first w → Stands first v
  Stands-still w v x e f h = record {
    kept = ap length e ∙ h.kept;
    there = λ s n g.
        let from = f s n g in
        let r = h.there s n from.0 in
        record {
          there = subst (λ ws. n < length ws) (sym x) r.there;
          known = r.known;
          payload = ap (λ ws. (writer_in ws n).payload) x ∙ r.payload ∙ sym from.1;
        };
    closes = λ k.
        ap (λ ws. (writer_in ws k).closed) x
        ∙ h.closes k
        ∙ ap (λ ps. (writer_at first k).closed || is_ended (get_or ps k no_producer).duty) (sym e);
    ends = λ k.
        ap (λ ws. (writer_in ws k).ended) x
        ∙ h.ends k
        ∙ ap (λ ps. is_ended (get_or ps k no_producer).duty) (sym e);
  }

  -- all streams are as they were
  from_same : (streams : List Stream) → HostsFromIn streams streams
  from_same streams k n e = (e, refl)

  -- A STREAM OF A HOST WRITER

  new_stands : (w : World) (n : ℕ) → IsNew w n → Stands first w → Stands first (hosted w n)
  new_stands w n i h =
      let unended = unused-unended (producer_at w.state n).duty i.unused in
      let served = Stands-producer w n (new_producer (length w.state.streams) (writer_at w n)) (sym unended) h in
      record {
        kept = served.kept;
        there = λ s k e. elim (push-hosts w.state.streams (hosted_stream (writer_at w n) n) s k n refl e) [
          | inl f ↦ (let r = served.there s k f.0 in record { there = r.there; known = r.known; payload = r.payload ∙ sym f.1 })
          | inr f ↦ record {
            there = subst (λ j. j < length w.writers) (sym f.0) i.there;
            known = subst (λ j. j < host_limit) (sym f.0) i.known;
            payload = ap (λ j. (writer_at w j).payload) f.0 ∙ sym f.1;
          }
        ];
        closes = served.closes;
        ends = served.ends;
      }

  -- ALL CHANGES

  left_from : (old new : Stream) → LeftBy old new → HostsFrom old new
  left_from old new l n e =
      elim (l.owners Writing) [
        | inl same ↦ (sym same ∙ e, l.payload)
        | inr gone ↦ absurd (let wrong : Gone ≡ Host n = sym gone ∙ e in cc)
      ]

  abbrev pub Kept : World → World → Type 0
  Kept w v = Stands first w → Stands first v

  rules : Rules Kept
  rules = record {
    begins = record {
      stays = λ w h. h;
      joins = λ a b c f g h. g (f h);
      opens = λ w s stream e. Stands-stream w s stream (λ n f. (sym e.owners.writer ∙ f, e.payload));
      says = λ w n room said more e h.
          let polled = with_writer w n (polled_writer (writer_at w n) room said more) in
          Stands-producer polled n (answered_producer polled n said.answer (past_room room said.items)) refl
          (Stands-writer w n (polled_writer (writer_at w n) room said more) refl refl refl h);
      takes = λ w r took said more e. Stands-still w (with_reader w r (polled_reader (reader_at w r) took more)) refl refl (from_same w.state.streams);
      gives = λ w n k h.
          let writer = given_writer (writer_at w n) k in
          Stands-producer (with_writer w n writer) n (record (producer_at w.state n) { holding = has_items writer.holds }) refl (Stands-writer w n writer refl refl refl h);
      keeps = λ w n items. Stands-still w (with_kept w n items) refl refl (from_same w.state.streams);
    };
    reacts = λ w act. Stands-still w (with_state w (reaction w.state act).state) refl (reaction-producers w.state act) (reaction-from w.state act);
    lowers = λ w guests. Stands-still w (with_guests w guests) refl refl (from_same w.state.streams);
    counts = λ w r answer taken. Stands-still w (reader_with_taken w r answer taken) refl refl (from_same w.state.streams);
    rests = λ w r answer taken. Stands-still w (with_passed w r answer taken) refl refl (from_same w.state.streams);
    leaves = λ w s stream l. Stands-stream w s stream (left_from (stream_in w s) stream l);
    hosts = λ w n e. new_stands w n (is_new w n e);
    pipes = λ w s r e h.
        let v = with_consumer w r (record no_consumer { duty = Serves s }) in
        Stands-stream v s (piped (stream_in w s) r) (λ n f. (f, refl)) (Stands-still w v refl refl (from_same w.state.streams) h);
  }

-- WHERE A STEP STOPS

-- host writers are closed as they were, and gone as they were
pub record SameClosed (w v : World) : Type 0 where
  pub closed : (n : ℕ) → (writer_at v n).closed ≡ (writer_at w n).closed
  pub ended : (n : ℕ) → (writer_at v n).ended ≡ (writer_at w n).ended

same_set : (w : World) (n : ℕ) (writer : Writer) → writer.closed ≡ (writer_at w n).closed → writer.ended ≡ (writer_at w n).ended → SameClosed w (with_writer w n writer)
same_set w n writer e g = record {
  closed = λ k. set-keeps (λ (x : Writer). x.closed) w.writers n k writer no_writer e;
  ended = λ k. set-keeps (λ (x : Writer). x.ended) w.writers n k writer no_writer g;
}

begins : Begins SameClosed
begins = record {
  stays = λ w. record { closed = λ n. refl; ended = λ n. refl };
  joins = λ a b c f g. record { closed = λ n. g.closed n ∙ f.closed n; ended = λ n. g.ended n ∙ f.ended n };
  opens = λ w s stream e. record {
    closed = λ n. ap (λ v. (writer_at v n).closed) (with_stream_in-same w s stream e.owners);
    ended = λ n. ap (λ v. (writer_at v n).ended) (with_stream_in-same w s stream e.owners);
  };
  says = λ w n room said more e. (let polled = same_set w n (polled_writer (writer_at w n) room said more) refl refl in record { closed = polled.closed; ended = polled.ended });
  takes = λ w r took said more e. record { closed = λ n. refl; ended = λ n. refl };
  gives = λ w n k. (let given = same_set w n (given_writer (writer_at w n) k) refl refl in record { closed = given.closed; ended = given.ended });
  keeps = λ w n items. record { closed = λ k. refl; ended = λ k. refl };
}

stopping : Stopping SameClosed
stopping = record {
  begins = begins;
  polls = λ w n room said more e. same_set w n (polled_writer (writer_at w n) room said more) refl refl;
}

-- RUNS

module _ (first : World) where
  pub part-closes : (w : World) (part : Part) → is_part part ≡ true → Comes (Kept first) SameClosed w (part_on w part)
  part-closes w (Acts (OnHost n (Feed bytes))) p =
      feed-comes (Kept first) SameClosed (rules first) stopping w n bytes (λ e. Stands-writer first w n (fed_writer (writer_at w n) bytes) refl refl refl)
  part-closes w (Acts (OnHost r (Grant count))) p =
      grant-comes (Kept first) SameClosed (rules first) stopping w r count
      (λ e. Stands-still first w (with_reader w r (granted_reader (reader_at w r) count)) refl refl (from_same first w.state.streams))
  part-closes w part p = part-comes (Kept first) SameClosed (rules first) stopping w part p refl

  chain-closes : (w : World) (all : List HostMoment) → Chain w all → Stands first w → Stands first (end_world w all)
  chain-closes w [] c h = h
  chain-closes w (m ∷ more) c h =
      let f = c.0 in
      let after : Stands first m.after = subst (Comes (Kept first) SameClosed m.before) f.goes (part-closes m.before m.part f.part) (subst (Stands first) (sym f.begins) h) in
      chain-closes m.after more c.1 after

  -- where a step stops
  record Stopped (w : World) (writers : List Writer) : Type 0 where
    closes : ClosesExactly first w.state writers
    ends : EndsExactly w.state writers

  stop-closes : (w : World) (stop : Stop) (writers : List Writer) (readers : List Reader) → StopsAt w stop writers readers → Stands first w → Stopped w writers
  stop-closes w stop writers readers s h =
      elim s.form [
        | inl p ↦
            let halted : Halted SameClosed w writers readers = subst (Comes (Kept first) SameClosed w) s.stopped (part-closes w s.part p) in
            record {
              closes = λ n. ap (λ ws. (writer_in ws n).closed) halted.is ∙ halted.kept.closed n ∙ h.closes n;
              ends = λ n. ap (λ ws. (writer_in ws n).ended) halted.is ∙ halted.kept.ended n ∙ h.ends n;
            }
        | inr e ↦ record {
          closes = λ n. ap (λ ws. (writer_in ws n).closed) e.0 ∙ h.closes n;
          ends = λ n. ap (λ ws. (writer_in ws n).ended) e.0 ∙ h.ends n;
        }
      ]

none_ended : (m n : ℕ) → is_ended (get_or (replicate m no_producer) n no_producer).duty ≡ false
none_ended zero n = refl
none_ended (suc m) zero = refl
none_ended (suc m) (suc n) = none_ended m n

-- at first none is gone
none_gone : (m : ℕ) (ws : List WriterTells) (logs : List (List WriterSaid)) (n : ℕ) → (get_or (writers_from (replicate m no_producer) ws logs) n no_writer).ended ≡ false
none_gone m [] logs n = refl
none_gone zero (w ∷ ws) logs zero = refl
none_gone zero (w ∷ ws) logs (suc n) = none_gone zero ws (drop 1 logs) n
none_gone (suc m) (w ∷ ws) logs zero = refl
none_gone (suc m) (w ∷ ws) logs (suc n) = none_gone m ws (drop 1 logs) n

pub or-false : (b : Bool) → (b || false) ≡ b
or-false true = refl
or-false false = refl

pub Stands-start : (tag : ℕ) (limits : Limits) (old new : Tells) → Stands (start_world tag limits old new) (start_world tag limits old new)
Stands-start tag limits old new =
    let first = start_world tag limits old new in
    record {
      kept = length-replicate {A = Producer} host_limit no_producer;
      there = λ s n e. absurd (no_host s n e);
      closes = λ n. sym (ap (λ b. (writer_at first n).closed || b) (none_ended host_limit n) ∙ or-false (writer_at first n).closed);
      ends = λ n. none_gone host_limit old.writers (saids new).writers n ∙ sym (none_ended host_limit n);
    }
  where
    no_host : (s n : ℕ) → (get_or [] s no_stream).writer.owner ≡ Host n → ⊥
    no_host s n e = let f : Gone ≡ Host n = ap (λ (x : Stream). x.writer.owner) (sym (get_or_past [] s no_stream (omega arith))) ∙ e in cc

module _ (tag : ℕ) (limits : Limits) (old new : Tells) (run : List Step) where
  abbrev at_first : World
  at_first = start_world tag limits old new

  run-stands : Stands at_first (end_world at_first (host_moments at_first run))
  run-stands = chain-closes at_first at_first (host_moments at_first run) (moments-chain at_first run) (Stands-start tag limits old new)

  pub moments-close : (count : ℕ) → ClosesExactly at_first (end_world at_first (first_moments count at_first run)).state (end_world at_first (first_moments count at_first run)).writers
  moments-close count = (chain-closes at_first at_first (first_moments count at_first run) (first-chain count at_first run) (Stands-start tag limits old new)).closes

  pub runs-close : (all : List Reply) (end : World) → host_play [] at_first run ≡ Ends all end → ClosesExactly at_first end.state end.writers
  runs-close all end e = subst (λ w. ClosesExactly at_first w.state w.writers) (host_play-ends all end [] at_first run e) run-stands.closes

  module _ (all : List Reply) (stop : Stop) (writers : List Writer) (readers : List Reader) (e : host_play [] at_first run ≡ Halts all stop writers readers) where
    abbrev before : World
    before = end_world at_first (host_moments at_first run)

    stopped : Stopped at_first before writers
    stopped = stop-closes at_first before stop writers readers (host_play-halts stop writers readers [] at_first run all e) run-stands

    pub stops-close : ClosesExactly at_first before.state writers
    stops-close = stopped.closes

    pub stops-end : EndsExactly before.state writers
    stops-end = stopped.ends
