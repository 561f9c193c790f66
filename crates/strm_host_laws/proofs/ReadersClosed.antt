-- Exactly the host readers that became gone were closed.
use Rattle.std.proofs.Common.{◌≡◌, ℕ, zero, suc, ◌<◌, ◌||◌, true, false, List, [], ◌∷◌, length, get_or, set, refl, sym, ap, subst, ◌∙◌, inl, inr, arith}
use Rattle.std.proofs.lemmas.Bool.{cases_eq, cases_lt}
use Rattle.std.proofs.lemmas.List.{get_or-set_same, get_or-set_other, get_or_past, length-set, length-replicate}
use Rattle.std.specs.Prelude.{slice_set, replicate}
use Rattle.strm_buffers.specs.Tells.{Tells}
use Rattle.strm_machine.specs.State.{State, host_limit, no_consumer, consumer_at, is_loose}
use Rattle.strm_machine.specs.Sides.{with_operation}
use Rattle.strm_machine.specs.Endings.{delivered}
use Rattle.strm_machine.specs.declared.acts.Act.{Act}
use Rattle.strm_machine.specs.declared.acts.Act.TheVariants.{OnHost}
use Rattle.strm_machine.specs.declared.acts.HostAct.TheVariants.{Feed, Grant}
use Rattle.strm_machine.specs.declared.acts.NamedEnd.{NamedEnd}
use Rattle.strm_machine.specs.declared.limits.Limits.{Limits}
use Rattle.strm_machine.specs.declared.steps.Step.{Step}
use Rattle.strm_machine.specs.declared.stops.Stop.{Stop}
use Rattle.strm_machine.specs.declared.streams.Consumer.{Consumer}
use Rattle.strm_machine.specs.declared.streams.Duty.TheVariants.{Serves, Ended}
use Rattle.strm_machine.specs.declared.streams.Operation.{Operation}
use Rattle.strm_machine.specs.declared.streams.Owner.{Owner}
use Rattle.strm_machine.specs.declared.streams.Owner.TheVariants.{Host, Gone}
use Rattle.strm_machine.specs.declared.streams.Side.{Side}
use Rattle.strm_machine.specs.declared.streams.Side.TheVariants.{Writing, Reading}
use Rattle.strm_machine.specs.declared.streams.Stream.{Stream}
use Rattle.strm_machine.specs.declared.replies.Reply.{Reply}
use Rattle.strm_machine.proofs.ShapeLemmas.{reaction-consumers}
use Rattle.strm_machine.proofs.TableLemmas.{OwnersStay, set-keeps}
use Rattle.strm_host_machine.specs.Ends.{Writer, Reader, no_reader, reader_in, polled_reader, closed_reader, granted_reader}
use Rattle.strm_host_machine.specs.World.{World, stream_in, reader_at, with_consumer, with_reader, without_reader, leaves_writer, leaves_reader, with_stream_in}
use Rattle.strm_host_machine.specs.ReaderTurn.{lifted_items}
use Rattle.strm_host_machine.specs.Settling.{since_after, with_some_received}
use Rattle.strm_host_machine.specs.Attaching.{piped, without_ends, forsaken}
use Rattle.strm_host_machine.specs.HostPlays.{Ends, Halts, host_play}
use Rattle.strm_host_machine.specs.Does.{is_ended, start_world}
use Rattle.strm_host_machine.proofs.SettleLemmas.{delivered-owners}
use Rattle.strm_host_laws.specs.HostMoments.{Part, Acts, HostMoment, part_on, host_moments, first_moments, end_world}
use Rattle.strm_host_laws.specs.HostLaws.{ReadersCloseExactly}
use Rattle.strm_host_laws.proofs.Chains.{is_part, Chain, moments-chain, first-chain, StopsAt, host_play-ends, host_play-halts}
use Rattle.strm_host_laws.proofs.Closed.{is_new_reader, unused-unended, or-true, or-false}
use Rattle.strm_host_laws.proofs.PartEffects.{pipe_is, loose_made}
use Rattle.strm_host_laws.proofs.Forms.{HasTurned, opened, called, reacted_to, stream_of, IsRound, IsCall, IsPiping, Form, BySame, ByReacting, ByForsaking, ByHosting, ByFeeding, ByGranting, ByPiping, ByTurning, ByPassing, ByCalling, part-formed}
use Rattle.strm_host_laws.proofs.WrittenBack.{leaves_writer-readers, mid_end}
use Rattle.strm_host_laws.proofs.Rounds.{between}
use Rattle.strm_host_laws.proofs.HostTurns.{with_stream_in-kept}
use Rattle.strm_host_machine.specs.Piping.{both_gone}
use Rattle.strm_machine.specs.declared.streams.End.{End}
use Rattle.strm_host_laws.proofs.GoingRules.{with_state, some_received-end, piped_to, Begins, Stopping, Rules, Halted, Comes, IfGoes, with_stream_in-same}
use Rattle.strm_host_laws.proofs.Goings.{part-comes, feed-comes, grant-comes}
use Rattle.strm_host_laws.proofs.TurnsStand.{Holds, Holds-reaction}
use Rattle.strm_host_laws.proofs.Standing.{Holds-next, Holds-empty}
use Rattle.strm_host_laws.proofs.PipesStand.{Holds-pipe}
use Rattle.strm_host_laws.proofs.Turned.{turned, stream_moved, taken_by, stream_taken, Taken}

-- WHAT HOLDS OF A RUN SO FAR

-- host readers that have a stream are there, and those are closed that were so at first or are gone
record Stands (first : World) (w : World) : Type 0 where
  kept : length w.state.consumers ≡ host_limit
  there : (r s : ℕ) → (consumer_at w.state r).duty ≡ Serves s → r < length w.readers
  closes : ReadersCloseExactly first w.state w.readers

-- the host reader of stream s serves it
abbrev ServesHere : World → ℕ → Type 0
ServesHere w s = (n : ℕ) → (stream_in w s).reader.owner ≡ Host n → (consumer_at w.state n).duty ≡ Serves s

-- one that serves a stream is known
known_serves : (cs : List Consumer) (n s : ℕ) → (get_or cs n no_consumer).duty ≡ Serves s → n < length cs
known_serves cs n s e =
    elim (cases_lt n (length cs)) [
      | inl l ↦ l
      | inr l ↦ absurd (let past = ap (λ (c : Consumer). c.duty) (get_or_past cs n no_consumer l) in cc)
    ]

module _ (first : World) where
  -- host readers are as they were
  still : (w v : World) → v.readers ≡ w.readers → v.state.consumers ≡ w.state.consumers → Stands first w → Stands first v
  still w v e f h = record {
    kept = ap length f ∙ h.kept;
    there = λ r s d. subst (λ rs. r < length rs) (sym e) (h.there r s (ap (λ cs. (get_or cs r no_consumer).duty) (sym f) ∙ d));
    closes = λ r.
        ap (λ rs. (reader_in rs r).closed) e
        ∙ h.closes r
        ∙ ap (λ cs. (reader_at first r).closed || is_ended (get_or cs r no_consumer).duty) (sym f);
  }

  -- one tells something else, and is closed as it was
  with_told : (w : World) (r : ℕ) (reader : Reader) → reader.closed ≡ (reader_at w r).closed → Stands first w → Stands first (with_reader w r reader)
  with_told w r reader e h = record {
    kept = h.kept;
    there = λ k s d. let l = h.there k s d in omega (arith, l, length-set w.readers r reader);
    closes = λ k. set-keeps (λ (x : Reader). x.closed) w.readers r k reader no_reader e ∙ h.closes k;
  }

  -- something else is kept of one, whose duty stays
  with_kept : (w : World) (r : ℕ) (consumer : Consumer) → consumer.duty ≡ (consumer_at w.state r).duty → Stands first w → Stands first (with_consumer w r consumer)
  with_kept w r consumer e h = record {
    kept = length-set w.state.consumers r consumer ∙ h.kept;
    there = λ k s d. h.there k s (sym (set-keeps (λ (c : Consumer). c.duty) w.state.consumers r k consumer no_consumer e) ∙ d);
    closes = λ k.
        h.closes k
        ∙ ap (λ b. (reader_at first k).closed || b) (sym (set-keeps (λ (c : Consumer). is_ended c.duty) w.state.consumers r k consumer no_consumer (ap is_ended e)));
  }

  -- one gets a stream
  with_served : (w : World) (r s : ℕ) → r < length w.readers → r < host_limit → is_ended (consumer_at w.state r).duty ≡ false → Stands first w → Stands first (with_consumer w r (record no_consumer { duty = Serves s }))
  with_served w r s l known unended h =
      let consumer = record no_consumer { duty = Serves s } in
      record {
        kept = length-set w.state.consumers r consumer ∙ h.kept;
        there = λ k t d. elim (cases_eq k r) [
          | inl e ↦ subst (λ j. j < length w.readers) (sym e) l
          | inr ne ↦ h.there k t (ap (λ (c : Consumer). c.duty) (sym (get_or-set_other w.state.consumers r k consumer no_consumer ne)) ∙ d)
        ];
        closes = λ k.
            h.closes k
            ∙ ap (λ b. (reader_at first k).closed || b) (sym (set-keeps (λ (c : Consumer). is_ended c.duty) w.state.consumers r k consumer no_consumer (sym unended)));
      }

  without-closes : (w : World) (n k : ℕ) → n < length w.readers → n < length w.state.consumers → ReadersCloseExactly first w.state w.readers
      → (reader_in (without_reader w n).readers k).closed ≡ ((reader_at first k).closed || is_ended (consumer_at (without_reader w n).state k).duty)
  without-closes w n k l p h =
      let reader = closed_reader (reader_at w n) in
      let consumer = record (consumer_at w.state n) { duty = Ended } in
      elim (cases_eq k n) [
        | inl e ↦
            let closed : (get_or (set w.readers n reader) k no_reader).closed ≡ true = ap (λ j. (get_or (set w.readers n reader) j no_reader).closed) e ∙ ap (λ (x : Reader). x.closed) (get_or-set_same w.readers n reader no_reader l) in
            let ended : is_ended (get_or (set w.state.consumers n consumer) k no_consumer).duty ≡ true = ap (λ j. is_ended (get_or (set w.state.consumers n consumer) j no_consumer).duty) e ∙ ap (λ (x : Consumer). is_ended x.duty) (get_or-set_same w.state.consumers n consumer no_consumer p) in
            closed ∙ sym (ap (λ b. (reader_at first k).closed || b) ended ∙ or-true (reader_at first k).closed)
        | inr ne ↦
            ap (λ (x : Reader). x.closed) (get_or-set_other w.readers n k reader no_reader ne)
            ∙ h k
            ∙ ap (λ (x : Consumer). (reader_at first k).closed || is_ended x.duty) (sym (get_or-set_other w.state.consumers n k consumer no_consumer ne))
      ]

  without : (w : World) (n : ℕ) → n < length w.readers → n < length w.state.consumers → Stands first w → Stands first (without_reader w n)
  without w n l p h =
      let consumer = record (consumer_at w.state n) { duty = Ended } in
      record {
        kept = length-set w.state.consumers n consumer ∙ h.kept;
        there = λ k s d. elim (cases_eq k n) [
          | inl e ↦ let k_there : k < length w.readers = subst (λ j. j < length w.readers) (sym e) l in omega (arith, k_there, length-set w.readers n (closed_reader (reader_at w n)))
          | inr ne ↦ let k_there = h.there k s (ap (λ (c : Consumer). c.duty) (sym (get_or-set_other w.state.consumers n k consumer no_consumer ne)) ∙ d) in omega (arith, k_there, length-set w.readers n (closed_reader (reader_at w n)))
        ];
        closes = λ k. without-closes w n k l p h.closes;
      }

  leaves-stands : (old new : Owner) (w : World) → Stands first w → ((n : ℕ) → old ≡ Host n → (n < length w.readers) × (n < length w.state.consumers)) → Stands first (leaves_reader old new w)
  leaves-stands (Host n) Gone w h t = let r = t n refl in without w n r.0 r.1 h
  leaves-stands (Host n) _ w h t = h
  leaves-stands _ new w h t = h

  leaves_writer-consumers : (old new : Owner) (w : World) → (leaves_writer old new w).state.consumers ≡ w.state.consumers
  leaves_writer-consumers (Host n) Gone w = refl
  leaves_writer-consumers (Host n) _ w = refl
  leaves_writer-consumers _ new w = refl

  -- a stream written back
  stream-stands : (w : World) (s : ℕ) (stream : Stream) → ServesHere w s → Stands first w → Stands first (with_stream_in w s stream)
  unfolding with_stream_in
  stream-stands w s stream serves h =
      let v = with_state w (record w.state { streams = slice_set w.state.streams s stream }) in
      let old = stream_in w s in
      let read = leaves_reader old.reader.owner stream.reader.owner v in
      still read (with_stream_in w s stream) (leaves_writer-readers old.writer.owner stream.writer.owner read) (leaves_writer-consumers old.writer.owner stream.writer.owner read)
      (leaves-stands old.reader.owner stream.reader.owner v (still w v refl refl h)
      (λ n e. let d = serves n e in (h.there n s d, known_serves w.state.consumers n s d)))

  -- whose owners stay
  same-stands : (w : World) (s : ℕ) (stream : Stream) → OwnersStay (stream_in w s) stream → Stands first w → Stands first (with_stream_in w s stream)
  same-stands w s stream e h =
      let v = with_state w (record w.state { streams = slice_set w.state.streams s stream }) in
      subst (Stands first) (sym (with_stream_in-same w s stream e)) (still w v refl refl h)

  -- A TURN

  taken-stands : (w v : World) (s r : ℕ) (write : Operation) → Taken w s r write v → ServesHere w s → Stands first w → Stands first v
  taken-stands w v s r write t serves h =
      let reader = polled_reader (reader_at w r) (lifted_items w.state.guests (stream_in w s).payload write t.said.taken) t.more in
      let told = with_reader w r reader in
      let consumer = record (consumer_at w.state r) { since = since_after t.said.answer (consumer_at w.state r).since t.said.taken } in
      let but = taken_by w s r write t.said t.more in
      subst (Stands first) (sym t.is)
      (stream-stands but s (stream_taken w s write t.said)
      (λ n e. set-keeps (λ (c : Consumer). c.duty) w.state.consumers r n consumer no_consumer refl ∙ serves n e)
      (with_kept told r consumer refl (with_told w r reader refl h)))

  turned-stands : (side : Side) (w v : World) (s n : ℕ) (operation : Operation) → HasTurned side w s n operation v → ServesHere w s → Stands first w → Stands first v
  turned-stands Reading w v s n operation t serves h =
      let but = turned w s n operation t.items t.producer t.writer in
      subst (Stands first) (sym t.is) (stream-stands but s (stream_moved w s operation t.items t.result) serves (still w but refl refl h))
  turned-stands Writing w v s n operation t serves h = taken-stands w v s n operation t serves h

  -- A MOMENT

  module _ (w : World) (holds : Holds w.state) (h : Stands first w) where
    serves : (s : ℕ) → ServesHere w s
    serves s n e = (holds.hosts.serve Reading n s).serves e

    reacted-stands : (act : Act) → Stands first (reacted_to w act)
    reacted-stands act = still w (reacted_to w act) refl (reaction-consumers w.state act) h

    forsaken-stands : (act : Act) (side : Side) (s : ℕ) → Stands first (with_stream_in (reacted_to w act) s (forsaken side (stream_in (reacted_to w act) s)))
    forsaken-stands act side s =
        stream-stands (reacted_to w act) s (forsaken side (stream_in (reacted_to w act) s))
        (λ n e. ((Holds-reaction w.state act holds).hosts.serve Reading n s).serves e) (reacted-stands act)

    pipe-stands : (v : World) (s r : ℕ) → IsPiping w v s r → Stands first v
    pipe-stands v s r p =
        let new = is_new_reader w r s p.unrefused in
        let u = with_consumer w r (record no_consumer { duty = Serves s }) in
        let pipe = piped (stream_in w s) r in
        let made = loose_made w.state s new.loose in
        let kept = with_served w r s new.there new.known (unused-unended (consumer_at w.state r).duty new.unused) h in
        let piping = stream-stands u s pipe (λ n e. absurd (let wrong : is_loose (Host n) ≡ true = ap is_loose (sym e) ∙ new.loose in cc)) kept in
        let state_is = pipe_is w s r new.loose in
        let after : Holds (piped_to w s r).state = subst Holds (sym state_is) (Holds-pipe w.state s r holds new.known new.unused new.loose made) in
        elim p.is [
          | inl e ↦ subst (Stands first) (sym e) piping
          | inr e ↦ subst (Stands first) (sym e) (stream-stands (piped_to w s r) s (without_ends pipe) (λ n f. (after.hosts.serve Reading n s).serves f) piping)
        ]

    -- a read or write that opens
    open-stands : (side : Side) (s : ℕ) (operation : Operation) → OwnersStay (stream_in w s) (with_operation side (stream_in w s) operation)
    open-stands Writing s operation = record { writer = refl; reader = refl }
    open-stands Reading s operation = record { writer = refl; reader = refl }

    call-stands : (side : Side) (part : Part) (v : World) (end : NamedEnd) (address count n : ℕ) → IsCall side w part v end address count n → Stands first v
    call-stands side part v end address count n c =
        let t = stream_of w end in
        let operation = called end address count in
        let stream = with_operation side (stream_in w t) operation in
        let o = opened side w t operation in
        let same = with_stream_in-same w t stream (open-stands side t operation) in
        let at_first = same-stands w t stream (open-stands side t operation) h in
        let here : ServesHere o t = subst (λ x. ServesHere x t) (sym same) (λ k e. serves t k (reader_then side t operation k e)) in
        let mid = turned-stands side o c.mid t n operation c.turned here at_first in
        elim c.told [
          | inl e ↦ subst (Stands first) (sym e) mid
          | inr e ↦ subst (Stands first) (sym e) (same-stands c.mid t (delivered side (stream_in c.mid t)) (delivered-owners side (stream_in c.mid t)) mid)
        ]
      where
        -- its reader is who it was
        reader_then : (side : Side) (t : ℕ) (operation : Operation) (k : ℕ) → (stream_in (with_state w (record w.state { streams = slice_set w.state.streams t (with_operation side (stream_in w t) operation) })) t).reader.owner ≡ Host k → (stream_in w t).reader.owner ≡ Host k
        reader_then side t operation k e = sym (set-keeps (λ (x : Stream). x.reader.owner) w.state.streams t t (with_operation side (stream_in w t) operation) _ (open-stands side t operation).reader) ∙ e

    -- the round of a pipe
    round-stands : (part : Part) (v : World) (s n r : ℕ) → IsRound w part v s n r → Stands first v
    round-stands part v s n r i =
        let p = i.passed in
        let told = with_reader w r p.reader in
        let kept = with_consumer told r p.consumer in
        let they = between w n r p.producer p.kept p.consumer p.writer p.reader in
        let passed = with_some_received (stream_in w s) p.count in
        let but = subst (Stands first) (sym p.but_is) (still kept they refl refl (with_kept told r p.consumer p.serves (with_told w r p.reader p.open_ h))) in
        let same : OwnersStay (stream_in p.but s) passed =
        subst (λ x. OwnersStay (stream_in x s) passed) (sym p.but_is)
        (record { writer = ap (λ (x : End). x.owner) (some_received-end Writing (stream_in w s) p.count); reader = ap (λ (x : End). x.owner) (some_received-end Reading (stream_in w s) p.count) }) in
        let mid : Stands first p.mid = subst (Stands first) (sym p.mid_is) (same-stands p.but s passed same but) in
        let mid_state : p.mid.state ≡ (with_stream_in they s passed).state = ap (λ (x : World). x.state) p.mid_is ∙ ap (λ x. (with_stream_in x s passed).state) p.but_is in
        let serving : ServesHere p.mid s =
        λ k e. subst (λ (x : State). (consumer_at x k).duty ≡ Serves s) (sym (mid_state ∙ with_stream_in-kept they s passed (subst (λ x. OwnersStay (stream_in x s) passed) p.but_is same)))
        (set-keeps (λ (c : Consumer). c.duty) w.state.consumers r k p.consumer no_consumer p.serves ∙ serves s k (sym (ap (λ (x : End). x.owner) (mid_end w s n r v p Reading)) ∙ e)) in
        elim p.ends [
          | inl e ↦ subst (Stands first) (sym e) mid
          | inr e ↦
              let gone = with_stream_in p.mid s (without_ends (stream_in p.mid s)) in
              subst (Stands first) (sym e) (still gone (both_gone p.mid s n) refl refl (stream-stands p.mid s (without_ends (stream_in p.mid s)) serving mid))
        ]

    form-stands : (part : Part) (reply : Reply) (v : World) → Form w part reply v → Stands first v
    form-stands part reply v (BySame m e) = subst (Stands first) (sym e) h
    form-stands part reply v (ByReacting act m e) = subst (Stands first) (sym e) (reacted-stands act)
    form-stands part reply v (ByForsaking act side s n m f) = subst (Stands first) (sym f.is) (forsaken-stands act side s)
    form-stands part reply v (ByHosting n p r e f) = subst (Stands first) (sym f) (still w _ refl refl h)
    form-stands part reply v (ByFeeding n bytes m e) = subst (Stands first) (sym e) (still w _ refl refl h)
    form-stands part reply v (ByGranting r count m e) = subst (Stands first) (sym e) (with_told w r (granted_reader (reader_at w r) count) refl h)
    form-stands part reply v (ByPiping s r m p) = pipe-stands v s r p
    form-stands part reply v (ByTurning side s n operation m i) = turned-stands side w v s n operation i.turned (serves s) h
    form-stands part reply v (ByPassing s n r m i) = round-stands part v s n r i
    form-stands part reply v (ByCalling side end address count n m c) = call-stands side part v end address count n c

-- WHERE A STEP STOPS

-- host readers are closed as they were
abbrev SameClosed : World → World → Type 0
SameClosed w v = (r : ℕ) → (reader_at v r).closed ≡ (reader_at w r).closed

begins : Begins SameClosed
begins = record {
  stays = λ w r. refl;
  joins = λ a b c f g r. g r ∙ f r;
  opens = λ w s stream e r. ap (λ v. (reader_at v r).closed) (with_stream_in-same w s stream e.owners);
  says = λ w n room said more e r. refl;
  takes = λ w r took said more e k. set-keeps (λ (x : Reader). x.closed) w.readers r k (polled_reader (reader_at w r) took more) no_reader refl;
  gives = λ w n k r. refl;
  keeps = λ w n items r. refl;
}

stopping : Stopping SameClosed
stopping = record { begins = begins; polls = λ w n room said more e r. refl }

-- whatever becomes of it where it goes on
abbrev pub Any : World → World → Type 0
Any w v = Unit {0}

pub any_rules : Rules Any
any_rules = record {
  begins = record { stays = λ w. tt; joins = λ a b c f g. tt; opens = λ w s stream e. tt; says = λ w n room said more e. tt; takes = λ w r took said more e. tt; gives = λ w n k. tt; keeps = λ w n items. tt };
  reacts = λ w act. tt;
  lowers = λ w guests. tt;
  counts = λ w r answer taken. tt;
  rests = λ w r answer taken. tt;
  leaves = λ w s stream l. tt;
  hosts = λ w n e. tt;
  pipes = λ w s r e. tt;
}

part-stops : (w : World) (part : Part) → is_part part ≡ true → Comes Any SameClosed w (part_on w part)
part-stops w (Acts (OnHost n (Feed bytes))) p = feed-comes Any SameClosed any_rules stopping w n bytes (λ e. tt)
part-stops w (Acts (OnHost r (Grant count))) p = grant-comes Any SameClosed any_rules stopping w r count (λ e. tt)
part-stops w part p = part-comes Any SameClosed any_rules stopping w part p refl

-- RUNS

module _ (first : World) where
  chain-stands : (w : World) (all : List HostMoment) → Chain w all → Holds w.state → Stands first w → Stands first (end_world w all)
  chain-stands w [] c holds h = h
  chain-stands w (m ∷ more) c holds h =
      let f = c.0 in
      let before : Holds m.before.state = subst (λ (x : World). Holds x.state) (sym f.begins) holds in
      let form = subst (λ o. IfGoes o (Form m.before m.part)) f.goes (part-formed m.before before m.part f.part) in
      chain-stands m.after more c.1 (Holds-next w m f holds) (form-stands first m.before before (subst (Stands first) (sym f.begins) h) m.part m.reply m.after form)

none_ended : (m n : ℕ) → is_ended (get_or (replicate m no_consumer) n no_consumer).duty ≡ false
none_ended zero n = refl
none_ended (suc m) zero = refl
none_ended (suc m) (suc n) = none_ended m n

none_serve : (m n s : ℕ) → (get_or (replicate m no_consumer) n no_consumer).duty ≡ Serves s → ⊥
none_serve zero n s e = cc
none_serve (suc m) zero s e = cc
none_serve (suc m) (suc n) s e = none_serve m n s e

module _ (tag : ℕ) (limits : Limits) (old new : Tells) (run : List Step) where
  abbrev at_first : World
  at_first = start_world tag limits old new

  stands_first : Stands at_first at_first
  stands_first = record {
    kept = length-replicate {A = Consumer} host_limit no_consumer;
    there = λ r s e. absurd (none_serve host_limit r s e);
    closes = λ r. sym (ap (λ b. (reader_at at_first r).closed || b) (none_ended host_limit r) ∙ or-false (reader_at at_first r).closed);
  }

  run-stands : Stands at_first (end_world at_first (host_moments at_first run))
  run-stands = chain-stands at_first at_first (host_moments at_first run) (moments-chain at_first run) (Holds-empty tag limits) stands_first

  pub readers-close : (count : ℕ) → ReadersCloseExactly at_first (end_world at_first (first_moments count at_first run)).state (end_world at_first (first_moments count at_first run)).readers
  readers-close count = (chain-stands at_first at_first (first_moments count at_first run) (first-chain count at_first run) (Holds-empty tag limits) stands_first).closes

  pub runs-close_readers : (all : List Reply) (end : World) → host_play [] at_first run ≡ Ends all end → ReadersCloseExactly at_first end.state end.readers
  runs-close_readers all end e = subst (λ w. ReadersCloseExactly at_first w.state w.readers) (host_play-ends all end [] at_first run e) run-stands.closes

  stop-closes : (w : World) (stop : Stop) (writers : List Writer) (readers : List Reader) → StopsAt w stop writers readers → Stands at_first w → ReadersCloseExactly at_first w.state readers
  stop-closes w stop writers readers s h =
      elim s.form [
        | inl p ↦
            let halted : Halted SameClosed w writers readers = subst (Comes Any SameClosed w) s.stopped (part-stops w s.part p) in
            λ r. ap (λ rs. (reader_in rs r).closed) halted.read ∙ halted.kept r ∙ h.closes r
        | inr e ↦ λ r. ap (λ rs. (reader_in rs r).closed) e.1 ∙ h.closes r
      ]

  pub stops-close_readers : (all : List Reply) (stop : Stop) (writers : List Writer) (readers : List Reader) → host_play [] at_first run ≡ Halts all stop writers readers
      → ReadersCloseExactly at_first (end_world at_first (host_moments at_first run)).state readers
  stops-close_readers all stop writers readers e =
      stop-closes (end_world at_first (host_moments at_first run)) stop writers readers (host_play-halts stop writers readers [] at_first run all e) run-stands
