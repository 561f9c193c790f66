-- The machine does what a guest of a chain does in its turn, and answers as on a stream of bytes.
use Rattle.std.proofs.Common.{◌≡◌, ◌≢◌, ℕ, ◌+◌, ◌-◌, ◌<◌, ◌≤◌, true, false, List, length, set, Option, Some, None, refl, sym, ap, ◌∙◌, subst, inl, inr, arith}
use Rattle.std.specs.Prelude.{◌⊎◌, IsSome}
use Rattle.std.proofs.Math.Nat.{min-le_left}
use Rattle.std.proofs.lemmas.Bool.{cases_lt}
use Rattle.std.proofs.lemmas.List.{length-set, get_or-set_same, get_or-set_other}
use Rattle.strm_codes.specs.Codes.{count_of_code}
use Rattle.strm_codes.specs.declared.codes.ReturnCode.{ReturnCode}
use Rattle.strm_codes.specs.declared.codes.ReturnCode.TheVariants as codes
use Rattle.strm_codes.specs.Layout.{item_type}
use Rattle.strm_codes.specs.declared.payloads.Payload.TheVariants.{One}
use Rattle.strm_codes.specs.declared.scalars.Scalar.TheVariants.{U8}
use Rattle.strm_memory.specs.Region.{has_bytes}
use Rattle.strm_machine.specs.State.{memory_in, stream_at, is_gone}
use Rattle.strm_machine.specs.Acts.{end_named_by}
use Rattle.strm_machine.specs.Meetings.{begun}
use Rattle.strm_machine.specs.Operating.{operate}
use Rattle.strm_machine.specs.Soundness.{type_of}
use Rattle.strm_machine.specs.Refusals.{refusal}
use Rattle.strm_machine.specs.declared.streams.Side.TheVariants.{Writing as AWrite, Reading as ARead}
use Rattle.strm_machine.specs.declared.acts.Act.TheVariants.{OnEnd}
use Rattle.strm_machine.specs.declared.acts.EndAct.TheVariants.{Operate}
use Rattle.strm_machine.specs.declared.replies.Reply.TheVariants as replies
use Rattle.strm_machine.specs.declared.steps.Step.TheVariants as steps
use Rattle.strm_chain.specs.declared.workers.Worker.{Worker}
use Rattle.strm_chain.specs.declared.workers.Doing.TheVariants.{Nothing, Reading, Writing, Ended}
use Rattle.strm_chain.specs.declared.workers.ChainTurn.{ChainTurn}
use Rattle.strm_chain.specs.declared.workers.ChainTurn.TheVariants.{Moved}
use Rattle.strm_chain.specs.Playing.{ChainPlay, Adds, IsChainPlayed, IsDone, bytes_type, operation}
use Rattle.strm_chain.specs.Flowing.{got_on}
use Rattle.strm_chain.specs.Keeping.{new_worker, worker_at, sink_of, ArePlain, WritesOn, ReadsFrom, IsJoined, IsGuest}
use Rattle.strm_chain.specs.declared.stages.Stage.TheVariants.{Copy}
use Rattle.strm_chain.specs.Turning.{IsChunkCount}
use Rattle.strm_chain.specs.Turned.{EndsRead, WithMore, WithLast, Reads, HearsRead, Pokes, WritesPiece, HearsWrite, Turned, WriteServes, WriteSettles}
use Rattle.strm_chain.proofs.MomentLemmas.{IsRunOf, played_run, holds_at}
use Rattle.strm_chain.proofs.DoneLemmas.{and_false, Codes, HoldsEnd, IsReadCode, IsWriteCode, operate_free, operate_done, operate_code, drop_done, event_done, poke_done, dump_done, read_code, write_code, read_report, write_report}
use Rattle.strm_chain.proofs.StayLemmas.{kind_is, payload_is}
use Rattle.strm_chain.proofs.JoinedLemmas.{OneChanged}
use Rattle.strm_chain.proofs.TurnedLemmas.{apart_doing, no_handle}
use Rattle.strm_chain.proofs.ReadTurnLemmas.{before_it, behind_it, own_reads, read_owner, ReadIsOver, read_serves, read_settles, hears_read}
use Rattle.strm_chain.proofs.TurnLemmas.{write_owner, poked, hears_write, turn_joined}

sixty_four : 64 ≤ 64
sixty_four = omega arith

-- what a guest with a write end knows of its stream
pub record WritesHere (g : ℕ) (w : Worker) (p : ChainPlay) : Type 0 where
  pub streams : g < length p.state.streams
  pub typed : type_of (stream_at p.state g) ≡ bytes_type
  pub writes : WritesOn g w p.state (got_on p.steps g)
  pub plain : ArePlain (stream_at p.state g)
  pub read : is_gone (stream_at p.state g).reader.owner ≡ false

-- and one with a read end
pub record ReadsHere (g : ℕ) (w : Worker) (p : ChainPlay) : Type 0 where
  pub before : g ≡ (g - 1) + 1
  pub streams : g - 1 < length p.state.streams
  pub typed : type_of (stream_at p.state (g - 1)) ≡ bytes_type
  pub reads : ReadsFrom (g - 1) w p.state (got_on p.steps (g - 1))

module _ (g : ℕ) (w : Worker) (p : ChainPlay) (x : IsGuest g w p) (f : IsChainPlayed p) where
  abbrev ws : List Worker
  ws = x.workers

  abbrev j : IsJoined p ws
  j = x.joined

  run : IsRunOf p
  run = played_run p f

  there : g < length p.state.guests
  there = omega (arith, x.there, j.guests)

  size : length (memory_in p.state.guests g) ≡ 8192
  size = j.room g x.there

  -- ## Its handles

  write_is : (handle : ℕ) → w.write ≡ Some handle → (worker_at ws g).write ≡ Some handle
  write_is handle has = ap (λ (v : Worker). v.write) x.is ∙ has

  read_is : (handle : ℕ) → w.read ≡ Some handle → (worker_at ws g).read ≡ Some handle
  read_is handle has = ap (λ (v : Worker). v.read) x.is ∙ has

  pub writes_here : (handle : ℕ) → w.write ≡ Some handle → WritesHere g w p
  writes_here handle has =
      let more = behind_it p ws g handle j x.there (write_is handle has) in
      let at = j.joins g more in
      record {
        streams = omega (arith, more, j.streams);
        typed = at.typed;
        writes = subst (λ v. WritesOn g v p.state (got_on p.steps g)) x.is at.writes;
        plain = at.reads.plain;
        read = ap is_gone at.reads.owner;
      }

  pub reads_here : (handle : ℕ) → w.read ≡ Some handle → ReadsHere g w p
  reads_here handle has =
      let b = before_it p ws g handle j x.there (read_is handle has) in
      record {
        before = b.is;
        streams = omega (arith, b.there, j.streams);
        typed = (j.joins (g - 1) b.there).typed;
        reads = subst (λ v. ReadsFrom (g - 1) v p.state (got_on p.steps (g - 1))) x.is
            (own_reads p ws g 64 j x.there run sixty_four (g - 1) b);
      }

  write_end : (handle : ℕ) → w.write ≡ Some handle → w.doing ≢ Ended → HoldsEnd p.state g AWrite g handle
  write_end handle has going = record {
    there = there;
    held = (holds_at p run).held g handle g AWrite
        (write_owner p ws g 64 j x.there run sixty_four handle (behind_it p ws g handle j x.there (write_is handle has))
        (λ e. going (sym (ap (λ (v : Worker). v.doing) x.is) ∙ e)) (write_is handle has));
    typed = (writes_here handle has).typed;
  }

  read_end : (handle : ℕ) → w.read ≡ Some handle → HoldsEnd p.state (g - 1) ARead g handle
  read_end handle has = record {
    there = there;
    held = (holds_at p run).held g handle (g - 1) ARead
        (read_owner p ws g 64 j x.there run sixty_four (g - 1) handle (before_it p ws g handle j x.there (read_is handle has)) (read_is handle has));
    typed = (reads_here handle has).typed;
  }

  -- a guest that is not the last one has a write end
  pub has_write : w.doing ≡ Writing ⊎ ((w.doing ≡ Nothing) × (w.closed ≡ true)) → w.write ≡ None → ⊥
  has_write d none = elim (cases_lt (g + 1) (length ws)) [
    | inl more ↦ (let h = (j.joins g more).writes in no_handle w.write h.handle none (ap (λ (v : Worker). v.write) (sym x.is) ∙ h.has))
    | inr far ↦ (let last : g ≡ length ws - 1 = omega (arith, far, x.there) in at_sink (ap (worker_at ws) (sym last) ∙ x.is) d)
  ]
    where
      at_sink : sink_of ws ≡ w → w.doing ≡ Writing ⊎ ((w.doing ≡ Nothing) × (w.closed ≡ true)) → ⊥
      at_sink e (inl d) = j.sink.unwriting (ap (λ (v : Worker). v.doing) e ∙ d)
      at_sink e (inr d) =
          let ended : w.doing ≡ Ended = ap (λ (v : Worker). v.doing) (sym e) ∙ j.sink.ended (ap (λ (v : Worker). v.closed) e ∙ d.1) in
          let wrong : Nothing ≡ Ended = sym d.0 ∙ ended in
          cc

  -- and one that is not the first a read end
  pub has_read : w.doing ≡ Reading ⊎ (w.closed ≡ false) → w.read ≡ None → ⊥
  has_read d none = elim (cases_lt 0 g) [
    | inl some ↦ (let before : g ≡ (g - 1) + 1 = omega (arith, some) in
        let h = own_reads p ws g 64 j x.there run sixty_four (g - 1) (record { is = before; there = omega (arith, before, x.there) }) in
        no_handle w.read h.handle none (ap (λ (v : Worker). v.read) (sym x.is) ∙ h.has))
    | inr zero ↦ (let first : g ≡ 0 = omega (arith, zero) in at_source (ap (worker_at ws) (sym first) ∙ x.is) d)
  ]
    where
      at_source : worker_at ws 0 ≡ w → w.doing ≡ Reading ⊎ (w.closed ≡ false) → ⊥
      at_source e (inl d) = j.unreading (ap (λ (v : Worker). v.doing) e ∙ d)
      at_source e (inr d) = let wrong : true ≡ false = sym j.source.1 ∙ ap (λ (v : Worker). v.closed) e ∙ d in cc

  -- ## Its calls

  pub dump_is_done : (n : ℕ) → n ≤ 64 → IsDone p.state (steps.Dump g 0 n)
  dump_is_done n few = dump_done p.state g 0 n f.running there (omega (arith, size, few, min-le_left n 64))

  pub poke_is_done : (bytes : List ℕ) → length bytes ≤ 64 → IsDone p.state (steps.Poke g 64 bytes)
  poke_is_done bytes few = poke_done p.state g 64 bytes f.running there (omega (arith, size, few))

  module _ (handle : ℕ) (has : w.read ≡ Some handle) where
    pub read_event_done : IsDone p.state (steps.Event g handle)
    read_event_done = event_done p.state (g - 1) ARead g handle f.unhosted.sound (read_end handle has) f.running

    module _ (count : ℕ) (rests : w.doing ≡ Nothing) (unclosed : w.closed ≡ false) (counts : IsChunkCount 64 count) where
      read_free : refusal p.state (OnEnd ARead (end_named_by g bytes_type handle) (Operate 0 count)) ≡ None
      read_free =
          operate_free p.state (g - 1) ARead g handle f.unhosted.sound (read_end handle has) 0 count (omega (arith, size, counts.most)) counts.most
          (and_false (has_bytes (item_type (One U8)) count) _ refl)
          (record {
            idle = (reads_here handle has).reads.idle (apart_doing w Nothing Reading rests (λ e. cc));
            untold = (reads_here handle has).reads.untold unclosed;
          })

      read_codes : Codes IsReadCode (operate ARead p.state.guests (stream_at p.state (g - 1)) (begun g 0 count))
      read_codes =
          let h = reads_here handle has in
          read_code p.state.guests (stream_at p.state (g - 1)) (begun g 0 count) (kind_is p.state (g - 1) h.typed) (payload_is p.state (g - 1) h.typed) h.reads.plain counts.some

      pub read_is_done : IsDone p.state (operation ARead g handle 0 count)
      read_is_done = operate_done p.state (g - 1) ARead g handle f.unhosted.sound (read_end handle has) 0 count IsReadCode f.running read_free read_codes

      pub read_answers : (q : ChainPlay) (code : ReturnCode) → Adds p q (operation ARead g handle 0 count) (replies.Code code) → IsReadCode code
      read_answers q code a =
          operate_code p.state (g - 1) ARead g handle f.unhosted.sound (read_end handle has) 0 count IsReadCode f.running read_free read_codes code q.state a.reacts

  module _ (handle : ℕ) (has : w.write ≡ Some handle) where
    pub write_event_done : w.doing ≡ Writing → IsDone p.state (steps.Event g handle)
    write_event_done d = event_done p.state g AWrite g handle f.unhosted.sound (write_end handle has (apart_doing w Writing Ended d (λ e. cc))) f.running

    pub drop_is_done : w.doing ≡ Nothing → IsDone p.state (steps.DropWrite g bytes_type handle)
    drop_is_done d =
        drop_done p.state g AWrite g handle f.unhosted.sound (write_end handle has (apart_doing w Nothing Ended d (λ e. cc))) f.running
        ((writes_here handle has).writes.idle (apart_doing w Nothing Writing d (λ e. cc)))

    module _ (count : ℕ) (rests : w.doing ≡ Nothing) (counts : IsChunkCount 64 count) where
      write_free : refusal p.state (OnEnd AWrite (end_named_by g bytes_type handle) (Operate 64 count)) ≡ None
      write_free =
          operate_free p.state g AWrite g handle f.unhosted.sound (write_end handle has (apart_doing w Nothing Ended rests (λ e. cc))) 64 count (omega (arith, size, counts.most)) counts.most
          (and_false (has_bytes (item_type (One U8)) count) _ refl)
          (record {
            idle = (writes_here handle has).writes.idle (apart_doing w Nothing Writing rests (λ e. cc));
            untold = (writes_here handle has).writes.untold;
          })

      write_codes : Codes IsWriteCode (operate AWrite p.state.guests (stream_at p.state g) (begun g 64 count))
      write_codes =
          let h = writes_here handle has in
          write_code p.state.guests (stream_at p.state g) (begun g 64 count) (kind_is p.state g h.typed) (payload_is p.state g h.typed) h.plain counts.some h.read

      pub write_is_done : IsDone p.state (operation AWrite g handle 64 count)
      write_is_done =
          operate_done p.state g AWrite g handle f.unhosted.sound (write_end handle has (apart_doing w Nothing Ended rests (λ e. cc))) 64 count IsWriteCode f.running write_free write_codes

      pub write_answers : (q : ChainPlay) (code : ReturnCode) → Adds p q (operation AWrite g handle 64 count) (replies.Code code) → IsWriteCode code
      write_answers q code a =
          operate_code p.state g AWrite g handle f.unhosted.sound (write_end handle has (apart_doing w Nothing Ended rests (λ e. cc))) 64 count IsWriteCode f.running write_free write_codes code q.state a.reacts

  -- ## What it hears

  module _ (q : ChainPlay) (handle : ℕ) (after : IsChainPlayed q) where
    pub hears_of_read : (code : ReturnCode) → w.read ≡ Some handle → Adds p q (steps.Event g handle) (replies.Event (Some code)) → EndsRead code
    hears_of_read code has a =
        let b = before_it p ws g handle j x.there (read_is handle has) in
        let told = hears_read p ws g 64 j x.there run sixty_four q (g - 1) handle (Some code) (played_run q after).are b (read_is handle has) a in
        let h = reads_here handle has in
        read_report (stream_at p.state (g - 1)) code (kind_is p.state (g - 1) h.typed) h.reads.plain told.reports

    pub hears_of_write : (code : ReturnCode) → w.write ≡ Some handle → w.doing ≡ Writing → Adds p q (steps.Event g handle) (replies.Event (Some code)) → (n : ℕ) × (code ≡ codes.Completed n)
    hears_of_write code has d a =
        let told = hears_write p ws g 64 j x.there run sixty_four q handle (Some code) (played_run q after).are (ap (λ (v : Worker). v.doing) x.is ∙ d) (write_is handle has) a in
        let h = writes_here handle has in
        write_report (stream_at p.state g) code (kind_is p.state g h.typed) h.plain h.read told.reports

  -- ## Behind a read that is over: its bytes may be dumped

  pub record MayDump (q : ChainPlay) (code : ReturnCode) : Type 0 where
    pub few : count_of_code code ≤ 64
    pub done : IsDone q.state (steps.Dump g 0 (count_of_code code))

  module _ (q : ChainPlay) (code : ReturnCode) (after : IsChainPlayed q) where
    may_dump : (chunk : ℕ) (most : chunk ≤ 64) → ReadIsOver p ws g chunk j x.there run most q (g - 1) code → MayDump q code
    may_dump chunk most over =
        let frame = over.passes.frame in
        record {
          few = over.arrives.few;
          done = dump_done q.state g 0 (count_of_code code) after.running (omega (arith, x.there, frame.guests))
              (omega (arith, frame.room g x.there, over.arrives.few, min-le_left (count_of_code code) 64));
        }

    pub read_over : (chunk : ℕ) → chunk ≤ 64 → (y : Reads g chunk w p q code) → code ≢ codes.Blocked → MayDump q code
    read_over chunk most y ne =
        let z : Reads g chunk (worker_at ws g) p q code = subst (λ v. Reads g chunk v p q code) (sym x.is) y in
        may_dump chunk most (read_serves p ws g chunk j x.there run most q (g - 1) (played_run q after).are (before_it p ws g z.handle j x.there z.has) code ne z)

    pub read_told : (y : HearsRead g w p q code) → code ≢ codes.Blocked → MayDump q code
    read_told y ne =
        let z : HearsRead g (worker_at ws g) p q code = subst (λ v. HearsRead g v p q code) (sym x.is) y in
        may_dump 64 sixty_four (read_settles p ws g 64 j x.there run sixty_four q (g - 1) (played_run q after).are (before_it p ws g z.handle j x.there z.has) code ne z)

  -- ## Behind a poke: the guest is as it was

  pub guest_poked : (chunk : ℕ) (bytes : List ℕ) (mid : ChainPlay) → chunk ≤ 64 → IsChainPlayed mid → IsSome w.write → Pokes g chunk w bytes p mid → IsGuest g w mid
  guest_poked chunk bytes mid most after some y =
      let z : Pokes g chunk (worker_at ws g) bytes p mid = subst (λ v. Pokes g chunk v bytes p mid) (sym x.is) y in
      record {
        workers = ws;
        joined = (poked p ws g chunk j x.there run most bytes mid (played_run mid after).are (more_of some) z).joined;
        there = x.there;
        is = x.is;
        played = after;
      }
    where
      more_of : IsSome w.write → g + 1 < length ws
      more_of some = by w.write refl some
        where
          by : (o : Option ℕ) → w.write ≡ o → IsSome o → g + 1 < length ws
          by None e s = cc
          by (Some handle) e s = behind_it p ws g handle j x.there (write_is handle e)

  -- ## What a write that is over has handed over

  module _ (q : ChainPlay) (after : IsChainPlayed q) (count : ℕ) where
    over_within : (chunk : ℕ) → chunk ≤ 64 → (what : ChainTurn) (v : Worker) → w.write ≡ v.write → v.sent ≡ w.sent + count → v.made ≡ w.made → IsSome w.write → Turned g chunk w p what v q → w.sent + count ≤ length w.made
    over_within chunk most what v same sent made some t =
        let changed = set ws g v in
        let at : worker_at changed g ≡ v = get_or-set_same ws g v (new_worker Copy) x.there in
        let one : OneChanged g ws changed = record { many = length-set ws g v; others = λ k ne. get_or-set_other ws g k v (new_worker Copy) ne } in
        let joined = turn_joined p ws g chunk j x.there run most q changed what (played_run q after).are one
        (subst (λ u. Turned g chunk u p what (worker_at changed g) q) (sym x.is) (subst (λ u. Turned g chunk w p what u q) (sym at) t)) in
        let h = (joined.joins g (more_of some changed one.many)).writes in
        let within : v.sent ≤ length v.made = subst (λ u. u.sent ≤ length u.made) at (omega (arith, h.sends.within)) in
        omega (arith, within, sent, ap length made)
      where
        more_of : IsSome w.write → (new : List Worker) → length new ≡ length ws → g + 1 < length new
        more_of some new many = by w.write refl some
          where
            by : (o : Option ℕ) → w.write ≡ o → IsSome o → g + 1 < length new
            by None e s = cc
            by (Some handle) e s = omega (arith, many, behind_it p ws g handle j x.there (write_is handle e))

    pub served_within : (chunk : ℕ) → chunk ≤ 64 → (y : WritesPiece g chunk w p q (codes.Completed count)) → w.sent + count ≤ length w.made
    served_within chunk most y =
        let v : Worker = record w { sent = w.sent + count; doing = Nothing } in
        over_within chunk most Moved v refl refl refl (subst IsSome (sym y.has) refl)
        (WriteServes (codes.Completed count) refl y (record { count = count; ends = refl; is = refl }))

    pub told_within : (y : HearsWrite g w p q (codes.Completed count)) → w.sent + count ≤ length w.made
    told_within y =
        let v : Worker = record w { sent = w.sent + count; doing = Nothing } in
        over_within 64 sixty_four Moved v refl refl refl (subst IsSome (sym y.has) refl)
        (WriteSettles (codes.Completed count) refl y (record { count = count; ends = refl; is = refl }))

-- ## Codes that do not come

pub uncancelled : (code : ReturnCode) (n : ℕ) → IsReadCode code → code ≡ codes.Cancelled n → ⊥
uncancelled code n (inl e) f = let wrong : codes.Blocked ≡ codes.Cancelled n = sym e ∙ f in cc
uncancelled code n (inr (WithMore e)) f = let wrong : codes.Completed (count_of_code code) ≡ codes.Cancelled n = sym e ∙ f in cc
uncancelled code n (inr (WithLast e)) f = let wrong : codes.Dropped (count_of_code code) ≡ codes.Cancelled n = sym e ∙ f in cc

pub undropped : (code : ReturnCode) (n : ℕ) → IsWriteCode code → code ≡ codes.Dropped n → ⊥
undropped code n (inl e) f = let wrong : codes.Blocked ≡ codes.Dropped n = sym e ∙ f in cc
undropped code n (inr x) f = let wrong : codes.Completed x.0 ≡ codes.Dropped n = sym x.1 ∙ f in cc

pub written_uncancelled : (code : ReturnCode) (n : ℕ) → IsWriteCode code → code ≡ codes.Cancelled n → ⊥
written_uncancelled code n (inl e) f = let wrong : codes.Blocked ≡ codes.Cancelled n = sym e ∙ f in cc
written_uncancelled code n (inr x) f = let wrong : codes.Completed x.0 ≡ codes.Cancelled n = sym x.1 ∙ f in cc

pub completes_count : (code : ReturnCode) (n : ℕ) → code ≡ codes.Completed n → code ≡ codes.Completed (count_of_code code)
completes_count code n e = e ∙ ap codes.Completed (sym (ap count_of_code e))
