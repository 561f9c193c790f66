-- A turn leaves a chain joined, whatever its guest did in it.
use Rattle.std.proofs.Common.{◌≡◌, ◌≢◌, ℕ, ◌+◌, ◌-◌, ◌<◌, ◌≤◌, true, false, List, length, take, drop, Option, Some, None, refl, sym, ap, ◌∙◌, subst, arith}
use Rattle.strm_codes.specs.Codes.{count_of_code}
use Rattle.strm_codes.specs.declared.codes.ReturnCode.{ReturnCode}
use Rattle.strm_codes.specs.declared.codes.ReturnCode.TheVariants as codes
use Rattle.strm_events.specs.Reports.{is_dropped}
use Rattle.strm_memory.specs.Bytes.{bytes_at}
use Rattle.strm_machine.specs.State.{memory_in, stream_at, is_gone}
use Rattle.strm_machine.specs.Acts.{act_of, end_named_by}
use Rattle.strm_machine.specs.Moments.{Moment}
use Rattle.strm_machine.specs.Untouched.{Region, LiesApart, put_by}
use Rattle.strm_machine.specs.declared.streams.Side.TheVariants.{Writing as AWrite, Reading as ARead}
use Rattle.strm_machine.specs.declared.streams.Owner.TheVariants.{Held}
use Rattle.strm_machine.specs.declared.acts.NamedEnd.{NamedEnd}
use Rattle.strm_machine.specs.declared.steps.Step.{Step}
use Rattle.strm_machine.specs.declared.steps.Step.TheVariants as steps
use Rattle.strm_machine.specs.declared.replies.Reply.{Reply}
use Rattle.strm_machine.specs.declared.replies.Reply.TheVariants as replies
use Rattle.strm_machine.proofs.NamedEndLemmas.{end_itself}
use Rattle.strm_laws.specs.Laws.{AreSteps}
use Rattle.strm_chain.specs.declared.workers.Worker.{Worker}
use Rattle.strm_chain.specs.declared.workers.Doing.{Doing}
use Rattle.strm_chain.specs.declared.workers.Doing.TheVariants.{Nothing, Reading, Writing, Ended}
use Rattle.strm_chain.specs.declared.workers.ChainTurn.{ChainTurn}
use Rattle.strm_chain.specs.Playing.{ChainPlay, Adds, bytes_type}
use Rattle.strm_chain.specs.Flowing.{got_on}
use Rattle.strm_chain.specs.Linking.{Sends}
use Rattle.strm_chain.specs.Keeping.{worker_at, WritesOn, ReadsFrom, IsJoined}
use Rattle.strm_chain.specs.Turned.{HearsNone, Pokes, WritesPiece, HearsWrite, HandsOver, Drops, Turned, Rests, Waits, ReadOpens, ReadServes, ReadSettles, WriteOpens, WriteServes, WriteSettles, Ends}
use Rattle.strm_chain.proofs.RegionLemmas.{nothing_put, write_region_stays}
use Rattle.strm_chain.proofs.KeepLemmas.{poke_leaves}
use Rattle.strm_chain.proofs.MomentLemmas.{IsRunOf, IsSeen, moment_at, run_before, are_before, seen}
use Rattle.strm_chain.proofs.NamingLemmas.{NamesOnly, performed, operate_names, drop_names, event_names, unnamed_reader}
use Rattle.strm_chain.proofs.AfterLemmas.{told_at, Steady, Told, operate_after, event_after, drop_after, poke_after, event_none}
use Rattle.strm_chain.proofs.StayLemmas.{low_unless, kind_is}
use Rattle.strm_chain.proofs.JoinedLemmas.{frame_of, Passes, Each, But, same_passes, writer_passes, drop_passes, poke_passes, fewer, both_pass, none_pass, SamePart, OneChanged, joined_again, joined_same, unchanged}
use Rattle.strm_chain.proofs.OwnLemmas.{front_itself, next_within, own_write_waits, own_write_serves, own_write_settles, dropped_sends}
use Rattle.strm_chain.proofs.TurnedLemmas.{apart_doing, held_same, one_handle, no_handle, reads_doing, unblocked}
use Rattle.strm_chain.proofs.ReadTurnLemmas.{before_it, behind_it, read_serves, read_settles, read_turn, wait_turn}

not_blocked : (code : ReturnCode) (n : ℕ) → code ≡ codes.Completed n → code ≢ codes.Blocked
not_blocked code n e f = let wrong : codes.Blocked ≡ codes.Completed n = sym f ∙ e in cc

-- what a turn of a guest that writes needs to know of the chain
module _ (p : ChainPlay) (ws : List Worker) (g chunk : ℕ) (j : IsJoined p ws) (l : g < length ws) (run : IsRunOf p) (most : chunk ≤ 64) where
  abbrev w : Worker
  w = worker_at ws g

  pub write_owner : (handle : ℕ) → g + 1 < length ws → w.doing ≢ Ended → w.write ≡ Some handle → (stream_at p.state g).writer.owner ≡ Held g handle
  write_owner handle more a has =
      let h = (j.joins g more).writes in
      h.owner a ∙ held_same g g h.handle handle refl (one_handle w.write h.handle handle h.has has)

  -- ## Writes

  -- the bytes that are to be written lie where they are written from
  pub record IsPoked (bytes : List ℕ) (mid : ChainPlay) : Type 0 where
    pub joined : IsJoined mid ws
    run_mid : IsRunOf mid
    lies : bytes_at (memory_in mid.state.guests g) 64 (length bytes) ≡ take (length bytes) (drop w.sent w.made)
    within : w.sent + length bytes ≤ length w.made
    few : length bytes ≤ 64

  pub poked : (bytes : List ℕ) (mid : ChainPlay) → AreSteps mid.steps → g + 1 < length ws → Pokes g chunk w bytes p mid → IsPoked bytes mid
  poked bytes mid are more x =
      let step = steps.Poke g 64 bytes in
      let look = seen p mid step replies.Done run are x.adds in
      let does = performed p.state (act_of step) replies.Done mid.state x.adds.reacts refl in
      let m = moment_at p mid step replies.Done in
      let h = (j.joins g more).writes in
      let idle : (stream_at p.state g).writer.operation ≡ None = h.idle (apart_doing w Nothing Writing x.rests (λ e. cc)) in
      let passes = poke_passes p mid ws step replies.Done x.adds j look g (poke_after p.state mid.state g 64 bytes does) (λ k side. refl) (λ r below. poke_leaves m g bytes r refl below) idle in
      record {
        joined = joined_same p mid ws ws g j (unchanged g ws) refl passes;
        run_mid = run_before p mid step replies.Done x.adds run are;
        lies = look.lies ∙ x.next ∙ sym (front_itself chunk (drop w.sent w.made)) ∙ ap (λ b. take (length b) (drop w.sent w.made)) (sym x.next);
        within = next_within chunk w.sent w.made bytes x.next x.some.some;
        few = omega (arith, x.some.most, most);
      }

  -- a step that names the write end of the guest, and puts nothing into a memory
  module _ (mid q : ChainPlay) (jm : IsJoined mid ws) (step : Step) (reply : Reply) (a : Adds mid q step reply) (look : IsSeen (moment_at mid q step reply) mid.steps q.steps)
      (put : (r : Region) → LiesApart r (put_by (act_of step) reply)) (only : NamesOnly (moment_at mid q step reply) g AWrite) where
    size_after : length (memory_in q.state.guests g) ≡ length (memory_in mid.state.guests g)
    size_after = look.aside.size g (omega (arith, l, jm.guests))

    same_after : (c : ℕ) → bytes_at (memory_in q.state.guests g) 64 c ≡ bytes_at (memory_in mid.state.guests g) 64 c
    same_after c =
        write_region_stays (moment_at mid q step reply) g c look.aside (omega (arith, l, jm.guests)) (put _)
        (λ t. low_unless mid ws (moment_at mid q step reply) t refl jm (look.change t ARead) (unnamed_reader (moment_at mid q step reply) g t only))

  -- the guest goes on from a step on its write end, with so many bytes sent and doing this
  module _ (q : ChainPlay) (ws' : List Worker) (sent : ℕ) (d : Doing) (one : OneChanged g ws ws')
      (more : g + 1 < length ws) where
    abbrev changed : Worker
    changed = record w { doing = d; sent = sent }

    writer_again : Passes (length ws) p q (But g) Each → worker_at ws' g ≡ changed → w.doing ≢ Reading → d ≢ Reading → (handle : ℕ) → w.write ≡ Some handle → (d ≡ Ended → w.closed ≡ true) → WritesOn g changed q.state (got_on q.steps g) → IsJoined q ws'
    writer_again passes is a b handle has closed writes =
        let v : Worker = record w { doing = d; sent = sent } in
        joined_again p q ws ws' g j one
        (subst (SamePart w) (sym is) (record {
          read = refl;
          write = refl;
          stage = refl;
          source = λ none. (refl, refl);
          unreading = λ none _. b;
          sink = λ k. record {
            write = k.write;
            copies = k.copies;
            ends = closed;
            ended = λ _. absurd (no_handle w.write handle k.write has);
            unwriting = λ _. no_handle w.write handle k.write has;
          };
        }))
        (fewer (length ws) p q (But g) Each (But g) (λ k. k + 1 ≢ g) passes (λ k ne. ne) (λ k _. tt))
        (λ _. subst (λ u. WritesOn g u q.state (got_on q.steps g)) (sym is) writes)
        (λ s there e. subst (λ u. ReadsFrom s u q.state (got_on q.steps s)) (sym is)
        (reads_doing s w d sent q.state (got_on q.steps s) a b
        (passes.reads s w there tt (subst (λ n. ReadsFrom s (worker_at ws n) p.state (got_on p.steps s)) e (j.joins s there).reads))))

  -- a write is called
  module _ (q : ChainPlay) (code : ReturnCode) (are : AreSteps q.steps) (x : WritesPiece g chunk w p q code) where
    abbrev write_step : Step
    write_step = steps.Write g bytes_type x.handle 64 (length x.bytes)

    abbrev write_end : NamedEnd
    write_end = end_named_by g bytes_type x.handle

    abbrev mw : Moment
    mw = moment_at x.mid q write_step (replies.Code code)

    more_there : g + 1 < length ws
    more_there = behind_it p ws g x.handle j l x.has

    is_poked : IsPoked x.bytes x.mid
    is_poked = poked x.bytes x.mid (are_before x.mid q write_step (replies.Code code) x.adds are) more_there x.pokes

    record WriteIsMade : Type 0 where
      look : IsSeen mw x.mid.steps q.steps
      only : NamesOnly mw g AWrite
      steady : Steady g AWrite x.mid.state q.state
      own : is_dropped code ≡ false → told_at q.state g AWrite ≡ told_at x.mid.state g AWrite
      some : (n : ℕ) → code ≡ codes.Completed n → 1 ≤ n
      passes : Passes (length ws) p q (But g) Each
      idle : (stream_at x.mid.state g).writer.operation ≡ None
      writes : WritesOn g w x.mid.state (got_on x.mid.steps g)

    write_is_made : WriteIsMade
    write_is_made =
        let reply = replies.Code code in
        let pk = is_poked in
        let jm = pk.joined in
        let h = (jm.joins g more_there).writes in
        let look = seen x.mid q write_step reply pk.run_mid are x.adds in
        let does = performed x.mid.state (act_of write_step) reply q.state x.adds.reacts refl in
        let resting = x.pokes.rests in
        let owner = h.owner (apart_doing w Nothing Ended resting (λ e. cc)) ∙ held_same g g h.handle x.handle refl (one_handle w.write h.handle x.handle h.has x.has) in
        let names = operate_names x.mid.state AWrite write_end 64 (length x.bytes) g reply look.sound look.holds does.free owner in
        let after = operate_after x.mid.state q.state g AWrite write_end 64 (length x.bytes) code does names.stream (omega (arith, more_there, jm.streams))
        (record { plain = (jm.joins g more_there).reads.plain; kind = kind_is x.mid.state g (jm.joins g more_there).typed; some = x.pokes.some.some }) in
        let poke = steps.Poke g 64 x.bytes in
        let before = seen p x.mid poke replies.Done run (are_before x.mid q write_step reply x.adds are) x.pokes.adds in
        let put = performed p.state (act_of poke) replies.Done x.mid.state x.pokes.adds.reacts refl in
        let old : (stream_at p.state g).writer.operation ≡ None = (j.joins g more_there).writes.idle (apart_doing w Nothing Writing resting (λ e. cc)) in
        let first = poke_passes p x.mid ws poke replies.Done x.pokes.adds j before g (poke_after p.state x.mid.state g 64 x.bytes put) (λ k side. refl) (λ r below. poke_leaves (moment_at p x.mid poke replies.Done) g x.bytes r refl below) old in
        let second = writer_passes x.mid q ws write_step reply x.adds jm look g after.steady (λ r. nothing_put r (put_by (act_of write_step) reply) refl) names.only in
        record {
          look = look;
          only = names.only;
          steady = after.steady;
          own = after.own;
          some = after.some;
          passes = both_pass (length ws) p x.mid q (But g) Each (fewer (length ws) p x.mid Each Each (But g) Each first (λ k _. tt) (λ k _. tt)) second;
          idle = h.idle (apart_doing w Nothing Writing resting (λ e. cc));
          writes = h;
        }

    -- where it completes, it has handed over some
    pub write_some : (n : ℕ) → code ≡ codes.Completed n → 1 ≤ n
    write_some = write_is_made.some

    size_mid : 64 + length x.bytes ≤ length (memory_in x.mid.state.guests g)
    size_mid = omega (arith, is_poked.few, is_poked.joined.room g l)

    -- it waits
    write_turn_waits : (ws' : List Worker) → OneChanged g ws ws' → code ≡ codes.Blocked → worker_at ws' g ≡ record w { doing = Writing } → IsJoined q ws'
    write_turn_waits ws' one blocked is =
        let k = write_is_made in
        let pk = is_poked in
        let put = λ (r : Region). nothing_put r (put_by (act_of write_step) (replies.Code code)) refl in
        let ty = (pk.joined.joins g more_there).typed in
        let old : Sends g 64 w.sent w.made (memory_in x.mid.state.guests g) None (got_on x.mid.steps g) = subst (λ o. Sends g 64 w.sent w.made (memory_in x.mid.state.guests g) o (got_on x.mid.steps g)) k.idle k.writes.sends in
        let own = own_write_waits mw g w.sent w.made (got_on x.mid.steps g) ty (k.only g AWrite ∙ end_itself g AWrite) (k.look.change g AWrite)
        (size_after x.mid q pk.joined write_step (replies.Code code) x.adds k.look put k.only)
        (same_after x.mid q pk.joined write_step (replies.Code code) x.adds k.look put k.only)
        write_end (length x.bytes) refl refl refl old pk.lies pk.within size_mid (ap replies.Code blocked) in
        writer_again q ws' w.sent Writing one more_there k.passes is (apart_doing w Nothing Reading x.pokes.rests (λ e. cc)) (λ e. cc) x.handle x.has (λ e. absurd (let wrong = e in cc))
        (record {
          handle = k.writes.handle;
          has = k.writes.has;
          owner = λ n. k.steady.owner g AWrite ∙ k.writes.owner (apart_doing w Nothing Ended x.pokes.rests (λ e. cc));
          sends = subst (Sends g 64 w.sent w.made (memory_in q.state.guests g) (stream_at q.state g).writer.operation) (sym (k.look.got g)) own.0;
          idle = λ n. absurd (n refl);
          busy = λ n. own.1;
          gone = λ e. absurd (let wrong = e in cc);
          untold = k.own (ap is_dropped blocked) ∙ k.writes.untold;
          over = λ e. absurd (let wrong = e in cc);
        })

    -- it is over at once
    write_turn_serves : (ws' : List Worker) → OneChanged g ws ws' → HandsOver w code (worker_at ws' g) → IsJoined q ws'
    write_turn_serves ws' one h =
        let k = write_is_made in
        let pk = is_poked in
        let put = λ (r : Region). nothing_put r (put_by (act_of write_step) (replies.Code code)) refl in
        let ty = (pk.joined.joins g more_there).typed in
        let old : Sends g 64 w.sent w.made (memory_in x.mid.state.guests g) None (got_on x.mid.steps g) = subst (λ o. Sends g 64 w.sent w.made (memory_in x.mid.state.guests g) o (got_on x.mid.steps g)) k.idle k.writes.sends in
        let own = own_write_serves mw g w.sent w.made (got_on x.mid.steps g) ty (k.only g AWrite ∙ end_itself g AWrite) (k.look.change g AWrite)
        (size_after x.mid q pk.joined write_step (replies.Code code) x.adds k.look put k.only)
        (same_after x.mid q pk.joined write_step (replies.Code code) x.adds k.look put k.only)
        write_end (length x.bytes) refl refl refl old pk.lies pk.within size_mid code (not_blocked code h.count h.ends) refl in
        writer_again q ws' (w.sent + h.count) Nothing one more_there k.passes h.is (apart_doing w Nothing Reading x.pokes.rests (λ e. cc)) (λ e. cc) x.handle x.has (λ e. absurd (let wrong = e in cc))
        (record {
          handle = k.writes.handle;
          has = k.writes.has;
          owner = λ n. k.steady.owner g AWrite ∙ k.writes.owner (apart_doing w Nothing Ended x.pokes.rests (λ e. cc));
          sends = subst (λ c. Sends g 64 (w.sent + c) w.made (memory_in q.state.guests g) (stream_at q.state g).writer.operation (got_on q.steps g)) (ap count_of_code h.ends)
              (subst (Sends g 64 (w.sent + count_of_code code) w.made (memory_in q.state.guests g) (stream_at q.state g).writer.operation) (sym (k.look.got g)) own.0);
          idle = λ n. own.1;
          busy = λ e. absurd (let wrong = e in cc);
          gone = λ e. absurd (let wrong = e in cc);
          untold = k.own (ap is_dropped h.ends) ∙ k.writes.untold;
          over = λ e. absurd (let wrong = e in cc);
        })

  -- what a guest hears of its write
  module _ (q : ChainPlay) (handle : ℕ) (code : Option ReturnCode) (are : AreSteps q.steps) (waits : w.doing ≡ Writing) (has : w.write ≡ Some handle) where
    pub hears_write : Adds p q (steps.Event g handle) (replies.Event code) → Told p.state q.state g AWrite code
    hears_write a =
        let step = steps.Event g handle in
        let reply = replies.Event code in
        let more = behind_it p ws g handle j l has in
        let look = seen p q step reply run are a in
        let does = performed p.state (act_of step) reply q.state a.reacts refl in
        let names = event_names p.state g handle g AWrite reply look.sound look.holds does.free (write_owner handle more (apart_doing w Writing Ended waits (λ e. cc)) has) in
        event_after p.state q.state g handle g AWrite code does names.stream names.on (omega (arith, more, j.streams))

  -- a write that waited is over
  write_turn_settles : (q : ChainPlay) (ws' : List Worker) (code : ReturnCode) → AreSteps q.steps → OneChanged g ws ws' → (x : HearsWrite g w p q code) → HandsOver w code (worker_at ws' g) → IsJoined q ws'
  write_turn_settles q ws' code are one x h =
      let more = behind_it p ws g x.handle j l x.has in
      let step = steps.Event g x.handle in
      let reply = replies.Event (Some code) in
      let look = seen p q step reply run are x.adds in
      let m = moment_at p q step reply in
      let at = j.joins g more in
      let does = performed p.state (act_of step) reply q.state x.adds.reacts refl in
      let names = event_names p.state g x.handle g AWrite reply look.sound look.holds does.free (write_owner x.handle more (apart_doing w Writing Ended x.waits (λ e. cc)) x.has) in
      let after = event_after p.state q.state g x.handle g AWrite (Some code) does names.stream names.on (omega (arith, more, j.streams)) in
      let put = λ (r : Region). nothing_put r (put_by (act_of step) reply) refl in
      let own = own_write_settles m g w.sent w.made (got_on p.steps g) at.typed (names.only g AWrite ∙ end_itself g AWrite) (look.change g AWrite)
      (size_after p q j step reply x.adds look put names.only) (same_after p q j step reply x.adds look put names.only)
      g x.handle code (not_blocked code h.count h.ends) refl refl at.writes.sends in
      writer_again q ws' (w.sent + h.count) Nothing one more (writer_passes p q ws step reply x.adds j look g after.steady put names.only) h.is (apart_doing w Writing Reading x.waits (λ e. cc)) (λ e. cc) x.handle x.has (λ e. absurd (let wrong = e in cc))
      (record {
        handle = at.writes.handle;
        has = at.writes.has;
        owner = λ n. after.steady.owner g AWrite ∙ at.writes.owner (apart_doing w Writing Ended x.waits (λ e. cc));
        sends = subst (λ c. Sends g 64 (w.sent + c) w.made (memory_in q.state.guests g) (stream_at q.state g).writer.operation (got_on q.steps g)) (ap count_of_code h.ends)
            (subst (Sends g 64 (w.sent + count_of_code code) w.made (memory_in q.state.guests g) (stream_at q.state g).writer.operation) (sym (look.got g)) own.0);
        idle = λ n. own.1;
        busy = λ e. absurd (let wrong = e in cc);
        gone = λ e. absurd (let wrong = e in cc);
        untold = after.own code refl (ap is_dropped h.ends) ∙ at.writes.untold;
        over = λ e. absurd (let wrong = e in cc);
      })

  -- the guest drops its write end
  drop_turn : (q : ChainPlay) (ws' : List Worker) → AreSteps q.steps → OneChanged g ws ws' → Drops g w p (worker_at ws' g) q → IsJoined q ws'
  drop_turn q ws' are one x =
      let more = behind_it p ws g x.handle j l x.has in
      let step = steps.DropWrite g bytes_type x.handle in
      let end = end_named_by g bytes_type x.handle in
      let look = seen p q step replies.Done run are x.adds in
      let m = moment_at p q step replies.Done in
      let at = j.joins g more in
      let does = performed p.state (act_of step) replies.Done q.state x.adds.reacts refl in
      let names = drop_names p.state AWrite end g replies.Done look.sound look.holds does.free (write_owner x.handle more (apart_doing w Nothing Ended x.rests (λ e. cc)) x.has) in
      let after = drop_after p.state q.state g end does names.stream (omega (arith, more, j.streams)) in
      let put = λ (r : Region). nothing_put r (put_by (act_of step) replies.Done) refl in
      let idle = at.writes.idle (apart_doing w Nothing Writing x.rests (λ e. cc)) in
      let own = dropped_sends m g w.sent w.made (got_on p.steps g) refl (names.only g AWrite ∙ end_itself g AWrite) (look.change g AWrite) at.writes.sends idle in
      writer_again q ws' w.sent Ended one more (drop_passes p q ws step replies.Done x.adds j look g after put names.only) x.is (apart_doing w Nothing Reading x.rests (λ e. cc)) (λ e. cc) x.handle x.has (λ e. x.closed)
      (record {
        handle = at.writes.handle;
        has = at.writes.has;
        owner = λ n. absurd (n refl);
        sends = subst (Sends g 64 w.sent w.made (memory_in q.state.guests g) (stream_at q.state g).writer.operation) (sym (look.got g)) own.0;
        idle = λ n. own.1;
        busy = λ e. absurd (let wrong = e in cc);
        gone = λ e. ap is_gone after.gone;
        untold = after.told g AWrite ∙ at.writes.untold;
        over = λ e. (x.closed, omega (arith, x.all, at.writes.sends.within));
      })

  -- ## Any turn

  -- the guest hears nothing of its operation
  idle_turn : (q : ChainPlay) (ws' : List Worker) → AreSteps q.steps → OneChanged g ws ws' → HearsNone g w p q → worker_at ws' g ≡ w → IsJoined q ws'
  idle_turn q ws' are one x is =
      let step = steps.Event g x.handle in
      let reply = replies.Event None in
      let look = seen p q step reply run are x.hears in
      let same = event_none p.state q.state g x.handle (performed p.state (act_of step) reply q.state x.hears.reacts refl) in
      joined_same p q ws ws' g j one is (same_passes (length ws) p q step reply look same (frame_of p ws j))

  pub turn_joined : (q : ChainPlay) (ws' : List Worker) (turn : ChainTurn) → AreSteps q.steps → OneChanged g ws ws' → Turned g chunk w p turn (worker_at ws' g) q → IsJoined q ws'
  turn_joined q ws' turn are one (Rests t e is same) =
      joined_same p q ws ws' g j one is (subst (λ x. Passes (length ws) p x Each Each) (sym same) (none_pass (length ws) p (frame_of p ws j)))
  turn_joined q ws' turn are one (Waits t is x) = idle_turn q ws' are one x is
  turn_joined q ws' turn are one (ReadOpens t x is) = wait_turn p ws g chunk j l run most q ws' are one x is
  turn_joined q ws' turn are one (ReadServes mid code t x y) =
      let step = steps.Read g bytes_type x.handle 0 chunk in
      let before = are_before mid q (steps.Dump g 0 (count_of_code code)) (replies.Bytes y.bytes) y.dumps are in
      let b = before_it p ws g x.handle j l x.has in
      read_turn p ws g chunk j l run most mid q ws' code x.handle are before (run_before p mid step (replies.Code code) x.adds run before) one x.has
      (apart_doing w Nothing Ended x.rests (λ e. cc)) (apart_doing w Nothing Writing x.rests (λ e. cc)) y b
      (read_serves p ws g chunk j l run most mid (g - 1) before b code (unblocked code y.ends) x)
  turn_joined q ws' turn are one (ReadSettles mid code t x y) =
      let step = steps.Event g x.handle in
      let before = are_before mid q (steps.Dump g 0 (count_of_code code)) (replies.Bytes y.bytes) y.dumps are in
      let b = before_it p ws g x.handle j l x.has in
      read_turn p ws g chunk j l run most mid q ws' code x.handle are before (run_before p mid step (replies.Event (Some code)) x.adds run before) one x.has
      (apart_doing w Reading Ended x.waits (λ e. cc)) (apart_doing w Reading Writing x.waits (λ e. cc)) y b
      (read_settles p ws g chunk j l run most mid (g - 1) before b code (unblocked code y.ends) x)
  turn_joined q ws' turn are one (WriteOpens t x is) = write_turn_waits q codes.Blocked are x ws' one refl is
  turn_joined q ws' turn are one (WriteServes code t x h) = write_turn_serves q code are x ws' one h
  turn_joined q ws' turn are one (WriteSettles code t x h) = write_turn_settles q ws' code are one x h
  turn_joined q ws' turn are one (Ends t x) = drop_turn q ws' are one x
