-- A turn in which a guest reads, or hears of its read, leaves a chain joined.
use Rattle.std.proofs.Common.{◌≡◌, ◌≢◌, ℕ, ◌+◌, ◌-◌, ◌<◌, ◌≤◌, true, false, List, length, Option, Some, None, refl, sym, ap, ◌∙◌, subst, inl, inr, arith}
use Rattle.std.proofs.lemmas.Bool.{cases_eq, cases_lt}
use Rattle.strm_codes.specs.Codes.{count_of_code}
use Rattle.strm_codes.specs.declared.codes.ReturnCode.{ReturnCode}
use Rattle.strm_codes.specs.declared.codes.ReturnCode.TheVariants as codes
use Rattle.strm_machine.specs.State.{memory_in, stream_at, is_gone}
use Rattle.strm_machine.specs.Acts.{act_of, end_named_by}
use Rattle.strm_machine.specs.Moments.{is_named}
use Rattle.strm_machine.specs.Untouched.{put_by}
use Rattle.strm_machine.specs.declared.streams.Side.TheVariants.{Writing as AWrite, Reading as ARead}
use Rattle.strm_machine.specs.declared.streams.Owner.TheVariants.{Held}
use Rattle.strm_machine.specs.declared.acts.NamedEnd.{NamedEnd}
use Rattle.strm_machine.specs.declared.steps.Step.{Step}
use Rattle.strm_machine.specs.declared.steps.Step.TheVariants as steps
use Rattle.strm_machine.specs.declared.replies.Reply.{Reply}
use Rattle.strm_machine.specs.declared.replies.Reply.TheVariants as replies
use Rattle.strm_machine.proofs.NamedEndLemmas.{end_itself}
use Rattle.strm_laws.specs.Laws.{AreSteps}
use Rattle.strm_chain.specs.declared.workers.Worker.{Worker}
use Rattle.strm_chain.specs.declared.workers.Doing.TheVariants.{Nothing, Reading, Writing, Ended}
use Rattle.strm_chain.specs.Stages.{work_begun}
use Rattle.strm_chain.specs.Playing.{ChainPlay, Adds, bytes_type}
use Rattle.strm_chain.specs.Flowing.{got_on}
use Rattle.strm_chain.specs.Linking.{Takes, Arrived}
use Rattle.strm_chain.specs.Measuring.{taken_in_bytes}
use Rattle.strm_chain.specs.Keeping.{worker_at, sink_of, WritesOn, ReadsFrom, IsJoined}
use Rattle.strm_chain.specs.Turned.{Reads, HearsRead, TakesIn}
use Rattle.strm_chain.proofs.RegionLemmas.{nothing_put}
use Rattle.strm_chain.proofs.MomentLemmas.{IsRunOf, IsSeen, moved_within, moment_at, seen}
use Rattle.strm_chain.proofs.NamingLemmas.{performed, operate_names, event_names}
use Rattle.strm_chain.proofs.AfterLemmas.{Told, operate_after, event_after, told_some, told_gone}
use Rattle.strm_chain.proofs.StayLemmas.{kind_is}
use Rattle.strm_chain.proofs.JoinedLemmas.{Passes, Each, But, reader_passes, fewer, both_pass, SamePart, OneChanged, joined_again}
use Rattle.strm_chain.proofs.OwnLemmas.{own_read_waits, own_read_serves, own_read_settles}
use Rattle.strm_chain.proofs.TurnedLemmas.{apart_doing, held_same, one_handle, no_handle, writes_doing, Arrives, dump_passes, dump_reads, writes_taken, part_taken}

-- ## The two ends of a guest

-- the stream that a guest with a read end reads from
pub record BeforeIt (ws : List Worker) (g s : ℕ) : Type 0 where
  pub is : g ≡ s + 1
  pub there : s + 1 < length ws

pub before_it : (p : ChainPlay) (ws : List Worker) (g handle : ℕ) → IsJoined p ws → g < length ws → (worker_at ws g).read ≡ Some handle → BeforeIt ws g (g - 1)
before_it p ws g handle j l has =
    let some : g ≢ 0 = λ e. no_handle (worker_at ws 0).read handle j.source.0 (ap (λ n. (worker_at ws n).read) (sym e) ∙ has) in
    let more : 0 < g = elim (cases_lt 0 g) [ inl x ↦ x | inr x ↦ absurd (some (omega (arith, x))) ] in
    record { is = omega (arith, more); there = omega (arith, more, l) }

-- a guest with a write end is not the last one
pub behind_it : (p : ChainPlay) (ws : List Worker) (g handle : ℕ) → IsJoined p ws → g < length ws → (worker_at ws g).write ≡ Some handle → g + 1 < length ws
behind_it p ws g handle j l has =
    elim (cases_eq g (length ws - 1)) [
      | inl e ↦ absurd (no_handle (sink_of ws).write handle j.sink.write (ap (λ n. (worker_at ws n).write) (sym e) ∙ has))
      | inr ne ↦ elim (cases_lt (g + 1) (length ws)) [ inl x ↦ x | inr x ↦ absurd (ne (omega (arith, x, l))) ]
    ]

-- what a turn of a guest that reads needs to know of the chain
module _ (p : ChainPlay) (ws : List Worker) (g chunk : ℕ) (j : IsJoined p ws) (l : g < length ws) (run : IsRunOf p) (most : chunk ≤ 64) where
  abbrev w : Worker
  w = worker_at ws g

  pub own_reads : (s : ℕ) → BeforeIt ws g s → ReadsFrom s w p.state (got_on p.steps s)
  own_reads s b = subst (λ n. ReadsFrom s (worker_at ws n) p.state (got_on p.steps s)) (sym b.is) (j.joins s b.there).reads

  pub read_owner : (s handle : ℕ) → BeforeIt ws g s → w.read ≡ Some handle → (stream_at p.state s).reader.owner ≡ Held g handle
  read_owner s handle b has =
      let r = own_reads s b in
      r.owner ∙ held_same g (s + 1) r.handle handle (sym b.is) (one_handle w.read r.handle handle r.has has)

  -- ## Reads

  -- a read or event of the guest that is over: all other links stay, and its bytes wait to be dumped
  pub record ReadIsOver (mid : ChainPlay) (s : ℕ) (code : ReturnCode) : Type 0 where
    pub passes : Passes (length ws) p mid Each (But s)
    pub arrives : Arrives s w code mid.state (got_on mid.steps s)
    pub taken : taken_in_bytes p.state s + count_of_code code ≤ taken_in_bytes mid.state s
    pub some : (n : ℕ) → code ≡ codes.Completed n → 1 ≤ n

  module _ (mid : ChainPlay) (s : ℕ) (are : AreSteps mid.steps) (b : BeforeIt ws g s) where
    abbrev call : ℕ → Step
    call handle = steps.Read g bytes_type handle 0 chunk

    abbrev end_at : ℕ → NamedEnd
    end_at handle = end_named_by g bytes_type handle

    room_after : (step : Step) (reply : Reply) → IsSeen (moment_at p mid step reply) p.steps mid.steps → length (memory_in mid.state.guests (s + 1)) ≡ 8192
    room_after step reply x = x.aside.size (s + 1) (omega (arith, b.there, j.guests)) ∙ j.room (s + 1) b.there

    -- a read that waits
    read_waits : (x : Reads g chunk w p mid codes.Blocked) → Passes (length ws) p mid Each (But s) × ReadsFrom s (record w { doing = Reading }) mid.state (got_on mid.steps s)
    read_waits x =
        let step = call x.handle in
        let reply = replies.Code codes.Blocked in
        let look = seen p mid step reply run are x.adds in
        let m = moment_at p mid step reply in
        let r = own_reads s b in
        let ty = (j.joins s b.there).typed in
        let does = performed p.state (act_of step) reply mid.state x.adds.reacts refl in
        let names = operate_names p.state ARead (end_at x.handle) 0 chunk s reply look.sound look.holds does.free (read_owner s x.handle b x.has) in
        let named : is_named s ARead m ≡ true = names.only s ARead ∙ end_itself s ARead in
        let there : s < length p.state.streams = omega (arith, b.there, j.streams) in
        let after = operate_after p.state mid.state s ARead (end_at x.handle) 0 chunk codes.Blocked does names.stream there (record { plain = r.plain; kind = kind_is p.state s ty; some = x.some }) in
        let idle : (stream_at p.state s).reader.operation ≡ None = r.idle (apart_doing w Nothing Reading x.rests (λ e. cc)) in
        let own = own_read_waits m s (work_begun w.work.stage) w.work w.made (got_on p.steps s) ty named (look.change s ARead) (room_after step reply look)
        (end_at x.handle) chunk refl b.is refl most refl
        (subst (λ o. Takes (s + 1) 0 (work_begun w.work.stage) w.work w.made (memory_in p.state.guests (s + 1)) o (got_on p.steps s)) idle r.takes) in (
          reader_passes p mid ws step reply x.adds j look s after.steady (λ q. nothing_put q (put_by (act_of step) reply) refl) names.only own.1,
          record {
            handle = r.handle;
            has = r.has;
            owner = after.steady.owner s ARead ∙ r.owner;
            takes = subst (Takes (s + 1) 0 (work_begun w.work.stage) w.work w.made (memory_in mid.state.guests (s + 1)) (stream_at mid.state s).reader.operation) (sym (look.got s)) own.0;
            idle = λ n. absurd (n refl);
            busy = λ e. own.2;
            unclosed = λ e. x.unclosed;
            untold = λ c. after.own refl ∙ r.untold c;
            plain = after.steady.plain s r.plain;
            gone = λ c. ap is_gone (after.steady.owner s AWrite) ∙ r.gone c;
          },
        )

    -- a read that is over at once
    pub read_serves : (code : ReturnCode) → code ≢ codes.Blocked → (x : Reads g chunk w p mid code) → ReadIsOver mid s code
    read_serves code ne x =
        let step = call x.handle in
        let reply = replies.Code code in
        let look = seen p mid step reply run are x.adds in
        let m = moment_at p mid step reply in
        let r = own_reads s b in
        let ty = (j.joins s b.there).typed in
        let does = performed p.state (act_of step) reply mid.state x.adds.reacts refl in
        let names = operate_names p.state ARead (end_at x.handle) 0 chunk s reply look.sound look.holds does.free (read_owner s x.handle b x.has) in
        let named : is_named s ARead m ≡ true = names.only s ARead ∙ end_itself s ARead in
        let there : s < length p.state.streams = omega (arith, b.there, j.streams) in
        let after = operate_after p.state mid.state s ARead (end_at x.handle) 0 chunk code does names.stream there (record { plain = r.plain; kind = kind_is p.state s ty; some = x.some }) in
        let idle : (stream_at p.state s).reader.operation ≡ None = r.idle (apart_doing w Nothing Reading x.rests (λ e. cc)) in
        let own = own_read_serves m s (work_begun w.work.stage) w.work w.made (got_on p.steps s) ty named (look.change s ARead) (room_after step reply look)
        (end_at x.handle) chunk refl b.is refl most code ne refl
        (subst (λ o. Takes (s + 1) 0 (work_begun w.work.stage) w.work w.made (memory_in p.state.guests (s + 1)) o (got_on p.steps s)) idle r.takes) in
        record {
          passes = reader_passes p mid ws step reply x.adds j look s after.steady (λ q. nothing_put q (put_by (act_of step) reply) refl) names.only own.low;
          arrives = record {
            handle = r.handle;
            has = r.has;
            owner = after.steady.owner s ARead ∙ r.owner;
            arrived = subst (Arrived 0 (count_of_code code) (work_begun w.work.stage) w.work w.made (memory_in mid.state.guests (s + 1))) (sym (look.got s)) own.arrived;
            none = own.none;
            few = own.few;
            plain = after.steady.plain s r.plain;
            gone = λ d. ap is_gone (after.steady.owner s AWrite) ∙ after.only d;
            untold = λ d. after.own d ∙ r.untold x.unclosed;
          };
          taken = own.taken;
          some = after.some;
        }

    -- a read that waited is over
    pub read_settles : (code : ReturnCode) → code ≢ codes.Blocked → (x : HearsRead g w p mid code) → ReadIsOver mid s code
    read_settles code ne x =
        let step = steps.Event g x.handle in
        let reply = replies.Event (Some code) in
        let look = seen p mid step reply run are x.adds in
        let m = moment_at p mid step reply in
        let r = own_reads s b in
        let ty = (j.joins s b.there).typed in
        let does = performed p.state (act_of step) reply mid.state x.adds.reacts refl in
        let names = event_names p.state g x.handle s ARead reply look.sound look.holds does.free (read_owner s x.handle b x.has) in
        let named : is_named s ARead m ≡ true = names.only s ARead ∙ end_itself s ARead in
        let there : s < length p.state.streams = omega (arith, b.there, j.streams) in
        let after = event_after p.state mid.state g x.handle s ARead (Some code) does names.stream names.on there in
        let own = own_read_settles m s (work_begun w.work.stage) w.work w.made (got_on p.steps s) ty named (look.change s ARead) (room_after step reply look)
        g x.handle code ne refl refl (ap (λ xs. memory_in xs (s + 1)) after.guests) (moved_within p s run) r.takes in
        record {
          passes = reader_passes p mid ws step reply x.adds j look s after.steady (λ q. nothing_put q (put_by (act_of step) reply) refl) names.only own.low;
          arrives = record {
            handle = r.handle;
            has = r.has;
            owner = after.steady.owner s ARead ∙ r.owner;
            arrived = subst (Arrived 0 (count_of_code code) (work_begun w.work.stage) w.work w.made (memory_in mid.state.guests (s + 1))) (sym (look.got s)) own.arrived;
            none = own.none;
            few = own.few;
            plain = after.steady.plain s r.plain;
            gone = λ d. ap is_gone (after.steady.owner s AWrite) ∙ told_gone p.state mid.state s code after (kind_is p.state s ty) r.plain.1 d;
            untold = λ d. after.own code refl d ∙ r.untold (r.unclosed x.waits);
          };
          taken = own.taken;
          some = told_some p.state mid.state s ARead code after (kind_is p.state s ty) r.plain;
        }

  -- what a guest hears of its read
  module _ (q : ChainPlay) (s handle : ℕ) (code : Option ReturnCode) (are : AreSteps q.steps) (b : BeforeIt ws g s) (has : w.read ≡ Some handle) where
    pub hears_read : Adds p q (steps.Event g handle) (replies.Event code) → Told p.state q.state s ARead code
    hears_read a =
        let step = steps.Event g handle in
        let reply = replies.Event code in
        let look = seen p q step reply run are a in
        let does = performed p.state (act_of step) reply q.state a.reacts refl in
        let names = event_names p.state g handle s ARead reply look.sound look.holds does.free (read_owner s handle b has) in
        event_after p.state q.state g handle s ARead code does names.stream names.on (omega (arith, b.there, j.streams))

  -- the turn of a guest whose read is over
  module _ (mid q : ChainPlay) (ws' : List Worker) (code : ReturnCode) (handle : ℕ) where
    pub read_turn : AreSteps q.steps → AreSteps mid.steps → IsRunOf mid → OneChanged g ws ws' → w.read ≡ Some handle → w.doing ≢ Ended → w.doing ≢ Writing → TakesIn g w code mid (worker_at ws' g) q → BeforeIt ws g (g - 1) → ReadIsOver mid (g - 1) code → IsJoined q ws'
    read_turn are are_mid run_mid one has a c x b over =
        let s = g - 1 in
        let w' = worker_at ws' g in
        let frame = over.passes.frame in
        let dump = dump_passes mid q (length ws) s g w w' code b.is run_mid are frame x in
        let all = both_pass (length ws) p mid q Each (But s) over.passes (fewer (length ws) mid q Each Each Each (But s) dump (λ k _. tt) (λ k _. tt)) in
        joined_again p q ws ws' g j one (part_taken g handle w w' code mid q x has)
        (fewer (length ws) p q Each (But s) (But g) (λ k. k + 1 ≢ g) all (λ k _. tt) (λ k ne f. ne (ap (λ n. n + 1) f ∙ sym b.is)))
        (λ more. writes_taken g w w' code mid q q.state (got_on q.steps g) x a c (all.writes g w more tt (j.joins g more).writes))
        (λ k more f.
        let same : k ≡ s = omega (arith, f) in
        subst (λ n. ReadsFrom n w' q.state (got_on q.steps n)) (sym same) (dump_reads mid q (length ws) s g w w' code b.is run_mid are frame x over.arrives))

  -- the turn of a guest whose read waits
  pub wait_turn : (q : ChainPlay) (ws' : List Worker) → AreSteps q.steps → OneChanged g ws ws' → (x : Reads g chunk w p q codes.Blocked) → worker_at ws' g ≡ record w { doing = Reading } → IsJoined q ws'
  wait_turn q ws' are one x is =
      let s = g - 1 in
      let b = before_it p ws g x.handle j l x.has in
      let waits = read_waits q s are b x in
      let v : Worker = record w { doing = Reading } in
      joined_again p q ws ws' g j one
      (subst (SamePart w) (sym is) (record {
        read = refl;
        write = refl;
        stage = refl;
        source = λ none. absurd (no_handle w.read x.handle none x.has);
        unreading = λ none. absurd (no_handle w.read x.handle none x.has);
        sink = λ k. record {
          write = k.write;
          copies = k.copies;
          ends = λ f. absurd (let wrong = f in cc);
          ended = λ c. absurd (let wrong : false ≡ true = sym x.unclosed ∙ c in cc);
          unwriting = λ f. let wrong : Reading ≡ Writing = f in cc;
        };
      }))
      (fewer (length ws) p q Each (But s) (But g) (λ k. k + 1 ≢ g) waits.0 (λ k _. tt) (λ k ne f. ne (ap (λ n. n + 1) f ∙ sym b.is)))
      (λ more. subst (λ u. WritesOn g u q.state (got_on q.steps g)) (sym is)
      (writes_doing g w Reading q.state (got_on q.steps g) (apart_doing w Nothing Ended x.rests (λ e. cc)) (apart_doing w Nothing Writing x.rests (λ e. cc)) (λ e. cc) (λ e. cc)
      (waits.0.writes g w more tt (j.joins g more).writes)))
      (λ k more f.
      let same : k ≡ s = omega (arith, f) in
      subst (λ n. ReadsFrom n (worker_at ws' g) q.state (got_on q.steps n)) (sym same)
      (subst (λ u. ReadsFrom s u q.state (got_on q.steps s)) (sym is) waits.1))
