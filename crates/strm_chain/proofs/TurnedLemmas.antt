-- A turn leaves a chain joined, whatever its guest did in it.
use Rattle.std.proofs.Common.{◌≡◌, ◌≢◌, ℕ, ◌+◌, ◌≤◌, min, true, false, Bool, List, ◌++◌, take, drop, Option, Some, None, refl, sym, ap, ◌∙◌, subst, arith}
use Rattle.std.proofs.lemmas.List.{take-append-le, length-append}
use Rattle.strm_codes.specs.Codes.{count_of_code}
use Rattle.strm_codes.specs.declared.codes.ReturnCode.{ReturnCode}
use Rattle.strm_codes.specs.declared.codes.ReturnCode.TheVariants as codes
use Rattle.strm_events.specs.Reports.{is_dropped}
use Rattle.strm_memory.specs.Bytes.{bytes_at}
use Rattle.strm_machine.specs.State.{State, memory_in, stream_at, is_gone}
use Rattle.strm_machine.specs.Acts.{act_of}
use Rattle.strm_machine.specs.Moments.{moved_of}
use Rattle.strm_machine.specs.declared.streams.Operation.{Operation}
use Rattle.strm_machine.specs.declared.streams.Owner.TheVariants.{Held}
use Rattle.strm_machine.specs.declared.steps.Step.{Step}
use Rattle.strm_machine.specs.declared.steps.Step.TheVariants as steps
use Rattle.strm_machine.specs.declared.replies.Reply.TheVariants as replies
use Rattle.strm_laws.specs.Laws.{AreSteps}
use Rattle.strm_chain.specs.declared.workers.Worker.{Worker}
use Rattle.strm_chain.specs.declared.workers.Doing.{Doing}
use Rattle.strm_chain.specs.declared.workers.Doing.TheVariants.{Nothing, Reading, Writing, Ended}
use Rattle.strm_chain.specs.Stages.{work_begun, work_left, work_done}
use Rattle.strm_chain.specs.Playing.{ChainPlay}
use Rattle.strm_chain.specs.Flowing.{as_items, got_on}
use Rattle.strm_chain.specs.Linking.{Sends, Takes, Arrived, OffersIf}
use Rattle.strm_chain.specs.Keeping.{Items, ArePlain, WritesOn, ReadsFrom}
use Rattle.strm_chain.specs.Turned.{after_read, EndsRead, WithMore, WithLast, TakesIn}
use Rattle.strm_chain.proofs.StageLemmas.{work_left-stage}
use Rattle.strm_chain.proofs.LinkLemmas.{takes_arrived}
use Rattle.strm_chain.proofs.MomentLemmas.{IsRunOf, IsSeen, moment_at, seen}
use Rattle.strm_chain.proofs.NamingLemmas.{performed}
use Rattle.strm_chain.proofs.AfterLemmas.{dump_after}
use Rattle.strm_chain.proofs.JoinedLemmas.{Frame, Passes, Each, got_same, same_passes, SamePart}

-- ## Guests with one thing changed

pub apart_doing : (w : Worker) (a b : Doing) → w.doing ≡ a → a ≢ b → w.doing ≢ b
apart_doing w a b e ne f = ne (sym e ∙ f)

pub held_same : (g k h i : ℕ) → k ≡ g → h ≡ i → Held k h ≡ Held g i
held_same g k h i e f = ap (λ n. Held n h) e ∙ ap (Held g) f

pub one_handle : (o : Option ℕ) (h i : ℕ) → o ≡ Some h → o ≡ Some i → h ≡ i
one_handle o h i e f = let same : Some h ≡ Some i = sym e ∙ f in cc

pub no_handle : {A : Type 0} (o : Option A) (x : A) → o ≡ None → o ≡ Some x → ⊥
no_handle o x e f = let wrong : None ≡ Some x = sym e ∙ f in cc

-- what a guest has put out may grow
offers_longer : (g at sent : ℕ) (made more memory : List ℕ) (o : Option Operation) → OffersIf g at sent made memory o → o ≡ None → OffersIf g at sent (made ++ more) memory o
offers_longer g at sent made more memory None f e = tt
offers_longer g at sent made more memory (Some o) f e = absurd (let wrong = e in cc)

sends_longer : (g at sent : ℕ) (made more memory : List ℕ) (o : Option Operation) (got : Items) → Sends g at sent made memory o got → o ≡ None → Sends g at sent (made ++ more) memory o got
sends_longer g at sent made more memory o got t e = record {
  front = t.front ∙ ap as_items (sym (take-append-le (sent + moved_of o) made more t.within));
  within = omega (arith, t.within, length-append made more);
  offers = offers_longer g at sent made more memory o t.offers e;
}

-- a guest that has no operation, or begins a read or a write, writes on as before
pub writes_doing : (g : ℕ) (w : Worker) (d : Doing) (state : State) (got : Items) → w.doing ≢ Ended → w.doing ≢ Writing → d ≢ Ended → d ≢ Writing → WritesOn g w state got → WritesOn g (record w { doing = d }) state got
writes_doing g w d state got a b c ne h = record {
  handle = h.handle;
  has = h.has;
  owner = λ n. h.owner a;
  sends = h.sends;
  idle = λ n. h.idle b;
  busy = λ e. absurd (ne e);
  gone = λ e. absurd (c e);
  untold = h.untold;
  over = λ e. absurd (c e);
}

-- the same of a guest that reads
pub reads_doing : (s : ℕ) (w : Worker) (d : Doing) (sent : ℕ) (state : State) (got : Items) → w.doing ≢ Reading → d ≢ Reading → ReadsFrom s w state got → ReadsFrom s (record w { doing = d; sent = sent }) state got
reads_doing s w d sent state got a ne h = record {
  handle = h.handle;
  has = h.has;
  owner = h.owner;
  takes = h.takes;
  idle = λ n. h.idle a;
  busy = λ e. absurd (ne e);
  unclosed = λ e. absurd (ne e);
  untold = h.untold;
  plain = h.plain;
  gone = h.gone;
}

-- ## A read that is over

-- a read of guest s + 1 is over with this code, and its bytes wait to be dumped
pub record Arrives (s : ℕ) (w : Worker) (code : ReturnCode) (state : State) (got : Items) : Type 0 where
  pub handle : ℕ
  pub has : w.read ≡ Some handle
  pub owner : (stream_at state s).reader.owner ≡ Held (s + 1) handle
  pub arrived : Arrived 0 (count_of_code code) (work_begun w.work.stage) w.work w.made (memory_in state.guests (s + 1)) got
  pub none : (stream_at state s).reader.operation ≡ None
  pub few : count_of_code code ≤ 64
  pub gone : is_dropped code ≡ true → is_gone (stream_at state s).writer.owner ≡ true
  pub plain : ArePlain (stream_at state s)
  pub untold : is_dropped code ≡ false → (stream_at state s).reader.told ≡ false

pub unblocked : (code : ReturnCode) → EndsRead code → code ≢ codes.Blocked
unblocked code (WithMore e) f = let wrong : codes.Blocked ≡ codes.Completed (count_of_code code) = sym f ∙ e in cc
unblocked code (WithLast e) f = let wrong : codes.Blocked ≡ codes.Dropped (count_of_code code) = sym f ∙ e in cc

-- a guest whose read is over does not read
after_unread : (write : Option ℕ) (dropped : Bool) → after_read write dropped ≡ Reading → ⊥
after_unread None true e = cc
after_unread None false e = cc
after_unread (Some h) dropped e = cc

after_unwriting : (write : Option ℕ) (dropped : Bool) → after_read write dropped ≡ Writing → ⊥
after_unwriting None true e = cc
after_unwriting None false e = cc
after_unwriting (Some h) dropped e = cc

-- the dump of its bytes, which its stage takes
module _ (p q : ChainPlay) (count s g : ℕ) (w w' : Worker) (code : ReturnCode) (e : g ≡ s + 1) (run : IsRunOf p) (are : AreSteps q.steps) (frame : Frame count p.state)
    (x : TakesIn g w code p w' q) where
  abbrev dump_step : Step
  dump_step = steps.Dump g 0 (count_of_code code)

  dump_seen : IsSeen (moment_at p q dump_step (replies.Bytes x.bytes)) p.steps q.steps
  dump_seen = seen p q dump_step (replies.Bytes x.bytes) run are x.dumps

  dumped : (q.state ≡ p.state) × (x.bytes ≡ take (min (count_of_code code) 64) (drop 0 (memory_in p.state.guests g)))
  dumped = dump_after p.state q.state g 0 (count_of_code code) x.bytes (performed p.state (act_of dump_step) (replies.Bytes x.bytes) q.state x.dumps.reacts refl)

  pub dump_passes : Passes count p q Each Each
  dump_passes = same_passes count p q dump_step (replies.Bytes x.bytes) dump_seen dumped.0 frame

  pub dump_reads : Arrives s w code p.state (got_on p.steps s) → ReadsFrom s w' q.state (got_on q.steps s)
  dump_reads h =
      let memory = memory_in p.state.guests (s + 1) in
      let bytes_are : x.bytes ≡ bytes_at memory 0 (count_of_code code) =
      dumped.1 ∙ ap (λ n. take (min (count_of_code code) 64) (drop 0 (memory_in p.state.guests n))) e ∙ ap (λ n. take n (drop 0 memory)) (omega (arith, h.few)) in
      let v : Worker = record w {
        work = work_left w.work x.bytes;
        made = w.made ++ work_done w.work x.bytes;
        doing = after_read w.write (is_dropped code);
        closed = is_dropped code;
      } in
      let taken : Takes (s + 1) 0 (work_begun w.work.stage) (work_left w.work x.bytes) (w.made ++ work_done w.work x.bytes) memory None (got_on p.steps s) =
      subst (λ b. Takes (s + 1) 0 (work_begun w.work.stage) (work_left w.work b) (w.made ++ work_done w.work b) memory None (got_on p.steps s)) (sym bytes_are)
      (takes_arrived (s + 1) 0 (count_of_code code) (work_begun w.work.stage) w.work w.made memory memory (got_on p.steps s) h.arrived) in
      let there : ReadsFrom s v p.state (got_on p.steps s) = record {
        handle = h.handle;
        has = h.has;
        owner = h.owner;
        takes = subst (λ stage. Takes (s + 1) 0 (work_begun stage) (work_left w.work x.bytes) (w.made ++ work_done w.work x.bytes) memory (stream_at p.state s).reader.operation (got_on p.steps s)) (sym (work_left-stage w.work x.bytes))
            (subst (λ o. Takes (s + 1) 0 (work_begun w.work.stage) (work_left w.work x.bytes) (w.made ++ work_done w.work x.bytes) memory o (got_on p.steps s)) (sym h.none) taken);
        idle = λ n. h.none;
        busy = λ f. absurd (after_unread w.write (is_dropped code) f);
        unclosed = λ f. absurd (after_unread w.write (is_dropped code) f);
        untold = h.untold;
        plain = h.plain;
        gone = h.gone;
      } in
      subst (λ u. ReadsFrom s u q.state (got_on q.steps s)) (sym x.is)
      (subst (ReadsFrom s v q.state) (sym (got_same p q dump_step (replies.Bytes x.bytes) s dump_seen dumped.0))
      (subst (λ st. ReadsFrom s v st (got_on p.steps s)) (sym dumped.0) there))

-- its write end is as before, with more to write
pub writes_taken : (g : ℕ) (w w' : Worker) (code : ReturnCode) (p q : ChainPlay) (state : State) (got : Items) → TakesIn g w code p w' q → w.doing ≢ Ended → w.doing ≢ Writing → WritesOn g w state got → WritesOn g w' state got
writes_taken g w w' code p q state got x a b h =
    let v : Worker = record w {
      work = work_left w.work x.bytes;
      made = w.made ++ work_done w.work x.bytes;
      doing = after_read w.write (is_dropped code);
      closed = is_dropped code;
    } in
    let resting : after_read w.write (is_dropped code) ≡ Nothing = ap (λ o. after_read o (is_dropped code)) h.has in
    let there : WritesOn g v state got = record {
      handle = h.handle;
      has = h.has;
      owner = λ n. h.owner a;
      sends = sends_longer g 64 w.sent w.made (work_done w.work x.bytes) (memory_in state.guests g) (stream_at state g).writer.operation got h.sends (h.idle b);
      idle = λ n. h.idle b;
      busy = λ f. absurd (let wrong : Nothing ≡ Writing = sym resting ∙ f in cc);
      gone = λ f. absurd (let wrong : Nothing ≡ Ended = sym resting ∙ f in cc);
      untold = h.untold;
      over = λ f. absurd (let wrong : Nothing ≡ Ended = sym resting ∙ f in cc);
    } in
    subst (λ u. WritesOn g u state got) (sym x.is) there

sink_ends : (write : Option ℕ) (dropped : Bool) → after_read write dropped ≡ Ended → dropped ≡ true
sink_ends None true e = refl
sink_ends None false e = cc
sink_ends (Some h) dropped e = cc

sink_over : (write : Option ℕ) (dropped : Bool) → write ≡ None → dropped ≡ true → after_read write dropped ≡ Ended
sink_over None true e d = refl
sink_over None false e d = cc
sink_over (Some h) dropped e d = absurd (let wrong = e in cc)

pub part_taken : (g handle : ℕ) (w w' : Worker) (code : ReturnCode) (p q : ChainPlay) → TakesIn g w code p w' q → w.read ≡ Some handle → SamePart w w'
part_taken g handle w w' code p q x has =
    subst (SamePart w) (sym x.is) (record {
      read = refl;
      write = refl;
      stage = work_left-stage w.work x.bytes;
      source = λ none. absurd (no_handle w.read handle none has);
      unreading = λ none. absurd (no_handle w.read handle none has);
      sink = λ k. record { write = k.write; copies = work_left-stage w.work x.bytes ∙ k.copies; ends = sink_ends w.write (is_dropped code); ended = sink_over w.write (is_dropped code) k.write; unwriting = after_unwriting w.write (is_dropped code) };
    })
