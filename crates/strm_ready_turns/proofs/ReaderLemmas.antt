-- A poll of a ready host reader with the good items of a write, as a poll for that write.
use Rattle.std.proofs.Common.{◌≡◌, ◌≢◌, ℕ, ◌-◌, ◌≤◌, min, Bool, true, false, List, [], ◌++◌, length, drop, Some, Result, Ok, Err, refl, sym, ap, subst, ◌∙◌, arith}
use Rattle.std.proofs.lemmas.List.{append-nil}
use Rattle.std.specs.Prelude.{IfOk, OnErr}
use Rattle.strm_codes.specs.Layout.{item_type}
use Rattle.strm_codes.specs.declared.counts.OutOfMemory.{OutOfMemory}
use Rattle.strm_codes.specs.declared.payloads.Payload.{Payload}
use Rattle.strm_memory.proofs.GoodLemmas.{length-good_items}
use Rattle.strm_buffers.specs.declared.answers.Answer.{Answer}
use Rattle.strm_buffers.specs.declared.answers.Answer.TheVariants.{Failed}
use Rattle.strm_buffers.specs.declared.answers.ReaderSaid.{ReaderSaid}
use Rattle.strm_buffers.specs.HostRules.{breaks_as_reader}
use Rattle.strm_buffers.specs.Listing.{items_in}
use Rattle.strm_machine.specs.State.{Guest, memory_in}
use Rattle.strm_machine.specs.declared.streams.Operation.{Operation}
use Rattle.strm_host_machine.specs.Polls.{is_failed}
use Rattle.strm_host_machine.specs.ReaderTurn.{lifted_items}
use Rattle.strm_host_turns.specs.Regions.{region_address}
use Rattle.strm_host_turns.specs.ReaderPolls.{PollsFrom}
use Rattle.strm_host_turns.specs.ReaderTurns.{reader_verdict_by, reader_verdict}
use Rattle.strm_host_turns.proofs.ReaderPollLemmas.{lifted_region}
use Rattle.strm_ready_ends.specs.SendQueues.{is_future}
use Rattle.strm_ready_ends.specs.ReceiveQueues.{ReceiveQueue, ready_reader_tells, taking_answer, TakesGood}
use Rattle.strm_ready_ends.proofs.RuleLemmas.{taking_keeps, taking_is_no_fault}
use Rattle.strm_ready_turns.specs.ReadyTurns.{TakesGranted}
use Rattle.strm_ready_turns.proofs.WriterLemmas.{no_fault, no_fault_rises}

-- none taken is none of those granted
pub granted_none : (queue : ReceiveQueue) → TakesGranted queue queue
granted_none queue = record { items = []; kept = sym (append-nil queue.items); credit = omega arith; ended = refl }

module _ (old new : ReceiveQueue) (bytes : List ℕ) (from offered since : ℕ) (finish : Bool) (said : ReaderSaid) (t : TakesGood old new bytes from offered since finish said) where
  -- its answer
  abbrev answered : Answer
  answered = taking_answer old.kind old.ended (old.credit - said.taken) offered said.taken finish

  answer_is : said.answer ≡ answered
  answer_is = ap (λ (s : ReaderSaid). s.answer) t.record_is

  -- it takes what it was granted
  pub good_granted : said.taken ≡ length (items_in (item_type old.payload) bytes from said.taken) → TakesGranted old new
  good_granted counted =
      let few = length-good_items (item_type old.payload) (drop from bytes) (min offered old.credit) in
      record {
        items = items_in (item_type old.payload) bytes from said.taken;
        kept = ap (λ (q : ReceiveQueue). q.items) t.leaves;
        credit = rw t.leaves (omega (arith, counted, t.taken, few));
        ended = ap (λ (q : ReceiveQueue). q.ended) t.leaves;
      }

  -- it breaks no rule
  pub good_keeps : (is_future old.kind ≡ true → since ≡ 0) → reader_verdict old.kind said ≡ Ok tt
  good_keeps h =
      let fine : is_failed said.answer ≡ false = ap is_failed answer_is ∙ no_fault answered (taking_is_no_fault old.kind old.ended (old.credit - said.taken) offered said.taken finish) in
      let kept : breaks_as_reader old.kind said ≡ false = ap (breaks_as_reader old.kind) t.record_is ∙ taking_keeps old.kind old.ended (old.credit - said.taken) offered since said.taken finish h in
      let good : said.bad ≡ false = ap (λ (s : ReaderSaid). s.bad) t.record_is in
      ap (λ b. reader_verdict_by b said.bad (breaks_as_reader old.kind said)) fine
      ∙ ap (λ b. reader_verdict_by false b (breaks_as_reader old.kind said)) good
      ∙ ap (reader_verdict_by false false) kept

-- by the result of a poll of so many items that lie in these bytes from a place on
module _ (old new : ReceiveQueue) (bytes : List ℕ) (from offered since : ℕ) (finish : Bool) where
  -- what is known of it
  pub record TakesOf (r : Result ReaderSaid OutOfMemory) : Type 0 where
    pub takes : IfOk r (TakesGood old new bytes from offered since finish)
    pub counted : IfOk r (λ said. said.taken ≡ length (items_in (item_type old.payload) bytes from said.taken))
    pub most : IfOk r (λ said. said.taken ≤ offered)
    pub err : OnErr r (new ≡ old)

  pub all_good_granted : (r : Result ReaderSaid OutOfMemory) → TakesOf r → TakesGranted old new
  all_good_granted (Ok said) t = good_granted old new bytes from offered since finish said t.takes t.counted
  all_good_granted (Err e) t = subst (TakesGranted old) (sym t.err) (granted_none old)

  pub all_good_keep : (r : Result ReaderSaid OutOfMemory) → TakesOf r → IfOk r (λ said. (is_future old.kind ≡ true → since ≡ 0) → reader_verdict old.kind said ≡ Ok tt)
  all_good_keep (Ok said) t = good_keeps old new bytes from offered since finish said t.takes
  all_good_keep (Err e) t = tt

-- where they are those that a write has left
module _ (guests : List Guest) (payload : Payload) (write : Operation) (old new : ReceiveQueue) (since : ℕ) where
  -- a poll of the items that the write has left
  abbrev pub TakesOfWrite : Result ReaderSaid OutOfMemory → Type 0
  TakesOfWrite r = TakesOf old new (memory_in guests write.guest) (region_address payload write) write.left since write.asked r

  -- its record, as one of a poll for the write
  abbrev pub PollsForWrite : ReaderSaid → Type 0
  PollsForWrite said = PollsFrom (ready_reader_tells old) (ready_reader_tells new) guests payload since write said

  good_polls : (said : ReaderSaid) → old.payload ≡ payload → TakesOfWrite (Ok said) → PollsForWrite said
  good_polls said p t =
      let lies : items_in (item_type old.payload) (memory_in guests write.guest) (region_address payload write) said.taken ≡ lifted_items guests payload write said.taken =
      ap (λ (q : Payload). items_in (item_type q) (memory_in guests write.guest) (region_address payload write) said.taken) p ∙ lifted_region guests payload write said.taken t.most in
      let fault = taking_is_no_fault old.kind old.ended (old.credit - said.taken) write.left said.taken write.asked in
      let offered : said.offered ≡ write.left = ap (λ (s : ReaderSaid). s.offered) t.takes.record_is in
      record {
        polls = record {
          said_more = ap (λ (q : ReceiveQueue). q.said) t.takes.leaves;
          holds = ap (λ (q : ReceiveQueue). Some q.items) t.takes.leaves ∙ ap (λ xs. Some (old.items ++ xs)) lies;
          taken = t.counted ∙ ap length lies;
          most = omega (arith, t.most, offered);
          faults = no_fault_rises said.answer 0 (subst (λ a. a ≢ Failed) (sym (ap (λ (s : ReaderSaid). s.answer) t.takes.record_is)) fault);
          closed = ap (λ (q : ReceiveQueue). q.closed) t.takes.leaves;
          heard = refl;
          kind = ap (λ (q : ReceiveQueue). q.kind) t.takes.leaves;
          payload = ap (λ (q : ReceiveQueue). q.payload) t.takes.leaves;
        };
        offered = offered;
        after = ap (λ (s : ReaderSaid). s.since) t.takes.record_is;
        finish = ap (λ (s : ReaderSaid). s.finish) t.takes.record_is;
        next = λ e. absurd (never (sym e ∙ ap (λ (s : ReaderSaid). s.bad) t.takes.record_is));
      }
    where
      never : true ≡ false → ⊥
      never e = cc

  -- by its result
  pub all_good_polls : (r : Result ReaderSaid OutOfMemory) → old.payload ≡ payload → TakesOfWrite r → IfOk r PollsForWrite
  all_good_polls (Ok said) p t = good_polls said p t
  all_good_polls (Err e) p t = tt
