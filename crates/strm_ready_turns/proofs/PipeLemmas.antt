-- The poll of the ready host reader of a pipe, by what came of it.
use Rattle.std.proofs.Common.{◌≡◌, ℕ, ◌-◌, ◌≤◌, Bool, true, false, List, [], ◌∷◌, ◌++◌, length, take, Some, Result, Ok, Err, refl, sym, ap, subst, ◌∙◌, arith}
use Rattle.std.specs.Prelude.{IfOk, OnOk, OnErr}
use Rattle.strm_codes.specs.Layout.{item_type}
use Rattle.strm_codes.specs.declared.counts.OutOfMemory.{OutOfMemory}
use Rattle.strm_buffers.specs.declared.answers.ReaderSaid.{ReaderSaid}
use Rattle.strm_buffers.specs.declared.sources.Source.TheVariants.{Listed}
use Rattle.strm_buffers.specs.Listing.{Item, TypedItems}
use Rattle.strm_buffers.specs.Offers.{Offered, IsBadNext, items_lent}
use Rattle.strm_buffers.specs.Tells.{PollsReader, reader_record, first_lent}
use Rattle.strm_host_turns.specs.Piping.{PassedSo}
use Rattle.strm_host_turns.proofs.ReaderPollLemmas.{no_bad}
use Rattle.strm_ready_ends.specs.ReceiveQueues.{ReceiveQueue, ready_reader_tells, Takes}
use Rattle.strm_ready_ends.proofs.RuleLemmas.{takes_is_no_fault}
use Rattle.strm_ready_turns.specs.ReadyTurns.{TakesGranted}
use Rattle.strm_ready_turns.proofs.WriterLemmas.{no_fault_rises}
use Rattle.strm_ready_turns.proofs.ReaderLemmas.{granted_none}

module _ (old new : ReceiveQueue) (before after : Offered) (finish : Bool) (said : ReaderSaid) (t : Takes old new before after finish said.answer) (is : said ≡ reader_record before after finish said.answer) where
  taken_is : said.taken ≡ after.taken
  taken_is = ap (λ (s : ReaderSaid). s.taken) is

  -- what it took
  abbrev took_of : List Item
  took_of = first_lent (item_type before.payload) before.source after.taken

  pub takes_polls : after.taken ≡ length took_of → after.taken ≤ items_lent before.source → PollsReader (ready_reader_tells old) (ready_reader_tells new) said took_of
  takes_polls counted most = record {
    said_more = ap (λ (q : ReceiveQueue). q.said) t.leaves ∙ ap (λ s. old.said ++ s ∷ []) (sym is);
    holds = ap (λ (q : ReceiveQueue). Some q.items) t.leaves;
    taken = taken_is ∙ counted;
    most = omega (arith, taken_is, most, ap (λ (s : ReaderSaid). s.offered) is);
    faults = no_fault_rises said.answer 0 (takes_is_no_fault old new before after finish said.answer t);
    closed = ap (λ (q : ReceiveQueue). q.closed) t.leaves;
    heard = refl;
    kind = ap (λ (q : ReceiveQueue). q.kind) t.leaves;
    payload = ap (λ (q : ReceiveQueue). q.payload) t.leaves;
  }

-- one poll of what is kept on a pipe
module _ (old new : ReceiveQueue) (items : TypedItems) (since : ℕ) (before after : Offered) (said : ReaderSaid) where
  -- the offer of these items
  pub record OfItems : Type 0 where
    pub takes : Takes old new before after false said.answer
    pub record_is : said ≡ reader_record before after false said.answer
    pub counted : after.taken ≡ length (first_lent (item_type before.payload) before.source after.taken)
    pub most : after.taken ≤ items_lent before.source
    pub next : after.bad ≡ true → IsBadNext (item_type before.payload) before.source after.taken
    pub source : before.source ≡ Listed items
    pub since_is : before.since ≡ since
    pub untaken : before.taken ≡ 0

  pub passed : OfItems → PassedSo (ready_reader_tells old) (ready_reader_tells new) items.items since said
  passed o =
      let took : first_lent (item_type before.payload) before.source after.taken ≡ take said.taken items.items =
      ap (λ s. first_lent (item_type before.payload) s after.taken) o.source ∙ ap (λ n. take n items.items) (sym (taken_is old new before after false said o.takes o.record_is)) in
      record {
        polls = subst (PollsReader (ready_reader_tells old) (ready_reader_tells new) said) took (takes_polls old new before after false said o.takes o.record_is o.counted o.most);
        offered = ap (λ (s : ReaderSaid). s.offered) o.record_is ∙ ap items_lent o.source;
        after = ap (λ (s : ReaderSaid). s.since) o.record_is ∙ o.since_is;
        finish = ap (λ (s : ReaderSaid). s.finish) o.record_is;
        good = ap (λ (s : ReaderSaid). s.bad) o.record_is ∙ no_bad (item_type before.payload) before.source items after.taken after.bad o.source o.next;
      }

  pub passed_granted : OfItems → TakesGranted old new
  passed_granted o =
      let few : after.taken ≤ old.credit = omega (arith, ap (λ (w : Offered). w.taken) o.takes.takes, o.untaken) in
      let left : new.credit ≡ old.credit - after.taken = ap (λ (q : ReceiveQueue). q.credit) o.takes.leaves in
      record {
        items = first_lent (item_type before.payload) before.source after.taken;
        kept = ap (λ (q : ReceiveQueue). q.items) o.takes.leaves;
        credit = omega (arith, left, few, o.counted);
        ended = ap (λ (q : ReceiveQueue). q.ended) o.takes.leaves;
      }

module _ (old new : ReceiveQueue) (items : TypedItems) (since : ℕ) (before after : Offered) where
  -- what is known of a poll of these items
  pub record KnownOf (r : Result ReaderSaid OutOfMemory) : Type 0 where
    pub takes : IfOk r (λ said. Takes old new before after false said.answer)
    pub record_is : IfOk r (λ said. said ≡ reader_record before after false said.answer)
    pub counted : OnOk r (after.taken ≡ length (first_lent (item_type before.payload) before.source after.taken))
    pub most : OnOk r (after.taken ≤ items_lent before.source)
    pub next : OnOk r (after.bad ≡ true → IsBadNext (item_type before.payload) before.source after.taken)
    pub err : OnErr r (new ≡ old)
    pub source : before.source ≡ Listed items
    pub since_is : before.since ≡ since
    pub untaken : before.taken ≡ 0

  of_known : (said : ReaderSaid) → KnownOf (Ok said) → OfItems old new items since before after said
  of_known said k = record {
    takes = k.takes;
    record_is = k.record_is;
    counted = k.counted;
    most = k.most;
    next = k.next;
    source = k.source;
    since_is = k.since_is;
    untaken = k.untaken;
  }

  pub all_passed : (r : Result ReaderSaid OutOfMemory) → KnownOf r → IfOk r (λ said. PassedSo (ready_reader_tells old) (ready_reader_tells new) items.items since said)
  all_passed (Ok said) k = passed old new items since before after said (of_known said k)
  all_passed (Err e) k = tt

  pub all_granted : (r : Result ReaderSaid OutOfMemory) → KnownOf r → TakesGranted old new
  all_granted (Ok said) k = passed_granted old new items since before after said (of_known said k)
  all_granted (Err e) k = subst (TakesGranted old) (sym k.err) (granted_none old)
