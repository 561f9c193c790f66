-- A ready host end keeps the rules of host ends in each poll.
use Rattle.std.proofs.Common.{◌≡◌, ◌≢◌, ℕ, zero, suc, ◌-◌, arith, Bool, true, false, Option, refl, sym, subst, ◌∙◌}
use Rattle.std.specs.Prelude.{◌==◌, ◌&&◌, ◌||◌, not, nat_lt, nat_eq}
use Rattle.std.proofs.lemmas.Bool.Decides.{nat_tests}
use Rattle.strm_codes.specs.declared.codes.TransmitKind.{TransmitKind}
use Rattle.strm_codes.specs.declared.codes.TransmitKind.TheVariants.{Stream, Future}
use Rattle.strm_buffers.specs.HostRules.{is_untouched, writer_breaks, reader_breaks, breaks_as_reader}
use Rattle.strm_buffers.specs.Offers.{Offered, items_lent}
use Rattle.strm_buffers.specs.Tells.{reader_record}
use Rattle.strm_buffers.specs.declared.answers.Answer.{Answer}
use Rattle.strm_buffers.specs.declared.answers.Answer.TheVariants.{Failed}
use Rattle.strm_ready_ends.specs.SendQueues.{is_future, empty_answer}
use Rattle.strm_ready_ends.specs.ReceiveQueues.{ReceiveQueue, answer_by, taking_answer, Takes}

-- A HOST WRITER

pub empty_keeps : (kind : TransmitKind) (ended finish : Bool) (room : Option ℕ) → writer_breaks kind (empty_answer kind ended finish) room finish 0 ≡ false
empty_keeps Stream true finish room = refl
empty_keeps Stream false true room = refl
empty_keeps Stream false false room = refl
empty_keeps Future ended true room = refl
empty_keeps Future ended false room = refl

pub empty_is_no_fault : (kind : TransmitKind) (ended finish : Bool) → empty_answer kind ended finish ≢ Failed
empty_is_no_fault Stream true finish e = cc
empty_is_no_fault Stream false true e = cc
empty_is_no_fault Stream false false e = cc
empty_is_no_fault Future ended true e = cc
empty_is_no_fault Future ended false e = cc

-- A HOST READER

answer_is_no_fault : (done ready finish : Bool) → answer_by done ready finish ≢ Failed
answer_is_no_fault true ready finish e = cc
answer_is_no_fault false true finish e = cc
answer_is_no_fault false false true e = cc
answer_is_no_fault false false false e = cc

pub taking_is_no_fault : (kind : TransmitKind) (ended : Bool) (credit offered taken : ℕ) (finish : Bool) → taking_answer kind ended credit offered taken finish ≢ Failed
taking_is_no_fault kind ended credit offered taken finish =
    answer_is_no_fault (not (is_future kind) && ((credit == 0) && ended)) (nat_lt 0 taken || (not (is_future kind) && ((offered == 0) && nat_lt 0 credit))) finish

not_none : (n : ℕ) → nat_eq (suc n) 0 ≡ false
not_none n = grind (arith, nat_tests)

some_there : (n : ℕ) → nat_lt 0 (suc n) ≡ true
some_there n = grind (arith, nat_tests)

never : true ≡ false → ⊥
never e = cc

and_false : (b : Bool) → (b && false) ≡ false
and_false true = refl
and_false false = refl

touched : (taken since : ℕ) → is_untouched (suc taken) since ≡ false
touched taken since = rw (not_none taken) refl

-- of a stream: it is ready again only where it took some, or was offered none
stream_keeps : (done ready finish : Bool) (offered since taken : ℕ) → (ready ≡ true → (nat_lt 0 offered && is_untouched taken since) ≡ false)
    → reader_breaks Stream (answer_by done ready finish) offered since finish taken ≡ false
stream_keeps true ready finish offered since taken h = refl
stream_keeps false true finish offered since taken h = h refl
stream_keeps false false true offered since taken h = refl
stream_keeps false false false offered since taken h = refl

stream_ready : (credit offered since taken : ℕ) → (nat_lt 0 taken || (true && ((offered == 0) && nat_lt 0 credit))) ≡ true → (nat_lt 0 offered && is_untouched taken since) ≡ false
stream_ready credit zero since taken e = refl
stream_ready credit (suc offered) since (suc taken) e = rw (touched taken since) (and_false (nat_lt 0 (suc offered)))
stream_ready credit (suc offered) since zero e =
    let none : (nat_lt 0 zero || (true && (nat_eq (suc offered) 0 && nat_lt 0 credit))) ≡ false = rw (not_none offered) refl in
    absurd (never (sym e ∙ none))

-- of a future: it is ready again exactly where it took its item
future_keeps : (ready finish : Bool) (offered since taken : ℕ) → (ready ≡ true → is_untouched taken since ≡ false) → (ready ≡ false → is_untouched taken since ≡ true)
    → reader_breaks Future (answer_by false ready finish) offered since finish taken ≡ false
future_keeps true finish offered since taken h g = h refl
future_keeps false true offered since taken h g = rw (g refl) refl
future_keeps false false offered since taken h g = refl

future_ready : (since taken : ℕ) → (nat_lt 0 taken || false) ≡ true → is_untouched taken since ≡ false
future_ready since zero e = cc
future_ready since (suc taken) e = touched taken since

future_waits : (taken : ℕ) → (nat_lt 0 taken || false) ≡ false → is_untouched taken 0 ≡ true
future_waits zero e = refl
future_waits (suc taken) e =
    let some : (nat_lt 0 (suc taken) || false) ≡ true = rw (some_there taken) refl in
    absurd (never (sym some ∙ e))

pub taking_keeps : (kind : TransmitKind) (ended : Bool) (credit offered since taken : ℕ) (finish : Bool) → (is_future kind ≡ true → since ≡ 0)
    → reader_breaks kind (taking_answer kind ended credit offered taken finish) offered since finish taken ≡ false
taking_keeps Stream ended credit offered since taken finish h =
    stream_keeps ((credit == 0) && ended) (nat_lt 0 taken || (true && ((offered == 0) && nat_lt 0 credit))) finish offered since taken (stream_ready credit offered since taken)
taking_keeps Future ended credit offered since taken finish h =
    let none : since ≡ 0 = h refl in
    subst (λ n. reader_breaks Future (taking_answer Future ended credit offered taken finish) offered n finish taken ≡ false) (sym none)
    (future_keeps (nat_lt 0 taken || false) finish offered 0 taken (future_ready 0 taken) (future_waits taken))

-- a poll of a ready reader
pub takes_keeps : (old new : ReceiveQueue) (before after : Offered) (finish : Bool) (answer : Answer) → Takes old new before after finish answer → (is_future old.kind ≡ true → before.since ≡ 0)
    → breaks_as_reader old.kind (reader_record before after finish answer) ≡ false
takes_keeps old new before after finish answer t h =
    rw t.answers (taking_keeps old.kind old.ended (old.credit - after.taken) (items_lent before.source) before.since after.taken finish h)

pub takes_is_no_fault : (old new : ReceiveQueue) (before after : Offered) (finish : Bool) (answer : Answer) → Takes old new before after finish answer → answer ≢ Failed
takes_is_no_fault old new before after finish answer t =
    rw t.answers (taking_is_no_fault old.kind old.ended (old.credit - after.taken) (items_lent before.source) after.taken finish)
