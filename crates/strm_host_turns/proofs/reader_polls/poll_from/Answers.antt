use Rattle.std.proofs.Common.{ap, ◌∙◌}
use Rattle.strm_buffers.specs.Offers.{Offered}
use Rattle.strm_channels.specs.Guests.{guests_of}
use Rattle.strm_host_turns.proofs.ReaderPollLemmas.{items_returned, offered_read}
use Rattle.strm_host_turns.proofs.reader_polls.poll_from.Goals as goal

pub returns-in-Some-clause-guests : goal.returns-in-Some-clause-guests
returns-in-Some-clause-guests g c =
    items_returned (guests_of c.args.guests.now.items) c.args.payload.now c.args.write.now c.poll_reader-turn.new.offer.source c.args.since _ _
    (c.poll_reader-turn.ensures.same.source ∙ ap (λ (o : Offered). o.source) c.lend_items-offer.ensures.offer)
    c.lend_items-offer.ensures.guests c.return_items-taken.ensures.guests

pub returns-in-Some-clause-ok : goal.returns-in-Some-clause-ok
returns-in-Some-clause-ok g c =
    rw c.as_u32.ensures.exact
    (offered_read (guests_of c.args.guests.now.items) c.args.payload.now c.args.write.now c.args.since c.poll_reader-turn.new.offer _ _
    c.lend_items-offer.result c.poll_reader-turn.result c.answer.result c.in-Some.answer c.return_items-taken.result c.bad-bad.result (record {
      of = c.lend_items-offer.ensures.offer;
      reads = record { answered = c.answer.ensures.answered; no_memory = c.answer.ensures.no_memory };
      some = c.in-Some.is;
      counted = c.return_items-taken.ensures.taken;
      bad_is = c.bad-bad.ensures.exact;
      polls = c.poll_reader-turn.ensures.polls;
      next = c.poll_reader-turn.ensures.next;
    }))

pub returns-in-None-clause-guests : goal.returns-in-None-clause-guests
returns-in-None-clause-guests g c =
    items_returned (guests_of c.args.guests.now.items) c.args.payload.now c.args.write.now c.poll_reader-turn.new.offer.source c.args.since _ _
    (c.poll_reader-turn.ensures.same.source ∙ ap (λ (o : Offered). o.source) c.lend_items-offer.ensures.offer)
    c.lend_items-offer.ensures.guests c.return_items-taken.ensures.guests
