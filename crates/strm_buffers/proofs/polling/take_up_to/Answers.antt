use Rattle.std.proofs.Common.{◌≡◌, length, arith}
use Rattle.strm_codes.specs.Layout.{item_type}
use Rattle.strm_buffers.specs.Offers.{left_of, after_taking}
use Rattle.strm_buffers.proofs.OfferLemmas.{length-first_lent, offer_taken}
use Rattle.strm_buffers.proofs.PollingLemmas.{taken_stop, taken_all, stops_at}
use Rattle.strm_buffers.proofs.polling.take_up_to.Goals as goal

pub returns-then-good-count-clause-takes : goal.returns-then-good-count-clause-takes
returns-then-good-count-clause-takes c =
    let old = c.args.offer.now in
    let good = c.count_good-good.result in
    let all : good ≡ length (left_of old) = omega (arith, c.if-good-count.true, c.count_good-good.ensures) in
    let none = stops_at old c.pass.new.self good c.next-bad.result c.pass.ensures all c.sound.ensures.good c.next-bad.ensures.exact in
    taken_stop old c.pass.new.self c.next-bad.new.self good c.next-bad.result c.pass.ensures (omega (arith, all)) c.sound.ensures.good c.next-bad.ensures.exact c.next-bad.ensures.after c.args.wanted none
    (omega (arith, c.if-good-count.true, c.min-count.ensures, c.remaining.ensures))

pub returns-then-good-count-clause-counted : goal.returns-then-good-count-clause-counted
returns-then-good-count-clause-counted c =
    let old = c.args.offer.now in
    rw (returns-then-good-count-clause-takes c) (length-first_lent (item_type old.payload) old.source (after_taking c.args.wanted old).taken (offer_taken old c.args.wanted c.sound.ensures).good)

pub returns-then-good-count-clause-next : goal.returns-then-good-count-clause-next
returns-then-good-count-clause-next c =
    let old = c.args.offer.now in
    rw (returns-then-good-count-clause-takes c) (offer_taken old c.args.wanted c.sound.ensures).next

pub returns-else-good-count-clause-takes : goal.returns-else-good-count-clause-takes
returns-else-good-count-clause-takes c =
    let old = c.args.offer.now in
    taken_all old c.pass.new.self c.count_good-good.result c.args.wanted c.pass.ensures (omega (arith, c.count_good-good.ensures)) c.sound.ensures.good
    (omega (arith, c.if-good-count.false, c.count_good-good.ensures, c.min-count.ensures, c.remaining.ensures))

pub returns-else-good-count-clause-counted : goal.returns-else-good-count-clause-counted
returns-else-good-count-clause-counted c =
    let old = c.args.offer.now in
    rw (returns-else-good-count-clause-takes c) (length-first_lent (item_type old.payload) old.source (after_taking c.args.wanted old).taken (offer_taken old c.args.wanted c.sound.ensures).good)

pub returns-else-good-count-clause-next : goal.returns-else-good-count-clause-next
returns-else-good-count-clause-next c =
    let old = c.args.offer.now in
    rw (returns-else-good-count-clause-takes c) (offer_taken old c.args.wanted c.sound.ensures).next
