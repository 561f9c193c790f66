use Rattle.std.proofs.Common.{refl}
use Rattle.strm_machine.specs.declared.replies.Reply.TheVariants.{Number, Pair, Member, Done}
use Rattle.strm_transmit.specs.Meets.{as_reply}
use Rattle.strm_transmit.proofs.ApplyLemmas.{refused-hosted}
use Rattle.strm_transmit.proofs.HostStepLemmas.{hosted_alone}
use Rattle.strm_transmit.proofs.steps.perform_other.Goals as goal

pub returns-in-Event-clause-meets : goal.returns-in-Event-clause-meets
returns-in-Event-clause-meets g c =
    rw (c.in-Event.is, c.reply.ensures)
    (refused-hosted c.args.store.now _ _ _ c.event.result _
    (hosted_alone c.args.store.now _ _ _ c.event.result c.sound.ensures c.served.ensures.made refl c.event.ensures.settled c.event.ensures.meets c.requires.fits))

pub returns-in-New-clause-meets : goal.returns-in-New-clause-meets
returns-in-New-clause-meets g c =
    let answer = as_reply Pair c.make_pair.result in
    rw (c.in-New.is, c.pair_reply.ensures)
    (refused-hosted c.args.store.now _ _ _ answer _
    (hosted_alone c.args.store.now _ _ _ answer c.sound.ensures c.served.ensures.made refl c.make_pair.ensures.settled c.make_pair.ensures.meets c.requires.fits))

pub returns-in-Between-clause-meets : goal.returns-in-Between-clause-meets
returns-in-Between-clause-meets g c =
    let answer = as_reply Pair c.make_pair-in-Between.result in
    rw (c.in-Between.is, c.pair_reply-in-Between.ensures)
    (refused-hosted c.args.store.now _ _ _ answer _
    (hosted_alone c.args.store.now _ _ _ answer c.sound.ensures c.served.ensures.made refl c.make_pair-in-Between.ensures.settled c.make_pair-in-Between.ensures.meets c.requires.fits))

pub returns-in-Guest-clause-meets : goal.returns-in-Guest-clause-meets
returns-in-Guest-clause-meets g c =
    let answer = as_reply Number c.add_guest.result in
    rw (c.in-Guest.is, c.number_reply.ensures)
    (refused-hosted c.args.store.now _ _ _ answer _
    (hosted_alone c.args.store.now _ _ _ answer c.sound.ensures c.served.ensures.made refl c.add_guest.ensures.settled c.add_guest.ensures.meets c.requires.fits))

pub returns-in-Move-clause-meets : goal.returns-in-Move-clause-meets
returns-in-Move-clause-meets g c =
    let answer = as_reply Number c.give_away.result in
    rw (c.in-Move.is, c.number_reply-in-Move.ensures)
    (refused-hosted c.args.store.now _ _ _ answer _
    (hosted_alone c.args.store.now _ _ _ answer c.sound.ensures c.served.ensures.made refl c.give_away.ensures.settled c.give_away.ensures.meets c.requires.fits))

pub returns-in-SetJoin-clause-meets : goal.returns-in-SetJoin-clause-meets
returns-in-SetJoin-clause-meets g c =
    let answer = as_reply (λ _. Done) c.join_set.result in
    rw (c.in-SetJoin.is, c.done_reply.ensures)
    (refused-hosted c.args.store.now _ _ _ answer _
    (hosted_alone c.args.store.now _ _ _ answer c.sound.ensures c.served.ensures.made refl c.join_set.ensures.settled c.join_set.ensures.meets c.requires.fits))

pub returns-in-SetPoll-clause-meets : goal.returns-in-SetPoll-clause-meets
returns-in-SetPoll-clause-meets g c =
    let answer = as_reply Member c.poll_set.result in
    rw (c.in-SetPoll.is, c.member_reply.ensures)
    (refused-hosted c.args.store.now _ _ _ answer _
    (hosted_alone c.args.store.now _ _ _ answer c.sound.ensures c.served.ensures.made refl c.poll_set.ensures.settled c.poll_set.ensures.meets c.requires.fits))

pub returns-in-ErrNew-clause-meets : goal.returns-in-ErrNew-clause-meets
returns-in-ErrNew-clause-meets g c =
    let answer = as_reply Number c.make_context.result in
    rw (c.in-ErrNew.is, c.number_reply-in-ErrNew.ensures)
    (refused-hosted c.args.store.now _ _ _ answer _
    (hosted_alone c.args.store.now _ _ _ answer c.sound.ensures c.served.ensures.made refl c.make_context.ensures.settled c.make_context.ensures.meets c.requires.fits))

pub returns-in-ErrMove-clause-meets : goal.returns-in-ErrMove-clause-meets
returns-in-ErrMove-clause-meets g c =
    let answer = as_reply Number c.move_context.result in
    rw (c.in-ErrMove.is, c.number_reply-in-ErrMove.ensures)
    (refused-hosted c.args.store.now _ _ _ answer _
    (hosted_alone c.args.store.now _ _ _ answer c.sound.ensures c.served.ensures.made refl c.move_context.ensures.settled c.move_context.ensures.meets c.requires.fits))

pub returns-in-ErrDrop-clause-meets : goal.returns-in-ErrDrop-clause-meets
returns-in-ErrDrop-clause-meets g c =
    let answer = as_reply (λ _. Done) c.drop_context.result in
    rw (c.in-ErrDrop.is, c.done_reply-in-ErrDrop.ensures)
    (refused-hosted c.args.store.now _ _ _ answer _
    (hosted_alone c.args.store.now _ _ _ answer c.sound.ensures c.served.ensures.made refl c.drop_context.ensures.settled c.drop_context.ensures.meets c.requires.fits))
