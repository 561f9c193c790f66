use Rattle.std.proofs.Common.{refl, subst, inl}
use Rattle.strm_machine.specs.declared.steps.Step.TheVariants as steps
use Rattle.strm_machine.specs.declared.replies.Reply.TheVariants as replies
use Rattle.strm_chain.specs.Playing.{Adds}
use Rattle.strm_chain.specs.Turned.{ReadSettles}
use Rattle.strm_chain.proofs.TurnedLemmas.{unblocked}
use Rattle.strm_chain.proofs.GuestLemmas.{has_read, read_event_done, hears_of_read, read_told}
use Rattle.strm_chain.proofs.workers.hear_of_read.Goals as goal

pub unreachable-requires : goal.unreachable-requires
unreachable-requires c =
    has_read c.args.guest c.args.worker.now c.args.player.now c.requires.guest c.requires.guest.played (inl c.requires.waits) c.in_default.is

pub take_event-requires-clause-done : goal.take_event-requires-clause-done
take_event-requires-clause-done c =
    read_event_done c.args.guest c.args.worker.now c.args.player.now c.requires.guest c.requires.guest.played c.in-Some.handle (let i = c.in-Some.is in cc)

pub take_read-requires-clause-ends : goal.take_read-requires-clause-ends
take_read-requires-clause-ends c =
    let adds = subst (λ o. Adds c.args.player.now c.take_event.new.self (steps.Event c.args.guest c.in-Some.handle) (replies.Event o)) c.in-Some-2.is c.in_ok-code.ensures in
    hears_of_read c.args.guest c.args.worker.now c.args.player.now c.requires.guest c.requires.guest.played c.take_event.new.self c.in-Some.handle c.played.ensures c.in-Some-2.code (let i = c.in-Some.is in cc) adds

pub take_read-requires-clause-few : goal.take_read-requires-clause-few
take_read-requires-clause-few c =
    let adds = subst (λ o. Adds c.args.player.now c.take_event.new.self (steps.Event c.args.guest c.in-Some.handle) (replies.Event o)) c.in-Some-2.is c.in_ok-code.ensures in
    (read_told c.args.guest c.args.worker.now c.args.player.now c.requires.guest c.requires.guest.played c.take_event.new.self c.in-Some-2.code c.played.ensures
    (record { handle = c.in-Some.handle; waits = c.requires.waits; has = (let i = c.in-Some.is in cc); adds = adds })
    (unblocked c.in-Some-2.code (take_read-requires-clause-ends c))).few

pub take_read-requires-clause-done : goal.take_read-requires-clause-done
take_read-requires-clause-done c =
    let adds = subst (λ o. Adds c.args.player.now c.take_event.new.self (steps.Event c.args.guest c.in-Some.handle) (replies.Event o)) c.in-Some-2.is c.in_ok-code.ensures in
    (read_told c.args.guest c.args.worker.now c.args.player.now c.requires.guest c.requires.guest.played c.take_event.new.self c.in-Some-2.code c.played.ensures
    (record { handle = c.in-Some.handle; waits = c.requires.waits; has = (let i = c.in-Some.is in cc); adds = adds })
    (unblocked c.in-Some-2.code (take_read-requires-clause-ends c))).done

pub returns-in_ok-take_read-in-Some-2 : goal.returns-in_ok-take_read-in-Some-2
returns-in_ok-take_read-in-Some-2 c = λ chunk.
    let adds = subst (λ o. Adds c.args.player.now c.take_event.new.self (steps.Event c.args.guest c.in-Some.handle) (replies.Event o)) c.in-Some-2.is c.in_ok-code.ensures in
    ReadSettles c.take_event.new.self c.in-Some-2.code refl
    (record { handle = c.in-Some.handle; waits = c.requires.waits; has = (let i = c.in-Some.is in cc); adds = adds })
    c.in_ok-take_read-in-Some-2.ensures
