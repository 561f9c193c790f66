use Rattle.std.proofs.Common.{Some, refl, subst, inl}
use Rattle.strm_codes.specs.Codes.{count_of_code}
use Rattle.strm_machine.specs.declared.steps.Step.TheVariants as steps
use Rattle.strm_machine.specs.declared.replies.Reply.TheVariants as replies
use Rattle.strm_chain.specs.Playing.{Adds}
use Rattle.strm_chain.specs.Turned.{WriteSettles}
use Rattle.strm_chain.proofs.GuestLemmas.{has_write, write_event_done, hears_of_write, completes_count, told_within}
use Rattle.strm_chain.proofs.workers.hear_of_write.Goals as goal

pub unreachable-requires : goal.unreachable-requires
unreachable-requires c =
    has_write c.args.guest c.args.worker.now c.args.player.now c.requires.guest c.requires.guest.played (inl c.requires.waits) c.in_default.is

pub take_event-requires-clause-done : goal.take_event-requires-clause-done
take_event-requires-clause-done c =
    write_event_done c.args.guest c.args.worker.now c.args.player.now c.requires.guest c.requires.guest.played c.in-Some.handle (let i = c.in-Some.is in cc) c.requires.waits

pub hand_over-requires-clause-over : goal.hand_over-requires-clause-over
hand_over-requires-clause-over c =
    let adds = subst (λ o. Adds c.args.player.now c.take_event.new.self (steps.Event c.args.guest c.in-Some.handle) (replies.Event o)) c.in-Some-2.is c.in_ok-code.ensures in
    let x = hears_of_write c.args.guest c.args.worker.now c.args.player.now c.requires.guest c.requires.guest.played c.take_event.new.self c.in-Some.handle c.played.ensures c.in-Some-2.code (let i = c.in-Some.is in cc) c.requires.waits adds in
    completes_count c.in-Some-2.code x.0 x.1

pub hand_over-requires-clause-within : goal.hand_over-requires-clause-within
hand_over-requires-clause-within c =
    let adds = subst (λ o. Adds c.args.player.now c.take_event.new.self (steps.Event c.args.guest c.in-Some.handle) (replies.Event o)) c.in-Some-2.is c.in_ok-code.ensures in
    told_within c.args.guest c.args.worker.now c.args.player.now c.requires.guest c.requires.guest.played c.take_event.new.self c.played.ensures (count_of_code c.in-Some-2.code)
    (record {
      handle = c.in-Some.handle;
      waits = c.requires.waits;
      has = (let i = c.in-Some.is in cc);
      adds = subst (λ k. Adds c.args.player.now c.take_event.new.self (steps.Event c.args.guest c.in-Some.handle) (replies.Event (Some k))) (hand_over-requires-clause-over c) adds;
    })

pub returns-in-Some-2 : goal.returns-in-Some-2
returns-in-Some-2 c = λ chunk.
    let adds = subst (λ o. Adds c.args.player.now c.take_event.new.self (steps.Event c.args.guest c.in-Some.handle) (replies.Event o)) c.in-Some-2.is c.in_ok-code.ensures in
    WriteSettles c.in-Some-2.code refl
    (record { handle = c.in-Some.handle; waits = c.requires.waits; has = (let i = c.in-Some.is in cc); adds = adds })
    c.hand_over.ensures
