use Rattle.std.proofs.Common.{refl, subst, inr}
use Rattle.strm_codes.specs.declared.codes.ReturnCode.TheVariants as codes
use Rattle.strm_machine.specs.declared.steps.Step.TheVariants as steps
use Rattle.strm_machine.specs.declared.replies.Reply.TheVariants as replies
use Rattle.strm_chain.specs.Playing.{Adds, bytes_type}
use Rattle.strm_chain.specs.Turned.{ReadServes}
use Rattle.strm_chain.proofs.GuestLemmas.{has_read, read_is_done, read_answers, read_over, uncancelled}
use Rattle.strm_chain.proofs.workers.begin_read.Goals as goal

pub unreachable-requires : goal.unreachable-requires
unreachable-requires c = has_read c.args.guest c.args.worker.now c.args.player.now c.requires.guest c.requires.guest.played (inr c.requires.unclosed) c.in_default.is

pub operate-requires-clause-done : goal.operate-requires-clause-done
operate-requires-clause-done c =
    read_is_done c.args.guest c.args.worker.now c.args.player.now c.requires.guest c.requires.guest.played c.in-Some.handle (let i = c.in-Some.is in cc)
    c.args.chunk c.requires.rests c.requires.unclosed c.requires.some

pub take_read-requires-clause-few : goal.take_read-requires-clause-few
take_read-requires-clause-few c =
    let code = codes.Completed c.in-Completed.count in
    let adds = subst (λ k. Adds c.args.player.now c.operate.new.self (steps.Read c.args.guest bytes_type c.in-Some.handle 0 c.args.chunk) (replies.Code k)) c.in-Completed.is c.in_ok-code.ensures in
    (read_over c.args.guest c.args.worker.now c.args.player.now c.requires.guest c.requires.guest.played c.operate.new.self code c.played.ensures c.args.chunk c.requires.some.most
    (record { handle = c.in-Some.handle; rests = c.requires.rests; unclosed = c.requires.unclosed; some = c.requires.some.some; has = (let i = c.in-Some.is in cc); adds = adds })
    (λ e. cc)).few

pub take_read-requires-clause-done : goal.take_read-requires-clause-done
take_read-requires-clause-done c =
    let code = codes.Completed c.in-Completed.count in
    let adds = subst (λ k. Adds c.args.player.now c.operate.new.self (steps.Read c.args.guest bytes_type c.in-Some.handle 0 c.args.chunk) (replies.Code k)) c.in-Completed.is c.in_ok-code.ensures in
    (read_over c.args.guest c.args.worker.now c.args.player.now c.requires.guest c.requires.guest.played c.operate.new.self code c.played.ensures c.args.chunk c.requires.some.most
    (record { handle = c.in-Some.handle; rests = c.requires.rests; unclosed = c.requires.unclosed; some = c.requires.some.some; has = (let i = c.in-Some.is in cc); adds = adds })
    (λ e. cc)).done

pub take_read-requires-in-Dropped-clause-few : goal.take_read-requires-in-Dropped-clause-few
take_read-requires-in-Dropped-clause-few c =
    let code = codes.Dropped c.in-Dropped.count in
    let adds = subst (λ k. Adds c.args.player.now c.operate.new.self (steps.Read c.args.guest bytes_type c.in-Some.handle 0 c.args.chunk) (replies.Code k)) c.in-Dropped.is c.in_ok-code.ensures in
    (read_over c.args.guest c.args.worker.now c.args.player.now c.requires.guest c.requires.guest.played c.operate.new.self code c.played.ensures c.args.chunk c.requires.some.most
    (record { handle = c.in-Some.handle; rests = c.requires.rests; unclosed = c.requires.unclosed; some = c.requires.some.some; has = (let i = c.in-Some.is in cc); adds = adds })
    (λ e. cc)).few

pub take_read-requires-in-Dropped-clause-done : goal.take_read-requires-in-Dropped-clause-done
take_read-requires-in-Dropped-clause-done c =
    let code = codes.Dropped c.in-Dropped.count in
    let adds = subst (λ k. Adds c.args.player.now c.operate.new.self (steps.Read c.args.guest bytes_type c.in-Some.handle 0 c.args.chunk) (replies.Code k)) c.in-Dropped.is c.in_ok-code.ensures in
    (read_over c.args.guest c.args.worker.now c.args.player.now c.requires.guest c.requires.guest.played c.operate.new.self code c.played.ensures c.args.chunk c.requires.some.most
    (record { handle = c.in-Some.handle; rests = c.requires.rests; unclosed = c.requires.unclosed; some = c.requires.some.some; has = (let i = c.in-Some.is in cc); adds = adds })
    (λ e. cc)).done

pub unreachable-requires-in-Cancelled : goal.unreachable-requires-in-Cancelled
unreachable-requires-in-Cancelled c =
    uncancelled c.in_ok-code.code _
    (read_answers c.args.guest c.args.worker.now c.args.player.now c.requires.guest c.requires.guest.played c.in-Some.handle (let i = c.in-Some.is in cc)
    c.args.chunk c.requires.rests c.requires.unclosed c.requires.some c.operate.new.self c.in_ok-code.code c.in_ok-code.ensures) c.in-Cancelled.is

pub returns-in_ok-take_read-in-Completed : goal.returns-in_ok-take_read-in-Completed
returns-in_ok-take_read-in-Completed c =
    let adds = subst (λ k. Adds c.args.player.now c.operate.new.self (steps.Read c.args.guest bytes_type c.in-Some.handle 0 c.args.chunk) (replies.Code k)) c.in-Completed.is c.in_ok-code.ensures in
    ReadServes c.operate.new.self (codes.Completed c.in-Completed.count) refl
    (record { handle = c.in-Some.handle; rests = c.requires.rests; unclosed = c.requires.unclosed; some = c.requires.some.some; has = (let i = c.in-Some.is in cc); adds = adds })
    c.in_ok-take_read-in-Completed.ensures

pub returns-in_ok-take_read-in-Dropped : goal.returns-in_ok-take_read-in-Dropped
returns-in_ok-take_read-in-Dropped c =
    let adds = subst (λ k. Adds c.args.player.now c.operate.new.self (steps.Read c.args.guest bytes_type c.in-Some.handle 0 c.args.chunk) (replies.Code k)) c.in-Dropped.is c.in_ok-code.ensures in
    ReadServes c.operate.new.self (codes.Dropped c.in-Dropped.count) refl
    (record { handle = c.in-Some.handle; rests = c.requires.rests; unclosed = c.requires.unclosed; some = c.requires.some.some; has = (let i = c.in-Some.is in cc); adds = adds })
    c.in_ok-take_read-in-Dropped.ensures
