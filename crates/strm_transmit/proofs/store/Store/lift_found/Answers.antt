use Rattle.std.proofs.Common.{◌++◌, sym, ◌∙◌}
use Rattle.strm_codes.specs.declared.refusals.Refusal.TheVariants.{UnknownGuest}
use Rattle.strm_machine.specs.Tests.{named, stream_named, is_unknown_guest}
use Rattle.strm_machine.specs.Refusals.{handle_reasons, own_reasons, last_reasons, refusal}
use Rattle.strm_machine.specs.declared.acts.EndAct.TheVariants.{Lift}
use Rattle.strm_host_turns.proofs.WriterTurnLemmas.{handed_on}
use Rattle.strm_transmit.proofs.OperationLemmas.{first_refused, then_refused, behind, known}
use Rattle.strm_transmit.proofs.store.Store.lift_found.Goals as goal

pub returns-in-Some : goal.returns-in-Some
unfolding refusal
returns-in-Some c =
    let state = c.args.self.now in
    let end = c.args.end.now in
    let name = named state end in
    let there = c.is_unknown_guest.ensures.there c.if-is_unknown_guest.false in
    behind (is_unknown_guest state end.guest) UnknownGuest
    ((handle_reasons name ++ own_reasons state c.args.side end Lift) ++ last_reasons state end Lift) _ (stream_named name) (known state end.guest there)
    (then_refused (handle_reasons name ++ own_reasons state c.args.side end Lift) (last_reasons state end Lift)
    c.in_ok-stream.stream (stream_named name) c.in-Some.refusal (stream_named name) c.in_ok-stream.ensures.exact (sym c.in-Some.is ∙ c.lift_refusal.ensures))

pub returns-in_err-stream : goal.returns-in_err-stream
unfolding refusal
returns-in_err-stream c =
    rw (handed_on c.from_residual.result c.from_residual.ensures.1)
    (let state = c.args.self.now in
    let end = c.args.end.now in
    let name = named state end in
    let there = c.is_unknown_guest.ensures.there c.if-is_unknown_guest.false in
    behind (is_unknown_guest state end.guest) UnknownGuest
    ((handle_reasons name ++ own_reasons state c.args.side end Lift) ++ last_reasons state end Lift) _ (stream_named name) (known state end.guest there)
    (first_refused (handle_reasons name ++ own_reasons state c.args.side end Lift) (last_reasons state end Lift) c.in_err-stream.field-0.0
    (stream_named name) (stream_named name) c.in_err-stream.ensures.exact))
