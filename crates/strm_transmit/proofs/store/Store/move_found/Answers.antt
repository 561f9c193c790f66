use Rattle.std.proofs.Common.{◌++◌, sym, ◌∙◌}
use Rattle.std.specs.Prelude.{◌||◌}
use Rattle.strm_codes.specs.declared.refusals.Refusal.TheVariants.{UnknownGuest}
use Rattle.strm_machine.specs.Tests.{named, stream_named, side_named, is_unknown_guest}
use Rattle.strm_machine.specs.Refusals.{handle_reasons, leave_reasons, given_reasons, refusal}
use Rattle.strm_host_turns.proofs.WriterTurnLemmas.{handed_on}
use Rattle.strm_transmit.proofs.OperationLemmas.{first_refused, then_refused, both_none, behind, both_known}
use Rattle.strm_transmit.proofs.store.Store.move_found.Goals as goal

pub returns-in-Some : goal.returns-in-Some
unfolding refusal
returns-in-Some c =
    let state = c.args.self.now in
    let end = c.args.end.now in
    let name = named state end in
    let from = c.is_unknown_guest.ensures.there c.if-is_unknown_guest.false in
    let to = c.is_unknown_guest-else-is_unknown_guest.ensures.there c.if-is_unknown_guest-2.false in
    behind (is_unknown_guest state end.guest || is_unknown_guest state c.args.to) UnknownGuest
    ((handle_reasons name ++ leave_reasons state end) ++ given_reasons state end c.args.to) _ (stream_named name, side_named name) (both_known state end.guest c.args.to from to)
    (then_refused (handle_reasons name ++ leave_reasons state end) (given_reasons state end c.args.to)
    c.in_ok-named.named (stream_named name, side_named name) c.in-Some.refusal (stream_named name, side_named name) c.in_ok-named.ensures (sym c.in-Some.is ∙ c.move_refusal.ensures))

pub returns-in-None : goal.returns-in-None
unfolding refusal
returns-in-None c =
    let state = c.args.self.now in
    let end = c.args.end.now in
    let name = named state end in
    let from = c.is_unknown_guest.ensures.there c.if-is_unknown_guest.false in
    let to = c.is_unknown_guest-else-is_unknown_guest.ensures.there c.if-is_unknown_guest-2.false in
    behind (is_unknown_guest state end.guest || is_unknown_guest state c.args.to) UnknownGuest
    ((handle_reasons name ++ leave_reasons state end) ++ given_reasons state end c.args.to) _ (stream_named name, side_named name) (both_known state end.guest c.args.to from to)
    (both_none (handle_reasons name ++ leave_reasons state end) (given_reasons state end c.args.to)
    c.in_ok-named.named (stream_named name, side_named name) c.in_ok-named.ensures (sym c.in-None.is ∙ c.move_refusal.ensures))

pub returns-in_err-named : goal.returns-in_err-named
unfolding refusal
returns-in_err-named c =
    rw (handed_on c.from_residual.result c.from_residual.ensures.1)
    (let state = c.args.self.now in
    let end = c.args.end.now in
    let name = named state end in
    let from = c.is_unknown_guest.ensures.there c.if-is_unknown_guest.false in
    let to = c.is_unknown_guest-else-is_unknown_guest.ensures.there c.if-is_unknown_guest-2.false in
    behind (is_unknown_guest state end.guest || is_unknown_guest state c.args.to) UnknownGuest
    ((handle_reasons name ++ leave_reasons state end) ++ given_reasons state end c.args.to) _ (stream_named name, side_named name) (both_known state end.guest c.args.to from to)
    (first_refused (handle_reasons name ++ leave_reasons state end) (given_reasons state end c.args.to) c.in_err-named.field-0.0
    (stream_named name, side_named name) (stream_named name, side_named name) c.in_err-named.ensures))
