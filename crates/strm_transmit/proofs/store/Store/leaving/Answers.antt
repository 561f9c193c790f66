use Rattle.std.proofs.Common.{sym, ◌∙◌}
use Rattle.strm_machine.specs.State.{stream_at}
use Rattle.strm_machine.specs.Tests.{named, stream_named, side_named}
use Rattle.strm_machine.specs.Refusals.{handle_reasons, leave_reasons_of}
use Rattle.strm_transmit.proofs.OperationLemmas.{end_refused, end_known}
use Rattle.strm_transmit.proofs.store.Store.leaving.Goals as goal

pub returns-in-Some : goal.returns-in-Some
returns-in-Some c =
    let name = named c.args.self.now c.args.end.now in
    end_refused (handle_reasons name) (λ s side. leave_reasons_of (stream_at c.args.self.now s) side)
    c.in_ok-named.named (stream_named name, side_named name) c.in-Some.refusal (stream_named name, side_named name) c.in_ok-named.ensures.exact (sym c.in-Some.is ∙ (rw c.stream.ensures at c.leave_refusal.ensures))

pub returns-in-None : goal.returns-in-None
returns-in-None c =
    let name = named c.args.self.now c.args.end.now in
    end_known (handle_reasons name) (λ s side. leave_reasons_of (stream_at c.args.self.now s) side)
    c.in_ok-named.named (stream_named name, side_named name) c.in_ok-named.ensures.exact (sym c.in-None.is ∙ (rw c.stream.ensures at c.leave_refusal.ensures))
