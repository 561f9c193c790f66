use Rattle.std.proofs.Common.{sym, ◌∙◌}
use Rattle.strm_machine.specs.State.{stream_at}
use Rattle.strm_machine.specs.Tests.{named, stream_named, side_named}
use Rattle.strm_machine.specs.Refusals.{handle_reasons, own_reasons_of}
use Rattle.strm_transmit.proofs.OperationLemmas.{end_refused, end_found}
use Rattle.strm_transmit.proofs.store.Store.found.Goals as goal

pub returns-in-Some-clause-exact : goal.returns-in-Some-clause-exact
returns-in-Some-clause-exact c =
    let name = named c.args.self.now c.args.end.now in
    end_refused (handle_reasons name) (λ s side. own_reasons_of (stream_at c.args.self.now s) c.args.side c.args.end.now c.args.act side)
    c.in-Ok.named (stream_named name, side_named name) c.in-Some.refusal (stream_named name) c.in-Ok.ensures.exact (sym c.in-Some.is ∙ (rw c.stream.ensures at c.own_refusal.ensures))

pub returns-in-None-clause-exact : goal.returns-in-None-clause-exact
returns-in-None-clause-exact c =
    let name = named c.args.self.now c.args.end.now in
    end_found (handle_reasons name) (λ s side. own_reasons_of (stream_at c.args.self.now s) c.args.side c.args.end.now c.args.act side)
    c.in-Ok.named (stream_named name, side_named name) c.in-Ok.ensures.exact (sym c.in-None.is ∙ (rw c.stream.ensures at c.own_refusal.ensures))
