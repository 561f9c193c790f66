use Rattle.std.proofs.Common.{◌∙◌, sym}
use Rattle.strm_channels.proofs.EndingLemmas.{cancelled-waits, cancelled-at_once}
use Rattle.strm_channels.proofs.endings.cancel_operation.Goals as goal

pub returns-then-waits_for_host-clause-stream : goal.returns-then-waits_for_host-clause-stream
returns-then-waits_for_host-clause-stream c =
    cancelled-waits c.args.side c.args.stream.now c.ask.new.self
    (sym c.waits_for_host.ensures ∙ c.if-waits_for_host.true) c.ask.ensures

pub returns-clause-stream : goal.returns-clause-stream
returns-clause-stream c =
    cancelled-at_once c.args.side c.args.stream.now c.cancel_at_once.new.stream c.cancel_at_once.result
    (sym c.waits_for_host.ensures ∙ c.if-waits_for_host.false) c.cancel_at_once.ensures.code c.cancel_at_once.ensures.stream
