use Rattle.std.proofs.Common.{subst}
use Rattle.strm_buffers.specs.Windows.{HasRoom}
use Rattle.strm_buffers.proofs.PollingLemmas.{Fills-then}
use Rattle.strm_host.proofs.producing.fetch.Goals as goal

pub returns-clause-fills : goal.returns-clause-fills
returns-clause-fills g c =
    Fills-then c.args.window.now c.produce.new.window c.mark_rest.new.window c.sound.ensures (subst (λ n. HasRoom c.produce.new.window.place n 0) c.marked.ensures.exact c.marked.ensures.room) c.produce.ensures.fills c.mark_rest.ensures.fills

pub returns-in_err-held-clause-fills : goal.returns-in_err-held-clause-fills
returns-in_err-held-clause-fills g c =
    Fills-then c.args.window.now c.produce.new.window c.mark_rest.new.window c.sound.ensures (subst (λ n. HasRoom c.produce.new.window.place n 0) c.marked.ensures.exact c.marked.ensures.room) c.produce.ensures.fills c.mark_rest.ensures.fills
