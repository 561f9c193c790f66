use Rattle.std.proofs.Common.{◌∙◌}
use Rattle.strm_host.proofs.DirectLemmas.{written}
use Rattle.strm_host.proofs.direct.DirectDestination.write.Goals as goal

pub returns-clause-window : goal.returns-clause-window
returns-clause-window g c =
    c.mark_written.ensures.window ∙ written c.args.self.now.produced.now.window c.remaining.result.now c.copy_front-count.new.room c.args.bytes.now c.copy_front-count.result c.remaining.ensures.value c.copy_front-count.ensures.count c.copy_front-count.ensures.copied
