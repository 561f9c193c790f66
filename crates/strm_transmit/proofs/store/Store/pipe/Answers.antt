use Rattle.std.proofs.Common.{◌≡◌, true, false}
use Rattle.strm_machine.specs.declared.acts.Act.TheVariants.{OnHost}
use Rattle.strm_machine.specs.declared.acts.HostAct.TheVariants.{Pipe}
use Rattle.strm_host_turns.proofs.WriterTurnLemmas.{handed_on}
use Rattle.strm_transmit.proofs.HostStepLemmas.{hosted_not_admitted}
use Rattle.strm_transmit.proofs.HostingLemmas.{no_logs, host_refusal-same, host_admitted}
use Rattle.strm_transmit.proofs.PipeStoreLemmas.{pipe_fits, hosted_pipe}
use Rattle.strm_transmit.proofs.store.Store.pipe.Goals as goal

pub attach-requires-clause-may : goal.attach-requires-clause-may
attach-requires-clause-may g c =
    pipe_fits c.args.self.now _ c.args.reader c.args.host (host_admitted _ _ _ (Pipe c.args.reader) _ c.pipe_fits.ensures c.in_ok-admit.ensures.exact)

pub returns-clause-meets : goal.returns-clause-meets
returns-clause-meets g c =
    hosted_pipe c.args.self.now _ _ _ c.args.reader c.args.host (host_admitted _ _ _ (Pipe c.args.reader) _ c.pipe_fits.ensures c.in_ok-admit.ensures.exact)
    c.attach.ensures.does c.attach.ensures.fits

pub returns-in_err-admit-clause-meets : goal.returns-in_err-admit-clause-meets
returns-in_err-admit-clause-meets g c =
    rw (handed_on c.from_residual.result c.from_residual.ensures.1)
    (hosted_not_admitted c.args.self.now _ (OnHost c.args.host (Pipe c.args.reader)) _ _ _ _ (λ logs. host_refusal-same c.args.self.now _ c.args.host (Pipe c.args.reader) logs no_logs) (c.pipe_fits.ensures no_logs) c.in_err-admit.ensures.exact c.requires.fits
    (λ u. let no : true ≡ false = u in cc))
