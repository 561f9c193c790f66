use Rattle.std.proofs.Common.{◌≡◌, true, false}
use Rattle.strm_machine.specs.declared.acts.HostAct.TheVariants.{New}
use Rattle.strm_machine.specs.declared.acts.Act.TheVariants.{OnHost}
use Rattle.strm_host_turns.proofs.WriterTurnLemmas.{any_held, handed_on}
use Rattle.strm_transmit.proofs.HostStepLemmas.{hosted_not_admitted}
use Rattle.strm_transmit.proofs.HostingLemmas.{no_logs, host_refusal-same, host_admitted, host_fits, hosted_made}
use Rattle.strm_transmit.proofs.store.Store.host_new.Goals as goal

pub writer_kind-requires : goal.writer_kind-requires
writer_kind-requires g c =
    (host_fits c.args.self.now _ c.args.writer (host_admitted _ _ _ New _ c.host_fits.ensures c.in_ok-admit.ensures.exact)).there

pub writer_held-holding-requires : goal.writer_held-holding-requires
writer_held-holding-requires g c =
    (host_fits c.args.self.now _ c.args.writer (host_admitted _ _ _ New _ c.host_fits.ensures c.in_ok-admit.ensures.exact)).there

pub writer_payload-requires : goal.writer_payload-requires
writer_payload-requires g c =
    (host_fits c.args.self.now _ c.args.writer (host_admitted _ _ _ New _ c.host_fits.ensures c.in_ok-admit.ensures.exact)).there

pub host-requires-clause-there : goal.host-requires-clause-there
host-requires-clause-there g c =
    (host_fits c.args.self.now _ c.args.writer (host_admitted _ _ _ New _ c.host_fits.ensures c.in_ok-admit.ensures.exact)).few

pub host-requires-clause-unused : goal.host-requires-clause-unused
host-requires-clause-unused g c =
    (host_fits c.args.self.now _ c.args.writer (host_admitted _ _ _ New _ c.host_fits.ensures c.in_ok-admit.ensures.exact)).unused

pub host-requires-clause-few : goal.host-requires-clause-few
host-requires-clause-few g c =
    (host_fits c.args.self.now _ c.args.writer (host_admitted _ _ _ New _ c.host_fits.ensures c.in_ok-admit.ensures.exact)).streams

pub returns : goal.returns
returns g c =
    record {
      meets = hosted_made c.args.self.now c.host.new.self _ c.args.writer
          (record { served = c.served.ensures; may = host_admitted _ _ _ New _ c.host_fits.ensures c.in_ok-admit.ensures.exact; fits = c.requires.fits })
          c.host.result c.host.ensures.number (rw (c.writer_kind.ensures, c.writer_payload.ensures, c.writer_held-holding.ensures, any_held _) at c.host.ensures.ok) c.host.ensures.no_memory c.host.ensures.err;
    }

pub returns-in_err-admit : goal.returns-in_err-admit
returns-in_err-admit g c =
    record {
      meets =
          rw (handed_on c.from_residual.result c.from_residual.ensures.1)
          (hosted_not_admitted c.args.self.now _ (OnHost c.args.writer New) _ _ _ _ (λ logs. host_refusal-same c.args.self.now _ c.args.writer New logs no_logs) (c.host_fits.ensures no_logs) c.in_err-admit.ensures.exact c.requires.fits
          (λ u. let no : true ≡ false = u in cc));
    }
