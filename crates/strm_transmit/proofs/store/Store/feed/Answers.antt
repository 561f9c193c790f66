use Rattle.std.proofs.Common.{◌≡◌, true, false, refl}
use Rattle.strm_machine.specs.declared.acts.HostAct.TheVariants.{Feed}
use Rattle.strm_machine.specs.declared.acts.Act.TheVariants.{OnHost}
use Rattle.strm_host_turns.proofs.WriterTurnLemmas.{handed_on}
use Rattle.strm_transmit.proofs.HostStepLemmas.{hosted_not_admitted}
use Rattle.strm_transmit.proofs.HostingLemmas.{no_logs, host_refusal-same, host_admitted, feed_fits, hosted_feed, hosted_out_of_memory}
use Rattle.strm_transmit.proofs.store.Store.feed.Goals as goal

pub feed-requires : goal.feed-requires
feed-requires g c =
    feed_fits c.args.self.now _ c.args.host c.args.bytes.now (host_admitted _ _ _ (Feed c.args.bytes.now) _ c.feed_fits.ensures c.in_ok-admit.ensures.exact)

pub returns-in-Ok : goal.returns-in-Ok
returns-in-Ok g c =
    record {
      meets = hosted_feed c.args.self.now _ _ c.args.host c.args.bytes.now (host_admitted _ _ _ (Feed c.args.bytes.now) _ c.feed_fits.ensures c.in_ok-admit.ensures.exact)
          c.requires.fits (rw c.as_slice.ensures.exact at c.in-Ok.ensures.ok);
    }

pub returns-in-Err : goal.returns-in-Err
returns-in-Err g c =
    record {
      meets = hosted_out_of_memory c.args.self.now c.args.self.now _ _ c.args.host (Feed c.args.bytes.now) (host_admitted _ _ _ (Feed c.args.bytes.now) _ c.feed_fits.ensures c.in_ok-admit.ensures.exact)
          c.requires.fits refl c.in-Err.ensures.err;
    }

pub returns-in_err-admit : goal.returns-in_err-admit
returns-in_err-admit g c =
    record {
      meets =
          rw (handed_on c.from_residual.result c.from_residual.ensures.1)
          (hosted_not_admitted c.args.self.now _ (OnHost c.args.host (Feed c.args.bytes.now)) _ _ _ _ (λ logs. host_refusal-same c.args.self.now _ c.args.host (Feed c.args.bytes.now) logs no_logs) (c.feed_fits.ensures no_logs) c.in_err-admit.ensures.exact c.requires.fits
          (λ u. let no : true ≡ false = u in cc));
    }
