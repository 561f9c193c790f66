use Rattle.std.proofs.Common.{◌≡◌, true, false, None, Ok, refl}
use Rattle.strm_machine.specs.declared.acts.Act.TheVariants.{Drive}
use Rattle.strm_machine.specs.declared.replies.Reply.TheVariants as replies
use Rattle.strm_host_machine.proofs.OutcomeLemmas.{refusal_in-drive}
use Rattle.strm_host_turns.proofs.WriterTurnLemmas.{handed_on}
use Rattle.strm_transmit.proofs.StepLemmas.{is_admitted}
use Rattle.strm_transmit.proofs.HostStepLemmas.{hosted_not_admitted}
use Rattle.strm_transmit.proofs.DriveStoreLemmas.{hosted_drive}
use Rattle.strm_transmit.proofs.store.Store.drive_once.Goals as goal

pub returns : goal.returns
returns g c = record {
  meets = hosted_drive c.args.self.now _ _ _ (λ _. replies.Done) c.drive_all.result (is_admitted c.args.self.now None tt (Ok tt) tt refl c.in_ok-admit.ensures.exact).untrapped
      c.drive_all.ensures.does (record { served = c.served.ensures; before = c.requires.fits; after = c.drive_all.ensures.fits }) (record { stop = c.drive_all.ensures.stop; trapped = c.drive_all.ensures.trapped }) c.drive_all.ensures.out_of_memory;
}

pub returns-in_err-admit : goal.returns-in_err-admit
returns-in_err-admit g c =
    record {
      meets =
          rw (handed_on c.from_residual.result c.from_residual.ensures.1)
          (hosted_not_admitted c.args.self.now _ Drive None tt (Ok tt) _ (λ logs. refusal_in-drive _) refl c.in_err-admit.ensures.exact c.requires.fits
          (λ u. let no : true ≡ false = u in cc));
    }
