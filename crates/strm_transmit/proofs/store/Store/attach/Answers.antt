use Rattle.std.proofs.Common.{◌∙◌, true, false}
use Rattle.strm_transmit.proofs.PipeStoreLemmas.{may_attach, handed-is, mid_fits, dry_before, pipes-goes, pipes-ended_by, ended-fits_by, pipe_made, withdrawn_loose, withdrawn_made, piped_unheld}
use Rattle.strm_transmit.proofs.store.Store.attach.Goals as goal

pub is_dry-requires-clause-fits : goal.is_dry-requires-clause-fits
is_dry-requires-clause-fits g c =
    let h = may_attach c.args.self.now _ c.args.stream c.args.host c.served.ensures c.requires.may c.requires.fits in
    mid_fits _ _ _ _ h _ (c.hand_to.ensures ∙ handed-is _ _ _ _ h _ c.withdraw_report.ensures)

pub end_pipe-requires-clause-fits : goal.end_pipe-requires-clause-fits
end_pipe-requires-clause-fits g c =
    let h = may_attach c.args.self.now _ c.args.stream c.args.host c.served.ensures c.requires.may c.requires.fits in
    mid_fits _ _ _ _ h _ (c.hand_to.ensures ∙ handed-is _ _ _ _ h _ c.withdraw_report.ensures)

pub returns-then-is_dry-clause-does : goal.returns-then-is_dry-clause-does
returns-then-is_dry-clause-does g c =
    let h = may_attach c.args.self.now _ c.args.stream c.args.host c.served.ensures c.requires.may c.requires.fits in
    let e = c.hand_to.ensures ∙ handed-is _ _ _ _ h _ c.withdraw_report.ensures in
    pipes-ended_by _ _ _ _ h _ e _ _ c.end_pipe.ensures (dry_before _ _ _ _ h _ e true c.if-is_dry.ensures)

pub returns-then-is_dry-clause-fits : goal.returns-then-is_dry-clause-fits
returns-then-is_dry-clause-fits g c =
    let h = may_attach c.args.self.now _ c.args.stream c.args.host c.served.ensures c.requires.may c.requires.fits in
    let e = c.hand_to.ensures ∙ handed-is _ _ _ _ h _ c.withdraw_report.ensures in
    ended-fits_by _ _ _ _ h _ e _ _ c.end_pipe.ensures

pub returns-else-is_dry-clause-does : goal.returns-else-is_dry-clause-does
returns-else-is_dry-clause-does g c =
    let h = may_attach c.args.self.now _ c.args.stream c.args.host c.served.ensures c.requires.may c.requires.fits in
    let e = c.hand_to.ensures ∙ handed-is _ _ _ _ h _ c.withdraw_report.ensures in
    pipes-goes _ _ _ _ h _ e (dry_before _ _ _ _ h _ e false c.if-is_dry.ensures)

pub returns-else-is_dry-clause-fits : goal.returns-else-is_dry-clause-fits
returns-else-is_dry-clause-fits g c =
    let h = may_attach c.args.self.now _ c.args.stream c.args.host c.served.ensures c.requires.may c.requires.fits in
    mid_fits _ _ _ _ h _ (c.hand_to.ensures ∙ handed-is _ _ _ _ h _ c.withdraw_report.ensures)

pub hand_to-requires-clause-loose : goal.hand_to-requires-clause-loose
hand_to-requires-clause-loose g c =
    let h = may_attach c.args.self.now _ c.args.stream c.args.host c.served.ensures c.requires.may c.requires.fits in
    withdrawn_loose c.args.self.now c.withdraw_report.new.self c.args.stream (pipe_made _ _ _ _ h) c.withdraw_report.ensures c.requires.may.loose

pub end_pipe-requires-clause-unheld : goal.end_pipe-requires-clause-unheld
end_pipe-requires-clause-unheld g c =
    let h = may_attach c.args.self.now _ c.args.stream c.args.host c.served.ensures c.requires.may c.requires.fits in
    piped_unheld _ _ _ _ h c.withdraw_report.new.self c.hand_to.new.self
    (withdrawn_made c.args.self.now c.withdraw_report.new.self c.args.stream (pipe_made _ _ _ _ h) c.withdraw_report.ensures) c.hand_to.ensures c.if-is_dry.ensures
