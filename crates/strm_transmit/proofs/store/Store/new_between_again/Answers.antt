use Rattle.strm_machine.specs.declared.replies.Reply.TheVariants as replies
use Rattle.strm_host_turns.proofs.WriterTurnLemmas.{handed_on}
use Rattle.strm_transmit.specs.Meets.{as_reply}
use Rattle.strm_transmit.proofs.StepLemmas.{is_admitted}
use Rattle.strm_transmit.proofs.AgainLemmas.{again_admitted, again_not_admitted, again_fits}
use Rattle.strm_transmit.proofs.store.Store.new_between_again.Goals as goal

pub make_again-made-requires-clause-may : goal.make_again-made-requires-clause-may
make_again-made-requires-clause-may c = (is_admitted c.args.self.now _ _ _ _ (c.pair_fits.ensures c.args.ty) c.in_ok-admit.ensures.exact).none

pub returns-clause-meets : goal.returns-clause-meets
returns-clause-meets c =
    again_admitted c.args.self.now c.make_again-made.new.self _ _ _ (as_reply replies.Pair c.make_again-made.result)
    (is_admitted c.args.self.now _ _ _ _ (c.pair_fits.ensures c.args.ty) c.in_ok-admit.ensures.exact) c.make_again-made.ensures.meets

pub returns-in_err-admit-clause-meets : goal.returns-in_err-admit-clause-meets
returns-in_err-admit-clause-meets c =
    rw (handed_on c.from_residual.result c.from_residual.ensures.1)
    (again_not_admitted _ _ _ _ _ (c.pair_fits.ensures c.args.ty) c.in_err-admit.ensures.exact)

pub returns-clause-fits : goal.returns-clause-fits
returns-clause-fits c =
    again_fits c.args.self.now c.make_again-made.new.self (as_reply replies.Pair c.make_again-made.result) c.args.writer c.args.reader c.args.ty c.make_again-made.ensures.meets c.requires.unserved
