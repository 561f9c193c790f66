use Rattle.std.proofs.Common.{sym, subst}
use Rattle.strm_machine.specs.Reactions.{Reaction}
use Rattle.strm_machine.specs.declared.replies.Reply.TheVariants as replies
use Rattle.strm_host_turns.proofs.WriterTurnLemmas.{handed_on}
use Rattle.strm_places.specs.Lives.{guest_with, begin_reasons}
use Rattle.strm_transmit.specs.Meets.{Meets, as_reply}
use Rattle.strm_transmit.proofs.LivesLemmas.{is_begun, meets_not_begun, begun_fits}
use Rattle.strm_transmit.proofs.store.Store.begin_guest.Goals as goal

pub fill_guest-requires-clause-may : goal.fill_guest-requires-clause-may
fill_guest-requires-clause-may c =
    let found = c.begin_fits.ensures in
    (is_begun c.args.self.now c.args.guest (guest_with c.args.size) (begin_reasons c.args.self.now c.args.size) _ _ _ found c.in_ok-admit.ensures.exact).none

pub returns-clause-meets : goal.returns-clause-meets
returns-clause-meets c =
    let found = c.begin_fits.ensures in
    subst (λ (r : Reaction). Meets c.args.self.now c.fill_guest.new.self (as_reply (λ _. replies.Done) c.fill_guest.result) r)
    (sym (is_begun c.args.self.now c.args.guest (guest_with c.args.size) (begin_reasons c.args.self.now c.args.size) _ _ _ found c.in_ok-admit.ensures.exact).begun)
    c.fill_guest.ensures

pub returns-in_err-admit-clause-meets : goal.returns-in_err-admit-clause-meets
returns-in_err-admit-clause-meets c =
    let found = c.begin_fits.ensures in
    rw (handed_on c.from_residual.result c.from_residual.ensures.1)
    (meets_not_begun c.args.self.now c.args.guest (guest_with c.args.size) (begin_reasons c.args.self.now c.args.size) _ _ _ found c.in_err-admit.ensures.exact)

pub returns-clause-fits : goal.returns-clause-fits
returns-clause-fits c =
    begun_fits _ _ c.args.guest (guest_with c.args.size) (begin_reasons c.args.self.now c.args.size) (as_reply (λ _. replies.Done) c.fill_guest.result) c.in_ok-admit.ensures.served (returns-clause-meets c)
