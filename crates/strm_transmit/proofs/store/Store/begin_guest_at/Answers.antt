use Rattle.std.proofs.Common.{Ok, sym, ap, subst, refl, ◌∙◌, length}
use Rattle.std.specs.Vec.{vec_ptr}
use Rattle.strm_machine.specs.Growth.{guest_at}
use Rattle.strm_machine.specs.Reactions.{Reaction}
use Rattle.strm_machine.specs.Refusals.{first_of}
use Rattle.strm_machine.specs.declared.replies.Reply.TheVariants as replies
use Rattle.strm_host_turns.proofs.WriterTurnLemmas.{handed_on}
use Rattle.strm_places.specs.Lives.{begin_at_reasons}
use Rattle.strm_transmit.specs.Meets.{Meets, or_found}
use Rattle.strm_transmit.proofs.LivesLemmas.{is_begun, meets_not_begun, begun_fits}
use Rattle.strm_transmit.proofs.store.Store.begin_guest_at.Goals as goal

pub fill_guest_at-requires-clause-may : goal.fill_guest_at-requires-clause-may
fill_guest_at-requires-clause-may c =
    let found = c.begin_at_fits.ensures ∙ ap (λ n. or_found (first_of (begin_at_reasons n)) tt) (c.len.ensures ∙ c.args.bytes.ok.0) in
    (is_begun c.args.self.now c.args.guest (guest_at c.args.bytes.items (vec_ptr c.args.bytes)) (begin_at_reasons (length c.args.bytes.items)) _ _ _ found c.in_ok-admit.ensures.exact).none

pub returns-clause-meets : goal.returns-clause-meets
returns-clause-meets c =
    let found = c.begin_at_fits.ensures ∙ ap (λ n. or_found (first_of (begin_at_reasons n)) tt) (c.len.ensures ∙ c.args.bytes.ok.0) in
    subst (λ (r : Reaction). Meets c.args.self.now c.fill_guest_at.new.self (Ok replies.Done) r)
    (sym (is_begun c.args.self.now c.args.guest (guest_at c.args.bytes.items (vec_ptr c.args.bytes)) (begin_at_reasons (length c.args.bytes.items)) _ _ _ found c.in_ok-admit.ensures.exact).begun)
    (rw c.fill_guest_at.ensures refl)

pub returns-in_err-admit-clause-meets : goal.returns-in_err-admit-clause-meets
returns-in_err-admit-clause-meets c =
    let found = c.begin_at_fits.ensures ∙ ap (λ n. or_found (first_of (begin_at_reasons n)) tt) (c.len.ensures ∙ c.args.bytes.ok.0) in
    rw (handed_on c.from_residual.result c.from_residual.ensures.1)
    (meets_not_begun c.args.self.now c.args.guest (guest_at c.args.bytes.items (vec_ptr c.args.bytes)) (begin_at_reasons (length c.args.bytes.items)) _ _ _ found c.in_err-admit.ensures.exact)

pub returns-clause-fits : goal.returns-clause-fits
returns-clause-fits c =
    begun_fits _ _ c.args.guest (guest_at c.args.bytes.items (vec_ptr c.args.bytes)) (begin_at_reasons (length c.args.bytes.items)) (Ok replies.Done) c.in_ok-admit.ensures.served (returns-clause-meets c)
