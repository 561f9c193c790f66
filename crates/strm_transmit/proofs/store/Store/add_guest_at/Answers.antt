use Rattle.std.proofs.Common.{sym, ap, subst, ◌∙◌}
use Rattle.std.specs.Vec.{vec_ptr}
use Rattle.strm_machine.specs.Growth.{guest_at_reasons}
use Rattle.strm_machine.specs.Reactions.{Reaction}
use Rattle.strm_machine.specs.Refusals.{first_of}
use Rattle.strm_machine.specs.declared.replies.Reply.TheVariants as replies
use Rattle.strm_host_turns.proofs.WriterTurnLemmas.{handed_on}
use Rattle.strm_transmit.specs.Meets.{Meets, as_reply, or_found}
use Rattle.strm_transmit.proofs.EngineLemmas.{is_added, meets_not_added, added_fits}
use Rattle.strm_transmit.proofs.store.Store.add_guest_at.Goals as goal

pub push_guest_at-requires : goal.push_guest_at-requires
push_guest_at-requires c =
    let size = c.len.ensures ∙ c.args.bytes.ok.0 in
    let found = c.guest_at_fits.ensures ∙ ap (λ n. or_found (first_of (guest_at_reasons c.args.self.now n)) tt) size in
    (is_added c.args.self.now c.args.bytes.items (vec_ptr c.args.bytes) _ _ _ found c.in_ok-admit.ensures.exact).none

pub returns-clause-meets : goal.returns-clause-meets
returns-clause-meets c =
    let size = c.len.ensures ∙ c.args.bytes.ok.0 in
    let found = c.guest_at_fits.ensures ∙ ap (λ n. or_found (first_of (guest_at_reasons c.args.self.now n)) tt) size in
    subst (λ (r : Reaction). Meets c.args.self.now c.push_guest_at.new.self (as_reply replies.Number c.push_guest_at.result) r)
    (sym (is_added c.args.self.now c.args.bytes.items (vec_ptr c.args.bytes) _ _ _ found c.in_ok-admit.ensures.exact).added)
    c.push_guest_at.ensures

pub returns-in_err-admit-clause-meets : goal.returns-in_err-admit-clause-meets
returns-in_err-admit-clause-meets c =
    let size = c.len.ensures ∙ c.args.bytes.ok.0 in
    let found = c.guest_at_fits.ensures ∙ ap (λ n. or_found (first_of (guest_at_reasons c.args.self.now n)) tt) size in
    rw (handed_on c.from_residual.result c.from_residual.ensures.1)
    (meets_not_added c.args.self.now c.args.bytes.items (vec_ptr c.args.bytes) _ _ _ found c.in_err-admit.ensures.exact)

pub returns-clause-fits : goal.returns-clause-fits
returns-clause-fits c =
    added_fits _ _ c.args.bytes.items (vec_ptr c.args.bytes) (as_reply replies.Number c.push_guest_at.result) c.in_ok-admit.ensures.served (returns-clause-meets c)
