use Rattle.std.proofs.Common.{◌+◌, ◌<◌, sym, ap, subst, ◌∙◌, length, arith}
use Rattle.strm_handles.specs.Handles.{entry_at}
use Rattle.strm_machine.specs.State.{State, guest_in}
use Rattle.strm_places.specs.Lives.{rest_given_up, HasNoEnd}
use Rattle.strm_places.proofs.FoldLemmas.{all_given_up-none, all_given_up-more, rest-left, rest-none}
use Rattle.strm_transmit.proofs.store.Store.give_up_rest.Goals as goal

pub loop-index-init : goal.loop-index-init
loop-index-init c = sym (all_given_up-none c.args.self.now c.args.guest)

pub give_up_other-requires-clause-there : goal.give_up_other-requires-clause-there
give_up_other-requires-clause-there c =
    subst (λ (s : State). c.args.guest < length s.guests) (sym c.loop-index.invariant)
    (omega (arith, c.requires.there, (rest-left c.args.self.now c.args.guest c.loop-index.index c.requires.there).left.guests))

pub give_up_other-requires-clause-none : goal.give_up_other-requires-clause-none
give_up_other-requires-clause-none c =
    subst (λ (s : State). HasNoEnd s c.args.guest) (sym c.loop-index.invariant)
    (rest-none c.args.self.now c.args.guest c.loop-index.index c.requires.there c.requires.none)

pub loop-index-preserved : goal.loop-index-preserved
loop-index-preserved c =
    let n = c.loop-index.index + 1 in
    c.give_up_other.ensures
    ∙ ap (λ (s : State). rest_given_up s c.args.guest n (entry_at (guest_in s.guests c.args.guest).handles n)) c.loop-index.invariant
    ∙ sym (all_given_up-more c.args.self.now c.args.guest c.loop-index.index)
