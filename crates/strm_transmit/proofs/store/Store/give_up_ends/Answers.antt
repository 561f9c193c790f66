use Rattle.std.proofs.Common.{◌+◌, ◌<◌, sym, ap, subst, ◌∙◌, length, arith}
use Rattle.strm_machine.specs.State.{State}
use Rattle.strm_machine.specs.Tests.{end_named}
use Rattle.strm_places.specs.Lives.{end_given_up}
use Rattle.strm_places.proofs.FoldLemmas.{ends_given_up-none, ends_given_up-more, ends-left}
use Rattle.strm_transmit.specs.Guests.{AreUnhosted}
use Rattle.strm_transmit.proofs.GivenUpLemmas.{ends-streams}
use Rattle.strm_transmit.proofs.store.Store.give_up_ends.Goals as goal

pub loop-index-init : goal.loop-index-init
loop-index-init c = sym (ends_given_up-none c.args.self.now c.args.guest)

pub give_up_end-requires-clause-there : goal.give_up_end-requires-clause-there
give_up_end-requires-clause-there c =
    subst (λ (s : State). c.args.guest < length s.guests) (sym c.loop-index.invariant)
    (omega (arith, c.requires.there, (ends-left c.args.self.now c.args.guest c.loop-index.index c.requires.there).left.guests))

pub give_up_end-requires-clause-unhosted : goal.give_up_end-requires-clause-unhosted
give_up_end-requires-clause-unhosted c =
    subst (λ (s : State). AreUnhosted s.streams) (sym c.loop-index.invariant)
    (ends-streams c.args.self.now c.args.guest c.loop-index.index c.requires.unhosted c.requires.owned).unhosted

pub loop-index-preserved : goal.loop-index-preserved
loop-index-preserved c =
    let n = c.loop-index.index + 1 in
    c.give_up_end.ensures
    ∙ ap (λ (s : State). end_given_up s c.args.guest n (end_named s c.args.guest n)) c.loop-index.invariant
    ∙ sym (ends_given_up-more c.args.self.now c.args.guest c.loop-index.index)
