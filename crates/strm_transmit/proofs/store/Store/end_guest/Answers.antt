use Rattle.std.proofs.Common.{◌<◌, sym, ap, subst, ◌∙◌, length, arith}
use Rattle.strm_machine.specs.State.{State}
use Rattle.strm_places.specs.Lives.{emptied, HasNoEnd}
use Rattle.strm_places.proofs.FoldLemmas.{ends-left, ends-none, handles-gone}
use Rattle.strm_transmit.specs.Guests.{AreOfOwners}
use Rattle.strm_transmit.proofs.GivenUpLemmas.{handles-streams}
use Rattle.strm_transmit.proofs.LivesLemmas.{gave_up, ended_none, ended_nothing, ended_others, ended_operations, ended_fits, ended_stays}
use Rattle.strm_transmit.proofs.store.Store.end_guest.Goals as goal

pub give_up_rest-requires-clause-there : goal.give_up_rest-requires-clause-there
give_up_rest-requires-clause-there c =
    let there = c.is_unknown_guest.ensures.there c.if-is_unknown_guest.false in
    subst (λ (s : State). c.args.guest < length s.guests) (sym c.give_up_ends.ensures)
    (omega (arith, there, (ends-left c.args.self.now c.args.guest c.numbers_given-last.result there).left.guests))

pub give_up_rest-requires-clause-none : goal.give_up_rest-requires-clause-none
give_up_rest-requires-clause-none c =
    let there = c.is_unknown_guest.ensures.there c.if-is_unknown_guest.false in
    subst (λ (s : State). HasNoEnd s c.args.guest) (sym c.give_up_ends.ensures)
    (ends-none c.args.self.now c.args.guest c.numbers_given-last.result there c.numbers_given-last.ensures)

pub empty_guest-requires-clause-there : goal.empty_guest-requires-clause-there
empty_guest-requires-clause-there c =
    let there = c.is_unknown_guest.ensures.there c.if-is_unknown_guest.false in
    let given = gave_up c.args.self.now c.give_up_ends.new.self c.give_up_rest.new.self c.args.guest c.numbers_given-last.result c.numbers_given-last.ensures c.give_up_ends.ensures c.give_up_rest.ensures in
    subst (λ (s : State). c.args.guest < length s.guests) (sym given) (omega (arith, there, (handles-gone c.args.self.now c.args.guest there).guests))

pub empty_guest-requires-clause-none : goal.empty_guest-requires-clause-none
empty_guest-requires-clause-none c =
    let there = c.is_unknown_guest.ensures.there c.if-is_unknown_guest.false in
    let given = gave_up c.args.self.now c.give_up_ends.new.self c.give_up_rest.new.self c.args.guest c.numbers_given-last.result c.numbers_given-last.ensures c.give_up_ends.ensures c.give_up_rest.ensures in
    subst (λ (s : State). HasNoEnd s c.args.guest) (sym given) (handles-gone c.args.self.now c.args.guest there).none

pub empty_guest-requires-clause-owned : goal.empty_guest-requires-clause-owned
empty_guest-requires-clause-owned c =
    let there = c.is_unknown_guest.ensures.there c.if-is_unknown_guest.false in
    let given = gave_up c.args.self.now c.give_up_ends.new.self c.give_up_rest.new.self c.args.guest c.numbers_given-last.result c.numbers_given-last.ensures c.give_up_ends.ensures c.give_up_rest.ensures in
    subst (λ (s : State). AreOfOwners s.streams) (sym given) (handles-streams c.args.self.now c.args.guest c.requires.unhosted c.requires.owned).owned

pub returns-clause-ok : goal.returns-clause-ok
returns-clause-ok c =
    let there = c.is_unknown_guest.ensures.there c.if-is_unknown_guest.false in
    let given = gave_up c.args.self.now c.give_up_ends.new.self c.give_up_rest.new.self c.args.guest c.numbers_given-last.result c.numbers_given-last.ensures c.give_up_ends.ensures c.give_up_rest.ensures in
    c.empty_guest.ensures ∙ ap (λ (s : State). emptied s c.args.guest) given

pub returns-clause-ends : goal.returns-clause-ends
returns-clause-ends c =
    let there = c.is_unknown_guest.ensures.there c.if-is_unknown_guest.false in
    let given = gave_up c.args.self.now c.give_up_ends.new.self c.give_up_rest.new.self c.args.guest c.numbers_given-last.result c.numbers_given-last.ensures c.give_up_ends.ensures c.give_up_rest.ensures in
    let is = c.empty_guest.ensures ∙ ap (λ (s : State). emptied s c.args.guest) given in
    ended_none c.args.self.now c.empty_guest.new.self c.args.guest there is

pub returns-clause-operations : goal.returns-clause-operations
returns-clause-operations c =
    let there = c.is_unknown_guest.ensures.there c.if-is_unknown_guest.false in
    let given = gave_up c.args.self.now c.give_up_ends.new.self c.give_up_rest.new.self c.args.guest c.numbers_given-last.result c.numbers_given-last.ensures c.give_up_ends.ensures c.give_up_rest.ensures in
    let is = c.empty_guest.ensures ∙ ap (λ (s : State). emptied s c.args.guest) given in
    ended_operations c.args.self.now c.empty_guest.new.self c.args.guest there is c.requires.unhosted c.requires.owned c.held.ensures

pub returns-clause-nothing : goal.returns-clause-nothing
returns-clause-nothing c =
    let there = c.is_unknown_guest.ensures.there c.if-is_unknown_guest.false in
    let given = gave_up c.args.self.now c.give_up_ends.new.self c.give_up_rest.new.self c.args.guest c.numbers_given-last.result c.numbers_given-last.ensures c.give_up_ends.ensures c.give_up_rest.ensures in
    let is = c.empty_guest.ensures ∙ ap (λ (s : State). emptied s c.args.guest) given in
    ended_nothing c.args.self.now c.empty_guest.new.self c.args.guest there is

pub returns-clause-others : goal.returns-clause-others
returns-clause-others c =
    let there = c.is_unknown_guest.ensures.there c.if-is_unknown_guest.false in
    let given = gave_up c.args.self.now c.give_up_ends.new.self c.give_up_rest.new.self c.args.guest c.numbers_given-last.result c.numbers_given-last.ensures c.give_up_ends.ensures c.give_up_rest.ensures in
    let is = c.empty_guest.ensures ∙ ap (λ (s : State). emptied s c.args.guest) given in
    ended_others c.args.self.now c.empty_guest.new.self c.args.guest there is

pub returns-clause-stays : goal.returns-clause-stays
returns-clause-stays c =
    let there = c.is_unknown_guest.ensures.there c.if-is_unknown_guest.false in
    let given = gave_up c.args.self.now c.give_up_ends.new.self c.give_up_rest.new.self c.args.guest c.numbers_given-last.result c.numbers_given-last.ensures c.give_up_ends.ensures c.give_up_rest.ensures in
    let is = c.empty_guest.ensures ∙ ap (λ (s : State). emptied s c.args.guest) given in
    ended_stays c.args.self.now c.empty_guest.new.self c.args.guest there is c.requires.unhosted c.requires.owned c.sound.ensures c.held.ensures

pub returns-clause-fits : goal.returns-clause-fits
returns-clause-fits c =
    let there = c.is_unknown_guest.ensures.there c.if-is_unknown_guest.false in
    let given = gave_up c.args.self.now c.give_up_ends.new.self c.give_up_rest.new.self c.args.guest c.numbers_given-last.result c.numbers_given-last.ensures c.give_up_ends.ensures c.give_up_rest.ensures in
    let is = c.empty_guest.ensures ∙ ap (λ (s : State). emptied s c.args.guest) given in
    ended_fits c.args.self.now c.empty_guest.new.self c.args.guest there is c.requires.unhosted c.requires.owned
