-- A store among guests is not trapped, and only one that is says so.
use Rattle.std.proofs.Common.{◌≡◌, true, false, sym, ap, ◌∙◌}
use Rattle.strm_machine.specs.Reactions.{Reaction}
use Rattle.strm_machine.proofs.AskedLemmas.{told-trapped}
use Rattle.strm_guest_store.proofs.laws.nothing_traps.Goals as goal

pub returns-clause-untrapped : goal.returns-clause-untrapped
returns-clause-untrapped c state among = among.untrapped

pub returns-clause-answers : goal.returns-clause-answers
returns-clause-answers c old new step among m =
    let wrong : true ≡ false = sym (told-trapped old step (ap (λ (r : Reaction). r.reply) m.0)) ∙ among.untrapped in cc
