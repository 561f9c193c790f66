-- What a bad item is, and that nothing moves then.
use Rattle.std.proofs.Common.{ap}
use Rattle.strm_machine.specs.Words.{act_of, Reaction}
use Rattle.strm_machine.proofs.ReactionLemmas.{reaction-trapped}
use Rattle.strm_machine.proofs.AskedLemmas.{bad-traps, bad-keeps, reply-bad, trapped-bad, told-trapped}
use Rattle.strm_laws.proofs.laws.bad_items_move_nothing.Goals as goal

pub returns-clause-cause : goal.returns-clause-cause
returns-clause-cause c state step s t =
    (reply-bad state step s t, λ h. ap (λ (r : Reaction). r.reply) (bad-traps state step s t h))

pub returns-clause-nothing_moves : goal.returns-clause-nothing_moves
returns-clause-nothing_moves c state step s e = bad-keeps state step s e

pub returns-clause-traps : goal.returns-clause-traps
returns-clause-traps c state step t e = trapped-bad state step t e

pub returns-clause-trapped : goal.returns-clause-trapped
returns-clause-trapped c state step =
    (told-trapped state step, λ t. ap (λ (r : Reaction). r.reply) (reaction-trapped state (act_of step) t))

pub returns-clause-stays : goal.returns-clause-stays
returns-clause-stays c state step t = ap (λ (r : Reaction). r.state) (reaction-trapped state (act_of step) t)
