-- Bad items.
use Rattle.strm_place_laws.proofs.LifeSteps.{bad_asked, asked_bad, bad_keeps}
use Rattle.strm_place_laws.proofs.lives.bad_items_keep_their_laws.Goals as goal

pub returns-clause-cause : goal.returns-clause-cause
returns-clause-cause c n state step s t = (bad_asked n state step s t, asked_bad n state step s t)

pub returns-clause-nothing_moves : goal.returns-clause-nothing_moves
returns-clause-nothing_moves c n state step s e = bad_keeps n state step s e
