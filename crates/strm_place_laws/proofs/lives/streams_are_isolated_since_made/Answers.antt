-- Isolation since a stream was made.
use Rattle.strm_place_laws.proofs.IsolatedLives.{isolated, answers}
use Rattle.strm_place_laws.proofs.lives.streams_are_isolated_since_made.Goals as goal

pub returns-clause-answers : goal.returns-clause-answers
returns-clause-answers c tag limits choices s run = answers tag limits choices run s

pub returns-clause-others : goal.returns-clause-others
returns-clause-others c tag limits choices s run = (isolated tag limits choices run s).others
